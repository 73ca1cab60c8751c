use Rattle.std.proofs.Common.{take, sym, ap}
use Rattle.std.proofs.lemmas.List.{take_all}
use Rattle.request_lines.proofs.TokenLemmas.{place_found, place_missing}
use Rattle.request_lines.proofs.tokens.first_token.Goals as goal

pub returns-in-Some-clause-token : goal.returns-in-Some-clause-token
returns-in-Some-clause-token c = ap (λ n. take n c.args.bytes.now) (place_found _ _ _ c.in-Some.ensures.place)

pub returns-in-None-clause-token : goal.returns-in-None-clause-token
returns-in-None-clause-token c = sym (take_all _ c.args.bytes.now (place_missing _ _ c.in-None.ensures.place))
