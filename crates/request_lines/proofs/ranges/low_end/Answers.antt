use Rattle.std.proofs.Common.{take, sym, ap}
use Rattle.std.proofs.lemmas.List.{take_all}
use Rattle.request_lines.proofs.TokenLemmas.{place_found, place_missing}
use Rattle.request_lines.proofs.ranges.low_end.Goals as goal

pub returns-in-Some-clause-low : goal.returns-in-Some-clause-low
returns-in-Some-clause-low c = ap (λ n. take n c.args.token.now) (place_found _ _ _ c.in-Some.ensures.place)

pub returns-in-None-clause-low : goal.returns-in-None-clause-low
returns-in-None-clause-low c = sym (take_all _ c.args.token.now (place_missing _ _ c.in-None.ensures.place))
