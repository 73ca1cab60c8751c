use Rattle.std.proofs.Common.{take, sym, ap}
use Rattle.std.proofs.lemmas.List.{take_all}
use Rattle.value_filter.proofs.Places.{place_found, place_missing}
use Rattle.value_filter.proofs.pieces.word.Goals as goal

pub returns-in-Some-clause-word : goal.returns-in-Some-clause-word
returns-in-Some-clause-word c = ap (λ n. take n c.args.text.now) (place_found _ _ _ c.in-Some.ensures.place)

pub returns-in-None-clause-word : goal.returns-in-None-clause-word
returns-in-None-clause-word c = sym (take_all _ c.args.text.now (place_missing _ _ c.in-None.ensures.place))
