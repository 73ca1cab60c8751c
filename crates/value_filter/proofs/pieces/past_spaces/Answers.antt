use Rattle.std.proofs.Common.{drop, length, sym, ap, ◌∙◌}
use Rattle.std.proofs.lemmas.List.{take_rest, drop_all}
use Rattle.std.proofs.Math.Seq.{drop-length}
use Rattle.value_filter.proofs.Places.{place_found, place_missing}
use Rattle.value_filter.proofs.pieces.past_spaces.Goals as goal

pub returns-in-Some-clause-rest : goal.returns-in-Some-clause-rest
returns-in-Some-clause-rest c =
    take_rest c.args.text.now c.in-Some.start ∙ ap (λ n. drop n c.args.text.now) (place_found _ _ _ c.in-Some.ensures.place)

pub returns-in-None-clause-rest : goal.returns-in-None-clause-rest
returns-in-None-clause-rest c =
    take_rest c.args.text.now (length c.args.text.now)
    ∙ drop-length c.args.text.now
    ∙ sym (drop_all _ c.args.text.now (place_missing _ _ c.in-None.ensures.place))
