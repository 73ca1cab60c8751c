use Rattle.std.proofs.Common.{◌≡◌, refl, w64, to_z, of_z, ◌++◌, sym, ap, ◌∙◌, arith, rules}
use Rattle.std.proofs.lemmas.Int.{ints}
use Rattle.chart_frames.specs.Spelled.{signed_bytes}
use Rattle.chart_frames.proofs.heads.rmax_at.Goals.{then-has-ne1, else-has-ne1}
use Rattle.chart_frames.proofs.heads.rmax_at.Goals as goal

pub returns-clause-takes : goal.returns-clause-takes
returns-clause-takes c =
    let same : to_z w64 (of_z w64 c.in_ok-rmax.rmax) ≡ c.in_ok-rmax.rmax = search rules in (
      c.if-not-is_value.ensures.0 refl,
      omega (arith, ints, c.if-rmax-rmin.false),
      λ none. elim c.if-has-ne1.branch [
        | then-has-ne1 w ↦ search (ints, rules)
        | else-has-ne1 w ↦ absurd (omega (arith, none, w.if-has-ne1.false))
      ],
      c.in_ok-rmax.ensures.takes ∙ ap (λ z. signed_bytes z ++ c.in_ok-rmax.rest.now) (sym same),
    )
