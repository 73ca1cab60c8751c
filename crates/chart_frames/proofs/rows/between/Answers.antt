use Rattle.std.proofs.Common.{◌≡◌, refl, w64, to_z, of_z, ◌++◌, sym, ap, ◌∙◌, arith, rules}
use Rattle.std.proofs.lemmas.Int.{ints}
use Rattle.chart_frames.specs.Spelled.{signed_bytes}
use Rattle.chart_frames.proofs.rows.between.Goals as goal

pub returns-clause-takes : goal.returns-clause-takes
returns-clause-takes c =
    let same : to_z w64 (of_z w64 c.in_ok-value.value) ≡ c.in_ok-value.value = search rules in (
      c.if-not-is_value.ensures.0 refl,
      omega (arith, ints),
      omega (arith, ints),
      c.in_ok-value.ensures.takes ∙ ap (λ z. signed_bytes z ++ c.in_ok-value.rest.now) (sym same),
    )
