use Rattle.std.proofs.Common.{◌≡◌, ◌∙◌, ℤ, ap₂, rules, w64, to_z, of_z}
use Rattle.std.proofs.lemmas.Int.{to_z-of_z}
use Rattle.om3_coeff.specs.declared.span.Span.{Span}
use Rattle.om3_coeff.specs.Coefs.{left_part, proper_only}
use Rattle.om3_coeff.proofs.CoefLemmas.{part_is}
use Rattle.om3_coeff.proofs.joining.left_part.Goals as goal

pub returns : goal.returns
returns c =
    let low : to_z w64 (of_z w64 c.left_min.result) ≡ c.left_min.result = to_z-of_z w64 c.left_min.result (search rules) in
    let high : to_z w64 (of_z w64 c.left_max.result) ≡ c.left_max.result = to_z-of_z w64 c.left_max.result (search rules) in
    c.checked.ensures
    ∙ ap₂ (λ (min max : ℤ). let s : Span = record { min = min; max = max } in proper_only s) low high
    ∙ part_is c.left_min.result c.left_max.result (left_part c.args.span c.args.coef)
    c.left_min.ensures.value c.left_min.ensures.exact c.left_max.ensures.value c.left_max.ensures.exact
