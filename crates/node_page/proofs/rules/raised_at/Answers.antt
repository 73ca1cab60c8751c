use Rattle.std.proofs.Common.{◌≡◌, ◌∙◌, ◌+◌, ◌%◌, ◌^◌, ℤ, of_z, ap, subst, rules}
use Rattle.std.specs.Int.{w64}
use Rattle.std.specs.Prelude.{FitsSigned}
use Rattle.std.proofs.lemmas.Int.{to_z-of_z}
use Rattle.whole_number.specs.Range.{IsTime}
use Rattle.node_page.proofs.Differences.{raised_small}
use Rattle.node_page.proofs.rules.raised_at.Goals as goal

pub returns : goal.returns
returns c = λ few.
    let z : ℤ = c.difference_at.result in
    let fits : FitsSigned w64 z = search rules in
    let bits : c.cast_unsigned.result ≡ of_z w64 z = c.cast_unsigned.ensures ∙ ap (of_z w64) (to_z-of_z w64 z fits) in
    subst (λ (d : ℤ). IsTime d) c.difference_at.ensures (raised_small z _ fits (ap (λ n. (n + 2 ^ 56) % 2 ^ 64) bits) few)
