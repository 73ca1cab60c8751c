use Rattle.std.proofs.Common.{◌≡◌, ◌∙◌, ◌≤◌, ◌^◌, ℕ, false, SFits, ap, arith, rules, sym}
use Rattle.std.proofs.lemmas.Bool.Decides.{nat_tests}
use Rattle.std.proofs.lemmas.Int.{to_z-of_z}
use Rattle.std.specs.Int.{w128}
use Rattle.std.specs.Prelude.{nat_le, unsigned_abs}
use Rattle.whole_number.proofs.Digits.{one_integer}
use Rattle.derive_command.proofs.requests.factor.Goals as goal

not_small : (size other : ℕ) → nat_le size (10 ^ 9) ≡ false → size ≡ other → other ≤ 10 ^ 9 → ⊥
not_small size other large same small = absurd (grind (arith, nat_tests, large, same, small))

pub returns-then-not-is_factor-clause-none : goal.returns-then-not-is_factor-clause-none
returns-then-not-is_factor-clause-none c = λ factor spells small.
    let z = c.in_ok-factor.factor in
    let fits : SFits w128 z = search rules in
    let same : z ≡ factor = one_integer c.args.token.now z factor c.in_ok-factor.ensures.found spells in
    not_small _ (unsigned_abs factor) (sym c.is_factor.ensures
    ∙ c.if-not-is_factor.true) (ap unsigned_abs (to_z-of_z w128 z fits ∙ same)) small
