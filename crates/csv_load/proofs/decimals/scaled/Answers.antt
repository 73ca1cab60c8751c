use Rattle.std.proofs.Common.{ℕ, ◌-◌, ◌<◌, ◌≤◌, length, List, Option, IfNone, arith, ap, sym, subst, ◌∙◌}
use Rattle.std.proofs.lemmas.Grind.{common_steps}
use Rattle.std.specs.Str.Parse.{digits_value_after}
use Rattle.csv_load.specs.Decimals.{SpellsScaled}
use Rattle.csv_load.proofs.PartLemmas.{of_spelling, never_ends_in_point, whole_short, digits_short, found_scaled, none_scaled}
use Rattle.csv_load.proofs.decimals.scaled.Goals as goal
use Rattle.csv_load.proofs.decimals.scaled.Goals.{then-is_empty-via-then-is_empty, then-is_empty-via-else-is_empty+then-places-from}

-- no number is spelled
spells_none : ℕ → List ℕ → Option ℕ → Type 0
spells_none scale text r = IfNone r ((n : ℕ) → SpellsScaled scale text n → ⊥)

pub returns-in_err-whole-clause-none : goal.returns-in_err-whole-clause-none
unfolding spells_none
returns-in_err-whole-clause-none c =
    subst (spells_none c.args.scale c.args.text.now) (sym c.from_residual.ensures)
    (λ n s. never_ends_in_point c.args.scale c.args.text.now n s c.in_err-whole.ensures.none)

pub returns-then-is_empty-clause-none : goal.returns-then-is_empty-clause-none
returns-then-is_empty-clause-none c = λ n s.
    let parted = of_spelling c.args.scale c.args.text.now n c.in_ok-whole.whole.now c.in_ok-whole.places.now c.in_ok-whole.ensures.whole
    c.in_ok-whole.ensures.places s in
    elim c.then-is_empty.branch [
      | then-is_empty-via-then-is_empty w ↦ grind (arith, common_steps, parted.whole.0, c.is_empty.ensures, w.if-is_empty.true)
      | then-is_empty-via-else-is_empty+then-places-from w ↦ omega (arith, parted.few, w.from.ensures, w.if-places-from.true)
    ]

pub returns-in_err-before-clause-none : goal.returns-in_err-before-clause-none
unfolding spells_none
returns-in_err-before-clause-none c =
    subst (spells_none c.args.scale c.args.text.now) (sym c.from_residual-in_err-before.ensures)
    (λ n s.
    let parted = of_spelling c.args.scale c.args.text.now n c.in_ok-whole.whole.now c.in_ok-whole.places.now c.in_ok-whole.ensures.whole
    c.in_ok-whole.ensures.places s in
    c.in_err-before.ensures.none parted.whole.1 (whole_short c.args.scale c.in_ok-whole.whole.now c.in_ok-whole.places.now n parted))

pub returns-in_err-value-clause-none : goal.returns-in_err-value-clause-none
unfolding spells_none
returns-in_err-value-clause-none c =
    subst (spells_none c.args.scale c.args.text.now) (sym c.from_residual-in_err-value.ensures)
    (λ n s.
    let parted = of_spelling c.args.scale c.args.text.now n c.in_ok-whole.whole.now c.in_ok-whole.places.now c.in_ok-whole.ensures.whole
    c.in_ok-whole.ensures.places s in
    let short = digits_short c.args.scale c.in_ok-whole.whole.now c.in_ok-whole.places.now n parted in
    let P : ℕ → Type 0 = λ b. digits_value_after 10 b c.in_ok-whole.places.now < 10000000000000000000 in
    c.in_err-value.ensures.none parted.places (subst P (sym c.in_ok-before.ensures.found.1) short))

pub returns-clause-found : goal.returns-clause-found
returns-clause-found c =
    let some : 0 < length c.in_ok-whole.whole.now = grind (arith, common_steps, c.is_empty.ensures, c.if-is_empty.false) in
    let few : length c.in_ok-whole.places.now ≤ c.args.scale = omega (arith, c.from.ensures, c.if-places-from.false) in
    found_scaled c.args.scale c.args.text.now c.in_ok-whole.whole.now c.in_ok-whole.places.now c.in_ok-value.value
    (c.from-2.result - length c.in_ok-whole.places.now) c.with_zeros.result
    c.in_ok-whole.ensures.whole c.in_ok-whole.ensures.places c.in_ok-whole.ensures.some
    (some, c.in_ok-before.ensures.found.0) c.in_ok-value.ensures.found.0 few
    (ap (λ s. s - length c.in_ok-whole.places.now) c.from-2.ensures)
    (c.in_ok-value.ensures.found.1 ∙ ap (λ b. digits_value_after 10 b c.in_ok-whole.places.now) c.in_ok-before.ensures.found.1)
    c.with_zeros.ensures.found

pub returns-clause-none : goal.returns-clause-none
returns-clause-none c =
    none_scaled c.args.scale c.args.text.now c.in_ok-whole.whole.now c.in_ok-whole.places.now c.in_ok-value.value
    (c.from-2.result - length c.in_ok-whole.places.now) c.with_zeros.result
    c.in_ok-whole.ensures.whole c.in_ok-whole.ensures.places
    (ap (λ s. s - length c.in_ok-whole.places.now) c.from-2.ensures)
    (c.in_ok-value.ensures.found.1 ∙ ap (λ b. digits_value_after 10 b c.in_ok-whole.places.now) c.in_ok-before.ensures.found.1)
    c.with_zeros.ensures.none
