use Rattle.std.proofs.Common.{ℕ, ◌≡◌, ◌<◌, ◌+◌, ◌-◌, ◌/◌, Bool, true, false, rules, refl, sym, ◌∙◌, pos, arith, List, get_or, length}
use Rattle.std.proofs.lemmas.List.{get_or_default}
use Rattle.om3_coeff.specs.declared.key.Key.{Key}
use Rattle.om3_coeff.specs.declared.coef.Coef.{Coef}
use Rattle.progressive_view.proofs.Standing.{narrowed-up, narrowed-down, narrowed-done, place-is}
use Rattle.progressive_view.proofs.places.place_of.Goals as goal

abbrev no_entry : Key × Coef
no_entry = (record { level = 0; index = 0 }, record { left = false; right = false; dmin = pos 0; dmax = pos 0 })

same : (list : List (Key × Coef)) (i : ℕ) → i < length list → get_or list i no_entry ≡ get_or list i (get_or list i no_entry)
same list i within = get_or_default list i no_entry (get_or list i no_entry) within

not_both : (b : Bool) → b ≡ true → b ≡ false → ⊥
not_both b is is_not = let e : true ≡ false = sym is ∙ is_not in cc

pub loop-from-preserved-then-comes_before : goal.loop-from-preserved-then-comes_before
loop-from-preserved-then-comes_before c =
    let list : List (Key × Coef) = c.args.list.now in
    let middle : ℕ = c.loop-from.from + (c.loop-from.to - c.loop-from.from) / 2 in
    let less : middle < c.loop-from.to = omega (arith, c.loop-from-test.true) in
    narrowed-up list c.args.key c.loop-from.from c.loop-from.to middle (middle + 1)
    (get_or list middle no_entry) c.requires.order c.loop-from.invariant less refl
    (same list middle (omega (arith, less, c.loop-from.invariant.within))) (c.comes_before.ensures.0 c.if-comes_before.true)

pub loop-from-preserved : goal.loop-from-preserved
loop-from-preserved c =
    let list : List (Key × Coef) = c.args.list.now in
    let middle : ℕ = c.loop-from.from + (c.loop-from.to - c.loop-from.from) / 2 in
    let less : middle < c.loop-from.to = omega (arith, c.loop-from-test.true) in
    narrowed-down list c.args.key c.loop-from.from c.loop-from.to middle
    (get_or list middle no_entry) c.requires.order c.loop-from.invariant (omega arith) less
    (same list middle (omega (arith, less, c.loop-from.invariant.within)))
    (λ before. not_both c.comes_before.result (c.comes_before.ensures.1 before) c.if-comes_before.false)

pub returns : goal.returns
returns c =
    let place = narrowed-done c.args.list.now c.args.key c.loop-from.from c.loop-from.to c.loop-from.invariant (search rules) in
    record { place = place; is = place-is c.args.list.now c.args.key c.loop-from.from place }
