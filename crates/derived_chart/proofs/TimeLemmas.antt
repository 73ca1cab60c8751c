-- Slots of a window, and series on one grid.
use Rattle.std.proofs.Common.{◌≡◌, ℕ, ℤ, pos, negsuc, ◌*◌, ◌/◌, ◌%◌, ◌<◌, ◌≤◌, ◌*ℤ◌, ◌<ℤ◌, ◌≢◌, inl, inr, arith, sym, ◌∙◌, ap, ap₂, subst}
use Rattle.std.proofs.Common.{◌^◌, ◌+ℤ◌}
use mir.Syntax.{w128}
use Rattle.std.specs.Int.RustNames.{FitsSigned}
use Rattle.derived_chart.proofs.ProductLemmas.{wide, fits_wide}
use Rattle.std.specs.Prelude.{unsigned_abs, ◌-ℤ◌, neg_ℤ}
use Rattle.std.proofs.lemmas.Bool.{cases_lt}
use Rattle.std.proofs.lemmas.Int.{ints, unsigned_abs-mul, to_z-of_z, fits_signed_from_abs}
use Rattle.std.proofs.Math.Nat.{mul-mod_left}
use Rattle.std.proofs.lemmas.Nat.{div-add-mod', mul-le}
use Rattle.std.proofs.Common.{to_z, of_z, w64}
use Rattle.whole_number.specs.Range.{IsValue}
use Rattle.chart_grid.specs.declared.axis.Axis.{Axis}
use Rattle.chart_grid.specs.declared.grid.Grid.{Grid}
use Rattle.chart_grid.specs.Slots.{slot_time, AreSlotsBefore}
use Rattle.derived_chart.specs.Points.{IsShift}

-- a window's slots end where they begin or behind it
pub window_order : (axis : Axis) (g : Grid) (from to : ℕ) → AreSlotsBefore axis g.t0 from → AreSlotsBefore axis g.t1 to → from ≤ to
window_order axis g from to start stop = elim (cases_lt to from) [
  | inl less ↦
      let slot : to < axis.slots = omega (arith, less, start.within) in
      let early : slot_time axis to <ℤ g.t0 = (start.before to slot).0 less in
      absurd (omega (arith, (stop.before to slot).1 (omega (arith, ints, early, g.window.rising))))
  | inr more ↦ more
]

-- a time as it is passed
passed_time : (t : ℤ) → IsValue t → to_z w64 (of_z w64 t) ≡ t
passed_time t small = to_z-of_z w64 t (fits_signed_from_abs w64 t (omega (arith, small)))

-- starts that are no multiple of the step apart are on no common grid
pub no_shift : (x y : Axis) (gap step : ℕ) → IsValue x.start → IsValue y.start
    → gap ≡ unsigned_abs (to_z w64 (of_z w64 y.start) -ℤ to_z w64 (of_z w64 x.start)) → step ≡ x.step → gap % step ≢ 0 → (d : ℤ)
    → IsShift x y d → ⊥
no_shift x y gap step first second is same odd d shift =
    let P : ℤ → Type 0 = λ z. gap ≡ unsigned_abs (z -ℤ to_z w64 (of_z w64 x.start)) in
    let Q : ℤ → Type 0 = λ z. gap ≡ unsigned_abs (y.start -ℤ z) in
    let apart : gap ≡ unsigned_abs (y.start -ℤ x.start) = subst Q (passed_time x.start first) (subst P (passed_time y.start second) is) in
    let product : gap ≡ unsigned_abs (d *ℤ pos x.step) = omega (arith, ints, apart, shift.start) in
    let times : gap ≡ unsigned_abs d * x.step = product ∙ unsigned_abs-mul d (pos x.step) in
    let whole : gap ≡ unsigned_abs d * step = times ∙ ap (λ n. unsigned_abs d * n) (sym same) in
    odd (ap (λ n. n % step) whole ∙ mul-mod_left (unsigned_abs d) step)

neg_times : (k n : ℕ) → (neg_ℤ (pos k) *ℤ pos n) ≡ neg_ℤ (pos (k * n))
neg_times k n = grind (arith, ints)

-- else the second series began so many slots later, where its start is the later one
pub later_shift : (x y : Axis) (gap step : ℕ) (d : ℤ) → IsValue x.start → IsValue y.start
    → gap ≡ unsigned_abs (to_z w64 (of_z w64 y.start) -ℤ to_z w64 (of_z w64 x.start)) → y.step ≡ x.step → step ≡ x.step → gap % step ≡ 0
    → to_z w64 (of_z w64 x.start) <ℤ to_z w64 (of_z w64 y.start) → d ≡ neg_ℤ (pos (gap / step)) → IsShift x y d
later_shift x y gap step d first second is steps same even less d_is =
    let P : ℤ → Type 0 = λ z. gap ≡ unsigned_abs (z -ℤ to_z w64 (of_z w64 x.start)) in
    let Q : ℤ → Type 0 = λ z. gap ≡ unsigned_abs (y.start -ℤ z) in
    let apart : gap ≡ unsigned_abs (y.start -ℤ x.start) = subst Q (passed_time x.start first) (subst P (passed_time y.start second) is) in
    let R : ℤ → Type 0 = λ z. z <ℤ to_z w64 (of_z w64 y.start) in
    let S : ℤ → Type 0 = λ z. x.start <ℤ z in
    let before : x.start <ℤ y.start = subst S (passed_time y.start second) (subst R (passed_time x.start first) less) in
    let whole : gap / step * step ≡ gap = omega (arith, div-add-mod' gap step, even) in
    let scaled : gap / step * x.step ≡ gap = ap (λ n. gap / step * n) (sym same) ∙ whole in
    record {
      step = steps;
      start = omega (arith, ints, apart, before, scaled, neg_times (gap / step) x.step, ap (λ z. z *ℤ pos x.step) d_is);
    }

-- the time of a slot, as the code computes it with more bits
pos_times : (k n : ℕ) → (pos k *ℤ pos n) ≡ pos (k * n)
pos_times k n = grind (arith, ints)

far_small : (i n : ℕ) → i < 2 ^ 64 → n < 2 ^ 32 → i * n ≤ 2 ^ 96
far_small i n slot step = omega (arith, mul-le i n (2 ^ 64) (2 ^ 32) (omega (arith, slot)) (omega (arith, step)))

far_product : (i n : ℕ) (u v : ℤ) → i < 2 ^ 64 → n < 2 ^ 32 → u ≡ pos i → v ≡ pos n
    → (to_z w128 (of_z w128 u) *ℤ to_z w128 (of_z w128 v)) ≡ pos (i * n)
far_product i n u v slot step first second =
    ap₂ (λ y z. y *ℤ z) (wide (pos i) u (omega (arith, slot)) first) (wide (pos n) v (omega (arith, step)) second) ∙ pos_times i n

pub far_product_fits : (i n : ℕ) (u v : ℤ) → i < 2 ^ 64 → n < 2 ^ 32 → u ≡ pos i → v ≡ pos n
    → FitsSigned w128 (to_z w128 (of_z w128 u) *ℤ to_z w128 (of_z w128 v))
far_product_fits i n u v slot step first second = fits_wide (pos (i * n)) _ (omega (arith, far_small i n slot step))
    (far_product i n u v slot step first second)

start_small : (z : ℤ) → FitsSigned w64 z → unsigned_abs z ≤ 2 ^ 63
start_small (pos n) fits = omega (arith, fits.sfits)
start_small (negsuc n) fits = omega (arith, fits.sfits)

time_small : (z : ℤ) (m : ℕ) → unsigned_abs z ≤ 2 ^ 63 → m ≤ 2 ^ 96 → unsigned_abs (z +ℤ pos m) < 2 ^ 127
time_small z m small few = omega (arith, ints, small, few)

far_sum : (a : Axis) (i : ℕ) (r u v : ℤ) → FitsSigned w64 a.start → i < 2 ^ 64 → a.step < 2 ^ 32 → r ≡ to_z w64 (of_z w64 a.start)
    → u ≡ pos i → v ≡ pos a.step
    → (to_z w128 (of_z w128 r) +ℤ to_z w128 (of_z w128 (to_z w128 (of_z w128 u) *ℤ to_z w128 (of_z w128 v)))) ≡ slot_time a i
far_sum a i r u v start slot step is first second =
    ap₂ (λ y z. y +ℤ z) (wide a.start r (omega (arith, start_small a.start start)) (is ∙ to_z-of_z w64 a.start start))
    (wide (pos (i * a.step)) _ (omega (arith, far_small i a.step slot step)) (far_product i a.step u v slot step first second))

pub far_sum_fits : (a : Axis) (i : ℕ) (r u v : ℤ) → FitsSigned w64 a.start → i < 2 ^ 64 → a.step < 2 ^ 32 → r ≡ to_z w64 (of_z w64 a.start)
    → u ≡ pos i → v ≡ pos a.step
    → FitsSigned w128 (to_z w128 (of_z w128 r) +ℤ to_z w128 (of_z w128 (to_z w128 (of_z w128 u) *ℤ to_z w128 (of_z w128 v))))
far_sum_fits a i r u v start slot step is first second =
    fits_wide (slot_time a i) _ (time_small a.start (i * a.step) (start_small a.start start) (far_small i a.step slot step))
    (far_sum a i r u v start slot step is first second)

pub far_sum_is : (a : Axis) (i : ℕ) (r u v : ℤ) → FitsSigned w64 a.start → i < 2 ^ 64 → a.step < 2 ^ 32 → r ≡ to_z w64 (of_z w64 a.start)
    → u ≡ pos i → v ≡ pos a.step
    → to_z w128 (of_z w128 (to_z w128 (of_z w128 r) +ℤ to_z w128
    (of_z w128 (to_z w128 (of_z w128 u) *ℤ to_z w128 (of_z w128 v))))) ≡ slot_time a i
far_sum_is a i r u v start slot step is first second =
    wide (slot_time a i) _ (time_small a.start (i * a.step) (start_small a.start start) (far_small i a.step slot step))
    (far_sum a i r u v start slot step is first second)
