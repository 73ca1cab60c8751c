-- Which slots a scope draws.
use Rattle.std.proofs.Common.{ℕ, ℤ, pos, negsuc, ◌≡◌, ◌+◌, ◌*◌, ◌^◌, ◌<◌, ◌≤◌, ◌≤ℤ◌, ◌+ℤ◌, ◌<ℤ◌, inl, inr, min, max, w64, refl, ap, arith}
use Rattle.std.specs.Prelude.{FitsSigned}
use Rattle.std.proofs.lemmas.Int.{ints, by_lt_z}
use Rattle.std.proofs.lemmas.Bool.{cases_lt}
use Rattle.std.proofs.Math.Nat.{mul-le-mul_right}
use Rattle.chart_grid.specs.Projection.{InWindow}
use Rattle.chart_grid.specs.Slots.{slot_time, IsInColumn}
use Rattle.chart_grid.proofs.Rising.{column-rising}
use Rattle.om3_coeff.specs.declared.key.Key.{Key}
use Rattle.om3_coeff.specs.Keys.{first_slot, end_slot}
use Rattle.view_cover.specs.declared.scope.Scope.{Scope}
use Rattle.view_cover.specs.Walk.{AreColumnsIn}

-- a number that is little after a first one of 64 bits
steps-below : (start t : ℤ) (n : ℕ) → FitsSigned w64 start → t ≡ start +ℤ pos n → t <ℤ pos 3000000000000000000 → n < 2 ^ 64
steps-below (pos a) t n fits is less = omega (arith, ints, is, less)
steps-below (negsuc a) t n fits is less = omega (arith, ints, is, less, fits.sfits)

-- the slots of the window are those whose times it shows
pub slot-shown : (w : Scope) (i : ℕ) → w.from ≤ i → i < w.end → InWindow w.grid (slot_time w.axis i)
slot-shown w i a b =
    let slot : i < w.axis.slots = omega (arith, b, w.stop.within) in record {
      from = by_lt_z (slot_time w.axis i) w.grid.t0 (λ less. absurd (omega (arith, a, (w.start.before i slot).1 less))) (λ le. le);
      to = (w.stop.before i slot).0 b;
    }

pub shown-slot : (w : Scope) (c i : ℕ) → IsInColumn w.axis w.grid c i → (w.from ≤ i) × (i < w.end)
shown-slot w c i own = (
  elim (cases_lt i w.from) [ inl less ↦ absurd (omega (arith, ints, own.shown.from, (w.start.before i own.slot).0 less)) | inr le ↦ le ],
  (w.stop.before i own.slot).1 own.shown.to,
)

-- the steps from the start to a slot of the window fit
pub steps-fit : (w : Scope) (i n : ℕ) → FitsSigned w64 w.axis.start → w.from ≤ i → i < w.end → n ≡ w.axis.step → i * n < 2 ^ 64
steps-fit w i n fits from to is =
    let shown : InWindow w.grid (slot_time w.axis i) = slot-shown w i from to in
    let below : i * w.axis.step < 2 ^ 64 =
    steps-below w.axis.start (slot_time w.axis i) (i * w.axis.step) fits refl (omega (arith, ints, shown.to, w.grid.window.to_size)) in
    omega (arith, below, ap (λ m. i * m) is)

time-rises : (w : Scope) (i j : ℕ) → i ≤ j → slot_time w.axis i ≤ℤ slot_time w.axis j
time-rises w i j low =
    let steps : i * w.axis.step ≤ j * w.axis.step = mul-le-mul_right w.axis.step low in omega (arith, ints, steps)

pub columns-rise : (w : Scope) (i j c d : ℕ) → i ≤ j → IsInColumn w.axis w.grid c i → IsInColumn w.axis w.grid d j → c ≤ d
columns-rise w i j c d low a b =
    omega (arith, a.place, b.place, column-rising w.grid (slot_time w.axis i) (slot_time w.axis j) a.shown b.shown (time-rises w i j low))

-- the columns of the first and of the last drawn slot of a key's range
pub columns-in : (w : Scope) (k : Key) (first end left right last : ℕ) → first ≡ max (first_slot k) w.from → end ≡ min (end_slot k) w.end
    → first < end → last + 1 ≡ end
    → IsInColumn w.axis w.grid left first → IsInColumn w.axis w.grid right last → AreColumnsIn w.axis w.grid k left right
columns-in w k first end left right last first_is end_is some last_is at_left at_right = record {
  left_drawn = record {
    slot = first;
    in_range = record { from = omega (arith, first_is); to = omega (arith, some, end_is) };
    in_column = at_left;
  };
  right_drawn = record {
    slot = last;
    in_range = record {
      from = omega (arith, some, first_is, last_is);
      to = omega (arith, end_is, last_is);
    };
    in_column = at_right;
  };
  none_left = λ c h. columns-rise w first h.slot left c
      (omega (arith, first_is, h.in_range.from, (shown-slot w c h.slot h.in_column).0)) at_left h.in_column;
  none_right = λ c h. columns-rise w h.slot last c right
      (omega (arith, end_is, last_is, h.in_range.to, (shown-slot w c h.slot h.in_column).1)) h.in_column at_right;
}
