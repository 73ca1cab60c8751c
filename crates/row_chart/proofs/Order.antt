-- The samples that a view keeps come in order of time, as the points that rows are gathered of.
use Rattle.std.proofs.Common.{◌≡◌, ℕ, ℤ, ◌+◌, ◌*◌, ◌<◌, ◌≤ℤ◌, ◌<ℤ◌, List, [], ◌∷◌, Option, None, Some, true, false, All, refl, arith}
use Rattle.std.proofs.lemmas.Int.{ints}
use Rattle.std.proofs.lemmas.List.Elements.{All-nil, All-cons, All-weaker}
use Rattle.std.proofs.lemmas.List.Kept.{AllPairs-cons}
use Rattle.std.specs.Prelude.{if◌then◌else◌}
use Rattle.std.specs.List.{enumerate_from, filter_map, cons_option}
use Rattle.chart_grid.specs.declared.grid.Grid.{Grid}
use Rattle.chart_grid.specs.declared.axis.Axis.{Axis}
use Rattle.chart_grid.specs.Projection.{InWindow}
use Rattle.plain_chart.specs.declared.sample.Sample.{Sample}
use Rattle.plain_chart.specs.Samples.{kept_at, in_window, sample_points}
use Rattle.chart_grid.specs.Slots.{slot_time}
use Rattle.m4_groups.specs.Points.{AreInOrder}

-- the samples of these slots, the first of which is slot n
abbrev pub kept_from : Grid → Axis → ℕ → List (Option ℤ) → List Sample
kept_from g axis n slots = filter_map (kept_at g axis) (enumerate_from n slots)

in_window-is : (g : Grid) (t : ℤ) → in_window g t ≡ true → InWindow g t
in_window-is g t e = record { from = grind (arith, ints); to = grind (arith, ints) }

-- what holds of the later slots' samples, with and without the first slot's in front, holds of all
pub first_slot : (P : List Sample → Type 0) (g : Grid) (axis : Axis) (n : ℕ) (o : Option ℤ) (slots : List (Option ℤ))
    → P (kept_from g axis (n + 1) slots) → ((v : ℤ) → o ≡ Some v → InWindow g (slot_time axis n)
    → P (record { time = slot_time axis n; value = v } ∷ kept_from g axis (n + 1) slots)) → P (kept_from g axis n (o ∷ slots))
first_slot P g axis n None slots without with_it = without
first_slot P g axis n (Some v) slots without with_it =
    elim (in_window g (slot_time axis n)) as (λ b. in_window g (slot_time axis n) ≡ b
    → P (cons_option (if b then Some (record { time = slot_time axis n; value = v }) else None) (kept_from g axis (n + 1) slots))) [
      | true ↦ λ e. with_it v refl (in_window-is g (slot_time axis n) e)
      | false ↦ λ e. without
    ] refl

time-later : (axis : Axis) (n : ℕ) → 0 < axis.step → slot_time axis n <ℤ slot_time axis (n + 1)
time-later axis n some =
    let e : (n + 1) * axis.step ≡ n * axis.step + axis.step = omega arith in
    omega (arith, ints, e, some)

-- no sample is earlier than the first slot
earliest : (g : Grid) (axis : Axis) (n : ℕ) (slots : List (Option ℤ)) → 0 < axis.step
    → All (λ p. slot_time axis n ≤ℤ p.0) (sample_points (kept_from g axis n slots))
earliest g axis n [] some = All-nil (λ p. slot_time axis n ≤ℤ p.0)
earliest g axis n (o ∷ slots) some =
    let P : ℤ × ℤ → Type 0 = λ p. slot_time axis n ≤ℤ p.0 in
    let rest : All P (sample_points (kept_from g axis (n + 1) slots)) =
    All-weaker (λ p. slot_time axis (n + 1) ≤ℤ p.0) P (λ p h. omega (arith, ints, h, time-later axis n some))
    (sample_points (kept_from g axis (n + 1) slots)) (earliest g axis (n + 1) slots some) in
    first_slot (λ l. All P (sample_points l)) g axis n o slots rest
    (λ v is window. All-cons P (slot_time axis n, v) (sample_points (kept_from g axis (n + 1) slots)) (omega (arith, ints)) rest)

-- the samples come in order of time, and each lies in the window
pub kept-in_order : (g : Grid) (axis : Axis) (n : ℕ) (slots : List (Option ℤ)) → 0 < axis.step
    → AreInOrder g (sample_points (kept_from g axis n slots))
kept-in_order g axis n [] some = record {
  shown = All-nil (λ p. InWindow g p.0);
  rising = λ i j d less within. absurd (omega (arith, within));
}
kept-in_order g axis n (o ∷ slots) some =
    let rest = kept-in_order g axis (n + 1) slots some in
    let points : List (ℤ × ℤ) = sample_points (kept_from g axis (n + 1) slots) in
    let later : All (λ p. slot_time axis n <ℤ p.0) points =
    All-weaker (λ p. slot_time axis (n + 1) ≤ℤ p.0) (λ p. slot_time axis n <ℤ p.0)
    (λ p h. omega (arith, ints, h, time-later axis n some)) points (earliest g axis (n + 1) slots some) in
    first_slot (λ l. AreInOrder g (sample_points l)) g axis n o slots rest
    (λ v is window. record {
      shown = All-cons (λ p. InWindow g p.0) (slot_time axis n, v) points window rest.shown;
      rising = AllPairs-cons (λ p q. p.0 <ℤ q.0) (slot_time axis n, v) points later rest.rising;
    })
