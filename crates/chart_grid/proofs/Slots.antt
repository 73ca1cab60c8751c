use Rattle.std.proofs.Common.{ℕ, ℤ, ◌≡◌, ◌+◌, ◌*◌, ◌<◌, ◌≤◌, min, ◌≤ℤ◌, ◌<ℤ◌, ◌↔◌, arith, sym, subst, inl, inr}
use Rattle.std.proofs.lemmas.Int.{ints, by_lt_z}
use Rattle.std.proofs.lemmas.Bool.{cases_lt}
use Rattle.std.specs.Int.{div_ceil}
use Rattle.chart_grid.specs.Numbers.{distance}
use Rattle.chart_grid.specs.Projection.{InWindow, column}
use Rattle.chart_grid.specs.Slots.{slot_time, IsInColumn, AreSlotsBefore, border}
use Rattle.chart_grid.specs.declared.axis.Axis.{Axis}
use Rattle.chart_grid.specs.declared.grid.Grid.{Grid}
use Rattle.chart_grid.proofs.Floors.{div_ceil-lt, lt-div_ceil, div_ceil-rising}
use Rattle.chart_grid.proofs.Heights.{after, distance-some}
use Rattle.chart_grid.proofs.Columns.{before_border, below_column, steps-within}

-- the slots before a later time
pub some-before : (a : Axis) (t : ℤ) (d n : ℕ) → 0 < a.step → a.start ≤ℤ t → d ≡ distance a.start t → n ≡ min (div_ceil d a.step) a.slots
    → AreSlotsBefore a t n
some-before a t d n step late de ne = record {
  within = omega arith;
  before = λ i h. (
    λ below. omega (arith, ints, after a.start t late, div_ceil-lt d i a.step step (omega arith)),
    λ past. omega (arith, lt-div_ceil d i a.step step (omega (arith, ints, after a.start t late))),
  );
}

-- the times of the window before a border are those of the columns below it
pub border-parts : (g : Grid) (c : ℕ) (t : ℤ) → InWindow g t → (t <ℤ border g c) ↔ (column g t < c)
border-parts g c t shown =
    let wide : 0 < distance g.t0 g.t1 = distance-some g.t0 g.t1 g.window.rising in (
      λ past. before_border (distance g.t0 t) (distance g.t0 g.t1) g.w c wide g.wide.some
          (omega (arith, ints, past, after g.t0 t shown.from)),
      λ below. omega (
        arith,
        ints,
        after g.t0 t shown.from,
        below_column (distance g.t0 t) (distance g.t0 g.t1) g.w c wide g.wide.some below,
      ),
    )

-- a border lies from the start to the end of the window
pub border-from : (g : Grid) (c : ℕ) → g.t0 ≤ℤ border g c
border-from g c = omega (arith, ints)

pub border-to : (g : Grid) (c : ℕ) → c ≤ g.w → border g c ≤ℤ g.t1
border-to g c within =
    omega (
      arith,
      ints,
      g.window.rising,
      after g.t0 g.t1 (omega (arith, ints, g.window.rising)),
      steps-within c g.w (distance g.t0 g.t1) within g.wide.some,
    )

-- no time is on both sides of a border
apart : (t b : ℤ) → (t <ℤ b → ⊥) → b ≤ℤ t
apart t b never = by_lt_z t b (λ less. absurd (never less)) (λ le. le)

-- the slots of column c lie between the borders
pub between-borders : (a : Axis) (g : Grid) (c m n : ℕ) → c < g.w → AreSlotsBefore a (border g c) m → AreSlotsBefore a (border g (c + 1)) n
    → (i : ℕ) → IsInColumn a g c i ↔ ((m ≤ i) × (i < n))
between-borders a g c m n drawn from to i =
    (λ own. (from_first own, to_last own), λ within. own_of within)
  where
    from_first : IsInColumn a g c i → m ≤ i
    from_first own =
        elim (cases_lt i m) [
          | inl below ↦ absurd (omega (
            arith,
            own.place,
            (border-parts g c (slot_time a i) own.shown).0 ((from.before i own.slot).0 below),
          ))
          | inr le ↦ le
        ]

    to_last : IsInColumn a g c i → i < n
    to_last own =
        (to.before i own.slot).1 ((border-parts g (c + 1) (slot_time a i) own.shown).1 (omega (arith, own.place)))

    own_of : (m ≤ i) × (i < n) → IsInColumn a g c i
    own_of within =
        let slot : i < a.slots = omega (arith, within.1, to.within) in
        let early : border g c ≤ℤ slot_time a i =
        apart (slot_time a i) (border g c) (λ past. absurd (omega (arith, within.0, (from.before i slot).1 past))) in
        let late : slot_time a i <ℤ border g (c + 1) = (to.before i slot).0 within.1 in
        let shown : InWindow g (slot_time a i) = record {
          from = omega (arith, ints, early, border-from g c);
          to = omega (arith, ints, late, border-to g (c + 1) (omega arith));
        } in
        let no_less : c ≤ column g (slot_time a i) =
        elim (cases_lt (column g (slot_time a i)) c) [
          | inl less ↦ absurd (omega (arith, ints, early, (border-parts g c (slot_time a i) shown).1 less))
          | inr le ↦ le
        ] in
        record {
          slot = slot;
          shown = shown;
          place = omega (arith, no_less, (border-parts g (c + 1) (slot_time a i) shown).0 late);
        }

-- the same at what a call returned
pub parts_at : (g : Grid) (c : ℕ) (r : ℤ) → r ≡ border g c → (t : ℤ) → InWindow g t → (t <ℤ r) ↔ (column g t < c)
parts_at g c r e t shown =
    let P : ℤ → Type 0 = λ z. (t <ℤ z) ↔ (column g t < c) in
    subst P (sym e) (border-parts g c t shown)

-- a later time has no fewer slots before it
pub AreSlotsBefore-rising : (a : Axis) (s t : ℤ) (m n : ℕ) → s ≤ℤ t → AreSlotsBefore a s m → AreSlotsBefore a t n → m ≤ n
AreSlotsBefore-rising a s t m n le from to =
    elim (cases_lt n m) [
      | inl more ↦
          let slot : n < a.slots = omega (arith, more, from.within) in
          let early : slot_time a n <ℤ s = (from.before n slot).0 more in
          absurd (omega (arith, (to.before n slot).1 (omega (arith, ints, early, le))))
      | inr done ↦ done
    ]

-- borders don't fall
pub border-rising : (g : Grid) (c : ℕ) → border g c ≤ℤ border g (c + 1)
border-rising g c =
    let n : ℕ = distance g.t0 g.t1 in
    omega (arith, ints, div_ceil-rising (c * n) ((c + 1) * n) g.w g.wide.some (omega arith))

-- the slots of a window begin before its first column and end behind its last
pub window_start : (axis : Axis) (g : Grid) (c n : ℕ) → c ≡ 0 → border g 0 ≡ g.t0 → AreSlotsBefore axis (border g c) n
    → AreSlotsBefore axis g.t0 n
window_start axis g c n is first h =
    let P : ℕ → Type 0 = λ c. AreSlotsBefore axis (border g c) n in
    let Q : ℤ → Type 0 = λ t. AreSlotsBefore axis t n in
    subst Q first (subst P is h)

pub window_stop : (axis : Axis) (g : Grid) (c n : ℕ) → c + 1 ≡ g.w → border g g.w ≡ g.t1 → AreSlotsBefore axis (border g (c + 1)) n
    → AreSlotsBefore axis g.t1 n
window_stop axis g c n is last h =
    let P : ℕ → Type 0 = λ c. AreSlotsBefore axis (border g c) n in
    let Q : ℤ → Type 0 = λ t. AreSlotsBefore axis t n in
    subst Q last (subst P is h)

pub window_order : (axis : Axis) (g : Grid) (a b : ℕ) → AreSlotsBefore axis g.t0 a → AreSlotsBefore axis g.t1 b → a ≤ b
window_order axis g a b start stop = AreSlotsBefore-rising axis g.t0 g.t1 a b (omega (arith, ints, g.window.rising)) start stop
