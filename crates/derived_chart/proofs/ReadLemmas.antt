-- How many blocks searches read, one after the other.
use Rattle.std.proofs.Common.{◌≡◌, ℕ, ℤ, pos, negsuc, ◌+◌, ◌-◌, ◌*◌, ◌<◌, ◌≤◌, ◌+ℤ◌, ◌<ℤ◌, inl, inr, max, min, arith, refl, sym, ap, subst}
use Rattle.std.proofs.Math.Nat.{mul-le-mul_left, mul-le-mul_right}
use Rattle.std.proofs.lemmas.Int.{ints, by_lt_z}
use Rattle.std.specs.Int.{div_ceil}
use Rattle.chart_grid.proofs.Slots.{AreSlotsBefore-rising, border-from, border-rising, border-to, some-before}
use Rattle.chart_grid.specs.Numbers.{distance}
use Rattle.chart_grid.specs.Slots.{AreSlotsBefore, border}
use Rattle.chart_grid.specs.declared.axis.Axis.{Axis}
use Rattle.chart_grid.specs.declared.grid.Grid.{Grid}
use Rattle.om3_coeff.specs.Keys.{end_slot, first_slot, height, left_of, right_of, top_key}
use Rattle.om3_coeff.specs.declared.key.Key.{Key}
use Rattle.om3_coeff.proofs.KeyLemmas.{left_first, left_some, right_end, right_some}
use Rattle.derived_chart.specs.Reads.{ReadsBefore, ReadsInWindow, StartsAt, end_reads, row_reads, slots_in}
use Rattle.derived_chart.specs.Searches.{AreHalves}
use Rattle.derived_chart.specs.Slots.{Meets}
use Rattle.derived_chart.specs.declared.ends.Side.{Side}
use Rattle.derived_chart.specs.declared.ends.Side.TheVariants.{First, Last}

-- reads by a factor, and more of them behind
pub more : (k t h old new : ℕ) → k ≤ t → new ≤ old + k * h → new ≤ old + t * h
more k t h old new le reads = omega (arith, reads, mul-le-mul_right h le)

pub both : (k l t h h' old mid new : ℕ) → k + l ≤ t → h' ≡ h → mid ≤ old + k * h → new ≤ mid + l * h' → new ≤ old + t * h
both k l t h h' old mid new le same first second = omega (arith, first, second, ap (λ n. l * n) same, mul-le-mul_right h le)

-- by the levels of the one tree, or of both
pub one_side : (k a b old new : ℕ) → new ≤ old + k * a → new ≤ old + k * (a + b)
one_side k a b old new reads = omega (arith, reads)

pub two_sides : (k a b b' old mid new : ℕ) → b' ≡ b → mid ≤ old + k * a → new ≤ mid + k * b' → new ≤ old + k * (a + b)
two_sides k a b b' old mid new same first second = omega (arith, first, second, ap (λ n. k * n) same)

-- the halves of a range have its slots together
pub halves_len : (side : Side) (p q : ℕ) (h : (ℕ × ℕ) × (ℕ × ℕ)) → AreHalves side p q h → (h.0.1 - h.0.0) + (h.1.1 - h.1.0) ≡ q - p
halves_len First p q h are = omega (arith, are.0, are.1, are.2, are.3, are.4)
halves_len Last p q h are = omega (arith, are.0, are.1, are.2, are.3, are.4)

-- ---- a walk below a key

overlap : (f m e a b : ℕ) → f ≤ m → m ≤ e → (min b m - max a f) + (min b e - max a m) ≤ min b e - max a f
overlap f m e a b low high = omega (arith, low, high)

-- the halves of a key share the slots that it has
pub slots_part : (from count : ℕ) (k left right : Key) → 1 ≤ k.level → left ≡ left_of k → right ≡ right_of k
    → slots_in from count left + slots_in from count right ≤ slots_in from count k
slots_part from count k left right low l r =
    let L : Key → Type 0 = λ left. slots_in from count left + slots_in from count right ≤ slots_in from count k in
    let R : Key → Type 0 = λ right. slots_in from count (left_of k) + slots_in from count right ≤ slots_in from count k in
    let F : ℕ → Type 0 = λ f. (min (from + count) (end_slot (left_of k)) - max from f) + slots_in from count
    (right_of k) ≤ slots_in from count k in
    let E : ℕ → Type 0 = λ e. (min (from + count) (end_slot (left_of k)) - max from (first_slot k)) + (min (from + count) e - max from
    (end_slot (left_of k))) ≤ slots_in from count k in
    subst L (sym l)
    (subst R (sym r)
    (subst F (sym (left_first k low))
    (subst E (sym (right_end k low)) (overlap (first_slot k) (end_slot (left_of k)) (end_slot k) from (from + count)
    (omega (arith, left_some k low)) (omega (arith, right_some k low))))))

-- a key that has some slots has one
some_between : (first last from count : ℕ) (base : ℤ) → first < last → 0 < count → base <ℤ pos last → pos first <ℤ (base +ℤ pos count)
    → StartsAt base from → 1 ≤ min (from + count) last - max from first
some_between first last from count base order some low high starts = elim starts.is [
  | inl is ↦ omega (arith, ints, order, some, low, high, starts.low, is)
  | inr is ↦ omega (arith, ints, order, some, low, high, starts.low, is)
]

pub some_in : (base : ℤ) (count from : ℕ) (k : Key) → 1 ≤ k.level → 0 < count → Meets k base count → StartsAt base from
    → 1 ≤ slots_in from count k
some_in base count from k low some meets starts = some_between (first_slot k) (end_slot k) from count base
    (omega (arith, left_some k low, right_some k low)) some meets.0 meets.1 starts

-- the reads of a walk below a key with these slots: its own, and those of its halves
pub walk_once : (l s old asked : ℕ) → 1 ≤ l → 1 ≤ s → asked ≤ old + 1 → asked ≤ old + l * s
walk_once l s old asked low some one = omega (arith, one, mul-le-mul_right {m = 1} {n = l} s low, some)

pub walk_both : (l d s left right old asked first second : ℕ) → l ≡ d + 1 → 1 ≤ s → left + right ≤ s → asked ≤ old + 1
    → first ≤ asked + d * left → second ≤ first + d * right → second ≤ old + l * s
walk_both l d s left right old asked first second is some parts one low high = omega (
  arith,
  some,
  one,
  low,
  high,
  mul-le-mul_left d parts,
  ap (λ n. n * s) is,
)

pub walk_left : (l d s left right old asked first : ℕ) → l ≡ d + 1 → 1 ≤ s → left + right ≤ s → asked ≤ old + 1 → first ≤ asked + d * left
    → first ≤ old + l * s
walk_left l d s left right old asked first is some parts one low = walk_both l d s left right old asked first first is some parts one low
    (omega arith)

-- from where a walk's slots lie
start_of : (base : ℤ) → (from : ℕ) × StartsAt base from
start_of (pos n) = (n, record { low = omega (arith, ints); is = inl refl })
start_of (negsuc n) = (0, record { low = omega (arith, ints); is = inr refl })

-- a walk from the top reads a block for each slot and level
pub walk_reads : (base : ℤ) (count n m : ℕ) (top : Key) (old new : ℕ) → n ≡ m → top ≡ top_key n
    → ((from : ℕ) → StartsAt base from → new ≤ old + top.level * slots_in from count top) → new ≤ old + count * height m
walk_reads base count n m top old new slots is reads =
    let start = start_of base in
    let few : slots_in start.0 count top ≤ count = omega arith in
    omega (arith, reads start.0 start.1, mul-le-mul_left top.level few, ap (λ k. k.level * count) is, ap (λ n. height n * count) slots)

-- ---- the columns of a window

-- some slots are those before a time
slots_before : (axis : Axis) (t : ℤ) → 0 < axis.step → (n : ℕ) × AreSlotsBefore axis t n
slots_before axis t step = by_lt_z t axis.start
    (λ early. (
      0,
      record {
        within = omega arith;
        before = λ i low. (
          λ less. absurd (omega (arith, less)),
          λ past. absurd (omega (arith, ints, early, past)),
        );
      },
    ))
    (λ late. (
      min (div_ceil (distance axis.start t) axis.step) axis.slots,
      some-before axis t (distance axis.start t) _ step late refl refl,
    ))

-- a range of slots has no more than those between its times
range_few : (axis : Axis) (s t : ℤ) (from to p q : ℕ) → AreSlotsBefore axis s from → AreSlotsBefore axis t to → AreSlotsBefore axis s p
    → AreSlotsBefore axis t q → q - p ≤ to - from
range_few axis s t from to p q one two here there =
    omega (
      arith,
      AreSlotsBefore-rising axis s s from p (omega (arith, ints)) one here,
      AreSlotsBefore-rising axis t t q to (omega (arith, ints)) there two,
    )

pub column_reads : (axis : Axis) (g : Grid) (c from to p q h old new : ℕ) → AreSlotsBefore axis (border g c) from
    → AreSlotsBefore axis (border g (c + 1)) to → AreSlotsBefore axis (border g c) p → AreSlotsBefore axis (border g (c + 1)) q
    → new ≤ old + row_reads (q - p) h → new ≤ old + row_reads (to - from) h
column_reads axis g c from to p q h old new one two here there reads =
    more (18 * (q - p)) (18 * (to - from)) h old new
    (omega (arith, range_few axis (border g c) (border g (c + 1)) from to p q one two here there)) reads

pub next_reads : (axis : Axis) (g : Grid) (c h h' old mid new : ℕ) → 0 < axis.step → h' ≡ h → ReadsBefore 18 axis g (border g c) h old mid
    → ((from to : ℕ) → AreSlotsBefore axis (border g c) from → AreSlotsBefore axis (border g (c + 1)) to
    → new ≤ mid + row_reads (to - from) h') → ReadsBefore 18 axis g (border g (c + 1)) h old new
next_reads axis g c h h' old mid new step same before column = λ from to start stop.
    let here = slots_before axis (border g c) step in
    let low = AreSlotsBefore-rising axis g.t0 (border g c) from here.0 (border-from g c) start here.1 in
    let high = AreSlotsBefore-rising axis (border g c) (border g (c + 1)) here.0 to (border-rising g c) here.1 stop in
    both (18 * (here.0 - from)) (18 * (to - here.0)) (18 * (to - from)) h h' old mid new (omega (arith, low, high)) same
    (before from here.0 start here.1) (column here.0 to here.1 stop)

pub window_reads : (axis : Axis) (g : Grid) (c h old new : ℕ) → 0 < axis.step → c ≤ g.w → ReadsBefore 18 axis g (border g c) h old new
    → ReadsBefore 18 axis g g.t1 h old new
window_reads axis g c h old new step within reads = λ from to start stop.
    let here = slots_before axis (border g c) step in
    let high = AreSlotsBefore-rising axis (border g c) g.t1 here.0 to (border-to g c within) here.1 stop in
    more (18 * (here.0 - from)) (18 * (to - from)) h old new (omega (arith, high)) (reads from here.0 start here.1)

pub large_reads : (axis : Axis) (g : Grid) (p q h h' old mid new : ℕ) → AreSlotsBefore axis g.t0 p → AreSlotsBefore axis g.t1 q → h' ≡ h
    → mid ≡ old → new ≤ mid + end_reads (q - p) h' → (from to : ℕ) → AreSlotsBefore axis g.t0 from → AreSlotsBefore axis g.t1 to
    → new ≤ old + (4 * (to - from)) * h
large_reads axis g p q h h' old mid new here there same is reads from to one two =
    both 0 (4 * (q - p) - 2) (4 * (to - from)) h h' old mid new
    (omega (arith, range_few axis g.t0 g.t1 from to p q one two here there)) same (omega (arith, is)) reads

pub search_reads : (axis : Axis) (g : Grid) (p q h h' old mid new : ℕ) → AreSlotsBefore axis g.t0 p → AreSlotsBefore axis g.t1 q → h' ≡ h
    → mid ≡ old → new ≤ mid + end_reads (q - p) h' → ReadsInWindow axis g h old new
search_reads axis g p q h h' old mid new here there same is reads = λ from to one two.
    more (4 * (to - from)) (22 * (to - from)) h old new (omega arith)
    (large_reads axis g p q h h' old mid new here there same is reads from to one two)

pub rows_reads : (axis : Axis) (g : Grid) (p q h h' h'' old mid new last : ℕ) → AreSlotsBefore axis g.t0 p → AreSlotsBefore axis g.t1 q
    → h' ≡ h → h'' ≡ h → mid ≡ old → new ≤ mid + end_reads (q - p) h' → ReadsBefore 18 axis g g.t1 h'' new last
    → ReadsInWindow axis g h old last
rows_reads axis g p q h h' h'' old mid new last here there same also is reads rows = λ from to one two.
    both (4 * (to - from)) (18 * (to - from)) (22 * (to - from)) h h'' old new last (omega arith) also
    (large_reads axis g p q h h' old mid new here there same is reads from to one two) (rows from to one two)
