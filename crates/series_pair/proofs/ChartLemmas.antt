-- The chart of a sum: its samples, what it reads, and what errors of its rows are for it.
use Rattle.std.proofs.Common.{◌≡◌, ◌≢◌, ◌∙◌, ℕ, ℤ, ◌<◌, false, true, List, length, Option, None, Some, refl, sym, ap, ap₂, subst}
use Rattle.std.specs.Prelude.{Result, Err, IfNone, IfSome, MatchOption, slice_get}
use Rattle.std.specs.Option.{unwrap_or}
use Rattle.chart_grid.specs.declared.axis.Axis.{Axis}
use Rattle.chart_grid.specs.declared.grid.Grid.{Grid}
use Rattle.chart_world.specs.FaultLaws.{counts_disk, counts_no_disk}
use Rattle.chart_world.specs.Faults.{CountsFault}
use Rattle.derived_chart.specs.Lists.{sums_of}
use Rattle.derived_chart.specs.Points.{IsShift, AreSumSamples}
use Rattle.derived_chart.specs.Reads.{ReadsInWindow, levels}
use Rattle.derived_chart.specs.Rows.{IsAnswer, IsCause}
use Rattle.derived_chart.specs.declared.derived_error.DerivedError.{DerivedError}
use Rattle.derived_chart.specs.declared.derived_error.DerivedError.TheVariants as derived
use Rattle.derived_chart.specs.declared.sum.Sum.{Sum}
use Rattle.derived_chart.specs.Sums.{one_of}
use Rattle.gate_pages.specs.declared.pages.Pages.{Ghosts}
use Rattle.m4_groups.specs.declared.row.Row.{Row}
use Rattle.om3_coeff.specs.declared.errors.NodeError.TheVariants as node
use Rattle.page_space.specs.Shown as spaces
use Rattle.page_space.specs.declared.space.Space.{Space}
use Rattle.plain_chart.specs.Samples.{kept}
use Rattle.plain_chart.specs.declared.sample.Sample.{Sample}
use Rattle.retention.specs.Sweeping.{IsOfPages}
use Rattle.series_book.specs.declared.one_series.Series.{Series}
use Rattle.series_store.specs.Shown as shown
use Rattle.series_store.specs.declared.store.Store.{Store}
use Rattle.stored_book.specs.Standing.{StandsForBook}
use Rattle.series_store.proofs.AskLemmas.{kept_as, there}
use Rattle.series_store.proofs.SelectedLemmas.{book_there, own}
use Rattle.series_pair.specs.AskLaws.{causes_later, count_is, pair_agrees, still_are_pair}
use Rattle.series_pair.specs.Asking.{ArePair, Causes, GoesPair, IsReady, count}
use Rattle.series_pair.specs.Costs.{ReadsSum}
use Rattle.series_catalog.specs.declared.stored_series.StoredSeries.{StoredSeries}
use Rattle.series_pair.specs.Derived.{AreRowsAnswer, AreSamplesOf, AreShifted, AreShiftedIn, AreUnlike, AreUnlikeIn, IsChartCause}
use Rattle.series_pair.specs.Derived.{IsSumError, axis_of, sum_fault, times_of}
use Rattle.series_pair.specs.Drawing.{error_of}
use Rattle.series_pair.specs.Pairs.{slots_at, slots_of}
use Rattle.series_pair.specs.declared.store_pair.StorePair.{StorePair}
use Rattle.series_pair.specs.declared.sum_error.SumError.{SumError}

-- a book has one series of an id
pub same_series : (book : List Series) (id : ℕ) (one two : Series) → slice_get book id ≡ Some one → slice_get book id ≡ Some two → one ≡ two
same_series book id one two first second = ap (λ found. unwrap_or found one) (sym first ∙ second)

-- what a view keeps of the list of the sums are the samples of the two series of the book
pub samples_are : (book : List Series) (x y : ℕ) (sum : Sum) (g : Grid) (axis : Axis) (on : AreShifted book x y sum.shift)
    → ((x y : Axis) (xs ys : List (Option ℤ)) → 0 < x.step → IsShift x y sum.shift
    → AreSumSamples g sum.a sum.b x y xs ys (kept g x (sums_of sum xs ys)))
    → 0 < axis.step → axis ≡ axis_of on.one → AreSamplesOf book x y sum.a sum.b g (kept g axis (sums_of sum on.one.slots on.other.slots))
samples_are book x y sum g axis on law step same =
    let S : Axis → Type 0 = λ a. 0 < a.step in
    let A : Axis → Type 0 = λ a. AreSumSamples g sum.a sum.b (axis_of on.one) (axis_of on.other) on.one.slots on.other.slots
    (kept g a (sums_of sum on.one.slots on.other.slots)) in
    record {
      one = on.one;
      other = on.other;
      first = on.first;
      second = on.second;
      are = subst A (sym same) (law (axis_of on.one) (axis_of on.other) on.one.slots on.other.slots (subst S same step) on.shift);
    }

-- an axis by its parts
pub axis_same : (axis : Axis) (series : Series) → axis.start ≡ series.start → axis.step ≡ series.step → axis.slots ≡ length series.slots
    → axis ≡ axis_of series
axis_same axis series start step slots = λ i. record { start = start i; step = step i; slots = slots i }

-- whether the series of a book at two ids are on one grid, by the axes of these
pub shift_so : (book : List Series) (x y : ℕ) (one other : Series) (axis axis' : Axis) (shift : Option ℤ) → slice_get book x ≡ Some one
    → slice_get book y ≡ Some other → axis ≡ axis_of one → axis' ≡ axis_of other
    → IfSome shift (IsShift axis axis') → IfNone shift ((d : ℤ) → IsShift axis axis' d → ⊥)
    → MatchOption shift (AreUnlike book x y) (AreShifted book x y)
shift_so book x y one other axis axis' None first second same also some none = λ d on.
    let here : on.one ≡ one = same_series book x on.one one on.first first in
    let there : on.other ≡ other = same_series book y on.other other on.second second in
    let P : Series → Type 0 = λ s. IsShift (axis_of s) (axis_of on.other) d in
    let Q : Series → Type 0 = λ s. IsShift (axis_of one) (axis_of s) d in
    let A : Axis → Type 0 = λ a. IsShift a (axis_of other) d in
    let B : Axis → Type 0 = λ a. IsShift axis a d in
    none d (subst B (sym also) (subst A (sym same) (subst Q there (subst P here on.shift))))
shift_so book x y one other axis axis' (Some d) first second same also some none =
    let A : Axis → Type 0 = λ a. IsShift a axis' d in
    let B : Axis → Type 0 = λ a. IsShift (axis_of one) a d in
    record { one = one; other = other; first = first; second = second; shift = subst B also (subst A same some) }

-- the same of the records of a catalog
pub record_axis : (axis : Axis) (one : StoredSeries) → axis.start ≡ one.start → axis.step ≡ one.step → axis.slots ≡ one.tree.slots
    → axis ≡ times_of one
record_axis axis one start step slots = λ i. record { start = start i; step = step i; slots = slots i }

same_record : (catalog : List StoredSeries) (id : ℕ) (one two : StoredSeries) → slice_get catalog id ≡ Some one
    → slice_get catalog id ≡ Some two → one ≡ two
same_record catalog id one two first second = ap (λ found. unwrap_or found one) (sym first ∙ second)

pub shift_in : (catalog : List StoredSeries) (x y : ℕ) (one other : StoredSeries) (axis axis' : Axis) (shift : Option ℤ)
    → slice_get catalog x ≡ Some one
    → slice_get catalog y ≡ Some other → axis ≡ times_of one → axis' ≡ times_of other → IfSome shift (IsShift axis axis')
    → IfNone shift ((d : ℤ) → IsShift axis axis' d → ⊥) → MatchOption shift (AreUnlikeIn catalog x y) (AreShiftedIn catalog x y)
shift_in catalog x y one other axis axis' None first second same also some none = λ d on.
    let here : on.one ≡ one = same_record catalog x on.one one on.first first in
    let there : on.other ≡ other = same_record catalog y on.other other on.second second in
    let P : StoredSeries → Type 0 = λ s. IsShift (times_of s) (times_of on.other) d in
    let Q : StoredSeries → Type 0 = λ s. IsShift (times_of one) (times_of s) d in
    let A : Axis → Type 0 = λ a. IsShift a (times_of other) d in
    let B : Axis → Type 0 = λ a. IsShift axis a d in
    none d (subst B (sym also) (subst A (sym same) (subst Q there (subst P here on.shift))))
shift_in catalog x y one other axis axis' (Some d) first second same also some none =
    let A : Axis → Type 0 = λ a. IsShift a axis' d in
    let B : Axis → Type 0 = λ a. IsShift (times_of one) a d in
    record { one = one; other = other; first = first; second = second; shift = subst B also (subst A same some) }

module _ {P : Type 0} {g : Ghosts P} where
  pub pair_is : (at : StorePair P g) (total : ℕ) (book : List Series) (d : ℤ) (on : AreShifted book at.x at.y d) → IsReady at
      → shown.IsTold at.store.now → StandsForBook (shown.image at.store.now) total book
      → ArePair at on.one.slots on.other.slots
  pair_is at total book d on ready told stands = record {
    ready = ready;
    told = told;
    total = total;
    book = book;
    stands = stands;
    one = on.one;
    other = on.other;
    first = on.first;
    second = on.second;
    first_is = refl;
    second_is = refl;
  }

  -- the slots of the first series, where it is asked
  pub first_slots : (old new : StorePair P g) (total : ℕ) (book : List Series) (series : Series) → IsReady old → shown.IsTold old.store.now
      → StandsForBook (shown.image old.store.now) total book → slice_get book old.x ≡ Some series → GoesPair old new
      → new.is_second ≡ false → (shown.nodes new.store.now).slots ≡ length series.slots
  first_slots old new total book series ready told stands at going turned =
      let other = book_there old.store.now total book old.y ready.0 told stands ready.1.second in
      let are : ArePair old series.slots other.0.slots = record {
        ready = ready;
        told = told;
        total = total;
        book = book;
        stands = stands;
        one = series;
        other = other.0;
        first = at;
        second = other.1;
        first_is = refl;
        second_is = refl;
      } in
      (pair_agrees (still_are_pair going are)).slots ∙ ap (λ second. length (one_of second series.slots other.0.slots)) turned

  -- what is answered of a store is so of the pair that borrowed it
  pub answer_of : (store : Store P g) (pair : StorePair P g) (x y : ℕ) (d a b : ℤ) (grid : Grid) (result : Result (List Row) SumError)
      → pair.store.now.space ≡ store.space → pair.x ≡ x → pair.y ≡ y
      → shown.ForBook pair.store.now (λ total book. AreShifted book pair.x pair.y d → AreRowsAnswer book pair.x pair.y a b grid result)
      → shown.ForBook store (λ total book. AreShifted book x y d → AreRowsAnswer book x y a b grid result)
  answer_of store pair x y d a b grid result same first second answer = λ total book told stands.
      let T : Space P g → Type 0 = λ s. spaces.IsTold s in
      let B : Space P g → Type 0 = λ s. StandsForBook (spaces.image s) total book in
      let X : ℕ → Type 0 = λ n. AreShifted book n pair.y d → AreRowsAnswer book n pair.y a b grid result in
      let Y : ℕ → Type 0 = λ n. AreShifted book x n d → AreRowsAnswer book x n a b grid result in
      subst Y second (subst X first (answer total book (subst T (sym same) told) (subst B (sym same) stands)))

  pub cause_later : (e : DerivedError) (old mid new : StorePair P g) → GoesPair old mid
      → (shown.view mid.store.now).faults ≡ (shown.view old.store.now).faults → IsCause (Causes mid new) e → IsCause (Causes old new) e
  cause_later (derived.TooLarge time) old mid new going quiet cause = tt
  cause_later (derived.Node error) old mid new going quiet cause = causes_later error old mid new going quiet cause
  cause_later derived.NoMemory old mid new going quiet cause = tt

  pub of_pages : (e : DerivedError) (old new : StorePair P g) → IsReady old → IsCause (Causes old new) e → IsCause IsOfPages e
  of_pages (derived.TooLarge time) old new ready cause = tt
  of_pages (derived.Node node.DiskFault) old new ready cause = tt
  of_pages (derived.Node (node.Damaged page)) old new ready cause = tt
  of_pages (derived.Node (node.Missing key)) old new ready cause = cause ready
  of_pages (derived.Node (node.BadCoefficient key)) old new ready cause = cause ready
  of_pages derived.NoMemory old new ready cause = tt

  pub error_cause : (e : DerivedError) (old new : StorePair P g) → IsReady old → IsCause (Causes old new) e
      → IsChartCause old.x old.y (error_of e) (shown.IsTold new.store.now) (shown.total old.store.now) (shown.view old.store.now)
      (shown.view new.store.now)
  error_cause (derived.TooLarge time) old new ready cause = tt
  error_cause (derived.Node node.DiskFault) old new ready cause = cause ready
  error_cause (derived.Node (node.Damaged page)) old new ready cause = (cause ready).0
  error_cause (derived.Node (node.Missing key)) old new ready cause = absurd (cause ready)
  error_cause (derived.Node (node.BadCoefficient key)) old new ready cause = absurd (cause ready)
  error_cause derived.NoMemory old new ready cause = tt

  -- the fault of which an error of the rows tells
  pub error_faults : (e : DerivedError) (old new : StorePair P g) → IsReady old → GoesPair old new → IsCause (Causes old new) e
      → (e ≢ derived.Node node.DiskFault → (shown.view new.store.now).faults ≡ (shown.view old.store.now).faults)
      → CountsFault (sum_fault (error_of e)) (shown.view old.store.now) (shown.view new.store.now)
  error_faults (derived.TooLarge time) old new ready going cause quiet = counts_no_disk (shown.view old.store.now)
      (shown.view new.store.now) going.looks.beside (quiet (λ is. cc))
  error_faults (derived.Node node.DiskFault) old new ready going cause quiet = counts_disk (shown.view old.store.now)
      (shown.view new.store.now) going.looks.beside (cause ready)
  error_faults (derived.Node (node.Damaged page)) old new ready going cause quiet = counts_no_disk (shown.view old.store.now)
      (shown.view new.store.now) going.looks.beside (quiet (λ is. cc))
  error_faults (derived.Node (node.Missing key)) old new ready going cause quiet = absurd (cause ready)
  error_faults (derived.Node (node.BadCoefficient key)) old new ready going cause quiet = absurd (cause ready)
  error_faults derived.NoMemory old new ready going cause quiet = counts_no_disk (shown.view old.store.now)
      (shown.view new.store.now) going.looks.beside (quiet (λ is. cc))

  pub error_answer : (e : DerivedError) (old new : StorePair P g) (total : ℕ) (book : List Series) (x y : ℕ) (a b : ℤ) (grid : Grid)
      (samples : List Sample) → IsReady old → shown.IsTold old.store.now → StandsForBook (shown.image old.store.now) total book
      → IsCause (Causes old new) e → AreSamplesOf book x y a b grid samples → IsAnswer grid samples (Err e)
      → IsSumError book x y a b grid (error_of e)
  error_answer (derived.TooLarge time) old new total book x y a b grid samples ready told stands cause are
      first = record { samples = samples; are = are; first = first }
  error_answer (derived.Node node.DiskFault) old new total book x y a b grid samples ready told stands cause are first = tt
  error_answer (derived.Node (node.Damaged page)) old new total book x y a b grid samples ready told stands cause are
      first = (cause ready).1 total book told stands
  error_answer (derived.Node (node.Missing key)) old new total book x y a b grid samples ready told stands cause are first = tt
  error_answer (derived.Node (node.BadCoefficient key)) old new total book x y a b grid samples ready told stands cause are first = tt
  error_answer derived.NoMemory old new total book x y a b grid samples ready told stands cause are first = tt

  -- the catalog tells how many slots a series of the book has
  catalog_slots : (at : Store P g) (total : ℕ) (book : List Series) (id : ℕ) (series : Series) → shown.IsSound at → shown.IsTold at
      → StandsForBook (shown.image at) total book → id < length (shown.catalog at) → slice_get book id ≡ Some series
      → slots_at (shown.catalog at) id ≡ length series.slots
  catalog_slots at total book id series sound told stands low is =
      let one = there (shown.catalog at) id low in
      let kept = kept_as (shown.image at) (shown.numbers at) book (shown.catalog at) id one.0 series (own at total book sound told stands)
      (at.told sound told) one.1 is in
      ap slots_of one.1 ∙ kept.tree.slots

  -- the rows read no more than by the slots in the window
  pub rows_costs : (old mid : StorePair P g) (total : ℕ) (book : List Series) (grid : Grid) (axis : Axis) (new : ℕ) (one other : Series)
      → IsReady old → shown.IsTold old.store.now → StandsForBook (shown.image old.store.now) total book → GoesPair old mid
      → (shown.view mid.store.now).reads ≡ (shown.view old.store.now).reads → axis ≡ axis_of one → slice_get book old.x ≡ Some one
      → slice_get book old.y ≡ Some other → ReadsInWindow axis grid (levels (count false mid) (count true mid))
      (shown.view mid.store.now).reads new
      → ReadsInWindow (axis_of one) grid (levels (length one.slots) (length other.slots)) (shown.view old.store.now).reads new
  rows_costs old mid total book grid axis new one other ready told stands going still same first second reads =
      let here = going.counts false ∙ count_is false old ready.1
      ∙ catalog_slots old.store.now total book old.x one ready.0 told stands ready.1.first first in
      let there = going.counts true ∙ count_is true old ready.1
      ∙ catalog_slots old.store.now total book old.y other ready.0 told stands ready.1.second second in
      let A : Axis → Type 0 = λ a. ReadsInWindow a grid (levels (length one.slots) (length other.slots))
      (shown.view old.store.now).reads new in
      let R : ℕ → Type 0 = λ n. ReadsInWindow axis grid (levels (length one.slots) (length other.slots)) n new in
      let L : ℕ → Type 0 = λ n. ReadsInWindow axis grid n (shown.view mid.store.now).reads new in
      subst A same (subst R still (subst L (ap₂ levels here there) reads))

  pub reads_of : (store : Store P g) (pair : StorePair P g) (x y : ℕ) (grid : Grid) (new : ℕ) → pair.store.now.space ≡ store.space
      → pair.x ≡ x → pair.y ≡ y
      → shown.ForBook pair.store.now (λ total book. ReadsSum book pair.x pair.y grid (shown.view pair.store.now).reads new)
      → shown.ForBook store (λ total book. ReadsSum book x y grid (shown.view store).reads new)
  reads_of store pair x y grid new same first second reads = λ total book told stands.
      let T : Space P g → Type 0 = λ s. spaces.IsTold s in
      let B : Space P g → Type 0 = λ s. StandsForBook (spaces.image s) total book in
      let R : Space P g → Type 0 = λ s. ReadsSum book x y grid (spaces.view s).reads new in
      let X : ℕ → Type 0 = λ n. ReadsSum book n pair.y grid (shown.view pair.store.now).reads new in
      let Y : ℕ → Type 0 = λ n. ReadsSum book x n grid (shown.view pair.store.now).reads new in
      subst R same (subst Y second (subst X first (reads total book (subst T (sym same) told) (subst B (sym same) stands))))
