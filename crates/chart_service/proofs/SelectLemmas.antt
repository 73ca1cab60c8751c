-- What a selected series is.
use Rattle.std.proofs.Common.{◌≡◌, ℕ, ◌+◌, ◌<◌, ◌≤◌, ℤ, List, length, Option, Some, None, ap, sym, subst, inl, inr, ◌∙◌, arith}
use Rattle.std.specs.Prelude.{IsSomeAnd, slice_get}
use Rattle.std.proofs.lemmas.Option.{slice_get_cases}
use Rattle.block_disk.specs.View.{Image}
use Rattle.chart_grid.specs.declared.axis.Axis.{Axis}
use Rattle.filter_scan.specs.Reads.{ReadsWindow}
use Rattle.om3_coeff.specs.View.{NodesView, Agrees}
use Rattle.page_space.specs.declared.superblock.Superblock.{Superblock}
use Rattle.series_book.specs.declared.one_series.Series.{Series}
use Rattle.series_store.specs.declared.series_info.SeriesInfo.{SeriesInfo}
use Rattle.series_store.specs.Asking.{IsInfo}
use Rattle.series_store.proofs.AskLemmas.{kept_as}
use Rattle.catalog_page.specs.Entries.{IsEntry}
use Rattle.series_catalog.specs.Catalogs.{AreAsTold, entry_of}
use Rattle.series_catalog.specs.declared.stored_series.StoredSeries.{StoredSeries}
use Rattle.stored_book.specs.Standing.{IsStore}
use Rattle.tree_walk.specs.declared.tree.Tree.{Tree}
use Rattle.tree_walk.specs.Paths.{IsDamaged}
use Rattle.tree_walk.specs.Trees.{StandsFor}
use Rattle.tree_walk.proofs.StandingLemmas.{standing_sound}
use Rattle.chart_service.specs.Planning.{most_view_reads}
use Rattle.chart_service.specs.Stepping.{ReadsFor, ReadsRows}
use Rattle.chart_service.specs.Viewing.{axis_of}

-- the element of an index that is there
pub there : {A : Type 0} (list : List A) (id : ℕ) → id < length list → (a : A) × (slice_get list id ≡ Some a)
there {A} list id below = elim (slice_get_cases list id).1 [
  | inl found ↦ (found.0, found.2)
  | inr none ↦ absurd (omega (arith, below, none.0))
]

-- its axis
pub axis_so : (series : Series) (id : ℕ) (axis : Axis) (info : SeriesInfo) (view : NodesView) → axis.start ≡ info.start
    → axis.step ≡ info.step → axis.slots ≡ view.slots → IsInfo series id info → Agrees view series.slots → axis ≡ axis_of series
axis_so series id axis info view at by count is agrees = λ i. record {
  start = (at ∙ is.start) i;
  step = (by ∙ is.step) i;
  slots = (count ∙ agrees.slots) i;
}

-- none of its pages is damaged
pub whole : (image : Image) (s : Superblock) (book : List Series) (catalog : List StoredSeries) (id : ℕ) (one : StoredSeries) (two : Series)
    (tree : Tree) (page : ℕ) → IsStore image s book → AreAsTold image catalog → slice_get catalog id ≡ Some one
    → slice_get book id ≡ Some two → tree ≡ one.tree → IsDamaged image s.total tree page → ⊥
whole image s book catalog id one two tree page store told at at' same damaged =
    let is = kept_as image s book catalog id one two store told at at' in
    let P : Tree → Type 0 = λ t. StandsFor image s.total t two.slots in
    standing_sound image s.total tree two.slots page (subst P (sym same) is.tree) damaged

-- without slots nothing is stored
pub none_stored : (fresh : ℕ) (one : StoredSeries) (tree : Tree) → tree ≡ one.tree → IsEntry fresh (entry_of one) → tree.slots ≡ 0
    → tree.span ≡ None
none_stored fresh one tree same is none =
    let of : one.tree.slots ≡ 0 = sym (ap (λ (t : Tree). t.slots) same) ∙ none in
    ap (λ (t : Tree). t.span) same ∙ is.rooted.1 (is.root.none of)

-- what is so of the series at an index that is there
pub some_there : (book : List Series) (id : ℕ) (P : Series → Type 0) → id < length book
    → ((series : Series) → slice_get book id ≡ Some series → P series) → IsSomeAnd (slice_get book id) P
some_there book id P below so =
    let one = there book id below in
    let Q : Option Series → Type 0 = λ o. IsSomeAnd o P in
    subst Q (sym one.1) (so one.0 one.1)

-- the blocks that a view of it reads
pub reads_there : (w : ℕ) (book : List Series) (id slots old new : ℕ) → id < length book
    → ((series : Series) → slice_get book id ≡ Some series → slots ≡ length series.slots) → new ≤ old + most_view_reads w slots
    → ReadsFor w (slice_get book id) old new
reads_there w book id slots old new below count few =
    let one = there book id below in
    let R : Option Series → Type 0 = λ o. ReadsFor w o old new in
    let M : ℕ → Type 0 = λ n. new ≤ old + most_view_reads w n in
    subst R (sym one.1) (subst M (count one.0 one.1) few)

-- and a filtered view
pub rows_there : (t0 t1 : ℤ) (book : List Series) (id : ℕ) (axis : Axis) (old new : ℕ) → id < length book
    → ((series : Series) → slice_get book id ≡ Some series → axis ≡ axis_of series) → ReadsWindow axis t0 t1 old new
    → ReadsRows t0 t1 (slice_get book id) old new
rows_there t0 t1 book id axis old new below is few =
    let one = there book id below in
    let R : Option Series → Type 0 = λ o. ReadsRows t0 t1 o old new in
    let A : Axis → Type 0 = λ a. ReadsWindow a t0 t1 old new in
    subst R (sym one.1) (subst A (is one.0 one.1) few)
