-- What a store shows.
use Rattle.std.specs.Prelude.{ℕ, ◌≡◌, List, Result, Some, slice_get}
use Rattle.block_disk.specs.View.{Image, View, Passes}
use Rattle.gate_pages.specs.declared.pages.Pages.{Ghosts}
use Rattle.gate_pages.specs.Pages.{GoesOn, Quiet}
use Rattle.om3_coeff.specs.View.{NodesView, StaysSame}
use Rattle.page_space.specs.declared.superblock.Superblock.{Superblock}
use Rattle.page_space.specs.Shown as spaces
use Rattle.series_book.specs.declared.edits.Edit.{Edit}
use Rattle.series_book.specs.declared.one_series.Series.{Series}
use Rattle.series_book.specs.declared.outcomes.Outcome.{Outcome}
use Rattle.series_book.specs.declared.refusals.Refusal.{Refusal}
use Rattle.series_book.specs.Edits.{Edited}
use Rattle.series_catalog.specs.Shown.{series_in}
use Rattle.series_catalog.specs.declared.catalog.Catalog.{Catalog}
use Rattle.series_catalog.specs.declared.stored_series.StoredSeries.{StoredSeries}
use Rattle.stored_book.specs.Records.{entry}
use Rattle.stored_book.specs.Standing.{IsKept, StandsForBook}
use Rattle.tree_walk.specs.PagedNodes.{Ground, ground, pages_stay, paged_view}
use Rattle.tree_walk.specs.declared.tree.Tree.{Tree}
use Rattle.series_store.specs.Asking.{IsTreeAt, KeepsStore, store_keeps, store_keeps_on}
use Rattle.series_store.specs.Beside.{Kept, KeepsBeside, kept, beside_none, beside_then, beside_so}
use Rattle.series_store.specs.Changing.{IsIdle, IsAnswered, IsCarriedOut}
use Rattle.series_store.specs.Counting.{Looks}
use Rattle.series_store.specs.Groups.{GroupMoves, IsNoneOrAll}
use Rattle.series_store.specs.Results.{Moves, CommitsNone}
use Rattle.series_store.specs.declared.errors.StoreError.{StoreError}
use Rattle.series_store.specs.WhereFit.{IsKeptWhereFit}
use Rattle.series_store.specs.declared.store.Store.{Store}

module _ {P : Type 0} {g : Ghosts P} where
  abbrev pub pages : Store P g → P
  pages it = spaces.pages it.space

  abbrev pub view : Store P g → View
  view it = g.view (pages it)

  abbrev pub under : Store P g → View
  under it = g.under (pages it)

  abbrev pub image : Store P g → Image
  image it = (view it).image

  abbrev pub total : Store P g → ℕ
  total it = spaces.total it.space

  -- what page 0 tells
  abbrev pub numbers : Store P g → Superblock
  numbers it = spaces.numbers it.space

  -- the catalog in memory, and the series in it
  abbrev pub kept_catalog : Store P g → Catalog
  kept_catalog it = it.catalog

  abbrev pub catalog : Store P g → List StoredSeries
  catalog it = series_in it.catalog

  -- the same pages, with all that is kept of them, and the same catalog
  abbrev pub SamePages : Store P g → Store P g → Type 0
  SamePages old new = new.space ≡ old.space

  abbrev pub SameCatalog : Store P g → Store P g → Type 0
  SameCatalog old new = new.catalog ≡ old.catalog

  -- reads give what the pages are
  abbrev pub IsTold : Store P g → Type 0
  IsTold it = g.told (pages it)

  -- its pages are sound: more calls may be made
  abbrev pub IsSound : Store P g → Type 0
  IsSound it = (view it).fit

  -- no series is selected
  abbrev pub SelectsNone : Store P g → Type 0
  SelectsNone it = IsIdle it.tree it.trail

  -- the tree of the selected series
  abbrev pub selected : Store P g → Tree
  selected it = it.tree

  -- the series of this id is selected, if there is one
  abbrev pub Selects : Store P g → ℕ → Type 0
  Selects it id = IsTreeAt (catalog it) id it.tree

  -- the same series is selected
  abbrev pub SelectsSame : Store P g → Store P g → Type 0
  SelectsSame old new = (new.tree ≡ old.tree) × (new.trail ≡ old.trail)

  -- what the nodes of the selected series stand on, and these nodes
  abbrev pub stands_on : Store P g → Ground
  stands_on it = ground (IsTold it) (view it) (under it) (numbers it) it.tree

  abbrev pub nodes : Store P g → NodesView
  nodes it = paged_view (stands_on it) it.trail

  -- asks of these nodes keep the pages, the tree and the catalog
  abbrev pub KeepsSelected : Store P g → Store P g → Type 0
  KeepsSelected old new = KeepsStore (stands_on old) (stands_on new) old.catalog new.catalog

  -- what it has beside its pages
  abbrev pub beside : Store P g → Kept
  beside it = kept (numbers it) it.catalog it.tree it.trail

  -- the pages change so, and all else stays
  abbrev pub Keeps : Type 0 → Store P g → Store P g → Type 0
  Keeps so old new = KeepsBeside so (beside old) (beside new)

  -- so of each book that the pages stand for
  abbrev pub ForBook : Store P g → (ℕ → List Series → Type 0) → Type 0
  ForBook it IsSo = (total : ℕ) (book : List Series) → IsTold it → StandsForBook (image it) total book → IsSo total book

  -- so of each book that the pages stand for, where they are sound
  abbrev pub ForSoundBook : Store P g → (ℕ → List Series → Type 0) → Type 0
  ForSoundBook it IsSo = (total : ℕ) (book : List Series) → IsSound it → IsTold it → StandsForBook (image it) total book → IsSo total book

  -- so of each such book with its series of this id
  abbrev pub ForSeries : Store P g → ℕ → (ℕ → List Series → Series → Type 0) → Type 0
  ForSeries it id IsSo = (total : ℕ) (book : List Series) (series : Series) → IsTold it → StandsForBook (image it) total book
      → slice_get book id ≡ Some series → IsSo total book series

  abbrev pub ForSoundSeries : Store P g → ℕ → (ℕ → List Series → Series → Type 0) → Type 0
  ForSoundSeries it id IsSo = (total : ℕ) (book : List Series) (series : Series) → IsSound it → IsTold it
      → StandsForBook (image it) total book → slice_get book id ≡ Some series → IsSo total book series

  -- so of the series that the record of this id and its tree stand for, whatever else the pages are
  abbrev pub ForKept : Store P g → ℕ → (Series → Type 0) → Type 0
  ForKept it id IsSo = (series : Series) → IsTold it → IsKept (image it) (total it) series (entry (image it) id) → IsSo series

  -- so of each for which they stand where the pages of the tree fit
  abbrev pub ForFit : Store P g → ℕ → (Series → Type 0) → Type 0
  ForFit it id IsSo = (series : Series) → IsTold it → IsKeptWhereFit (image it) (total it) series (entry (image it) id) → IsSo series

  -- a call did what the book answers
  abbrev pub Answers : Result Edited Refusal → ℕ → List Series → Result Outcome StoreError → Store P g → Store P g → Type 0
  Answers answer total book result old new = IsAnswered answer total book result (view old) (view new)

  -- a call did this, whatever the pages are
  abbrev pub CarriesOut : Result Outcome StoreError → Store P g → Store P g → Type 0
  CarriesOut result old new = IsCarriedOut (IsTold old) (IsTold new) (view old) (view new) (under old) (under new) (numbers old)
      (numbers new) result

  -- an edit moves this, whatever the pages are
  abbrev pub MovesSo : Store P g → Store P g → Type 0
  MovesSo old new = Moves (IsTold old) (IsTold new) (view old) (view new)

  -- a group of edits moves this, whatever the pages are
  abbrev pub MovesGroup : Store P g → Store P g → Type 0
  MovesGroup old new = GroupMoves (IsTold old) (IsTold new) (view old) (view new)

  -- meanwhile a crash leaves the book, or the one behind so many first edits
  abbrev pub PassesNoneOrAll : ℕ → List Series → List Edit → ℕ → Store P g → Store P g → Type 0
  PassesNoneOrAll total book edits covered old new = Passes (view old) (view new) (IsNoneOrAll total book edits covered) (Quiet (view old))

  -- nothing was written or synced
  abbrev pub WritesNone : Store P g → Store P g → Type 0
  WritesNone old new = CommitsNone (view old) (view new)

  -- time goes on where the pages lie
  abbrev pub TimeGoesOn : Store P g → Store P g → Type 0
  TimeGoesOn old new = GoesOn (under old) (under new)

  -- pages are read, and nothing else changes
  abbrev pub OnlyLooks : Store P g → Store P g → Type 0
  OnlyLooks old new = Looks (IsTold old) (IsTold new) (view old) (view new) (under old) (under new) (numbers old) (numbers new)

  pub keeps_none : {so : Type 0} (at : Store P g) → so → Keeps so at at
  keeps_none {so} at are = beside_none so (beside at) are

  pub keeps_then : {one two both : Type 0} (old between new : Store P g) → (one → two → both) → Keeps one old between
      → Keeps two between new → Keeps both old new
  keeps_then {one} {two} {both} old between new join first second = beside_then one two both (beside old) (beside between)
      (beside new) join first second

  pub keeps_so : {one two : Type 0} (old new : Store P g) → (one → two) → Keeps one old new → Keeps two old new
  keeps_so {one} {two} old new more keeps = beside_so one two (beside old) (beside new) more keeps

  pub selected_keeps : (at : Store P g) → KeepsSelected at at
  selected_keeps at = store_keeps (stands_on at) at.catalog

  pub selected_keeps_on : (old mid new : Store P g) → KeepsSelected old mid → KeepsSelected mid new → KeepsSelected old new
  selected_keeps_on old mid new before after = store_keeps_on (stands_on old) (stands_on mid)
      (stands_on new) old.catalog mid.catalog new.catalog before after

  pub selected_stays : (old new : Store P g) → KeepsSelected old new → StaysSame (nodes old) (nodes new)
  selected_stays old new kept = pages_stay (stands_on old) (stands_on new) old.trail new.trail kept.pages
