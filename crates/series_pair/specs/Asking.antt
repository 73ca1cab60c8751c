-- What a pair of series means as two trees, and what asks and turns change.
use Rattle.std.specs.Prelude.{ℕ, ℤ, ◌≡◌, ◌<◌, ◌≤◌, Bool, List, length, slice_get, Option, Some}
use Rattle.block_disk.specs.Counts.{HasRisen}
use Rattle.gate_pages.specs.declared.pages.Pages.{Ghosts}
use Rattle.om3_coeff.specs.View.{NodesView}
use Rattle.om3_coeff.specs.declared.errors.NodeError.{NodeError}
use Rattle.om3_coeff.specs.declared.errors.NodeError.TheVariants.{DiskFault, Damaged, Missing, BadCoefficient}
use Rattle.retention.specs.Moving.{LooksOnly}
use Rattle.series_book.specs.declared.one_series.Series.{Series}
use Rattle.series_store.specs.Shown as shown
use Rattle.stored_book.specs.Standing.{StandsForBook}
use Rattle.series_pair.specs.Damage.{IsBadOnWay}
use Rattle.series_pair.specs.Pairs.{counted, side_of, slots_at}
use Rattle.series_pair.specs.declared.store_pair.StorePair.{StorePair}

module _ {P : Type 0} {g : Ghosts P} where
  -- both series are in the catalog, and the one that is asked is selected
  pub record IsPair (at : StorePair P g) : Type 0 where
    pub first : at.x < length (shown.catalog at.store.now)
    pub second : at.y < length (shown.catalog at.store.now)
    pub selected : shown.Selects at.store.now (side_of at.is_second at.x at.y)

  -- the pages are sound too
  abbrev pub IsReady : StorePair P g → Type 0
  IsReady at = shown.IsSound at.store.now × IsPair at

  -- a pair is the nodes of the series that is selected
  abbrev pub pair_view : StorePair P g → NodesView
  pair_view at = record (shown.nodes at.store.now) { fit = (shown.nodes at.store.now).fit × IsPair at }

  -- how many slots the one or the other has
  abbrev pub count : Bool → StorePair P g → ℕ
  count second at = counted second at.is_second (shown.nodes at.store.now).slots
      (slots_at (shown.catalog at.store.now) (side_of second at.x at.y))

  -- asks keep the store, the pages, the catalog, both ids, and which series is asked
  pub record KeepsPair (old new : StorePair P g) : Type 0 where
    pub reference : new.store.ghost_name ≡ old.store.ghost_name
    pub side : new.is_second ≡ old.is_second
    pub first : new.x ≡ old.x
    pub second : new.y ≡ old.y
    pub store : shown.KeepsSelected old.store.now new.store.now
    pub faults : (shown.view old.store.now).faults ≤ (shown.view new.store.now).faults

  -- asks and turns: the store, both ids and the slots stay, and pages are read, and nothing else changes
  pub record GoesPair (old new : StorePair P g) : Type 0 where
    pub reference : new.store.ghost_name ≡ old.store.ghost_name
    pub first : new.x ≡ old.x
    pub second : new.y ≡ old.y
    pub looks : LooksOnly old.store.now new.store.now
    pub pair : IsPair old → IsPair new
    pub counts : (side : Bool) → count side new ≡ count side old

  -- the pages stand for a book whose series at the two ids have these slots
  pub record ArePair (at : StorePair P g) (xs ys : List (Option ℤ)) : Type 0 where
    pub ready : IsReady at
    pub told : shown.IsTold at.store.now
    pub total : ℕ
    pub book : List Series
    pub stands : StandsForBook (shown.image at.store.now) total book
    pub one : Series
    pub other : Series
    pub first : slice_get book at.x ≡ Some one
    pub second : slice_get book at.y ≡ Some other
    pub first_is : one.slots ≡ xs
    pub second_is : other.slots ≡ ys

  -- why an ask gave no coefficient: a page that it calls damaged is so, and then the pages stand for no book
  abbrev pub IsAskCause : StorePair P g → StorePair P g → NodeError → Type 0
  IsAskCause old new DiskFault = HasRisen (shown.view old.store.now).faults (shown.view new.store.now).faults
  IsAskCause old new (Damaged page) =
      IsBadOnWay old.x old.y (shown.IsTold new.store.now) (shown.total old.store.now) (shown.view new.store.now) page
      × shown.ForBook old.store.now (λ total book. ⊥)
  IsAskCause old new (Missing key) = ⊥
  IsAskCause old new (BadCoefficient key) = ⊥

  -- the same of a pair whose pages are sound
  abbrev pub Causes : StorePair P g → StorePair P g → NodeError → Type 0
  Causes old new error = IsReady old → IsAskCause old new error
