-- What staging an edit does, in a transaction and in the catalog.
use Rattle.std.specs.Prelude.{ℕ, ℤ, Option, ◌≡◌, ◌+◌, ◌/◌, ◌-ℤ◌, ◌<◌, ◌≤◌, ◌^◌, ◌++◌, ◌∷◌, [], min, max, unsigned_abs, List, length}
use Rattle.std.specs.Prelude.{slice_get, Some, Result, Ok, Err, IfOk, IfErr, IfSome, OnOk, OnErr, ⊤}
use Rattle.block_disk.specs.Counts.{HasRisen}
use Rattle.block_disk.specs.View.{Image, View}
use Rattle.gate_pages.specs.declared.pages.Pages.{Ghosts}
use Rattle.page_space.specs.Shown as spaces
use Rattle.page_space.specs.Transactions.{held, left_by, told_by}
use Rattle.page_space.specs.declared.space.Space.{Space}
use Rattle.page_space.specs.declared.superblock.Superblock.{Superblock}
use Rattle.page_space.specs.declared.txn.Txn.{Txn}
use Rattle.om3_coeff.specs.Keys.{page_levels}
use Rattle.path_repair.specs.Costs.{touch}
use Rattle.path_repair.specs.Standing.{ReadsMost}
use Rattle.series_book.specs.declared.limits.TheConstants.{MOST_CLEARED, MOST_SLOTS, MOST_VALUES}
use Rattle.series_book.specs.declared.axis.Axis.{Axis}
use Rattle.series_book.specs.declared.one_series.Series.{Series}
use Rattle.series_book.specs.declared.refusals.Refusal.{Refusal}
use Rattle.series_book.specs.Books.{IsBook}
use Rattle.series_book.specs.Edits.{Edited, apply, with_slots}
use Rattle.series_book.specs.declared.edits.Edit.{Edit}
use Rattle.series_book.specs.declared.edits.Edit.TheVariants.{Create, Append, Set, Clear}
use Rattle.series_catalog.specs.Catalogs.{AreFit, AreAsTold, entry_of, place_of, with_tree}
use Rattle.series_catalog.specs.Shown.{series_in}
use Rattle.series_catalog.specs.declared.catalog.Catalog.{Catalog}
use Rattle.series_catalog.specs.declared.stored_series.StoredSeries.{StoredSeries}
use Rattle.stored_book.specs.Damage.{IsDamagedOnce}
use Rattle.stored_book.specs.Changing.{IsLater, IsTreeChanged}
use Rattle.stored_book.specs.Records.{entry}
use Rattle.stored_book.specs.Standing.{AreCatalog, IsStore, StandsForBook}
use Rattle.tree_walk.specs.SpaceViews.{StaysOn}
use Rattle.tree_walk.specs.declared.tree.Tree.{Tree}
use Rattle.series_book.specs.declared.outcomes.Outcome.{Outcome}
use Rattle.series_store.specs.Changing.{after_put, with_added, with_cleared, IsCarriedOut, IsDoneBy, IsRefusedBy}
use Rattle.series_store.specs.Groups.{touch_of, touched_slots}
use Rattle.series_store.specs.declared.errors.StoreError.{StoreError}
use Rattle.series_store.specs.declared.errors.StoreError.TheVariants.{Refused, NotAStore, DiskFault, Damaged, NoMemory}
use Rattle.series_store.specs.declared.staged.Staged.{Staged}
use Rattle.series_store.specs.declared.staged.Undo.{Undo}
use Rattle.series_store.specs.declared.staged.Undo.TheVariants as undo

-- a catalog in memory is that of pages with these numbers, where these tell what they are
pub record IsCatalogOf (told : Type 0) (image : Image) (s : Superblock) (items : List StoredSeries) : Type 0 where
  pub small : s.total < 2 ^ 32
  pub count : length items ≡ s.series
  pub fits : AreFit s.fresh items
  pub are_told : told → AreAsTold image items
  pub whole : told → AreCatalog image s.fresh s.series

-- the series of this id had this tree
pub record HadTree (id : ℕ) (tree : Tree) (now before : List StoredSeries) : Type 0 where
  pub one : StoredSeries
  pub there : slice_get before id ≡ Some one
  pub had : one.tree ≡ tree
  pub changed : Tree
  pub now_are : now ≡ with_tree before id one changed

-- the last series is new
pub record HasLast (now before : List StoredSeries) : Type 0 where
  pub last : StoredSeries
  pub now_are : now ≡ before ++ last ∷ []

-- what the series of a catalog were before an edit
abbrev pub TakesBack : Undo → List StoredSeries → List StoredSeries → Type 0
TakesBack undo.Nothing now before = now ≡ before
TakesBack (undo.Tree id tree) now before = HadTree id tree now before
TakesBack undo.Last now before = HasLast now before

-- why an edit wasn't staged, where the transaction would leave these pages
abbrev pub IsStageCause : StoreError → Type 0 → Image → Superblock → ℕ → ℕ → Type 0
IsStageCause (Refused refusal) told image s old new = Unit {0}
IsStageCause NotAStore told image s old new = ⊥
IsStageCause DiskFault told image s old new = HasRisen old new
IsStageCause (Damaged page) told image s old new = (page < s.total) × (told → IsDamagedOnce image s page)
IsStageCause NoMemory told image s old new = Unit {0}

-- the edit is staged, or refused
abbrev pub IsAnswer : Result Staged StoreError → Type 0
IsAnswer (Ok staged) = ⊤
IsAnswer (Err (Refused refusal)) = ⊤
IsAnswer (Err NotAStore) = ⊥
IsAnswer (Err DiskFault) = ⊥
IsAnswer (Err (Damaged page)) = ⊥
IsAnswer (Err NoMemory) = ⊥

-- the edit is refused
abbrev pub IsRefusal : StoreError → Type 0
IsRefusal (Refused refusal) = ⊤
IsRefusal NotAStore = ⊥
IsRefusal DiskFault = ⊥
IsRefusal (Damaged page) = ⊥
IsRefusal NoMemory = ⊥

-- how many pages a change of the slots of a tree from first on and below end puts into a transaction at most: those of the
-- tree that it touches, and the one of the series' record
abbrev pub puts_in : Tree → ℕ → ℕ → ℕ
puts_in tree first end = 1 + touch first end (page_levels tree.slots) (page_levels (max tree.slots end)) 0

-- the slot of a series at a time
abbrev pub slot_at_time : StoredSeries → ℤ → ℕ
slot_at_time one time = unsigned_abs (time -ℤ one.start) / one.step

-- so of the series of this name, where there is one
abbrev pub ForNamed : List StoredSeries → List ℕ → (StoredSeries → Type 0) → Type 0
ForNamed items name IsSo = IfSome (place_of name items) (λ id. IfSome (slice_get items id) IsSo)

-- a transaction that holds so many pages, of 64 that it may, has room for a change of these slots of a tree
abbrev pub HasRoomIn : ℕ → Tree → ℕ → ℕ → Type 0
HasRoomIn pages tree first end = pages + puts_in tree first end ≤ 64

-- the same of the tree of the series of this id
abbrev pub HasRoomAt : ℕ → List StoredSeries → ℕ → ℕ → ℕ → Type 0
HasRoomAt pages items id first end = IfSome (slice_get items id) (λ one. HasRoomIn pages one.tree first end)

-- it has room for an edit that changes slots, unless too many
abbrev pub HasRoomFor : ℕ → List StoredSeries → Edit → Type 0
HasRoomFor pages items (Create name start step scale) = pages < 64
HasRoomFor pages items (Append name values) =
    ForNamed items name (λ one. length values ≤ MOST_VALUES → one.tree.slots + length values ≤ MOST_SLOTS
    → HasRoomIn pages one.tree one.tree.slots (one.tree.slots + length values))
HasRoomFor pages items (Set name time values) =
    ForNamed items name (λ one. length values ≤ MOST_VALUES → slot_at_time one time + length values ≤ MOST_SLOTS
    → HasRoomIn pages one.tree (slot_at_time one time) (slot_at_time one time + length values))
HasRoomFor pages items (Clear name time count) =
    ForNamed items name (λ one. 0 < count → count ≤ MOST_CLEARED → slot_at_time one time < one.tree.slots
    → HasRoomIn pages one.tree (slot_at_time one time) (min (slot_at_time one time + count) one.tree.slots))

-- the axis of the series of this name
pub record IsAxisIn (items : List StoredSeries) (name : List ℕ) (axis : Axis) : Type 0 where
  pub id : ℕ
  pub one : StoredSeries
  pub named : place_of name items ≡ Some id
  pub there : slice_get items id ≡ Some one
  pub start : axis.start ≡ one.start
  pub step : axis.step ≡ one.step
  pub slots : axis.slots ≡ one.tree.slots
  pub few : axis.slots ≤ MOST_SLOTS
  pub some : 1 ≤ axis.step

-- each series has no more slots than there may be, and a step
abbrev pub AreInRange : List StoredSeries → Type 0
AreInRange items = (id : ℕ) (one : StoredSeries) → slice_get items id ≡ Some one → (one.tree.slots ≤ MOST_SLOTS) × (1 ≤ one.step)

-- what staging an edit does, whatever the pages are
pub record IsStaging (told told' : Type 0) (old new under under' : View) (s s' : Superblock) (txn txn' : Txn)
    (items items' : List StoredSeries) (result : Result Staged StoreError) : Type 0 where
  pub reads : ReadsMost 96 told told' old new
  pub over : StaysOn s s' under under'
  pub total : (told_by txn').total ≡ (told_by txn).total
  pub cause : IfErr result (λ e. IsStageCause e told (left_by txn old.image) (told_by txn) old.faults new.faults)
  pub kept : OnErr result (items' ≡ items)
  pub back : IfOk result (λ staged. TakesBack staged.undo items' items)
  pub nothing : IfOk result (λ staged. staged.undo ≡ undo.Nothing → txn' ≡ txn)
  pub stands : IsAnswer result → IsCatalogOf told' (left_by txn' new.image) (told_by txn') items'
  pub few : length (held txn') ≤ length (held txn) + 41
  pub slots : IfOk result (λ staged. staged.outcome.slots ≤ MOST_SLOTS)

-- where a transaction would leave pages that stand for a book which answers so, an edit was staged, or refused
pub record IsStagedBy (answer : Result Edited Refusal) (touched total : ℕ) (result : Result Staged StoreError) (txn txn' : Txn)
    (image' : Image) : Type 0 where
  pub done : IfOk result (λ staged. IsDoneBy answer total staged.outcome image')
  pub refused : IfErr result (λ e. IsRefusedBy answer e)
  pub same : IfErr result (λ e. IsRefusal e → txn' ≡ txn)
  pub few : OnOk result (length (held txn') ≤ length (held txn) + (1 + touched))

-- A transaction changed the tree of a series, with these pages and these numbers, and its record isn't changed yet: before,
-- the pages stood for a book.
pub record IsPartChanged (mid : Image) (s : Superblock) (one : StoredSeries) (id : ℕ) (tree : Tree) (book : List Series) (series : Series)
    (slots : List (Option ℤ)) : Type 0 where
  pub before : Image
  pub numbers : Superblock
  pub store : IsStore before numbers book
  pub there : slice_get book id ≡ Some series
  pub says : entry before id ≡ entry_of one
  pub later : IsLater numbers s
  pub changed : IsTreeChanged before mid (length book) id s tree slots

-- so of the book with the changed slots
abbrev pub ForChangedTree : Image → Superblock → List StoredSeries → ℕ → Tree → (List Series → Type 0) → Type 0
ForChangedTree mid s items id tree IsSo =
    (one : StoredSeries) (book : List Series) (series : Series) (slots : List (Option ℤ)) → slice_get items id ≡ Some one
    → IsPartChanged mid s one id tree book series slots → IsSo (with_slots book id series slots)

-- of so many pages in all
pub record IsWholeOf (total : ℕ) (told : Type 0) (image : Image) (s : Superblock) (items : List StoredSeries) : Type 0 where
  pub total_is : s.total ≡ total
  pub catalog : IsCatalogOf told image s items

module _ {P : Type 0} {g : Ghosts P} where
  -- the catalog is that of the pages that the transaction would leave
  abbrev pub IsStaged : Space P g → Txn → Catalog → Type 0
  IsStaged space txn catalog = IsWholeOf (spaces.total space) (spaces.IsTold space) (spaces.left space txn) (told_by txn)
      (series_in catalog)

  -- the catalog is that of the pages, while they are sound
  abbrev pub IsStored : Space P g → Catalog → Type 0
  IsStored space catalog = IsCatalogOf (spaces.IsSound space
      × spaces.IsTold space) (spaces.image space) (spaces.numbers space) (series_in catalog)

  -- the same while they are sound
  abbrev pub IsKept : Space P g → Catalog → Type 0
  IsKept space catalog = IsCatalogOf (spaces.IsTold space) (spaces.image space) (spaces.numbers space) (series_in catalog)

  -- the transaction would leave the pages as they are
  abbrev pub LeavesAll : Space P g → Txn → Type 0
  LeavesAll space txn = (told_by txn ≡ spaces.numbers space) × (spaces.IsTold space → spaces.left space txn ≡ spaces.image space)

  -- so of each book that the pages stand for
  abbrev pub ForKept : Space P g → (ℕ → List Series → Type 0) → Type 0
  ForKept space IsSo = (total : ℕ) (book : List Series) → spaces.IsTold space → StandsForBook (spaces.image space) total book
      → IsSo total book

  -- so of each book that the transaction would leave
  abbrev pub ForStaged : Space P g → Txn → (ℕ → List Series → Type 0) → Type 0
  ForStaged space txn IsSo = (total : ℕ) (book : List Series) → spaces.IsTold space → StandsForBook (spaces.left space txn) total book
      → IsSo total book

  -- so of each such book with its series of this id
  abbrev pub ForStagedSeries : Space P g → Txn → ℕ → (ℕ → List Series → Series → Type 0) → Type 0
  ForStagedSeries space txn id IsSo = (total : ℕ) (book : List Series) (series : Series) → spaces.IsTold space
      → StandsForBook (spaces.left space txn) total book → slice_get book id ≡ Some series → IsSo total book series

  -- staging an edit does this, whatever the pages are
  abbrev pub Stages : Result Staged StoreError → Space P g → Space P g → Txn → Txn → Catalog → Catalog → Type 0
  Stages result old new txn txn' catalog catalog' =
      IsStaging (spaces.IsTold old) (spaces.IsTold new) (spaces.view old) (spaces.view new) (spaces.under old) (spaces.under new)
      (spaces.numbers old) (spaces.numbers new) txn txn' (series_in catalog) (series_in catalog') result

  -- an edit was staged as the book answers it
  abbrev pub AnswersSo : Result Edited Refusal → ℕ → ℕ → Result Staged StoreError → Space P g → Txn → Txn → Type 0
  AnswersSo answer touched total result new txn txn' = IsStagedBy answer touched total result txn txn' (spaces.left new txn')

  -- the same of an edit, as each book answers it that the transaction would leave
  abbrev pub AnswersEdit : Edit → Result Staged StoreError → Space P g → Space P g → Txn → Txn → Type 0
  AnswersEdit edit result old new txn txn' = ForStaged old txn
      (λ total book. AnswersSo (apply book total edit) (touch_of book edit) total result new txn txn')

  -- of values that are put into the slots of its series of this id
  abbrev pub AnswersPut : ℕ → ℕ → List (Option ℤ) → Result Staged StoreError → Space P g → Space P g → Txn → Txn → Type 0
  AnswersPut id slot values result old new txn txn' =
      ForStagedSeries old txn id (λ total book series. AnswersSo (after_put total book id series slot values)
      (touched_slots series slot (slot + length values)) total result new txn txn')

  -- of slots of that series that are cleared
  abbrev pub AnswersCleared : ℕ → ℕ → ℕ → Result Staged StoreError → Space P g → Space P g → Txn → Txn → Type 0
  AnswersCleared id slot count result old new txn txn' =
      ForStagedSeries old txn id (λ total book series. AnswersSo (Ok (with_cleared book id series slot count))
      (touched_slots series slot (slot + count)) total result new txn txn')

  -- of a series that is added
  abbrev pub AnswersAdded : StoredSeries → Result Staged StoreError → Space P g → Space P g → Txn → Txn → Type 0
  AnswersAdded series result old new txn txn' =
      ForStaged old txn (λ total book. IsBook (with_added book series).book
      → AnswersSo (Ok (with_added book series)) 0 total result new txn txn')

  -- where the tree of a series was changed, the transaction would leave the book with the changed slots
  abbrev pub StandsChanged : ℕ → Tree → Result Staged StoreError → Space P g → Space P g → Txn → Txn → Catalog → Type 0
  StandsChanged id tree result old new txn txn' catalog =
      spaces.IsTold old
      → ForChangedTree (spaces.left old txn) (told_by txn) (series_in catalog) id tree
      (λ book. OnOk result (StandsForBook (spaces.left new txn') (told_by txn).total book))

  -- a call did this, whatever the pages are
  abbrev pub CarriesOut : Result Outcome StoreError → Space P g → Space P g → Type 0
  CarriesOut result old new =
      IsCarriedOut (spaces.IsTold old) (spaces.IsTold new) (spaces.view old) (spaces.view new) (spaces.under old) (spaces.under new)
      (spaces.numbers old) (spaces.numbers new) result
