-- What a sweep did, and why it ended.
use Rattle.std.specs.Prelude.{ℕ, ℤ, ◌≡◌, ◌/◌, ◌≤◌, nat_lt, List, [], take, length, Option, None, Some, MatchOption}
use Rattle.block_disk.specs.Counts.{HasRisen}
use Rattle.block_disk.specs.View.{Image, View, Passes}
use Rattle.gate_pages.specs.declared.pages.Pages.{Ghosts}
use Rattle.gate_pages.specs.Pages.{Quiet}
use Rattle.series_store.specs.Asking.{IsBadPage}
use Rattle.series_store.specs.Shown as shown
use Rattle.series_store.specs.declared.store.Store.{Store}
use Rattle.om3_coeff.specs.View.{NodesView}
use Rattle.om3_coeff.specs.Walks.{IsFirstStored}
use Rattle.om3_coeff.specs.declared.errors.NodeError.{NodeError}
use Rattle.om3_coeff.specs.declared.errors.NodeError.TheVariants as node
use Rattle.series_book.specs.declared.edits.Edit.{Edit}
use Rattle.series_book.specs.declared.one_series.Series.{Series}
use Rattle.series_book.specs.Axes.{IsAxisOf}
use Rattle.series_book.specs.EditLists.{after_edits}
use Rattle.series_book.specs.Pages.{pages_of}
use Rattle.stored_book.specs.Standing.{StandsForBook}
use Rattle.retention.specs.declared.oldest.Oldest.{Oldest}
use Rattle.retention.specs.declared.rule.Rule.{Rule}
use Rattle.retention.specs.declared.sweep_error.SweepError.{SweepError}
use Rattle.retention.specs.declared.sweep_error.SweepError.TheVariants.{UnknownSeries, DiskFault, Damaged, NoMemory}
use Rattle.retention.specs.declared.swept.Swept.{Swept}
use Rattle.retention.specs.declared.swept.SweptSome.{SweptSome}
use Rattle.retention.specs.Drops.{book_stepped}
use Rattle.retention.specs.Moving.{CommitsFew}
use Rattle.retention.specs.Steps.{IsNext}
use Rattle.retention.specs.Sweeps.{Found, NamesNone, clear_of, range_end, range_first, sweeps, sweeps_some}

-- all clears of the rule were done, so many, and behind them so many pages are in use
pub record IsSwept (total : ℕ) (book : List Series) (rule : Rule) (swept : Swept) (image : Image) : Type 0 where
  pub clears : swept.clears ≡ length (sweeps total book rule)
  pub used : swept.used ≡ pages_of (after_edits total book (sweeps total book rule))
  pub stands : StandsForBook image total (after_edits total book (sweeps total book rule))

-- at most so many first clears of the rule were done, and behind them so many pages are in use; there are more exactly where
-- the rule makes more clears than that
pub record IsSweptSome (total : ℕ) (book : List Series) (rule : Rule) (most : ℕ) (swept : SweptSome) (image : Image) : Type 0 where
  pub clears : swept.clears ≡ length (sweeps_some total book rule most)
  pub used : swept.used ≡ pages_of (book_stepped total book rule most)
  pub more : swept.more ≡ nat_lt most (length (sweeps total book rule))
  pub stands : StandsForBook image total (book_stepped total book rule most)

-- the pages stand for the book behind some first ones of these edits
pub record IsAfterFirst (total : ℕ) (book : List Series) (clears : List Edit) (image : Image) : Type 0 where
  pub done : ℕ
  pub few : done ≤ length clears
  pub stands : StandsForBook image total (after_edits total book (take done clears))

-- the pages stand for the book behind some first clears of the rule
abbrev pub IsAfterSome : ℕ → List Series → Rule → Image → Type 0
IsAfterSome total book rule image = IsAfterFirst total book (sweeps total book rule) image

-- why not all clears were done, where the pages stood for the book
abbrev pub StopsSo : ℕ → List Series → Rule → Image → SweepError → Type 0
StopsSo total book rule image UnknownSeries = NamesNone book rule
StopsSo total book rule image DiskFault = Unit {0}
StopsSo total book rule image (Damaged page) = ⊥
StopsSo total book rule image NoMemory = IsAfterSome total book rule image

-- why not all clears of a step were done, where the pages stood for the book
abbrev pub StopsSomeSo : ℕ → List Series → Rule → ℕ → Image → SweepError → Type 0
StopsSomeSo total book rule most image UnknownSeries = NamesNone book rule
StopsSomeSo total book rule most image DiskFault = Unit {0}
StopsSomeSo total book rule most image (Damaged page) = ⊥
StopsSomeSo total book rule most image NoMemory = IsAfterFirst total book (sweeps_some total book rule most) image

-- an error of nodes over pages, and what it is for a sweep
abbrev pub IsOfPages : NodeError → Type 0
IsOfPages node.DiskFault = Unit {0}
IsOfPages (node.Damaged page) = Unit {0}
IsOfPages (node.Missing key) = ⊥
IsOfPages (node.BadCoefficient key) = ⊥

abbrev pub error_of : NodeError → SweepError
error_of node.DiskFault = DiskFault
error_of (node.Damaged page) = Damaged page
error_of (node.Missing key) = NoMemory
error_of (node.BadCoefficient key) = NoMemory

-- why nodes gave no answer
abbrev pub IsAskCause : NodesView → NodesView → SweepError → Type 0
IsAskCause old new UnknownSeries = ⊥
IsAskCause old new DiskFault = HasRisen old.faults new.faults
IsAskCause old new (Damaged page) = old.bad (node.Damaged page)
IsAskCause old new NoMemory = ⊥

-- why a clear wasn't found, whatever the pages are
abbrev pub IsReadCause : SweepError → Type 0 → ℕ → View → View → Type 0
IsReadCause UnknownSeries told total old new = ⊥
IsReadCause DiskFault told total old new = HasRisen old.faults new.faults
IsReadCause (Damaged page) told total old new = IsBadPage told total new page
IsReadCause NoMemory told total old new = Unit {0}

-- why a sweep ended, whatever the pages are
abbrev pub IsSweepCause : SweepError → Type 0 → ℕ → View → View → Type 0
IsSweepCause UnknownSeries told total old new = Unit {0}
IsSweepCause DiskFault told total old new = HasRisen old.faults new.faults
IsSweepCause (Damaged page) told total old new = IsBadPage told total new page
IsSweepCause NoMemory told total old new = Unit {0}

-- unless a call of the disk failed, the pages are sound
abbrev pub IsSoundFor : SweepError → View → Type 0
IsSoundFor UnknownSeries new = new.fit
IsSoundFor DiskFault new = Unit {0}
IsSoundFor (Damaged page) new = new.fit
IsSoundFor NoMemory new = new.fit

-- where pages stand for a book, a fault of the disk or want of memory alone keeps from a clear
abbrev pub IsOutside : SweepError → Type 0
IsOutside UnknownSeries = ⊥
IsOutside DiskFault = Unit {0}
IsOutside (Damaged page) = ⊥
IsOutside NoMemory = Unit {0}

-- the clear that a rule makes first, or none
abbrev pub IsNextOrNone : ℕ → List Series → Rule → Option Edit → Type 0
IsNextOrNone total book rule next = MatchOption next (sweeps total book rule ≡ []) (λ clear. IsNext total book rule clear)

-- the clear of the first aligned range of some first slots that holds a value, by the first slot that does; or none does
pub record IsFirstClear (name : List ℕ) (series : Series) (old : ℕ) (clear : Edit) : Type 0 where
  pub slot : ℕ
  pub value : ℤ
  pub found : IsFirstStored series.slots 0 old (Some (slot, value))
  pub is : clear ≡ clear_of name series (range_first (slot / 4096)) (range_end old (slot / 4096))

abbrev pub IsFirstOrNone : List ℕ → Series → ℕ → Option Edit → Type 0
IsFirstOrNone name series old next = MatchOption next (IsFirstStored series.slots 0 old None) (IsFirstClear name series old)

-- a stored slot of the book, as it is kept in memory
pub record IsKept (found : Found) (kept : Oldest) : Type 0 where
  pub id : kept.id ≡ found.id
  pub axis : IsAxisOf found.series kept.axis
  pub slot : kept.slot ≡ found.slot

abbrev pub AreKept : Option Found → Option Oldest → Type 0
AreKept None kept = kept ≡ None
AreKept (Some found) kept = MatchOption kept ⊥ (IsKept found)

-- the same in the words of a store
module _ {P : Type 0} {g : Ghosts P} where
  -- why a clear wasn't found, or not done
  abbrev pub ReadFails : SweepError → Store P g → Store P g → Type 0
  ReadFails e old new = IsReadCause e (shown.IsTold new) (shown.total old) (shown.view old) (shown.view new)

  abbrev pub FailsFor : SweepError → Store P g → Store P g → Type 0
  FailsFor e old new = IsSweepCause e (shown.IsTold new) (shown.total old) (shown.view old) (shown.view new)

  -- a page of which the nodes of the selected series tell is bad
  abbrev pub TellsBad : Store P g → Type 0
  TellsBad it = (page : ℕ) → (shown.nodes it).bad (node.Damaged page) → IsBadPage (shown.IsTold it) (shown.total it) (shown.view it) page

  -- and they tell of none
  abbrev pub TellsNone : Store P g → Type 0
  TellsNone it = (page : ℕ) → (shown.nodes it).bad (node.Damaged page) → ⊥

  -- meanwhile a crash leaves the book behind some first clears of the rule
  abbrev pub PassesSome : ℕ → List Series → Rule → Store P g → Store P g → Type 0
  PassesSome total book rule old new = Passes (shown.view old) (shown.view new) (IsAfterSome total book rule) (Quiet (shown.view old))

  -- the same of a step
  abbrev pub PassesStep : ℕ → List Series → Rule → ℕ → Store P g → Store P g → Type 0
  PassesStep total book rule most old new =
      Passes (shown.view old) (shown.view new) (IsAfterFirst total book (sweeps_some total book rule most)) (Quiet (shown.view old))

  -- at most so many commits, each of at most 42 pages, whatever is answered
  abbrev pub Commits : ℕ → Store P g → Store P g → Type 0
  Commits most old new = CommitsFew most (shown.view old) (shown.view new)
