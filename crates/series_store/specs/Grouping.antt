-- How a group of edits is staged one after the other, and committed.
use Rattle.std.specs.Prelude.{ℕ, ◌≡◌, ◌+◌, ◌*◌, ◌<◌, ◌≤◌, ◌⊎◌, ◌++◌, ◌∷◌, Bool, true, false, List, [], length, take, drop, Result, IsErr}
use Rattle.std.specs.Prelude.{IfOk, IfErr, OnOk, OnErr, Vec}
use Rattle.block_disk.specs.Counts.{HasRisen}
use Rattle.block_disk.specs.View.{Image, View, Passes}
use Rattle.gate_pages.specs.Pages.{GoesOn, Quiet}
use Rattle.gate_pages.specs.declared.pages.Pages.{Ghosts}
use Rattle.page_space.specs.Shown as spaces
use Rattle.page_space.specs.Transactions.{held, left_by, told_by}
use Rattle.page_space.specs.declared.space.Space.{Space}
use Rattle.page_space.specs.declared.superblock.Superblock.{Superblock}
use Rattle.page_space.specs.declared.txn.Txn.{Txn}
use Rattle.series_book.specs.declared.limits.TheConstants.{MOST_SLOTS}
use Rattle.series_book.specs.declared.edits.Edit.{Edit}
use Rattle.series_book.specs.declared.one_series.Series.{Series}
use Rattle.series_book.specs.declared.outcomes.Outcome.{Outcome}
use Rattle.series_book.specs.declared.refusals.Refusal.{Refusal}
use Rattle.series_book.specs.Edits.{apply}
use Rattle.series_book.specs.EditLists.{after_edits, book_behind, slots_behind}
use Rattle.series_catalog.specs.Shown.{series_in}
use Rattle.series_catalog.specs.declared.catalog.Catalog.{Catalog}
use Rattle.series_catalog.specs.declared.stored_series.StoredSeries.{StoredSeries}
use Rattle.path_repair.specs.Standing.{ReadsMost}
use Rattle.stored_book.specs.Standing.{StandsForBook}
use Rattle.tree_walk.specs.SpaceViews.{StaysOn}
use Rattle.series_store.specs.Groups.{AreDone, AreMany, AreSome, ChangeNone, GroupMoves, HaveFewSlots, IsGroupCause, IsNoneOrAll}
use Rattle.series_store.specs.Groups.{PassesUntil, PassesWhole, RefuseLast, answer_of, touch_of, weight, weight_of}
use Rattle.series_store.specs.Opening.{IsOutside}
use Rattle.series_store.specs.Results.{ChangesNone, CommitsNone, IsUnchangedFor}
use Rattle.series_store.specs.Shown as shown
use Rattle.series_store.specs.Staging.{IsCatalogOf, IsWholeOf, TakesBack}
use Rattle.series_store.specs.declared.staged.Undo.{Undo}
use Rattle.series_store.specs.declared.staged.Undo.TheVariants.{Nothing}
use Rattle.series_store.specs.declared.store.Store.{Store}
use Rattle.series_store.specs.declared.errors.StoreError.{StoreError}
use Rattle.series_store.specs.declared.errors.StoreError.TheVariants.{Refused, NotAStore, DiskFault, Damaged, NoMemory}

-- why no edit was done, beside which page is damaged
abbrev pub IsFailure : StoreError → ℕ → ℕ → Type 0
IsFailure (Refused refusal) old new = ⊥
IsFailure NotAStore old new = ⊥
IsFailure DiskFault old new = HasRisen old new
IsFailure (Damaged page) old new = Unit {0}
IsFailure NoMemory old new = Unit {0}

-- a page is damaged
abbrev pub IsDamage : StoreError → Type 0
IsDamage (Refused refusal) = ⊥
IsDamage NotAStore = ⊥
IsDamage DiskFault = ⊥
IsDamage (Damaged page) = Unit {0}
IsDamage NoMemory = ⊥

-- the answers behind those that were there
abbrev pub given : List (Result Outcome Refusal) → List (Result Outcome Refusal) → List (Result Outcome Refusal)
given before answers = drop (length before) answers

-- the pages from before, or those of a book
abbrev pub IsSameOr : Image → ℕ → List Series → Image → Type 0
IsSameOr before total book image = (image ≡ before) ⊎ StandsForBook image total book

-- What a call does that stages edits behind others and commits them all, whatever the pages are. So many pages are held
-- before.
pub record IsGrouping (told told' : Type 0) (old new under under' : View) (s s' : Superblock) (held_pages : ℕ)
    (items items' : List StoredSeries) (edits : List Edit) (before answers added : List (Result Outcome Refusal))
    (result : Result (Unit {0}) StoreError) : Type 0 where
  pub moves : GroupMoves told told' old new
  pub goes_on : GoesOn under under'
  pub failure : IfErr result (λ e. IsFailure e old.faults new.faults)
  pub unchanged : IfErr result (λ e. IsUnchangedFor e told old new)
  pub sound : OnOk result new.fit
  pub image : OnErr result (new.fit → told → new.image ≡ old.image)
  pub numbers : OnErr result (s' ≡ s)
  pub kept : OnErr result (items' ≡ items)
  pub total : s'.total ≡ s.total
  pub stored : OnOk result (IsCatalogOf (new.fit × told') new.image s' items')
  pub more : length items ≤ length items'
  pub answers_are : answers ≡ before ++ added
  pub within : length added ≤ length edits
  pub some : 0 < length edits → held_pages ≤ 22 → OnOk result (0 < length added)
  pub slots : HaveFewSlots added
  pub reads : new.reads ≤ old.reads + 96 * length edits

-- The edits behind the answered one follow it, or, where a refusal ends them and that is one, none does.
abbrev pub Follow : Bool → Result Outcome Refusal → List Edit → List Edit → Type 0
Follow ends answer rest behind = ((behind ≡ rest) × (ends ≡ true → IsErr answer → ⊥)) ⊎ ((behind ≡ []) × (ends ≡ true))

-- What it does where the pages that the edits before would leave stand for a book. A refusal ends them or doesn't.
pub record IsGroupedBy (total : ℕ) (book : List Series) (held_pages : ℕ) (ends is_changed : Bool) (edits : List Edit)
    (answers : List (Result Outcome Refusal)) (result : Result (Unit {0}) StoreError) (old new : View) : Type 0 where
  pub done : OnOk result (AreDone total book edits answers new.image)
  pub many : ends ≡ false → OnOk result ((length answers ≡ length edits)
      ⊎ (22 < held_pages + weight total book (take (length answers) edits)))
  pub outside : IfErr result IsOutside
  pub reads : new.reads ≤ old.reads + 96 * length edits
  pub few_reads : OnOk result (new.reads ≤ old.reads + 96 * length answers)
  pub idle : OnOk result (is_changed ≡ false → ChangeNone total book (take (length answers) edits) → CommitsNone old new)
  pub covered : ℕ
  pub few : covered ≤ length edits
  pub same : OnOk result (covered ≡ length answers)
  pub last : ends ≡ true → RefuseLast total book (take covered edits)
  pub moments : Passes old new (IsSameOr old.image total (after_edits total book (take covered edits))) (Quiet old)

-- What staging an edit behind others does, whatever the pages are.
pub record IsNext (told told' : Type 0) (old new under under' : View) (s s' : Superblock) (txn txn' : Txn)
    (items items' : List StoredSeries) (before answers : List (Result Outcome Refusal)) (result : Result Undo StoreError) : Type 0 where
  pub reads : ReadsMost 96 told told' old new
  pub over : StaysOn s s' under under'
  pub failure : IfErr result (λ e. IsFailure e old.faults new.faults)
  pub kept : OnErr result (items' ≡ items)
  pub same : OnErr result (answers ≡ before)
  pub back : IfOk result (λ undo. TakesBack undo items' items)
  pub staged : OnOk result (IsWholeOf s'.total told' (left_by txn' new.image) (told_by txn') items')
  pub answer : Result Outcome Refusal
  pub answers_are : OnOk result (answers ≡ before ++ answer ∷ [])
  pub slots : IfOk answer (λ outcome. outcome.slots ≤ MOST_SLOTS)

-- What it does where the pages that the edits before would leave stand for a book.
pub record IsNextBy (total : ℕ) (book : List Series) (edit : Edit) (result : Result Undo StoreError) (txn txn' : Txn) (image' : Image)
    (before answers : List (Result Outcome Refusal)) : Type 0 where
  pub outside : IfErr result IsOutside
  pub answer : Result Outcome Refusal
  pub answers_are : OnOk result (answers ≡ before ++ answer ∷ [])
  pub says : OnOk result (answer_of answer ≡ slots_behind (apply book total edit))
  pub stands : OnOk result (StandsForBook image' total (book_behind book (apply book total edit)))
  pub few : OnOk result (length (held txn') ≤ length (held txn) + weight_of (apply book total edit) (touch_of book edit))
  pub idle : IfOk result (λ undo. (IsErr (apply book total edit) ⊎ ChangesNone total book edit) → undo ≡ Nothing)
  pub nothing : IfOk result (λ undo. undo ≡ Nothing → txn' ≡ txn)

-- What a group of edits does, whatever the pages are.
pub record DidGroup {Z : Type 0} (told told' : Type 0) (old new under under' : View) (s s' : Superblock) (items items' : List StoredSeries)
    (edits : List Edit) (result : Result (Vec (Result Outcome Refusal) Z) StoreError) : Type 0 where
  pub covered : IfOk result (λ answers. AreSome edits (length answers.items))
  pub moves : GroupMoves told told' old new
  pub goes_on : GoesOn under under'
  pub cause : IfErr result (λ e. IsGroupCause e told s old new)
  pub unchanged : IfErr result (λ e. IsUnchangedFor e told old new)
  pub sound : OnOk result new.fit
  pub total : s'.total ≡ s.total
  pub slots : IfOk result (λ answers. HaveFewSlots answers.items)
  pub more : length items ≤ length items'

-- What it does where the pages stand for a book.
pub record IsGroupAnswered {Z : Type 0} (total : ℕ) (book : List Series) (edits : List Edit) (ends : Bool) (old new : View)
    (result : Result (Vec (Result Outcome Refusal) Z) StoreError) : Type 0 where
  pub done : IfOk result (λ answers. AreDone total book edits answers.items new.image)
  pub many : ends ≡ false → IfOk result (λ answers. AreMany total book edits (length answers.items))
  pub outside : IfErr result IsOutside
  pub moments : IfOk result (λ answers. Passes old new (IsNoneOrAll total book edits (length answers.items)) (Quiet old))
  pub whole : PassesWhole total book edits old new
  pub until : ends ≡ true → PassesUntil total book edits old new
  pub last : ends ≡ true → IfOk result (λ answers. RefuseLast total book (take (length answers.items) edits))
  pub reads : new.reads ≤ old.reads + 96 * length edits
  pub few_reads : IfOk result (λ answers. new.reads ≤ old.reads + 96 * length answers.items)
  pub idle : IfOk result (λ answers. ChangeNone total book (take (length answers.items) edits) → CommitsNone old new)

module _ {P : Type 0} {g : Ghosts P} where
  abbrev pub GoesNext : Result Undo StoreError → Space P g → Space P g → Txn → Txn → Catalog → Catalog → List (Result Outcome Refusal)
      → List (Result Outcome Refusal) → Type 0
  GoesNext result old new txn txn' catalog catalog' before answers =
      IsNext (spaces.IsTold old) (spaces.IsTold new) (spaces.view old) (spaces.view new) (spaces.under old) (spaces.under new)
      (spaces.numbers old) (spaces.numbers new) txn txn' (series_in catalog) (series_in catalog') before answers result

  abbrev pub AnswersNext : ℕ → List Series → Edit → Result Undo StoreError → Space P g → Txn → Txn → List (Result Outcome Refusal)
      → List (Result Outcome Refusal) → Type 0
  AnswersNext total book edit result new txn txn' before answers = IsNextBy total book edit result txn txn'
      (spaces.left new txn') before answers

  -- so of each book that the transaction would leave, the one of the pages if nothing is changed
  abbrev pub ForGroup : Space P g → Txn → Bool → (ℕ → List Series → Type 0) → Type 0
  ForGroup space txn is_changed IsSo =
      (total : ℕ) (book : List Series) → spaces.IsTold space → StandsForBook (spaces.left space txn) total book
      → (is_changed ≡ false → spaces.left space txn ≡ spaces.image space) → IsSo total book

  abbrev pub DoesGroup : {Z : Type 0} → List Edit → Result (Vec (Result Outcome Refusal) Z) StoreError → Store P g → Store P g → Type 0
  DoesGroup edits result old new =
      DidGroup (shown.IsTold old) (shown.IsTold new) (shown.view old) (shown.view new) (shown.under old) (shown.under new)
      (shown.numbers old) (shown.numbers new) (shown.catalog old) (shown.catalog new) edits result

  abbrev pub AnswersGroup : {Z : Type 0} → ℕ → List Series → List Edit → Bool → Result (Vec (Result Outcome Refusal) Z) StoreError
      → Store P g → Store P g → Type 0
  AnswersGroup total book edits ends result old new = IsGroupAnswered total book edits ends (shown.view old) (shown.view new) result

  abbrev pub Groups : Result (Unit {0}) StoreError → Space P g → Space P g → Txn → Catalog → Catalog → List Edit
      → List (Result Outcome Refusal) → List (Result Outcome Refusal) → Type 0
  Groups result old new txn catalog catalog' edits before answers =
      IsGrouping (spaces.IsTold old) (spaces.IsTold new) (spaces.view old) (spaces.view new) (spaces.under old) (spaces.under new)
      (spaces.numbers old) (spaces.numbers new)
      (length (held txn)) (series_in catalog) (series_in catalog') edits before answers (given before answers) result

  abbrev pub GroupsSo : ℕ → List Series → Result (Unit {0}) StoreError → Space P g → Space P g → Txn → Bool → Bool → List Edit
      → List (Result Outcome Refusal) → List (Result Outcome Refusal) → Type 0
  GroupsSo total book result old new txn ends is_changed edits before answers = IsGroupedBy total book
      (length (held txn)) ends is_changed edits (given before answers) result (spaces.view old) (spaces.view new)

  abbrev pub CommitsGroup : Result (Unit {0}) StoreError → Store P g → Store P g → List Edit → List (Result Outcome Refusal) → Type 0
  CommitsGroup result old new edits answers =
      IsGrouping (shown.IsTold old) (shown.IsTold new) (shown.view old) (shown.view new) (shown.under old) (shown.under new)
      (shown.numbers old) (shown.numbers new) 1 (shown.catalog old) (shown.catalog new) edits [] answers answers result

  abbrev pub CommitsSo : ℕ → List Series → Result (Unit {0}) StoreError → Store P g → Store P g → List Edit → Bool
      → List (Result Outcome Refusal) → Type 0
  CommitsSo total book result old new edits ends answers = IsGroupedBy total book 1 ends false edits answers result (shown.view old)
      (shown.view new)
