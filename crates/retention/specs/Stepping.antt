-- One clear of a rule is done.
use Rattle.std.specs.Prelude.{ℕ, ◌≡◌, ◌⊎◌, Bool, true, false, List, [], length, Result, Ok, IfErr, OnOk, IfOk}
use Rattle.block_disk.specs.View.{Image, View, Passes}
use Rattle.gate_pages.specs.Pages.{Quiet}
use Rattle.series_book.specs.declared.edits.Edit.{Edit}
use Rattle.series_book.specs.declared.one_series.Series.{Series}
use Rattle.series_book.specs.Edits.{apply}
use Rattle.series_store.specs.declared.errors.StoreError.{StoreError}
use Rattle.series_store.specs.declared.errors.StoreError.TheVariants as store
use Rattle.stored_book.specs.Standing.{StandsForBook}
use Rattle.retention.specs.declared.rule.Rule.{Rule}
use Rattle.retention.specs.declared.sweep_error.SweepError.{SweepError}
use Rattle.retention.specs.declared.sweep_error.SweepError.TheVariants.{UnknownSeries, DiskFault, Damaged, NoMemory}
use Rattle.retention.specs.Steps.{IsNext}
use Rattle.retention.specs.Moving.{CommitsFew}
use Rattle.retention.specs.Sweeps.{sweeps, sweeps_some}

-- what an error of a clear is for a sweep; a clear of slots that were found isn't refused, and `NotAStore` comes from no edit
abbrev pub clear_error : StoreError → SweepError
clear_error (store.Refused refusal) = NoMemory
clear_error store.NotAStore = NoMemory
clear_error store.DiskFault = DiskFault
clear_error (store.Damaged page) = Damaged page
clear_error store.NoMemory = NoMemory

-- unless a call of the disk failed, the pages stand for the book
abbrev pub KeepsFor : ℕ → List Series → Image → SweepError → Type 0
KeepsFor total book image UnknownSeries = ⊥
KeepsFor total book image DiskFault = Unit {0}
KeepsFor total book image (Damaged page) = ⊥
KeepsFor total book image NoMemory = StandsForBook image total book

-- the pages stand for the one book or for the other
abbrev pub IsOneOf : ℕ → List Series → List Series → Image → Type 0
IsOneOf total book after image = StandsForBook image total book ⊎ StandsForBook image total after

-- a call makes the one book the other
pub record ClearsTo {T : Type 0} (total : ℕ) (book after : List Series) (result : Result T SweepError) (old new : View) : Type 0 where
  pub done : OnOk result (StandsForBook new.image total after)
  pub stops : IfErr result (KeepsFor total book new.image)
  pub moments : Passes old new (IsOneOf total book after) (Quiet old)

-- a call does a clear that the book accepts
abbrev pub DoesClear : {T : Type 0} → Edit → Result T SweepError → View → View → ℕ → List Series → Type 0
DoesClear clear result old new total book = (after : List Series) (slots : ℕ)
    → apply book total clear ≡ Ok (record { book = after; slots = slots }) → ClearsTo total book after result old new

-- the next clear of the rule was done
pub record DidNext (total : ℕ) (book : List Series) (rule : Rule) (image : Image) : Type 0 where
  pub clear : Edit
  pub next : IsNext total book rule clear
  pub stands : StandsForBook image total next.after

-- or there was none
pub record HadNone (total : ℕ) (book : List Series) (rule : Rule) (image : Image) : Type 0 where
  pub none : sweeps total book rule ≡ []
  pub stands : StandsForBook image total book

abbrev pub NowOrNext : ℕ → List Series → Rule → Image → Type 0
NowOrNext total book rule image = StandsForBook image total book ⊎ DidNext total book rule image

abbrev pub DidOrNone : ℕ → List Series → Rule → Image → Bool → Type 0
DidOrNone total book rule image true = DidNext total book rule image
DidOrNone total book rule image false = HadNone total book rule image

-- what a call did that does the next clear, if there is one; it commits nothing where there is none
pub record StepsSo (total : ℕ) (book : List Series) (rule : Rule) (result : Result Bool SweepError) (old new : View) : Type 0 where
  pub commits : CommitsFew (length (sweeps_some total book rule 1)) old new
  pub done : IfOk result (DidOrNone total book rule new.image)
  pub stops : IfErr result (KeepsFor total book new.image)
  pub moments : Passes old new (NowOrNext total book rule) (Quiet old)
