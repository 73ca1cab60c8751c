-- What a call did by the book's answer is what an edit does.
use Rattle.std.proofs.Common.{ℕ, List, Result, Ok, Err, IfOk, IfErr, inl, inr}
use Rattle.block_disk.specs.View.{Image, View, Passes}
use Rattle.block_disk.proofs.Passing.{passes_weaker}
use Rattle.gate_pages.specs.Pages.{Quiet}
use Rattle.series_book.specs.declared.edits.Edit.{Edit}
use Rattle.series_book.specs.declared.one_series.Series.{Series}
use Rattle.series_book.specs.declared.outcomes.Outcome.{Outcome}
use Rattle.series_book.specs.Edits.{apply}
use Rattle.series_store.specs.Changing.{IsDoneBy, IsRefusedBy, IsEitherBy}
use Rattle.series_store.specs.Results.{IsDone, IsRefusedWith, IsBeforeOrAfter}
use Rattle.series_store.specs.declared.errors.StoreError.{StoreError}
use Rattle.series_store.specs.declared.errors.StoreError.TheVariants.{Refused, NotAStore, DiskFault, Damaged, NoMemory}

pub done_as : (total : ℕ) (book : List Series) (edit : Edit) (result : Result Outcome StoreError) (image : Image)
    → IfOk result (λ outcome. IsDoneBy (apply book total edit) total outcome image)
    → IfOk result (λ outcome. IsDone total book edit outcome image)
done_as total book edit (Ok outcome) image done = record {
  edited = done.edited;
  accepted = done.accepted;
  slots = done.slots;
  stands = done.stands;
}
done_as total book edit (Err e) image done = tt

refused_with : (total : ℕ) (book : List Series) (edit : Edit) (e : StoreError) → IsRefusedBy (apply book total edit) e
    → IsRefusedWith total book edit e
refused_with total book edit (Refused refusal) says = says
refused_with total book edit NotAStore says = says
refused_with total book edit DiskFault says = says
refused_with total book edit (Damaged page) says = says
refused_with total book edit NoMemory says = says

pub refused_as : (total : ℕ) (book : List Series) (edit : Edit) (result : Result Outcome StoreError)
    → IfErr result (λ e. IsRefusedBy (apply book total edit) e) → IfErr result (λ e. IsRefusedWith total book edit e)
refused_as total book edit (Ok outcome) says = tt
refused_as total book edit (Err e) says = refused_with total book edit e says

pub moments_as : (total : ℕ) (book : List Series) (edit : Edit) (old new : View)
    → Passes old new (IsEitherBy (apply book total edit) total book) (Quiet old)
    → Passes old new (IsBeforeOrAfter total book edit) (Quiet old)
moments_as total book edit old new time =
    passes_weaker old new (IsEitherBy (apply book total edit) total book) (IsBeforeOrAfter total book edit) (Quiet old) (Quiet old)
    (λ image either. elim either [
      | inl before ↦ inl before
      | inr after ↦ inr (record { edited = after.edited; accepted = after.accepted; stands = after.stands })
    ]) (λ count quiet. quiet) time
