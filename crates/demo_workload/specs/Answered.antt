-- What a demo does over an opened store: the answers to its requests. Private contracts are stated by these words.
use Rattle.std.specs.Prelude.{ℕ, ◌≡◌, ◌≢◌, ◌≤◌, List, Result, IfOk, IfErr, ⊤}
use Rattle.block_disk.specs.Counts.{HasRisen}
use Rattle.block_disk.specs.View.{Honest, View, sent_now}
use Rattle.chart_client.specs.declared.errors.ClientError.TheVariants as client
use Rattle.gate_pages.specs.Pages.{GoesOn}
use Rattle.request_lines.specs.declared.requests.Request.{Request}
use Rattle.demo_workload.specs.declared.summaries.Summary.{Summary}
use Rattle.demo_workload.specs.Ending.{IsOutside, MeetsKey}
use Rattle.demo_workload.specs.Replying.{Summarizes}
use Rattle.run_ends.specs.Statuses.{block_of}
use Rattle.run_ends.specs.declared.ending.End.{End}
use Rattle.run_ends.specs.declared.ending.End.TheVariants.{NoMemory, DiskFault, DamagedPage, Missing, BadCoefficient}
use Rattle.stored_book.specs.Damage.{IsBadForRequest}
use Rattle.store_commands.specs.Damaged.{IsDamagedLater}
use Rattle.store_commands.specs.Books.{OfBook, FromBook}
use Rattle.demo_workload.specs.Demonstrated.{AnswersFirst, LeavesDemo}

-- why a workload wasn't answered to its end; want of memory is free
abbrev pub IsEndCause : End → ℕ → View → View → Type 0
IsEndCause NoMemory count old new = ⊤
IsEndCause DiskFault count old new = HasRisen old.faults new.faults
IsEndCause (DamagedPage page) count old new = IsDamagedLater IsBadForRequest count new (block_of page)
IsEndCause (Missing number) count old new = MeetsKey client.Missing number
IsEndCause (BadCoefficient number) count old new = MeetsKey client.BadCoefficient number
IsEndCause end count old new = ⊥

-- Requests were answered over the book that a disk holds, all of them or some first ones. Nothing was sent.
pub record Answered (requests : List Request) (count : ℕ) (old new : View) (answer : Result Summary End) : Type 0 where
  pub done : IfOk answer (λ summary. FromBook count old new (λ start state. Summarizes requests start state summary))
  pub stopped : IfErr answer (λ end. end ≢ DiskFault → FromBook count old new (AnswersFirst requests))
  pub outside : IfErr answer (λ end. OfBook count old (λ total book. IsOutside end))
  pub cause : IfErr answer (λ end. IsEndCause end count old new)
  pub crash : LeavesDemo requests count old new
  pub quiet : OfBook count old (λ total book. sent_now new ≡ sent_now old)
  pub beside : new.beside ≡ old.beside
  pub faults : old.faults ≤ new.faults
  -- reads give what a crash may leave, where they did
  pub honest : Honest old → Honest new
  pub goes_on : GoesOn old new
