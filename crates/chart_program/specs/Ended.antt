-- How a serving command ends, by its status.
use Rattle.std.specs.Prelude.{◌≡◌, ◌≢◌, ℕ, ◌<◌, ◌^◌, List, [], ◌∷◌, length, Contains, Option, IfSome, Result, Ok, Err, ⊤}
use Rattle.block_disk.specs.Counts.{HasRisen}
use Rattle.block_disk.specs.View.{Honest, View}
use Rattle.chart_client.specs.Accepting.{HasNumber}
use Rattle.chart_client.specs.declared.errors.ClientError.{ClientError}
use Rattle.chart_client.specs.declared.errors.ClientError.TheVariants as client
use Rattle.chart_frames.specs.Frames.{key_number}
use Rattle.gate_pages.specs.Journal.{page_count}
use Rattle.gate_pages.specs.Pages.{GoesOn}
use Rattle.om3_coeff.specs.declared.key.Key.{Key}
use Rattle.chart_service.specs.declared.failure.ServeEnd.{ServeEnd}
use Rattle.chart_service.specs.declared.failure.ServeEnd.TheVariants as serve_end
use Rattle.chart_program.specs.declared.lines_end.LinesEnd.{LinesEnd}
use Rattle.chart_program.specs.declared.lines_end.LinesEnd.TheVariants as lines_end
use Rattle.chart_program.specs.declared.run_end.RunEnd.TheVariants as run_end
use Rattle.run_ends.specs.declared.status.Status.{Status}
use Rattle.run_ends.specs.Statuses.{block_of, status}
use Rattle.store_commands.specs.Status.{opening_status}
use Rattle.chart_program.specs.Served.{Says, Faults, AnswersAll, AnswersFront, AnswersTaken, AnswersWithin, AnswersSome, AnswersLines}
use Rattle.chart_program.specs.Served.{LeavesBooks, RejectsNext, ReadsServing, SyncsServing}
use Rattle.stored_book.specs.Damage.{IsBadForRequest}
use Rattle.store_commands.specs.Damaged.{IsDamagedPlace}
use Rattle.store_commands.specs.Books.{HoldsAgain, Never}
use Rattle.store_commands.specs.Traffic.{WasRead}

-- the status of why a serving ended
abbrev pub serve_end_status : ServeEnd → Status
serve_end_status serve_end.ReadFault = status 4 0
serve_end_status serve_end.SendFault = status 5 0
serve_end_status serve_end.DiskFault = status 6 0
serve_end_status (serve_end.Damaged page) = status 7 (block_of page)
serve_end_status serve_end.InputTooLong = status 9 (2 ^ 32)
serve_end_status serve_end.NoMemory = status 3 0

-- and of why a client didn't show a frame
abbrev pub client_status : ClientError → Status
client_status (client.Missing key) = status 10 (key_number key)
client_status (client.BadCoefficient key) = status 11 (key_number key)
client_status (client.UnknownSession number) = status 15 number
client_status client.NoMemory = status 3 0

-- the status of what a serving command answers
abbrev pub status_by : {T : Type 0} → Result T LinesEnd → Status
status_by (Ok done) = status 0 0
status_by (Err (lines_end.Opening cause)) = opening_status cause
status_by (Err (lines_end.Answering (run_end.Serve end))) = serve_end_status end
status_by (Err (lines_end.Answering (run_end.Show e))) = client_status e

-- a key that the end names has a number
abbrev pub HasNumberedKey : LinesEnd → Type 0
HasNumberedKey (lines_end.Opening cause) = ⊤
HasNumberedKey (lines_end.Answering (run_end.Serve end)) = ⊤
HasNumberedKey (lines_end.Answering (run_end.Show e)) = HasNumber e

-- What a serving command sent and left, and why it ended, by the status.
pub record EndsBy (IsText : Says) (CanShow : Type 0) (old new : View) (left left' before now : Option (List ℕ)) (faults : Faults)
    (code place : ℕ) : Type 0 where
  pub codes : Contains (0 ∷ 3 ∷ 4 ∷ 5 ∷ 6 ∷ 7 ∷ 9 ∷ 10 ∷ 11 ∷ 12 ∷ 15 ∷ []) code
  pub done : code ≡ 0 → IfSome left (λ input. AnswersAll IsText (page_count old.size) old new input before now)
  pub within : code ≡ 0 → WasRead left left'
  pub memory : code ≡ 3 → IfSome left (λ input. AnswersSome IsText (page_count old.size) old new input before now)
  pub read : code ≡ 4 → HasRisen faults.reads faults.reads_now
  pub stopped : code ≡ 4 → IfSome left (λ input. IfSome left'
      (λ bytes. AnswersTaken IsText (page_count old.size) old new input bytes before now))
  pub send : code ≡ 5 → HasRisen faults.sends faults.sends_now
  pub part : code ≡ 5 → IfSome left (λ input. AnswersFront IsText (page_count old.size) old new input before now)
  pub fault : code ≡ 6 → HasRisen old.faults new.faults
  pub faulted : code ≡ 6 → IfSome left (λ input. AnswersLines IsText (page_count old.size) old input before now)
  pub damaged : code ≡ 7 → IsDamagedPlace IsBadForRequest old new place
  pub undamaged : code ≡ 7 → IfSome left (λ input. Never (page_count old.size) old)
  pub much : code ≡ 9 → IfSome left (λ input. (place ≡ 2 ^ 32) × (2 ^ 32 < length input)
      × AnswersWithin IsText (page_count old.size) old new input before now)
  pub missing : code ≡ 10 → CanShow × IfSome left (λ input. Never (page_count old.size) old
      × ((key : Key) × (place ≡ key_number key) × RejectsNext (client.Missing key) before now))
  pub misfit : code ≡ 11 → CanShow × IfSome left (λ input. Never (page_count old.size) old
      × ((key : Key) × (place ≡ key_number key) × RejectsNext (client.BadCoefficient key) before now))
  pub small : code ≡ 12 → (place ≡ old.size) × (old.size < 128)
  pub opened : code ≡ 15 → ⊥
  pub zero_place : Contains (0 ∷ 3 ∷ 4 ∷ 5 ∷ 6 ∷ []) code → place ≡ 0
  pub holds : code ≢ 6 → IfSome left (λ input. HoldsAgain (page_count old.size) old new)
  pub reads : IfSome left (λ input. ReadsServing old new input)
  pub syncs : IfSome left (λ input. SyncsServing old new input)
  pub crash : IfSome left (λ input. IfSome before (λ bytes. LeavesBooks IsText (page_count old.size) input old new))
  pub honest : Honest old → Honest new
  pub goes_on : GoesOn old new
