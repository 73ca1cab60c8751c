-- Why a workload wasn't answered to its end, and what stays.
use Rattle.std.specs.Prelude.{ℕ, ◌≡◌, ◌≢◌, ◌+◌, ◌*◌, ◌≤◌, ◌⊎◌, List, [], Option, Result, IfErr, ⊤}
use Rattle.block_disk.specs.Counts.{HasRisen}
use Rattle.block_disk.specs.View.{View}
use Rattle.line_raster.specs.Canvas.{Canvas}
use Rattle.chart_frames.specs.Frames.{key_number}
use Rattle.chart_frames.specs.declared.frame.Frame.{Frame}
use Rattle.chart_client.specs.declared.holding.Holding.{Holding}
use Rattle.chart_client.specs.declared.errors.ClientError.{ClientError}
use Rattle.chart_client.specs.declared.errors.ClientError.TheVariants as client
use Rattle.chart_client.specs.Accepting.{Rejects}
use Rattle.chart_service.specs.declared.failure.ServiceError.{ServiceError}
use Rattle.chart_service.specs.declared.failure.ServiceError.TheVariants as step
use Rattle.chart_service.specs.Stepping.{IsBadPage}
use Rattle.drawn_replies.specs.Pictures.{AcceptsAll}
use Rattle.om3_coeff.specs.declared.key.Key.{Key}
use Rattle.run_ends.specs.declared.ending.End.{End}
use Rattle.run_ends.specs.declared.ending.End.TheVariants.{NoMemory, DiskFault, DamagedPage, Missing, BadCoefficient}

-- what an error of a step is for the workload
abbrev pub end_of_step : ServiceError → End
end_of_step step.DiskFault = DiskFault
end_of_step (step.Damaged page) = DamagedPage page
end_of_step step.NoMemory = NoMemory

-- where the pages stand for a book, a fault of the disk or want of memory alone keeps from the summary
abbrev pub IsOutside : End → Type 0
IsOutside end = (end ≡ DiskFault) ⊎ (end ≡ NoMemory)

-- where not all was answered, and no call of the disk failed, this is so
abbrev pub IfStopped : {T : Type 0} → Result T End → Type 0 → Type 0
IfStopped result IsSo = IfErr result (λ end. end ≢ DiskFault → IsSo)

-- the client accepted some frames one after the other, and rejects the next one for this error
pub record MeetsError (error : ClientError) : Type 0 where
  pub frames : List Frame
  pub drawings : List (Option Canvas)
  pub holdings : List Holding
  pub accepted : AcceptsAll [] frames drawings holdings
  pub frame : Frame
  pub rejected : Rejects frame error holdings

-- the client met such an error for the key of this number
abbrev pub MeetsKey : (Key → ClientError) → ℕ → Type 0
MeetsKey why number = (key : Key) × (number ≡ key_number key) × MeetsError (why key)

-- why a workload ends before its summary; want of memory is free
abbrev pub IsCause : End → Type 0 → View → View → Type 0
IsCause NoMemory told old new = ⊤
IsCause DiskFault told old new = HasRisen old.faults new.faults
IsCause (DamagedPage page) told old new = IsBadPage told new.size new.image page
IsCause (Missing number) told old new = MeetsKey client.Missing number
IsCause (BadCoefficient number) told old new = MeetsKey client.BadCoefficient number
IsCause end told old new = ⊥

-- each of so many requests is one commit at most, of at most 42 pages
pub record CostsRequests (requests : ℕ) (old new : View) : Type 0 where
  pub syncs : new.syncs ≤ old.syncs + 4 * requests
  pub writes : new.writes ≤ old.writes + 87 * requests

-- what a workload moves, whatever the pages are
pub record Runs (told_old told_new : Type 0) (old new : View) : Type 0 where
  pub told : told_old → told_new
  pub was_told : told_new → told_old
  pub size : new.size ≡ old.size
  pub beside : new.beside ≡ old.beside
  pub faults : old.faults ≤ new.faults
