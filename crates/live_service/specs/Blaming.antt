-- Which page a push calls damaged, whatever the pages are.
use Rattle.std.specs.Prelude.{ℕ, ◌<◌, List, Contains, ⊤}
use Rattle.block_disk.specs.View.{Image}
use Rattle.block_disk.specs.declared.streams.Streams.{Ghosts as StreamGhosts}
use Rattle.chart_service.specs.Blaming.{IsDamagedOf}
use Rattle.chart_service.specs.LastShown.{IsLastIn}
use Rattle.chart_service.specs.Shown as shown
use Rattle.chart_service.specs.declared.failure.ServiceError.{ServiceError}
use Rattle.chart_service.specs.declared.failure.ServiceError.TheVariants.{DiskFault, Damaged, NoMemory}
use Rattle.gate_pages.specs.declared.pages.Pages.{Ghosts}
use Rattle.live_service.specs.Shown as its
use Rattle.live_service.specs.declared.stepper.ServiceStepper.{ServiceStepper}
use Rattle.live_view.specs.Live as follows
use Rattle.live_view.specs.declared.live.Live.{Live}
use Rattle.live_view.specs.declared.stepper.Stepper.{Ghosts as StepperGhosts}
use Rattle.stored_book.specs.Damage.{SaysNumbers}

-- A push to a session that is followed blames this page: it is one of so many, and where reads give what the pages are it is
-- below the total that page 0 says, and damaged, in the tree of the series that the session shows last.
pub record PushBlames (followed : List ℕ) (last : ℕ → ℕ → Type 0) (told : Type 0) (count : ℕ) (image : Image) (page : ℕ) : Type 0 where
  pub session : ℕ
  pub among : Contains followed session
  pub within : page < count
  pub found : told → SaysNumbers count image (λ s. (page < s.total) × IsDamagedOf (last session) image s page)

module _ {P : Type 0} {g : Ghosts P} {h : StepperGhosts (ServiceStepper P g) ServiceError} {streams : StreamGhosts (ServiceStepper P g)}
  where
    -- where an error calls a page damaged, a push blames it
    abbrev pub PushBlamed : Live (ServiceStepper P g) ServiceError h streams → Live (ServiceStepper P g) ServiceError h streams
        → ServiceError
        → Type 0
    PushBlamed old new DiskFault = ⊤
    PushBlamed old new (Damaged page) =
        PushBlames (follows.followed old) (IsLastIn (shown.sessions (its.service old))) (shown.IsTold (its.service new)) (its.view new).size
        (its.view new).image page
    PushBlamed old new NoMemory = ⊤
