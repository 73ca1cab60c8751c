-- The service of a live service, from its start to its end.
use Rattle.std.proofs.Common.{◌≡◌, ◌∙◌, ap}
use Rattle.block_disk.specs.declared.streams.Streams.{Ghosts as StreamGhosts}
use Rattle.chart_service.specs.declared.failure.ServiceError.{ServiceError}
use Rattle.chart_service.specs.declared.service.Service.{Service}
use Rattle.gate_pages.specs.declared.pages.Pages.{Ghosts}
use Rattle.live_service.specs.Shown as its
use Rattle.live_service.specs.declared.stepper.ServiceStepper.{ServiceStepper}
use Rattle.live_view.specs.declared.live.Live.{Live}
use Rattle.live_view.specs.declared.stepper.Stepper.{Ghosts as StepperGhosts}
use Rattle.series_store.specs.declared.store.Store.{Store}

module _ {P : Type 0} {g : Ghosts P} {h : StepperGhosts (ServiceStepper P g) ServiceError} {streams : StreamGhosts (ServiceStepper P g)}
  where
    -- at its start
    pub begun_service : (live : Live (ServiceStepper P g) ServiceError h streams) (stepper : ServiceStepper P g) (service : Service P g)
        → live.stepper ≡ stepper → stepper.service ≡ service → its.service live ≡ service
    begun_service live stepper service same is = ap (λ (s : ServiceStepper P g). s.service) same ∙ is

    -- at its end
    pub ended_store : (live : Live (ServiceStepper P g) ServiceError h streams) (stepper : ServiceStepper P g) (service : Service P g)
        (store : Store P g) → stepper ≡ live.stepper → service ≡ stepper.service → store ≡ service.store → store ≡ (its.service live).store
    ended_store live stepper service store same is store_is =
        store_is ∙ ap (λ (s : Service P g). s.store) is ∙ ap (λ (s : ServiceStepper P g). s.service.store) same
