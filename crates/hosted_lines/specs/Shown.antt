-- The lines of a live service's streams, in the words of the service.
use Rattle.std.specs.Prelude.{ℕ, List}
use Rattle.block_disk.specs.declared.streams.Streams.{Ghosts as StreamGhosts}
use Rattle.chart_service.specs.Shown as shown
use Rattle.chart_service.specs.State.{IsSound}
use Rattle.chart_service.specs.declared.failure.ServiceError.{ServiceError}
use Rattle.gate_pages.specs.declared.pages.Pages.{Ghosts}
use Rattle.live_service.specs.Shown as its
use Rattle.live_service.specs.declared.stepper.ServiceStepper.{ServiceStepper}
use Rattle.live_view.specs.declared.live.Live.{Live}
use Rattle.live_view.specs.declared.stepper.Stepper.{Ghosts as StepperGhosts}
use Rattle.series_book.specs.declared.one_series.Series.{Series}

module _ {P : Type 0} {g : Ghosts P} {h : StepperGhosts (ServiceStepper P g) ServiceError} {beside : StreamGhosts (ServiceStepper P g)}
  where
    -- the pages below
    abbrev pub pages : Live (ServiceStepper P g) ServiceError h beside → P
    pages it = shown.pages (its.service it)

    -- what holds of the book, of the sessions and of their last views, whatever book the pages stand for
    abbrev pub HoldsSound : Live (ServiceStepper P g) ServiceError h beside → Type 0
    HoldsSound it = its.ForBook it (λ total book. IsSound (shown.state (its.service it) total book))

    -- so of each book that the pages stand for, where that holds of it
    abbrev pub ForSound : Live (ServiceStepper P g) ServiceError h beside → (ℕ → List Series → Type 0) → Type 0
    ForSound it IsSo = its.ForBook it (λ total book. IsSound (shown.state (its.service it) total book) → IsSo total book)
