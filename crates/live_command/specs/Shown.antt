-- The lines of a live service's streams, in the words of the service.
use Rattle.std.specs.Prelude.{ℕ, List, IfSome}
use Rattle.block_disk.specs.View.{sent_now}
use Rattle.block_disk.specs.declared.streams.Streams.{Ghosts as StreamGhosts}
use Rattle.block_disk.specs.declared.streams.Streams as streams
use Rattle.chart_service.specs.Moments.{Since}
use Rattle.chart_service.specs.Shown as shown
use Rattle.chart_service.specs.declared.failure.ServiceError.{ServiceError}
use Rattle.gate_pages.specs.declared.pages.Pages.{Ghosts}
use Rattle.live_service.specs.Shown as its
use Rattle.live_service.specs.declared.stepper.ServiceStepper.{ServiceStepper}
use Rattle.live_view.specs.declared.live.Live.{Live}
use Rattle.live_view.specs.declared.stepper.Stepper.{Ghosts as StepperGhosts}
use Rattle.run_ends.specs.declared.ending.End.{End}
use Rattle.series_book.specs.declared.one_series.Series.{Series}
use Rattle.stored_book.specs.Standing.{StandsForBook}
use Rattle.hosted_lines.specs.Reads.{ReadsLines}
use Rattle.hosted_lines.specs.Shown.{pages}
use Rattle.live_command.specs.Running.{SendsAll, EndsSo, IsAhead}

module _ {P : Type 0} {g : Ghosts P} {h : StepperGhosts (ServiceStepper P g) ServiceError} {beside : StreamGhosts (ServiceStepper P g)}
    (told : streams.Ghosts P) (total : ℕ) (book : List Series) (old new : Live (ServiceStepper P g) ServiceError h beside) where
  -- the pages stand for the book
  abbrev Stands : List Series → Type 0
  Stands after = StandsForBook (shown.image (its.service new)) total after

  -- all lines are answered, and all pushes are made
  abbrev pub AreAnswered : Type 0
  AreAnswered = IfSome (told.left (pages old)) (λ input. SendsAll Stands input (its.state old total book) (told.sent (pages old))
      (told.sent (pages new)))

  -- what was done and sent, by how the run ended
  abbrev pub EndsOn : End → Type 0
  EndsOn end = IfSome (told.left (pages old)) (λ input. EndsSo Stands input (its.state old total book) (told.left (pages new))
      (told.sent (pages old)) (told.sent (pages new)) end)

  -- at each moment a crash leaves such a book
  abbrev pub LastsFor : Type 0
  LastsFor = IfSome (told.left (pages old)) (λ input. IfSome (told.sent (pages old)) (λ bytes.
      Since (its.view old) (its.view new) (λ image sent. IsAhead (λ after. StandsForBook image total after) input (its.state old total book)
      (sent_now (its.view old)) sent)))

  -- the lines and the pushes read no more blocks than they may, and no other block was read
  abbrev pub ReadsFew : Type 0
  ReadsFew = IfSome (told.left (pages old)) (λ input. ReadsLines input (its.state old total book) (its.view old).reads (its.view new).reads)
