-- What a host's run over the lines of its streams does.
use Rattle.std.specs.Prelude.{ℕ, List, IfSome}
use Rattle.block_disk.specs.View.{sent_now}
use Rattle.block_disk.specs.declared.streams.Streams.{Ghosts as StreamGhosts}
use Rattle.block_disk.specs.declared.streams.Streams as streams
use Rattle.chart_service.specs.Moments.{Since}
use Rattle.chart_service.specs.declared.failure.ServiceError.{ServiceError}
use Rattle.gate_pages.specs.declared.pages.Pages.{Ghosts}
use Rattle.live_service.specs.Shown as its
use Rattle.live_service.specs.declared.stepper.ServiceStepper.{ServiceStepper}
use Rattle.live_view.specs.declared.live.Live.{Live}
use Rattle.live_view.specs.declared.stepper.Stepper.{Ghosts as StepperGhosts}
use Rattle.run_ends.specs.declared.ending.End.{End}
use Rattle.series_book.specs.declared.one_series.Series.{Series}
use Rattle.stored_book.specs.Standing.{StandsForBook}
use Rattle.hosted_lines.specs.Running.{CostsLines, EndsSo, IsAhead}
use Rattle.hosted_lines.specs.Shown.{pages}

module _ {P : Type 0} {g : Ghosts P} {h : StepperGhosts (ServiceStepper P g) ServiceError} {beside : StreamGhosts (ServiceStepper P g)}
    (told : streams.Ghosts P) (total : ℕ) (book : List Series) (old new : Live (ServiceStepper P g) ServiceError h beside) where
  -- what was done and sent, by how the run ended
  abbrev pub EndsOn : End → Type 0
  EndsOn end = IfSome (told.left (pages old)) (λ input.
      EndsSo (λ after. StandsForBook (its.view new).image total after) input (its.state old total book) (told.left (pages new))
      (told.sent (pages old)) (told.sent (pages new)) end)

  -- at each moment a crash leaves such a book
  abbrev pub LastsFor : Type 0
  LastsFor = IfSome (told.left (pages old)) (λ input. IfSome (told.sent (pages old)) (λ bytes.
      Since (its.view old) (its.view new) (λ image sent. IsAhead (λ after. StandsForBook image total after) input (its.state old total book)
      (sent_now (its.view old)) sent)))

  -- the lines, the groups and the pushes cost no more than they may, and nothing else was read or synced
  abbrev pub CostsFew : Type 0
  CostsFew = IfSome (told.left (pages old)) (λ input.
      CostsLines input (record { live = its.state old total book; reads = (its.view old).reads; syncs = (its.view old).syncs })
      (told.pieces (pages old)) (told.pieces (pages new)) (its.view new).reads (its.view new).syncs)
