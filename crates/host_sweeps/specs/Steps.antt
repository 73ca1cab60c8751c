-- What the calls of a step do: on a store, on a service, and on a live service. Private contracts are stated by these words.
use Rattle.std.specs.Prelude.{ℕ, ◌≡◌, ◌↔◌, ◌≤◌, ◌+◌, length, Result, Ok, Err, IfOk, IfErr, OnOk}
use Rattle.block_disk.specs.declared.streams.Streams.{Ghosts as StreamGhosts}
use Rattle.chart_frames.specs.declared.frame.Frame.{Frame}
use Rattle.chart_frames.specs.declared.frame.Frame.TheVariants.{Report}
use Rattle.chart_frames.specs.declared.reports.Report.TheVariants.{Swept}
use Rattle.chart_service.specs.Replies.{refused}
use Rattle.chart_service.specs.Shown as shown
use Rattle.chart_service.specs.State.{IsSound}
use Rattle.chart_service.specs.declared.failure.ServiceError.{ServiceError}
use Rattle.chart_service.specs.declared.failure.ServiceError.TheVariants as step
use Rattle.chart_service.specs.declared.service.Service.{Service}
use Rattle.chart_world.specs.Faults.{CountsFault, fault_in}
use Rattle.gate_pages.specs.declared.pages.Pages.{Ghosts}
use Rattle.live_service.specs.Shown as its
use Rattle.live_service.specs.declared.stepper.ServiceStepper.{ServiceStepper}
use Rattle.live_view.specs.Live as live
use Rattle.live_view.specs.declared.live.Live.{Live}
use Rattle.live_view.specs.declared.stepper.Stepper.{Ghosts as StepperGhosts}
use Rattle.retention.specs.declared.rule.Rule.{Rule}
use Rattle.retention.specs.declared.sweep_error.SweepError.{SweepError}
use Rattle.retention.specs.declared.sweep_error.SweepError.TheVariants.{UnknownSeries, DiskFault, Damaged, NoMemory}
use Rattle.retention.specs.declared.swept.SweptSome.{SweptSome}
use Rattle.retention.specs.Faults.{sweep_fault}
use Rattle.retention.specs.Moving.{CarriesOn}
use Rattle.retention.specs.Sweeping.{Commits, FailsFor, IsSoundFor, IsSweptSome, PassesStep, StopsSomeSo}
use Rattle.retention.specs.Sweeps.{NamesNone, sweeps_some}
use Rattle.series_book.specs.declared.refusals.Refusal.TheVariants.{UnknownSeries as NoSeries}
use Rattle.series_store.specs.Shown as stored
use Rattle.series_store.specs.declared.store.Store.{Store}
use Rattle.host_sweeps.specs.Sweeping.{most_clears, pushed_behind, step_reads, swept_followers}

-- the frame of a step that is done
abbrev pub frame_of : SweptSome → Frame
frame_of swept = Report (Swept swept.clears swept.used swept.more)

-- what is answered where a step wasn't done to its end
abbrev pub error_reply : SweepError → Result Frame ServiceError
error_reply UnknownSeries = Ok (refused NoSeries)
error_reply DiskFault = Err step.DiskFault
error_reply (Damaged page) = Err (step.Damaged page)
error_reply NoMemory = Err step.NoMemory

module _ {P : Type 0} {g : Ghosts P} where
  -- a step is done on a store, or why it isn't
  pub record StepsStore (rule : Rule) (result : Result SweptSome SweepError) (old new : Store P g) : Type 0 where
    pub unknown : stored.ForBook old (λ total book. (result ≡ Err UnknownSeries) ↔ NamesNone book rule)
    pub untouched : result ≡ Err UnknownSeries → new ≡ old
    pub done : stored.ForBook old (λ total book. IfOk result (λ swept. IsSweptSome total book rule most_clears swept (stored.image new)))
    pub stops : stored.ForBook old (λ total book. IfErr result (StopsSomeSo total book rule most_clears (stored.image new)))
    pub moments : stored.ForBook old (λ total book. PassesStep total book rule most_clears old new)
    pub carries : CarriesOn old new
    pub commits : stored.ForBook old (λ total book. Commits (length (sweeps_some total book rule most_clears)) old new)
    pub within : Commits most_clears old new
    pub each : IfOk result (λ swept. Commits swept.clears old new)
    pub few : IfOk result (λ swept. swept.clears ≤ most_clears)
    pub cause : IfErr result (λ e. FailsFor e old new)
    pub faults : CountsFault (fault_in sweep_fault result) (stored.view old) (stored.view new)
    pub reads : (stored.view new).reads ≤ (stored.view old).reads + step_reads
    pub sound : OnOk result (stored.IsSound new)
    pub sound_for : IfErr result (λ e. IsSoundFor e (stored.view new))
    pub room : stored.total old ≤ (stored.view old).size

  -- and on the store of a service
  pub record StepsService (rule : Rule) (result : Result SweptSome SweepError) (old new : Service P g) : Type 0 where
    pub store : StepsStore rule result (shown.store old) (shown.store new)
    pub sessions : shown.sessions new ≡ shown.sessions old
    pub state : shown.ForSoundBook new (λ total book. IsSound (shown.state new total book))

module _ {P : Type 0} {g : Ghosts P} {h : StepperGhosts (ServiceStepper P g) ServiceError} {streams : StreamGhosts (ServiceStepper P g)}
  where
    -- pushes are pending behind so many clears, and all else stays
    pub record PushesBehind (rule : Rule) (clears : ℕ) (old new : Live (ServiceStepper P g) ServiceError h streams) : Type 0 where
      pub stepper : live.stepper new ≡ live.stepper old
      pub followed_same : live.followed new ≡ live.followed old
      pub pending_now : shown.ForSoundBook (its.service new)
          (λ total book. live.pending new ≡ pushed_behind clears
          (swept_followers rule book (shown.sessions (its.service new)) (live.followed old)))
