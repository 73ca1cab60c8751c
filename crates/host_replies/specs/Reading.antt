-- What comes of a line at a store. Private contracts are stated by these words.
use Rattle.std.specs.Prelude.{Result, IfErr, IfOk}
use Rattle.chart_frames.specs.declared.frame.Frame.{Frame}
use Rattle.chart_frames.specs.Frames.{Fits}
use Rattle.chart_service.specs.Faulting.{step_fault}
use Rattle.chart_service.specs.Stepping.{IsOutside}
use Rattle.chart_service.specs.declared.failure.ServiceError.{ServiceError}
use Rattle.chart_service.specs.declared.failure.ServiceError.TheVariants.{DiskFault, Damaged, NoMemory}
use Rattle.chart_world.specs.Faults.{CountsFault, fault_in}
use Rattle.gate_pages.specs.declared.pages.Pages.{Ghosts}
use Rattle.host_lines.specs.declared.asked.HostLine.{HostLine}
use Rattle.host_lines.specs.Grammar.{IsInRange}
use Rattle.retention.specs.Moving.{LooksOnly}
use Rattle.series_store.specs.Shown as stored
use Rattle.series_store.specs.declared.errors.StoreError.{StoreError}
use Rattle.series_store.specs.declared.errors.StoreError.TheVariants as store
use Rattle.series_store.specs.declared.store.Store.{Store}
use Rattle.host_replies.specs.Replies.{AsksReport, IsReportCause, MayReport, ReadsReport, ReadsReportOver, Tells}

-- what an error of a read is for a line; the others come from no read
abbrev pub read_error : StoreError → ServiceError
read_error (store.Refused refusal) = NoMemory
read_error store.NotAStore = NoMemory
read_error store.DiskFault = DiskFault
read_error (store.Damaged page) = Damaged page
read_error store.NoMemory = NoMemory

module _ {P : Type 0} {g : Ghosts P} where
  -- the line may be answered at the store
  pub record MayRead (asked : HostLine) (at : Store P g) : Type 0 where
    pub sound : stored.IsSound at
    pub report : AsksReport asked
    pub range : IsInRange asked

  -- what comes of it, if the session that it names is open
  pub record Reads (asked : HostLine) (old new : Store P g) (result : Result Frame ServiceError) : Type 0 where
    pub reply : stored.ForBook old (λ total book. IfOk result (Tells asked total book))
    pub standing : stored.ForBook old (λ total book. IfErr result IsOutside)
    pub fits : IfOk result Fits
    pub may : IfOk result (MayReport asked)
    pub looks : LooksOnly old new
    pub reads : ReadsReport asked (stored.view old).reads (stored.view new).reads
    pub reads_over : stored.ForBook old (λ total book. ReadsReportOver book asked (stored.view old).reads (stored.view new).reads)
    pub cause : IfErr result (λ e. IsReportCause asked e (stored.IsTold new) (stored.view old) (stored.view new))
    pub faults : CountsFault (fault_in step_fault result) (stored.view old) (stored.view new)
