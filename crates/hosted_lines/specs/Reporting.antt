-- What a service does for a report. Private contracts are stated by these words.
use Rattle.std.specs.Prelude.{◌≡◌, Result, IfErr, IfOk}
use Rattle.chart_frames.specs.Frames.{Fits}
use Rattle.chart_frames.specs.declared.frame.Frame.{Frame}
use Rattle.chart_service.specs.Called.{LooksOnly}
use Rattle.chart_service.specs.Faulting.{step_fault}
use Rattle.chart_service.specs.Opening.{OpensBy}
use Rattle.chart_service.specs.Shown as shown
use Rattle.chart_service.specs.Stepping.{IsOutside}
use Rattle.chart_service.specs.declared.failure.ServiceError.{ServiceError}
use Rattle.chart_service.specs.declared.service.Service.{Service}
use Rattle.chart_world.specs.Faults.{CountsFault, fault_in}
use Rattle.gate_pages.specs.declared.pages.Pages.{Ghosts}
use Rattle.host_lines.specs.Grammar.{IsInRange}
use Rattle.host_lines.specs.declared.asked.HostLine.{HostLine}
use Rattle.host_replies.specs.Replies.{AsksReport, IsReportCause, MayReport, ReadsReport, ReadsReportOver, Reported}

module _ {P : Type 0} {g : Ghosts P} where
  -- what is asked is a report, and calls may be made
  pub record MayMake (asked : HostLine) (it : Service P g) : Type 0 where
    pub sound : (shown.view it).fit
    pub report : AsksReport asked
    pub range : IsInRange asked

  -- it is made, or why it isn't; the pages and the sessions stay
  pub record Makes (asked : HostLine) (result : Result Frame ServiceError) (old new : Service P g) : Type 0 where
    pub reply : shown.ForBook old (λ total book. IfOk result (λ frame. Reported asked frame (shown.state old total book)))
    pub standing : shown.ForBook old (λ total book. IfErr result IsOutside)
    pub fits : IfOk result Fits
    pub may : IfOk result (MayReport asked)
    pub opens : IfOk result (λ frame. OpensBy frame (shown.sessions old) (shown.sessions new))
    pub sessions : shown.sessions new ≡ shown.sessions old
    pub looks : LooksOnly old new
    pub reads : ReadsReport asked (shown.view old).reads (shown.view new).reads
    pub reads_over : shown.ForBook old (λ total book. ReadsReportOver book asked (shown.view old).reads (shown.view new).reads)
    pub cause : IfErr result (λ e. IsReportCause asked e (shown.IsTold new) (shown.view old) (shown.view new))
    pub faults : CountsFault (fault_in step_fault result) (shown.view old) (shown.view new)
