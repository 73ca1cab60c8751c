-- What a request that is no edit does. Private contracts are stated by these words.
use Rattle.std.specs.Prelude.{ℕ, ◌≡◌, ◌≤◌, List, Option, Result, IfOk, IfErr, OnErr, ⊤}
use Rattle.block_disk.specs.Counts.{HasRisen}
use Rattle.block_disk.specs.View.{View, Now, Passes}
use Rattle.chart_frames.specs.declared.frame.Frame.{Frame}
use Rattle.chart_frames.specs.Frames.{Fits, IsAxis, IsStored}
use Rattle.gate_pages.specs.Pages.{GoesOn, Quiet}
use Rattle.om3_coeff.specs.declared.errors.NodeError.{NodeError}
use Rattle.om3_coeff.specs.declared.errors.NodeError.TheVariants as node
use Rattle.page_space.specs.declared.superblock.Superblock.{Superblock}
use Rattle.request_lines.specs.declared.requests.Request.{Request}
use Rattle.request_lines.specs.declared.requests.Request.TheVariants.{Edit as EditRequest, Open, View as ViewRequest, Zoom, Pan, Close}
use Rattle.series_book.specs.declared.one_series.Series.{Series}
use Rattle.series_catalog.specs.declared.stored_series.StoredSeries.{StoredSeries}
use Rattle.zoom_session.specs.declared.errors.PlanError.{PlanError}
use Rattle.zoom_session.specs.declared.errors.PlanError.TheVariants as plan
use Rattle.filter_scan.specs.declared.scan_error.ScanError.{ScanError}
use Rattle.filter_scan.specs.declared.scan_error.ScanError.TheVariants as scan
use Rattle.zoom_session.specs.declared.session.Session.{Session}
use Rattle.zoom_session.specs.Planned.{IsInBounds}
use Rattle.zoom_session.specs.Plans.{HasEntries}
use Rattle.chart_service.specs.Kinds.{KeepsSessions}
use Rattle.chart_service.specs.Opening.{OpensBy, LosesAtMost}
use Rattle.chart_service.specs.Planning.{AreInFrame}
use Rattle.chart_service.specs.State.{State}
use Rattle.chart_service.specs.Viewing.{has_of, least_of, greatest_of}
use Rattle.chart_service.specs.Stepping.{state_of, IsDamagedToView, IsOutside}
use Rattle.chart_service.specs.declared.failure.ServiceError.{ServiceError}
use Rattle.chart_service.specs.declared.failure.ServiceError.TheVariants.{DiskFault, Damaged, NoMemory}
use Rattle.chart_service.specs.declared.shown.Planned.{Planned}

-- a request that is no edit
abbrev pub IsNoEdit : Request → Type 0
IsNoEdit (EditRequest edit) = ⊥
IsNoEdit (Open number cache) = ⊤
IsNoEdit (ViewRequest number name w h t0 t1 word text) = ⊤
IsNoEdit (Zoom number t0 t1) = ⊤
IsNoEdit (Pan number by) = ⊤
IsNoEdit (Close number) = ⊤

-- The pages, the numbers of page 0 and the catalog stay. Blocks may be read.
pub record Looks (told_old told_new : Type 0) (old new under under' : View) (s s' : Superblock)
    (catalog catalog' : List StoredSeries) : Type 0 where
  pub time : Passes old new (Now old) (Quiet old)
  pub goes_on : GoesOn under under'
  pub told : told_old → told_new
  pub was_told : told_new → told_old
  pub image : told_old → new.image ≡ old.image
  pub size : new.size ≡ old.size
  pub beside : new.beside ≡ old.beside
  pub fit : old.fit → new.fit
  pub faults : old.faults ≤ new.faults
  pub syncs : new.syncs ≡ old.syncs
  pub writes : new.writes ≡ old.writes
  pub superblock : s' ≡ s
  pub catalog_is : catalog' ≡ catalog

-- why nodes over the pages of such a series gave no coefficient
abbrev pub IsNodeCause : (ℕ → Type 0) → NodeError → Type 0 → List StoredSeries → ℕ → View → View → Type 0
IsNodeCause IsShown node.DiskFault told catalog total old new = HasRisen old.faults new.faults
IsNodeCause IsShown (node.Damaged page) told catalog total old new = IsDamagedToView IsShown told catalog old.image total page
IsNodeCause IsShown (node.Missing key) told catalog total old new = ⊥
IsNodeCause IsShown (node.BadCoefficient key) told catalog total old new = ⊥

-- an error of nodes over pages
abbrev pub IsOfPages : NodeError → Type 0
IsOfPages node.DiskFault = ⊤
IsOfPages (node.Damaged page) = ⊤
IsOfPages (node.Missing key) = ⊥
IsOfPages (node.BadCoefficient key) = ⊥

-- and what it is for a request
abbrev pub error_of : NodeError → ServiceError
error_of node.DiskFault = DiskFault
error_of (node.Damaged page) = Damaged page
error_of (node.Missing key) = NoMemory
error_of (node.BadCoefficient key) = NoMemory

-- the cause of an error of a plan, and of a scan, if a node gave it
abbrev pub IsPlanCause : (ℕ → Type 0) → PlanError → Type 0 → List StoredSeries → ℕ → View → View → Type 0
IsPlanCause IsShown (plan.TooLarge needed cache) told catalog total old new = ⊤
IsPlanCause IsShown (plan.Node error) told catalog total old new = IsNodeCause IsShown error told catalog total old new
IsPlanCause IsShown plan.NoMemory told catalog total old new = ⊤

abbrev pub IsScanCause : (ℕ → Type 0) → ScanError → Type 0 → List StoredSeries → ℕ → View → View → Type 0
IsScanCause IsShown (scan.Node error) told catalog total old new = IsNodeCause IsShown error told catalog total old new
IsScanCause IsShown scan.NoMemory told catalog total old new = ⊤

-- why a view of such a series wasn't answered
abbrev pub IsViewCause : (ℕ → Type 0) → ServiceError → Type 0 → List StoredSeries → ℕ → View → View → Type 0
IsViewCause IsShown DiskFault told catalog total old new = HasRisen old.faults new.faults
IsViewCause IsShown (Damaged page) told catalog total old new = IsDamagedToView IsShown told catalog old.image total page
IsViewCause IsShown NoMemory told catalog total old new = ⊤

-- what comes of a request that is no edit, whatever the pages are
pub record Looked (number : Option ℕ) (result : Result Frame ServiceError) (sessions sessions' : List Session) (told told' : Type 0)
    (old new under under' : View) (s s' : Superblock) (catalog catalog' : List StoredSeries) : Type 0 where
  pub fits : IfOk result Fits
  pub opens : IfOk result (λ frame. OpensBy frame sessions sessions')
  pub lost : OnErr result (LosesAtMost number sessions sessions')
  pub kept : KeepsSessions result sessions sessions'
  pub looks : Looks told told' old new under under' s s' catalog catalog'

-- what comes of it where the pages stand for a book
pub record Replying (Reply : Frame → State → State → Type 0) (Reads : ℕ → ℕ
    → Type 0) (result : Result Frame ServiceError) (total : ℕ) (book : List Series) (sessions sessions' : List Session)
    (old new : View) : Type 0 where
  pub reply : IfOk result (λ frame. Reply frame (state_of book total sessions) (state_of book total sessions'))
  pub standing : IfErr result IsOutside
  pub reads : Reads old.reads new.reads

-- the numbers of a plan are those that a frame may have, whatever the pages are
pub record IsGoodPlan (planned : Planned) : Type 0 where
  pub axis : IsAxis planned.told.axis.start planned.told.axis.step planned.told.axis.slots
  pub stored : IsStored planned.told.axis.slots (has_of planned.told.root) (least_of planned.told.root) (greatest_of planned.told.root)
  pub frame : AreInFrame planned.told
  pub entries : HasEntries planned.told.axis.slots planned.plan
  pub bounds : IsInBounds planned.plan
