-- What the host answers to a line that asks for a report, over the plain book alone.
use Rattle.std.specs.Prelude.{◌≡◌, ◌⊎◌, ℕ, ℤ, ◌+◌, ◌<◌, ◌≤◌, Bool, true, false, List, Option, None, Some, slice_get, ⊤}
use Rattle.block_disk.specs.Counts.{HasRisen}
use Rattle.block_disk.specs.View.{Image, View}
use Rattle.chart_frames.specs.declared.frame.Frame.{Frame}
use Rattle.chart_frames.specs.declared.frame.Frame.TheVariants.{Refused, Report}
use Rattle.chart_frames.specs.declared.reports.Report.TheVariants as report
use Rattle.chart_grid.specs.Limits.{IsWindow, IsBadWindow}
use Rattle.chart_service.specs.Replies.{refused}
use Rattle.chart_service.specs.State.{State}
use Rattle.chart_service.specs.declared.failure.ServiceError.{ServiceError}
use Rattle.chart_service.specs.declared.failure.ServiceError.TheVariants.{DiskFault, Damaged, NoMemory}
use Rattle.host_lines.specs.declared.asked.HostLine.{HostLine}
use Rattle.host_lines.specs.declared.asked.HostLine.TheVariants.{List as ListLine, Values, Sum, Sweep, Bad, Other}
use Rattle.host_reports.specs.Reports.{catalog_of, values_of}
use Rattle.series_book.specs.Edits.{id_of}
use Rattle.series_book.specs.declared.one_series.Series.{Series}
use Rattle.series_book.specs.declared.refusals.Refusal.TheVariants.{BadLine, BadWindow, UnknownSeries, UnknownSession}
use Rattle.series_pair.specs.Damage.{IsBadForChart}
use Rattle.session_sums.specs.Costs.{ReadsAnswer}
use Rattle.session_sums.specs.Sums.{AnswersSum, MayTellRows}
use Rattle.store_commands.specs.Exported.{IsBadForExport}
use Rattle.zoom_session.specs.Sessions.{is_open}
use Rattle.zoom_session.specs.declared.session.Session.{Session}

-- the line asks for a report: the list, values or a sum; one that begins as such a line and isn't one is refused as bad
abbrev pub AsksReport : HostLine → Type 0
AsksReport ListLine = ⊤
AsksReport (Values name t0 t1) = ⊤
AsksReport (Sum session request) = ⊤
AsksReport (Sweep rule) = ⊥
AsksReport (Bad at) = ⊤
AsksReport Other = ⊥

-- ---- replies

-- the frame tells the values of a series in a window, or refuses the window
abbrev pub TellsValues : Option Series → ℕ → ℤ → ℤ → Frame → Type 0
TellsValues None id t0 t1 frame = frame ≡ refused UnknownSeries
TellsValues (Some series) id t0 t1 frame =
    (IsBadWindow t0 t1 × (frame ≡ refused BadWindow)) ⊎ (IsWindow t0 t1 × (frame ≡ Report (report.Values (values_of id series t0 t1))))

-- the same by the series' id
abbrev pub TellsValuesOf : Option ℕ → List Series → ℤ → ℤ → Frame → Type 0
TellsValuesOf None book t0 t1 frame = frame ≡ refused UnknownSeries
TellsValuesOf (Some id) book t0 t1 frame = TellsValues (slice_get book id) id t0 t1 frame

-- the frame answers the line, whose session is open if it names one
abbrev pub Tells : HostLine → ℕ → List Series → Frame → Type 0
Tells ListLine total book frame = frame ≡ Report (report.Catalog (catalog_of total book))
Tells (Values name t0 t1) total book frame = TellsValuesOf (id_of name book) book t0 t1 frame
Tells (Sum session request) total book frame = AnswersSum book request session frame
Tells (Sweep rule) total book frame = ⊥
Tells (Bad at) total book frame = frame ≡ refused (BadLine at)
Tells Other total book frame = ⊥

-- the session that a line names is open, if it names one
abbrev pub has_session : HostLine → List Session → Bool
has_session ListLine sessions = true
has_session (Values name t0 t1) sessions = true
has_session (Sum session request) sessions = is_open session sessions
has_session (Sweep rule) sessions = true
has_session (Bad at) sessions = true
has_session Other sessions = true

-- a line that names a session is refused where that isn't open
abbrev pub TellsIf : Bool → HostLine → ℕ → List Series → Frame → Type 0
TellsIf false asked total book frame = frame ≡ refused UnknownSession
TellsIf true asked total book frame = Tells asked total book frame

-- the frame answers the line over a state, which stays
abbrev pub Reported : HostLine → Frame → State → Type 0
Reported asked frame state = TellsIf (has_session asked state.sessions) asked state.total state.book frame

-- ---- whatever the pages are

-- the frame is of the kind that the line asks for, and a frame of rows is in the session that it names
abbrev pub IsCatalog : Frame → Type 0
IsCatalog (Report (report.Catalog catalog)) = ⊤
IsCatalog frame = ⊥

abbrev pub MayTellValues : Frame → Type 0
MayTellValues (Refused number a b) = ⊤
MayTellValues (Report (report.Values values)) = ⊤
MayTellValues frame = ⊥

abbrev pub MayReport : HostLine → Frame → Type 0
MayReport ListLine frame = IsCatalog frame
MayReport (Values name t0 t1) frame = MayTellValues frame
MayReport (Sum session request) frame = MayTellRows session frame
MayReport (Sweep rule) frame = ⊥
MayReport (Bad at) frame = frame ≡ refused (BadLine at)
MayReport Other frame = ⊥

-- how many blocks a line reads at most; a sum is bounded over a book alone
abbrev pub ReadsReport : HostLine → ℕ → ℕ → Type 0
ReadsReport ListLine old new = new ≡ old
ReadsReport (Values name t0 t1) old new = new ≤ old + 36
ReadsReport (Sum session request) old new = ⊤
ReadsReport (Sweep rule) old new = ⊥
ReadsReport (Bad at) old new = new ≡ old
ReadsReport Other old new = ⊥

-- and over a book
abbrev pub ReadsReportOver : List Series → HostLine → ℕ → ℕ → Type 0
ReadsReportOver book ListLine old new = new ≡ old
ReadsReportOver book (Values name t0 t1) old new = new ≤ old + 36
ReadsReportOver book (Sum session request) old new = ReadsAnswer book request old new
ReadsReportOver book (Sweep rule) old new = ⊥
ReadsReportOver book (Bad at) old new = new ≡ old
ReadsReportOver book Other old new = ⊥

-- a page that a line calls damaged is so: in the tree of the series that it names, or on the way to a key of some tree
abbrev pub IsBadForReport : HostLine → ℕ → Image → ℕ → Type 0
IsBadForReport ListLine count image page = ⊥
IsBadForReport (Values name t0 t1) count image page = IsBadForExport name count image page
IsBadForReport (Sum session request) count image page = IsBadForChart count image page
IsBadForReport (Sweep rule) count image page = ⊥
IsBadForReport (Bad at) count image page = ⊥
IsBadForReport Other count image page = ⊥

-- why pages weren't read: a page that is called damaged is one of the disk's, and is so where reads give what the pages are
abbrev pub IsPageCause : ServiceError → HostLine → Type 0 → View → View → Type 0
IsPageCause DiskFault asked told old new = HasRisen old.faults new.faults
IsPageCause (Damaged page) asked told old new = (page < new.size) × (told → IsBadForReport asked new.size new.image page)
IsPageCause NoMemory asked told old new = ⊤

-- why a line wasn't answered: the list reads no page, and a bad line wants no memory
abbrev pub IsReportCause : HostLine → ServiceError → Type 0 → View → View → Type 0
IsReportCause ListLine error told old new = error ≡ NoMemory
IsReportCause (Values name t0 t1) error told old new = IsPageCause error (Values name t0 t1) told old new
IsReportCause (Sum session request) error told old new = IsPageCause error (Sum session request) told old new
IsReportCause (Sweep rule) error told old new = ⊥
IsReportCause (Bad at) error told old new = ⊥
IsReportCause Other error told old new = ⊥
