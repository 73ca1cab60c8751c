-- What a step does: over the book that the pages of the store stand for, and to these pages.
use Rattle.std.specs.Prelude.{ℕ, ℤ, ◌≡◌, ◌+◌, ◌+ℤ◌, ◌≤◌, ◌<◌, ◌⊎◌, List, length, Option, None, Some, Result, Ok, Err, IsSomeAnd}
use Rattle.std.specs.Prelude.{MatchOption, slice_get, ⊤}
use Rattle.block_disk.specs.Counts.{HasRisen}
use Rattle.block_disk.specs.View.{Image, View, Rises}
use Rattle.chart_frames.specs.declared.frame.Frame.{Frame}
use Rattle.chart_frames.specs.declared.frame.Frame.TheVariants.{Done, Refused, Opened, Closed, View as ViewFrame, Rows, Live, Report}
use Rattle.chart_frames.specs.Frames.{Fits}
use Rattle.filter_scan.specs.Reads.{ReadsWindow}
use Rattle.request_lines.specs.declared.requests.Request.{Request}
use Rattle.request_lines.specs.declared.requests.Request.TheVariants.{Edit as EditRequest, Open, View as ViewRequest, Zoom, Pan, Close}
use Rattle.request_lines.specs.Requests.{read_line}
use Rattle.series_book.specs.declared.one_series.Series.{Series}
use Rattle.series_book.specs.Edits.{id_of}
use Rattle.series_store.specs.Asking.{IsNamedAt}
use Rattle.series_store.specs.Results.{IsUnchanged}
use Rattle.series_catalog.specs.declared.stored_series.StoredSeries.{StoredSeries}
use Rattle.page_space.specs.declared.superblock.Superblock.{Superblock}
use Rattle.stored_book.specs.Damage.{IsDamagedOnce, IsBadForRequest}
use Rattle.stored_book.specs.Standing.{StandsForBook}
use Rattle.tree_walk.specs.Paths.{IsDamaged}
use Rattle.value_filter.specs.declared.steps.Step.{Step}
use Rattle.zoom_session.specs.declared.session.Session.{Session}
use Rattle.zoom_session.specs.declared.view_spec.ViewSpec.{ViewSpec}
use Rattle.zoom_session.specs.Sessions.{session_of, last_of}
use Rattle.chart_service.specs.State.{State, IsSound}
use Rattle.chart_service.specs.Planning.{most_view_reads}
use Rattle.chart_service.specs.Viewing.{axis_of}
use Rattle.chart_service.specs.Replies.{Replies}
use Rattle.chart_service.specs.declared.failure.ServiceError.{ServiceError}
use Rattle.chart_service.specs.declared.failure.ServiceError.TheVariants.{DiskFault, Damaged, NoMemory}

-- the state of a service with these sessions over pages that stand for this book with this total
abbrev pub state_of : List Series → ℕ → List Session → State
state_of book total sessions = record { book = book; total = total; sessions = sessions }

-- the pages stand for a book with this total, and the state with that book and these sessions is so
pub record StandsAfter (total : ℕ) (image : Image) (sessions : List Session) (IsSo : State → Type 0) : Type 0 where
  pub book : List Series
  pub stands : StandsForBook image total book
  pub so : IsSo (state_of book total sessions)

-- A request is answered: the fields of its frame meet their rules, and the state after it is sound.
abbrev pub RepliedTo : Request → Frame → State → State → Type 0
RepliedTo request answer old new = Replies request answer old new × Fits answer × IsSound new

-- the pages stand for the book that an answer leaves
pub record IsAfterReply (Reply : Frame → State → State
    → Type 0) (total : ℕ) (book : List Series) (sessions : List Session) (image : Image) : Type 0 where
  pub frame : Frame
  pub left : List Session
  pub after : StandsAfter total image left (λ new. Reply frame (state_of book total sessions) new)

-- the pages stand for the book from before, or for the one that an answer leaves
abbrev pub IsBeforeOrAfter : (Frame → State → State → Type 0) → ℕ → List Series → List Session → Image → Type 0
IsBeforeOrAfter Reply total book sessions image = StandsForBook image total book ⊎ IsAfterReply Reply total book sessions image

-- the page is one of the tree of a series in the catalog whose id is so, and damaged
pub record IsDamagedIn (IsShown : ℕ → Type 0) (catalog : List StoredSeries) (image : Image) (total page : ℕ) : Type 0 where
  pub id : ℕ
  pub shown : IsShown id
  pub series : StoredSeries
  pub there : slice_get catalog id ≡ Some series
  pub damaged : IsDamaged image total series.tree page

-- a page that a view of this series finds damaged is one of the store's, and is so where reads give what the pages are
abbrev pub IsDamagedToView : (ℕ → Type 0) → Type 0 → List StoredSeries → Image → ℕ → ℕ → Type 0
IsDamagedToView IsShown told catalog image total page = (page < total) × (told → IsDamagedIn IsShown catalog image total page)

-- the series of a session's last view
abbrev pub IsLastShown : Option ViewSpec → ℕ → Type 0
IsLastShown last id = IsSomeAnd last (λ one. one.series ≡ id)

-- what a page is that a request finds damaged: for a view of the series of its name, for a zoom or a pan of that of the
-- session's last view, and for an edit where no page is used twice; the others read no page
abbrev pub IsDamagedFor : Request → Type 0 → List StoredSeries → List Session → Image → Superblock → ℕ → Type 0
IsDamagedFor (EditRequest edit) told catalog sessions image s page = (page < s.total) × (told → IsDamagedOnce image s page)
IsDamagedFor (Open number cache) told catalog sessions image s page = ⊥
IsDamagedFor (ViewRequest number name w h t0 t1 word text) told catalog sessions image s page =
    IsDamagedToView (IsNamedAt catalog name) told catalog image s.total page
IsDamagedFor (Zoom number t0 t1) told catalog sessions image s page =
    IsDamagedToView (IsLastShown (last_of (session_of number sessions))) told catalog image s.total page
IsDamagedFor (Pan number by) told catalog sessions image s page =
    IsDamagedToView (IsLastShown (last_of (session_of number sessions))) told catalog image s.total page
IsDamagedFor (Close number) told catalog sessions image s page = ⊥

-- why a request wasn't answered, by the sessions that were open; want of memory is free
abbrev pub IsStepCause : Request → ServiceError → Type 0 → List StoredSeries → List Session → Superblock → View → View → Type 0
IsStepCause request DiskFault told catalog sessions s old new = HasRisen old.faults new.faults
IsStepCause request (Damaged page) told catalog sessions s old new = IsDamagedFor request told catalog sessions old.image s page
IsStepCause request NoMemory told catalog sessions s old new = ⊤

-- the same of what a line is read as, and of a line; nothing but want of memory keeps from a refusal
abbrev pub IsReadCause : Result Request ℕ → ServiceError → Type 0 → List StoredSeries → List Session → Superblock → View → View → Type 0
IsReadCause (Err at) DiskFault told catalog sessions s old new = ⊥
IsReadCause (Err at) (Damaged page) told catalog sessions s old new = ⊥
IsReadCause (Err at) NoMemory told catalog sessions s old new = ⊤
IsReadCause (Ok request) error told catalog sessions s old new = IsStepCause request error told catalog sessions s old new

abbrev pub IsLineCause : Option (List ℕ) → ServiceError → Type 0 → List StoredSeries → List Session → Superblock → View → View → Type 0
IsLineCause None error told catalog sessions s old new = ⊥
IsLineCause (Some text) error told catalog sessions s old new = IsReadCause (read_line text) error told catalog sessions s old new

-- a page that is called damaged is one of so many, and is so where reads give what the pages are
abbrev pub IsBadPage : Type 0 → ℕ → Image → ℕ → Type 0
IsBadPage told count image page = (page < count) × (told → IsBadForRequest count image page)

-- the page of an error that names one is bad
abbrev pub NamesBad : Type 0 → ℕ → Image → ServiceError → Type 0
NamesBad told count image DiskFault = ⊤
NamesBad told count image (Damaged page) = IsBadPage told count image page
NamesBad told count image NoMemory = ⊤

-- where pages stand for a book, a fault of the disk or want of memory alone keeps from an answer
abbrev pub IsOutside : ServiceError → Type 0
IsOutside error = (error ≡ DiskFault) ⊎ (error ≡ NoMemory)

-- with a frame other than Done nothing was committed
abbrev pub IsUnchangedBy : Frame → Type 0 → View → View → Type 0
IsUnchangedBy (Done slots) told old new = ⊤
IsUnchangedBy (Refused number a b) told old new = IsUnchanged told old new
IsUnchangedBy (Opened session cache) told old new = IsUnchanged told old new
IsUnchangedBy (Closed session) told old new = IsUnchanged told old new
IsUnchangedBy (ViewFrame view) told old new = IsUnchanged told old new
IsUnchangedBy (Rows rows) told old new = IsUnchanged told old new
IsUnchangedBy (Live session on) told old new = IsUnchanged told old new
IsUnchangedBy (Report report) told old new = IsUnchanged told old new

-- unless a call of the disk failed, nothing was committed
abbrev pub IsUnchangedFor : ServiceError → Type 0 → View → View → Type 0
IsUnchangedFor DiskFault told old new = ⊤
IsUnchangedFor (Damaged page) told old new = IsUnchanged told old new
IsUnchangedFor NoMemory told old new = IsUnchanged told old new

-- what a step moves, whatever the pages are
pub record Steps (told_old told_new : Type 0) (old new : View) : Type 0 where
  pub told : told_old → told_new
  pub was_told : told_new → told_old
  pub size : new.size ≡ old.size
  pub beside : new.beside ≡ old.beside
  pub faults : old.faults ≤ new.faults
  pub syncs : Rises 4 old.syncs new.syncs
  pub writes : Rises 87 old.writes new.writes

-- and what edits move that are done together
pub record GroupSteps (told_old told_new : Type 0) (old new : View) : Type 0 where
  pub told : told_old → told_new
  pub was_told : told_new → told_old
  pub size : new.size ≡ old.size
  pub beside : new.beside ≡ old.beside
  pub faults : old.faults ≤ new.faults
  pub reads : old.reads ≤ new.reads
  pub syncs : old.syncs ≤ new.syncs
  pub writes : old.writes ≤ new.writes

-- the series of this id, if there is one
abbrev pub series_at : List Series → Option ℕ → Option Series
series_at book None = None
series_at book (Some id) = slice_get book id

-- a view over a canvas of w columns of this series reads as many blocks as its keys and its range take; it reads none
-- where there is no such series
abbrev pub ReadsFor : ℕ → Option Series → ℕ → ℕ → Type 0
ReadsFor w series old new = MatchOption series (new ≡ old) (λ one. new ≤ old + most_view_reads w (length one.slots))

-- a filtered view over this window reads as many as a walk over the slots of the series in it takes
abbrev pub ReadsRows : ℤ → ℤ → Option Series → ℕ → ℕ → Type 0
ReadsRows t0 t1 series old new = MatchOption series (new ≡ old) (λ one. ReadsWindow (axis_of one) t0 t1 old new)

-- a view without a filter, or with these steps
abbrev pub ReadsBy : Option (List Step) → ℕ → ℤ → ℤ → Option Series → ℕ → ℕ → Type 0
ReadsBy None w t0 t1 series old new = ReadsFor w series old new
ReadsBy (Some steps) w t0 t1 series old new = ReadsRows t0 t1 series old new

-- the same by the text of its filter
abbrev pub ReadsByText : Option (List ℕ) → ℕ → ℤ → ℤ → Option Series → ℕ → ℕ → Type 0
ReadsByText None w t0 t1 series old new = ReadsFor w series old new
ReadsByText (Some text) w t0 t1 series old new = ReadsRows t0 t1 series old new

-- and of a session's last view over another window
abbrev pub ReadsLast : List Series → Option ViewSpec → (ViewSpec → ℤ × ℤ) → ℕ → ℕ → Type 0
ReadsLast book None window old new = new ≡ old
ReadsLast book (Some last) window old new = ReadsBy last.filter last.grid.w (window last).0 (window last).1
    (slice_get book last.series) old new

-- how many blocks an answer reads at most, refused or not
abbrev pub ReadsFew : Request → List Series → List Session → ℕ → ℕ → Type 0
ReadsFew (EditRequest edit) book sessions old new = new ≤ old + 96
ReadsFew (Open number cache) book sessions old new = new ≡ old
ReadsFew (ViewRequest number name w h t0 t1 word text) book sessions old new = ReadsByText text w t0 t1
    (series_at book (id_of name book)) old new
ReadsFew (Zoom number t0 t1) book sessions old new = ReadsLast book (last_of (session_of number sessions)) (λ last. (t0, t1)) old new
ReadsFew (Pan number by) book sessions old new =
    ReadsLast book (last_of (session_of number sessions)) (λ last. (last.grid.t0 +ℤ by, last.grid.t1 +ℤ by)) old new
ReadsFew (Close number) book sessions old new = new ≡ old
