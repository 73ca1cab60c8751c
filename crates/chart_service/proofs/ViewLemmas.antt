-- Views by the name of a series, and over another window.
use Rattle.std.proofs.Common.{◌≡◌, ℕ, ℤ, Bool, true, List, Option, None, Some, Ok, refl, sym, ap, subst}
use Rattle.std.specs.Prelude.{slice_get}
use Rattle.chart_grid.specs.declared.grid.Grid.{Grid}
use Rattle.chart_frames.specs.declared.frame.Frame.{Frame}
use Rattle.request_lines.specs.declared.ranges.RangeWord.{RangeWord}
use Rattle.series_book.specs.declared.one_series.Series.{Series}
use Rattle.series_book.specs.declared.refusals.Refusal.TheVariants.{UnknownSeries}
use Rattle.series_book.specs.Edits.{id_of}
use Rattle.value_filter.specs.declared.steps.Step.{Step}
use Rattle.zoom_session.specs.declared.session.Session.{Session}
use Rattle.zoom_session.specs.declared.view_spec.ViewSpec.{ViewSpec}
use Rattle.zoom_session.specs.Sessions.{is_open, last_of}
use Rattle.chart_service.specs.Planning.{IsSpec, IsMoved, IsLast, IsLastOf}
use Rattle.chart_service.specs.Replies.{refused, RepliesToView, ViewsId}
use Rattle.chart_service.specs.State.{State}
use Rattle.chart_service.specs.Stepping.{series_at, IsLastShown, ReadsBy, ReadsLast}
use Rattle.chart_service.specs.declared.viewport.Viewport.{Viewport}

-- no series has the name
pub replies_unknown : (number : ℕ) (name : List ℕ) (v : Viewport) (word : RangeWord) (filter : Option (List Step)) (frame : Frame)
    (old : State) → is_open number old.sessions ≡ true → id_of name old.book ≡ None → frame ≡ refused UnknownSeries
    → RepliesToView (is_open number old.sessions) number name v.w v.h v.t0 v.t1 word filter frame old old
replies_unknown number name v word filter frame old there none is =
    let B : Bool → Type 0 = λ b. RepliesToView b number name v.w v.h v.t0 v.t1 word filter frame old old in
    let I : Option ℕ → Type 0 = λ o. ViewsId o number v.w v.h v.t0 v.t1 word filter frame old old in
    subst B (sym there) (subst I (sym none) (record { reply = is; state = refl }))

-- the blocks that a view of a series reads, by its name
pub reads_named : (book : List Series) (name : List ℕ) (id : ℕ) (v : Viewport) (word : RangeWord) (filter : Option (List Step))
    (spec : ViewSpec) (old new : ℕ) → id_of name book ≡ Some id → IsSpec id v word filter spec
    → ReadsBy spec.filter spec.grid.w spec.grid.t0 spec.grid.t1 (slice_get book spec.series) old new
    → ReadsBy filter v.w v.t0 v.t1 (series_at book (id_of name book)) old new
reads_named book name id v word filter spec old new named is reads =
    let F : Option (List Step) → Type 0 = λ f. ReadsBy f spec.grid.w spec.grid.t0 spec.grid.t1 (slice_get book spec.series) old new in
    let W : ℕ → Type 0 = λ w. ReadsBy filter w spec.grid.t0 spec.grid.t1 (slice_get book spec.series) old new in
    let A : ℤ → Type 0 = λ t. ReadsBy filter v.w t spec.grid.t1 (slice_get book spec.series) old new in
    let B : ℤ → Type 0 = λ t. ReadsBy filter v.w v.t0 t (slice_get book spec.series) old new in
    let S : ℕ → Type 0 = λ n. ReadsBy filter v.w v.t0 v.t1 (slice_get book n) old new in
    let I : Option ℕ → Type 0 = λ o. ReadsBy filter v.w v.t0 v.t1 (series_at book o) old new in
    let seen = subst B is.grid.window.to (subst A is.grid.window.from (subst W is.grid.canvas.columns (subst F is.filter_is reads))) in
    subst I (sym named) (subst S is.of seen)

-- and over another window
pub reads_moved : (book : List Series) (last : ViewSpec) (g : Grid) (t0 t1 : ℤ) (old new : ℕ) → IsMoved last.grid t0 t1 (Ok g)
    → ReadsBy last.filter g.w g.t0 g.t1 (slice_get book last.series) old new
    → ReadsBy last.filter last.grid.w t0 t1 (slice_get book last.series) old new
reads_moved book last g t0 t1 old new moved reads =
    let W : ℕ → Type 0 = λ w. ReadsBy last.filter w g.t0 g.t1 (slice_get book last.series) old new in
    let A : ℤ → Type 0 = λ t. ReadsBy last.filter last.grid.w t g.t1 (slice_get book last.series) old new in
    let B : ℤ → Type 0 = λ t. ReadsBy last.filter last.grid.w t0 t (slice_get book last.series) old new in
    subst B moved.1.to (subst A moved.1.from (subst W moved.2.columns reads))

last_some : (o : Option ViewSpec) (last : ViewSpec) → IsLast o (Ok last) → o ≡ Some last
last_some None last is = absurd is
last_some (Some one) last is = ap (λ (l : ViewSpec). Some l) (sym is)

-- a session's last view
pub last_of_some : (o : Option Session) (last : ViewSpec) → IsLastOf o (Ok last) → last_of o ≡ Some last
last_of_some None last is = absurd is
last_of_some (Some session) last is = last_some session.last last is

-- its series
pub last_shown : (o : Option Session) (last : ViewSpec) → IsLastOf o (Ok last) → (id : ℕ) → id ≡ last.series → IsLastShown (last_of o) id
last_shown o last is id same =
    let L : Option ViewSpec → Type 0 = λ l. IsLastShown l id in
    subst L (sym (last_of_some o last is)) (sym same)

pub reads_of_last : (book : List Series) (o : Option Session) (last : ViewSpec) (window : ViewSpec → ℤ × ℤ) (old new : ℕ)
    → IsLastOf o (Ok last) → ReadsLast book (Some last) window old new → ReadsLast book (last_of o) window old new
reads_of_last book o last window old new is reads =
    let L : Option ViewSpec → Type 0 = λ l. ReadsLast book l window old new in
    subst L (sym (last_of_some o last is)) reads
