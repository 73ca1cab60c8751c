-- Views over the nodes of a selected series.
use Rattle.std.proofs.Common.{◌≡◌, ℕ, ℤ, false, List, Option, None, Some, Result, Ok, Err, IfErr, refl, sym, ap, subst, inl, inr, ◌∙◌}
use Rattle.std.specs.Prelude.{IsSomeAnd, IsTrue, slice_get, is_none}
use Rattle.block_disk.specs.View.{View}
use Rattle.chart_frames.specs.declared.frame.Frame.{Frame}
use Rattle.chart_frames.specs.declared.frame.Frame.TheVariants.{View as ViewOf, Rows}
use Rattle.chart_frames.specs.declared.frame.ViewFrame.{ViewFrame}
use Rattle.chart_frames.specs.declared.frame.RowsFrame.{RowsFrame}
use Rattle.chart_frames.specs.Frames.{Fits}
use Rattle.filter_scan.specs.declared.scan_error.ScanError.{ScanError}
use Rattle.filter_scan.specs.declared.scan_error.ScanError.TheVariants as scan
use Rattle.filter_scan.specs.Answers.{IsCauseOf}
use Rattle.om3_coeff.specs.declared.errors.NodeError.{NodeError}
use Rattle.om3_coeff.specs.declared.errors.NodeError.TheVariants as node
use Rattle.om3_coeff.specs.View.{NodesView, HasCause}
use Rattle.page_space.specs.declared.superblock.Superblock.{Superblock}
use Rattle.series_book.specs.declared.one_series.Series.{Series}
use Rattle.series_book.specs.declared.refusals.Refusal.TheVariants.{ViewTooLarge}
use Rattle.series_catalog.specs.declared.stored_series.StoredSeries.{StoredSeries}
use Rattle.value_filter.specs.declared.steps.Step.{Step}
use Rattle.zoom_session.specs.declared.errors.PlanError.{PlanError}
use Rattle.zoom_session.specs.declared.errors.PlanError.TheVariants.{TooLarge, Node, NoMemory}
use Rattle.zoom_session.specs.declared.session.Session.{Session}
use Rattle.zoom_session.specs.declared.view_spec.ViewSpec.{ViewSpec}
use Rattle.zoom_session.specs.Sessions.{session_of, is_open, viewed}
use Rattle.chart_service.specs.Kinds.{IsRefusal}
use Rattle.chart_service.specs.Opening.{OpensBy}
use Rattle.chart_service.specs.State.{State}
use Rattle.chart_service.specs.Replies.{refused, AnswersBy}
use Rattle.om3_coeff.specs.declared.key.Key.{Key}
use Rattle.om3_coeff.specs.declared.coef.Coef.{Coef}
use Rattle.chart_service.specs.Viewing.{AnswersRows, rows_frame}
use Rattle.chart_service.specs.Planning.{RefusesView, StopsIn, PlansOrStops, ShowsOrStops, ShowsIn, IsPlannedFor, planned_frame}
use Rattle.chart_service.specs.Stepping.{state_of, ReadsBy, ReadsByText, ReadsFor, ReadsRows, IsOutside}
use Rattle.chart_service.specs.Looking.{Looks, Looked, Replying, IsNodeCause, IsPlanCause, IsScanCause, error_of}
use Rattle.chart_service.specs.Planning.{IsFilterOf}
use Rattle.chart_service.specs.declared.failure.ServiceError.{ServiceError}
use Rattle.chart_service.specs.declared.failure.ServiceError.TheVariants as step
use Rattle.chart_service.specs.declared.shown.Planned.{Planned}
use Rattle.chart_service.specs.declared.shown_rows.ShownRows.{ShownRows}
use Rattle.chart_service.proofs.Answered.{refused_too_large, answered_view}
use Rattle.chart_service.proofs.Filtered.{answered_rows}
use Rattle.chart_service.proofs.Openings.{opens_viewed, opens_rows}

-- the cause of a plan's error
pub plan_cause : (IsShown : ℕ → Type 0) (session : Option Session) (nodes nodes' : NodesView) (told : Type 0) (catalog : List StoredSeries)
    (total : ℕ) (old new : View) (error : PlanError)
    → ((e : NodeError) → HasCause nodes nodes' e → IsNodeCause IsShown e told catalog total old new)
    → RefusesView session nodes nodes' error → IsPlanCause IsShown error told catalog total old new
plan_cause IsShown None nodes nodes' told catalog total old new error more refuses = absurd refuses
plan_cause IsShown (Some session) nodes nodes' told catalog total old new (TooLarge needed cache) more refuses = tt
plan_cause IsShown (Some session) nodes nodes' told catalog total old new (Node e) more refuses = more e refuses
plan_cause IsShown (Some session) nodes nodes' told catalog total old new NoMemory more refuses = tt

pub scan_cause : (IsShown : ℕ → Type 0) (nodes nodes' : NodesView) (told : Type 0) (catalog : List StoredSeries) (total : ℕ)
    (old new : View) (error : ScanError) → ((e : NodeError) → HasCause nodes nodes' e → IsNodeCause IsShown e told catalog total old new)
    → IsCauseOf nodes nodes' error → IsScanCause IsShown error told catalog total old new
scan_cause IsShown nodes nodes' told catalog total old new (scan.Node e) more cause = more e cause
scan_cause IsShown nodes nodes' told catalog total old new scan.NoMemory more cause = tt

pub if_err : {T E : Type 0} (r : Result T E) (P Q : E → Type 0) → ((e : E) → P e → Q e) → IfErr r P → IfErr r Q
if_err (Ok t) P Q more is = tt
if_err (Err e) P Q more is = more e is

-- ---- a view that isn't answered

too_large_at : (book : Option Series) (spec : ViewSpec) (session : Option Session) (needed cache : ℕ)
    → IsSomeAnd book (λ series. PlansOrStops series spec session (Err (TooLarge needed cache)))
    → IsSomeAnd book (λ series. StopsIn series spec session (TooLarge needed cache))
too_large_at None spec session needed cache is = absurd is
too_large_at (Some series) spec session needed cache is = is

-- it needs too many keys
pub replying_too_large : (book : List Series) (total : ℕ) (spec : ViewSpec) (number needed cache : ℕ) (ss ss' : List Session)
    (frame : Frame) (error : PlanError) (old new : View) → ss' ≡ ss → error ≡ TooLarge needed cache
    → IsSomeAnd (slice_get book spec.series) (λ series. PlansOrStops series spec (session_of number ss) (Err error))
    → frame ≡ refused (ViewTooLarge needed cache) → ReadsFor spec.grid.w (slice_get book spec.series) old.reads new.reads
    → Replying (λ frame old new. IsSomeAnd (slice_get old.book spec.series) (λ series. AnswersBy None series spec number frame old new))
    (ReadsFor spec.grid.w (slice_get book spec.series)) (Ok frame) total book ss ss' old new
replying_too_large book total spec number needed cache ss ss' frame error old new same is planned reply reads =
    let before = state_of book total ss in
    let E : PlanError → Type 0 = λ e. IsSomeAnd (slice_get book spec.series)
    (λ series. PlansOrStops series spec (session_of number ss) (Err e)) in
    let S : List Session → Type 0 = λ l. IsSomeAnd (slice_get book spec.series)
    (λ series. AnswersBy None series spec number frame before (state_of book total l)) in
    record {
      reply = subst S (sym same) (refused_too_large (slice_get book spec.series) spec number needed cache before frame
          (too_large_at (slice_get book spec.series) spec (session_of number ss) needed cache (subst E is planned)) reply);
      standing = tt;
      reads = reads;
    }

-- the disk failed
node_stops : (session : Option Session) (series : Series) (spec : ViewSpec) (e : NodeError) → StopsIn series spec session (Node e)
    → e ≡ node.DiskFault
node_stops None series spec e is = absurd is
node_stops (Some session) series spec e is = is

disk_at : (book : Option Series) (spec : ViewSpec) (session : Option Session) (e : NodeError)
    → IsSomeAnd book (λ series. PlansOrStops series spec session (Err (Node e))) → e ≡ node.DiskFault
disk_at None spec session e is = absurd is
disk_at (Some series) spec session e is = node_stops session series spec e is

scan_disk_at : (book : Option Series) (spec : ViewSpec) (e : NodeError)
    → IsSomeAnd book (λ series. ShowsOrStops series spec (Err (scan.Node e))) → e ≡ node.DiskFault
scan_disk_at None spec e is = absurd is
scan_disk_at (Some series) spec e is = is

outside : (e : NodeError) (error : ServiceError) → error ≡ error_of e → e ≡ node.DiskFault → IsOutside error
outside e error is disk = inl (is ∙ ap error_of disk)

pub replying_node : (Reply : Frame → State → State → Type 0) (Reads : ℕ → ℕ
    → Type 0) (book : List Series) (total : ℕ) (spec : ViewSpec) (number : ℕ) (ss ss' : List Session) (e : NodeError) (plan : PlanError)
    (error : ServiceError) (old new : View) → plan ≡ Node e → error ≡ error_of e
    → IsSomeAnd (slice_get book spec.series) (λ series. PlansOrStops series spec (session_of number ss) (Err plan))
    → Reads old.reads new.reads → Replying Reply Reads (Err error) total book ss ss' old new
replying_node Reply Reads book total spec number ss ss' e plan error old new is same planned reads =
    let E : PlanError → Type 0 = λ p. IsSomeAnd (slice_get book spec.series)
    (λ series. PlansOrStops series spec (session_of number ss) (Err p)) in
    record {
      reply = tt;
      standing = outside e error same
          (disk_at (slice_get book spec.series) spec (session_of number ss) e (subst E is planned));
      reads = reads;
    }

pub replying_scan : (Reply : Frame → State → State → Type 0) (Reads : ℕ → ℕ
    → Type 0) (book : List Series) (total : ℕ) (spec : ViewSpec) (ss ss' : List Session) (e : NodeError) (why : ScanError)
    (error : ServiceError) (old new : View) → why ≡ scan.Node e → error ≡ error_of e
    → IsSomeAnd (slice_get book spec.series) (λ series. ShowsOrStops series spec (Err why)) → Reads old.reads new.reads
    → Replying Reply Reads (Err error) total book ss ss' old new
replying_scan Reply Reads book total spec ss ss' e why error old new is same planned reads =
    let E : ScanError → Type 0 = λ p. IsSomeAnd (slice_get book spec.series) (λ series. ShowsOrStops series spec (Err p)) in
    record {
      reply = tt;
      standing = outside e error same (scan_disk_at (slice_get book spec.series) spec e (subst E is planned));
      reads = reads;
    }

-- there was no memory
pub replying_want : (Reply : Frame → State → State → Type 0) (Reads : ℕ → ℕ
    → Type 0) (book : List Series) (total : ℕ) (ss ss' : List Session) (old new : View) → Reads old.reads new.reads
    → Replying Reply Reads (Err step.NoMemory) total book ss ss' old new
replying_want Reply Reads book total ss ss' old new reads = record { reply = tt; standing = inr refl; reads = reads }

-- ---- how many blocks a view reads

pub reads_unfiltered : (filter : Option (List Step)) (w : ℕ) (t0 t1 : ℤ) (o : Option Series) (old new : ℕ) → filter ≡ None
    → ReadsFor w o old new → ReadsBy filter w t0 t1 o old new
reads_unfiltered filter w t0 t1 o old new none reads = let R : Option (List Step) → Type 0 = λ f. ReadsBy f w t0 t1 o old new in
    subst R (sym none) reads

pub reads_filtered : (filter : Option (List Step)) (w : ℕ) (t0 t1 : ℤ) (o : Option Series) (old new : ℕ) → is_none filter ≡ false
    → ReadsRows t0 t1 o old new → ReadsBy filter w t0 t1 o old new
reads_filtered None w t0 t1 o old new some rows = cc
reads_filtered (Some steps) w t0 t1 o old new some rows = rows

pub reads_by_text : (text : Option (List ℕ)) (filter : Option (List Step)) (w : ℕ) (t0 t1 : ℤ) (o : Option Series) (old new : ℕ)
    → IsFilterOf text (Ok filter) → ReadsBy filter w t0 t1 o old new → ReadsByText text w t0 t1 o old new
reads_by_text None filter w t0 t1 o old new is reads = let R : Option (List Step) → Type 0 = λ f. ReadsBy f w t0 t1 o old new in
    subst R is reads
reads_by_text (Some text) None w t0 t1 o old new is reads = absurd is
reads_by_text (Some text) (Some steps) w t0 t1 o old new is reads = reads

-- ---- an answered view

-- what comes of it, whatever the pages are
pub looked_viewed : (number : ℕ) (frame : Frame) (ss ss' : List Session) (told told' : Type 0) (old new under under' : View)
    (s s' : Superblock) (catalog catalog' : List StoredSeries) → Fits frame → OpensBy frame ss ss' → (IsRefusal frame → ⊥)
    → Looks told told' old new under under' s s' catalog catalog'
    → Looked (Some number) (Ok frame) ss ss' told told' old new under under' s s' catalog catalog'
looked_viewed number frame ss ss' told told' old new under under' s s' catalog catalog' fits opens none looks = record {
  fits = fits;
  opens = opens;
  lost = tt;
  kept = λ refuses. absurd (none refuses);
  looks = looks;
}

planned_at : (book : Option Series) (spec : ViewSpec) (session : Option Session) (p : Planned) (r : Result Planned PlanError) → r ≡ Ok p
    → IsSomeAnd book (λ series. PlansOrStops series spec session r) → IsSomeAnd book (λ series. IsPlannedFor series spec session p)
planned_at None spec session p r is planned = planned
planned_at (Some series) spec session p r is planned = let R : Result Planned PlanError
    → Type 0 = λ x. PlansOrStops series spec session x in subst R is planned

pub replying_view : (book : List Series) (total : ℕ) (spec : ViewSpec) (number : ℕ) (p : Planned) (r : Result Planned PlanError)
    (view : ViewFrame) (ss mid ss' : List Session) (old new : View) → r ≡ Ok p
    → IsSomeAnd (slice_get book spec.series) (λ series. PlansOrStops series spec (session_of number ss) r)
    → view ≡ planned_frame number spec.series spec.grid p.told p.plan.send → mid ≡ ss → ss' ≡ viewed number spec (Some p.plan.needed) mid
    → ReadsFor spec.grid.w (slice_get book spec.series) old.reads new.reads
    → Replying (λ frame old new. IsSomeAnd (slice_get old.book spec.series) (λ series. AnswersBy None series spec number frame old new))
    (ReadsFor spec.grid.w (slice_get book spec.series)) (Ok (ViewOf view)) total book ss ss' old new
replying_view book total spec number p r view ss mid ss' old new is planned frame same viewed_so reads =
    let so : ss' ≡ viewed number spec (Some p.plan.needed) ss = viewed_so
    ∙ ap (λ (l : List Session). viewed number spec (Some p.plan.needed) l) same in
    record {
      reply = answered_view (slice_get book spec.series) spec number p (state_of book total ss) (state_of book total ss') view
          (planned_at (slice_get book spec.series) spec (session_of number ss) p r is planned) frame
          (ap (λ (l : List Session). state_of book total l) so);
      standing = tt;
      reads = reads;
    }

pub opens_view : (number : ℕ) (spec : ViewSpec) (needed : Option (List (Key × Coef))) (view : ViewFrame) (ss mid ss' : List Session)
    → view.session ≡ number → mid ≡ ss → ss' ≡ viewed number spec needed mid → IsTrue (is_open number ss) → OpensBy (ViewOf view) ss ss'
opens_view number spec needed view ss mid ss' is same viewed_so there =
    let so : ss' ≡ viewed number spec needed ss = viewed_so ∙ ap (λ (l : List Session). viewed number spec needed l) same in
    subst (OpensBy (ViewOf view) ss) (sym so) (opens_viewed number spec needed view ss is there)

-- the same with a filter
shown_at : (book : Option Series) (spec : ViewSpec) (shown : ShownRows) (r : Result ShownRows ScanError) → r ≡ Ok shown
    → IsSomeAnd book (λ series. ShowsOrStops series spec r) → IsSomeAnd book (λ series. ShowsIn series spec shown)
shown_at None spec shown r is shows = shows
shown_at (Some series) spec shown r is shows = let R : Result ShownRows ScanError → Type 0 = λ x. ShowsOrStops series spec x in
    subst R is shows

pub replying_rows : (book : List Series) (total : ℕ) (spec : ViewSpec) (number : ℕ) (shown : ShownRows) (r : Result ShownRows ScanError)
    (rows : RowsFrame) (ss mid ss' : List Session) (old new : View) → r ≡ Ok shown
    → IsSomeAnd (slice_get book spec.series) (λ series. ShowsOrStops series spec r) → rows ≡ rows_frame number spec shown.range shown.rows
    → mid ≡ ss → ss' ≡ viewed number spec None mid → IsTrue (is_open number ss)
    → ReadsRows spec.grid.t0 spec.grid.t1 (slice_get book spec.series) old.reads new.reads
    → Replying (λ frame old new. IsSomeAnd (slice_get old.book spec.series) (λ series. AnswersRows series spec number frame old new))
    (ReadsRows spec.grid.t0 spec.grid.t1 (slice_get book spec.series)) (Ok (Rows rows)) total book ss ss' old new
replying_rows book total spec number shown r rows ss mid ss' old new is shows frame same viewed_so there reads =
    let so : ss' ≡ viewed number spec None ss = viewed_so ∙ ap (λ (l : List Session). viewed number spec None l) same in
    record {
      reply = answered_rows (slice_get book spec.series) spec number shown rows (state_of book total ss) (state_of book total ss') there
          (shown_at (slice_get book spec.series) spec shown r is shows) frame (ap (λ (l : List Session). state_of book total l) so);
      standing = tt;
      reads = reads;
    }

pub opens_rows_of : (number : ℕ) (spec : ViewSpec) (rows : RowsFrame) (ss mid ss' : List Session) → rows.session ≡ number → mid ≡ ss
    → ss' ≡ viewed number spec None mid → IsTrue (is_open number ss) → OpensBy (Rows rows) ss ss'
opens_rows_of number spec rows ss mid ss' is same viewed_so there =
    let so : ss' ≡ viewed number spec None ss = viewed_so ∙ ap (λ (l : List Session). viewed number spec None l) same in
    subst (OpensBy (Rows rows) ss) (sym so) (opens_rows number spec None rows ss is there)
