-- Calls that leave the pages as they are.
use Rattle.std.proofs.Common.{◌≡◌, ℕ, List, Option, Some, Result, Ok, Err, IfOk, IfErr, refl, sym, subst, inl, arith}
use Rattle.std.specs.Prelude.{MatchResult, slice_get}
use Rattle.block_disk.specs.View.{Image, View, Now, Only, Passes}
use Rattle.block_disk.proofs.Passing.{passes_none, passes_weaker}
use Rattle.chart_frames.specs.declared.frame.Frame.{Frame}
use Rattle.chart_frames.specs.declared.frame.Frame.TheVariants.{Done, Refused, Opened, Closed, View as ViewFrame, Rows, Live, Report}
use Rattle.chart_frames.specs.Frames.{Fits}
use Rattle.gate_pages.specs.Pages.{Quiet}
use Rattle.gate_pages.specs.GateLaws.{goes_none}
use Rattle.om3_coeff.specs.declared.errors.NodeError.{NodeError}
use Rattle.om3_coeff.specs.declared.errors.NodeError.TheVariants as node
use Rattle.om3_coeff.specs.View.{HasCause}
use Rattle.page_space.specs.declared.superblock.Superblock.{Superblock}
use Rattle.series_book.specs.declared.one_series.Series.{Series}
use Rattle.series_book.specs.declared.refusals.Refusal.{Refusal}
use Rattle.series_store.specs.Results.{IsUnchanged}
use Rattle.series_catalog.specs.declared.stored_series.StoredSeries.{StoredSeries}
use Rattle.stored_book.specs.Standing.{StandsForBook}
use Rattle.tree_walk.specs.declared.tree.Tree.{Tree}
use Rattle.tree_walk.specs.declared.trail.Trail.{Trail}
use Rattle.tree_walk.specs.Paths.{IsDamaged}
use Rattle.tree_walk.specs.PagedNodes.{ground, paged_view}
use Rattle.zoom_session.specs.declared.session.Session.{Session}
use Rattle.chart_service.specs.Opening.{OpensBy}
use Rattle.chart_service.specs.State.{State}
use Rattle.chart_service.specs.Replies.{refused}
use Rattle.chart_service.specs.Stepping.{state_of, IsBeforeOrAfter, IsUnchangedBy, IsUnchangedFor, Steps}
use Rattle.chart_service.specs.Looking.{Looks, Looked, Replying, IsNodeCause, IsOfPages, IsViewCause}
use Rattle.chart_service.specs.declared.failure.ServiceError.{ServiceError}
use Rattle.chart_service.specs.declared.failure.ServiceError.TheVariants.{DiskFault, Damaged, NoMemory}

-- no call
pub looks_none : (told : Type 0) (at under : View) (s : Superblock) (catalog : List StoredSeries)
    → Looks told told at at under under s s catalog catalog
looks_none told at under s catalog = record {
  time = passes_none at (Now at) (Quiet at);
  goes_on = goes_none under;
  told = λ t. t;
  was_told = λ t. t;
  image = λ t. refl;
  size = refl;
  beside = refl;
  fit = λ f. f;
  faults = omega arith;
  syncs = refl;
  writes = refl;
  superblock = refl;
  catalog_is = refl;
}

-- ---- what is said of a step

pub unchanged : (told told' : Type 0) (old new under under' : View) (s s' : Superblock) (catalog catalog' : List StoredSeries)
    → Looks told told' old new under under' s s' catalog catalog' → IsUnchanged told old new
unchanged told told' old new under under' s s' catalog catalog' looks = record {
  image = looks.image;
  fit = looks.fit;
  syncs = looks.syncs;
  writes = looks.writes;
}

by_frame : (frame : Frame) (told : Type 0) (old new : View) → IsUnchanged told old new → IsUnchangedBy frame told old new
by_frame (Done slots) told old new is = tt
by_frame (Refused number a b) told old new is = is
by_frame (Opened session cache) told old new is = is
by_frame (Closed session) told old new is = is
by_frame (ViewFrame view) told old new is = is
by_frame (Rows rows) told old new is = is
by_frame (Live session on) told old new is = is
by_frame (Report report) told old new is = is

for_error : (error : ServiceError) (told : Type 0) (old new : View) → IsUnchanged told old new → IsUnchangedFor error told old new
for_error DiskFault told old new is = tt
for_error (Damaged page) told old new is = is
for_error NoMemory told old new is = is

pub unchanged_so : (result : Result Frame ServiceError) (told : Type 0) (old new : View) → IsUnchanged told old new
    → MatchResult result (λ frame. IsUnchangedBy frame told old new) (λ error. IsUnchangedFor error told old new)
unchanged_so (Ok frame) told old new is = by_frame frame told old new is
unchanged_so (Err error) told old new is = for_error error told old new is

pub steps_so : (told told' : Type 0) (old new under under' : View) (s s' : Superblock) (catalog catalog' : List StoredSeries)
    → Looks told told' old new under under' s s' catalog catalog' → Steps told told' old new
steps_so told told' old new under under' s s' catalog catalog' looks = record {
  told = looks.told;
  was_told = looks.was_told;
  size = looks.size;
  beside = looks.beside;
  faults = looks.faults;
  syncs = record { low = omega (arith, looks.syncs); high = omega (arith, looks.syncs) };
  writes = record { low = omega (arith, looks.writes); high = omega (arith, looks.writes) };
}

-- a crash leaves the book from before
pub moments_so : (Reply : Frame → State → State → Type 0) (total : ℕ) (book : List Series) (sessions : List Session) (old new : View)
    → Only old.image (Now old) → StandsForBook old.image total book → Passes old new (Now old) (Quiet old)
    → Passes old new (IsBeforeOrAfter Reply total book sessions) (Quiet old)
moments_so Reply total book sessions old new only stands passes =
    let S : Image → Type 0 = λ image. StandsForBook image total book in
    passes_weaker old new (Now old) (IsBeforeOrAfter Reply total book sessions) (Quiet old) (Quiet old)
    (λ image left. inl (subst S (sym (only image left)) stands)) (λ count quiet. quiet) passes

-- ---- what comes of a request that is no edit

-- it is refused
pub looked_refused : (number : Option ℕ) (frame : Frame) (refusal : Refusal) (sessions : List Session) (told : Type 0) (at under : View)
    (s : Superblock) (catalog : List StoredSeries) → frame ≡ refused refusal → Fits frame
    → Looked number (Ok frame) sessions sessions told told at at under under s s catalog catalog
looked_refused number frame refusal sessions told at under s catalog is fits = record {
  fits = fits;
  opens = let O : Frame → Type 0 = λ f. OpensBy f sessions sessions in subst O (sym is) (record { named = tt; after = λ n. refl });
  lost = tt;
  kept = λ refuses. refl;
  looks = looks_none told at under s catalog;
}

pub replying_refused : (Reply : Frame → State → State → Type 0) (Reads : ℕ → ℕ
    → Type 0) (frame : Frame) (total : ℕ) (book : List Series) (sessions : List Session) (at : View)
    → Reply frame (state_of book total sessions) (state_of book total sessions) → Reads at.reads at.reads
    → Replying Reply Reads (Ok frame) total book sessions sessions at at
replying_refused Reply Reads frame total book sessions at reply reads = record { reply = reply; standing = tt; reads = reads }

if_ok : {T E : Type 0} (r : Result T E) (P Q : T → Type 0) → ((t : T) → P t → Q t) → IfOk r P → IfOk r Q
if_ok (Ok t) P Q more is = more t is
if_ok (Err e) P Q more is = tt

-- what a reply is for a request that asks for it
pub replying_so : (Reply Reply' : Frame → State → State → Type 0) (Reads Reads' : ℕ → ℕ
    → Type 0) (result : Result Frame ServiceError) (total : ℕ) (book : List Series) (sessions sessions' : List Session) (old new : View)
    → ((frame : Frame) → Reply frame (state_of book total sessions) (state_of book total sessions')
    → Reply' frame (state_of book total sessions) (state_of book total sessions'))
    → (Reads old.reads new.reads → Reads' old.reads new.reads) → Replying Reply Reads result total book sessions sessions' old new
    → Replying Reply' Reads' result total book sessions sessions' old new
replying_so Reply Reply' Reads Reads' result total book sessions sessions' old new more fewer is = record {
  reply = if_ok result (λ frame. Reply frame (state_of book total sessions) (state_of book total sessions'))
      (λ frame. Reply' frame (state_of book total sessions) (state_of book total sessions')) more is.reply;
  standing = is.standing;
  reads = fewer is.reads;
}

-- ---- errors of nodes over pages

-- the cause of an error of the selected series, by its id
pub node_cause : (IsShown : ℕ → Type 0) (told : Type 0) (old new under : View) (told' : Type 0) (under' : View) (s s' : Superblock)
    (tree tree' : Tree) (trail trail' : Trail) (catalog : List StoredSeries) (id : ℕ) (series : StoredSeries) (error : NodeError)
    → IsShown id → slice_get catalog id ≡ Some series → tree ≡ series.tree
    → HasCause (paged_view (ground told old under s tree) trail) (paged_view (ground told' new under' s' tree') trail') error
    → IsNodeCause IsShown error told catalog s.total old new
node_cause IsShown told old new under told' under' s s' tree tree' trail trail' catalog id series node.DiskFault shown there is
    cause = cause
node_cause IsShown told old new under told' under' s s' tree tree' trail trail' catalog id series (node.Damaged page) shown there is cause =
    let P : Tree → Type 0 = λ t. IsDamaged old.image s.total t page in
    (cause.0, λ t. record { id = id; shown = shown; series = series; there = there; damaged = subst P is (cause.1 t) })
node_cause IsShown told old new under told' under' s s' tree tree' trail trail' catalog id series
    (node.Missing key) shown there is cause = cause
node_cause IsShown told old new under told' under' s s' tree tree' trail trail' catalog id series
    (node.BadCoefficient key) shown there is cause = cause

pub of_pages : (IsShown : ℕ → Type 0) (error : NodeError) (told : Type 0) (catalog : List StoredSeries) (total : ℕ) (old new : View)
    → IsNodeCause IsShown error told catalog total old new → IsOfPages error
of_pages IsShown node.DiskFault told catalog total old new cause = tt
of_pages IsShown (node.Damaged page) told catalog total old new cause = tt
of_pages IsShown (node.Missing key) told catalog total old new cause = cause
of_pages IsShown (node.BadCoefficient key) told catalog total old new cause = cause

-- why a view of another series wasn't answered, where that is such a one too
cause_so : (IsShown IsToo : ℕ → Type 0) (error : ServiceError) (told : Type 0) (catalog : List StoredSeries) (total : ℕ) (old new : View)
    → ((id : ℕ) → IsShown id → IsToo id) → IsViewCause IsShown error told catalog total old new
    → IsViewCause IsToo error told catalog total old new
cause_so IsShown IsToo DiskFault told catalog total old new more cause = cause
cause_so IsShown IsToo (Damaged page) told catalog total old new more cause = (
  cause.0,
  λ t. let bad = cause.1 t in record {
    id = bad.id;
    shown = more bad.id bad.shown;
    series = bad.series;
    there = bad.there;
    damaged = bad.damaged;
  },
)
cause_so IsShown IsToo NoMemory told catalog total old new more cause = tt

pub causes_so : (IsShown IsToo : ℕ → Type 0) (r : Result Frame ServiceError) (told : Type 0) (catalog : List StoredSeries) (total : ℕ)
    (old new : View) → ((id : ℕ) → IsShown id → IsToo id) → IfErr r (λ e. IsViewCause IsShown e told catalog total old new)
    → IfErr r (λ e. IsViewCause IsToo e told catalog total old new)
causes_so IsShown IsToo (Ok frame) told catalog total old new more cause = tt
causes_so IsShown IsToo (Err error) told catalog total old new more cause = cause_so IsShown IsToo error told catalog total old new more
    cause

-- where no page is damaged, the disk failed
pub disk_alone : (told : Type 0) (old new under : View) (told' : Type 0) (under' : View) (s s' : Superblock) (tree tree' : Tree)
    (trail trail' : Trail) (error : NodeError) → told → ((page : ℕ) → IsDamaged old.image s.total tree page → ⊥)
    → HasCause (paged_view (ground told old under s tree) trail) (paged_view (ground told' new under' s' tree') trail') error
    → error ≡ node.DiskFault
disk_alone told old new under told' under' s s' tree tree' trail trail' node.DiskFault t whole cause = refl
disk_alone told old new under told' under' s s' tree tree' trail trail' (node.Damaged page) t whole cause = absurd (whole page (cause.1 t))
disk_alone told old new under told' under' s s' tree tree' trail trail' (node.Missing key) t whole cause = absurd cause
disk_alone told old new under told' under' s s' tree tree' trail trail' (node.BadCoefficient key) t whole cause = absurd cause
