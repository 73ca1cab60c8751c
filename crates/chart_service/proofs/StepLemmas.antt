-- A step, and a line.
use Rattle.std.proofs.Common.{◌≡◌, ℕ, ◌<◌, ◌≤◌, true, false, if◌then◌else◌, List, length, Option, None, Some, Result, Ok, Err, IfOk, IfErr}
use Rattle.std.proofs.Common.{refl, sym, ap, subst, inl, inr, arith}
use Rattle.std.specs.Prelude.{OnOk, MatchResult, nat_lt}
use Rattle.std.proofs.lemmas.Bool.{ltb-true, false_from_ne_true}
use Rattle.block_disk.specs.View.{Image, View, Passes}
use Rattle.chart_frames.specs.declared.frame.Frame.{Frame}
use Rattle.chart_frames.specs.Frames.{Fits}
use Rattle.gate_pages.specs.Pages.{Quiet}
use Rattle.page_space.specs.declared.superblock.Superblock.{Superblock}
use Rattle.request_lines.specs.declared.requests.Request.{Request}
use Rattle.request_lines.specs.declared.requests.Request.TheVariants.{Edit as EditRequest, Open, View as ViewRequest, Zoom, Pan, Close}
use Rattle.request_lines.specs.Requests.{read_line}
use Rattle.series_book.specs.declared.edits.Edit.{Edit}
use Rattle.series_book.specs.declared.one_series.Series.{Series}
use Rattle.series_book.specs.declared.refusals.Refusal.TheVariants.{BadLine}
use Rattle.series_catalog.specs.declared.stored_series.StoredSeries.{StoredSeries}
use Rattle.std.proofs.lemmas.Option.{slice_get_within}
use Rattle.catalog_page.specs.Entries.{Entry}
use Rattle.page_space.specs.Layout.{Keeps}
use Rattle.series_catalog.specs.Catalogs.{AreAsTold}
use Rattle.series_store.specs.Asking.{IsNamedAt}
use Rattle.series_store.specs.Groups.{GroupMoves, IsGroupCause}
use Rattle.series_store.specs.Results.{IsUnchangedFor as StoreUnchanged}
use Rattle.series_store.specs.declared.errors.StoreError.{StoreError}
use Rattle.series_store.specs.declared.errors.StoreError.TheVariants as store
use Rattle.stored_book.specs.Damage.{IsDamagedOnWay, IsDamagedOnce, IsBadForRequest}
use Rattle.chart_service.specs.EditGroups.{group_end}
use Rattle.stored_book.specs.Records.{tree_of}
use Rattle.stored_book.specs.Standing.{StandsForBook}
use Rattle.tree_walk.specs.Paths.{IsDamaged}
use Rattle.request_lines.specs.declared.ranges.RangeWord.{RangeWord}
use Rattle.std.proofs.Common.{ℤ}
use Rattle.zoom_session.specs.declared.session.Session.{Session}
use Rattle.zoom_session.specs.Sessions.{last_of, session_of}
use Rattle.chart_service.specs.State.{State, IsSound}
use Rattle.chart_service.specs.Replies.{refused, Replies, RepliesTo, RepliesToLine, Replied, line_text}
use Rattle.chart_service.specs.Stepping.{StandsAfter, state_of, RepliedTo, IsBeforeOrAfter, IsDamagedFor, IsDamagedIn, IsDamagedToView}
use Rattle.chart_service.specs.Stepping.{IsLastShown, IsStepCause, IsBadPage, NamesBad, IsOutside, IsUnchangedBy, IsUnchangedFor, Steps}
use Rattle.chart_service.specs.Looking.{Looks, Replying, IsViewCause}
use Rattle.chart_service.specs.declared.failure.ServiceError.{ServiceError}
use Rattle.chart_service.specs.declared.failure.ServiceError.TheVariants.{DiskFault, Damaged, NoMemory}
use Rattle.block_disk.proofs.Passing.{passes_weaker}

-- ---- requests that are no edits

-- an opening stops for want of memory alone
pub open_outside : (r : Result Frame ServiceError) → IfErr r (λ error. error ≡ NoMemory) → IfErr r IsOutside
open_outside (Ok frame) is = tt
open_outside (Err error) is = inr is

pub open_cause : (r : Result Frame ServiceError) (number : ℕ) (cache : Option ℕ) (told : Type 0) (catalog : List StoredSeries)
    (sessions : List Session) (s : Superblock) (old new : View) → IfErr r (λ error. error ≡ NoMemory)
    → IfErr r (λ error. IsStepCause (Open number cache) error told catalog sessions s old new)
open_cause (Ok frame) number cache told catalog sessions s old new is = tt
open_cause (Err error) number cache told catalog sessions s old new is =
    let P : ServiceError → Type 0 = λ e. IsStepCause (Open number cache) e told catalog sessions s old new in
    subst P (sym is) tt

view_error : (error : ServiceError) (number : ℕ) (name : List ℕ) (w h : ℕ) (t0 t1 : ℤ) (word : RangeWord) (text : Option (List ℕ))
    (told : Type 0) (catalog : List StoredSeries) (sessions : List Session) (s : Superblock) (old new : View)
    → IsViewCause (IsNamedAt catalog name) error told catalog s.total old new
    → IsStepCause (ViewRequest number name w h t0 t1 word text) error told catalog sessions s old new
view_error DiskFault number name w h t0 t1 word text told catalog sessions s old new cause = cause
view_error (Damaged page) number name w h t0 t1 word text told catalog sessions s old new cause = cause
view_error NoMemory number name w h t0 t1 word text told catalog sessions s old new cause = cause

pub view_why : (r : Result Frame ServiceError) (number : ℕ) (name : List ℕ) (w h : ℕ) (t0 t1 : ℤ) (word : RangeWord)
    (text : Option (List ℕ)) (told : Type 0) (catalog : List StoredSeries) (sessions : List Session) (s : Superblock) (old new : View)
    → IfErr r (λ error. IsViewCause (IsNamedAt catalog name) error told catalog s.total old new)
    → IfErr r (λ error. IsStepCause (ViewRequest number name w h t0 t1 word text) error told catalog sessions s old new)
view_why (Ok frame) number name w h t0 t1 word text told catalog sessions s old new cause = tt
view_why (Err error) number name w h t0 t1 word text told catalog sessions s old new cause = view_error error number name w h t0 t1 word
    text told catalog sessions s old new cause

zoom_error : (error : ServiceError) (number : ℕ) (t0 t1 : ℤ) (told : Type 0) (catalog : List StoredSeries) (sessions : List Session)
    (s : Superblock) (old new : View) → IsViewCause (IsLastShown (last_of (session_of number sessions))) error told catalog s.total old new
    → IsStepCause (Zoom number t0 t1) error told catalog sessions s old new
zoom_error DiskFault number t0 t1 told catalog sessions s old new cause = cause
zoom_error (Damaged page) number t0 t1 told catalog sessions s old new cause = cause
zoom_error NoMemory number t0 t1 told catalog sessions s old new cause = cause

pub zoom_why : (r : Result Frame ServiceError) (number : ℕ) (t0 t1 : ℤ) (told : Type 0) (catalog : List StoredSeries)
    (sessions : List Session) (s : Superblock) (old new : View)
    → IfErr r (λ error. IsViewCause (IsLastShown (last_of (session_of number sessions))) error told catalog s.total old new)
    → IfErr r (λ error. IsStepCause (Zoom number t0 t1) error told catalog sessions s old new)
zoom_why (Ok frame) number t0 t1 told catalog sessions s old new cause = tt
zoom_why (Err error) number t0 t1 told catalog sessions s old new cause = zoom_error error number t0 t1 told catalog sessions s old new
    cause

pan_error : (error : ServiceError) (number : ℕ) (by : ℤ) (told : Type 0) (catalog : List StoredSeries) (sessions : List Session)
    (s : Superblock) (old new : View) → IsViewCause (IsLastShown (last_of (session_of number sessions))) error told catalog s.total old new
    → IsStepCause (Pan number by) error told catalog sessions s old new
pan_error DiskFault number by told catalog sessions s old new cause = cause
pan_error (Damaged page) number by told catalog sessions s old new cause = cause
pan_error NoMemory number by told catalog sessions s old new cause = cause

pub pan_why : (r : Result Frame ServiceError) (number : ℕ) (by : ℤ) (told : Type 0) (catalog : List StoredSeries) (sessions : List Session)
    (s : Superblock) (old new : View) → IfErr r (λ error. IsViewCause
    (IsLastShown (last_of (session_of number sessions))) error told catalog s.total old new)
    → IfErr r (λ error. IsStepCause (Pan number by) error told catalog sessions s old new)
pan_why (Ok frame) number by told catalog sessions s old new cause = tt
pan_why (Err error) number by told catalog sessions s old new cause = pan_error error number by told catalog sessions s old new cause

-- ---- what comes of them is what comes of a step

pub look_reply : (request : Request) (Reads : ℕ → ℕ
    → Type 0) (r : Result Frame ServiceError) (total : ℕ) (book : List Series) (ss ss' : List Session) (old new : View) (image : Image)
    → Replying (Replies request) Reads r total book ss ss' old new → IfOk r Fits → IsSound (state_of book total ss')
    → StandsForBook image total book → IfOk r (λ frame. StandsAfter total image ss'
    (λ new. RepliedTo request frame (state_of book total ss) new))
look_reply request Reads (Ok frame) total book ss ss' old new image replying fits sound stands = record {
  book = book;
  stands = stands;
  so = (replying.reply, fits, sound);
}
look_reply request Reads (Err error) total book ss ss' old new image replying fits sound stands = tt

pub on_ok : {T E : Type 0} (r : Result T E) (P : Type 0) → P → OnOk r P
on_ok (Ok t) P is = is
on_ok (Err e) P is = tt

-- the numbers are those of page 0, and the catalog is the one that the pages tell
pub record AreOwn (told : Type 0) (view : View) (s : Superblock) (catalog : List StoredSeries) : Type 0 where
  pub within : s.total ≤ view.size
  pub keeps : told → Keeps view.size s (view.image 0)
  pub count : length catalog ≡ s.series
  pub says : told → AreAsTold view.image catalog

-- a page that a view calls damaged is on the way to a key of a tree that a record names
on_way : (IsShown : ℕ → Type 0) (told : Type 0) (view : View) (s : Superblock) (catalog : List StoredSeries) (page : ℕ)
    → AreOwn told view s catalog → told → IsDamagedIn IsShown catalog view.image s.total page → IsDamagedOnWay view.image s page
on_way IsShown told view s catalog page own t bad =
    let E : Entry → Type 0 = λ e. IsDamaged view.image s.total (tree_of e) page in
    record {
      id = bad.id;
      there = omega (arith, slice_get_within catalog bad.id bad.series bad.there, own.count);
      damaged = subst E (sym (own.says t bad.id bad.series bad.there)) bad.damaged;
    }

view_bad : (IsShown : ℕ → Type 0) (told : Type 0) (view : View) (s : Superblock) (catalog : List StoredSeries) (page : ℕ)
    → AreOwn told view s catalog → IsDamagedToView IsShown told catalog view.image s.total page → IsBadPage told view.size view.image page
view_bad IsShown told view s catalog page own bad = (
  omega (arith, bad.0, own.within),
  λ t. record {
    numbers = s;
    keeps = own.keeps t;
    so = (bad.0, inl (on_way IsShown told view s catalog page own t (bad.1 t)));
  },
)

once_bad : (told : Type 0) (view : View) (s : Superblock) (catalog : List StoredSeries) (page : ℕ) → AreOwn told view s catalog
    → page < s.total → (told → IsDamagedOnce view.image s page) → IsBadPage told view.size view.image page
once_bad told view s catalog page own low bad = (
  omega (arith, low, own.within),
  λ t. record { numbers = s; keeps = own.keeps t; so = (low, inr (bad t)) },
)

-- it stays so while the pages stay
bad_on : (told told' : Type 0) (old new : View) (page : ℕ) → (told' → told) → (told → new.image ≡ old.image) → new.size ≡ old.size
    → IsBadPage told old.size old.image page → IsBadPage told' new.size new.image page
bad_on told told' old new page was same size bad =
    let I : Image → Type 0 = λ i. IsBadForRequest old.size i page in
    let C : ℕ → Type 0 = λ n. IsBadForRequest n new.image page in
    (omega (arith, bad.0, size), λ t. subst C (sym size) (subst I (sym (same (was t))) (bad.1 (was t))))

bad_error : (IsShown : ℕ → Type 0) (error : ServiceError) (told told' : Type 0) (old new under under' : View) (s s' : Superblock)
    (catalog catalog' : List StoredSeries) → AreOwn told old s catalog → Looks told told' old new under under' s s' catalog catalog'
    → IsViewCause IsShown error told catalog s.total old new → NamesBad told' new.size new.image error
bad_error IsShown DiskFault told told' old new under under' s s' catalog catalog' own looks cause = tt
bad_error IsShown (Damaged page) told told' old new under under' s s' catalog catalog' own looks cause = bad_on told told' old new page
    looks.was_told looks.image looks.size (view_bad IsShown told old s catalog page own cause)
bad_error IsShown NoMemory told told' old new under under' s s' catalog catalog' own looks cause = tt

pub look_bad : (IsShown : ℕ → Type 0) (r : Result Frame ServiceError) (told told' : Type 0) (old new under under' : View)
    (s s' : Superblock) (catalog catalog' : List StoredSeries) → AreOwn told old s catalog
    → Looks told told' old new under under' s s' catalog catalog'
    → IfErr r (λ error. IsViewCause IsShown error told catalog s.total old new) → IfErr r (NamesBad told' new.size new.image)
look_bad IsShown (Ok frame) told told' old new under under' s s' catalog catalog' own looks cause = tt
look_bad IsShown (Err error) told told' old new under under' s s' catalog catalog' own looks cause = bad_error IsShown error told told' old
    new under under' s s' catalog catalog' own looks cause

-- what a request calls damaged is bad for it
damaged_bad : (request : Request) (told : Type 0) (view : View) (s : Superblock) (catalog : List StoredSeries) (sessions : List Session)
    (page : ℕ) → AreOwn told view s catalog → IsDamagedFor request told catalog sessions view.image s page
    → IsBadPage told view.size view.image page
damaged_bad (EditRequest edit) told view s catalog sessions page own bad = once_bad told view s catalog page own bad.0 bad.1
damaged_bad (Open number cache) told view s catalog sessions page own bad = absurd bad
damaged_bad (ViewRequest number name w h t0 t1 word text) told view s catalog sessions page own bad = view_bad
    (IsNamedAt catalog name) told view s catalog page own bad
damaged_bad (Zoom number t0 t1) told view s catalog sessions page own bad = view_bad
    (IsLastShown (last_of (session_of number sessions))) told view s catalog page own bad
damaged_bad (Pan number by) told view s catalog sessions page own bad = view_bad
    (IsLastShown (last_of (session_of number sessions))) told view s catalog page own bad
damaged_bad (Close number) told view s catalog sessions page own bad = absurd bad

request_bad_error : (error : ServiceError) (request : Request) (told told' : Type 0) (old new under under' : View) (s s' : Superblock)
    (catalog catalog' : List StoredSeries) (sessions : List Session) → AreOwn told old s catalog
    → Looks told told' old new under under' s s' catalog catalog' → IsStepCause request error told catalog sessions s old new
    → NamesBad told' new.size new.image error
request_bad_error DiskFault request told told' old new under under' s s' catalog catalog' sessions own looks cause = tt
request_bad_error (Damaged page) request told told' old new under under' s s' catalog catalog' sessions own looks cause =
    bad_on told told' old new page looks.was_told looks.image looks.size (damaged_bad request told old s catalog sessions page own cause)
request_bad_error NoMemory request told told' old new under under' s s' catalog catalog' sessions own looks cause = tt

pub request_bad : (r : Result Frame ServiceError) (request : Request) (told told' : Type 0) (old new under under' : View)
    (s s' : Superblock) (catalog catalog' : List StoredSeries) (sessions : List Session) → AreOwn told old s catalog
    → Looks told told' old new under under' s s' catalog catalog'
    → IfErr r (λ error. IsStepCause request error told catalog sessions s old new) → IfErr r (NamesBad told' new.size new.image)
request_bad (Ok frame) request told told' old new under under' s s' catalog catalog' sessions own looks cause = tt
request_bad (Err error) request told told' old new under under' s s' catalog catalog' sessions own looks cause = request_bad_error error
    request told told' old new under under' s s' catalog catalog' sessions own looks cause

edit_bad_error : (error : ServiceError) (edit : Edit) (told told' : Type 0) (catalog : List StoredSeries) (sessions : List Session)
    (s : Superblock) (old new : View) → AreOwn told old s catalog → Steps told told' old new → IsUnchangedFor error told old new
    → IsStepCause (EditRequest edit) error told catalog sessions s old new → NamesBad told' new.size new.image error
edit_bad_error DiskFault edit told told' catalog sessions s old new own steps kept cause = tt
edit_bad_error (Damaged page) edit told told' catalog sessions s old new own steps kept cause = bad_on told told' old new page
    steps.was_told kept.image steps.size (once_bad told old s catalog page own cause.0 cause.1)
edit_bad_error NoMemory edit told told' catalog sessions s old new own steps kept cause = tt

pub edit_bad : (r : Result Frame ServiceError) (edit : Edit) (told told' : Type 0) (catalog : List StoredSeries) (sessions : List Session)
    (s : Superblock) (old new : View) → AreOwn told old s catalog → Steps told told' old new
    → MatchResult r (λ frame. IsUnchangedBy frame told old new) (λ error. IsUnchangedFor error told old new)
    → IfErr r (λ error. IsStepCause (EditRequest edit) error told catalog sessions s old new) → IfErr r (NamesBad told' new.size new.image)
edit_bad (Ok frame) edit told told' catalog sessions s old new own steps kept cause = tt
edit_bad (Err error) edit told told' catalog sessions s old new own steps kept cause = edit_bad_error error edit told told' catalog sessions
    s old new own steps kept cause

-- the same of edits that are done together
pub group_bad : (error : StoreError) (end : ServiceError) (told told' : Type 0) (catalog : List StoredSeries) (s : Superblock)
    (old new : View) → end ≡ group_end error → AreOwn told old s catalog → GroupMoves told told' old new → StoreUnchanged error told old new
    → IsGroupCause error told s old new → NamesBad told' new.size new.image end
group_bad (store.Refused refusal) end told told' catalog s old new is own moves kept cause = absurd cause
group_bad store.NotAStore end told told' catalog s old new is own moves kept cause = absurd cause
group_bad store.DiskFault end told told' catalog s old new is own moves kept cause = let P : ServiceError
    → Type 0 = NamesBad told' new.size new.image in subst P (sym is) tt
group_bad (store.Damaged page) end told told' catalog s old new is own moves kept cause =
    let P : ServiceError → Type 0 = NamesBad told' new.size new.image in
    subst P (sym is) (bad_on told told' old new page moves.was_told kept.image moves.size
    (once_bad told old s catalog page own cause.0 cause.1))
group_bad store.NoMemory end told told' catalog s old new is own moves kept cause = let P : ServiceError
    → Type 0 = NamesBad told' new.size new.image in subst P (sym is) tt

-- ---- lines

short_false : (line : List ℕ) → length line ≤ 8192 → nat_lt 8192 (length line) ≡ false
short_false line short = false_from_ne_true (nat_lt 8192 (length line))
    (λ (is : nat_lt 8192 (length line) ≡ true). absurd (omega (arith, ltb-true 8192 (length line) is, short)))

pub short_line : (line : List ℕ) → length line ≤ 8192 → line_text line ≡ Some line
short_line line short = ap (λ b. if b then None else Some line) (short_false line short)

-- a line that spells a request is answered as that
as_line : (line : List ℕ) (request : Request) (frame : Frame) (old new : State) → length line ≤ 8192 → read_line line ≡ Ok request
    → RepliedTo request frame old new → Replied (line_text line) frame old new
as_line line request frame old new short is replied =
    let L : Option (List ℕ) → Type 0 = λ o. RepliesToLine o frame old new in
    let R : Result Request ℕ → Type 0 = λ r. RepliesTo r frame old new in
    (subst L (sym (short_line line short)) (subst R (sym is) replied.0), replied.1, replied.2)

after_line : (line : List ℕ) (request : Request) (frame : Frame) (total : ℕ) (book : List Series) (ss ss' : List Session) (image : Image)
    → length line ≤ 8192 → read_line line ≡ Ok request
    → StandsAfter total image ss' (λ new. RepliedTo request frame (state_of book total ss) new)
    → StandsAfter total image ss' (λ new. Replied (line_text line) frame (state_of book total ss) new)
after_line line request frame total book ss ss' image short is after = record {
  book = after.book;
  stands = after.stands;
  so = as_line line request frame (state_of book total ss) (state_of after.book total ss') short is after.so;
}

pub line_reply : (r : Result Frame ServiceError) (line : List ℕ) (request : Request) (total : ℕ) (book : List Series)
    (ss ss' : List Session) (image : Image) → length line ≤ 8192 → read_line line ≡ Ok request
    → IfOk r (λ frame. StandsAfter total image ss' (λ new. RepliedTo request frame (state_of book total ss) new))
    → IfOk r (λ frame. StandsAfter total image ss' (λ new. Replied (line_text line) frame (state_of book total ss) new))
line_reply (Ok frame) line request total book ss ss' image short is after = after_line line request frame total book ss ss' image short is
    after
line_reply (Err error) line request total book ss ss' image short is after = tt

line_image : (line : List ℕ) (request : Request) (total : ℕ) (book : List Series) (ss : List Session) (image : Image) → length line ≤ 8192
    → read_line line ≡ Ok request → IsBeforeOrAfter (RepliedTo request) total book ss image
    → IsBeforeOrAfter (Replied (line_text line)) total book ss image
line_image line request total book ss image short is (inl stands) = inl stands
line_image line request total book ss image short is (inr after) = inr
    (record {
      frame = after.frame;
      left = after.left;
      after = after_line line request after.frame total book ss after.left image short is after.after;
    })

pub line_moments : (line : List ℕ) (request : Request) (total : ℕ) (book : List Series) (ss : List Session) (old new : View)
    → length line ≤ 8192 → read_line line ≡ Ok request → Passes old new (IsBeforeOrAfter (RepliedTo request) total book ss) (Quiet old)
    → Passes old new (IsBeforeOrAfter (Replied (line_text line)) total book ss) (Quiet old)
line_moments line request total book ss old new short is passes =
    passes_weaker old new (IsBeforeOrAfter (RepliedTo request) total book ss) (IsBeforeOrAfter (Replied (line_text line)) total book ss)
    (Quiet old) (Quiet old) (λ image one. line_image line request total book ss image short is one) (λ count quiet. quiet) passes

-- one that spells none is refused
pub bad_line : (line : List ℕ) (at : ℕ) (frame : Frame) (total : ℕ) (book : List Series) (ss : List Session) (image : Image)
    → length line ≤ 8192 → read_line line ≡ Err at → frame ≡ refused (BadLine at) → Fits frame → IsSound (state_of book total ss)
    → StandsForBook image total book → StandsAfter total image ss (λ new. Replied (line_text line) frame (state_of book total ss) new)
bad_line line at frame total book ss image short is reply fits sound stands =
    let old = state_of book total ss in
    let L : Option (List ℕ) → Type 0 = λ o. RepliesToLine o frame old old in
    let R : Result Request ℕ → Type 0 = λ r. RepliesTo r frame old old in
    record {
      book = book;
      stands = stands;
      so = (
        subst L (sym (short_line line short))
            (subst R (sym is) (record { reply = reply; state = refl })),
        fits,
        sound,
      );
    }
