-- What a live service's answers are over a plain book.
use Rattle.std.proofs.Common.{◌≡◌, ℕ, Bool, true, false, if◌then◌else◌, List, [], ◌∷◌, length, ◌<◌, Option, None, Some, Result, Ok, Err}
use Rattle.std.proofs.Common.{refl, sym, ap, ◌∙◌, subst, inl, inr, arith}
use Rattle.std.specs.Prelude.{nat_lt}
use Rattle.block_disk.specs.Counts.{HasRisen}
use Rattle.block_disk.specs.View.{Image, View, Passes}
use Rattle.block_disk.proofs.Passing.{passes_weaker}
use Rattle.chart_frames.specs.declared.frame.Frame.{Frame}
use Rattle.chart_frames.specs.declared.frame.Frame.TheVariants.{Done, Refused, Opened, Closed, View as ViewOf, Rows, Live as LiveOf, Report}
use Rattle.chart_service.specs.Replies.{Replied, line_text, refused as refused_by}
use Rattle.chart_service.specs.State.{State}
use Rattle.chart_service.specs.ReadingBlocks.{ReadsLine, ReadsRead}
use Rattle.chart_service.specs.Stepping.{IsBeforeOrAfter as IsBeforeOrAfterReply, IsStepCause, ReadsLast, state_of}
use Rattle.chart_service.proofs.ReadLemmas.{reads_last, reads_none}
use Rattle.chart_service.specs.declared.failure.ServiceError.{ServiceError}
use Rattle.chart_service.specs.declared.failure.ServiceError.TheVariants.{DiskFault, Damaged, NoMemory}
use Rattle.gate_pages.specs.Pages.{Quiet}
use Rattle.live_service.specs.LiveReplies.{LiveState, LiveReplied, RepliesTo, ReadsPush, changed_in}
use Rattle.live_service.specs.Shown.{live_of, IsBeforeOrAfter}
use Rattle.live_view.specs.declared.live_lines.LiveLine.{LiveLine}
use Rattle.live_view.specs.declared.live_lines.LiveLine.TheVariants.{Other as OtherLine}
use Rattle.live_view.specs.declared.meaning.Meaning.{Meaning}
use Rattle.live_view.specs.declared.meaning.Meaning.TheVariants.{View as ViewMeant, Edit, Other}
use Rattle.live_view.specs.Lines.{live_line, tokens_ask}
use Rattle.live_view.specs.Meaning.{meaning_of, meaning_in}
use Rattle.live_view.specs.Replies.{ended, still_followed, followers, Changes}
use Rattle.page_space.specs.declared.superblock.Superblock.{Superblock}
use Rattle.request_lines.specs.Requests.{read_line}
use Rattle.request_lines.specs.declared.requests.Request.{Request}
use Rattle.request_lines.specs.Tokens.{tokens}
use Rattle.series_book.specs.declared.one_series.Series.{Series}
use Rattle.series_book.specs.declared.refusals.Refusal.TheVariants.{LineTooLong}
use Rattle.series_book.specs.Edits.{id_of}
use Rattle.series_catalog.specs.declared.stored_series.StoredSeries.{StoredSeries}
use Rattle.zoom_session.specs.declared.session.Session.{Session}
use Rattle.zoom_session.specs.declared.view_spec.ViewSpec.{ViewSpec}
use Rattle.zoom_session.specs.Sessions.{session_of, last_of}

-- the series that an edit changed is the one that the book names
pub changes_in : (book : List Series) (names : List ℕ → Option ℕ → Type 0) (meaning : Meaning) (frame : Frame) (series : Option ℕ)
    → ((name : List ℕ) (id : Option ℕ) → names name id → id ≡ id_of name book) → Changes names meaning frame series
    → series ≡ changed_in book meaning frame
changes_in book names ViewMeant frame series says is = is
changes_in book names Other frame series says is = is
changes_in book names (Edit name) (Done slots) series says is = says name series is
changes_in book names (Edit name) (Refused number a b) series says is = is
changes_in book names (Edit name) (Opened session cache) series says is = is
changes_in book names (Edit name) (Closed session) series says is = is
changes_in book names (Edit name) (ViewOf view) series says is = is
changes_in book names (Edit name) (Rows rows) series says is = is
changes_in book names (Edit name) (LiveOf session on) series says is = is
changes_in book names (Edit name) (Report report) series says is = is

-- ---- a line that asks nothing of live views

other_by : (line : List ℕ) (frame : Frame) (old new : State) (followed waiting now pending : List ℕ) (test : Bool)
    → nat_lt 8192 (length line) ≡ test → live_line line ≡ OtherLine → Replied (line_text line) frame old new
    → now ≡ still_followed (ended (meaning_of line) frame) followed
    → pending ≡ followers (changed_in new.book (meaning_of line) frame) new.sessions followed
    → LiveReplied (line_text line) frame (live_of old followed waiting) (live_of new now pending)
unfolding meaning_of
other_by line frame old new followed waiting now pending true test asked replied now_is pending_is =
    let text : line_text line ≡ None = ap (λ (b : Bool). if b then None else Some line) test in
    let means : meaning_of line ≡ Other = ap (λ (b : Bool). if b then Other else meaning_in (read_line line)) test in
    let long : Replied None frame old new = subst (λ (o : Option (List ℕ)). Replied o frame old new) text replied in
    let is : frame ≡ refused_by LineTooLong = long.0.reply in
    let L : Option (List ℕ) → Type 0 = λ o. LiveReplied o frame (live_of old followed waiting) (live_of new now pending) in
    subst L (sym text) (record {
      replied = long;
      followed_same = now_is ∙ ap (λ (m : Meaning). still_followed (ended m frame) followed) means
          ∙ ap (λ (f : Frame). still_followed (ended Other f) followed) is;
      idle = pending_is ∙ ap (λ (m : Meaning). followers (changed_in new.book m frame) new.sessions followed) means;
    })
other_by line frame old new followed waiting now pending false test asked replied now_is pending_is =
    let text : line_text line ≡ Some line = ap (λ (b : Bool). if b then None else Some line) test in
    let short : Replied (Some line) frame old new = subst (λ (o : Option (List ℕ)). Replied o frame old new) text replied in
    let L : Option (List ℕ) → Type 0 = λ o. LiveReplied o frame (live_of old followed waiting) (live_of new now pending) in
    let A : LiveLine → Type 0 = λ a. RepliesTo a line frame (live_of old followed waiting) (live_of new now pending) in
    subst L (sym text) (subst A (sym asked) (record { replied = short; followed_now = now_is; pending_now = pending_is }))

pub other_replied : (line : List ℕ) (frame : Frame) (old new : State) (followed waiting now pending : List ℕ) → live_line line ≡ OtherLine
    → Replied (line_text line) frame old new
    → now ≡ still_followed (ended (meaning_of line) frame) followed
    → pending ≡ followers (changed_in new.book (meaning_of line) frame) new.sessions followed
    → LiveReplied (line_text line) frame (live_of old followed waiting) (live_of new now pending)
other_replied line frame old new followed waiting now pending asked replied now_is pending_is =
    other_by line frame old new followed waiting now pending (nat_lt 8192 (length line)) refl asked replied now_is pending_is

-- the same of what a crash leaves
after_other : (line : List ℕ) (total : ℕ) (book : List Series) (ss : List Session) (followed waiting : List ℕ) (image : Image)
    → live_line line ≡ OtherLine → IsBeforeOrAfterReply (Replied (line_text line)) total book ss image
    → IsBeforeOrAfter (LiveReplied (line_text line)) total (live_of (state_of book total ss) followed waiting) image
after_other line total book ss followed waiting image asked (inl stands) = inl stands
after_other line total book ss followed waiting image asked (inr after) =
    let new = state_of after.after.book total after.left in
    let now : List ℕ = still_followed (ended (meaning_of line) after.frame) followed in
    let pending : List ℕ = followers (changed_in new.book (meaning_of line) after.frame) new.sessions followed in
    inr (record {
      frame = after.frame;
      after = live_of new now pending;
      replied = other_replied line after.frame (state_of book total ss) new followed waiting now pending asked after.after.so refl refl;
      stands = after.after.stands;
    })

pub other_moments : (line : List ℕ) (total : ℕ) (book : List Series) (ss : List Session) (followed waiting : List ℕ) (old new : View)
    → live_line line ≡ OtherLine → Passes old new (IsBeforeOrAfterReply (Replied (line_text line)) total book ss) (Quiet old)
    → Passes old new (IsBeforeOrAfter (LiveReplied (line_text line)) total (live_of (state_of book total ss) followed waiting)) (Quiet old)
other_moments line total book ss followed waiting old new asked passes =
    passes_weaker old new (IsBeforeOrAfterReply (Replied (line_text line)) total book ss)
    (IsBeforeOrAfter (LiveReplied (line_text line)) total (live_of (state_of book total ss) followed waiting)) (Quiet old) (Quiet old)
    (λ image one. after_other line total book ss followed waiting image asked one) (λ count quiet. quiet) passes

-- ---- a line that asks for a following

-- such a line isn't too long
pub short_by : (line : List ℕ) (asked : LiveLine) → live_line line ≡ asked → (OtherLine ≡ asked → ⊥) → line_text line ≡ Some line
unfolding live_line
short_by line asked is other =
    (elim (nat_lt 8192 (length line)) as (λ (b : Bool). (if b then OtherLine else tokens_ask (length line) (tokens line)) ≡ asked
    → (if b then None else Some line) ≡ Some line) [
      | true ↦ λ e. absurd (other e)
      | false ↦ λ e. refl
    ]) is

pub own_replied : (line : List ℕ) (asked : LiveLine) (frame : Frame) (old new : LiveState) → live_line line ≡ asked
    → (OtherLine ≡ asked → ⊥) → RepliesTo asked line frame old new → LiveReplied (line_text line) frame old new
own_replied line asked frame old new is other replied =
    let L : Option (List ℕ) → Type 0 = λ o. LiveReplied o frame old new in
    let A : LiveLine → Type 0 = λ a. RepliesTo a line frame old new in
    subst L (sym (short_by line asked is other)) (subst A (sym is) replied)

-- ---- nothing is read

unread_read : (asked : Result Request ℕ) (state : State) (count : ℕ) → ReadsRead asked state count count
unread_read (Err at) state count = refl
unread_read (Ok asked) state count = reads_none asked state.book state.sessions count

-- a line may read nothing
pub unread : (line : Option (List ℕ)) (state : State) (count : ℕ) → ReadsLine line state count count
unread None state count = refl
unread (Some text) state count = unread_read (read_line text) state count

-- and so may a push
pub unread_push : (pending : List ℕ) (state : State) (count : ℕ) → ReadsPush pending state count count
unread_push [] state count = refl
unread_push (session ∷ later) state count = reads_last state.book count (λ (last : ViewSpec). (last.grid.t0, last.grid.t1))
    (last_of (session_of session state.sessions))

-- a zoom to the window of the last view
pub own_reads : (book : List Series) (o : Option ViewSpec) (last : ViewSpec) (old new : ℕ) → o ≡ Some last
    → ReadsLast book o (λ l. (last.grid.t0, last.grid.t1)) old new → ReadsLast book o (λ l. (l.grid.t0, l.grid.t1)) old new
own_reads book o last old new is reads =
    let A : Option ViewSpec → Type 0 = λ q. ReadsLast book q (λ l. (last.grid.t0, last.grid.t1)) old new in
    let B : Option ViewSpec → Type 0 = λ q. ReadsLast book q (λ l. (l.grid.t0, l.grid.t1)) old new in
    subst B (sym is) (subst A is reads)

-- ---- errors

-- a fault of the disk has its cause
pub disk_cause : (asked : Request) (error : ServiceError) (told : Type 0) (catalog : List StoredSeries) (sessions : List Session)
    (s : Superblock) (old new : View) → IsStepCause asked error told catalog sessions s old new → error ≡ DiskFault
    → HasRisen old.faults new.faults
disk_cause asked DiskFault told catalog sessions s old new cause is = cause
disk_cause asked (Damaged page) told catalog sessions s old new cause is = cc
disk_cause asked NoMemory told catalog sessions s old new cause is = cc

pub same_error : (T : Type 0) (one other : ServiceError) → ◌≡◌ {A = Result T ServiceError} (Err one) (Err other) → one ≡ other
same_error T one other is = cc

pub never_fails : (T : Type 0) (one : T) (error : ServiceError) → ◌≡◌ {A = Result T ServiceError} (Ok one) (Err error) → ⊥
never_fails T one error is = cc

pub lacks_no_disk : (T : Type 0) → ◌≡◌ {A = Result T ServiceError} (Err NoMemory) (Err DiskFault) → ⊥
lacks_no_disk T is = cc

-- the first of the numbers is gone
pub one_fewer : (n : ℕ) (numbers rest : List ℕ) → numbers ≡ n ∷ rest → length rest < length numbers
one_fewer n numbers rest first =
    let N : List ℕ → Type 0 = λ l. length rest < length l in
    subst N (sym first) (omega arith)
