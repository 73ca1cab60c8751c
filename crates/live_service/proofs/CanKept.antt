-- A service keeps who can follow, and tells the views of those.
use Rattle.std.proofs.Common.{◌≡◌, ◌≢◌, ◌∙◌, ℕ, ◌<◌, ◌≤◌, Bool, true, false, not, ◌==◌, ◌&&◌, if◌then◌else◌, List, length, Option, None}
use Rattle.std.proofs.Common.{Some, Result, Ok, Err, refl, sym, ap, subst, inl, inr, arith}
use Rattle.std.specs.Prelude.{IfOk, IsTrue, OnErr, OnOk, is_none, nat_lt}
use Rattle.std.proofs.lemmas.Bool.{cases_lt, eqb-true, eqb-false, eq-eqb}
use Rattle.std.proofs.lemmas.Bool.Decides.{nat_tests}
use Rattle.chart_frames.specs.declared.frame.Frame.{Frame}
use Rattle.chart_frames.specs.declared.frame.Frame.TheVariants.{Refused, Opened, Closed, View as ViewOf, Rows}
use Rattle.chart_service.proofs.Openings.{closed_less}
use Rattle.chart_service.proofs.Others.{without_others}
use Rattle.chart_service.specs.Kinds.{IsRefusal, KeepsSessions, MayAnswerLine, MayAnswerRead, MayClose, MayOpen, MayShow}
use Rattle.chart_service.specs.Opening.{LosesAtMost}
use Rattle.chart_service.specs.Replies.{line_text}
use Rattle.chart_service.specs.Rooms.{HasRoom, IsRoomFor, KeepRooms, LeavesLine, LeavesOpen, LeavesRead, OthersStay, TellsIn, most_coefs}
use Rattle.chart_service.specs.declared.failure.ServiceError.{ServiceError}
use Rattle.live_view.specs.Following.{CanFollow, GoOnFollowing, ShowsOf, StayWhereOpen}
use Rattle.live_view.specs.Meaning.{meaning_in, meaning_of}
use Rattle.live_view.specs.Replies.{ended, is_too_large, live_bound}
use Rattle.live_view.specs.declared.meaning.Meaning.{Meaning}
use Rattle.live_view.specs.declared.meaning.Meaning.TheVariants.{View as ViewMeant, Other}
use Rattle.request_lines.specs.Requests.{read_line}
use Rattle.request_lines.specs.declared.requests.Request.{Request}
use Rattle.request_lines.specs.declared.requests.Request.TheVariants.{Edit, Open, View, Zoom, Pan, Close}
use Rattle.value_filter.specs.declared.steps.Step.{Step}
use Rattle.zoom_session.specs.Sessions.{AreSessions, is_open, session_of, without}
use Rattle.zoom_session.specs.declared.session.Session.{Session}
use Rattle.zoom_session.specs.declared.view_spec.ViewSpec.{ViewSpec}

-- ---- those that can follow are those whose clients have room

never_both : (filter : Option (List Step)) (large : Bool) → filter ≡ None → large ≡ true → (is_none filter && large) ≡ false → ⊥
never_both filter large none is fits =
    let one : (is_none filter && large) ≡ true = ap (λ (f : Option (List Step)). is_none f && large) none ∙ is in
    let never : true ≡ false = sym one ∙ fits in
    cc

view_room : (view : ViewSpec) (capacity : ℕ) → is_too_large view capacity ≡ false → IsRoomFor view capacity
view_room view capacity fits = λ none. elim (cases_lt capacity (live_bound view.grid.w)) [
  | inl less ↦ let test : nat_lt capacity (live_bound view.grid.w) ≡ true = grind (arith, nat_tests) in
      absurd (never_both view.filter (nat_lt capacity (live_bound view.grid.w)) none test fits)
  | inr most ↦ most
]

fits_by : (filter : Option (List Step)) (most capacity : ℕ) → (filter ≡ None → most ≤ capacity)
    → (is_none filter && nat_lt capacity most) ≡ false
fits_by None most capacity room = let fits : most ≤ capacity = room refl in grind (arith, nat_tests)
fits_by (Some steps) most capacity room = refl

can_room : (n : ℕ) (sessions : List Session) → CanFollow sessions n → HasRoom sessions n
can_room n sessions can = record {
  session = can.session;
  there = can.there;
  view = can.view;
  last = can.last;
  room = view_room can.view can.session.cache.capacity can.fits;
}

room_can : (n : ℕ) (sessions : List Session) → HasRoom sessions n → CanFollow sessions n
room_can n sessions has = record {
  session = has.session;
  there = has.there;
  view = has.view;
  last = has.last;
  fits = fits_by has.view.filter (live_bound has.view.grid.w) has.session.cache.capacity has.room;
}

-- ---- what a reply leaves

goes_same : (e : Option ℕ) (old new : List Session) → new ≡ old → GoOnFollowing e old new
goes_same e old new same = λ n goes can. let C : List Session → Type 0 = λ ss. CanFollow ss n in subst C (sym same) can

goes_rooms : (e : Option ℕ) (old new : List Session) → KeepRooms old new → GoOnFollowing e old new
goes_rooms e old new keep = λ n goes can. room_can n new (keep n (can_room n old can))

goes_others : (e : Option ℕ) (number : ℕ) (old new : List Session) → e ≡ Some number → OthersStay number old new → GoOnFollowing e old new
goes_others e number old new is stay = λ n goes can.
    let same : session_of n new ≡ session_of n old = stay n (λ own. goes (is ∙ ap (λ k. Some k) (sym own))) in
    record { session = can.session; there = same ∙ can.there; view = can.view; last = can.last; fits = can.fits }

open_goes : (number : ℕ) (frame : Frame) (old new : List Session) → MayOpen number frame → (IsRefusal frame → new ≡ old)
    → OthersStay number old new → GoOnFollowing (ended Other frame) old new
open_goes number (Refused k a b) old new may kept stay = goes_same None old new (kept tt)
open_goes number (Opened session cache) old new may kept stay = goes_others (Some session) number old new (ap (λ k. Some k) may) stay
open_goes number frame old new may kept stay = absurd may

close_goes : (number : ℕ) (frame : Frame) (old new : List Session) → MayClose number frame → (IsRefusal frame → new ≡ old)
    → OthersStay number old new → GoOnFollowing (ended Other frame) old new
close_goes number (Refused k a b) old new may kept stay = goes_same None old new (kept tt)
close_goes number (Closed session) old new may kept stay = goes_others (Some session) number old new (ap (λ k. Some k) may) stay
close_goes number frame old new may kept stay = absurd may

view_goes : (number : ℕ) (frame : Frame) (old new : List Session) → MayShow number frame → (IsRefusal frame → new ≡ old)
    → OthersStay number old new → GoOnFollowing (ended ViewMeant frame) old new
view_goes number (Refused k a b) old new may kept stay = goes_same None old new (kept tt)
view_goes number (ViewOf view) old new may kept stay = goes_others (Some view.session) number old new (ap (λ k. Some k) may) stay
view_goes number (Rows rows) old new may kept stay = goes_others (Some rows.session) number old new (ap (λ k. Some k) may) stay
view_goes number frame old new may kept stay = absurd may

read_goes : (read : Result Request ℕ) (frame : Frame) (old new : List Session) → MayAnswerRead read frame → (IsRefusal frame → new ≡ old)
    → LeavesRead read old new → GoOnFollowing (ended (meaning_in read) frame) old new
read_goes (Err at) frame old new may kept leaves = goes_same (ended Other frame) old new leaves
read_goes (Ok (Edit edit)) frame old new may kept leaves = goes_same (ended (meaning_in (Ok (Edit edit))) frame) old new leaves
read_goes (Ok (Open number cache)) frame old new may kept leaves = open_goes number frame old new may kept leaves
read_goes (Ok (View number name w h t0 t1 word text)) frame old new may kept leaves = view_goes number frame old new may kept leaves
read_goes (Ok (Zoom number t0 t1)) frame old new may kept leaves = goes_rooms (ended Other frame) old new leaves
read_goes (Ok (Pan number by)) frame old new may kept leaves = goes_rooms (ended Other frame) old new leaves
read_goes (Ok (Close number)) frame old new may kept leaves = close_goes number frame old new may kept leaves

text_goes : (line : List ℕ) (frame : Frame) (old new : List Session) (test : Bool) → nat_lt 8192 (length line) ≡ test
    → MayAnswerLine (line_text line) frame → (IsRefusal frame → new ≡ old) → LeavesLine (line_text line) old new
    → GoOnFollowing (ended (meaning_of line) frame) old new
unfolding meaning_of
text_goes line frame old new true test may kept leaves =
    let text : line_text line ≡ None = ap (λ (b : Bool). if b then None else Some line) test in
    let L : Option (List ℕ) → Type 0 = λ o. LeavesLine o old new in
    goes_same (ended (meaning_of line) frame) old new (subst L text leaves)
text_goes line frame old new false test may kept leaves =
    let text : line_text line ≡ Some line = ap (λ (b : Bool). if b then None else Some line) test in
    let means : meaning_of line ≡ meaning_in (read_line line) = ap (λ (b : Bool). if b then Other else meaning_in (read_line line)) test in
    let L : Option (List ℕ) → Type 0 = λ o. LeavesLine o old new in
    let M : Option (List ℕ) → Type 0 = λ o. MayAnswerLine o frame in
    let G : Meaning → Type 0 = λ m. GoOnFollowing (ended m frame) old new in
    subst G (sym means) (read_goes (read_line line) frame old new (subst M text may) kept (subst L text leaves))

pub line_goes : (line : List ℕ) (r : Result Frame ServiceError) (old new : List Session)
    → IfOk r (λ frame. MayAnswerLine (line_text line) frame) → KeepsSessions r old new → OnOk r (LeavesLine (line_text line) old new)
    → IfOk r (λ frame. GoOnFollowing (ended (meaning_of line) frame) old new)
line_goes line (Ok frame) old new may kept leaves = text_goes line frame old new (nat_lt 8192 (length line)) refl may kept leaves
line_goes line (Err error) old new may kept leaves = tt

pub own_goes : (r : Result Frame ServiceError) (old new : List Session) → OnOk r (KeepRooms old new) → OnOk r (GoOnFollowing None old new)
own_goes (Ok frame) old new keep = goes_rooms None old new keep
own_goes (Err error) old new keep = tt

-- ---- behind a fault

number_lost : (n number : ℕ) (old : List Session) → AreSessions old → is_open n (without number old) ≡ true → (test : Bool)
    → (n == number) ≡ test → session_of n (without number old) ≡ session_of n old
number_lost n number old valid there true test =
    let same : n ≡ number = eqb-true n number test in
    let own : (number == n) ≡ true = eq-eqb number n (sym same) in
    let none : is_open n (without number old) ≡ false = closed_less number n old valid.distinct ∙ ap (λ b. not b && is_open n old) own in
    let never : true ≡ false = sym there ∙ none in
    cc
number_lost n number old valid there false test = without_others n number old (eqb-false n number test)

lost_at_most : (named : Option ℕ) (old new : List Session) → AreSessions old → LosesAtMost named old new → StayWhereOpen old new
lost_at_most None old new valid same = λ n there. ap (λ ss. session_of n ss) same
lost_at_most (Some number) old new valid (inl same) = λ n there. ap (λ ss. session_of n ss) same
lost_at_most (Some number) old new valid (inr is) = λ n there.
    let there_so : is_open n (without number old) ≡ true = sym (ap (λ ss. is_open n ss) is) ∙ there in
    ap (λ ss. session_of n ss) is ∙ number_lost n number old valid there_so (n == number) refl

pub line_lost : (named : Option ℕ) (r : Result Frame ServiceError) (old new : List Session) → AreSessions old
    → OnErr r (LosesAtMost named old new) → OnErr r (StayWhereOpen old new)
line_lost named (Ok frame) old new valid lost = tt
line_lost named (Err error) old new valid lost = lost_at_most named old new valid lost

-- ---- the view of a session that can follow

shows_of : (session : ℕ) (frame : Frame) → TellsIn session frame → ShowsOf session frame
shows_of session (ViewOf view) tells = tells
shows_of session (Rows rows) tells = tells
shows_of session frame tells = absurd tells

pub own_shows : (session : ℕ) (r : Result Frame ServiceError) (old : List Session) → (HasRoom old session → IfOk r (TellsIn session))
    → CanFollow old session → IfOk r (ShowsOf session)
own_shows session (Ok frame) old tells can = shows_of session frame (tells (can_room session old can))
own_shows session (Err error) old tells can = tt
