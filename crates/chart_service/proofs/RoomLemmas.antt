-- What replies leave of the sessions, and of the room of their clients.
use Rattle.std.proofs.Common.{◌≡◌, ◌∙◌, ℕ, ℤ, ◌+◌, ◌*◌, ◌≤◌, Bool, true, false, ◌==◌, if◌then◌else◌, List, [], ◌∷◌, ◌++◌, length, Option}
use Rattle.std.proofs.Common.{None, Some, Result, Ok, Err, refl, sym, ap, subst, arith}
use Rattle.std.specs.Prelude.{IfErr, OnOk}
use Rattle.std.proofs.Math.Nat.{mul-le-mul_left}
use Rattle.std.proofs.lemmas.Bool.{eqb-true, eqb-false, ne_eqb}
use Rattle.chart_grid.specs.Limits.{IsWindow}
use Rattle.chart_grid.specs.declared.grid.Grid.{Grid}
use Rattle.chart_grid.specs.declared.grid_error.GridError.{GridError}
use Rattle.coefficient_cache.specs.Caches.{Cache}
use Rattle.needed_nodes.specs.Answers.{most_needed}
use Rattle.om3_coeff.proofs.KeyLemmas.{height_few}
use Rattle.om3_coeff.specs.Keys.{height}
use Rattle.om3_coeff.specs.View.{NodesView}
use Rattle.om3_coeff.specs.declared.coef.Coef.{Coef}
use Rattle.om3_coeff.specs.declared.key.Key.{Key}
use Rattle.request_lines.specs.Requests.{read_line}
use Rattle.request_lines.specs.declared.requests.Request.{Request}
use Rattle.request_lines.specs.declared.requests.Request.TheVariants.{Edit as EditRequest, Open, View as ViewRequest, Zoom, Pan, Close}
use Rattle.series_book.specs.declared.refusals.Refusal.{Refusal}
use Rattle.zoom_session.specs.Plans.{NeedsAtMost}
use Rattle.zoom_session.specs.Sessions.{session_of, without, viewed, after_view, list_after, fresh_session}
use Rattle.zoom_session.specs.declared.errors.PlanError.{PlanError}
use Rattle.zoom_session.specs.declared.errors.PlanError.TheVariants.{TooLarge, Node, NoMemory}
use Rattle.zoom_session.specs.declared.session.Session.{Session}
use Rattle.zoom_session.specs.declared.view_spec.ViewSpec.{ViewSpec}
use Rattle.chart_service.specs.Planning.{IsLast, IsLastOf, IsMoved, RefusesView}
use Rattle.chart_service.specs.Replies.{line_text}
use Rattle.chart_service.specs.Rooms.{FitsIn, HasRoom, IsRoomFor, IsShortFor, KeepRooms, LeavesLine, LeavesOpen, LeavesRead, OthersStay}
use Rattle.chart_service.specs.Rooms.{most_coefs}
use Rattle.chart_service.specs.ViewingLaws.{no_window}
use Rattle.chart_service.specs.declared.shown.Planned.{Planned}
use Rattle.chart_service.proofs.Others.{without_others}
use Rattle.chart_service.proofs.Sending.{text_is}

abbrev Needed : Type 0
Needed = Option (List (Key × Coef))

one_some : {X : Type 0} (x y : X) → Some x ≡ Some y → x ≡ y
one_some x y e = cc

-- ---- what is too large

short_one : (session : Option Session) (old new : NodesView) (w slots : ℕ) (e : PlanError) → RefusesView session old new e
    → NeedsAtMost (most_needed w slots) e → IsShortFor session w e
short_one None old new w slots e refuses few = absurd refuses
short_one (Some s) old new w slots (TooLarge needed cache) refuses few =
    let most : (3 * w + 1) * height slots ≤ (3 * w + 1) * 35 = mul-le-mul_left (3 * w + 1) (height_few slots) in
    (s, refl, omega (arith, refuses.more, refuses.cache_so, few, most))
short_one (Some s) old new w slots (Node error) refuses few = tt
short_one (Some s) old new w slots NoMemory refuses few = tt

pub short_for : (session : Option Session) (old new : NodesView) (w slots : ℕ) (r : Result Planned PlanError)
    → IfErr r (RefusesView session old new) → IfErr r (NeedsAtMost (most_needed w slots))
    → IfErr r (IsShortFor session w)
short_for session old new w slots (Ok planned) refuses few = tt
short_for session old new w slots (Err e) refuses few = short_one session old new w slots e refuses few

-- a view for which there is room isn't
pub never_large : (number : ℕ) (spec : ViewSpec) (sessions : List Session) (needed cache : ℕ) (error : PlanError) → spec.filter ≡ None
    → FitsIn number spec sessions → error ≡ TooLarge needed cache
    → IsShortFor (session_of number sessions) spec.grid.w error → ⊥
never_large number spec sessions needed cache error unfiltered fits is short =
    let S : PlanError → Type 0 = λ e. IsShortFor (session_of number sessions) spec.grid.w e in
    let large = subst S is short in
    absurd (omega (arith, large.2, fits large.0 large.1 unfiltered))

-- ---- an answered view

own_at : (n : ℕ) (spec : ViewSpec) (needed : Needed) (x : Session) (xs : List Session) (s : Session)
    → (session_of n xs ≡ Some s → session_of n (viewed n spec needed xs) ≡ Some (after_view spec needed s)) → (here : Bool)
    → (x.number == n) ≡ here
    → session_of n (x ∷ xs) ≡ Some s → session_of n (if here then after_view spec needed x ∷ xs
    else x ∷ viewed n spec needed xs) ≡ Some (after_view spec needed s)
own_at n spec needed x xs s later true e is =
    let same : x ≡ s = one_some x s (sym (ap (λ b. if b then Some x else session_of n xs) e) ∙ is) in
    ap (λ b. if b then Some (after_view spec needed x) else session_of n xs) e ∙ ap (λ y. Some (after_view spec needed y)) same
own_at n spec needed x xs s later false e is =
    ap (λ b. if b then Some x else session_of n (viewed n spec needed xs)) e
    ∙ later (sym (ap (λ b. if b then Some x else session_of n xs) e) ∙ is)

pub own_viewed : (n : ℕ) (spec : ViewSpec) (needed : Needed) (ss : List Session) (s : Session) → session_of n ss ≡ Some s
    → session_of n (viewed n spec needed ss) ≡ Some (after_view spec needed s)
own_viewed n spec needed [] s is = cc
own_viewed n spec needed (x ∷ xs) s is = own_at n spec needed x xs s (own_viewed n spec needed xs s) (x.number == n) refl is

same_capacity : (series : ℕ) (needed : Needed) (cache : Cache) → (list_after series needed cache).capacity ≡ cache.capacity
same_capacity series None cache = refl
same_capacity series (Some needed) cache = refl

pub room_viewed : (number : ℕ) (spec : ViewSpec) (needed : Needed) (old mid new : List Session) → new ≡ viewed number spec needed mid
    → mid ≡ old → FitsIn number spec old → HasRoom old number → HasRoom new number
room_viewed number spec needed old mid new done same fits has =
    let V : List Session → Type 0 = λ ss. new ≡ viewed number spec needed ss in
    let is : new ≡ viewed number spec needed old = subst V same done in
    let there : session_of number new ≡ Some (after_view spec needed has.session) = ap (λ ss. session_of number ss) is
    ∙ own_viewed number spec needed old has.session has.there in
    record {
      session = after_view spec needed has.session;
      there = there;
      view = spec;
      last = refl;
      room = λ none. let most = fits has.session has.there none in omega (arith, most, same_capacity spec.series needed has.session.cache);
    }

pub room_same : (number : ℕ) (old new : List Session) → new ≡ old → HasRoom old number → HasRoom new number
room_same number old new same has = let R : List Session → Type 0 = λ ss. HasRoom ss number in subst R (sym same) has

-- ---- a view over another window

pub fits_moved : (number : ℕ) (last : ViewSpec) (grid : Grid) (t0 t1 : ℤ) (sessions : List Session) → IsMoved last.grid t0 t1 (Ok grid)
    → FitsIn number last sessions
    → FitsIn number (record { series = last.series; grid = grid; range = last.range; filter = last.filter }) sessions
fits_moved number last grid t0 t1 sessions moved fits = λ session there none.
    let W : ℕ → Type 0 = λ w. most_coefs w ≤ session.cache.capacity in
    subst W (sym moved.2.columns) (fits session there none)

pub never_bad : (last : Grid) (t0 t1 : ℤ) (error : GridError) → IsMoved last t0 t1 (Err error) → IsWindow t0 t1 → ⊥
never_bad last t0 t1 error moved window = no_window t0 t1 window moved

-- ---- the last view of a session

pub fits_last : (number : ℕ) (sessions : List Session) (last : ViewSpec) → IsLastOf (session_of number sessions) (Ok last)
    → HasRoom sessions number → FitsIn number last sessions
fits_last number sessions last is has = λ session there.
    let L : Option Session → Type 0 = λ o. IsLastOf o (Ok last) in
    let V : Option ViewSpec → Type 0 = λ o. IsLast o (Ok last) in
    let own : last ≡ has.view = subst V has.last (subst L has.there is) in
    let same : has.session ≡ session = one_some has.session session (sym has.there ∙ there) in
    let S : Session → Type 0 = λ s. IsRoomFor last s.cache.capacity in
    let R : ViewSpec → Type 0 = λ v. IsRoomFor v has.session.cache.capacity in
    subst S same (subst R (sym own) has.room)

pub never_none : (number : ℕ) (sessions : List Session) (refusal : Refusal) → IsLastOf (session_of number sessions) (Err refusal)
    → HasRoom sessions number → ⊥
never_none number sessions refusal is has =
    let L : Option Session → Type 0 = λ o. IsLastOf o (Err refusal) in
    let V : Option ViewSpec → Type 0 = λ o. IsLast o (Err refusal) in
    subst V has.last (subst L has.there is)

-- ---- all sessions

rooms_at : (n number : ℕ) (old new : List Session) → OthersStay number old new → (HasRoom old number → HasRoom new number) → HasRoom old n
    → (test : Bool) → (n == number) ≡ test → HasRoom new n
rooms_at n number old new others own has true is =
    let same : n ≡ number = eqb-true n number is in
    let O : ℕ → Type 0 = λ k. HasRoom old k in
    let N : ℕ → Type 0 = λ k. HasRoom new k in
    subst N (sym same) (own (subst O same has))
rooms_at n number old new others own has false is =
    record {
      session = has.session;
      there = others n (eqb-false n number is) ∙ has.there;
      view = has.view;
      last = has.last;
      room = has.room;
    }

pub keep_rooms : {T E : Type 0} (r : Result T E) (number : ℕ) (old new : List Session) → OthersStay number old new
    → (HasRoom old number → OnOk r (HasRoom new number)) → OnOk r (KeepRooms old new)
keep_rooms (Ok v) number old new others own = λ n has. rooms_at n number old new others own has (n == number) refl
keep_rooms (Err e) number old new others own = tt

pub rooms_same : {T E : Type 0} (r : Result T E) (old new : List Session) → new ≡ old → OnOk r (KeepRooms old new)
rooms_same (Ok v) old new same = λ n has. room_same n old new same has
rooms_same (Err e) old new same = tt

-- ---- what replies leave

pub others_same : (number : ℕ) (old new : List Session) → new ≡ old → OthersStay number old new
others_same number old new same = λ n apart. ap (λ ss. session_of n ss) same

opened_at : (n : ℕ) (ss : List Session) (s : Session) → (s.number == n) ≡ false → session_of n (ss ++ s ∷ []) ≡ session_of n ss
opened_at n [] s other = ap (λ b. if b then Some s else None) other
opened_at n (x ∷ xs) s other = ap (λ o. if x.number == n then Some x else o) (opened_at n xs s other)

pub others_opened : (number cache : ℕ) (old new : List Session) → new ≡ old ++ fresh_session number cache ∷ [] → OthersStay number old new
others_opened number cache old new is = λ n apart.
    let other : (number == n) ≡ false = ne_eqb number n (λ e. apart (sym e)) in
    ap (λ ss. session_of n ss) is ∙ opened_at n old (fresh_session number cache) other

pub others_closed : (number : ℕ) (old new : List Session) → new ≡ without number old → OthersStay number old new
others_closed number old new is = λ n apart. ap (λ ss. session_of n ss) is ∙ without_others n number old apart

request_same : (request : Request) (ss : List Session) → LeavesOpen request ss ss
request_same (EditRequest edit) ss = refl
request_same (Open number cache) ss = λ n apart. refl
request_same (ViewRequest number name w h t0 t1 word text) ss = λ n apart. refl
request_same (Zoom number t0 t1) ss = λ n has. has
request_same (Pan number by) ss = λ n has. has
request_same (Close number) ss = λ n apart. refl

read_same : (read : Result Request ℕ) (ss : List Session) → LeavesRead read ss ss
read_same (Ok request) ss = request_same request ss
read_same (Err at) ss = refl

pub line_same : (line : Option (List ℕ)) (ss : List Session) → LeavesLine line ss ss
line_same None ss = refl
line_same (Some text) ss = read_same (read_line text) ss

pub line_leaves : {T E : Type 0} (r : Result T E) (line : List ℕ) (request : Request) (old new : List Session) → length line ≤ 8192
    → read_line line ≡ Ok request → OnOk r (LeavesOpen request old new)
    → OnOk r (LeavesLine (line_text line) old new)
line_leaves r line request old new short reads leaves =
    let L : Option (List ℕ) → Type 0 = λ o. OnOk r (LeavesLine o old new) in
    let R : Result Request ℕ → Type 0 = λ x. OnOk r (LeavesRead x old new) in
    subst L (sym (text_is line short)) (subst R (sym reads) leaves)
