-- Followed sessions can follow, and those that a frame is still to be pushed to are followed.
use Rattle.std.proofs.Common.{◌≡◌, ◌≢◌, ◌∙◌, ℕ, suc, ◌<◌, Bool, true, false, not, ◌==◌, ◌&&◌, if◌then◌else◌, List, [], ◌∷◌, get_or, Option}
use Rattle.std.proofs.Common.{None, Some, refl, sym, ap, subst, arith, rules}
use Rattle.std.specs.Prelude.{All, Contains, IsTrue, filter, is_some}
use Rattle.std.specs.List.Sorted.{IsStrictlyIncreasing}
use Rattle.std.proofs.lemmas.Bool.{eq-eqb}
use Rattle.std.proofs.lemmas.Bool.Decides.{Decides-eqb}
use Rattle.std.proofs.lemmas.Map.Made.{is_member-Decides}
use Rattle.std.proofs.lemmas.List.Kept.{AllPairs-from_increasing}
use Rattle.std.proofs.lemmas.List.Elements.{All-contains, All-contains_itself, All-filter, All-weaker, filter_passes}
use Rattle.chart_frames.specs.declared.frame.Frame.{Frame}
use Rattle.chart_frames.specs.declared.frame.Frame.TheVariants.{Done, Refused, Opened, Closed, View as ViewOf, Rows, Live, Report}
use Rattle.zoom_session.specs.declared.session.Session.{Session}
use Rattle.zoom_session.specs.declared.view_spec.ViewSpec.{ViewSpec}
use Rattle.zoom_session.specs.Sessions.{is_open, session_of}
use Rattle.live_view.specs.declared.meaning.Meaning.{Meaning}
use Rattle.live_view.specs.declared.meaning.Meaning.TheVariants.{View, Edit, Other}
use Rattle.live_view.specs.Following.{AllCanFollow, AreAble, AreAmong, CanFollow, GoOnFollowing, StayWhereOpen, can_follow, can_last}
use Rattle.live_view.specs.Following.{can_one}
use Rattle.live_view.specs.Groups.{followers_of}
use Rattle.live_view.specs.Numbers.{without_number}
use Rattle.live_view.specs.Replies.{Changes, ended, follow_reply, follow_view, followers, is_too_large, live_bound, still_followed}
use Rattle.live_view.specs.Replies.{too_large}
use Rattle.live_view.specs.Sessions.{has_view, open_among, viewed_among}
use Rattle.live_view.proofs.GroupLemmas.{group-all}
use Rattle.live_view.proofs.NumberLemmas.{rest-all}
use Rattle.live_view.proofs.OpenLemmas.{opens-found}
use Rattle.live_view.proofs.PassingLemmas.{followers-all}
use Rattle.live_view.proofs.SetLemmas.{contains-filter}

some-same : {X : Type 0} (x y : X) → Some x ≡ Some y → x ≡ y
some-same x y e = cc

none-some : {X : Type 0} (x : X) → ◌≡◌ {A = Option X} None (Some x) → ⊥
none-some x e = cc

-- ---- the tests

not-false : (b : Bool) → not b ≡ true → b ≡ false
not-false true is = cc
not-false false is = refl

last-can : (n : ℕ) (sessions : List Session) (session : Session) (last : Option ViewSpec) → session_of n sessions ≡ Some session
    → session.last ≡ last
    → can_last last session.cache.capacity ≡ true → CanFollow sessions n
last-can n sessions session None there last can = cc
last-can n sessions session (Some view) there last can =
    record { session = session; there = there; view = view; last = last; fits = not-false (is_too_large view session.cache.capacity) can }

one-can : (n : ℕ) (sessions : List Session) (o : Option Session) → session_of n sessions ≡ o → can_one o ≡ true → CanFollow sessions n
one-can n sessions None there can = cc
one-can n sessions (Some session) there can = last-can n sessions session session.last there refl can

can-one : (n : ℕ) (sessions : List Session) → CanFollow sessions n → can_follow n sessions ≡ true
can-one n sessions can = ap can_one can.there ∙ ap (λ l. can_last l can.session.cache.capacity) can.last ∙ ap not can.fits

pub can-all : (sessions : List Session) (ns : List ℕ) → AreAble sessions ns → AllCanFollow sessions ns
can-all sessions ns able = λ k d below. one-can (get_or ns k d) sessions (session_of (get_or ns k d) sessions) refl (able k d below)

pub able-all : (sessions : List Session) (ns : List ℕ) → AllCanFollow sessions ns → AreAble sessions ns
able-all sessions ns can = λ k d below. can-one (get_or ns k d) sessions (can k d below)

pub in-all : (followed ns : List ℕ) → AreAmong followed ns → All (Contains followed) ns
in-all followed ns among = λ k d below. (is_member-Decides Decides-eqb followed (get_or ns k d)).0 (among k d below)

pub among-all : (followed ns : List ℕ) → All (Contains followed) ns → AreAmong followed ns
among-all followed ns all = λ k d below. (is_member-Decides Decides-eqb followed (get_or ns k d)).1 (all k d below)

-- ---- none

pub none-can : (sessions : List Session) → AllCanFollow sessions []
none-can sessions = λ k d below. absurd (omega (arith, below))

-- ---- a session that begins to follow

not-large : (n m : ℕ) (on : Bool) (bound cache : ℕ) (large : Bool) → (if large then too_large bound cache else Live n true) ≡ Live m on
    → large ≡ false
not-large n m on bound cache true is = cc
not-large n m on bound cache false is = refl

view-can : (n m : ℕ) (on : Bool) (session : Session) (sessions : List Session) (last : Option ViewSpec)
    → session_of n sessions ≡ Some session → session.last ≡ last
    → follow_view n session.cache.capacity last ≡ Live m on → CanFollow sessions n
view-can n m on session sessions None there last is = cc
view-can n m on session sessions (Some view) there last is = record {
  session = session;
  there = there;
  view = view;
  last = last;
  fits = not-large n m on (live_bound view.grid.w) session.cache.capacity (is_too_large view session.cache.capacity) is;
}

session-can : (n m : ℕ) (on : Bool) (sessions : List Session) (o : Option Session) → session_of n sessions ≡ o
    → follow_reply n o ≡ Live m on → CanFollow sessions n
session-can n m on sessions None there is = cc
session-can n m on sessions (Some session) there is = view-can n m on session sessions session.last there refl is

pub live-can : (n m : ℕ) (on : Bool) (reply : Frame) (sessions : List Session) → reply ≡ follow_reply n (session_of n sessions)
    → reply ≡ Live m on → CanFollow sessions n
live-can n m on reply sessions is live = session-can n m on sessions (session_of n sessions) refl (sym is ∙ live)

-- ---- those whose following goes on

other-number : (m n : ℕ) → not (n == m) ≡ true → m ≡ n → ⊥
other-number m n apart same =
    let own : (n == m) ≡ true = eq-eqb n m (sym same) in
    let never : not true ≡ true = sym (ap not own) ∙ apart in
    cc

pub still-can : (e : Option ℕ) (followed : List ℕ) (old new : List Session) → GoOnFollowing e old new → AllCanFollow old followed
    → AllCanFollow new (still_followed e followed)
still-can None followed old new goes all = All-weaker (CanFollow old) (CanFollow new)
    (λ n can. goes n (λ e. none-some n e) can) followed all
still-can (Some m) followed old new goes all =
    let left : List ℕ = without_number m followed in
    let were : AllCanFollow old left = All-filter (λ n. not (n == m)) (CanFollow old) followed all in
    let apart : All (λ n. not (n == m) ≡ true) left = filter_passes (λ n. not (n == m)) followed in
    λ k d below. goes (get_or left k d) (λ e. other-number m (get_or left k d) (apart k d below) (some-same m (get_or left k d) e))
    (were k d below)

pub goes-means : (meaning meant : Meaning) (frame : Frame) (old new : List Session) → meaning ≡ meant
    → GoOnFollowing (ended meant frame) old new → GoOnFollowing (ended meaning frame) old new
goes-means meaning meant frame old new is goes = let G : Meaning → Type 0 = λ m. GoOnFollowing (ended m frame) old new in
    subst G (sym is) goes

stays-can : (n : ℕ) (old new : List Session) → session_of n new ≡ session_of n old → CanFollow old n → CanFollow new n
stays-can n old new same can = record { session = can.session; there = same ∙ can.there; view = can.view; last = can.last; fits = can.fits }

-- behind a fault those that are open
pub open-can : (followed : List ℕ) (old new : List Session) → StayWhereOpen old new → AllCanFollow old followed
    → AllCanFollow new (open_among new followed)
open-can followed old new stay all =
    let left : List ℕ = open_among new followed in
    let were : AllCanFollow old left = All-filter (λ n. is_open n new) (CanFollow old) followed all in
    let opened : All (λ n. is_open n new ≡ true) left = filter_passes (λ n. is_open n new) followed in
    λ k d below. stays-can (get_or left k d) old new (stay (get_or left k d) (opened k d below)) (were k d below)

-- ---- those that a frame is to be pushed to

no-number : (followed : List ℕ) → All (Contains followed) []
no-number followed = λ k d below. absurd (omega (arith, below))

pub none-among : (followed pending : List ℕ) → pending ≡ [] → AreAmong followed pending
none-among followed pending none = let N : List ℕ → Type 0 = λ l. AreAmong followed l in
    subst N (sym none) (among-all followed [] (no-number followed))

none-changed : (e : Option ℕ) (series : Option ℕ) (sessions : List Session) (followed : List ℕ) → series ≡ None
    → All (Contains (still_followed e followed)) (followers series sessions followed)
none-changed e series sessions followed none =
    let F : Option ℕ → Type 0 = λ s. All (Contains (still_followed e followed)) (followers s sessions followed) in
    subst F (sym none) (no-number (still_followed e followed))

-- an edit that was done ends no following
pub followers-among : (names : List ℕ → Option ℕ → Type 0) (meaning : Meaning) (frame : Frame) (series : Option ℕ) (sessions : List Session)
    (followed : List ℕ) → Changes names meaning frame series
    → All (Contains (still_followed (ended meaning frame) followed)) (followers series sessions followed)
followers-among names View frame series sessions followed none = none-changed (ended View frame) series sessions followed none
followers-among names Other frame series sessions followed none = none-changed (ended Other frame) series sessions followed none
followers-among names (Edit name) (Done slots) series sessions followed named =
    let same : still_followed (ended (Edit name) (Done slots)) followed ≡ followed = search rules in
    let F : List ℕ → Type 0 = λ l. All (Contains l) (followers series sessions followed) in
    subst F (sym same) (followers-all (Contains followed) series sessions followed (All-contains_itself followed))
followers-among names (Edit name) (Refused number a b) series sessions followed none = none-changed None series sessions followed none
followers-among names (Edit name) (Opened session cache) series sessions followed none = none-changed
    (Some session) series sessions followed none
followers-among names (Edit name) (Closed session) series sessions followed none = none-changed (Some session) series sessions followed none
followers-among names (Edit name) (ViewOf view) series sessions followed none = none-changed None series sessions followed none
followers-among names (Edit name) (Rows rows) series sessions followed none = none-changed None series sessions followed none
followers-among names (Edit name) (Live session on) series sessions followed none = none-changed None series sessions followed none
followers-among names (Edit name) (Report report) series sessions followed none = none-changed None series sessions followed none

pub own-among : (series : Option ℕ) (sessions : List Session) (followed : List ℕ) → AreAmong followed (followers series sessions followed)
own-among series sessions followed = among-all followed (followers series sessions followed)
    (followers-all (Contains followed) series sessions followed (All-contains_itself followed))

pub group-among : (series : List (Option ℕ)) (sessions : List Session) (followed : List ℕ)
    → AreAmong followed (followers_of series sessions followed)
group-among series sessions followed = among-all followed (followers_of series sessions followed)
    (group-all (Contains followed) series sessions followed (All-contains_itself followed))

pub viewed-among : (sessions : List Session) (followed : List ℕ) → AreAmong followed (viewed_among sessions followed)
viewed-among sessions followed = among-all followed (viewed_among sessions followed)
    (All-filter (λ n. has_view n sessions) (Contains followed) followed (All-contains_itself followed))

-- among equal numbers
pub among-so : (followed followed' pending pending' : List ℕ) → followed' ≡ followed → pending' ≡ pending → All (Contains followed) pending
    → AreAmong followed' pending'
among-so followed followed' pending pending' one two all =
    let F : List ℕ → Type 0 = λ l. AreAmong l pending' in
    let P : List ℕ → Type 0 = λ l. AreAmong followed l in
    subst F (sym one) (subst P (sym two) (among-all followed pending all))

-- behind a push that failed the others are still open
pub rest-among : (old new : List Session) (followed pending rest : List ℕ) (session : ℕ) → IsStrictlyIncreasing pending
    → pending ≡ session ∷ rest
    → ((n : ℕ) → n ≢ session → session_of n new ≡ session_of n old) → AllCanFollow old followed → All (Contains followed) pending
    → All (Contains (open_among new followed)) rest
rest-among old new followed pending rest session rising is others can among = λ k d below.
    let P : List ℕ → Type 0 = λ l. IsStrictlyIncreasing l in
    let n : ℕ = get_or rest k d in
    let pairs = AllPairs-from_increasing (session ∷ rest) (subst P is rising) in
    let above : session < n = pairs 0 (suc k) d (omega arith) (omega (arith, below)) in
    let here : Contains followed n = rest-all (Contains followed) session pending rest is among k d below in
    let one : CanFollow old n = All-contains (CanFollow old) followed n can here in
    let there : is_open n new ≡ true = sym (opens-found n new)
    ∙ ap is_some (others n (λ same. absurd (omega (arith, above, same))) ∙ one.there) in
    (contains-filter (λ m. is_open m new) followed n).1 (here, there)
