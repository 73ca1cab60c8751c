-- Which of some numbers are open sessions', and how many.
use Rattle.std.proofs.Common.{◌≡◌, ◌≢◌, ℕ, suc, ◌<◌, ◌≤◌, Bool, true, false, ◌||◌, List, [], ◌∷◌, length, get_or, map, refl, sym, ap, ◌∙◌}
use Rattle.std.proofs.Common.{subst, arith}
use Rattle.std.specs.Prelude.{IsTrue, nat_eq, ◌==◌, is_some, Option, None, Some, if◌then◌else◌}
use Rattle.std.specs.Cmp.{nat_eq_equiv}
use Rattle.std.specs.Set.{is_member}
use Rattle.std.specs.List.Sorted.{IsStrictlyIncreasing}
use Rattle.std.proofs.lemmas.Bool.Decides.{Decides-eqb}
use Rattle.std.proofs.lemmas.List.{length-map}
use Rattle.std.proofs.lemmas.List.Kept.{AllPairs-from_increasing}
use Rattle.std.proofs.lemmas.List.Elements.{All-contains}
use Rattle.std.proofs.lemmas.Map.Made.{length-le_from_is_member, is_member-Decides, IsDistinct-from_AllPairs}
use Rattle.zoom_session.specs.declared.session.Session.{Session}
use Rattle.zoom_session.specs.Sessions.{is_open, session_of, last_of, cache_of, AreSessions}
use Rattle.chart_frames.specs.declared.frame.Frame.{Frame}
use Rattle.chart_frames.specs.declared.frame.Frame.TheVariants.{Live}
use Rattle.live_view.specs.Replies.{follow_reply}
use Rattle.live_view.specs.Sessions.{AreOpen, HaveViews, has_view}

-- the numbers of the open sessions
abbrev numbers : List Session → List ℕ
numbers sessions = map (λ s. s.number) sessions

-- a number is an open session's exactly where it stands among them
open-member : (q : ℕ) (sessions : List Session) → is_open q sessions ≡ is_member nat_eq (numbers sessions) q
open-member q [] = refl
open-member q (s ∷ ss) =
    ap (λ b. b || is_open q ss) (nat_eq_equiv.symm s.number q) ∙ ap (λ b. nat_eq q s.number || b) (open-member q ss)

-- numbers that rise, all of open sessions, are no more than the sessions
pub open-few : (sessions : List Session) (ns : List ℕ) → AreSessions sessions → AreOpen sessions ns → IsStrictlyIncreasing ns
    → length ns ≤ 16
open-few sessions ns valid opened rising =
    let distinct = IsDistinct-from_AllPairs Decides-eqb ns
    (λ i j d before below. λ same. absurd (omega (arith, AllPairs-from_increasing ns rising i j d before below, same))) in
    let inside : (q : ℕ) → is_member nat_eq ns q ≡ true → is_member nat_eq (numbers sessions) q ≡ true =
    λ q member. sym (open-member q sessions) ∙ All-contains (λ n. is_open n sessions ≡ true) ns q (λ k d below. opened k d below)
    ((is_member-Decides Decides-eqb ns q).0 member) in
    let few : length ns ≤ length (numbers sessions) = length-le_from_is_member nat_eq_equiv ns (numbers sessions) distinct inside in
    omega (arith, few, length-map sessions (λ (s : Session). s.number), valid.few)

-- a session is open exactly where it has a cache
pub open-cache : (n : ℕ) (sessions : List Session) → is_some (cache_of (session_of n sessions)) ≡ is_open n sessions
open-cache n [] = refl
open-cache n (s ∷ ss) =
    elim (s.number == n) as (λ b. is_some (cache_of (if b then Some s else session_of n ss)) ≡ (b || is_open n ss)) [
      | true ↦ refl
      | false ↦ open-cache n ss
    ]

-- a session that is open is found
pub opens-found : (n : ℕ) (sessions : List Session) → is_some (session_of n sessions) ≡ is_open n sessions
opens-found n [] = refl
opens-found n (s ∷ ss) =
    elim (s.number == n) as (λ b. is_some (if b then Some s else session_of n ss) ≡ (b || is_open n ss)) [
      | true ↦ refl
      | false ↦ opens-found n ss
    ]

-- only a session that is there is followed
live-there : (n m : ℕ) (on : Bool) (o : Option Session) → follow_reply n o ≡ Live m on → is_some o ≡ true
live-there n m on None live = cc
live-there n m on (Some s) live = refl

-- so a session that is followed is open
pub live-open : (n m : ℕ) (on : Bool) (reply : Frame) (sessions : List Session) → reply ≡ follow_reply n (session_of n sessions)
    → reply ≡ Live m on → IsTrue (is_open n sessions)
live-open n m on reply sessions is live = sym (opens-found n sessions) ∙ live-there n m on (session_of n sessions) (sym is ∙ live)

-- sessions of which the same are open
pub open-alike : (old new : List Session) (ns : List ℕ) → ((n : ℕ) → is_open n new ≡ is_open n old) → AreOpen old ns → AreOpen new ns
open-alike old new ns same opened = λ k d below. same (get_or ns k d) ∙ opened k d below

-- the other numbers of a queue still have views
pub views-stay : (old new : List Session) (ns rest : List ℕ) (n : ℕ) → IsStrictlyIncreasing ns → ns ≡ n ∷ rest
    → ((m : ℕ) → m ≢ n → session_of m new ≡ session_of m old) → HaveViews old ns → HaveViews new rest
views-stay old new ns rest n rising is others viewed = λ k d below.
    let P : List ℕ → Type 0 = λ l. IsStrictlyIncreasing l in
    let Q : List ℕ → Type 0 = λ l. HaveViews old l in
    let pairs = AllPairs-from_increasing (n ∷ rest) (subst P is rising) in
    let above : n < get_or rest k d = pairs 0 (suc k) d (omega arith) (omega (arith, below)) in
    let there : has_view (get_or rest k d) old ≡ true = subst Q is viewed (suc k) d (omega (arith, below)) in
    ap (λ o. is_some (last_of o)) (others (get_or rest k d) (λ same. absurd (omega (arith, above, same)))) ∙ there
