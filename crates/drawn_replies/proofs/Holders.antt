-- Holdings that mirror sessions: look-ups, closings and views at both ends.
use Rattle.std.proofs.Common.{ℕ, ◌≡◌, ◌==◌, Bool, true, false, ◌||◌, ◌≢◌, if◌then◌else◌, All, AllPairs, suc, List, [], ◌∷◌, ◌++◌, map}
use Rattle.std.proofs.Common.{Option, None, Some, refl, sym, ap, ◌∙◌, arith, subst}
use Rattle.std.specs.Option.{option_map}
use Rattle.std.proofs.lemmas.Bool.Decides.{nat_tests}
use Rattle.std.proofs.lemmas.List.Elements.{All-head, All-tail}
use Rattle.om3_coeff.specs.declared.key.Key.{Key}
use Rattle.om3_coeff.specs.declared.coef.Coef.{Coef}
use Rattle.zoom_session.specs.declared.session.Session.{Session}
use Rattle.zoom_session.specs.declared.view_spec.ViewSpec.{ViewSpec}
use Rattle.zoom_session.specs.Sessions.{is_open, session_of, last_of, fresh_session, without as sessions_without, after_view, viewed}
use Rattle.chart_client.specs.declared.holding.Holding.{Holding}
use Rattle.chart_client.specs.Holdings.{holding_of, without, with_cache, opened}
use Rattle.drawn_replies.specs.Mirrors.{mirrored}

abbrev pub mirror : List Session → List Holding
mirror ss = map mirrored ss

-- the holding of a session mirrors it
held-by : (n : ℕ) (s : Session) (ss : List Session) (b : Bool) → (s.number == n) ≡ b
    → holding_of n (mirror ss) ≡ option_map mirrored (session_of n ss)
    → holding_of n (mirror (s ∷ ss)) ≡ option_map mirrored (session_of n (s ∷ ss))
held-by n s ss true is ih = rw is refl
held-by n s ss false is ih = rw is ih

pub held : (n : ℕ) (ss : List Session) → holding_of n (mirror ss) ≡ option_map mirrored (session_of n ss)
held n [] = refl
held n (s ∷ ss) = held-by n s ss (s.number == n) refl (held n ss)

or-false : (a b : Bool) → (a || b) ≡ false → (a ≡ false) × (b ≡ false)
or-false true b h = absurd (grind (arith, h))
or-false false b h = (refl, h)

or-true : (a b : Bool) → a ≡ false → (a || b) ≡ true → b ≡ true
or-true true b is h = absurd (grind (arith, is))
or-true false b is h = h

-- no session of a number, so no holding to drop
absent-by : (n : ℕ) (s : Session) (ss : List Session) → (s.number == n) ≡ false → without n (mirror ss) ≡ mirror ss
    → without n (mirror (s ∷ ss)) ≡ mirror (s ∷ ss)
absent-by n s ss is ih = rw is (ap (λ hs. mirrored s ∷ hs) ih)

pub absent : (n : ℕ) (ss : List Session) → is_open n ss ≡ false → without n (mirror ss) ≡ mirror ss
absent n [] none = refl
absent n (s ∷ ss) none =
    let parts = or-false (s.number == n) (is_open n ss) none in
    absent-by n s ss parts.0 (absent n ss parts.1)

-- numbers that differ
differ : (a n : ℕ) → (a ≡ n → ⊥) → (a == n) ≡ false
differ a n unlike = grind (arith, nat_tests, unlike)

pub same-number : (a n : ℕ) → (a == n) ≡ true → a ≡ n
same-number a n is = grind (arith, nat_tests, is)

pub others-apart : (n : ℕ) (ss : List Session) → All (λ t. n ≢ t.number) ss → is_open n ss ≡ false
others-apart n [] all = refl
others-apart n (s ∷ ss) all =
    rw (differ s.number n (λ (e : s.number ≡ n). All-head (λ t. n ≢ t.number) s ss all (sym e)))
    (others-apart n ss (All-tail (λ t. n ≢ t.number) s ss all))

-- the first of sessions, none of which have one number, and the others
pairs-head : (s : Session) (ss : List Session) → AllPairs (λ a b. a.number ≢ b.number) (s ∷ ss) → All (λ t. s.number ≢ t.number) ss
pairs-head s ss distinct k d low = distinct 0 (suc k) d (omega arith) (omega (arith, low))

pairs-tail : (s : Session) (ss : List Session) → AllPairs (λ a b. a.number ≢ b.number) (s ∷ ss) → AllPairs (λ a b. a.number ≢ b.number) ss
pairs-tail s ss distinct i j d low high = distinct (suc i) (suc j) d (omega (arith, low)) (omega (arith, high))

-- closing a session
closed-by : (n : ℕ) (s : Session) (ss : List Session) (b : Bool) → (s.number == n) ≡ b
    → All (λ t. s.number ≢ t.number) ss
    → without n (mirror ss) ≡ mirror (sessions_without n ss)
    → without n (mirror (s ∷ ss)) ≡ mirror (sessions_without n (s ∷ ss))
closed-by n s ss true is apart ih =
    let P : ℕ → Type 0 = λ m. All (λ t. m ≢ t.number) ss in
    rw is (absent n ss (others-apart n ss (subst P (same-number s.number n is) apart)))
closed-by n s ss false is apart ih = rw is (ap (λ hs. mirrored s ∷ hs) ih)

pub closed : (n : ℕ) (ss : List Session) → AllPairs (λ a b. a.number ≢ b.number) ss → without n (mirror ss) ≡ mirror (sessions_without n ss)
closed n [] distinct = refl
closed n (s ∷ ss) distinct =
    closed-by n s ss (s.number == n) refl (pairs-head s ss distinct) (closed n ss (pairs-tail s ss distinct))

there-later : (n : ℕ) (s : Session) (ss : List Session) → (s.number == n) ≡ false → (t : Session) × (session_of n ss ≡ Some t)
    → (t : Session) × (session_of n (s ∷ ss) ≡ Some t)
there-later n s ss is found = (found.0, rw is found.1)

-- a session that is open is found
there-by : (n : ℕ) (s : Session) (ss : List Session) (b : Bool) → (s.number == n) ≡ b → is_open n (s ∷ ss) ≡ true
    → (is_open n ss ≡ true → (t : Session) × (session_of n ss ≡ Some t)) → (t : Session) × (session_of n (s ∷ ss) ≡ Some t)
there-by n s ss true is here ih = (s, rw is refl)
there-by n s ss false is here ih =
    there-later n s ss is (ih (or-true (s.number == n) (is_open n ss) is here))

pub there : (n : ℕ) (ss : List Session) → is_open n ss ≡ true → (t : Session) × (session_of n ss ≡ Some t)
there n [] here = absurd (grind (arith, here))
there n (s ∷ ss) here = there-by n s ss (s.number == n) refl here (there n ss)

map-append : (xs ys : List Session) → map mirrored (xs ++ ys) ≡ map mirrored xs ++ map mirrored ys
map-append [] ys = refl
map-append (x ∷ xs) ys = ap (λ hs. mirrored x ∷ hs) (map-append xs ys)

-- opening a session that isn't open
pub opened-same : (n size : ℕ) (ss : List Session) → is_open n ss ≡ false
    → opened n size (mirror ss) ≡ mirror (ss ++ fresh_session n size ∷ [])
opened-same n size ss none =
    ap (λ hs. hs ++ mirrored (fresh_session n size) ∷ []) (absent n ss none) ∙ sym (map-append ss (fresh_session n size ∷ []))

some-same : {a b : Session} → ◌≡◌ {A = Option Session} (Some a) (Some b) → a ≡ b
some-same h = cc

cond-true : {X : Type 0} (x y : X) (b : Bool) → b ≡ true → (if b then x else y) ≡ x
cond-true x y true is = refl
cond-true x y false is = absurd (grind (arith, is))

cond-false : {X : Type 0} (x y : X) (b : Bool) → b ≡ false → (if b then x else y) ≡ y
cond-false x y true is = absurd (grind (arith, is))
cond-false x y false is = refl

viewed-at : (n : ℕ) (spec : ViewSpec) (needed : Option (List (Key × Coef))) (s t : Session) (ss : List Session) → s.number ≡ n → s ≡ t
    → record { number = n; cache = (after_view spec needed t).cache } ∷ mirror ss ≡ mirror (after_view spec needed s ∷ ss)
viewed-at n spec needed s t ss is e =
    let P : ℕ → Type 0 = λ m. record { number = m; cache = (after_view spec needed s).cache } ∷ mirror ss ≡ mirror
    (after_view spec needed s ∷ ss) in
    let Q : Session → Type 0 = λ u. record {
      number = n;
      cache = (after_view spec needed u).cache;
    } ∷ mirror ss ≡ mirror (after_view spec needed s ∷ ss) in
    subst Q e (subst P is refl)

-- a view of a session changes its list at both ends
viewed-by : (n : ℕ) (spec : ViewSpec) (needed : Option (List (Key × Coef))) (s t : Session) (ss : List Session) (b : Bool)
    → (s.number == n) ≡ b
    → session_of n (s ∷ ss) ≡ Some t
    → (session_of n ss ≡ Some t → with_cache n (after_view spec needed t).cache (mirror ss) ≡ mirror (viewed n spec needed ss))
    → with_cache n (after_view spec needed t).cache (mirror (s ∷ ss)) ≡ mirror (viewed n spec needed (s ∷ ss))
viewed-by n spec needed s t ss true is here ih =
    let e : s ≡ t = some-same (sym (cond-true (Some s) (session_of n ss) (s.number == n) is) ∙ here) in
    rw is (viewed-at n spec needed s t ss (same-number s.number n is) e)
viewed-by n spec needed s t ss false is here ih =
    rw is (ap (λ hs. mirrored s ∷ hs) (ih (sym (cond-false (Some s) (session_of n ss) (s.number == n) is) ∙ here)))

pub viewed-same : (n : ℕ) (spec : ViewSpec) (needed : Option (List (Key × Coef))) (t : Session) (ss : List Session)
    → session_of n ss ≡ Some t
    → with_cache n (after_view spec needed t).cache (mirror ss) ≡ mirror (viewed n spec needed ss)
viewed-same n spec needed t [] here = refl
viewed-same n spec needed t (s ∷ ss) here =
    viewed-by n spec needed s t ss (s.number == n) refl here (viewed-same n spec needed t ss)

unviewed-by : (n : ℕ) (spec : ViewSpec) (s : Session) (ss : List Session) (b : Bool) → (s.number == n) ≡ b
    → mirror (viewed n spec None ss) ≡ mirror ss → mirror (viewed n spec None (s ∷ ss)) ≡ mirror (s ∷ ss)
unviewed-by n spec s ss true is ih = rw is refl
unviewed-by n spec s ss false is ih = rw is (ap (λ hs. mirrored s ∷ hs) ih)

-- a filtered view of a session leaves what its client holds
pub unviewed-same : (n : ℕ) (spec : ViewSpec) (ss : List Session) → mirror (viewed n spec None ss) ≡ mirror ss
unviewed-same n spec [] = refl
unviewed-same n spec (s ∷ ss) = unviewed-by n spec s ss (s.number == n) refl (unviewed-same n spec ss)

last-by : (n : ℕ) (spec : ViewSpec) (needed : Option (List (Key × Coef))) (s t : Session) (ss : List Session) (b : Bool)
    → (s.number == n) ≡ b
    → session_of n (s ∷ ss) ≡ Some t
    → (session_of n ss ≡ Some t → last_of (session_of n (viewed n spec needed ss)) ≡ Some spec)
    → last_of (session_of n (viewed n spec needed (s ∷ ss))) ≡ Some spec
last-by n spec needed s t ss true is here ih =
    ap (λ b. last_of (session_of n (if b then after_view spec needed s ∷ ss else s ∷ viewed n spec needed ss))) is
    ∙ ap last_of (cond-true (Some (after_view spec needed s)) (session_of n ss) (s.number == n) is)
last-by n spec needed s t ss false is here ih =
    ap (λ b. last_of (session_of n (if b then after_view spec needed s ∷ ss else s ∷ viewed n spec needed ss))) is
    ∙ ap last_of (cond-false (Some s) (session_of n (viewed n spec needed ss)) (s.number == n) is)
    ∙ ih (sym (cond-false (Some s) (session_of n ss) (s.number == n) is) ∙ here)

-- an answered view is its session's last one
pub last-viewed : (n : ℕ) (spec : ViewSpec) (needed : Option (List (Key × Coef))) (t : Session) (ss : List Session)
    → session_of n ss ≡ Some t
    → last_of (session_of n (viewed n spec needed ss)) ≡ Some spec
last-viewed n spec needed t [] here = cc
last-viewed n spec needed t (s ∷ ss) here =
    last-by n spec needed s t ss (s.number == n) refl here (last-viewed n spec needed t ss)
