-- What is held of a session after its own list, or that of another one, has changed.
use Rattle.std.proofs.Common.{ℕ, ◌≡◌, ◌≢◌, Bool, true, false, cond, not, List, [], ◌∷◌, ◌++◌, refl, sym, ◌∙◌, ap}
use Rattle.std.proofs.lemmas.Bool.Decides.{Decides-eqb}
use Rattle.std.specs.Prelude.{◌==◌, Option, Some, None}
use Rattle.line_raster.specs.Canvas.{Canvas}
use Rattle.coefficient_cache.specs.Caches.{Cache}
use Rattle.chart_frames.specs.declared.frame.Frame.{Frame}
use Rattle.chart_frames.specs.declared.frame.Frame.TheVariants.{Done, Refused, Opened, Closed, View, Rows, Live, Report}
use Rattle.chart_client.specs.declared.holding.Holding.{Holding}
use Rattle.chart_client.specs.Holdings.{holding_of, without, with_cache, opened}
use Rattle.chart_client.specs.Accepting.{Accepts, named_in}

apart_false : (a b : ℕ) → a ≢ b → a == b ≡ false
apart_false a b apart = elim (a == b) as (λ (x : Bool). a == b ≡ x → a == b ≡ false) [
  | true ↦ λ e. absurd (apart ((Decides-eqb a b).0 e))
  | false ↦ λ e. e
] refl

same_true : (a : ℕ) → a == a ≡ true
same_true a = (Decides-eqb a a).1 refl

-- ---- the first holding of a list

found_first : (n : ℕ) (h : Holding) (hs : List Holding) → h.number == n ≡ true → holding_of n (h ∷ hs) ≡ Some h
found_first n h hs is = ap (λ (b : Bool). cond b (Some h) (holding_of n hs)) is

found_later : (n : ℕ) (h : Holding) (hs : List Holding) → h.number == n ≡ false → holding_of n (h ∷ hs) ≡ holding_of n hs
found_later n h hs is = ap (λ (b : Bool). cond b (Some h) (holding_of n hs)) is

dropped : (m : ℕ) (h : Holding) (hs : List Holding) → h.number == m ≡ true → without m (h ∷ hs) ≡ without m hs
dropped m h hs is = ap (λ (b : Bool). cond (not b) (h ∷ without m hs) (without m hs)) is

stays : (m : ℕ) (h : Holding) (hs : List Holding) → h.number == m ≡ false → without m (h ∷ hs) ≡ h ∷ without m hs
stays m h hs is = ap (λ (b : Bool). cond (not b) (h ∷ without m hs) (without m hs)) is

abbrev listed : ℕ → Cache → Holding
listed m cache = record { number = m; cache = cache }

replaced : (m : ℕ) (cache : Cache) (h : Holding) (hs : List Holding) → h.number == m ≡ true
    → with_cache m cache (h ∷ hs) ≡ listed m cache ∷ hs
replaced m cache h hs is = ap (λ (b : Bool). cond b (listed m cache ∷ hs) (h ∷ with_cache m cache hs)) is

passed : (m : ℕ) (cache : Cache) (h : Holding) (hs : List Holding) → h.number == m ≡ false
    → with_cache m cache (h ∷ hs) ≡ h ∷ with_cache m cache hs
passed m cache h hs is = ap (λ (b : Bool). cond b (listed m cache ∷ hs) (h ∷ with_cache m cache hs)) is

-- a holding of m isn't one of n
not_of : (n m : ℕ) (h : Holding) → n ≢ m → h.number == m ≡ true → h.number == n ≡ false
not_of n m h apart is = apart_false h.number n (λ e. apart (sym e ∙ (Decides-eqb h.number m).0 is))

-- ---- without a session

other_without : (n m : ℕ) (hs : List Holding) → n ≢ m → holding_of n (without m hs) ≡ holding_of n hs
other_without n m [] apart = refl
other_without n m (h ∷ hs) apart =
    elim (h.number == m) as (λ (b : Bool). h.number == m ≡ b → holding_of n (without m (h ∷ hs)) ≡ holding_of n (h ∷ hs)) [
      | true ↦ λ is. ap (λ (l : List Holding). holding_of n l) (dropped m h hs is) ∙ other_without n m hs apart
          ∙ sym (found_later n h hs (not_of n m h apart is))
      | false ↦ λ is. ap (λ (l : List Holding). holding_of n l) (stays m h hs is)
          ∙ ap (λ (o : Option Holding). cond (h.number == n) (Some h) o) (other_without n m hs apart)
    ] refl

own_without : (m : ℕ) (hs : List Holding) → holding_of m (without m hs) ≡ None
own_without m [] = refl
own_without m (h ∷ hs) =
    elim (h.number == m) as (λ (b : Bool). h.number == m ≡ b → holding_of m (without m (h ∷ hs)) ≡ None) [
      | true ↦ λ is. ap (λ (l : List Holding). holding_of m l) (dropped m h hs is) ∙ own_without m hs
      | false ↦ λ is. ap (λ (l : List Holding). holding_of m l) (stays m h hs is) ∙ found_later m h (without m hs) is ∙ own_without m hs
    ] refl

-- ---- with a session behind the others

other_behind : (n : ℕ) (x : Holding) (hs : List Holding) → x.number == n ≡ false → holding_of n (hs ++ x ∷ []) ≡ holding_of n hs
other_behind n x [] other = found_later n x [] other
other_behind n x (h ∷ hs) other = ap (λ (o : Option Holding). cond (h.number == n) (Some h) o) (other_behind n x hs other)

some_none : {X : Type 0} (x : X) → ◌≡◌ {A = Option X} (Some x) None → ⊥
some_none x e = cc

own_behind : (n : ℕ) (x : Holding) (hs : List Holding) → x.number == n ≡ true → holding_of n hs ≡ None
    → holding_of n (hs ++ x ∷ []) ≡ Some x
own_behind n x [] own none = found_first n x [] own
own_behind n x (h ∷ hs) own none =
    elim (h.number == n) as (λ (b : Bool). h.number == n ≡ b → holding_of n (h ∷ (hs ++ x ∷ [])) ≡ Some x) [
      | true ↦ λ is. absurd (some_none h (sym (found_first n h hs is) ∙ none))
      | false ↦ λ is. found_later n h (hs ++ x ∷ []) is ∙ own_behind n x hs own (sym (found_later n h hs is) ∙ none)
    ] refl

-- ---- with another list

other_cache : (n m : ℕ) (cache : Cache) (hs : List Holding) → n ≢ m → holding_of n (with_cache m cache hs) ≡ holding_of n hs
other_cache n m cache [] apart = refl
other_cache n m cache (h ∷ hs) apart =
    elim (h.number == m) as (λ (b : Bool). h.number == m ≡ b → holding_of n (with_cache m cache (h ∷ hs)) ≡ holding_of n (h ∷ hs)) [
      | true ↦ λ is. ap (λ (l : List Holding). holding_of n l) (replaced m cache h hs is)
          ∙ found_later n (listed m cache) hs (not_of n m (listed m cache) apart (same_true m))
          ∙ sym (found_later n h hs (not_of n m h apart is))
      | false ↦ λ is. ap (λ (l : List Holding). holding_of n l) (passed m cache h hs is)
          ∙ ap (λ (o : Option Holding). cond (h.number == n) (Some h) o) (other_cache n m cache hs apart)
    ] refl

own_cache : (m : ℕ) (cache : Cache) (hs : List Holding) (x : Holding) → holding_of m hs ≡ Some x
    → holding_of m (with_cache m cache hs) ≡ Some (listed m cache)
own_cache m cache [] x held = absurd (some_none x (sym held))
own_cache m cache (h ∷ hs) x held =
    elim (h.number == m) as (λ (b : Bool). h.number == m ≡ b → holding_of m (with_cache m cache (h ∷ hs)) ≡ Some (listed m cache)) [
      | true ↦ λ is. ap (λ (l : List Holding). holding_of m l) (replaced m cache h hs is) ∙ found_first m (listed m cache) hs (same_true m)
      | false ↦ λ is. ap (λ (l : List Holding). holding_of m l) (passed m cache h hs is) ∙ found_later m h (with_cache m cache hs) is
          ∙ own_cache m cache hs x (sym (found_later m h hs is) ∙ held)
    ] refl

-- ---- the laws

pub view_leaves : (m : ℕ) (cache : Cache) (old new : List Holding) (x : Holding) → holding_of m old ≡ Some x → new ≡ with_cache m cache old
    → holding_of m new ≡ Some (record { number = m; cache = cache })
view_leaves m cache old new x held is = ap (λ (l : List Holding). holding_of m l) is ∙ own_cache m cache old x held

pub opening_leaves : (m size : ℕ) (old new : List Holding) → new ≡ opened m size old
    → holding_of m new ≡ Some (record { number = m; cache = record { pairs = []; capacity = size } })
opening_leaves m size old new is =
    ap (λ (l : List Holding). holding_of m l) is
    ∙ own_behind m (listed m (record { pairs = []; capacity = size })) (without m old) (same_true m) (own_without m old)

pub closing_leaves : (m : ℕ) (old new : List Holding) → new ≡ without m old → holding_of m new ≡ None
closing_leaves m old new is = ap (λ (l : List Holding). holding_of m l) is ∙ own_without m old

other_opened : (n m size : ℕ) (old : List Holding) → n ≢ m → holding_of n (opened m size old) ≡ holding_of n old
other_opened n m size old apart =
    let x : Holding = listed m (record { pairs = []; capacity = size }) in
    other_behind n x (without m old) (not_of n m x apart (same_true m)) ∙ other_without n m old apart

apart_of : (n m : ℕ) → (Some m ≡ Some n → ⊥) → n ≢ m
apart_of n m apart = λ e. apart (ap (λ (k : ℕ). Some k) (sym e))

-- a frame leaves what is held of the sessions that it doesn't name
pub others_stay : (frame : Frame) (drawing : Option Canvas) (old new : List Holding) (n : ℕ) → Accepts frame drawing old new
    → named_in frame ≢ Some n
    → holding_of n new ≡ holding_of n old
others_stay (Done slots) drawing old new n accepts apart = ap (λ (l : List Holding). holding_of n l) accepts.1
others_stay (Refused number a b) drawing old new n accepts apart = ap (λ (l : List Holding). holding_of n l) accepts.1
others_stay (Opened number size) drawing old new n accepts apart =
    ap (λ (l : List Holding). holding_of n l) accepts.1 ∙ other_opened n number size old (apart_of n number apart)
others_stay (Closed number) drawing old new n accepts apart =
    ap (λ (l : List Holding). holding_of n l) accepts.2 ∙ other_without n number old (apart_of n number apart)
others_stay (View view) None old new n accepts apart = absurd accepts
others_stay (View view) (Some drawing) old new n accepts apart =
    ap (λ (l : List Holding). holding_of n l) accepts.2.holdings ∙ other_cache n view.session _ old (apart_of n view.session apart)
others_stay (Rows rows) None old new n accepts apart = absurd accepts
others_stay (Rows rows) (Some drawing) old new n accepts apart = ap (λ (l : List Holding). holding_of n l) accepts.1.holdings
others_stay (Live number on) drawing old new n accepts apart = ap (λ (l : List Holding). holding_of n l) accepts.2
others_stay (Report report) drawing old new n accepts apart = ap (λ (l : List Holding). holding_of n l) accepts.1
