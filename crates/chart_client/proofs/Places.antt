-- Where the holding of a session stands, and what a change of it leaves.
use Rattle.std.proofs.Common.{ℕ, zero, suc, ◌≡◌, ◌<◌, ◌≤◌, Bool, true, false, cond, List, [], ◌∷◌, inl, inr, length, get_or, refl, sym, ◌∙◌}
use Rattle.std.proofs.Common.{ap, ap₂, subst, arith}
use Rattle.std.proofs.Math.ListN.{set}
use Rattle.std.proofs.lemmas.List.Elements.{All-weaker}
use Rattle.std.proofs.lemmas.List.Kept.{AllPairs-cons}
use Rattle.std.proofs.lemmas.Bool.{cases_lt}
use Rattle.std.proofs.lemmas.Bool.Decides.{Decides-eqb, nat_tests}
use Rattle.std.proofs.lemmas.List.{get_or_default}
use Rattle.std.proofs.lemmas.List.Quantifiers.{position-Some}
use Rattle.std.proofs.lemmas.List.Sums.{fails_before_first}
use Rattle.std.specs.List.{position_or_len}
use Rattle.std.specs.Prelude.{◌==◌, ◌≢◌, nat_lt, position, is_some, Option, Some, None}
use Rattle.om3_coeff.specs.declared.key.Key.{Key}
use Rattle.om3_coeff.specs.declared.coef.Coef.{Coef}
use Rattle.coefficient_cache.specs.declared.series_key.SeriesKey.{SeriesKey}
use Rattle.coefficient_cache.specs.Caches.{Cache}
use Rattle.coefficient_cache.specs.Views.{AreDistinct}
use Rattle.view_keys.specs.Listed.{ComesBefore, AreInOrder}
use Rattle.chart_client.specs.Holdings.{holding_of, with_cache}
use Rattle.chart_client.specs.declared.holding.Holding.{Holding}
use Rattle.view_keys.proofs.Orders.{not_itself}

-- the first holding of this number stands at this place
pub record IsAt (number : ℕ) (hs : List Holding) (place : ℕ) (h : Holding) : Type 0 where
  pub inside : place < length hs
  pub there : h ≡ get_or hs place h
  pub number_is : h.number ≡ number
  pub before : (i : ℕ) (d : Holding) → i < place → (get_or hs i d).number == number ≡ false

pub held_at : (number : ℕ) (hs : List Holding) (place : ℕ) (h : Holding) → IsAt number hs place h → holding_of number hs ≡ Some h
held_at number [] place h at = absurd (omega (arith, at.inside))
held_at number (x ∷ hs) zero h at =
    let is : h ≡ x = at.there in
    let same : x.number == number ≡ true = (Decides-eqb x.number number).1 (ap (λ (y : Holding). y.number) (sym is) ∙ at.number_is) in
    ap (λ (b : Bool). cond b (Some x) (holding_of number hs)) same ∙ ap (λ (y : Holding). Some y) (sym is)
held_at number (x ∷ hs) (suc place) h at =
    let other : x.number == number ≡ false = at.before 0 x (omega arith) in
    ap (λ (b : Bool). cond b (Some x) (holding_of number hs)) other
    ∙ held_at number hs place h (record {
      inside = omega (arith, at.inside);
      there = at.there;
      number_is = at.number_is;
      before = λ i d less. at.before (suc i) d (omega (arith, less));
    })

-- no holding has this number
pub not_held : (number : ℕ) (hs : List Holding) → ((i : ℕ) (d : Holding) → i < length hs → (get_or hs i d).number == number ≡ false)
    → holding_of number hs ≡ None
not_held number [] none = refl
not_held number (x ∷ hs) none =
    ap (λ (b : Bool). cond b (Some x) (holding_of number hs)) (none 0 x (omega arith))
    ∙ not_held number hs (λ i d less. none (suc i) d (omega (arith, less)))

-- the holding there, with another list
pub replaced : (number : ℕ) (hs : List Holding) (place : ℕ) (h : Holding) (cache : Cache) → IsAt number hs place h
    → set hs place (record { number = h.number; cache = cache }) ≡ with_cache number cache hs
replaced number [] place h cache at = absurd (omega (arith, at.inside))
replaced number (x ∷ hs) zero h cache at =
    let is : h ≡ x = at.there in
    let same : x.number == number ≡ true = (Decides-eqb x.number number).1 (ap (λ (y : Holding). y.number) (sym is) ∙ at.number_is) in
    let kept : ◌≡◌ {A = Holding} (record { number = h.number; cache = cache }) (record { number = number; cache = cache }) =
    ap (λ (n : ℕ). let y : Holding = record { number = n; cache = cache } in y) at.number_is in
    ap (λ (y : Holding). y ∷ hs) kept
    ∙ sym (ap (λ (b : Bool). cond b (record { number = number; cache = cache } ∷ hs) (x ∷ with_cache number cache hs)) same)
replaced number (x ∷ hs) (suc place) h cache at =
    let other : x.number == number ≡ false = at.before 0 x (omega arith) in
    ap (λ (l : List Holding). x ∷ l) (replaced number hs place h cache (record {
      inside = omega (arith, at.inside);
      there = at.there;
      number_is = at.number_is;
      before = λ i d less. at.before (suc i) d (omega (arith, less));
    }))
    ∙ sym (ap (λ (b : Bool). cond b (record { number = number; cache = cache } ∷ hs) (x ∷ with_cache number cache hs)) other)

-- the place of the first holding of this number
abbrev of_number : ℕ → Holding → Bool
of_number number h = h.number == number

pub at_place : (number : ℕ) (hs : List Holding) (place : ℕ) (h : Holding) → position (λ x. x.number == number) hs ≡ Some place
    → h ≡ get_or hs place h → IsAt number hs place h
at_place number hs place h is there = record {
  inside = (position-Some (of_number number) hs place h is).0;
  there = there;
  number_is = (Decides-eqb h.number number).0
      (subst (λ (y : Holding). y.number == number ≡ true) (sym there) (position-Some (of_number number) hs place h is).1);
  before = λ i d less. (position-Some (of_number number) hs place d is).2 i less;
}

-- the same, where the list is told in two ways
pub at_held : (number : ℕ) (items hs : List Holding) (place : ℕ) (h : Holding) → items ≡ hs
    → position (λ x. x.number == number) hs ≡ Some place → h ≡ get_or items place h
    → IsAt number hs place h
at_held number items hs place h same is there = at_place number hs place h is
    (subst (λ (l : List Holding). h ≡ get_or l place h) same there)

pub same_held : (items : List Holding) (place : ℕ) (x y : Holding) → place < length items → x ≡ get_or items place x
    → y ≡ get_or items place y → x ≡ y
same_held items place x y inside there too = there ∙ get_or_default items place x y inside ∙ sym too

pub inside_items : (number : ℕ) (items hs : List Holding) (place : ℕ) (h : Holding) → items ≡ hs → IsAt number hs place h
    → place < length items
inside_items number items hs place h same at = subst (λ (l : List Holding). place < length l) (sym same) at.inside

none_some : {X : Type 0} (x : X) → ◌≡◌ {A = Option X} (Some x) None → ⊥
none_some x e = cc

not_at : (number : ℕ) (hs : List Holding) → position (λ x. x.number == number) hs ≡ None → length hs ≤ position_or_len (of_number number) hs
not_at number hs is =
    let at : ℕ = position_or_len (of_number number) hs in
    elim (cases_lt at (length hs)) [
      | inl less ↦
          (let inside : nat_lt at (length hs) ≡ true = grind (arith, nat_tests, less) in
          absurd (none_some at (sym (ap (λ (b : Bool). cond b (Some at) None) inside) ∙ is)))
      | inr more ↦ more
    ]

-- there is none
pub at_none : (number : ℕ) (hs : List Holding) → position (λ x. x.number == number) hs ≡ None → holding_of number hs ≡ None
at_none number hs is = not_held number hs (λ i d less. fails_before_first (of_number number) hs i d
    (omega (arith, less, not_at number hs is)))

abbrev no_holding : Holding
no_holding = record { number = 0; cache = record { pairs = []; capacity = 0 } }

open_by : (number : ℕ) (hs : List Holding) (o : Option ℕ) → position (λ x. x.number == number) hs ≡ o
    → is_some o ≡ is_some (holding_of number hs)
open_by number hs None is = sym (ap (λ (h : Option Holding). is_some h) (at_none number hs is))
open_by number hs (Some place) is =
    let h : Holding = get_or hs place no_holding in
    let inside : place < length hs = (position-Some (of_number number) hs place no_holding is).0 in
    let there : h ≡ get_or hs place h = get_or_default hs place no_holding h inside in
    sym (ap (λ (x : Option Holding). is_some x) (held_at number hs place h (at_place number hs place h is there)))

-- so a session is open where its holding has a place
pub open_is : (number : ℕ) (hs : List Holding) (o : Option ℕ) → o ≡ position (λ x. x.number == number) hs
    → is_some o ≡ is_some (holding_of number hs)
open_is number hs o is = open_by number hs o (sym is)

-- a list that is renewed
pub same_cache : (new : Cache) (pairs : List (SeriesKey × Coef)) (capacity : ℕ) → new.pairs ≡ pairs → new.capacity ≡ capacity
    → new ≡ record { pairs = pairs; capacity = capacity }
same_cache new pairs capacity ps cap =
    ap₂ (λ (x : List (SeriesKey × Coef)) (n : ℕ). let c : Cache = record { pairs = x; capacity = n } in c) ps cap

-- keys in order are distinct
pub order_distinct : (es : List (Key × Coef)) → AreInOrder es → AreDistinct es
order_distinct [] order = λ i j d less within. absurd (omega (arith, within))
order_distinct (e ∷ es) order =
    AllPairs-cons (λ x y. x.0 ≢ y.0) e es
    (All-weaker (λ later. ComesBefore e.0 later.0) (λ later. e.0 ≢ later.0)
    (λ later before. λ same. not_itself later.0 (subst (λ (k : Key). ComesBefore k later.0) same before)) es order.0)
    (order_distinct es order.1)
