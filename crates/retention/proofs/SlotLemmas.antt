-- Slots that are cleared, and ranges of them that hold a value.
use Rattle.std.proofs.Common.{◌≡◌, ℕ, ℤ, zero, suc, ◌+◌, ◌-◌, ◌<◌, ◌≤◌, ◌⊎◌, true, false, cond, ◌||◌, List, [], ◌∷◌, length, take, drop}
use Rattle.std.proofs.Common.{get_or, Option, None, Some, refl, sym, ap, ◌∙◌, arith, inl, inr}
use Rattle.std.specs.Option.{is_some}
use Rattle.std.specs.List.{list_any, slice_get}
use Rattle.std.proofs.lemmas.Bool.{cases_lt}
use Rattle.std.proofs.lemmas.List.{places, length-append, length-take, length-drop, length-replicate}
use Rattle.std.proofs.lemmas.List.Sums.{sum_by-cons}
use Rattle.std.proofs.lemmas.Option.{slice_get_within, slice_get-get_or, slice_get_past, same_Some}
use Rattle.om3_coeff.specs.declared.span.Span.{Span}
use Rattle.om3_coeff.specs.Spans.{Holds, IsClear, IsSpanOf, hull, span_of_slot, span_of, span_over}
use Rattle.om3_coeff.specs.Walks.{IsFirstStored}
use Rattle.om3_coeff.proofs.ExtremeLemmas.{span_over_is, none-clear, clear-none}
use Rattle.series_book.specs.Edits.{cleared}
use Rattle.retention.specs.Sweeps.{holds_value, values_in}

-- slots from first on and below end lose their values, and the others stay
pub record IsCleared (old new : List (Option ℤ)) (first end : ℕ) : Type 0 where
  pub length_is : length new ≡ length old
  pub out : (i : ℕ) → (i < first) ⊎ (end ≤ i) → slice_get new i ≡ slice_get old i
  pub gone : (i : ℕ) (v : ℤ) → first ≤ i → i < end → Holds new i v → ⊥

hull_some : (a b : Option Span) → is_some (hull a b) ≡ (is_some a || is_some b)
hull_some None None = refl
hull_some None (Some r) = refl
hull_some (Some l) None = refl
hull_some (Some l) (Some r) = refl

slot_some : (x : Option ℤ) → is_some (span_of_slot x) ≡ is_some x
slot_some None = refl
slot_some (Some v) = refl

any_span : (xs : List (Option ℤ)) → list_any is_some xs ≡ is_some (span_of xs)
any_span [] = refl
any_span (x ∷ xs) = ap (λ b. is_some x || b) (any_span xs) ∙ ap (λ b. b || is_some (span_of xs)) (sym (slot_some x))
    ∙ sym (hull_some (span_of_slot x) (span_of xs))

holds_span : (slots : List (Option ℤ)) (a b : ℕ) → holds_value slots a b ≡ is_some (span_over slots a b)
unfolding holds_value span_over
holds_span slots a b = any_span (take (b - a) (drop a slots))

-- a range without a value
pub holds_none : (slots : List (Option ℤ)) (a b : ℕ) → IsClear slots a b → holds_value slots a b ≡ false
holds_none slots a b clear = holds_span slots a b ∙ ap (λ (s : Option Span). is_some s) (clear-none slots a b clear)

not_none : (s : Option Span) → (s ≡ None → ⊥) → is_some s ≡ true
not_none None some = absurd (some refl)
not_none (Some s) some = refl

-- a range with one
pub holds_one : (slots : List (Option ℤ)) (a b i : ℕ) (v : ℤ) → a ≤ i → i < b → Holds slots i v → holds_value slots a b ≡ true
holds_one slots a b i v from to holds =
    holds_span slots a b ∙ not_none (span_over slots a b) (λ none. none-clear slots a b none i v from to holds)

-- ranges that hold the same
pub holds_same : (old new : List (Option ℤ)) (a b : ℕ) → ((i : ℕ) → a ≤ i → i < b → slice_get new i ≡ slice_get old i)
    → holds_value new a b ≡ holds_value old a b
holds_same old new a b same = by (span_over old a b) (span_over_is old a b)
  where
    by : (s : Option Span) → IsSpanOf old a b s → holds_value new a b ≡ holds_value old a b
    by None clear = holds_none new a b (λ i v from to holds. clear i v from to (sym (same i from to) ∙ holds))
        ∙ sym (holds_none old a b clear)
    by (Some s) is =
        holds_one new a b is.least.slot s.min is.least.low is.least.high (same is.least.slot is.least.low is.least.high ∙ is.least.holds)
        ∙ sym (holds_one old a b is.least.slot s.min is.least.low is.least.high is.least.holds)

get_front : (slots : List (Option ℤ)) (place count i : ℕ) → place + count ≤ length slots → i < place
    → get_or (cleared slots place count) i None ≡ get_or slots i None
unfolding cleared
get_front slots place count i room before = grind (arith, places)

get_within : (slots : List (Option ℤ)) (place count i : ℕ) → place + count ≤ length slots → place ≤ i → i < place + count
    → get_or (cleared slots place count) i None ≡ None
unfolding cleared
get_within slots place count i room from to = grind (arith, places)

get_behind : (slots : List (Option ℤ)) (place count i : ℕ) → place + count ≤ length slots → place + count ≤ i
    → get_or (cleared slots place count) i None ≡ get_or slots i None
unfolding cleared
get_behind slots place count i room behind = grind (arith, places)

pub length_cleared : (slots : List (Option ℤ)) (place count : ℕ) → place + count ≤ length slots
    → length (cleared slots place count) ≡ length slots
unfolding cleared
length_cleared slots place count room = omega (
  arith,
  room,
  length-append {A = Option ℤ},
  length-take {A = Option ℤ},
  length-drop {A = Option ℤ},
  length-replicate {A = Option ℤ},
)

same_get : (old new : List (Option ℤ)) (i : ℕ) → length new ≡ length old → get_or new i None ≡ get_or old i None
    → slice_get new i ≡ slice_get old i
same_get old new i long same = elim (cases_lt i (length old)) [
  | inl within ↦ slice_get-get_or new i None (omega (arith, long, within)) ∙ ap (λ x. Some x) same
      ∙ sym (slice_get-get_or old i None within)
  | inr past ↦ slice_get_past new i (omega (arith, long, past)) ∙ sym (slice_get_past old i past)
]

-- what a clear does to slots
pub cleared_is : (slots : List (Option ℤ)) (first end : ℕ) → first ≤ end → end ≤ length slots
    → IsCleared slots (cleared slots first (end - first)) first end
cleared_is slots first end low room =
    let list : List (Option ℤ) = cleared slots first (end - first) in
    let long : length list ≡ length slots = length_cleared slots first (end - first) (omega (arith, low, room)) in
    record {
      length_is = long;
      out = λ i where_is. same_get slots list i long (elim where_is [
        | inl before ↦ get_front slots first (end - first) i (omega (arith, low, room)) before
        | inr behind ↦ get_behind slots first (end - first) i (omega (arith, low, room)) (omega (arith, low, behind))
      ]);
      gone = λ i v from to holds.
          let none : get_or list i None ≡ None = get_within slots first (end - first) i (omega (arith, low, room)) from
          (omega (arith, low, to)) in
          let some : Some (get_or list i None) ≡ Some (Some v) = sym (slice_get-get_or list i None (slice_get_within list i (Some v) holds))
          ∙ holds in
          cc;
    }

-- clears take values away
count_more : (x : Option ℤ) (xs : List (Option ℤ)) → values_in (x ∷ xs) ≡ cond (is_some x) 1 0 + values_in xs
count_more x xs = sum_by-cons (λ (y : Option ℤ). cond (is_some y) 1 0) x xs

one_less : (x y : Option ℤ) → ((v : ℤ) → y ≡ Some v → (w : ℤ) × (x ≡ Some w)) → cond (is_some y) 1 0 ≤ cond (is_some x) 1 0
one_less x None from = omega arith
one_less None (Some v) from = let is = from v refl in cc
one_less (Some w) (Some v) from = omega arith

abbrev NoNew : List (Option ℤ) → List (Option ℤ) → Type 0
NoNew old new = (i : ℕ) (v : ℤ) → Holds new i v → (w : ℤ) × Holds old i w

first_from : (x y : Option ℤ) (xs ys : List (Option ℤ)) → NoNew (x ∷ xs) (y ∷ ys) → (v : ℤ) → y ≡ Some v → (w : ℤ) × (x ≡ Some w)
first_from x y xs ys from v is = let h = from 0 v (ap (λ z. Some z) is) in (h.0, same_Some x (Some h.0) h.1)

fewer : (old new : List (Option ℤ)) → length new ≡ length old → NoNew old new → values_in new ≤ values_in old
fewer [] [] long from = omega arith
fewer (x ∷ xs) [] long from = absurd (omega (arith, long))
fewer [] (y ∷ ys) long from = absurd (omega (arith, long))
fewer (x ∷ xs) (y ∷ ys) long from =
    omega (
      arith,
      count_more x xs,
      count_more y ys,
      one_less x y (first_from x y xs ys from),
      fewer xs ys (omega (arith, long)) (λ i v h. from (suc i) v h),
    )

one_gone : (x y : Option ℤ) (v : ℤ) → x ≡ Some v → ((w : ℤ) → y ≡ Some w → ⊥) → cond (is_some y) 1 0 < cond (is_some x) 1 0
one_gone None y v is none = cc
one_gone (Some u) None v is none = omega arith
one_gone (Some u) (Some w) v is none = absurd (none w refl)

one_fewer : (old new : List (Option ℤ)) (k : ℕ) (v : ℤ) → length new ≡ length old → NoNew old new → Holds old k v
    → ((w : ℤ) → Holds new k w → ⊥) → values_in new < values_in old
one_fewer [] [] k v long from held gone = cc
one_fewer (x ∷ xs) [] k v long from held gone = absurd (omega (arith, long))
one_fewer [] (y ∷ ys) k v long from held gone = absurd (omega (arith, long))
one_fewer (x ∷ xs) (y ∷ ys) zero v long from held gone =
    omega (
      arith,
      count_more x xs,
      count_more y ys,
      one_gone x y v (same_Some x (Some v) held) (λ w is. gone w (ap (λ z. Some z) is)),
      fewer xs ys (omega (arith, long)) (λ i v h. from (suc i) v h),
    )
one_fewer (x ∷ xs) (y ∷ ys) (suc k) v long from held gone =
    omega (
      arith,
      count_more x xs,
      count_more y ys,
      one_less x y (first_from x y xs ys from),
      one_fewer xs ys k v (omega (arith, long)) (λ i v h. from (suc i) v h) held gone,
    )

-- nothing new stands where slots were cleared
pub no_new : (old new : List (Option ℤ)) (first end : ℕ) → IsCleared old new first end → (i : ℕ) (v : ℤ) → Holds new i v → Holds old i v
no_new old new first end is i v h = elim (cases_lt i first) [
  | inl before ↦ sym (is.out i (inl before)) ∙ h
  | inr from ↦ elim (cases_lt i end) [
    | inl to ↦ absurd (is.gone i v from to h)
    | inr behind ↦ sym (is.out i (inr behind)) ∙ h
  ]
]

pub values_fall : (old new : List (Option ℤ)) (first end i : ℕ) (v : ℤ) → IsCleared old new first end → first ≤ i → i < end → Holds old i v
    → values_in new < values_in old
values_fall old new first end i v is from to held =
    one_fewer old new i v is.length_is (λ j w h. (w, no_new old new first end is j w h)) held (λ w h. is.gone i w from to h)

-- the first stored slot of a range
next_first : (slots : List (Option ℤ)) (a b : ℕ) (x : Option ℤ) → a < b → slice_get slots a ≡ Some x
    → (o : Option (ℕ × ℤ)) × IsFirstStored slots (suc a) b o → (o : Option (ℕ × ℤ)) × IsFirstStored slots a b o
next_first slots a b (Some v) low there later = (Some (a, v), (omega arith, low, there, λ i w from to h. absurd (omega (arith, from, to))))
next_first slots a b None low there (None, clear) = (
  None,
  λ i v from to h. elim (cases_lt a i) [
    | inl past ↦ clear i v (omega (arith, past)) to h
    | inr here ↦ let at : i ≡ a = omega (arith, from, here) in
        let same : Some None ≡ Some (Some v) = sym there ∙ ap (slice_get slots) (sym at) ∙ h in cc
  ],
)
next_first slots a b None low there (Some p, found) = (
  Some p,
  (
    omega (arith, found.0),
    found.1,
    found.2,
    λ i v from to h. elim (cases_lt a i) [
      | inl past ↦ found.3 i v (omega (arith, past)) to h
      | inr here ↦ let at : i ≡ a = omega (arith, from, here) in
          let same : Some None ≡ Some (Some v) = sym there ∙ ap (slice_get slots) (sym at) ∙ h in cc
    ],
  ),
)

first_from_on : (slots : List (Option ℤ)) (n a b : ℕ) → b ≡ a + n → b ≤ length slots → (o : Option (ℕ × ℤ)) × IsFirstStored slots a b o
first_from_on slots zero a b is room = (None, λ i v from to h. absurd (omega (arith, is, from, to)))
first_from_on slots (suc n) a b is room =
    next_first slots a b (get_or slots a None) (omega (arith, is)) (slice_get-get_or slots a None (omega (arith, is, room)))
    (first_from_on slots n (suc a) b (omega (arith, is)) room)

pub first_stored : (slots : List (Option ℤ)) (b : ℕ) → b ≤ length slots → (o : Option (ℕ × ℤ)) × IsFirstStored slots 0 b o
first_stored slots b room = first_from_on slots b 0 b (omega arith) room
