use Rattle.std.proofs.Common.{ℕ, zero, suc, ℤ, ◌≡◌, ◌+◌, ◌-◌, ◌<◌, ◌≤◌, ◌≤ℤ◌, List, [], ◌∷◌, ◌++◌, take, drop, refl, sym, ◌∙◌, ap, ap₂}
use Rattle.std.proofs.Common.{subst, arith}
use Rattle.std.proofs.lemmas.Int.{ints, clamps, by_lt_z}
use Rattle.std.proofs.lemmas.Option.{same_Some}
use Rattle.std.specs.Prelude.{Option, Some, None, IfSome, slice_get}
use Rattle.std.specs.Int.{int_min, int_max}
use Rattle.om3_coeff.specs.declared.span.Span.{Span}
use Rattle.om3_coeff.specs.Spans.{AreSlots, IsProperIfAny, Holds, IsClear, IsStored, IsSpanOf, hull, span_of_slot, span_of, span_over}
use Rattle.whole_number.specs.Range.{IsValue}

-- s has the least and the greatest value of a whole list
record IsWhole (list : List (Option ℤ)) (s : Span) : Type 0 where
  least_at : ℕ
  least : Holds list least_at s.min
  greatest_at : ℕ
  greatest : Holds list greatest_at s.max
  above : (i : ℕ) (v : ℤ) → Holds list i v → s.min ≤ℤ v
  below : (i : ℕ) (v : ℤ) → Holds list i v → v ≤ℤ s.max

abbrev IsWholeIfAny : List (Option ℤ) → Option Span → Type 0
IsWholeIfAny list None = (i : ℕ) (v : ℤ) → Holds list i v → ⊥
IsWholeIfAny list (Some s) = IsWhole list s

-- what holds of the first slot and of all others
each_slot : (x : Option ℤ) (xs : List (Option ℤ)) (P : ℤ → Type 0) → ((v : ℤ) → x ≡ Some v → P v) → ((i : ℕ) (v : ℤ) → Holds xs i v → P v)
    → (i : ℕ) (v : ℤ) → Holds (x ∷ xs) i v → P v
each_slot x xs P here there zero v h = here v (same_Some x (Some v) h)
each_slot x xs P here there (suc i) v h = there i v h

none_more : (x : Option ℤ) (xs : List (Option ℤ)) (s : Option Span) → IsWholeIfAny xs s → IsWholeIfAny (x ∷ xs) (hull (span_of_slot x) s)
none_more None xs None none = each_slot None xs (λ v. ⊥) (λ v e. cc) none
none_more None xs (Some s) whole = record {
  least_at = suc whole.least_at;
  least = whole.least;
  greatest_at = suc whole.greatest_at;
  greatest = whole.greatest;
  above = each_slot None xs (λ v. s.min ≤ℤ v) (λ v e. absurd (cc)) whole.above;
  below = each_slot None xs (λ v. v ≤ℤ s.max) (λ v e. absurd (cc)) whole.below;
}
none_more (Some u) xs None none = record {
  least_at = 0;
  least = refl;
  greatest_at = 0;
  greatest = refl;
  above = each_slot (Some u) xs (λ v. u ≤ℤ v) (λ v e. omega (arith, ints, same_Some u v e)) (λ i v h. absurd (none i v h));
  below = each_slot (Some u) xs (λ v. v ≤ℤ u) (λ v e. omega (arith, ints, same_Some u v e)) (λ i v h. absurd (none i v h));
}
none_more (Some u) xs (Some s) whole =
    let stored_least : (i : ℕ) × Holds (Some u ∷ xs) i (int_min u s.min) =
    by_lt_z s.min u
    (λ more. (suc whole.least_at, whole.least ∙ ap (λ v. Some (Some v)) (omega (arith, ints, clamps, more))))
    (λ less. (0, ap (λ v. Some (Some v)) (omega (arith, ints, clamps, less)))) in
    let stored_greatest : (i : ℕ) × Holds (Some u ∷ xs) i (int_max u s.max) =
    by_lt_z u s.max
    (λ more. (suc whole.greatest_at, whole.greatest ∙ ap (λ v. Some (Some v)) (omega (arith, ints, clamps, more))))
    (λ less. (0, ap (λ v. Some (Some v)) (omega (arith, ints, clamps, less)))) in
    record {
      least_at = stored_least.0;
      least = stored_least.1;
      greatest_at = stored_greatest.0;
      greatest = stored_greatest.1;
      above = each_slot (Some u) xs (λ v. int_min u s.min ≤ℤ v) (λ v e. omega (arith, ints, clamps, same_Some u v e))
          (λ i v h. omega (arith, ints, clamps, whole.above i v h));
      below = each_slot (Some u) xs (λ v. v ≤ℤ int_max u s.max) (λ v e. omega (arith, ints, clamps, same_Some u v e))
          (λ i v h. omega (arith, ints, clamps, whole.below i v h));
    }

whole_is : (list : List (Option ℤ)) → IsWholeIfAny list (span_of list)
whole_is [] = λ i v h. cc
whole_is (x ∷ xs) = none_more x xs (span_of xs) (whole_is xs)

-- the slots of a part of a list
get_drop : (a j : ℕ) (list : List (Option ℤ)) → slice_get (drop a list) j ≡ slice_get list (a + j)
get_drop zero j list = ap (slice_get list) (omega arith)
get_drop (suc a) j [] = refl
get_drop (suc a) j (x ∷ xs) =
    let step : suc (a + j) ≡ suc a + j = omega arith in get_drop a j xs ∙ ap (slice_get (x ∷ xs)) step

get_take : (n j : ℕ) (list : List (Option ℤ)) → j < n → slice_get (take n list) j ≡ slice_get list j
get_take zero j list h = absurd (omega arith)
get_take (suc n) j [] h = refl
get_take (suc n) zero (x ∷ xs) h = refl
get_take (suc n) (suc j) (x ∷ xs) h = get_take n j xs (omega arith)

length_take : (n j : ℕ) (list : List (Option ℤ)) (v : ℤ) → Holds (take n list) j v → j < n
length_take zero j list v h = absurd (cc)
length_take (suc n) j [] v h = absurd (cc)
length_take (suc n) zero (x ∷ xs) v h = omega arith
length_take (suc n) (suc j) (x ∷ xs) v h = omega (arith, length_take n j xs v h)

-- slot i of the list is slot i - a of the range
into_range : (list : List (Option ℤ)) (a b i : ℕ) (v : ℤ) → a ≤ i → i < b → Holds list i v → Holds (take (b - a) (drop a list)) (i - a) v
into_range list a b i v from to h =
    let there : a + (i - a) ≡ i = omega arith in
    get_take (b - a) (i - a) (drop a list) (omega arith) ∙ get_drop a (i - a) list ∙ ap (slice_get list) there ∙ h

out_of_range : (list : List (Option ℤ)) (a b j : ℕ) (v : ℤ) → Holds (take (b - a) (drop a list)) j v → IsStored list a b v
out_of_range list a b j v h =
    let short : j < b - a = length_take (b - a) j (drop a list) v h in record {
      slot = a + j;
      low = omega arith;
      high = omega arith;
      holds = sym (get_drop a j list) ∙ sym (get_take (b - a) j (drop a list) short) ∙ h;
    }

to_range : (list : List (Option ℤ)) (a b : ℕ) (s : Option Span) → IsWholeIfAny (take (b - a) (drop a list)) s → IsSpanOf list a b s
to_range list a b None none = λ i v from to h. none (i - a) v (into_range list a b i v from to h)
to_range list a b (Some s) whole = record {
  least = out_of_range list a b whole.least_at s.min whole.least;
  greatest = out_of_range list a b whole.greatest_at s.max whole.greatest;
  above = λ i v from to h. whole.above (i - a) v (into_range list a b i v from to h);
  below = λ i v from to h. whole.below (i - a) v (into_range list a b i v from to h);
}

-- the span of a range is its least and its greatest stored value
pub span_over_is : (list : List (Option ℤ)) (a b : ℕ) → IsSpanOf list a b (span_over list a b)
unfolding span_over
span_over_is list a b = to_range list a b (span_of (take (b - a) (drop a list))) (whole_is (take (b - a) (drop a list)))

-- there is one
pub one_span : (list : List (Option ℤ)) (a b : ℕ) (s t : Option Span) → IsSpanOf list a b s → IsSpanOf list a b t → s ≡ t
one_span list a b None None h k = refl
one_span list a b None (Some t) h k = absurd (h k.least.slot t.min k.least.low k.least.high k.least.holds)
one_span list a b (Some s) None h k = absurd (k h.least.slot s.min h.least.low h.least.high h.least.holds)
one_span list a b (Some s) (Some t) h k =
    let least : s.min ≡ t.min =
    omega (
      arith,
      ints,
      h.above k.least.slot t.min k.least.low k.least.high k.least.holds,
      k.above h.least.slot s.min h.least.low h.least.high h.least.holds,
    ) in
    let greatest : s.max ≡ t.max =
    omega (
      arith,
      ints,
      h.below k.greatest.slot t.max k.greatest.low k.greatest.high k.greatest.holds,
      k.below h.greatest.slot s.max h.greatest.low h.greatest.high h.greatest.holds,
    ) in
    ap₂ (λ (min max : ℤ). Some (let r : Span = record { min = min; max = max } in r)) least greatest

proper_if : (list : List (Option ℤ)) (a b : ℕ) (s : Option Span) → AreSlots list → IsSpanOf list a b s → IsProperIfAny s
proper_if list a b None values h = tt
proper_if list a b (Some s) values h = record {
  ordered = h.below h.least.slot s.min h.least.low h.least.high h.least.holds;
  low = values h.least.slot s.min h.least.holds;
  high = values h.greatest.slot s.max h.greatest.holds;
}

-- the span of values that slots can hold is ordered and in range
pub span_over-proper : (list : List (Option ℤ)) (a b : ℕ) → AreSlots list → IsProperIfAny (span_over list a b)
span_over-proper list a b values = proper_if list a b (span_over list a b) values (span_over_is list a b)

-- a range with no span holds nothing, and one that holds nothing has none
pub none-clear : (list : List (Option ℤ)) (a b : ℕ) → span_over list a b ≡ None → IsClear list a b
none-clear list a b none =
    let P : Option Span → Type 0 = λ s. IsSpanOf list a b s in subst P none (span_over_is list a b)

pub clear-none : (list : List (Option ℤ)) (a b : ℕ) → IsClear list a b → span_over list a b ≡ None
clear-none list a b clear = one_span list a b (span_over list a b) None (span_over_is list a b) clear

-- one slot more
pub slots-push : (list : List (Option ℤ)) (x : Option ℤ) → AreSlots list → IfSome x IsValue → AreSlots (list ++ x ∷ [])
slots-push [] x slots value = each_slot x [] IsValue (λ v e. let P : Option ℤ → Type 0 = λ x. IfSome x IsValue in
    subst P e value) (λ i v h. absurd (cc))
slots-push (y ∷ list) x slots value =
    each_slot y (list ++ x ∷ []) IsValue (λ v e. slots 0 v (ap (λ y. Some y) e)) (slots-push list x (λ i v h. slots (suc i) v h) value)
