-- A range, one value more.
use Rattle.std.proofs.Common.{◌≡◌, ℤ, pos, ◌≤ℤ◌, zero, suc, List, [], ◌∷◌, ◌++◌, length, get_or, Option, None, Some, subst, sym, ap, refl}
use Rattle.std.proofs.Common.{arith, ◌⊎◌, inl, inr}
use Rattle.std.proofs.lemmas.Int.{ints}
use Rattle.std.specs.Prelude.{All, Contains, unwrap_or}
use Rattle.std.specs.Int.{int_min, int_max}
use Rattle.std.proofs.lemmas.List.Elements.{All-append, Contains-append_left, Contains-append_right}
use Rattle.plain_chart.specs.declared.value_range.ValueRange.{ValueRange}
use Rattle.plain_chart.specs.Samples.{Spans, SpansSoFar, IsRange, values_of}
use Rattle.std.specs.Option.{option_to_list}
use Rattle.plain_chart.specs.declared.sample.Sample.{Sample}

last : (vs : List ℤ) (v : ℤ) → Contains (vs ++ v ∷ []) v
last vs v = Contains-append_right vs (v ∷ []) v (0, (omega arith), refl)

alone : (P : ℤ → Type 0) (v : ℤ) → P v → All P (v ∷ [])
alone P v h zero d inside = h
alone P v h (suc k) d inside = absurd (omega (arith, inside))

weaker : (P Q : ℤ → Type 0) (vs : List ℤ) → ((w : ℤ) → P w → Q w) → All P vs → All Q vs
weaker P Q vs f h k d inside = f (get_or vs k d) (h k d inside)

min_is : (a b : ℤ) → (int_min a b ≡ a) ⊎ (int_min a b ≡ b)
min_is a b = grind (arith, ints)

max_is : (a b : ℤ) → (int_max a b ≡ a) ⊎ (int_max a b ≡ b)
max_is a b = grind (arith, ints)

min_left : (a b w : ℤ) → a ≤ℤ w → int_min a b ≤ℤ w
min_left a b w h = grind (arith, ints)

min_right : (a b : ℤ) → int_min a b ≤ℤ b
min_right a b = grind (arith, ints)

max_left : (a b w : ℤ) → w ≤ℤ a → w ≤ℤ int_max a b
max_left a b w h = grind (arith, ints)

max_right : (a b : ℤ) → b ≤ℤ int_max a b
max_right a b = grind (arith, ints)

either_in : (vs : List ℤ) (v w m : ℤ) → Contains vs w → (m ≡ w) ⊎ (m ≡ v) → Contains (vs ++ v ∷ []) m
either_in vs v w m old is =
    let P : ℤ → Type 0 = λ z. Contains (vs ++ v ∷ []) z in
    elim is [ inl left ↦ subst P (sym left) (Contains-append_left vs (v ∷ []) w old) | inr right ↦ subst P (sym right) (last vs v) ]

pub spans_more : (vs : List ℤ) (v : ℤ) (r j : ValueRange) → j.lo ≡ int_min r.lo v → j.hi ≡ int_max r.hi v → Spans vs r
    → Spans (vs ++ v ∷ []) j
spans_more vs v r j low high s =
    let L : ℤ → Type 0 = λ z. Contains (vs ++ v ∷ []) z in
    let B : ℤ → Type 0 = λ z. All (λ w. z ≤ℤ w) (vs ++ v ∷ []) in
    let A : ℤ → Type 0 = λ z. All (λ w. w ≤ℤ z) (vs ++ v ∷ []) in
    record {
      least = subst L (sym low) (either_in vs v r.lo (int_min r.lo v) s.least (min_is r.lo v));
      none_below = subst B (sym low) (All-append (λ w. int_min r.lo v ≤ℤ w) vs (v ∷ [])
          (weaker (λ w. r.lo ≤ℤ w) (λ w. int_min r.lo v ≤ℤ w) vs (λ w h. min_left r.lo v w h) s.none_below)
          (alone (λ w. int_min r.lo v ≤ℤ w) v (min_right r.lo v)));
      greatest = subst L (sym high) (either_in vs v r.hi (int_max r.hi v) s.greatest (max_is r.hi v));
      none_above = subst A (sym high) (All-append (λ w. w ≤ℤ int_max r.hi v) vs (v ∷ [])
          (weaker (λ w. w ≤ℤ r.hi) (λ w. w ≤ℤ int_max r.hi v) vs (λ w h. max_left r.hi v w h) s.none_above)
          (alone (λ w. w ≤ℤ int_max r.hi v) v (max_right r.hi v)));
    }

-- the range of the values so far is their range, and a range is in order
pub range_is : (vs : List ℤ) (r : Option ValueRange) (zero : ValueRange) → zero.lo ≡ pos 0 → zero.hi ≡ pos 0 → SpansSoFar r vs
    → IsRange vs (unwrap_or r zero)
range_is [] None none low high so = (low, high)
range_is [] (Some r) none low high so = absurd (omega (arith, so.least.1))
range_is (v ∷ vs) None none low high so = absurd (omega (arith, ap length so))
range_is (v ∷ vs) (Some r) none low high so = so

pub range_order : (vs : List ℤ) (r : ValueRange) → IsRange vs r → r.lo ≤ℤ r.hi
range_order [] r is = omega (arith, ints, is.0, is.1)
range_order (v ∷ vs) r is =
    let low : r.lo ≤ℤ v = is.none_below 0 v (omega arith) in
    let high : v ≤ℤ r.hi = is.none_above 0 v (omega arith) in
    omega (arith, ints, low, high)

-- what holds of the values and of 0 holds of the range
pub range_holds : (P : ℤ → Type 0) (vs : List ℤ) (r : ValueRange) → IsRange vs r → P (pos 0) → All P vs → P r.lo × P r.hi
range_holds P [] r is none all = (subst P (sym is.0) none, subst P (sym is.1) none)
range_holds P (v ∷ vs) r is none all =
    (subst P is.least.2 (all is.least.0 r.lo is.least.1), subst P is.greatest.2 (all is.greatest.0 r.hi is.greatest.1))

-- a sample more, where there is one
pub so_far_sample : (r : Option ValueRange) (o : Option Sample) (range : ValueRange) (s : Sample) (j : ValueRange) → r ≡ Some range
    → o ≡ Some s → j.lo ≡ int_min range.lo s.value → j.hi ≡ int_max range.hi s.value → (vs : List ℤ) → SpansSoFar r vs
    → Spans (vs ++ values_of (option_to_list o)) j
so_far_sample r o range s j r_is o_is low high vs so =
    let R : Option ValueRange → Type 0 = λ x. SpansSoFar x vs in
    let O : Option Sample → Type 0 = λ x. Spans (vs ++ values_of (option_to_list x)) j in
    subst O (sym o_is) (spans_more vs s.value range j low high (subst R r_is so))
