use Rattle.std.proofs.Common.{ℕ, zero, suc, ℤ, ◌≡◌, ◌+◌, ◌-◌, ◌<◌, ◌≤◌, inl, inr, List, [], ◌∷◌, ◌++◌, take, drop, length, refl, sym, ◌∙◌}
use Rattle.std.proofs.Common.{ap, ap₂, arith}
use Rattle.std.proofs.lemmas.Int.{ints}
use Rattle.std.proofs.lemmas.Bool.{cases_lt}
use Rattle.std.proofs.lemmas.List.{drop-drop, drop_all, take_all, take_min, length-drop}
use Rattle.std.proofs.lemmas.Option.{same_Some}
use Rattle.std.specs.Prelude.{Option, Some, None, slice_get, min}
use Rattle.std.specs.Int.{int_min, int_max}
use Rattle.om3_coeff.specs.declared.span.Span.{Span}
use Rattle.om3_coeff.specs.Spans.{hull, span_of_slot, span_of, span_over}

min_assoc : (a b c : ℤ) → int_min (int_min a b) c ≡ int_min a (int_min b c)
min_assoc a b c = grind (arith, ints)

max_assoc : (a b c : ℤ) → int_max (int_max a b) c ≡ int_max a (int_max b c)
max_assoc a b c = grind (arith, ints)

-- three ranges in a row have one span
pub hull_assoc : (a b c : Option Span) → hull (hull a b) c ≡ hull a (hull b c)
hull_assoc None b c = refl
hull_assoc (Some a) None c = refl
hull_assoc (Some a) (Some b) None = refl
hull_assoc (Some a) (Some b) (Some c) =
    ap₂ (λ (min max : ℤ). Some (let s : Span = record { min = min; max = max } in s)) (min_assoc a.min b.min c.min)
    (max_assoc a.max b.max c.max)

pub hull-none : (a : Option Span) → hull a None ≡ a
hull-none None = refl
hull-none (Some a) = refl

pub span_of-append : (xs ys : List (Option ℤ)) → span_of (xs ++ ys) ≡ hull (span_of xs) (span_of ys)
span_of-append [] ys = refl
span_of-append (x ∷ xs) ys =
    ap (hull (span_of_slot x)) (span_of-append xs ys) ∙ sym (hull_assoc (span_of_slot x) (span_of xs) (span_of ys))

-- one slot more
pub span_of-more : (xs : List (Option ℤ)) (x : Option ℤ) → span_of (xs ++ x ∷ []) ≡ hull (span_of xs) (span_of_slot x)
span_of-more xs x = span_of-append xs (x ∷ []) ∙ ap (hull (span_of xs)) (hull-none (span_of_slot x))

take-add : (i j : ℕ) (xs : List (Option ℤ)) → take (i + j) xs ≡ take i xs ++ take j (drop i xs)
take-add zero j xs = ap (λ n. take n xs) (omega arith)
take-add (suc i) j [] = take_all (suc i + j) [] (omega arith) ∙ sym (take_all j [] (omega arith))
take-add (suc i) j (x ∷ xs) =
    let first : suc i + j ≡ suc (i + j) = omega arith in
    ap (λ n. take n (x ∷ xs)) first ∙ ap (λ ys. x ∷ ys) (take-add i j xs)

-- the spans of two ranges make that of both
pub span_over-both : (list : List (Option ℤ)) (a m b : ℕ) → a ≤ m → m ≤ b
    → span_over list a b ≡ hull (span_over list a m) (span_over list m b)
unfolding span_over
span_over-both list a m b below above =
    let parts : b - a ≡ (m - a) + (b - m) = omega arith in
    let there : a + (m - a) ≡ m = omega arith in
    ap (λ n. span_of (take n (drop a list))) parts
    ∙ ap span_of (take-add (m - a) (b - m) (drop a list))
    ∙ span_of-append (take (m - a) (drop a list)) (take (b - m) (drop (m - a) (drop a list)))
    ∙ ap (λ xs. hull (span_of (take (m - a) (drop a list))) (span_of (take (b - m) xs)))
    (drop-drop (m - a) a list ∙ ap (λ n. drop n list) there)

-- no slots have no span
pub span_over-none : (list : List (Option ℤ)) (a b : ℕ) → b ≤ a → span_over list a b ≡ None
unfolding span_over
span_over-none list a b empty =
    let none : b - a ≡ 0 = omega arith in ap (λ n. span_of (take n (drop a list))) none

-- all slots
pub span_over-all : (list : List (Option ℤ)) (b : ℕ) → length list ≤ b → span_over list 0 b ≡ span_of list
unfolding span_over
span_over-all list b long =
    let whole : b - 0 ≡ b = omega arith in
    ap (λ n. span_of (take n list)) whole ∙ ap span_of (take_all b list long)

-- a range by the places that a list has
pub span_within : (list : List (Option ℤ)) (a b : ℕ)
    → span_of (take (min b (length list) - min a (length list)) (drop (min a (length list)) list)) ≡ span_over list a b
unfolding span_over
span_within list a b =
    elim (cases_lt (length list) a) [
      | inl past ↦
          let none : min b (length list) - min a (length list) ≡ 0 = omega arith in
          ap (λ n. span_of (take n (drop (min a (length list)) list))) none
          ∙ sym (ap (λ xs. span_of xs) (ap (take (b - a)) (drop_all a list (omega arith)) ∙ take_all (b - a) [] (omega arith)))
      | inr here ↦
          let from : min a (length list) ≡ a = omega arith in
          let left : length (drop a list) ≡ length list - a = length-drop a list in
          let to : min b (length list) - a ≡ min (b - a) (length (drop a list)) = omega arith in
          ap (λ n. span_of (take (min b (length list) - n) (drop n list))) from
          ∙ ap (λ n. span_of (take n (drop a list))) to
          ∙ ap span_of (take_min (b - a) (drop a list))
    ]

drop_at : (list : List (Option ℤ)) (i : ℕ) (x : Option ℤ) → slice_get list i ≡ Some x → drop i list ≡ x ∷ drop (suc i) list
drop_at [] i x h = absurd (cc)
drop_at (y ∷ list) zero x h = ap (λ y. y ∷ list) (same_Some y x h)
drop_at (y ∷ list) (suc i) x h = drop_at list i x h

-- the span of one slot
pub span_at : (list : List (Option ℤ)) (i : ℕ) (x : Option ℤ) → slice_get list i ≡ Some x → span_over list i (i + 1) ≡ span_of_slot x
unfolding span_over
span_at list i x h =
    let one : i + 1 - i ≡ 1 = omega arith in
    ap₂ (λ n xs. span_of (take n xs)) one (drop_at list i x h) ∙ hull-none (span_of_slot x)

pub get_some : (list : List (Option ℤ)) (i : ℕ) → i < length list → (x : Option ℤ) × (slice_get list i ≡ Some x)
get_some [] i h = absurd (omega arith)
get_some (y ∷ list) zero h = (y, refl)
get_some (y ∷ list) (suc i) h = get_some list i (omega arith)
