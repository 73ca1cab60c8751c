-- The order of coefficients and of rows.
use Rattle.std.proofs.Common.{◌≡◌, ℕ, ◌+◌, ◌-◌, ◌*◌, ◌/◌, ◌%◌, ◌^◌, ◌<◌, ◌≤◌, ◌⊎◌, inl, inr, true, false, ◌&&◌, ◌||◌, cond, ltb, leb, eqb}
use Rattle.std.proofs.Common.{List, [], ◌∷◌, ◌++◌, length, get_or, Option, Some, sym, ap, ◌∙◌, subst, arith}
use Rattle.std.specs.Prelude.{All, AllPairs, slice_get, option_map}
use Rattle.std.specs.Bool.{IsTrue}
use Rattle.std.proofs.Math.Nat.{pow-le-pow_right, mul-add-mod_self_right, mod-eq_of_lt}
use Rattle.std.proofs.lemmas.Nat.{div-mul-add}
use Rattle.std.proofs.lemmas.Bool.{cases_lt, ltb-true, eqb-true, or_cases, and_parts}
use Rattle.std.proofs.lemmas.Option.{slice_get-get_or}
use Rattle.std.proofs.lemmas.List.Elements.{All-push}
use Rattle.std.proofs.lemmas.List.Quantifiers.{all_pairs_push}
use Rattle.om3_coeff.specs.declared.key.Key.{Key}
use Rattle.om3_coeff.specs.declared.coef.Coef.{Coef}
use Rattle.om3_coeff.specs.Keys.{page_levels, height, IsNode}
use Rattle.m4_groups.specs.declared.row.Row.{Row}
use Rattle.chart_frames.specs.Fields.{level_of, index_of, follows, rises}
use Rattle.chart_frames.specs.Frames.{key_number, FitsCoef, FitCoefs, Precedes, FitsRow, FitRows}
use Rattle.chart_frames.specs.Items.{last_key, last_column}

page_levels_bound : (n : ℕ) → page_levels n ≤ 5
unfolding page_levels
page_levels_bound n =
    elim (leb n (128 ^ 1)) as (λ b. cond b 1 (cond (leb n (128 ^ 2)) 2 (cond (leb n (128 ^ 3)) 3 (cond (leb n (128 ^ 4)) 4 5))) ≤ 5) [
      | true ↦ omega arith
      | false ↦ elim (leb n (128 ^ 2)) as (λ b. cond b 2 (cond (leb n (128 ^ 3)) 3 (cond (leb n (128 ^ 4)) 4 5)) ≤ 5) [
        | true ↦ omega arith
        | false ↦ elim (leb n (128 ^ 3)) as (λ b. cond b 3 (cond (leb n (128 ^ 4)) 4 5) ≤ 5) [
          | true ↦ omega arith
          | false ↦ elim (leb n (128 ^ 4)) as (λ b. cond b 4 5 ≤ 5) [ true ↦ omega arith | false ↦ omega arith ]
        ]
      ]
    ]

pub height_bound : (n : ℕ) → height n ≤ 35
height_bound n = omega (arith, page_levels_bound n)

-- the index of a key with a coefficient fits its part of the key's number
pub index_bound : (slots : ℕ) (k : Key) → IsNode (height slots) k → k.index < 2 ^ 40
index_bound slots k node =
    let top : height slots - k.level ≤ 40 = omega (arith, height_bound slots) in
    let wide : 2 ^ (height slots - k.level) ≤ 2 ^ 40 = pow-le-pow_right (omega arith) top in
    omega (arith, wide, node.within)

split_number : (level index base : ℕ) → index < base → ((level * base + index) / base ≡ level) × ((level * base + index) % base ≡ index)
split_number level index base below = (div-mul-add level base index below, mul-add-mod_self_right level base index ∙ mod-eq_of_lt below)

pub level_of-number : (k : Key) → k.index < 2 ^ 40 → level_of (key_number k) ≡ k.level
level_of-number k below = (split_number k.level k.index (2 ^ 40) below).0

pub index_of-number : (k : Key) → k.index < 2 ^ 40 → index_of (key_number k) ≡ k.index
index_of-number k below = (split_number k.level k.index (2 ^ 40) below).1

follows_cases : (a b c d : ℕ) → (ltb a b || (eqb a b && ltb c d)) ≡ true → (a < b) ⊎ ((a ≡ b) × (c < d))
follows_cases a b c d h =
    elim (or_cases (ltb a b) (eqb a b && ltb c d) h) [
      | inl lower ↦ inl (ltb-true a b lower)
      | inr same ↦ let both = and_parts (eqb a b) (ltb c d) same in inr (eqb-true a b both.0, ltb-true c d both.1)
    ]

precedes_from : (a b : Key × Coef) (la lb ia ib : ℕ) → la ≡ a.0.level → lb ≡ b.0.level → ia ≡ a.0.index → ib ≡ b.0.index
    → (lb < la) ⊎ ((lb ≡ la) × (ia < ib)) → Precedes a b
precedes_from a b la lb ia ib e f g h (inl lower) = inl (omega (arith, lower, e, f))
precedes_from a b la lb ia ib e f g h (inr same) = inr (cc (same.0), omega (arith, same.1, g, h))

-- what the numbers say of the keys
pub follows-precedes : (slots : ℕ) (a b : Key × Coef) → FitsCoef slots a → FitsCoef slots b
    → IsTrue (follows (Some (key_number a.0)) (key_number b.0)) → Precedes a b
follows-precedes slots a b p q h =
    let below_a = index_bound slots a.0 p.key in
    let below_b = index_bound slots b.0 q.key in
    precedes_from a b (level_of (key_number a.0)) (level_of (key_number b.0)) (index_of (key_number a.0)) (index_of (key_number b.0))
    (level_of-number a.0 below_a) (level_of-number b.0 below_b) (index_of-number a.0 below_a) (index_of-number b.0 below_b)
    (follows_cases (level_of (key_number b.0)) (level_of (key_number a.0)) (index_of (key_number a.0)) (index_of (key_number b.0)) h)

precedes_trans : (a b c : Key × Coef) → Precedes a b → Precedes b c → Precedes a c
precedes_trans a b c (inl p) (inl q) = inl (omega (arith, p, q))
precedes_trans a b c (inl p) (inr q) = inl (omega (arith, p, q.0))
precedes_trans a b c (inr p) (inl q) = inl (omega (arith, p.0, q))
precedes_trans a b c (inr p) (inr q) = inr (omega (arith, p.0, q.0), omega (arith, p.1, q.1))

-- the last element, where there is one
abbrev last_or : {X : Type 0} → List X → X → X
last_or xs d = get_or xs (length xs - 1) d

last_is : {X : Type 0} (f : X → ℕ) (xs : List X) (d : X) → 0 < length xs
    → option_map f (slice_get xs (length xs - 1)) ≡ Some (f (last_or xs d))
last_is f xs d some = ap (option_map f) (slice_get-get_or xs (length xs - 1) d (omega arith))

-- each element comes before one that the last one comes before
before_last : {X : Type 0} (R : X → X → Type 0) (xs : List X) (y : X) → ((a b c : X) → R a b → R b c → R a c) → AllPairs R xs
    → ((d : X) → 0 < length xs → R (last_or xs d) y) → (k : ℕ) (d : X) → k < length xs → R (get_or xs k d) y
before_last {X} R xs y trans order last k d below =
    elim (cases_lt k (length xs - 1)) [
      | inl earlier ↦ trans (get_or xs k d) (last_or xs d) y (order k (length xs - 1) d earlier (omega arith)) (last d (omega arith))
      | inr late ↦ let P : ℕ → Type 0 = λ j. R (get_or xs j d) y in
          let same : length xs - 1 ≡ k = omega arith in
          subst P same (last d (omega arith))
    ]

-- one coefficient more
pub FitCoefs-push : (slots : ℕ) (xs : List (Key × Coef)) (e : Key × Coef) → FitCoefs slots xs → FitsCoef slots e
    → IsTrue (follows (last_key xs) (key_number e.0)) → FitCoefs slots (xs ++ e ∷ [])
FitCoefs-push slots xs e fit fits h = record {
  each = All-push (FitsCoef slots) xs e fit.each fits;
  order = all_pairs_push Precedes xs e fit.order (before_last Precedes xs e precedes_trans fit.order
      (λ d some. follows-precedes slots (last_or xs d) e (fit.each (length xs - 1) d (omega arith)) fits
      (ap (λ (o : Option ℕ). follows o (key_number e.0)) (sym (last_is (λ (a : Key × Coef). key_number a.0) xs d some)) ∙ h)));
}

rows_trans : (a b c : Row) → a.column < b.column → b.column < c.column → a.column < c.column
rows_trans a b c p q = omega (arith, p, q)

-- one row more
pub FitRows-push : (w : ℕ) (xs : List Row) (r : Row) → FitRows w xs → FitsRow w r → IsTrue (rises (last_column xs) r.column)
    → FitRows w (xs ++ r ∷ [])
FitRows-push w xs r fit fits h = record {
  each = All-push (FitsRow w) xs r fit.each fits;
  order = all_pairs_push (λ (a b : Row). a.column < b.column) xs r fit.order
      (before_last (λ (a b : Row). a.column < b.column) xs r rows_trans fit.order
      (λ d some. ltb-true (last_or xs d).column r.column
      (ap (λ (o : Option ℕ). rises o r.column) (sym (last_is (λ (a : Row). a.column) xs d some)) ∙ h)));
}

-- the indices of keys fit their part of the keys' numbers
pub indices_fit : (slots : ℕ) (xs : List (Key × Coef)) → FitCoefs slots xs → All (λ (e : Key × Coef). e.0.index < 2 ^ 40) xs
indices_fit slots xs fit = λ k d below. index_bound slots (get_or xs k d).0 (fit.each k d below).key
