-- Look-ups in filters and in lists that are turned round, where no two keys are equal.
use Rattle.std.proofs.Common.{◌≡◌, ℕ, ◌+◌, ◌-◌, ◌≤◌, Bool, true, false, cond, List, [], ◌∷◌, ◌++◌, length, map, take, drop, reverse, Some}
use Rattle.std.proofs.Common.{None, refl, sym, ap, ◌∙◌, append-nil, arith}
use Rattle.std.specs.Cmp.{IsEquivalence}
use Rattle.std.specs.List.{filter, IsDistinct}
use Rattle.std.specs.Map.{keys_of, lookup}
use Rattle.std.proofs.Math.Seq.{take-append-add, take-append_seam}
use Rattle.std.proofs.lemmas.List.{reverse-append, take-append-drop}
use Rattle.std.proofs.lemmas.List.Elements.{filter-append}
use Rattle.std.proofs.lemmas.Map.{lookup-none}
use Rattle.std.proofs.lemmas.Map.Keys.{IsDistinct-tail}
use Rattle.std.proofs.lemmas.Map.Entries.{none_past_head}
use Rattle.coefficient_cache.proofs.Finds.{or_else, or_else-none, lookup-append}

-- a filter of a map is the map of a filter
pub filter-map : {X Y : Type 0} (p : Y → Bool) (f : X → Y) (xs : List X) → filter p (map f xs) ≡ map f (filter (λ x. p (f x)) xs)
filter-map p f [] = refl
filter-map p f (x ∷ xs) = elim (p (f x)) as (λ b. cond b (f x ∷ filter p (map f xs)) (filter p (map f xs)) ≡ map f
    (cond b (x ∷ filter (λ y. p (f y)) xs) (filter (λ y. p (f y)) xs))) [
      | true ↦ ap (λ ys. f x ∷ ys) (filter-map p f xs)
      | false ↦ filter-map p f xs
    ]

pub filter-reverse : {X : Type 0} (p : X → Bool) (xs : List X) → filter p (reverse xs) ≡ reverse (filter p xs)
filter-reverse p [] = refl
filter-reverse p (x ∷ xs) =
    ap (filter p) (reverse-append (x ∷ []) xs)
    ∙ filter-append p (reverse xs) (x ∷ [])
    ∙ ap (λ ys. ys ++ filter p (x ∷ [])) (filter-reverse p xs)
    ∙ sym (elim (p x) as (λ b. reverse (cond b (x ∷ filter p xs) (filter p xs)) ≡ reverse (filter p xs) ++ cond b (x ∷ []) []) [
      | true ↦ reverse-append (x ∷ []) (filter p xs)
      | false ↦ sym (append-nil (reverse (filter p xs)))
    ])

-- what a filter keeps of the first n is the first of what it keeps
pub filter-take : {X : Type 0} (p : X → Bool) (n : ℕ) (xs : List X) → (m : ℕ) × (filter p (take n xs) ≡ take m (filter p xs))
filter-take p n xs = (
  length (filter p (take n xs)),
  sym (take-append_seam (filter p (take n xs)) (filter p (drop n xs)))
      ∙ ap (take (length (filter p (take n xs)))) (sym (filter-append p (take n xs) (drop n xs)) ∙ ap (filter p) (take-append-drop n xs)),
)

module _ {K V : Type 0} (test : K → Bool) where
  pub lookup-filter-none : (q : K × V → Bool) (es : List (K × V)) → lookup test es ≡ None → lookup test (filter q es) ≡ None
  lookup-filter-none q [] h = refl
  lookup-filter-none q (f ∷ fs) h = (elim (test f.0) as (λ b. test f.0 ≡ b → cond b (Some f.1) (lookup test fs) ≡ None
      → lookup test (filter q (f ∷ fs)) ≡ None) [
        | true ↦ λ t e. absurd (let bad : Some f.1 ≡ None = e in cc)
        | false ↦ λ t e.
            let on = lookup-filter-none q fs e in
            elim (q f) as (λ b. lookup test (cond b (f ∷ filter q fs) (filter q fs)) ≡ None) [
              | true ↦ ap (λ b. cond b (Some f.1) (lookup test (filter q fs))) t ∙ on
              | false ↦ on
            ]
      ]) refl h

  -- a key that is found in a front that is kept is found
  pub lookup-kept : (n : ℕ) (xs ys : List (K × V)) (v : V) → length xs ≤ n → lookup test xs ≡ Some v
      → lookup test (take n (xs ++ ys)) ≡ Some v
  lookup-kept n xs ys v h found =
      let rest : n ≡ length xs + (n - length xs) = omega arith in
      ap (λ m. lookup test (take m (xs ++ ys))) rest
      ∙ ap (lookup test) (take-append-add xs ys (n - length xs))
      ∙ lookup-append test xs (take (n - length xs) ys)
      ∙ ap (λ o. or_else o (lookup test (take (n - length xs) ys))) found

module _ {K V : Type 0} {eq : K → K → Bool} (laws : IsEquivalence eq) (exact : (x y : K) → eq x y ≡ true → x ≡ y) where
  -- in a filter a look-up finds the entry just if it passes
  pub lookup-filter : (q : K × V → Bool) (es : List (K × V)) (k : K) (v : V) → IsDistinct eq (keys_of es) → lookup (eq k) es ≡ Some v
      → lookup (eq k) (filter q es) ≡ cond (q (k, v)) (Some v) None
  lookup-filter q [] k v d h = absurd cc
  lookup-filter q (f ∷ fs) k v d h = (elim (eq k f.0) as (λ b. eq k f.0 ≡ b
      → lookup (eq k) (filter q (f ∷ fs)) ≡ cond (q (k, v)) (Some v) None) [
        | true ↦ λ t.
            let head : Some f.1 ≡ Some v = rw t at h in
            let value : f.1 ≡ v = cc in
            let is : f ≡ (k, v) = (λ i. (sym (exact k f.0 t) i, value i)) in
            let none = lookup-filter-none (eq k) q fs (lookup-none (eq k) fs (none_past_head laws k f fs d t)) in
            (elim (q f) as (λ b. lookup (eq k) (cond b (f ∷ filter q fs) (filter q fs)) ≡ cond b (Some v) None) [
              | true ↦ ap (λ b. cond b (Some f.1) (lookup (eq k) (filter q fs))) t ∙ head
              | false ↦ none
            ])
            ∙ ap (λ e. cond (q e) (Some v) None) is
        | false ↦ λ t.
            let on = lookup-filter q fs k v (IsDistinct-tail eq f.0 (keys_of fs) d) (rw t at h) in
            elim (q f) as (λ b. lookup (eq k) (cond b (f ∷ filter q fs) (filter q fs)) ≡ cond (q (k, v)) (Some v) None) [
              | true ↦ ap (λ b. cond b (Some f.1) (lookup (eq k) (filter q fs))) t ∙ on
              | false ↦ on
            ]
      ]) refl

  -- turning a list round changes no look-up
  pub lookup-reverse : (es : List (K × V)) (k : K) → IsDistinct eq (keys_of es) → lookup (eq k) (reverse es) ≡ lookup (eq k) es
  lookup-reverse [] k d = refl
  lookup-reverse (f ∷ fs) k d =
      let on = lookup-reverse fs k (IsDistinct-tail eq f.0 (keys_of fs) d) in
      ap (lookup (eq k)) (reverse-append (f ∷ []) fs)
      ∙ lookup-append (eq k) (reverse fs) (f ∷ [])
      ∙ ap (λ o. or_else o (lookup (eq k) (f ∷ []))) on
      ∙ (elim (eq k f.0) as (λ b. eq k f.0 ≡ b → or_else (lookup (eq k) fs) (cond b (Some f.1) None) ≡ cond b (Some f.1) (lookup (eq k) fs)) [
        | true ↦ λ t. ap (λ o. or_else o (Some f.1)) (lookup-none (eq k) fs (none_past_head laws k f fs d t))
        | false ↦ λ t. or_else-none (lookup (eq k) fs)
      ]) refl
