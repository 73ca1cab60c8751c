-- Look-ups in lists that are joined, turned, cut and filtered.
use Rattle.std.proofs.Common.{◌≡◌, ℕ, zero, suc, Bool, true, false, cond, ◌||◌, List, [], ◌∷◌, ◌++◌, take, reverse, Option, Some, None}
use Rattle.std.proofs.Common.{is_some, refl, sym, ap, ◌∙◌}
use Rattle.std.proofs.lemmas.List.{reverse-append}
use Rattle.std.specs.Map.{lookup, lookup_entry, remove_entry}

-- the first of two options that is there
abbrev pub or_else : {X : Type 0} → Option X → Option X → Option X
or_else (Some x) o = Some x
or_else None o = o

pub or_else-none : {X : Type 0} (o : Option X) → or_else o None ≡ o
or_else-none (Some x) = refl
or_else-none None = refl

pub none_from_is_some : {X : Type 0} (o : Option X) → is_some o ≡ false → o ≡ None
none_from_is_some (Some x) h = cc
none_from_is_some None h = refl

or-turned : (a b : Bool) → (a || b) ≡ (b || a)
or-turned true true = refl
or-turned true false = refl
or-turned false true = refl
or-turned false false = refl

module _ {K V : Type 0} (test : K → Bool) where
  pub lookup-append : (xs ys : List (K × V)) → lookup test (xs ++ ys) ≡ or_else (lookup test xs) (lookup test ys)
  lookup-append [] ys = refl
  lookup-append (x ∷ xs) ys = (elim (test x.0) as (λ b. cond b (Some x.1) (lookup test (xs ++ ys)) ≡ or_else
      (cond b (Some x.1) (lookup test xs)) (lookup test ys)) [
        | true ↦ refl
        | false ↦ lookup-append xs ys
      ])

  pub has-append : (xs ys : List (K × V)) → is_some (lookup test (xs ++ ys)) ≡ (is_some (lookup test xs) || is_some (lookup test ys))
  has-append [] ys = refl
  has-append (x ∷ xs) ys = (elim (test x.0) as (λ b. is_some
      (cond b (Some x.1) (lookup test (xs ++ ys))) ≡ (is_some (cond b (Some x.1) (lookup test xs)) || is_some (lookup test ys))) [
        | true ↦ refl
        | false ↦ has-append xs ys
      ])

  has-one : (x : K × V) → is_some (lookup test (x ∷ [])) ≡ test x.0
  has-one x = (elim (test x.0) as (λ b. is_some (cond b (Some x.1) None) ≡ b) [ true ↦ refl | false ↦ refl ])

  pub has-cons : (x : K × V) (xs : List (K × V)) → is_some (lookup test (x ∷ xs)) ≡ (test x.0 || is_some (lookup test xs))
  has-cons x xs = (elim (test x.0) as (λ b. is_some (cond b (Some x.1) (lookup test xs)) ≡ (b || is_some (lookup test xs)))
      [ true ↦ refl | false ↦ refl ])

  -- turning a list round keeps its keys
  pub has-reverse : (xs : List (K × V)) → is_some (lookup test (reverse xs)) ≡ is_some (lookup test xs)
  has-reverse [] = refl
  has-reverse (x ∷ xs) =
      ap (λ ys. is_some (lookup test ys)) (reverse-append (x ∷ []) xs)
      ∙ has-append (reverse xs) (x ∷ [])
      ∙ or-turned (is_some (lookup test (reverse xs))) (is_some (lookup test (x ∷ [])))
      ∙ (λ i. has-one x i || has-reverse xs i)
      ∙ sym (has-cons x xs)

  -- a key that isn't in a list isn't in its front
  pub lookup-take-none : (n : ℕ) (xs : List (K × V)) → lookup test xs ≡ None → lookup test (take n xs) ≡ None
  lookup-take-none zero xs h = refl
  lookup-take-none (suc n) [] h = refl
  lookup-take-none (suc n) (x ∷ xs) h = (elim (test x.0) as (λ b. cond b (Some x.1) (lookup test xs) ≡ None
      → cond b (Some x.1) (lookup test (take n xs)) ≡ None) [
        | true ↦ λ e. e
        | false ↦ λ e. lookup-take-none n xs e
      ]) h

  pub entry_none : (xs : List (K × V)) → lookup test xs ≡ None → lookup_entry test xs ≡ None
  entry_none [] h = refl
  entry_none (x ∷ xs) h = (elim (test x.0) as (λ b. cond b (Some x.1) (lookup test xs) ≡ None
      → cond b (Some x) (lookup_entry test xs) ≡ None) [
        | true ↦ λ e. absurd (let bad : Some x.1 ≡ None = e in cc)
        | false ↦ λ e. entry_none xs e
      ]) h

  -- a list that has a key has an entry with it
  pub entry_there : (xs : List (K × V)) → is_some (lookup test xs) ≡ true
      → (f : K × V) × (lookup_entry test xs ≡ Some f) × (test f.0 ≡ true)
  entry_there [] h = absurd cc
  entry_there (x ∷ xs) h = (elim (test x.0) as (λ b. test x.0 ≡ b → is_some (cond b (Some x.1) (lookup test xs)) ≡ true → (f : K × V)
      × (cond b (Some x) (lookup_entry test xs) ≡ Some f) × (test f.0 ≡ true)) [
        | true ↦ λ t e. (x, refl, t)
        | false ↦ λ t e. entry_there xs e
      ]) refl h

  -- behind a front without the key
  pub entry-behind : (xs ys : List (K × V)) → lookup test xs ≡ None → lookup_entry test (xs ++ ys) ≡ lookup_entry test ys
  entry-behind [] ys h = refl
  entry-behind (x ∷ xs) ys h = (elim (test x.0) as (λ b. cond b (Some x.1) (lookup test xs) ≡ None
      → cond b (Some x) (lookup_entry test (xs ++ ys)) ≡ lookup_entry test ys) [
        | true ↦ λ e. absurd (let bad : Some x.1 ≡ None = e in cc)
        | false ↦ λ e. entry-behind xs ys e
      ]) h

  pub remove-behind : (xs ys : List (K × V)) → lookup test xs ≡ None → remove_entry test (xs ++ ys) ≡ xs ++ remove_entry test ys
  remove-behind [] ys h = refl
  remove-behind (x ∷ xs) ys h = (elim (test x.0) as (λ b. cond b (Some x.1) (lookup test xs) ≡ None
      → cond b (xs ++ ys) (x ∷ remove_entry test (xs ++ ys)) ≡ x ∷ (xs ++ remove_entry test ys)) [
        | true ↦ λ e. absurd (let bad : Some x.1 ≡ None = e in cc)
        | false ↦ λ e. ap (λ zs. x ∷ zs) (remove-behind xs ys e)
      ]) h
