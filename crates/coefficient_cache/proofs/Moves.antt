-- What a `put` of a needed key does to a list, told by its hits, its new keys and the others.
use Rattle.std.proofs.Common.{◌≡◌, ℕ, zero, suc, ◌-◌, ◌<◌, Bool, true, false, cond, not, ◌&&◌, ◌||◌, List, [], ◌∷◌, ◌++◌, take, reverse}
use Rattle.std.proofs.Common.{Some, None, is_some, refl, sym, ap, ◌∙◌, append-nil, arith}
use Rattle.std.proofs.lemmas.List.{reverse-append, take-take}
use Rattle.std.specs.Cmp.{IsEquivalence}
use Rattle.std.specs.List.{filter, IsDistinct}
use Rattle.std.specs.Option.{option_map_or}
use Rattle.std.specs.Map.{keys_of, lookup, lookup_entry, remove_entry}
use Rattle.std.proofs.lemmas.Map.{lookup-none}
use Rattle.std.proofs.lemmas.Map.Keys.{IsDistinct-tail}
use Rattle.std.proofs.lemmas.Map.Entries.{lookup-filter-keys, none_past_head}
use Rattle.std.proofs.lemmas.List.Elements.{filter-append}
use Rattle.coefficient_cache.specs.Puts.{put_entries}
use Rattle.coefficient_cache.proofs.Finds.{none_from_is_some, has-append, has-reverse, lookup-take-none, entry_none, entry_there}
use Rattle.coefficient_cache.proofs.Finds.{entry-behind, remove-behind}

or-true : (a : Bool) → (a || true) ≡ true
or-true true = refl
or-true false = refl

or-false : (a : Bool) → (a || false) ≡ a
or-false true = refl
or-false false = refl

and-false : (a : Bool) → (a && false) ≡ false
and-false true = refl
and-false false = refl

both-ways : (a b : Bool) → ((a && b) || (not b && a)) ≡ a
both-ways true true = refl
both-ways true false = refl
both-ways false true = refl
both-ways false false = refl

-- where nothing is needed, all stay
pub others-none : {X : Type 0} (xs : List X) → filter (λ _. true) xs ≡ xs
others-none [] = refl
others-none (x ∷ xs) = ap (λ ys. x ∷ ys) (others-none xs)

module _ {K V : Type 0} {eq : K → K → Bool} (laws : IsEquivalence eq) (exact : (x y : K) → eq x y ≡ true → x ≡ y) where
  -- the words of the specification, for any keys and values
  abbrev has : List (K × V) → K → Bool
  has pairs k = is_some (lookup (eq k) pairs)

  abbrev hits : List (K × V) → List (K × V) → List (K × V)
  hits pairs xs = filter (λ e. has pairs e.0) xs

  abbrev news : List (K × V) → List (K × V) → List (K × V)
  news pairs xs = filter (λ e. not (has pairs e.0)) xs

  abbrev others : List (K × V) → List (K × V) → List (K × V)
  others pairs xs = filter (λ e. not (has xs e.0)) pairs

  -- a filter by keys has a key just if it lets it through and the list has it
  pub has-filter : (p : K → Bool) (es : List (K × V)) (k : K) → has (filter (λ e. p e.0) es) k ≡ (p k && has es k)
  has-filter p es k =
      ap is_some (lookup-filter-keys (eq k) p (p k) (λ j same. ap p (sym (exact k j same))) es)
      ∙ (elim (p k) as (λ b. is_some (cond b (lookup (eq k) es) None) ≡ (b && has es k)) [ true ↦ refl | false ↦ refl ])

  -- with one more needed key, the list has it or had it
  has-more : (xs : List (K × V)) (k : K) (v : V) (j : K) → has (xs ++ (k, v) ∷ []) j ≡ (has xs j || eq j k)
  has-more xs k v j = has-append (eq j) xs ((k, v) ∷ [])
      ∙ ap (λ b. has xs j || b) (elim (eq j k) as (λ b. is_some (cond b (Some v) None) ≡ b) [ true ↦ refl | false ↦ refl ])

  -- a needed key that the list lacks leaves the others as they are
  pub others-miss : (pairs xs : List (K × V)) (k : K) (v : V) → lookup (eq k) pairs ≡ None
      → others pairs (xs ++ (k, v) ∷ []) ≡ others pairs xs
  others-miss [] xs k v h = refl
  others-miss (p ∷ ps) xs k v h = (elim (eq k p.0) as (λ b. eq k p.0 ≡ b → others (p ∷ ps) (xs ++ (k, v) ∷ []) ≡ others (p ∷ ps) xs) [
    | true ↦ λ t. absurd (let bad : Some p.1 ≡ None = rw t at h in cc)
    | false ↦ λ t.
        let rest : lookup (eq k) ps ≡ None = rw t at h in
        let same : has (xs ++ (k, v) ∷ []) p.0 ≡ has xs p.0 = has-more xs k v p.0 ∙ ap (λ b. has xs p.0 || b) (laws.symm p.0 k ∙ t)
        ∙ or-false (has xs p.0) in
        (λ i. cond (not (same i)) (p ∷ others-miss ps xs k v rest i) (others-miss ps xs k v rest i))
  ]) refl

  -- a needed key more, and the others are without its pair
  pub others-hit : (pairs xs : List (K × V)) (k : K) (v : V) → IsDistinct eq (keys_of pairs)
      → remove_entry (eq k) (others pairs xs) ≡ others pairs (xs ++ (k, v) ∷ [])
  others-hit [] xs k v d = refl
  others-hit (p ∷ ps) xs k v d =
      let on = others-hit ps xs k v (IsDistinct-tail eq p.0 (keys_of ps) d) in
      let more = has-more xs k v p.0 in
      (elim (has xs p.0) as (λ b. has xs p.0 ≡ b → remove_entry (eq k) (cond (not b) (p ∷ others ps xs) (others ps xs)) ≡ others (p ∷ ps)
      (xs ++ (k, v) ∷ [])) [
        | true ↦ λ h. let gone : has (xs ++ (k, v) ∷ []) p.0 ≡ true = more ∙ ap (λ b. b || eq p.0 k) h in
            on ∙ ap (λ b. cond (not b) (p ∷ others ps (xs ++ (k, v) ∷ [])) (others ps (xs ++ (k, v) ∷ []))) (sym gone)
        | false ↦ λ h. (elim (eq k p.0) as (λ b. eq k p.0 ≡ b
            → cond b (others ps xs) (p ∷ remove_entry (eq k) (others ps xs)) ≡ others (p ∷ ps) (xs ++ (k, v) ∷ [])) [
              | true ↦ λ t.
                  let gone : has (xs ++ (k, v) ∷ []) p.0 ≡ true = more ∙ ap (λ b. has xs p.0 || b) (laws.symm p.0 k ∙ t)
                  ∙ or-true (has xs p.0) in
                  let none : lookup (eq k) ps ≡ None = lookup-none (eq k) ps (none_past_head laws k p ps d t) in
                  sym (others-miss ps xs k v none) ∙ ap (λ b. cond (not b) (p ∷ others ps (xs ++ (k, v) ∷ []))
                  (others ps (xs ++ (k, v) ∷ [])))
                  (sym gone)
              | false ↦ λ t.
                  let stays : has (xs ++ (k, v) ∷ []) p.0 ≡ false = more ∙ (λ i. h i || (laws.symm p.0 k ∙ t) i) in
                  ap (λ zs. p ∷ zs) on ∙ ap (λ b. cond (not b) (p ∷ others ps (xs ++ (k, v) ∷ [])) (others ps (xs ++ (k, v) ∷ [])))
                  (sym stays)
            ]) refl
      ]) refl

  -- a key that wasn't needed so far is found among the others where it is found at all
  pub entry-others : (pairs xs : List (K × V)) (k : K) → has xs k ≡ false
      → lookup_entry (eq k) (others pairs xs) ≡ lookup_entry (eq k) pairs
  entry-others [] xs k h = refl
  entry-others (p ∷ ps) xs k h =
      let on = entry-others ps xs k h in
      (elim (eq k p.0) as (λ b. eq k p.0 ≡ b → lookup_entry (eq k) (others (p ∷ ps) xs) ≡ cond b (Some p) (lookup_entry (eq k) ps)) [
        | true ↦ λ t.
            let out : has xs p.0 ≡ false = ap (has xs) (sym (exact k p.0 t)) ∙ h in
            ap (λ b. lookup_entry (eq k) (cond (not b) (p ∷ others ps xs) (others ps xs))) out
            ∙ ap (λ b. cond b (Some p) (lookup_entry (eq k) (others ps xs))) t
        | false ↦ λ t. (elim (has xs p.0) as (λ b. lookup_entry (eq k) (cond (not b) (p ∷ others ps xs) (others ps xs)) ≡ lookup_entry
            (eq k) ps) [
              | true ↦ on
              | false ↦ ap (λ b. cond b (Some p) (lookup_entry (eq k) (others ps xs))) t ∙ on
            ])
      ]) refl

  -- the hits and the others, as a list has them once its hits moved to the front
  abbrev pub moved : List (K × V) → List (K × V) → List (K × V)
  moved pairs xs = reverse (hits pairs xs) ++ others pairs xs

  put-found : (pairs xs : List (K × V)) (k : K) (v : V) (n : ℕ) (f : K × V) → lookup_entry (eq k) (moved pairs xs) ≡ Some f
      → eq k f.0 ≡ true → put_entries eq (moved pairs xs) n k v ≡ (k, v) ∷ remove_entry (eq k) (moved pairs xs)
  put-found pairs xs k v n f h t =
      ap (λ o. option_map_or (λ e. (e.0, v) ∷ remove_entry (eq k) (moved pairs xs)) o ((k, v) ∷ take (n - 1) (moved pairs xs))) h
      ∙ ap (λ j. (j, v) ∷ remove_entry (eq k) (moved pairs xs)) (sym (exact k f.0 t))

  put-missed : (L : List (K × V)) (k : K) (v : V) (n : ℕ) → lookup (eq k) L ≡ None → put_entries eq L n k v ≡ (k, v) ∷ take (n - 1) L
  put-missed L k v n h = ap (λ o. option_map_or (λ e. (e.0, v) ∷ remove_entry (eq k) L) o ((k, v) ∷ take (n - 1) L)) (entry_none (eq k) L h)

  -- the hits so far don't have a key that wasn't needed so far
  hits-apart : (pairs xs : List (K × V)) (k : K) → has xs k ≡ false → lookup (eq k) (reverse (hits pairs xs)) ≡ None
  hits-apart pairs xs k h = none_from_is_some (lookup (eq k) (reverse (hits pairs xs)))
      (has-reverse (eq k) (hits pairs xs) ∙ has-filter (has pairs) xs k ∙ ap (λ b. has pairs k && b) h ∙ and-false (has pairs k))

  filter-one : (p : K × V → Bool) (xs : List (K × V)) (e : K × V) (b : Bool) → p e ≡ b
      → filter p (xs ++ e ∷ []) ≡ filter p xs ++ cond b (e ∷ []) []
  filter-one p xs e b h = filter-append p xs (e ∷ []) ∙ ap (λ c. filter p xs ++ cond c (e ∷ []) []) h

  -- a needed key that the list has comes to its front
  pub move-hit : (pairs xs : List (K × V)) (k : K) (v : V) (n : ℕ) → IsDistinct eq (keys_of pairs) → has xs k ≡ false → has pairs k ≡ true
      → put_entries eq (moved pairs xs) n k v ≡ moved pairs (xs ++ (k, v) ∷ [])
  move-hit pairs xs k v n d fresh there =
      let none = hits-apart pairs xs k fresh in
      let at : lookup_entry (eq k) (moved pairs xs) ≡ lookup_entry (eq k) pairs = entry-behind (eq k) (reverse (hits pairs xs))
      (others pairs xs) none ∙ entry-others pairs xs k fresh in
      let found = entry_there (eq k) pairs there in
      put-found pairs xs k v n found.0 (at ∙ found.1) found.2
      ∙ ap (λ zs. (k, v) ∷ zs) (remove-behind (eq k) (reverse (hits pairs xs)) (others pairs xs) none)
      ∙ ap (λ zs. (k, v) ∷ (reverse (hits pairs xs) ++ zs)) (others-hit pairs xs k v d)
      ∙ ap (λ zs. zs ++ others pairs (xs ++ (k, v) ∷ [])) (sym (reverse-append (hits pairs xs) ((k, v) ∷ []))
      ∙ ap reverse (sym (filter-one (λ e. has pairs e.0) xs (k, v) true there)))

  -- a needed key that the list lacks changes neither its hits nor its others
  pub move-miss : (pairs xs : List (K × V)) (k : K) (v : V) → has pairs k ≡ false → moved pairs xs ≡ moved pairs (xs ++ (k, v) ∷ [])
  move-miss pairs xs k v h =
      let same : hits pairs (xs ++ (k, v) ∷ []) ≡ hits pairs xs = filter-one (λ e. has pairs e.0) xs (k, v) false h
      ∙ append-nil (hits pairs xs) in
      sym (λ i. reverse (same i) ++ others-miss pairs xs k v (none_from_is_some (lookup (eq k) pairs) h) i)

  -- a list has the same keys once its hits moved
  pub has-moved : (pairs xs : List (K × V)) (k : K) → has (moved pairs xs) k ≡ has pairs k
  has-moved pairs xs k =
      has-append (eq k) (reverse (hits pairs xs)) (others pairs xs)
      ∙ (λ i. (has-reverse (eq k) (hits pairs xs) ∙ has-filter (has pairs) xs k) i || has-filter (λ j. not (has xs j)) pairs k i)
      ∙ both-ways (has pairs k) (has xs k)

  -- the list with the new keys so far in front
  abbrev pub topped : ℕ → List (K × V) → List (K × V) → List (K × V)
  topped n base xs = take n (reverse (news base xs) ++ base)

  take-put : (n : ℕ) (x : K × V) (L : List (K × V)) → 0 < n → x ∷ take (n - 1) (take n L) ≡ take n (x ∷ L)
  take-put zero x L h = absurd (omega arith)
  take-put (suc n) x L h =
      let less : suc n - 1 ≡ n = omega arith in
      ap (λ m. x ∷ take m (take (suc n) L)) less ∙ ap (λ zs. x ∷ zs) (take-take n (suc n) L (omega arith))

  -- a needed key that the list lacks isn't in front so far
  pub topped-new : (n : ℕ) (base xs : List (K × V)) (k : K) → has xs k ≡ false → has base k ≡ false → has (topped n base xs) k ≡ false
  topped-new n base xs k fresh out =
      let L = reverse (news base xs) ++ base in
      let none : has L k ≡ false =
      has-append (eq k) (reverse (news base xs)) base
      ∙ (λ i. (has-reverse (eq k) (news base xs) ∙ has-filter (λ j. not (has base j)) xs k ∙ ap (λ b. not (has base k) && b) fresh
      ∙ and-false (not (has base k))) i || out i) in
      ap is_some (lookup-take-none (eq k) n L (none_from_is_some (lookup (eq k) L) none))

  -- a needed key that the list lacks is put in front
  pub put-new : (base xs : List (K × V)) (k : K) (v : V) (n : ℕ) → 0 < n → has xs k ≡ false → has base k ≡ false
      → put_entries eq (topped n base xs) n k v ≡ topped n base (xs ++ (k, v) ∷ [])
  put-new base xs k v n some fresh out =
      let L = reverse (news base xs) ++ base in
      let none : has L k ≡ false =
      has-append (eq k) (reverse (news base xs)) base
      ∙ (λ i. (has-reverse (eq k) (news base xs) ∙ has-filter (λ j. not (has base j)) xs k ∙ ap (λ b. not (has base k) && b) fresh
      ∙ and-false (not (has base k))) i || out i) in
      put-missed (take n L) k v n (lookup-take-none (eq k) n L (none_from_is_some (lookup (eq k) L) none))
      ∙ take-put n (k, v) L some
      ∙ ap (λ zs. take n (zs ++ base)) (sym (reverse-append (news base xs) ((k, v) ∷ []))
      ∙ ap reverse (sym (filter-one (λ e. not (has base e.0)) xs (k, v) true (ap not out))))

  -- a needed key that isn't new changes nothing then
  pub put-none : (base xs : List (K × V)) (k : K) (v : V) (n : ℕ) → has base k ≡ true → topped n base xs ≡ topped n base (xs ++ (k, v) ∷ [])
  put-none base xs k v n h = ap (λ zs. take n (reverse zs ++ base))
      (sym (filter-one (λ e. not (has base e.0)) xs (k, v) false (ap not h) ∙ append-nil (news base xs)))
