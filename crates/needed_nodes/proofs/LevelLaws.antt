-- Keys by levels are the keys in another order.
use Rattle.std.proofs.Common.{◌≡◌, ℕ, zero, suc, ◌+◌, ◌<◌, List, [], ◌∷◌, ◌++◌, get_or, length, set, take, refl, sym, ap, subst, ◌∙◌, arith}
use Rattle.std.specs.Prelude.{IsPermutation}
use Rattle.std.proofs.lemmas.List.{append_assoc, append-nil, take_more}
use Rattle.std.proofs.lemmas.List.Sorted.{IsPermutation-trans, IsPermutation-to_front, IsPermutation-append_left}
use Rattle.std.proofs.lemmas.List.Sorted.{IsPermutation-append_right}
use Rattle.om3_coeff.specs.declared.key.Key.{Key}
use Rattle.om3_coeff.specs.declared.coef.Coef.{Coef}
use Rattle.needed_nodes.specs.declared.level.Level.{Level}
use Rattle.needed_nodes.specs.Levels.{joined}

joined_append : (a b : List Level) → joined (a ++ b) ≡ joined a ++ joined b
joined_append [] b = refl
joined_append (x ∷ a) b = ap (λ (l : List (Key × Coef)). x.keys.items ++ l) (joined_append a b)
    ∙ sym (append_assoc x.keys.items (joined a) (joined b))

-- a level without a key adds none
pub joined_empty : (levels : List Level) (new : Level) → joined levels ≡ [] → new.keys.items ≡ [] → joined (levels ++ new ∷ []) ≡ []
joined_empty levels new none empty =
    joined_append levels (new ∷ [])
    ∙ ap (λ (l : List (Key × Coef)). l ++ (new.keys.items ++ [])) none
    ∙ ap (λ (l : List (Key × Coef)). l ++ []) empty

-- one level more
pub joined_more : (levels : List Level) (at : ℕ) (d : Level) → at < length levels
    → joined (take (at + 1) levels) ≡ joined (take at levels) ++ (get_or levels at d).keys.items
joined_more levels at d low =
    ap joined (take_more levels at d low)
    ∙ joined_append (take at levels) (get_or levels at d ∷ [])
    ∙ ap (λ (l : List (Key × Coef)). joined (take at levels) ++ l) (append-nil (get_or levels at d).keys.items)

-- a key behind all of them is as good as one behind those of its level
pub joined_set : (levels : List Level) (at : ℕ) (d new : Level) (e : Key × Coef) → at < length levels
    → new.keys.items ≡ (get_or levels at d).keys.items ++ e ∷ []
    → IsPermutation (joined levels ++ e ∷ []) (joined (set levels at new))
joined_set [] at d new e low is = absurd (omega (arith, low))
joined_set (x ∷ xs) zero d new e low is =
    let a = x.keys.items in
    let j = joined xs in
    let P : List (Key × Coef) → Type 0 = λ l. IsPermutation l (new.keys.items ++ j) in
    let Q : List (Key × Coef) → Type 0 = λ l. IsPermutation (a ++ (j ++ e ∷ [])) l in
    let moved : Q (a ++ (e ∷ j)) = IsPermutation-append_right a (j ++ e ∷ []) (e ∷ j) (IsPermutation-to_front j e) in
    let here : a ++ (e ∷ j) ≡ new.keys.items ++ j = sym (append_assoc a (e ∷ []) j) ∙ ap (λ (l : List (Key × Coef)). l ++ j) (sym is) in
    subst P (sym (append_assoc a j (e ∷ []))) (subst Q here moved)
joined_set (x ∷ xs) (suc at) d new e low is =
    let a = x.keys.items in
    let j = joined xs in
    let j' = joined (set xs at new) in
    let P : List (Key × Coef) → Type 0 = λ l. IsPermutation l (a ++ j') in
    subst P (sym (append_assoc a j (e ∷ []))) (IsPermutation-append_right a (j ++ e ∷ []) j'
    (joined_set xs at d new e (omega (arith, low)) is))

-- the same where so many keys stand by levels
pub levels_more : (keys : List (Key × Coef)) (levels : List Level) (at place : ℕ) (e : Key × Coef) (d new : Level) → at < length keys
    → place < length levels
    → new.keys.items ≡ (get_or levels place d).keys.items ++ get_or keys at e ∷ [] → IsPermutation (take at keys) (joined levels)
    → IsPermutation (take (at + 1) keys) (joined (set levels place new))
levels_more keys levels at place e d new low within added was =
    let x : Key × Coef = get_or keys at e in
    let P : List (Key × Coef) → Type 0 = λ l. IsPermutation l (joined (set levels place new)) in
    subst P (sym (take_more keys at e low))
    (IsPermutation-trans (take at keys ++ x ∷ []) (joined levels ++ x ∷ []) (joined (set levels place new))
    (IsPermutation-append_left (x ∷ []) (take at keys) (joined levels) was)
    (joined_set levels place d new x within added))

-- a level in another order
pub joined_sorted : (levels : List Level) (at : ℕ) (d new : Level) → at < length levels
    → IsPermutation (get_or levels at d).keys.items new.keys.items → IsPermutation (joined levels) (joined (set levels at new))
joined_sorted [] at d new low moved = absurd (omega (arith, low))
joined_sorted (x ∷ xs) zero d new low moved = IsPermutation-append_left (joined xs) x.keys.items new.keys.items moved
joined_sorted (x ∷ xs) (suc at) d new low moved = IsPermutation-append_right x.keys.items (joined xs) (joined (set xs at new))
    (joined_sorted xs at d new (omega (arith, low)) moved)
