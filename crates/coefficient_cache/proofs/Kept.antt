-- Pairs in the order in which they were put, and what is held of them.
use Rattle.std.proofs.Common.{◌≡◌, ◌≢◌, ◌⊎◌, ℕ, zero, suc, ◌+◌, ◌-◌, ◌<◌, ◌≤◌, inl, inr, true, false, cond, List, [], ◌∷◌, ◌++◌, length}
use Rattle.std.proofs.Common.{take, drop, set, get_or, reverse, Option, Some, None, is_some, if◌then◌else◌, refl, sym, ap, ◌∙◌, subst}
use Rattle.std.proofs.Common.{arith, length-append}
use Rattle.std.specs.Option.{option_map_or}
use Rattle.std.specs.List.{IsDistinct, AllByRecursion}
use Rattle.std.specs.Map.{keys_of, lookup, remove_entry}
use Rattle.std.proofs.lemmas.Bool.{cases_lt}
use Rattle.std.proofs.lemmas.Option.{none-some}
use Rattle.std.proofs.lemmas.List.{reverse-append, length-reverse, map-append, length-set, get_or-drop, get_or-set_same, get_or-set_other}
use Rattle.std.proofs.lemmas.List.{get_or_append_left, set-append_left, take-append-le, take_all}
use Rattle.std.proofs.Math.Seq.{get_or-append_seam}
use Rattle.std.proofs.lemmas.List.Sorted.{IsPermutation-reverse}
use Rattle.std.proofs.lemmas.Map.{NonePasses, none_passes_from_lookup}
use Rattle.std.proofs.lemmas.Map.Keys.{IsDistinct-cons, IsDistinct-IsPermutation}
use Rattle.om3_coeff.specs.declared.coef.Coef.{Coef}
use Rattle.coefficient_cache.specs.declared.series_key.SeriesKey.{SeriesKey}
use Rattle.coefficient_cache.specs.Pairs.{key_eq, has}
use Rattle.coefficient_cache.specs.Caches.{IsValid}
use Rattle.coefficient_cache.specs.Puts.{shown, AreKept, IsFirstHeld}
use Rattle.coefficient_cache.proofs.Keys.{key_laws, key_exact}
use Rattle.coefficient_cache.proofs.Finds.{or_else, none_from_is_some, lookup-append, has-reverse, remove-behind}
use Rattle.coefficient_cache.proofs.Unmoved.{turn}

abbrev pub with_coef : SeriesKey → Coef → SeriesKey × Coef
with_coef k v = (k, v)

abbrev pub some_pair : SeriesKey × Coef → Option (SeriesKey × Coef)
some_pair e = Some e

pair_in : (e f : SeriesKey × Coef) → ◌≡◌ {A = Option (SeriesKey × Coef)} (Some e) (Some f) → e ≡ f
pair_in e f h = ap (λ (o : Option (SeriesKey × Coef)). option_map_or (λ x. x) o e) h

pub key_in : (k l : SeriesKey) (v w : Coef) → ◌≡◌ {A = Option (SeriesKey × Coef)} (Some (k, v)) (Some (l, w)) → k ≡ l
key_in k l v w h = ap (λ (o : Option (SeriesKey × Coef)). option_map_or (λ x. x.0) o k) h

pub num_in : (i j : ℕ) → ◌≡◌ {A = Option ℕ} (Some i) (Some j) → i ≡ j
num_in i j h = ap (λ (o : Option ℕ). option_map_or (λ x. x) o i) h

pub same_or_other : (a b : ℕ) → (a ≡ b) ⊎ (a ≢ b)
same_or_other a b = elim (cases_lt a b) [
  | inl less ↦ inr (λ same. omega (arith, less, same))
  | inr more ↦ elim (cases_lt b a) [
    | inl less ↦ inr (λ same. omega (arith, less, same))
    | inr few ↦ inl (omega (arith, more, few))
  ]
]

pub key_differs : (k l : SeriesKey) → l ≢ k → key_eq k l ≡ false
key_differs k l other = elim (key_eq k l) as (λ b. key_eq k l ≡ b → key_eq k l ≡ false) [
  | true ↦ λ t. absurd (other (sym (key_exact k l t)))
  | false ↦ λ t. t
] refl

pub key_same : (k l : SeriesKey) → l ≡ k → key_eq k l ≡ true
key_same k l same = ap (key_eq k) same ∙ key_laws.refl k

pub key_apart : (k l : SeriesKey) → key_eq k l ≡ false → l ≢ k
key_apart k l other = λ same. let bad : true ≡ false = sym (key_same k l same) ∙ other in cc

-- a pair that is held stands within the puts
pub held-within : (ps : List (Option (SeriesKey × Coef))) (i : ℕ) (e : SeriesKey × Coef) → get_or ps i None ≡ Some e → i < length ps
held-within [] i e h = absurd (none-some e h)
held-within (p ∷ ps) zero e h = omega arith
held-within (p ∷ ps) (suc i) e h = let on : i < length ps = held-within ps i e h in omega (arith, on)

pub shown-append : (xs ys : List (Option (SeriesKey × Coef))) → shown (xs ++ ys) ≡ shown xs ++ shown ys
shown-append [] ys = refl
shown-append (None ∷ xs) ys = shown-append xs ys
shown-append (Some e ∷ xs) ys = ap (λ l. e ∷ l) (shown-append xs ys)

pub shown-split : (ps : List (Option (SeriesKey × Coef))) (i : ℕ) (e : SeriesKey × Coef) → get_or ps i None ≡ Some e
    → shown ps ≡ shown (take i ps) ++ (e ∷ shown (drop (suc i) ps))
shown-split [] i e h = absurd (none-some e h)
shown-split (None ∷ ps) zero e h = absurd (none-some e h)
shown-split (Some f ∷ ps) zero e h = ap (λ x. x ∷ shown ps) (pair_in f e h)
shown-split (None ∷ ps) (suc i) e h = shown-split ps i e h
shown-split (Some f ∷ ps) (suc i) e h = ap (λ l. f ∷ l) (shown-split ps i e h)

shown-set : (ps : List (Option (SeriesKey × Coef))) (i : ℕ) → i < length ps
    → shown (set ps i None) ≡ shown (take i ps) ++ shown (drop (suc i) ps)
shown-set [] i h = absurd (omega (arith, h))
shown-set (p ∷ ps) zero h = refl
shown-set (None ∷ ps) (suc i) h = shown-set ps i (omega (arith, h))
shown-set (Some f ∷ ps) (suc i) h = ap (λ l. f ∷ l) (shown-set ps i (omega (arith, h)))

-- nothing is shown where nothing is held
pub none-shown : (ps : List (Option (SeriesKey × Coef))) → ((i : ℕ) → i < length ps → get_or ps i None ≡ None) → shown ps ≡ []
none-shown [] h = refl
none-shown (None ∷ ps) h = none-shown ps (λ i less. h (suc i) (omega (arith, less)))
none-shown (Some f ∷ ps) h = absurd (none-some f (sym (h 0 (omega arith))))

-- a key that no place holds isn't found
absent : (k : SeriesKey) (ps : List (Option (SeriesKey × Coef))) → ((i : ℕ) (v : Coef) → get_or ps i None ≡ Some (k, v) → ⊥)
    → lookup (key_eq k) (shown ps) ≡ None
absent k [] h = refl
absent k (None ∷ ps) h = absent k ps (λ i v e. h (suc i) v e)
absent k (Some f ∷ ps) h = elim (key_eq k f.0) as (λ b. key_eq k f.0 ≡ b → cond b (Some f.1) (lookup (key_eq k) (shown ps)) ≡ None) [
  | true ↦ λ t. absurd (h 0 f.1 (ap (λ (j : SeriesKey). some_pair (with_coef j f.1)) (sym (key_exact k f.0 t))))
  | false ↦ λ t. absent k ps (λ i v e. h (suc i) v e)
] refl

none-among : (k : SeriesKey) (es : List (SeriesKey × Coef)) → NonePasses (key_eq k) es
    → AllByRecursion (λ y. key_eq k y ≡ false) (keys_of es)
none-among k [] h = tt
none-among k (e ∷ es) h = (h.0, none-among k es h.1)

-- where each key is held at one place, no two keys are the same
apart-shown : (ps : List (Option (SeriesKey × Coef)))
    → ((i j : ℕ) (k : SeriesKey) (v w : Coef) → get_or ps i None ≡ Some (k, v) → get_or ps j None ≡ Some (k, w) → i ≡ j)
    → IsDistinct key_eq (keys_of (shown ps))
unfolding IsDistinct
apart-shown [] h = tt
apart-shown (None ∷ ps) h = apart-shown ps (λ i j k v w a b. let same : suc i ≡ suc j = h (suc i) (suc j) k v w a b in omega (arith, same))
apart-shown (Some e ∷ ps) h =
    let behind : lookup (key_eq e.0) (shown ps) ≡ None = absent e.0 ps (λ i v a. let bad : 0 ≡ suc i = h 0 (suc i) e.0 e.1 v refl a in
    omega (arith, bad)) in
    IsDistinct-cons key_eq e.0 (keys_of (shown ps)) (none-among e.0 (shown ps) (none_passes_from_lookup (key_eq e.0) (shown ps) behind))
    (apart-shown ps (λ i j k v w a b. let same : suc i ≡ suc j = h (suc i) (suc j) k v w a b in omega (arith, same)))

pub turned-keys : (es : List (SeriesKey × Coef)) → keys_of (reverse es) ≡ reverse (keys_of es)
turned-keys [] = refl
turned-keys (e ∷ es) =
    ap keys_of (reverse-append (e ∷ []) es)
    ∙ map-append (λ x. x.0) (reverse es) (e ∷ [])
    ∙ ap (λ l. l ++ e.0 ∷ []) (turned-keys es)
    ∙ sym (reverse-append (e.0 ∷ []) (keys_of es))

apart-turned : (es : List (SeriesKey × Coef)) → IsDistinct key_eq (keys_of es) → IsDistinct key_eq (keys_of (reverse es))
apart-turned es d = subst (λ ks. IsDistinct key_eq ks) (sym (turned-keys es))
    (IsDistinct-IsPermutation key_eq (λ x y. key_laws.symm x y) (keys_of es) (reverse (keys_of es)) (IsPermutation-reverse (keys_of es)) d)

-- a key that isn't there is removed from nowhere
pub remove-absent : (k : SeriesKey) (es : List (SeriesKey × Coef)) → lookup (key_eq k) es ≡ None → remove_entry (key_eq k) es ≡ es
remove-absent k [] h = refl
remove-absent k (e ∷ es) h = elim (key_eq k e.0) as (λ b. cond b (Some e.1) (lookup (key_eq k) es) ≡ None
    → cond b es (e ∷ remove_entry (key_eq k) es) ≡ e ∷ es) [
      | true ↦ λ bad. absurd (none-some e.1 (sym bad))
      | false ↦ λ on. ap (λ l. e ∷ l) (remove-absent k es on)
    ] h

-- one more pair stands in front of the others
pub pushed : (ps : List (Option (SeriesKey × Coef))) (e : SeriesKey × Coef) → reverse (shown (ps ++ Some e ∷ [])) ≡ e ∷ reverse (shown ps)
pushed ps e = ap reverse (shown-append ps (Some e ∷ [])) ∙ reverse-append (shown ps) (e ∷ [])

pub pushed-count : (ps : List (Option (SeriesKey × Coef))) (e : SeriesKey × Coef)
    → length (shown (ps ++ Some e ∷ [])) ≡ length (shown ps) + 1
pushed-count ps e = ap length (shown-append ps (Some e ∷ [])) ∙ length-append (shown ps) (e ∷ [])

module _ (ps : List (Option (SeriesKey × Coef))) (places : List (SeriesKey × ℕ)) (start capacity : ℕ)
    (kept : AreKept ps places start capacity) where
  same-place : (i j : ℕ) (k : SeriesKey) (v w : Coef) → get_or ps i None ≡ Some (k, v) → get_or ps j None ≡ Some (k, w) → i ≡ j
  same-place i j k v w a b = num_in i j (sym (kept.placed i k v a) ∙ kept.placed j k w b)

  pub distinct : IsDistinct key_eq (keys_of (shown ps))
  distinct = apart-shown ps same-place

  pub valid : IsValid (record { pairs = reverse (shown ps); capacity = capacity })
  valid = record {
    distinct = apart-turned (shown ps) distinct;
    within = subst (λ n. n ≤ capacity) (sym (length-reverse (shown ps))) kept.within;
  }

  pub count : length places ≡ length (reverse (shown ps))
  count = sym kept.counted ∙ sym (length-reverse (shown ps))

  -- a key that has no place isn't there
  pub not-held : (k : SeriesKey) → lookup (key_eq k) places ≡ None → lookup (key_eq k) (reverse (shown ps)) ≡ None
  not-held k none = none_from_is_some (lookup (key_eq k) (reverse (shown ps)))
      (has-reverse (key_eq k) (shown ps) ∙ ap is_some (absent k ps (λ i v a. none-some i (sym none ∙ kept.placed i k v a))))

  module _ (i : ℕ) (k : SeriesKey) (v : Coef) (at : get_or ps i None ≡ Some (k, v)) where
    abbrev front : List (SeriesKey × Coef)
    front = shown (take i ps)

    abbrev rest : List (SeriesKey × Coef)
    rest = shown (drop (suc i) ps)

    behind : lookup (key_eq k) (reverse rest) ≡ None
    behind = none_from_is_some (lookup (key_eq k) (reverse rest))
        (has-reverse (key_eq k) rest ∙ ap is_some (absent k (drop (suc i) ps) (λ j w b.
        let here : get_or ps (suc i + j) None ≡ Some (k, w) = sym (get_or-drop (suc i) ps j None) ∙ b in
        let bad : i ≡ suc i + j = same-place i (suc i + j) k v w at here in omega (arith, bad))))

    turned : reverse (shown ps) ≡ reverse rest ++ (with_coef k v ∷ reverse front)
    turned = ap reverse (shown-split ps i (k, v) at) ∙ reverse-append front (with_coef k v ∷ rest) ∙ turn (k, v) rest (reverse front)

    -- a key that has a place is there with the coefficient that stands at it
    pub found-held : lookup (key_eq k) (reverse (shown ps)) ≡ Some v
    found-held =
        ap (lookup (key_eq k)) turned
        ∙ lookup-append (key_eq k) (reverse rest) (with_coef k v ∷ reverse front)
        ∙ ap (λ o. or_else o (lookup (key_eq k) (with_coef k v ∷ reverse front))) behind
        ∙ ap (λ b. cond b (Some v) (lookup (key_eq k) (reverse front))) (key_laws.refl k)

    -- where it is let go it is no longer there
    pub remove-held : remove_entry (key_eq k) (reverse (shown ps)) ≡ reverse (shown (set ps i None))
    remove-held =
        ap (remove_entry (key_eq k)) turned
        ∙ remove-behind (key_eq k) (reverse rest) (with_coef k v ∷ reverse front) behind
        ∙ ap (λ b. reverse rest ++ cond b (reverse front) (with_coef k v ∷ remove_entry (key_eq k) (reverse front))) (key_laws.refl k)
        ∙ sym (ap reverse (shown-set ps i (held-within ps i (k, v) at)) ∙ reverse-append front rest)

    pub set-count : length (shown (set ps i None)) + 1 ≡ length (shown ps)
    set-count = omega (
      arith,
      ap length (shown-split ps i (k, v) at),
      ap length (shown-set ps i (held-within ps i (k, v) at)),
      length-append front (with_coef k v ∷ rest),
      length-append front rest,
    )

    set-other : (j : ℕ) (l : SeriesKey) (w : Coef) → get_or (set ps i None) j None ≡ Some (l, w)
        → (get_or ps j None ≡ Some (l, w)) × (l ≢ k)
    set-other j l w h = elim (same_or_other j i) [
      | inl same ↦ absurd (none-some (with_coef l w) (sym (get_or-set_same ps i None None (held-within ps i (k, v) at))
          ∙ ap (λ n. get_or (set ps i None) n None) (sym same) ∙ h))
      | inr other ↦
          (let there : get_or ps j None ≡ Some (l, w) = sym (get_or-set_other ps i j None None other) ∙ h in
          (there, λ is. other (same-place j i k w v (there ∙ ap (λ (x : SeriesKey). some_pair (with_coef x w)) is) at)))
    ]

    set-stays : (j : ℕ) (l : SeriesKey) (w : Coef) → get_or ps j None ≡ Some (l, w) → l ≢ k → get_or (set ps i None) j None ≡ Some (l, w)
    set-stays j l w h apart = elim (same_or_other j i) [
      | inl same ↦ absurd (apart (key_in l k w v (sym h ∙ ap (λ n. get_or ps n None) same ∙ at)))
      | inr other ↦ get_or-set_other ps i j None None other ∙ h
    ]

    set-before : (j : ℕ) → get_or ps j None ≡ None → get_or (set ps i None) j None ≡ None
    set-before j h = elim (same_or_other j i) [
      | inl same ↦ ap (λ n. get_or (set ps i None) n None) same ∙ get_or-set_same ps i None None (held-within ps i (k, v) at)
      | inr other ↦ get_or-set_other ps i j None None other ∙ h
    ]

-- the puts without a key
pub record IsWithout (ps qs : List (Option (SeriesKey × Coef))) (key : SeriesKey) : Type 0 where
  pub from : (j : ℕ) (l : SeriesKey) (w : Coef) → get_or qs j None ≡ Some (l, w) → (get_or ps j None ≡ Some (l, w)) × (l ≢ key)
  pub to : (j : ℕ) (l : SeriesKey) (w : Coef) → get_or ps j None ≡ Some (l, w) → l ≢ key → get_or qs j None ≡ Some (l, w)
  pub before : (j : ℕ) → get_or ps j None ≡ None → get_or qs j None ≡ None
  pub long : length qs ≡ length ps

pub without-held : (ps : List (Option (SeriesKey × Coef))) (places : List (SeriesKey × ℕ)) (start capacity : ℕ)
    → AreKept ps places start capacity
    → (i : ℕ) (k : SeriesKey) (v : Coef) → get_or ps i None ≡ Some (k, v) → IsWithout ps (set ps i None) k
without-held ps places start capacity kept i k v at = record {
  from = set-other ps places start capacity kept i k v at;
  to = set-stays ps places start capacity kept i k v at;
  before = set-before ps places start capacity kept i k v at;
  long = length-set ps i None;
}

pub without-none : (ps : List (Option (SeriesKey × Coef))) (places : List (SeriesKey × ℕ)) (start capacity : ℕ)
    → AreKept ps places start capacity
    → (k : SeriesKey) → lookup (key_eq k) places ≡ None → IsWithout ps ps k
without-none ps places start capacity kept k none = record {
  from = λ j l w h. (h, λ is. none-some j (sym none ∙ ap (λ (x : SeriesKey). lookup (key_eq x) places) (sym is) ∙ kept.placed j l w h));
  to = λ j l w h apart. h;
  before = λ j h. h;
  long = refl;
}

-- a pair that is pushed behind the puts without its key has its place at their end
pub kept-pushed : (ps qs : List (Option (SeriesKey × Coef))) (places news : List (SeriesKey × ℕ)) (start capacity : ℕ) (key : SeriesKey)
    (coef : Coef)
    → AreKept ps places start capacity → IsWithout ps qs key
    → ((q : SeriesKey) → lookup (key_eq q) news ≡ cond (key_eq key q) (Some (length ps)) (lookup (key_eq q) places))
    → length news ≡ length (shown qs) + 1 → length (shown qs) < capacity
    → AreKept (qs ++ Some (with_coef key coef) ∷ []) news start capacity
kept-pushed ps qs places news start capacity key coef kept without told counted room =
    let all : List (Option (SeriesKey × Coef)) = qs ++ Some (with_coef key coef) ∷ [] in
    let end : get_or all (length ps) None ≡ Some (key, coef) = ap (λ n. get_or all n None) (sym without.long)
    ∙ get_or-append_seam qs (some_pair (key, coef)) [] None in
    let size : length all ≡ length ps + 1 = length-append qs (Some (with_coef key coef) ∷ []) ∙ ap (λ n. n + 1) without.long in
    let inner = λ (j : ℕ) (less : j < length ps). get_or_append_left qs (Some (with_coef key coef) ∷ []) None j
    (omega (arith, less, without.long)) in
    record {
      found = λ k i h. elim (key_eq key k) as (λ b. key_eq key k ≡ b → (v : Coef) × (get_or all i None ≡ Some (k, v))) [
        | true ↦ λ t.
            let num : length ps ≡ i = num_in (length ps) i (sym (told k ∙ ap (λ b. cond b (Some (length ps)) (lookup (key_eq k) places)) t)
            ∙ h) in
            (coef, ap (λ n. get_or all n None) (sym num) ∙ end ∙ ap (λ (x : SeriesKey). some_pair (with_coef x coef)) (key_exact key k t))
        | false ↦ λ t.
            let old = kept.found k i (sym (told k ∙ ap (λ b. cond b (Some (length ps)) (lookup (key_eq k) places)) t) ∙ h) in
            let less : i < length ps = held-within ps i (k, old.0) old.1 in
            (old.0, inner i less ∙ without.to i k old.0 old.1 (key_apart key k t))
      ] refl;
      placed = λ i k v h. elim (same_or_other i (length ps)) [
        | inl same ↦
            (let is : key ≡ k = key_in key k coef v (sym end ∙ ap (λ n. get_or all n None) (sym same) ∙ h) in
            told k ∙ ap (λ b. cond b (Some (length ps)) (lookup (key_eq k) places)) (key_same key k (sym is))
            ∙ ap (λ (n : ℕ). Some n) (sym same))
        | inr other ↦
            (let bound : i < length all = held-within all i (k, v) h in
            let less : i < length ps = omega (arith, bound, size, other) in
            let old = without.from i k v (sym (inner i less) ∙ h) in
            told k ∙ ap (λ b. cond b (Some (length ps)) (lookup (key_eq k) places)) (key_differs key k old.1) ∙ kept.placed i k v old.0)
      ];
      before = λ i less. inner i (omega (arith, less, kept.begun)) ∙ without.before i (kept.before i less);
      begun = omega (arith, size, kept.begun);
      counted = pushed-count qs (with_coef key coef) ∙ sym counted;
      within = omega (arith, pushed-count qs (with_coef key coef), room);
      limit = kept.limit;
    }

-- what is kept once the first pair is let go
pub kept-dropped : (ps : List (Option (SeriesKey × Coef))) (places news : List (SeriesKey × ℕ)) (start capacity i : ℕ) (key : SeriesKey)
    (coef : Coef)
    → AreKept ps places start capacity → get_or ps i None ≡ Some (key, coef) → ((j : ℕ) → j < i → get_or ps j None ≡ None)
    → ((q : SeriesKey) → lookup (key_eq q) news ≡ cond (key_eq key q) None (lookup (key_eq q) places))
    → length news + 1 ≡ length places
    → AreKept (set ps i None) news i capacity
kept-dropped ps places news start capacity i key coef kept at before told counted =
    let without : IsWithout ps (set ps i None) key = without-held ps places start capacity kept i key coef at in
    let size = set-count ps places start capacity kept i key coef at in
    record {
      found = λ k j h. elim (key_eq key k) as (λ b. key_eq key k ≡ b → (v : Coef) × (get_or (set ps i None) j None ≡ Some (k, v))) [
        | true ↦ λ t. absurd (none-some j (sym (told k ∙ ap (λ b. cond b None (lookup (key_eq k) places)) t) ∙ h))
        | false ↦ λ t.
            let old = kept.found k j (sym (told k ∙ ap (λ b. cond b None (lookup (key_eq k) places)) t) ∙ h) in
            (old.0, without.to j k old.0 old.1 (key_apart key k t))
      ] refl;
      placed = λ j k v h.
          let old = without.from j k v h in
          told k ∙ ap (λ b. cond b None (lookup (key_eq k) places)) (key_differs key k old.1) ∙ kept.placed j k v old.0;
      before = λ j less. without.before j (before j less);
      begun = let bound : i < length ps = held-within ps i (key, coef) at in omega (arith, bound, length-set ps i None);
      counted = omega (arith, size, counted, kept.counted);
      within = omega (arith, size, kept.within);
      limit = kept.limit;
    }

none-taken : (ps : List (Option (SeriesKey × Coef))) (i : ℕ) → ((j : ℕ) → j < i → get_or ps j None ≡ None) → shown (take i ps) ≡ []
none-taken ps zero h = refl
none-taken [] (suc i) h = refl
none-taken (None ∷ ps) (suc i) h = none-taken ps i (λ j less. h (suc j) (omega (arith, less)))
none-taken (Some f ∷ ps) (suc i) h = absurd (none-some f (sym (h 0 (omega arith))))

-- the pair that was put before all others is the last
pub dropped : (ps : List (Option (SeriesKey × Coef))) (i : ℕ) (e : SeriesKey × Coef) → get_or ps i None ≡ Some e
    → ((j : ℕ) → j < i → get_or ps j None ≡ None)
    → reverse (shown (set ps i None)) ≡ take (length (reverse (shown ps)) - 1) (reverse (shown ps))
dropped ps i e at before =
    let within : i < length ps = held-within ps i e at in
    let rest : List (SeriesKey × Coef) = shown (drop (suc i) ps) in
    let none : shown (take i ps) ≡ [] = none-taken ps i before in
    let all : reverse (shown ps) ≡ reverse rest ++ e ∷ [] = ap reverse (shown-split ps i e at ∙ ap (λ l. l ++ (e ∷ rest)) none)
    ∙ reverse-append (e ∷ []) rest in
    let left : reverse (shown (set ps i None)) ≡ reverse rest = ap reverse (shown-set ps i within ∙ ap (λ l. l ++ rest) none) in
    let size : length (reverse (shown ps)) - 1 ≡ length (reverse rest) = omega (
      arith,
      ap length all,
      length-append (reverse rest) (e ∷ []),
    ) in
    left ∙ sym ((λ j. take (size j) (all j)) ∙ take-append-le (length (reverse rest)) (reverse rest) (e ∷ []) (omega arith)
    ∙ take_all (length (reverse rest)) (reverse rest) (omega arith))

-- a put of a key that is there: its old place is empty, and it stands at the end
module _ (ps now : List (Option (SeriesKey × Coef))) (places news : List (SeriesKey × ℕ)) (start capacity end : ℕ) (key : SeriesKey)
    (coef : Coef) (was : Option ℕ)
    (kept : AreKept ps places start capacity) (was_is : was ≡ lookup (key_eq key) places)
    (now_is : now ≡ ps ++ Some (with_coef key coef) ∷ []) (end_is : end ≡ length ps)
    (told : (q : SeriesKey) → lookup (key_eq q) news ≡ cond (key_eq key q) (Some end) (lookup (key_eq q) places))
    (counted : length news ≡ length places + (if is_some was then 0 else 1)) where
  told_at : (q : SeriesKey) → lookup (key_eq q) news ≡ cond (key_eq key q) (Some (length ps)) (lookup (key_eq q) places)
  told_at q = told q ∙ ap (λ (n : ℕ). cond (key_eq key q) (Some n) (lookup (key_eq q) places)) end_is

  module _ (i : ℕ) (there : was ≡ Some i) where
    pub at-old : (v : Coef) × (get_or ps i None ≡ Some (key, v))
    at-old = kept.found key i (sym was_is ∙ there)

    pub again-within : i < length ps
    again-within = held-within ps i (key, at-old.0) at-old.1

    again-items : set now i None ≡ set ps i None ++ Some (with_coef key coef) ∷ []
    again-items = ap (λ l. set l i None) now_is ∙ set-append_left ps (Some (with_coef key coef) ∷ []) i None again-within

    pub kept-again : AreKept (set now i None) news start capacity
    kept-again =
        let less = set-count ps places start capacity kept i key at-old.0 at-old.1 in
        let same : length news ≡ length places + 0 = counted ∙ ap (λ (o : Option ℕ). length places + (if is_some o then 0 else 1)) there in
        subst (λ (l : List (Option (SeriesKey × Coef))). AreKept l news start capacity) (sym again-items)
        (kept-pushed ps (set ps i None) places news start capacity key coef kept
        (without-held ps places start capacity kept i key at-old.0 at-old.1) told_at
        (omega (arith, same, less, kept.counted)) (omega (arith, less, kept.within)))

    pub pairs-again : reverse (shown (set now i None)) ≡ with_coef key coef ∷ remove_entry (key_eq key) (reverse (shown ps))
    pairs-again =
        ap (λ l. reverse (shown l)) again-items
        ∙ pushed (set ps i None) (key, coef)
        ∙ ap (λ l. with_coef key coef ∷ l) (sym (remove-held ps places start capacity kept i key at-old.0 at-old.1))

  module _ (there : was ≡ None) where
    gone : lookup (key_eq key) (reverse (shown ps)) ≡ None
    gone = not-held ps places start capacity kept key (sym was_is ∙ there)

    pub kept-anew : (has (reverse (shown ps)) key ≡ false → length (reverse (shown ps)) < capacity) → AreKept now news start capacity
    kept-anew room =
        let same : length news ≡ length places + 1 = counted ∙ ap (λ (o : Option ℕ). length places + (if is_some o then 0 else 1)) there in
        let less : length (reverse (shown ps)) < capacity = room (ap is_some gone) in
        subst (λ (l : List (Option (SeriesKey × Coef))). AreKept l news start capacity) (sym now_is)
        (kept-pushed ps ps places news start capacity key coef kept
        (without-none ps places start capacity kept key (sym was_is ∙ there)) told_at
        (omega (arith, same, kept.counted)) (omega (arith, less, length-reverse (shown ps))))

pub pairs-first : (ps seen : List (Option (SeriesKey × Coef))) (i : ℕ) (key : SeriesKey) → seen ≡ ps → IsFirstHeld seen i key
    → reverse (shown (set ps i None)) ≡ take (length (reverse (shown ps)) - 1) (reverse (shown ps))
pairs-first ps seen i key same first =
    dropped ps i (key, first.coef) (ap (λ l. get_or l i None) (sym same) ∙ first.is) (λ j less. ap (λ l. get_or l j None) (sym same)
    ∙ first.before j less)

-- a map that tells the same places
pub kept-reordered : (ps now : List (Option (SeriesKey × Coef))) (places news : List (SeriesKey × ℕ)) (start capacity : ℕ)
    → AreKept ps places start capacity → now ≡ ps → ((q : SeriesKey) → lookup (key_eq q) news ≡ lookup (key_eq q) places)
    → length news ≡ length places
    → AreKept now news start capacity
kept-reordered ps now places news start capacity kept same told counted =
    subst (λ (l : List (Option (SeriesKey × Coef))). AreKept l news start capacity) (sym same) (record {
      found = λ k i h. kept.found k i (sym (told k) ∙ h);
      placed = λ i k v h. told k ∙ kept.placed i k v h;
      before = kept.before;
      begun = kept.begun;
      counted = kept.counted ∙ sym counted;
      within = kept.within;
      limit = kept.limit;
    })
