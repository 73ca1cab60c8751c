-- Batches of pages put in their places.
use Rattle.std.proofs.Common.{◌≡◌, ◌≢◌, ℕ, zero, suc, ◌+◌, ◌<◌, Bool, true, false, cond, eqb, ltb, not, ◌&&◌, ◌||◌, rules, List, [], ◌∷◌}
use Rattle.std.proofs.Common.{◌++◌, length, take, get_or, Option, Some, None, refl, sym, ap, subst, arith, inl, inr, ◌∙◌, IsSome, IsTrue}
use Rattle.std.proofs.Common.{unwrap_or}
use Rattle.std.proofs.lemmas.Bool.{cases_lt, le-ltb, lt-ltb}
use Rattle.std.proofs.lemmas.Bool.Decides.{eqb_tells}
use Rattle.std.proofs.Math.Path.{fun_ext}
use Rattle.std.proofs.lemmas.Option.{none-some}
use Rattle.std.proofs.lemmas.List.{take_more, get_or-map, length-map}
use Rattle.std.proofs.lemmas.List.Folds.{list_any_at}
use Rattle.block_disk.specs.View.{Image}
use Rattle.block_disk.specs.MemDisk.{put}
use Rattle.gate_pages.specs.Batch.{Entry, page_in, put_all, numbers, is_one_of, is_distinct, all_below, AllBelow}

pub page_here : (entry : Entry) (batch : List Entry) (number : ℕ) → eqb number entry.0 ≡ true
    → page_in (entry ∷ batch) number ≡ Some entry.1
page_here entry batch number is = ap (λ b. cond b (Some entry.1) (page_in batch number)) is

pub page_later : (entry : Entry) (batch : List Entry) (number : ℕ) → eqb number entry.0 ≡ false
    → page_in (entry ∷ batch) number ≡ page_in batch number
page_later entry batch number is = ap (λ b. cond b (Some entry.1) (page_in batch number)) is

-- putting a batch twice is putting it once
pub put_twice : (batch : List Entry) (pages : Image) → put_all batch (put_all batch pages) ≡ put_all batch pages
put_twice batch pages = fun_ext (λ number. by (page_in batch number) (pages number))
  where
    by : (found : Option (List ℕ)) (page : List ℕ) → unwrap_or found (unwrap_or found page) ≡ unwrap_or found page
    by None page = refl
    by (Some there) page = refl

-- pages that agree but at those of a batch are equal once it is put
pub put_same : (batch : List Entry) (pages pages' : Image) → ((number : ℕ) → page_in batch number ≡ None → pages' number ≡ pages number)
    → put_all batch pages' ≡ put_all batch pages
put_same batch pages pages' same = fun_ext (λ number. by (page_in batch number) (pages number) (pages' number) (same number))
  where
    by : (found : Option (List ℕ)) (page page' : List ℕ) → (found ≡ None → page' ≡ page) → unwrap_or found page' ≡ unwrap_or found page
    by None page page' same = same refl
    by (Some there) page page' same = refl

-- a number without a page in the batch is none of its numbers
pub not_one_of : (batch : List Entry) (number : ℕ) → page_in batch number ≡ None → is_one_of (numbers batch) number ≡ false
not_one_of [] number none = refl
not_one_of (entry ∷ batch) number none = elim (eqb_tells number entry.0) [
  | inl is ↦ absurd (some_none entry.1 (sym (page_here entry batch number is.0) ∙ none))
  | inr other ↦
      let turned : eqb entry.0 number ≡ false = differ entry.0 number (λ same. other.1 (sym same)) in
      ap (λ b. b || is_one_of (numbers batch) number) turned ∙ not_one_of batch number (sym (page_later entry batch number other.0) ∙ none)
]
  where
    some_none : (page : List ℕ) → Some page ≡ None → ⊥
    some_none page same = none-some page (sym same)

    differ : (a b : ℕ) → a ≢ b → eqb a b ≡ false
    differ a b not_same = elim (eqb_tells a b) [ inl is ↦ absurd (not_same is.1) | inr is ↦ is.0 ]

-- and one with a page is
pub one_of : (batch : List Entry) (number : ℕ) → IsSome (page_in batch number) → is_one_of (numbers batch) number ≡ true
one_of [] number found = absurd (none_some found)
  where
    none_some : IsSome {T = List ℕ} None → ⊥
    none_some = λ nope. search rules
one_of (entry ∷ batch) number found = elim (eqb_tells number entry.0) [
  | inl is ↦ ap (λ b. b || is_one_of (numbers batch) number) (equal entry.0 number (sym is.1))
  | inr other ↦
      let turned : eqb entry.0 number ≡ false = differ entry.0 number (λ same. other.1 (sym same)) in
      let P : Option (List ℕ) → Type 0 = λ o. IsSome o in
      ap (λ b. b || is_one_of (numbers batch) number) turned ∙ one_of batch number (subst P (page_later entry batch number other.0) found)
]
  where
    differ : (a b : ℕ) → a ≢ b → eqb a b ≡ false
    differ a b not_same = elim (eqb_tells a b) [ inl is ↦ absurd (not_same is.1) | inr is ↦ is.0 ]

    equal : (a b : ℕ) → a ≡ b → eqb a b ≡ true
    equal a b same = elim (eqb_tells a b) [ inl is ↦ is.0 | inr is ↦ absurd (is.1 same) ]

-- one more page, of a number that the batch lacks
pub page_more : (batch : List Entry) (entry : Entry) (number : ℕ) → is_one_of (numbers batch) entry.0 ≡ false
    → page_in (batch ++ entry ∷ []) number ≡ (cond (eqb number entry.0) (Some entry.1) (page_in batch number))
page_more [] entry number new = refl
page_more (first ∷ batch) entry number new = elim (eqb_tells number first.0) [
  | inl is ↦
      let other : eqb number entry.0 ≡ false = differ number entry.0
      (λ same. by (eqb first.0 entry.0) (is_one_of (numbers batch) entry.0) new (equal first.0 entry.0 (sym is.1 ∙ same))) in
      page_here first (batch ++ entry ∷ []) number is.0
      ∙ sym (ap (λ b. cond b (Some entry.1) (page_in (first ∷ batch) number)) other ∙ page_here first batch number is.0)
  | inr is ↦
      page_later first (batch ++ entry ∷ []) number is.0
      ∙ page_more batch entry number (later (eqb first.0 entry.0) (is_one_of (numbers batch) entry.0) new)
      ∙ ap (λ o. cond (eqb number entry.0) (Some entry.1) o) (sym (page_later first batch number is.0))
]
  where
    differ : (a b : ℕ) → a ≢ b → eqb a b ≡ false
    differ a b not_same = elim (eqb_tells a b) [ inl is ↦ absurd (not_same is.1) | inr is ↦ is.0 ]

    equal : (a b : ℕ) → a ≡ b → eqb a b ≡ true
    equal a b same = elim (eqb_tells a b) [ inl is ↦ is.0 | inr is ↦ absurd (is.1 same) ]

    by : (a b : Bool) → (a || b) ≡ false → a ≡ true → ⊥
    by true b = λ nope is. search rules
    by false b = λ nope is. search rules

    later : (a b : Bool) → (a || b) ≡ false → b ≡ false
    later true b = λ nope. absurd (by true b nope refl)
    later false b = λ nope. nope

pub put_more : (batch : List Entry) (entry : Entry) (pages : Image) → is_one_of (numbers batch) entry.0 ≡ false
    → put_all (batch ++ entry ∷ []) pages ≡ put entry.0 entry.1 (put_all batch pages)
put_more batch entry pages new = fun_ext (λ number. ap (λ o. unwrap_or o (pages number)) (page_more batch entry number new)
    ∙ by (eqb number entry.0) entry.1 (page_in batch number) (pages number))
  where
    by : (b : Bool) (there : List ℕ) (found : Option (List ℕ)) (page : List ℕ)
        → unwrap_or (cond b (Some there) found) page ≡ cond b there (unwrap_or found page)
    by true there found page = refl
    by false there found page = refl

not_both : (b : Bool) → b ≡ false → IsTrue b → ⊥
not_both true = λ nope is. search rules
not_both false = λ nope is. search rules

pub same_number : (a b : ℕ) → a ≡ b → eqb a b ≡ true
same_number a b same = elim (eqb_tells a b) [ inl is ↦ is.0 | inr is ↦ absurd (is.1 same) ]

-- the number of each page of a batch is one of its numbers
pub one_of_at : (batch : List Entry) (at : ℕ) → at < length batch → is_one_of (numbers batch) (get_or batch at (0, [])).0 ≡ true
one_of_at batch at below =
    let there = get_or-map (λ (entry : Entry). entry.0) batch at (0, []) 0 below in
    list_any_at (λ n. eqb n (get_or batch at (0, [])).0) (numbers batch) at 0
    (omega (arith, below, length-map batch (λ (entry : Entry). entry.0)))
    (same_number (get_or (numbers batch) at 0) (get_or batch at (0, [])).0 there)

pub not_first : (a b : Bool) → IsTrue (not a && b) → a ≡ false
not_first true b = λ is. search rules
not_first false b = λ is. refl

pub not_rest : (a b : Bool) → IsTrue (not a && b) → IsTrue b
not_rest true b = λ is. search rules
not_rest false b = λ is. is

-- the number of a page is none of those before it
pub new_at : (batch : List Entry) (at : ℕ) → at < length batch → IsTrue (is_distinct (numbers batch))
    → is_one_of (numbers (take at batch)) (get_or batch at (0, [])).0 ≡ false
new_at [] at below distinct = absurd (omega (arith, below))
new_at (entry ∷ batch) zero below distinct = refl
new_at (entry ∷ batch) (suc at) below distinct =
    let n = (get_or batch at (0, [])).0 in
    let within : at < length batch = omega (arith, below) in
    let first = not_first (is_one_of (numbers batch) entry.0) (is_distinct (numbers batch)) distinct in
    let rest = new_at batch at within (not_rest (is_one_of (numbers batch) entry.0) (is_distinct (numbers batch)) distinct) in
    elim (eqb_tells entry.0 n) [
      | inl is ↦ absurd (both (is_one_of (numbers batch) entry.0) first (ap (λ m. is_one_of (numbers batch) m) is.1
          ∙ one_of_at batch at within))
      | inr is ↦ ap (λ b. b || is_one_of (numbers (take at batch)) n) is.0 ∙ rest
    ]
  where
    both : (b : Bool) → b ≡ false → b ≡ true → ⊥
    both true = λ nope is. search rules
    both false = λ nope is. search rules

-- one page after another is put in its place
pub put_step : (batch : List Entry) (at : ℕ) (pages : Image) → at < length batch → IsTrue (is_distinct (numbers batch))
    → put (get_or batch at (0, [])).0 (get_or batch at (0, [])).1 (put_all (take at batch) pages) ≡ put_all (take (at + 1) batch) pages
put_step batch at pages below distinct =
    let entry = get_or batch at (0, []) in
    sym (put_more (take at batch) entry pages (new_at batch at below distinct))
    ∙ ap (λ (l : List Entry). put_all l pages) (sym (take_more batch at (0, []) below))

-- numbers that are each below a count are all below it
pub all_below_from : (count : ℕ) (ns : List ℕ) → ((n : ℕ) → IsTrue (is_one_of ns n) → n < count) → IsTrue (all_below count ns)
all_below_from count [] each = refl
all_below_from count (n ∷ ns) each =
    let first : n < count = each n (ap (λ b. b || is_one_of ns n) (same_number n n refl)) in
    let rest = all_below_from count ns (λ m is. each m (ap (λ b. eqb n m || b) is ∙ or_true (eqb n m))) in
    ap (λ b. b && all_below count ns) (lt-ltb n count first) ∙ rest
  where
    or_true : (b : Bool) → (b || true) ≡ true
    or_true true = refl
    or_true false = refl

-- and the other way round
pub below_from_all : (count : ℕ) (ns : List ℕ) (n : ℕ) → IsTrue (all_below count ns) → IsTrue (is_one_of ns n) → n < count
below_from_all count [] n all is = absurd (nothing is)
  where
    nothing : IsTrue false → ⊥
    nothing = λ nope. search rules
below_from_all count (m ∷ ns) n all is = elim (cases_lt m count) [
  | inl below ↦ elim (eqb_tells m n) [
    | inl same ↦ omega (arith, below, same.1)
    | inr other ↦ below_from_all count ns n (rest (ltb m count) (all_below count ns) all) (later (eqb m n) (is_one_of ns n) other.0 is)
  ]
  | inr above ↦ absurd (none (ltb m count) (all_below count ns) (le-ltb m count above) all)
]
  where
    rest : (a b : Bool) → IsTrue (a && b) → IsTrue b
    rest true b = λ both. both
    rest false b = λ both. search rules

    later : (a b : Bool) → a ≡ false → IsTrue (a || b) → IsTrue b
    later true b = λ nope either. search rules
    later false b = λ nope either. either

    none : (a b : Bool) → a ≡ false → IsTrue (a && b) → ⊥
    none true b = λ nope both. search rules
    none false b = λ nope both. search rules

-- the numbers of a batch, by its pages
pub numbers_below : (count : ℕ) (batch : List Entry) → AllBelow count batch → IsTrue (all_below count (numbers batch))
numbers_below count batch below = all_below_from count (numbers batch) (λ n is. below n (found n is (page_in batch n) refl))
  where
    found : (n : ℕ) → IsTrue (is_one_of (numbers batch) n) → (o : Option (List ℕ)) → page_in batch n ≡ o → IsSome o
    found n is (Some page) = λ same. refl
    found n is None = λ same. absurd (not_both (is_one_of (numbers batch) n) (not_one_of batch n same) is)

-- the pages of a batch whose numbers lie below a count
pub pages_below : (count : ℕ) (batch : List Entry) → ((at : ℕ) → at < length batch → (get_or batch at (0, [])).0 < count)
    → AllBelow count batch
pages_below count [] each number found = absurd (nothing found)
  where
    nothing : IsSome {T = List ℕ} None → ⊥
    nothing = λ nope. search rules
pages_below count (entry ∷ batch) each number found = elim (eqb_tells number entry.0) [
  | inl is ↦ omega (arith, each 0 (omega arith), is.1)
  | inr other ↦
      let P : Option (List ℕ) → Type 0 = λ o. IsSome o in
      pages_below count batch (λ at below. each (suc at) (omega (arith, below))) number
      (subst P (page_later entry batch number other.0) found)
]
