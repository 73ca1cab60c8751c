-- A batch's entries.
use Rattle.std.proofs.Common.{◌≡◌, ◌≢◌, ℕ, zero, suc, ◌+◌, ◌≤◌, ◌<◌, List, ◌∷◌, ◌++◌, length, map, take, set, get_or, [], Option, Some}
use Rattle.std.proofs.Common.{None, Bool, true, false, cond, eqb, ltb, not, is_some, ◌&&◌, ◌||◌, IsTrue, refl, arith, rules, inl, inr, ◌∙◌}
use Rattle.std.proofs.Common.{ap, sym}
use Rattle.std.proofs.lemmas.Bool.{cases_lt, lt-ltb, le-ltb}
use Rattle.std.proofs.lemmas.Bool.Decides.{eqb_tells}
use Rattle.std.proofs.lemmas.List.Folds.{list_any-append}
use Rattle.std.proofs.lemmas.List.{length-map, length-take, get_or-map, get_or-take, take_more_set, map-append}
use Rattle.gate_pages.specs.Batch.{Entry, page_in, numbers, is_one_of, is_distinct, AllBelow}
use Rattle.gate_pages.specs.Batches.{entry_of, entries_of}
use Rattle.gate_pages.specs.declared.page.Page.{Page}
use Rattle.gate_pages.proofs.Puts.{page_here, page_later, page_more, same_number, not_first, not_rest, not_one_of, one_of_at}
use Rattle.gate_pages.proofs.Puts.{below_from_all, numbers_below}

pub length_entries : (len : ℕ) (pages : List Page) → len ≤ length pages → length (entries_of len pages) ≡ len
length_entries len pages within = length-map (take len pages) entry_of ∙ omega (arith, length-take len pages)

pub few_entries : (len : ℕ) (pages : List Page) → len ≤ 64 → length (entries_of len pages) ≤ 64
few_entries len pages within = omega (arith, length-map (take len pages) entry_of, length-take len pages)

pub entry_at : (len : ℕ) (pages : List Page) (at : ℕ) (page : Page) → at < len → len ≤ length pages
    → get_or (entries_of len pages) at (0, []) ≡ entry_of (get_or pages at page)
entry_at len pages at page below within =
    get_or-map entry_of (take len pages) at page (0, []) (omega (arith, length-take len pages))
    ∙ ap entry_of (get_or-take len pages at page below)

-- a page's number, as the batch's entry has it
pub number_at : (len : ℕ) (pages : List Page) (at : ℕ) (page : Page) → at < len → len ≤ length pages → page ≡ get_or pages at page
    → (get_or (entries_of len pages) at (0, [])).0 ≡ page.number
number_at len pages at page below within is = ap (λ (e : Entry). e.0) (entry_at len pages at page below within ∙ ap entry_of (sym is))

pub absent : (batch : List Entry) (p : ℕ) → ((k : ℕ) → k < length batch → (get_or batch k (0, [])).0 ≢ p) → page_in batch p ≡ None
absent [] p none = refl
absent (entry ∷ batch) p none = elim (eqb_tells p entry.0) [
  | inl is ↦ absurd (none 0 (omega arith) (sym is.1))
  | inr other ↦ page_later entry batch p other.0 ∙ absent batch p (λ k below. none (suc k) (omega (arith, below)))
]

-- the first page of a number is the one that a batch has
pub present : (batch : List Entry) (at p : ℕ) → at < length batch → (get_or batch at (0, [])).0 ≡ p
    → ((k : ℕ) → k < at → (get_or batch k (0, [])).0 ≢ p) → page_in batch p ≡ Some (get_or batch at (0, [])).1
present [] at p below is none = absurd (omega (arith, below))
present (entry ∷ batch) zero p below is none = page_here entry batch p (same_number p entry.0 (sym is))
present (entry ∷ batch) (suc at) p below is none = elim (eqb_tells p entry.0) [
  | inl same ↦ absurd (none 0 (omega arith) (sym same.1))
  | inr other ↦ page_later entry batch p other.0 ∙ present batch at p (omega (arith, below)) is (λ k low. none (suc k) (omega (arith, low)))
]

-- another page in the place of one of the same number
pub numbers_set : (batch : List Entry) (at : ℕ) (entry : Entry) → at < length batch → entry.0 ≡ (get_or batch at (0, [])).0
    → numbers (set batch at entry) ≡ numbers batch
numbers_set [] at entry below same = absurd (omega (arith, below))
numbers_set (first ∷ batch) zero entry below same = ap (λ n. n ∷ numbers batch) same
numbers_set (first ∷ batch) (suc at) entry below same = ap (λ (l : List ℕ). first.0 ∷ l)
    (numbers_set batch at entry (omega (arith, below)) same)

pub page_set : (batch : List Entry) (at : ℕ) (entry : Entry) (q : ℕ) → at < length batch → (get_or batch at (0, [])).0 ≡ entry.0
    → ((k : ℕ) → k < at → (get_or batch k (0, [])).0 ≢ entry.0)
    → page_in (set batch at entry) q ≡ cond (eqb q entry.0) (Some entry.1) (page_in batch q)
page_set [] at entry q below same none = absurd (omega (arith, below))
page_set (first ∷ batch) zero entry q below same none = by (eqb q entry.0) refl
  where
    by : (b : Bool) → eqb q entry.0 ≡ b → page_in (entry ∷ batch) q ≡ cond (eqb q entry.0) (Some entry.1) (page_in (first ∷ batch) q)
    by true is = page_here entry batch q is ∙ sym (ap (λ b. cond b (Some entry.1) (page_in (first ∷ batch) q)) is)
    by false is =
        page_later entry batch q is
        ∙ sym (page_later first batch q (ap (λ n. eqb q n) same ∙ is))
        ∙ sym (ap (λ b. cond b (Some entry.1) (page_in (first ∷ batch) q)) is)
page_set (first ∷ batch) (suc at) entry q below same none = by
    (page_set batch at entry q (omega (arith, below)) same (λ k low. none (suc k) (omega (arith, low)))) (eqb q first.0) refl
  where
    clash : (c : Bool) → c ≡ true → c ≡ false → ⊥
    clash true = λ is nope. search rules
    clash false = λ is nope. search rules

    other : eqb q first.0 ≡ true → eqb q entry.0 ≡ false
    other is = elim (eqb_tells q entry.0) [
      | inl both ↦ elim (eqb_tells q first.0) [
        | inl here ↦ absurd (none 0 (omega arith) (sym here.1 ∙ both.1))
        | inr not_here ↦ absurd (clash (eqb q first.0) is not_here.0)
      ]
      | inr not_both ↦ not_both.0
    ]

    by : page_in (set batch at entry) q ≡ cond (eqb q entry.0) (Some entry.1) (page_in batch q) → (b : Bool) → eqb q first.0 ≡ b
        → page_in (first ∷ set batch at entry) q ≡ cond (eqb q entry.0) (Some entry.1) (page_in (first ∷ batch) q)
    by rest true is = page_here first (set batch at entry) q is
        ∙ sym (ap (λ b. cond b (Some entry.1) (page_in (first ∷ batch) q)) (other is) ∙ page_here first batch q is)
    by rest false is =
        page_later first (set batch at entry) q is
        ∙ rest
        ∙ ap (λ o. cond (eqb q entry.0) (Some entry.1) o) (sym (page_later first batch q is))

-- one more number, that wasn't there
pub distinct_more : (ns : List ℕ) (n : ℕ) → is_one_of ns n ≡ false → IsTrue (is_distinct ns) → IsTrue (is_distinct (ns ++ n ∷ []))
distinct_more [] n new distinct = refl
distinct_more (m ∷ ns) n new distinct =
    let here : eqb m n ≡ false = or_first (eqb m n) (is_one_of ns n) new in
    let rest = distinct_more ns n (or_rest (eqb m n) (is_one_of ns n) new) (not_rest (is_one_of ns m) (is_distinct ns) distinct) in
    let first : is_one_of (ns ++ n ∷ []) m ≡ false = list_any-append (λ k. eqb k m) ns (n ∷ [])
    ∙ both (is_one_of ns m) (eqb n m) (not_first (is_one_of ns m) (is_distinct ns) distinct) (turned n m here) in
    ap (λ b. not b && is_distinct (ns ++ n ∷ [])) first ∙ rest
  where
    or_first : (a b : Bool) → (a || b) ≡ false → a ≡ false
    or_first true b = λ nope. nope
    or_first false b = λ nope. refl

    or_rest : (a b : Bool) → (a || b) ≡ false → b ≡ false
    or_rest true true = λ nope. nope
    or_rest true false = λ nope. refl
    or_rest false b = λ nope. nope

    both : (a b : Bool) → a ≡ false → b ≡ false → (a || (b || false)) ≡ false
    both true b = λ no_a no_b. no_a
    both false true = λ no_a no_b. no_b
    both false false = λ no_a no_b. refl

    clash : (c : Bool) → c ≡ true → c ≡ false → ⊥
    clash true = λ is nope. search rules
    clash false = λ is nope. search rules

    turned : (a b : ℕ) → eqb b a ≡ false → eqb a b ≡ false
    turned a b is = elim (eqb_tells a b) [ inl same ↦ absurd (clash (eqb b a) (same_number b a (sym same.1)) is) | inr other ↦ other.0 ]

-- a page is set, or added
pub entries_set : (len : ℕ) (pages : List Page) (at : ℕ) (page : Page) → at < len → len ≤ length pages
    → entries_of len (set pages at page) ≡ set (entries_of len pages) at (entry_of page)
entries_set zero pages at page below within = absurd (omega (arith, below))
entries_set (suc len) [] at page below within = absurd (omega (arith, within))
entries_set (suc len) (first ∷ pages) zero page below within = refl
entries_set (suc len) (first ∷ pages) (suc at) page below within = ap (λ (l : List Entry). entry_of first ∷ l)
    (entries_set len pages at page (omega (arith, below)) (omega (arith, within)))

pub entries_more : (len at : ℕ) (pages : List Page) (page : Page) → at ≡ len → len < length pages
    → entries_of (len + 1) (set pages at page) ≡ entries_of len pages ++ entry_of page ∷ []
entries_more len at pages page is below =
    ap (λ n. entries_of (len + 1) (set pages n page)) is
    ∙ ap (λ l. map entry_of l) (take_more_set pages len page below)
    ∙ map-append entry_of (take len pages) (page ∷ [])

module _ (len at p : ℕ) (pages : List Page) (within : len ≤ length pages) (at_most : at ≤ len) (before : (k : ℕ) → k < at
    → (get_or (entries_of len pages) k (0, [])).0 ≢ p) where
  -- where it stands behind the last page, the number has no page
  pub none_there : at ≡ len → page_in (entries_of len pages) p ≡ None
  none_there is = absent (entries_of len pages) p (λ k below. before k (omega (arith, is, below, length_entries len pages within)))

  pub some_there : at < len → (get_or (entries_of len pages) at (0, [])).0 ≡ p
      → page_in (entries_of len pages) p ≡ Some (get_or (entries_of len pages) at (0, [])).1
  some_there below found = present (entries_of len pages) at p (omega (arith, below, length_entries len pages within)) found before

  -- whether a page of the number is there
  pub has_is : (at < len → (get_or (entries_of len pages) at (0, [])).0 ≡ p) → ltb at len ≡ is_some (page_in (entries_of len pages) p)
  has_is found = elim (cases_lt at len) [
    | inl below ↦ lt-ltb at len below ∙ sym (ap (λ (o : Option (List ℕ)). is_some o) (some_there below (found below)))
    | inr above ↦ le-ltb at len above ∙ sym (ap (λ (o : Option (List ℕ)). is_some o) (none_there (omega (arith, above, at_most))))
  ]

  module _ (page : Page) (bytes : List ℕ) (number_is : page.number ≡ p) (bytes_are : page.bytes.items ≡ bytes) where
    entry_is : entry_of page ≡ (p, bytes)
    entry_is = ap (λ n. (n, page.bytes.items)) number_is ∙ ap (λ (b : List ℕ). (p, b)) bytes_are

    pub added : at ≡ len → len < length pages → entries_of (len + 1) (set pages at page) ≡ entries_of len pages ++ (p, bytes) ∷ []
    added is below = entries_more len at pages page is below ∙ ap (λ (e : Entry). entries_of len pages ++ e ∷ []) entry_is

    pub added_distinct : at ≡ len → len < length pages → IsTrue (is_distinct (numbers (entries_of len pages)))
        → IsTrue (is_distinct (numbers (entries_of (len + 1) (set pages at page))))
    added_distinct is below distinct =
        let more = distinct_more (numbers (entries_of len pages)) p (not_one_of (entries_of len pages) p (none_there is)) distinct in
        let all : numbers (entries_of (len + 1) (set pages at page)) ≡ numbers (entries_of len pages) ++ p ∷ [] =
        ap (λ (l : List Entry). numbers l) (added is below) ∙ map-append (λ (e : Entry). e.0) (entries_of len pages) ((p, bytes) ∷ []) in
        ap (λ l. is_distinct l) all ∙ more

    pub added_page : (q : ℕ) → at ≡ len → len < length pages
        → page_in (entries_of (len + 1) (set pages at page)) q ≡ cond (eqb q p) (Some bytes) (page_in (entries_of len pages) q)
    added_page q is below = ap (λ (l : List Entry). page_in l q) (added is below)
        ∙ page_more (entries_of len pages) (p, bytes) q (not_one_of (entries_of len pages) p (none_there is))

    pub kept : at < len → entries_of len (set pages at page) ≡ set (entries_of len pages) at (p, bytes)
    kept below = entries_set len pages at page below within ∙ ap (λ (e : Entry). set (entries_of len pages) at e) entry_is

    pub kept_distinct : at < len → (get_or (entries_of len pages) at (0, [])).0 ≡ p → IsTrue (is_distinct (numbers (entries_of len pages)))
        → IsTrue (is_distinct (numbers (entries_of len (set pages at page))))
    kept_distinct below found distinct =
        ap (λ (l : List Entry). is_distinct (numbers l)) (kept below)
        ∙ ap (λ l. is_distinct l) (numbers_set (entries_of len pages) at (
          p,
          bytes,
        ) (omega (arith, below, length_entries len pages within)) (sym found)) ∙ distinct

    pub kept_page : (q : ℕ) → at < len → (get_or (entries_of len pages) at (0, [])).0 ≡ p
        → page_in (entries_of len (set pages at page)) q ≡ cond (eqb q p) (Some bytes) (page_in (entries_of len pages) q)
    kept_page q below found =
        ap (λ (l : List Entry). page_in l q) (kept below)
        ∙ page_set (entries_of len pages) at (p, bytes) q (omega (arith, below, length_entries len pages within)) found before

-- the number of each page of a batch below a count is below it
pub below_at : (count : ℕ) (batch : List Entry) (at : ℕ) → at < length batch → AllBelow count batch → (get_or batch at (0, [])).0 < count
below_at count batch at below all = below_from_all count (numbers batch) (get_or batch at (0, [])).0 (numbers_below count batch all)
    (one_of_at batch at below)
