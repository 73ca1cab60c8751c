-- The pages of an empty store, one after another.
use Rattle.std.proofs.Common.{◌≡◌, ◌≢◌, ℕ, zero, suc, ◌+◌, ◌≤◌, cond, eqb, List, length, Some, None, refl, sym, ap, arith, ◌∙◌, is_some}
use Rattle.std.proofs.lemmas.Bool.{ne_eqb}
use Rattle.gate_pages.specs.Batch.{Entry, page_in}
use Rattle.page_space.specs.Firsts.{first_page, first_below}
use Rattle.page_space.specs.Layout.{superblock_page, catalog_page, empty_of}

-- the pages below a number hold none from it on
pub none_below : (count n p : ℕ) → n ≤ p → page_in (first_below count n) p ≡ None
none_below count zero p from = refl
none_below count (suc n) p from =
    let other : p ≢ n = λ same. omega (arith, same, from) in
    ap (λ b. cond b (Some (first_page count n)) (page_in (first_below count n) p)) (ne_eqb p n other)
    ∙ none_below count n p (omega (arith, from))

pub catalog_at : (count p : ℕ) → 1 ≤ p → first_page count p ≡ catalog_page
catalog_at count p from = ap (λ b. cond b (superblock_page (empty_of count)) catalog_page) (ne_eqb p 0 (λ none. omega (arith, none, from)))

-- one more page of the catalog is put
pub first_more : (count n : ℕ) (old new : List Entry) (page : List ℕ) → 1 ≤ n → page ≡ catalog_page
    → ((p : ℕ) → page_in new p ≡ cond (eqb p n) (Some page) (page_in old p))
    → ((p : ℕ) → page_in old p ≡ page_in (first_below count n) p) → (p : ℕ) → page_in new p ≡ page_in (first_below count (n + 1)) p
first_more count n old new page from is put was p =
    let more : n + 1 ≡ suc n = omega arith in
    put p
    ∙ ap (λ o. cond (eqb p n) (Some page) o) (was p)
    ∙ ap (λ l. cond (eqb p n) (Some l) (page_in (first_below count n) p)) (is ∙ sym (catalog_at count n from))
    ∙ ap (λ m. page_in (first_below count m) p) (sym more)

pub one_longer : (count n : ℕ) (old new : List Entry) → length new ≡ cond (is_some (page_in old n)) (length old) (length old + 1)
    → ((p : ℕ) → page_in old p ≡ page_in (first_below count n) p) → length old ≡ n → length new ≡ n + 1
one_longer count n old new put was long =
    let none : page_in old n ≡ None = was n ∙ none_below count n n (omega arith) in
    put ∙ ap (λ o. cond (is_some o) (length old) (length old + 1)) none ∙ ap (λ m. m + 1) long
