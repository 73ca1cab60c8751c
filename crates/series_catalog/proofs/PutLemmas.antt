-- A record is put into a transaction.
use Rattle.std.proofs.Common.{◌≡◌, ℕ, zero, suc, ◌<◌, ◌≤◌, ◌⊎◌, ◌&&◌, if◌then◌else◌, ◌==◌, cond, List, length, Some, IsTrue, unwrap_or}
use Rattle.std.proofs.Common.{refl, sym, ap, subst, arith, ◌∙◌, inl, inr}
use Rattle.std.proofs.lemmas.Bool.{and_parts, eq-eqb, leb-true}
use Rattle.std.specs.List.{list_all}
use Rattle.std.specs.Prelude.{nat_le}
use Rattle.block_disk.specs.View.{Image}
use Rattle.catalog_page.specs.Entries.{Entry, IsEntry}
use Rattle.catalog_page.specs.Layout.{KeepsLayout}
use Rattle.catalog_page.specs.Places.{page_of}
use Rattle.page_space.specs.declared.superblock.Superblock.{Superblock}
use Rattle.page_space.specs.declared.txn.Txn.{Txn}
use Rattle.page_space.specs.Spaces.{times, Stands}
use Rattle.page_space.specs.Transactions.{held_page, left_by}
use Rattle.page_space.proofs.Apart.{apart}
use Rattle.series_book.specs.Names.{is_name, is_name_byte}

pub name_short : (name : List ℕ) → IsTrue (is_name name) → length name ≤ 31
unfolding is_name
name_short name named =
    let parts = and_parts (nat_le 1 (length name) && nat_le (length name) 31) (list_all is_name_byte name) named in
    let sizes = and_parts (nat_le 1 (length name)) (nat_le (length name) 31) parts.0 in
    leb-true (length name) 31 sizes.1

-- the page that was put, where what it holds follows from what it held
pub put_keeps : (old new : Txn) (image : Image) (id page count count' fresh : ℕ) (bytes bytes' : List ℕ) (e e' : Entry) → page ≡ page_of id
    → bytes ≡ left_by old image page
    → held_page new page ≡ (if page == page then Some bytes' else held_page old page) → e ≡ e'
    → (IsEntry fresh e → KeepsLayout count fresh bytes → KeepsLayout count' fresh bytes') → IsEntry fresh e'
    → KeepsLayout count fresh (left_by old image (page_of id)) → KeepsLayout count' fresh (left_by new image (page_of id))
put_keeps old new image id page count count' fresh bytes bytes' e e' at read put same keeps is kept =
    let held : held_page new page ≡ Some bytes' = put ∙ ap (λ b. cond b (Some bytes') (held_page old page)) (eq-eqb page page refl) in
    let P : ℕ → Type 0 = λ p. KeepsLayout count fresh (left_by old image p) in
    let Q : ℕ → Type 0 = λ p. KeepsLayout count' fresh (left_by new image p) in
    let was : KeepsLayout count fresh bytes = subst (λ b. KeepsLayout count fresh b) (sym read) (subst P (sym at) kept) in
    let now : KeepsLayout count' fresh bytes' = keeps (subst (λ one. IsEntry fresh one) (sym same) is) was in
    subst Q at (subst (λ b. KeepsLayout count' fresh b) (sym (ap (λ o. unwrap_or o (image page)) held)) now)

zero_or_more : (n : ℕ) → (n ≡ 0) ⊎ (0 < n)
zero_or_more zero = inl refl
zero_or_more (suc n) = inr (omega arith)

-- a page of the catalog is none of the freed ones
pub none_freed : (count : ℕ) (image : Image) (s : Superblock) (taken freed : List ℕ) (p : ℕ) → p ≤ 16 → Stands count image s taken freed
    → times p freed ≡ 0
none_freed count image s taken freed p low stands =
    let is = apart count image s taken freed p stands in
    elim (zero_or_more (times p freed)) [
      | inl none ↦ none
      | inr some ↦ omega (arith, low, (is.given (omega (arith, some))).0)
    ]
