-- The tree of a series is changed.
use Rattle.std.proofs.Common.{◌≡◌, ℕ, ℤ, ◌+◌, ◌<◌, ◌≤◌, ◌⊎◌, max, List, [], length, slice_get, Option, Some, All, IsSome, false, sym, subst}
use Rattle.std.proofs.Common.{◌∙◌, arith, inl, inr}
use Rattle.std.proofs.lemmas.Bool.{cases_lt}
use Rattle.block_disk.specs.View.{Image}
use Rattle.page_space.specs.declared.superblock.Superblock.{Superblock}
use Rattle.path_repair.specs.Changes.{IsEdited}
use Rattle.path_repair.specs.Edited.{IsHeldTree}
use Rattle.catalog_page.specs.Entries.{Entry, IsEntry}
use Rattle.series_book.specs.declared.one_series.Series.{Series}
use Rattle.series_book.specs.Books.{IsSeries}
use Rattle.series_book.specs.Edits.{is_too_large, overwritten, cleared}
use Rattle.series_book.proofs.BookLemmas.{IsSeries-there}
use Rattle.series_catalog.specs.declared.stored_series.StoredSeries.{StoredSeries}
use Rattle.series_catalog.specs.Catalogs.{entry_of}
use Rattle.stored_book.proofs.TreesLemmas.{held}
use Rattle.stored_book.specs.Records.{entry, tree_of, pages_of_others}
use Rattle.stored_book.specs.Standing.{IsStore}
use Rattle.series_store.proofs.SlotLemmas.{overwritten_edited, cleared_edited}

-- a root is one of the pages
pub root_below : (fresh total : ℕ) (e : Entry) → IsEntry fresh e → fresh ≤ total → 62 ≤ total → e.root < total
root_below fresh total e is below many = elim (cases_lt 0 e.root) [
  | inl some ↦ omega (arith, some, is.root.high (λ none. omega (arith, some, none)), below)
  | inr none ↦ omega (arith, none, many)
]

in_range : (image : Image) (s : Superblock) (book : List Series) (id : ℕ) (series : Series) → IsStore image s book
    → slice_get book id ≡ Some series → All (λ value. is_too_large value ≡ false) series.slots
in_range image s book id series store there =
    let is : IsSeries series = IsSeries-there book id series store.is_book there in
    is.values_in_range

pub own_tree : (image : Image) (s : Superblock) (book : List Series) (id : ℕ) (series : Series) (one : StoredSeries) → IsStore image s book
    → slice_get book id ≡ Some series → entry image id ≡ entry_of one
    → IsHeldTree s.total image s one.tree series.slots (pages_of_others image (length book) id)
own_tree image s book id series one store there told =
    let P : Entry → Type 0 = λ e. IsHeldTree s.total image s (tree_of e) series.slots (pages_of_others image (length book) id) in
    subst P told (held image s book id series store there)

-- what is put into the slots of a series is put into those of its tree
pub put_edited : (image : Image) (s : Superblock) (book : List Series) (id : ℕ) (series : Series) (one : StoredSeries) (slot : ℕ)
    (run : List (Option ℤ)) → IsStore image s book → slice_get book id ≡ Some series → entry image id ≡ entry_of one
    → All (λ value. is_too_large value ≡ false) run → ((slot ≡ one.tree.slots) ⊎ All (λ value. IsSome value) run)
    → IsEdited slot (slot + length run) (max one.tree.slots (slot + length run)) run series.slots (overwritten series.slots slot run)
put_edited image s book id series one slot run store there told fit whole =
    let long : one.tree.slots ≡ length series.slots = (own_tree image s book id series one store there told).is_tree.slots in
    let P : ℕ → Type 0 = λ n. IsEdited slot (slot + length run) (max n (slot + length run)) run series.slots
    (overwritten series.slots slot run) in
    let at : (slot ≡ length series.slots) ⊎ All (λ value. IsSome value) run = elim whole [ inl end ↦ inl (end ∙ long) | inr all ↦ inr all ]
    in
    subst P (sym long) (overwritten_edited series.slots run slot (in_range image s book id series store there) fit at)

pub clear_edited : (image : Image) (s : Superblock) (book : List Series) (id : ℕ) (series : Series) (one : StoredSeries) (slot count : ℕ)
    → IsStore image s book → slice_get book id ≡ Some series → entry image id ≡ entry_of one
    → slot + count ≤ one.tree.slots → IsEdited slot (slot + count) one.tree.slots [] series.slots (cleared series.slots slot count)
clear_edited image s book id series one slot count store there told room =
    let long : one.tree.slots ≡ length series.slots = (own_tree image s book id series one store there told).is_tree.slots in
    let P : ℕ → Type 0 = λ n. IsEdited slot (slot + count) n [] series.slots (cleared series.slots slot count) in
    subst P (sym long) (cleared_edited series.slots slot count (in_range image s book id series store there) (omega (arith, room, long)))
