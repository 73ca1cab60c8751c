-- The pages in use are as many as the book needs.
use Rattle.std.proofs.Common.{◌≡◌, ℕ, ℤ, zero, suc, ◌+◌, ◌-◌, ◌<◌, ◌≤◌, List, [], ◌∷◌, ◌++◌, length, take, Option, Some, sym, ap, sum_by}
use Rattle.std.proofs.Common.{get_or, arith, ◌∙◌}
use Rattle.std.specs.List.{slice_get}
use Rattle.std.proofs.lemmas.List.{length-append, take_all}
use Rattle.std.proofs.lemmas.List.Sums.{sum_by_more}
use Rattle.std.proofs.lemmas.Option.{slice_get-get_or}
use Rattle.block_disk.specs.View.{Image}
use Rattle.om3_coeff.specs.Keys.{page_levels}
use Rattle.catalog_page.specs.Entries.{Entry}
use Rattle.page_space.specs.declared.superblock.Superblock.{Superblock}
use Rattle.page_space.specs.Layout.{in_use}
use Rattle.page_space.specs.Spaces.{once, Stands}
use Rattle.page_space.proofs.Counting.{times_append, count_given}
use Rattle.series_book.specs.declared.limits.TheConstants.{MOST_SLOTS}
use Rattle.series_book.specs.declared.one_series.Series.{Series}
use Rattle.series_book.specs.Edits.{with_slots}
use Rattle.series_book.specs.Pages.{series_pages, pages_of}
use Rattle.series_book.proofs.BookLemmas.{IsSeries-there, pages_of-set}
use Rattle.path_repair.specs.Sums.{sum_below}
use Rattle.path_repair.specs.TreePages.{tree_pages}
use Rattle.path_repair.specs.Edited.{IsFullFor}
use Rattle.path_repair.proofs.SumLemmas.{sum_suc, sum_none, length_join}
use Rattle.path_repair.proofs.CountLemmas.{pages_length}
use Rattle.stored_book.specs.Records.{entry, pages_of_tree}
use Rattle.stored_book.specs.Standing.{IsKept, IsStore, StandsForBook}
use Rattle.stored_book.proofs.PageCounts.{counts_same}

-- the catalog and page 0 are in use beside the pages of the trees
pub in_use_is : (count : ℕ) (image : Image) (s : Superblock) (taken freed : List ℕ) → Stands count image s taken freed
    → in_use s ≡ 17 + length taken
in_use_is count image s taken freed stands =
    let fresh : 17 + (s.fresh - 17) ≡ s.fresh = omega (arith, stands.rules.fresh_low) in
    let all = count_given (s.fresh - 17) (taken ++ freed) (λ p. times_append p taken freed ∙ stands.parted p
    ∙ ap (λ f. once f p) (sym fresh)) in
    omega (arith, fresh, all, length-append taken freed, stands.chain_is)

-- a sum over the items of a list
sum_first : {X : Type 0} (f : X → ℕ) (g : ℕ → ℕ) (xs : List X) (d : X) (n : ℕ) → ((i : ℕ) (x : X) → slice_get xs i ≡ Some x → g i ≡ f x)
    → n ≤ length xs
    → sum_below g n ≡ sum_by f (take n xs)
sum_first {X} f g xs d zero each few = sum_none g
sum_first {X} f g xs d (suc n) each few =
    let next : n + 1 ≡ suc n = omega arith in
    omega (
      arith,
      sum_suc g n,
      sum_first f g xs d n each (omega (arith, few)),
      sum_by_more f xs n d (omega (arith, few)),
      each n (get_or xs n d) (slice_get-get_or xs n d (omega (arith, few))),
      ap (λ k. sum_by f (take k xs)) next,
    )

sum_all : {X : Type 0} (f : X → ℕ) (g : ℕ → ℕ) (xs : List X) → ((i : ℕ) (x : X) → slice_get xs i ≡ Some x → g i ≡ f x)
    → sum_below g (length xs) ≡ sum_by f xs
sum_all {X} f g [] each = sum_none g
sum_all {X} f g (x ∷ xs) each = sum_first f g (x ∷ xs) x (length (x ∷ xs)) each (omega arith)
    ∙ ap (sum_by f) (take_all (length (x ∷ xs)) (x ∷ xs) (omega arith))

-- a tree has as many pages as the book says
tree_has : (image : Image) (total : ℕ) (series : Series) (e : Entry) → length series.slots ≤ MOST_SLOTS → IsKept image total series e
    → length (tree_pages image (page_levels e.slots) e.root) ≡ series_pages series.slots
tree_has image total series e few kept =
    ap (λ n. length (tree_pages image (page_levels n) e.root)) kept.tree.slots
    ∙ pages_length image total series.slots (page_levels (length series.slots)) 0 e.root kept.tree.pages
    ∙ counts_same series.slots few

pub in_use_of : (image : Image) (s : Superblock) (book : List Series) → IsStore image s book → in_use s ≡ pages_of book
unfolding pages_of
in_use_of image s book is =
    let each : (id : ℕ) (series : Series) → slice_get book id ≡ Some series → length (pages_of_tree image id) ≡ series_pages series.slots =
    λ id series there. tree_has image s.total series (entry image id) (IsSeries-there book id series is.is_book there).slots_in_range
    (is.kept id series there) in
    omega (
      arith,
      in_use_is s.total image s _ is.freed is.stands,
      length_join (pages_of_tree image) (length book),
      sum_all (λ (series : Series). series_pages series.slots) (λ id. length (pages_of_tree image id)) book each,
    )

-- and they are no more than there are
pub few_in_use : (image : Image) (total : ℕ) (book : List Series) → StandsForBook image total book → pages_of book ≤ total
few_in_use image total book stands =
    omega (arith, in_use_of image stands.superblock book stands.store, stands.store.stands.rules.fresh_high, stands.total_is)

-- a tree that wants pages wants those that its book lacks
pub full_book : (image : Image) (s : Superblock) (book : List Series) (id : ℕ) (series : Series) (slots : List (Option ℤ)) (needed have : ℕ)
    → IsStore image s book → slice_get book id ≡ Some series → length slots ≤ MOST_SLOTS
    → IsFullFor s.total (in_use s) series.slots slots needed have
    → (pages_of (with_slots book id series slots) ≡ needed) × (have ≡ s.total) × (s.total < needed)
full_book image s book id series slots needed have is there few full =
    let old = counts_same series.slots (IsSeries-there book id series is.is_book there).slots_in_range in
    let new = counts_same slots few in (
      omega (arith, pages_of-set book id series (record series { slots = slots }) there, full.needs, in_use_of image s book is, old, new),
      full.has,
      full.more,
    )
