-- Each series has a tree, beside which the pages of the others are in use.
use Rattle.std.proofs.Common.{◌≡◌, ◌≢◌, ℕ, ◌<◌, ◌≤◌, cond, eqb, List, [], ◌++◌, length, slice_get, Some, refl, sym, ap, ◌∙◌, arith}
use Rattle.std.proofs.lemmas.Bool.{ne_eqb, eq-eqb}
use Rattle.std.proofs.lemmas.Option.{slice_get_within}
use Rattle.block_disk.specs.View.{Image}
use Rattle.page_space.specs.declared.superblock.Superblock.{Superblock}
use Rattle.page_space.specs.Spaces.{times}
use Rattle.page_space.proofs.Counting.{times_append, once_given}
use Rattle.series_book.specs.declared.one_series.Series.{Series}
use Rattle.path_repair.specs.Edited.{IsHeldTree}
use Rattle.path_repair.proofs.SumLemmas.{times_in_join, times_swap}
use Rattle.path_repair.proofs.StayLemmas.{same_pages}
use Rattle.stored_book.specs.Records.{entry, tree_of, pages_of_tree, pages_of_trees, pages_of_others}
use Rattle.stored_book.specs.Standing.{IsStore}

-- the pages of the series of an id are left out
abbrev pub without : Image → ℕ → ℕ → List ℕ
without image id other = cond (eqb other id) [] (pages_of_tree image other)

pub left_out : (image : Image) (id : ℕ) → without image id id ≡ []
left_out image id = ap (λ b. cond b [] (pages_of_tree image id)) (eq-eqb id id refl)

pub left_in : (image : Image) (id other : ℕ) → other ≢ id → without image id other ≡ pages_of_tree image other
left_in image id other differ = ap (λ b. cond b [] (pages_of_tree image other)) (ne_eqb other id differ)

-- The pages of all trees are those of one and those of the others, where the others are trees of these pages or of
-- other ones.
pub with_others : (image old : Image) (count id p : ℕ) → id < count
    → ((c : ℕ) → c < count → c ≢ id → pages_of_tree image c ≡ pages_of_tree old c)
    → times p (pages_of_trees image count) ≡ times p (pages_of_tree image id ++ pages_of_others old count id)
with_others image old count id p within same =
    let swap = times_swap p (pages_of_tree image) (without old id) id count within (λ c low other. left_in old id c other
    ∙ sym (same c low other)) in
    omega (arith, swap, ap (λ l. times p l) (left_out old id), times_append p (pages_of_tree image id) (pages_of_others old count id))

-- the pages of a tree are behind the catalog
pub tree_behind : (image : Image) (s : Superblock) (book : List Series) (c p : ℕ) → IsStore image s book → c < length book
    → 0 < times p (pages_of_tree image c) → 17 ≤ p
tree_behind image s book c p store within there =
    (once_given s.fresh p (omega (arith, there, store.stands.parted p, times_in_join p (pages_of_tree image) c (length book) within))).0

-- and they are among those of the others
pub in_others : (image : Image) (count id c p : ℕ) → c < count → c ≢ id → 0 < times p (pages_of_tree image c)
    → 0 < times p (pages_of_others image count id)
in_others image count id c p within other there =
    omega (arith, there, ap (λ l. times p l) (left_in image id c other), times_in_join p (without image id) c count within)

pub held : (image : Image) (s : Superblock) (book : List Series) (id : ℕ) (series : Series) → IsStore image s book
    → slice_get book id ≡ Some series
    → IsHeldTree s.total image s (tree_of (entry image id)) series.slots (pages_of_others image (length book) id)
held image s book id series store there =
    let within : id < length book = slice_get_within book id series there in
    record {
      is_tree = (store.kept id series there).tree;
      freed = store.freed;
      stands = same_pages s.total image s (pages_of_trees image (length book))
          (pages_of_tree image id ++ pages_of_others image (length book) id) store.freed store.stands
          (λ p. with_others image image (length book) id p within (λ c low other. refl));
    }
