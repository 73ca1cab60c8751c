-- What the catalog says of each series, and the pages of its tree.
use Rattle.std.specs.Prelude.{ℕ, ◌==◌, if◌then◌else◌, List, []}
use Rattle.block_disk.specs.View.{Image}
use Rattle.om3_coeff.specs.Keys.{page_levels}
use Rattle.catalog_page.specs.Entries.{Entry, entry_at}
use Rattle.catalog_page.specs.Places.{page_of, number_of}
use Rattle.tree_walk.specs.declared.tree.Tree.{Tree}
use Rattle.path_repair.specs.Sums.{join_below}
use Rattle.path_repair.specs.TreePages.{tree_pages}

-- what the record of the series of an id says
abbrev pub entry : Image → ℕ → Entry
entry image id = entry_at (image (page_of id)) (number_of id)

-- the tree that a record names
abbrev pub tree_of : Entry → Tree
tree_of e = record { slots = e.slots; root = e.root; span = e.span }

-- the pages of the tree of the series of an id
abbrev pub pages_of_tree : Image → ℕ → List ℕ
pages_of_tree image id = tree_pages image (page_levels (entry image id).slots) (entry image id).root

-- the pages of the trees of the first so many series
abbrev pub pages_of_trees : Image → ℕ → List ℕ
pages_of_trees image count = join_below (pages_of_tree image) count

-- those without the pages of one of them
abbrev pub pages_of_others : Image → ℕ → ℕ → List ℕ
pages_of_others image count id = join_below (λ other. if other == id then [] else pages_of_tree image other) count
