-- What the streams beside a store leave as it is.
use Rattle.std.specs.Prelude.{◌≡◌}
use Rattle.std.proofs.Common.{◌∙◌, refl}
use Rattle.page_space.specs.declared.superblock.Superblock.{Superblock}
use Rattle.series_catalog.specs.declared.catalog.Catalog.{Catalog}
use Rattle.tree_walk.specs.declared.tree.Tree.{Tree}
use Rattle.tree_walk.specs.declared.trail.Trail.{Trail}

-- what a store has beside its pages
pub record Kept : Type 0 where
  pub superblock : Superblock
  pub catalog : Catalog
  pub tree : Tree
  pub trail : Trail

-- the pages change so, and all else stays
pub record KeepsBeside (pages : Type 0) (old new : Kept) : Type 0 where
  pub pages_are : pages
  pub superblock : new.superblock ≡ old.superblock
  pub catalog : new.catalog ≡ old.catalog
  pub tree : new.tree ≡ old.tree
  pub trail : new.trail ≡ old.trail

abbrev pub kept : Superblock → Catalog → Tree → Trail → Kept
kept superblock catalog tree trail = record { superblock = superblock; catalog = catalog; tree = tree; trail = trail }

pub beside_none : (pages : Type 0) (at : Kept) → pages → KeepsBeside pages at at
beside_none pages at are = record { pages_are = are; superblock = refl; catalog = refl; tree = refl; trail = refl }

pub beside_then : (one two both : Type 0) (old between new : Kept) → (one → two → both) → KeepsBeside one old between
    → KeepsBeside two between new → KeepsBeside both old new
beside_then one two both old between new join first second = record {
  pages_are = join first.pages_are second.pages_are;
  superblock = second.superblock ∙ first.superblock;
  catalog = second.catalog ∙ first.catalog;
  tree = second.tree ∙ first.tree;
  trail = second.trail ∙ first.trail;
}

pub beside_so : (one two : Type 0) (old new : Kept) → (one → two) → KeepsBeside one old new → KeepsBeside two old new
beside_so one two old new more kept = record {
  pages_are = more kept.pages_are;
  superblock = kept.superblock;
  catalog = kept.catalog;
  tree = kept.tree;
  trail = kept.trail;
}
