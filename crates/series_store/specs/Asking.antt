-- A store as the nodes of a series' tree, and what it tells of a series.
use Rattle.std.specs.Prelude.{ℕ, ◌≡◌, ◌<◌, List, Some, length, slice_get}
use Rattle.block_disk.specs.View.{View}
use Rattle.om3_coeff.specs.Keys.{top_key}
use Rattle.om3_coeff.specs.Spans.{span}
use Rattle.series_book.specs.declared.one_series.Series.{Series}
use Rattle.series_book.specs.Edits.{id_of}
use Rattle.series_catalog.specs.declared.catalog.Catalog.{Catalog}
use Rattle.series_catalog.specs.declared.stored_series.StoredSeries.{StoredSeries}
use Rattle.stored_book.specs.Damage.{IsBadForRequest}
use Rattle.tree_walk.specs.declared.tree.Tree.{Tree}
use Rattle.tree_walk.specs.PagedNodes.{Ground, Keeps, pages_keep, pages_keep_on}
use Rattle.std.proofs.Common.{refl, ◌∙◌}
use Rattle.series_store.specs.declared.series_info.SeriesInfo.{SeriesInfo}

-- what is told of a series is so
pub record IsInfo (series : Series) (id : ℕ) (info : SeriesInfo) : Type 0 where
  pub id_is : info.id ≡ id
  pub start : info.start ≡ series.start
  pub step : info.step ≡ series.step
  pub scale : info.scale ≡ series.scale
  pub slots : info.slots ≡ length series.slots
  pub span_is : info.span ≡ span series.slots (top_key (length series.slots))

-- the book has a series of this name, and what is told of it is so
abbrev pub IsFound : List ℕ → List Series → SeriesInfo → Type 0
IsFound name book info = (id_of name book ≡ Some info.id)
    × ((series : Series) → slice_get book info.id ≡ Some series → IsInfo series info.id info)

-- what is told of a series of a catalog is so
pub record IsStoredInfo (one : StoredSeries) (info : SeriesInfo) : Type 0 where
  pub start : info.start ≡ one.start
  pub step : info.step ≡ one.step
  pub scale : info.scale ≡ one.scale
  pub slots : info.slots ≡ one.tree.slots

-- the series of this id in a catalog has the name
abbrev pub IsNamedAt : List StoredSeries → List ℕ → ℕ → Type 0
IsNamedAt catalog name id = (one : StoredSeries) → slice_get catalog id ≡ Some one → one.name ≡ name

-- none of them has it
abbrev pub LacksName : List StoredSeries → List ℕ → Type 0
LacksName catalog name = (id : ℕ) (one : StoredSeries) → slice_get catalog id ≡ Some one → one.name ≡ name → ⊥

-- the tree is that of the series of this id
abbrev pub IsTreeAt : List StoredSeries → ℕ → Tree → Type 0
IsTreeAt catalog id tree = (one : StoredSeries) → slice_get catalog id ≡ Some one → tree ≡ one.tree

-- a page that is called damaged is one of so many, and is so where reads give what the pages are
abbrev pub IsBadPage : Type 0 → ℕ → View → ℕ → Type 0
IsBadPage told total view page = (page < total) × (told → IsBadForRequest view.size view.image page)

-- asks keep the pages, the tree and the catalog
pub record KeepsStore (old new : Ground) (before after : Catalog) : Type 0 where
  pub pages : Keeps old new
  pub catalog : after ≡ before

pub store_keeps : (at : Ground) (catalog : Catalog) → KeepsStore at at catalog catalog
store_keeps at catalog = record { pages = pages_keep at; catalog = refl }

pub store_keeps_on : (old mid new : Ground) (before between after : Catalog) → KeepsStore old mid before between
    → KeepsStore mid new between after → KeepsStore old new before after
store_keeps_on old mid new before between after first second = record {
  pages = pages_keep_on old mid new first.pages second.pages;
  catalog = second.catalog ∙ first.catalog;
}
