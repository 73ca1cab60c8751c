-- What a space is looked at for: its trees, and the pages of them.
use Rattle.std.specs.Prelude.{ℕ, ℤ, suc, ◌≡◌, List, Option, Some, length}
use Rattle.gate_pages.specs.declared.pages.Pages.{Ghosts}
use Rattle.om3_coeff.specs.declared.span.Span.{Span}
use Rattle.om3_coeff.specs.Spans.{AreSlots, span}
use Rattle.page_space.specs.declared.space.Space.{Space}
use Rattle.series_book.specs.declared.one_series.Series.{Series}
use Rattle.series_catalog.specs.declared.catalog.Catalog.{Catalog}
use Rattle.series_catalog.specs.Catalogs.{AreAsTold}
use Rattle.series_catalog.specs.Shown.{series_in}
use Rattle.page_space.specs.Shown as spaces
use Rattle.stored_book.specs.Standing.{IsStore}
use Rattle.tree_walk.specs.Trees.{top_of_page, HoldsNodes, IsTree}
use Rattle.series_store.specs.Counting.{Looks}

-- so of each list of slots for which a page of this page level stands, whose top has this span
abbrev pub ForNodes : List ℕ → ℕ → Span → (List (Option ℤ) → ℕ → ℕ → Type 0) → Type 0
ForNodes page level top IsSo = (list : List (Option ℤ)) (under index : ℕ) → level ≡ suc under → AreSlots list
    → HoldsNodes list level index page → Some top ≡ span list (top_of_page level index)
    → IsSo list under index

module _ {P : Type 0} {g : Ghosts P} where
  -- pages are read, and nothing else changes
  abbrev pub OnlyLooks : Space P g → Space P g → Type 0
  OnlyLooks old new = Looks (spaces.IsTold old) (spaces.IsTold new) (spaces.view old) (spaces.view new) (spaces.under old)
      (spaces.under new) (spaces.numbers old) (spaces.numbers new)

  -- so of each list of slots for which this page stands
  abbrev pub ForPage : Space P g → ℕ → ℕ → Span → (List (Option ℤ) → ℕ → ℕ → Type 0) → Type 0
  ForPage it level page top IsSo = (list : List (Option ℤ)) (under index : ℕ) → spaces.IsTold it → level ≡ suc under → AreSlots list
      → HoldsNodes list level index (spaces.image it page) → Some top ≡ span list (top_of_page level index)
      → IsSo list under index

  -- so of each list of so many slots for which the tree below a page of this page level and index stands, whose top
  -- has this span
  abbrev pub ForTree : Space P g → ℕ → ℕ → ℕ → ℕ → Option Span → (List (Option ℤ) → Type 0) → Type 0
  ForTree it slots level index page top IsSo = (list : List (Option ℤ)) → spaces.IsTold it → AreSlots list → length list ≡ slots
      → IsTree (spaces.image it) (spaces.total it) list level index page
      → top ≡ span list (top_of_page level index) → IsSo list

  -- so of each book that the pages stand for, of which the catalog has the series
  abbrev pub ForCatalog : Space P g → Catalog → (List Series → Type 0) → Type 0
  ForCatalog it catalog IsSo = (book : List Series) → spaces.IsTold it → IsStore (spaces.image it) (spaces.numbers it) book
      → AreAsTold (spaces.image it) (series_in catalog) → length (series_in catalog) ≡ length book
      → IsSo book
