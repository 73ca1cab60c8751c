-- A tree where its pages fit.
use Rattle.std.proofs.Common.{◌≡◌, ◌≢◌, ℕ, ℤ, zero, suc, ◌+◌, ◌*◌, ◌<◌, ◌⊎◌, List, length, Option, Some, sym, ap, subst, inl, inr, ◌∙◌}
use Rattle.std.specs.List.{slice_get}
use Rattle.block_disk.specs.View.{Image}
use Rattle.catalog_page.specs.Entries.{Entry}
use Rattle.om3_coeff.specs.declared.span.Span.{Span}
use Rattle.om3_coeff.specs.Keys.{page_levels}
use Rattle.om3_coeff.specs.Spans.{span}
use Rattle.node_page.specs.Fields.{child_at}
use Rattle.path_repair.specs.Damage.{AreBelow}
use Rattle.path_repair.specs.Forms.{AreTops}
use Rattle.series_book.specs.declared.one_series.Series.{Series}
use Rattle.series_catalog.specs.Catalogs.{AreAsTold, entry_of}
use Rattle.series_catalog.specs.declared.stored_series.StoredSeries.{StoredSeries}
use Rattle.stored_book.specs.Records.{entry, tree_of}
use Rattle.stored_book.specs.Standing.{IsKept}
use Rattle.tree_walk.specs.declared.tree.Tree.{Tree}
use Rattle.tree_walk.specs.Trees.{top_of_page, HoldsNodes, IsTree, StandsFor}
use Rattle.series_store.specs.Counting.{IsSoundPage}
use Rattle.series_store.specs.WhereFit.{FitsNowhere, IsFitPage, IsTreeWhereFit, StandsWhereFit, IsKeptWhereFit}

-- a whole tree is so where its pages fit
pub tree_fit : (image : Image) (total : ℕ) (list : List (Option ℤ)) (level index page : ℕ) → IsTree image total list level index page
    → IsTreeWhereFit image total list level index page
tree_fit image total list zero index page tree = tree
tree_fit image total list (suc level) index page (inl none) = inl none
tree_fit image total list (suc level) index page (inr some) =
    inr (
      some.0,
      some.1,
      some.2,
      λ fit. (
        some.3,
        λ child within. tree_fit image total list level (128 * index + child)
            (child_at (image page) child) (some.4 child within),
      ),
    )

pub stands_fit : (image : Image) (total : ℕ) (tree : Tree) (list : List (Option ℤ)) → StandsFor image total tree list
    → StandsWhereFit image total tree list
stands_fit image total tree list stands = record {
  values = stands.values;
  few = stands.few;
  slots = stands.slots;
  root_span = stands.root_span;
  pages = tree_fit image total list (page_levels (length list)) 0 tree.root stands.pages;
}

pub kept_fit : (image : Image) (total : ℕ) (series : Series) (e : Entry) → IsKept image total series e → IsKeptWhereFit image total series e
kept_fit image total series e kept = record { record_is = kept.record_is; tree = stands_fit image total (tree_of e) series.slots kept.tree }

-- the tree of a record that says what the series is
pub fit_tree : (image : Image) (total : ℕ) (items : List StoredSeries) (id : ℕ) (one : StoredSeries) (series : Series)
    → AreAsTold image items → slice_get items id ≡ Some one → IsKeptWhereFit image total series (entry image id)
    → StandsWhereFit image total one.tree series.slots
fit_tree image total items id one series told at kept =
    let P : Entry → Type 0 = λ e. IsKeptWhereFit image total series e in
    let as_told : IsKeptWhereFit image total series (entry_of one) = subst P (told id one at) kept in
    as_told.tree

-- a page that was read, and whose spans were split, fits
pub fits_read : (image : Image) (total level page : ℕ) (top : Option Span) (span' : Span) (bytes : List ℕ) (spans : ℕ → Option Span)
    → top ≡ Some span' → bytes ≡ image page → IsSoundPage total level bytes → AreBelow (Some span') bytes spans
    → IsFitPage total level top (image page)
fits_read image total level page top span' bytes spans some read sound below =
    let B : List ℕ → Type 0 = λ b. IsFitPage total level top b in
    let A : Option Span → Type 0 = λ s. AreBelow s bytes spans in
    let here : IsFitPage total level top bytes = record { sound = sound; spans = spans; below = subst A (sym some) below } in
    subst B read here

-- what a page that fits holds, and what it names
fit_there : (image : Image) (total : ℕ) (list : List (Option ℤ)) (level index page : ℕ) → page ≢ 0
    → IsTreeWhereFit image total list (suc level) index page
    → IsFitPage total (suc level) (span list (top_of_page (suc level) index)) (image page)
    → HoldsNodes list (suc level) index (image page)
    × ((child : ℕ) → child < 128 → IsTreeWhereFit image total list level (128 * index + child) (child_at (image page) child))
fit_there image total list level index page some (inl none) fit = absurd (some none.0)
fit_there image total list level index page some (inr is) fit = is.3 fit

fit_at : (image : Image) (total : ℕ) (list : List (Option ℤ)) (level below index page : ℕ) (top : Option Span) → level ≡ suc below
    → page ≢ 0 → top ≡ span list (top_of_page level index) → IsFitPage total level top (image page)
    → IsTreeWhereFit image total list level index page
    → HoldsNodes list (suc below) index (image page)
    × ((child : ℕ) → child < 128 → IsTreeWhereFit image total list below (128 * index + child) (child_at (image page) child))
fit_at image total list level below index page top is some top_is fit tree =
    let P : ℕ → Type 0 = λ l. IsTreeWhereFit image total list l index page in
    let T : Option Span → Type 0 = λ t. IsFitPage total level t (image page) in
    let F : ℕ → Type 0 = λ l. IsFitPage total l (span list (top_of_page l index)) (image page) in
    fit_there image total list below index page some (subst P is tree) (subst F is (subst T top_is fit))

pub nodes_fit : (image : Image) (total : ℕ) (list : List (Option ℤ)) (level below index page : ℕ) (top : Option Span) → level ≡ suc below
    → page ≢ 0 → top ≡ span list (top_of_page level index) → IsFitPage total level top (image page)
    → IsTreeWhereFit image total list level index page
    → HoldsNodes list level index (image page)
nodes_fit image total list level below index page top is some top_is fit tree =
    let H : ℕ → Type 0 = λ l. HoldsNodes list l index (image page) in
    subst H (sym is) (fit_at image total list level below index page top is some top_is fit tree).0

-- a child's page and span are those of its part of the list, where pages fit
pub record ChildFits (image : Image) (total : ℕ) (list : List (Option ℤ)) (below index number child : ℕ) (part : Option Span) : Type 0 where
  pub tree : IsTreeWhereFit image total list below (128 * index + child) number
  pub top_is : part ≡ span list (top_of_page below (128 * index + child))

pub child_fits : (old mid : Image) (total total' : ℕ) (list : List (Option ℤ)) (level below index page number child : ℕ)
    (top part : Option Span) (bytes : List ℕ) (spans : ℕ → Option Span) → mid ≡ old → total' ≡ total → level ≡ suc below → page ≢ 0
    → child < 128
    → number ≡ child_at bytes child → part ≡ spans (127 + child) → bytes ≡ old page → IsFitPage total level top (old page)
    → AreTops list below index (λ c. spans (127 + c)) → top ≡ span list (top_of_page level index)
    → IsTreeWhereFit old total list level index page
    → ChildFits mid total' list below index number child part
child_fits old mid total total' list level below index page number child top part bytes spans same same_total is some within is_child
    is_part read fit tops top_is tree =
    let I : Image → Type 0 = λ image. IsTreeWhereFit image total' list below (128 * index + child) number in
    let T : ℕ → Type 0 = λ n. IsTreeWhereFit old n list below (128 * index + child) number in
    let N : ℕ → Type 0 = λ n. IsTreeWhereFit old total list below (128 * index + child) n in
    let B : List ℕ → Type 0 = λ b. IsTreeWhereFit old total list below (128 * index + child) (child_at b child) in
    record {
      tree = subst I (sym same) (subst T (sym same_total)
          (subst N (sym is_child) (subst B (sym read)
          ((fit_at old total list level below index page top is some top_is fit tree).1 child within))));
      top_is = is_part ∙ tops child within;
    }

-- the page of the root and its span
pub record RootFits (image : Image) (total : ℕ) (tree : Tree) (list : List (Option ℤ)) (levels : ℕ) : Type 0 where
  pub pages : IsTreeWhereFit image total list levels 0 tree.root
  pub top_is : tree.span ≡ span list (top_of_page levels 0)

pub root_fits : (image : Image) (total : ℕ) (tree : Tree) (list : List (Option ℤ)) (levels : ℕ) → levels ≡ page_levels tree.slots
    → StandsWhereFit image total tree list → RootFits image total tree list levels
root_fits image total tree list levels is stands =
    let same : levels ≡ page_levels (length list) = is ∙ ap page_levels stands.slots in
    let P : ℕ → Type 0 = λ l. IsTreeWhereFit image total list l 0 tree.root in
    let S : ℕ → Type 0 = λ l. tree.span ≡ span list (top_of_page l 0) in
    record { pages = subst P (sym same) stands.pages; top_is = subst S (sym same) stands.root_span }

-- a page of a whole tree that is the same, or fits nowhere
page_damaged : (old new : Image) (total : ℕ) (list : List (Option ℤ)) (level index page : ℕ)
    → (new page ≡ old page) ⊎ FitsNowhere total (new page) → HoldsNodes list (suc level) index (old page)
    → ((child : ℕ) → child < 128 → IsTreeWhereFit new total list level (128 * index + child) (child_at (old page) child))
    → IsFitPage total (suc level) (span list (top_of_page (suc level) index)) (new page)
    → HoldsNodes list (suc level) index (new page) × ((child : ℕ) → child < 128
    → IsTreeWhereFit new total list level (128 * index + child) (child_at (new page) child))
page_damaged old new total list level index page (inl same) nodes children fit =
    let H : List ℕ → Type 0 = λ bytes. HoldsNodes list (suc level) index bytes in
    let C : List ℕ → Type 0 = λ bytes. (child : ℕ) → child < 128
    → IsTreeWhereFit new total list level (128 * index + child) (child_at bytes child) in
    (subst H (sym same) nodes, subst C (sym same) children)
page_damaged old new total list level index page (inr unfit) nodes children fit = absurd
    (unfit (suc level) (span list (top_of_page (suc level) index)) fit)

-- A whole tree of which pages were changed so that they fit no place is what it was where its pages fit.
damaged_fit : (old new : Image) (total : ℕ) → ((p : ℕ) → (new p ≡ old p) ⊎ FitsNowhere total (new p))
    → (list : List (Option ℤ)) (level index page : ℕ) → IsTree old total list level index page
    → IsTreeWhereFit new total list level index page
damaged_fit old new total damage list zero index page tree = tree
damaged_fit old new total damage list (suc level) index page (inl none) = inl none
damaged_fit old new total damage list (suc level) index page (inr some) =
    inr (
      some.0,
      some.1,
      some.2,
      λ fit. page_damaged old new total list level index page (damage page) some.3
          (λ child within. damaged_fit old new total damage list level (128 * index + child) (child_at (old page) child)
          (some.4 child within)) fit,
    )

pub damaged_tree : (old new : Image) (total : ℕ) (tree : Tree) (list : List (Option ℤ))
    → ((p : ℕ) → (new p ≡ old p) ⊎ FitsNowhere total (new p)) → StandsFor old total tree list → StandsWhereFit new total tree list
damaged_tree old new total tree list damage stands = record {
  values = stands.values;
  few = stands.few;
  slots = stands.slots;
  root_span = stands.root_span;
  pages = damaged_fit old new total damage list (page_levels (length list)) 0 tree.root stands.pages;
}
