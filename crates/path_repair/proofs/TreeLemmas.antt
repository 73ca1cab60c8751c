-- The pages of a tree, and trees whose pages stay.
use Rattle.std.proofs.Common.{◌≡◌, ◌≢◌, ℕ, ℤ, zero, suc, ◌+◌, ◌*◌, ◌<◌, ◌≤◌, List, [], ◌∷◌, Option, cond, refl, sym, ap, subst, arith, inl}
use Rattle.std.proofs.Common.{inr, ◌∙◌}
use Rattle.std.proofs.lemmas.Bool.{ne_eqb, eq-eqb, le-leb, lt-leb}
use Rattle.std.proofs.lemmas.Bool.Decides.{eqb_tells}
use Rattle.block_disk.specs.View.{Image}
use Rattle.node_page.specs.Fields.{child_at}
use Rattle.page_space.specs.Spaces.{times}
use Rattle.page_space.proofs.Counting.{times_here, times_more}
use Rattle.tree_walk.specs.Trees.{IsTree, HoldsNodes}
use Rattle.path_repair.specs.Sums.{join_below}
use Rattle.path_repair.specs.TreePages.{tree_pages, low}
use Rattle.path_repair.proofs.SumLemmas.{join_same, times_in_join}

pub low_fits : (height level : ℕ) → level ≤ height → low height level ≡ level
low_fits height level fits = ap (λ b. cond b level height) (le-leb level height fits)

pub low_above : (height level : ℕ) → height < level → low height level ≡ height
low_above height level above = ap (λ b. cond b level height) (lt-leb level height above)

-- the pages of the children of a page
abbrev pub below : Image → ℕ → List ℕ → ℕ → List ℕ
below image level bytes child = tree_pages image level (child_at bytes child)

pub no_pages : (image : Image) (level page : ℕ) → page ≡ 0 → tree_pages image level page ≡ []
unfolding tree_pages
no_pages image zero page none = refl
no_pages image (suc level) page none = ap (λ b. cond b [] (page ∷ join_below (below image level (image page)) 128)) (eq-eqb page 0 none)

pub no_slots : (image : Image) (page : ℕ) → tree_pages image 0 page ≡ []
unfolding tree_pages
no_slots image page = refl

pub own_pages : (image : Image) (level page : ℕ) → page ≢ 0
    → tree_pages image (suc level) page ≡ page ∷ join_below (below image level (image page)) 128
unfolding tree_pages
own_pages image level page some = ap (λ b. cond b [] (page ∷ join_below (below image level (image page)) 128)) (ne_eqb page 0 some)

pub own_page : (image : Image) (level page : ℕ) → page ≢ 0 → 0 < times page (tree_pages image (suc level) page)
own_page image level page some =
    omega (
      arith,
      ap (λ l. times page l) (own_pages image level page some),
      times_here page page (join_below (below image level (image page)) 128) refl,
    )

pub child_in : (image : Image) (level page child p : ℕ) → page ≢ 0 → child < 128
    → times p (below image level (image page) child) ≤ times p (tree_pages image (suc level) page)
child_in image level page child p some within =
    omega (
      arith,
      ap (λ l. times p l) (own_pages image level page some),
      times_more p page (join_below (below image level (image page)) 128),
      times_in_join p (below image level (image page)) child 128 within,
    )

-- a tree has the same pages where its pages stay
pub pages_frame : (old new : Image) (level page : ℕ) → ((p : ℕ) → 0 < times p (tree_pages old level page) → new p ≡ old p)
    → tree_pages new level page ≡ tree_pages old level page
pages_frame old new zero page same = unfold tree_pages in refl
pages_frame old new (suc level) page same = elim (eqb_tells page 0) [
  | inl is ↦ no_pages new (suc level) page is.1 ∙ sym (no_pages old (suc level) page is.1)
  | inr is ↦
      let here : new page ≡ old page = same page (own_page old level page is.1) in
      own_pages new level page is.1
      ∙ ap (λ l. page ∷ l) (join_same (below new level (new page)) (below old level (old page)) 128 (λ child within.
      ap (λ bytes. below new level bytes child) here
      ∙ pages_frame old new level (child_at (old page) child)
      (λ p there. same p (omega (arith, there, child_in old level page child p is.1 within)))))
      ∙ sym (own_pages old level page is.1)
]

-- a tree stands where its pages stay
pub tree_frame : (old new : Image) (total : ℕ) (list : List (Option ℤ)) (level index page : ℕ) → IsTree old total list level index page
    → ((p : ℕ) → 0 < times p (tree_pages old level page) → new p ≡ old p) → IsTree new total list level index page
tree_frame old new total list zero index page tree same = tree
tree_frame old new total list (suc level) index page (inl none) same = inl none
tree_frame old new total list (suc level) index page (inr (some, low_is, stored, nodes, children)) same =
    let here : new page ≡ old page = same page (own_page old level page some) in
    let H : List ℕ → Type 0 = λ bytes. HoldsNodes list (suc level) index bytes in
    inr (
      some,
      low_is,
      stored,
      subst H (sym here) nodes,
      λ child within.
          let P : ℕ → Type 0 = λ next. IsTree new total list level (128 * index + child) next in
          subst P (ap (λ bytes. child_at bytes child) (sym here))
          (tree_frame old new total list level (128 * index + child) (child_at (old page) child) (children child within)
          (λ p there. same p (omega (arith, there, child_in old level page child p some within)))),
    )
