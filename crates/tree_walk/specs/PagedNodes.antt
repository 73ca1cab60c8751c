-- What nodes over pages mean.
use Rattle.std.specs.Prelude.{ℕ, ◌≡◌, ◌^◌, ◌<◌, ◌≤◌, Some}
use Rattle.block_disk.specs.View.{Image, View, Now, Passes}
use Rattle.std.proofs.Common.{sym, subst, ap, refl, arith, ◌∙◌}
use Rattle.block_disk.proofs.Passing.{passes_none, passes_weaker, now_back}
use Rattle.gate_pages.specs.Pages.{Quiet, GoesOn}
use Rattle.gate_pages.specs.GateLaws.{goes_none, goes_then}
use Rattle.gate_pages.proofs.Moving.{time_then}
use Rattle.om3_coeff.specs.declared.key.Key.{Key}
use Rattle.om3_coeff.specs.declared.span.Span.{Span}
use Rattle.om3_coeff.specs.declared.errors.NodeError.{NodeError}
use Rattle.om3_coeff.specs.declared.errors.NodeError.TheVariants.{DiskFault, Damaged, Missing, BadCoefficient}
use Rattle.om3_coeff.specs.Keys.{height}
use Rattle.om3_coeff.specs.Spans.{IsProperIfAny}
use Rattle.om3_coeff.specs.Known.{known}
use Rattle.om3_coeff.specs.View.{NodesView, StaysSame}
use Rattle.page_space.specs.declared.superblock.Superblock.{Superblock}
use Rattle.tree_walk.specs.declared.tree.Tree.{Tree}
use Rattle.tree_walk.specs.declared.trail.Trail.{Trail}
use Rattle.tree_walk.specs.SpaceViews.{space_view}
use Rattle.tree_walk.specs.Paths.{told_by_pages, IsDamaged, IsDamagedFor}
use Rattle.tree_walk.specs.Trails.{IsTrailOf}

-- the trail of this tree over these pages
abbrev pub IsTrail : Type 0 → View → Tree → Trail → Type 0
IsTrail tells pages tree trail = IsTrailOf tells pages.image pages.size tree trail.pages.items trail.len trail.asked

-- the pages are sound, the tree's root is one of them, its span is proper, and the trail is theirs
pub record IsFit (tells : Type 0) (pages : View) (tree : Tree) (trail : Trail) : Type 0 where
  pub sound : pages.fit
  pub few : tree.slots ≤ 2 ^ 35
  pub root : tree.root < pages.size
  pub proper : IsProperIfAny tree.span
  pub trail_is : IsTrail tells pages tree trail

-- what an ask may answer beside a fault of the disk: that one of the pages is damaged, and where the pages
-- tell what they are, it is
abbrev pub IsPageError : Type 0 → View → Tree → NodeError → Type 0
IsPageError tells pages tree DiskFault = ⊥
IsPageError tells pages tree (Damaged page) = (page < pages.size) × (tells → IsDamaged pages.image pages.size tree page)
IsPageError tells pages tree (Missing key) = ⊥
IsPageError tells pages tree (BadCoefficient key) = ⊥

-- where an ask for this key tells of a damaged page, and the pages tell what they are, it is one on the way to the key
abbrev pub IsWayError : Type 0 → View → Tree → Key → Span → NodeError → Type 0
IsWayError tells pages tree k s DiskFault = Unit {0}
IsWayError tells pages tree k s (Damaged page) = tells → IsDamagedFor pages.image pages.size tree k s page
IsWayError tells pages tree k s (Missing key) = ⊥
IsWayError tells pages tree k s (BadCoefficient key) = ⊥

-- what nodes stand on: whether reads tell the pages, the pages of the space, how many pages there are,
-- what these lie on, the numbers of page 0, and the tree
pub record Ground : Type 1 where
  pub told : Type 0
  pub view : View
  pub count : ℕ
  pub under : View
  pub superblock : Superblock
  pub tree : Tree

abbrev pub ground : Type 0 → View → View → Superblock → Tree → Ground
ground told pages under superblock tree = record {
  told = told;
  view = space_view superblock pages;
  count = pages.size;
  under = under;
  superblock = superblock;
  tree = tree;
}

abbrev pub paged_view : Ground → Trail → NodesView
paged_view at trail = record {
  fit = IsFit at.told at.view at.tree trail;
  slots = at.tree.slots;
  root = at.tree.span;
  tells = at.told;
  told = told_by_pages at.view.image at.tree;
  asked = trail.asked;
  reads = at.view.reads;
  faults = at.view.faults;
  bad = IsPageError at.told at.view at.tree;
}

-- where the pages tell their coefficients, the key has this span by those above it
abbrev pub IsSeen : Type 0 → View → Tree → Key → Span → Type 0
IsSeen tells pages tree k s = tells → known tree.span (told_by_pages pages.image tree) (height tree.slots) k ≡ Some (Some s)

-- What asks keep: the tree, the pages and the number of them, the numbers of page 0, and all that a crash
-- may leave, now and at each moment since.
pub record Keeps (old new : Ground) : Type 0 where
  pub tree : new.tree ≡ old.tree
  pub superblock : new.superblock ≡ old.superblock
  pub goes_on : GoesOn old.under new.under
  pub time : Passes old.view new.view (Now old.view) (Quiet old.view)
  pub told : old.told → new.told
  pub was_told : new.told → old.told
  pub image : old.told → new.view.image ≡ old.view.image
  pub size : new.view.size ≡ old.view.size
  pub count : new.count ≡ old.count
  pub beside : new.view.beside ≡ old.view.beside
  pub fit : old.view.fit → new.view.fit
  pub syncs : new.view.syncs ≡ old.view.syncs
  pub writes : new.view.writes ≡ old.view.writes

pub pages_keep : (at : Ground) → Keeps at at
pages_keep at = record {
  tree = refl;
  superblock = refl;
  goes_on = goes_none at.under;
  time = passes_none at.view (Now at.view) (Quiet at.view);
  told = λ t. t;
  was_told = λ t. t;
  image = λ t. refl;
  size = refl;
  count = refl;
  beside = refl;
  fit = λ f. f;
  syncs = refl;
  writes = refl;
}

pub pages_keep_on : (old mid new : Ground) → Keeps old mid → Keeps mid new → Keeps old new
pages_keep_on old mid new first second = record {
  tree = second.tree ∙ first.tree;
  superblock = second.superblock ∙ first.superblock;
  goes_on = goes_then old.under mid.under new.under first.goes_on second.goes_on;
  time = time_then old.view mid.view new.view (Now old.view) first.time
      (passes_weaker mid.view new.view (Now mid.view) (Now old.view) (Quiet mid.view) (Quiet mid.view)
      (now_back old.view mid.view (Quiet old.view) first.time) (λ count quiet. quiet) second.time);
  told = λ t. second.told (first.told t);
  was_told = λ t. first.was_told (second.was_told t);
  image = λ t. second.image (first.told t) ∙ first.image t;
  size = second.size ∙ first.size;
  count = second.count ∙ first.count;
  beside = second.beside ∙ first.beside;
  fit = λ f. second.fit (first.fit f);
  syncs = second.syncs ∙ first.syncs;
  writes = second.writes ∙ first.writes;
}

-- the errors that may come are those of the same tree and pages
same_error : (told told' : Type 0) (old new : View) (tree tree' : Tree) (e : NodeError) → (told' → told) → (told' → new.image ≡ old.image)
    → new.size ≡ old.size → tree' ≡ tree
    → IsPageError told old tree e → IsPageError told' new tree' e
same_error told told' old new tree tree' DiskFault back image size same bad = bad
same_error told told' old new tree tree' (Damaged page) back image size same (low, bad) = (
  omega (arith, low, size),
  λ t.
      let P : Image → Type 0 = λ pages. IsDamaged pages old.size tree page in
      let Q : ℕ → Type 0 = λ total. IsDamaged new.image total tree page in
      let R : Tree → Type 0 = λ one. IsDamaged new.image new.size one page in
      subst R (sym same) (subst Q (sym size) (subst P (sym (image t)) (bad (back t)))),
)
same_error told told' old new tree tree' (Missing key) back image size same bad = bad
same_error told told' old new tree tree' (BadCoefficient key) back image size same bad = bad

pub pages_stay : (old new : Ground) (trail trail' : Trail) → Keeps old new → StaysSame (paged_view old trail) (paged_view new trail')
pages_stay old new trail trail' kept = record {
  slots = ap (λ (one : Tree). one.slots) kept.tree;
  root = ap (λ (one : Tree). one.span) kept.tree;
  tells = kept.told;
  has_told = kept.was_told;
  told = λ t. ap (λ (one : Tree). told_by_pages new.view.image one) kept.tree
      ∙ ap (λ (pages : Image). told_by_pages pages old.tree) (kept.image t);
  bad = λ e. same_error old.told new.told old.view new.view old.tree new.tree e kept.was_told
      (λ t. kept.image (kept.was_told t)) kept.size kept.tree;
  was_bad = λ e. same_error new.told old.told new.view old.view new.tree old.tree e kept.told (λ t. sym (kept.image t)) (sym kept.size)
      (sym kept.tree);
}
