-- What a space shows to the nodes of a tree on it.
use Rattle.std.specs.Prelude.{ℕ, ℤ, List, Option}
use Rattle.block_disk.specs.View.{View}
use Rattle.gate_pages.specs.Pages.{Reads}
use Rattle.gate_pages.specs.declared.pages.Pages.{Ghosts}
use Rattle.om3_coeff.specs.declared.errors.NodeError.{NodeError}
use Rattle.om3_coeff.specs.declared.key.Key.{Key}
use Rattle.om3_coeff.specs.declared.span.Span.{Span}
use Rattle.om3_coeff.specs.View.{NodesView, HasCause}
use Rattle.page_space.specs.Shown as shown
use Rattle.page_space.specs.declared.space.Space.{Space}
use Rattle.tree_walk.specs.declared.held_page.HeldPage.{HeldPage}
use Rattle.tree_walk.specs.declared.trail.Trail.{Trail}
use Rattle.tree_walk.specs.declared.tree.Tree.{Tree}
use Rattle.tree_walk.specs.Holding.{IsHoldCause, IsStepCause, IsCauseOf, KeptWalking}
use Rattle.tree_walk.specs.PagedNodes.{Ground, IsTrail, IsFit, IsSeen, IsWayError, Keeps, ground, paged_view}
use Rattle.tree_walk.specs.SpaceViews.{space_view, StaysOn}
use Rattle.tree_walk.specs.Trees as trees
use Rattle.tree_walk.specs.Trails.{IsHeld, AreHeld, IsTrailOfAny}

-- the trail is one of any tree over any pages
abbrev pub FitsAny : Trail → Type 0
FitsAny trail = IsTrailOfAny trail.pages.items trail.len trail.asked

module _ {P : Type 0} {g : Ghosts P} where
  -- its pages: as many as page 0 tells
  abbrev pub pages : Space P g → View
  pages it = space_view (shown.numbers it) (shown.view it)

  -- what the nodes of a tree stand on
  abbrev pub under : Space P g → Tree → Ground
  under it tree = ground (shown.IsTold it) (shown.view it) (shown.under it) (shown.numbers it) tree

  -- what the nodes of a tree mean
  abbrev pub nodes : Space P g → Tree → Trail → NodesView
  nodes it tree trail = paged_view (under it tree) trail

  -- the nodes of the tree may be asked
  abbrev pub MayBeAsked : Space P g → Tree → Trail → Type 0
  MayBeAsked it tree trail = IsFit (shown.IsTold it) (pages it) tree trail

  -- the trail is one of this tree over these pages
  abbrev pub HasTrail : Space P g → Tree → Trail → Type 0
  HasTrail it tree trail = IsTrail (shown.IsTold it) (pages it) tree trail

  -- its pages stand with the tree for the list
  abbrev pub StandsFor : Space P g → Tree → List (Option ℤ) → Type 0
  StandsFor it tree list = trees.StandsFor (shown.image it) (shown.total it) tree list

  -- where its pages are sound and the trail is one of this tree over them, the nodes of the tree may be asked
  abbrev pub MayBeAskedWhereSound : Space P g → Tree → Trail → Type 0
  MayBeAskedWhereSound it tree trail = shown.IsSound it → HasTrail it tree trail → MayBeAsked it tree trail

  -- where the pages tell their coefficients, the key has this span by those above it
  abbrev pub HasSpan : Space P g → Tree → Key → Span → Type 0
  HasSpan it tree key span = IsSeen (shown.IsTold it) (pages it) tree key span

  -- what asks keep
  abbrev pub Asks : Space P g → Space P g → Tree → Type 0
  Asks old new tree = Keeps (under old tree) (under new tree)

  -- why an ask failed
  abbrev pub Explains : NodeError → Space P g → Space P g → Tree → Trail → Trail → Type 0
  Explains cause old new tree before after = HasCause (nodes old tree before) (nodes new tree after) cause

  -- the damage that it tells of stands on the way to the key
  abbrev pub BlamesWay : NodeError → Space P g → Tree → Key → Span → Type 0
  BlamesWay cause it tree key span = IsWayError (shown.IsTold it) (pages it) tree key span cause

  -- the first `len` pages of a trail are held, one of each page level from this one down
  abbrev pub Holds : Space P g → ℕ → Trail → Type 0
  Holds it levels trail = AreHeld (shown.IsTold it) (pages it).image (pages it).size levels trail.pages.items trail.len

  -- the page that was read is of this page level
  abbrev pub HasRead : Space P g → ℕ → HeldPage → Type 0
  HasRead it level page = IsHeld (shown.IsTold it) (pages it).image (pages it).size level page.number page.bytes.items

  -- one block is read at most, and nothing else changes
  abbrev pub ReadsOne : Space P g → Space P g → Type 0
  ReadsOne old new = Reads (shown.IsTold old) (shown.IsTold new) (pages old) (pages new)

  -- all stays but counts of reads and of faults, which don't fall
  abbrev pub Walks : Space P g → Space P g → Type 0
  Walks old new = KeptWalking (shown.IsTold old) (shown.IsTold new) (pages old) (pages new)

  -- the numbers of page 0 stay, and time goes on where the pages lie
  abbrev pub Stays : Space P g → Space P g → Type 0
  Stays old new = StaysOn (shown.numbers old) (shown.numbers new) (shown.under old) (shown.under new)

  -- why a page of this number and page level wasn't read
  abbrev pub FailsToRead : NodeError → Space P g → Space P g → ℕ → ℕ → Type 0
  FailsToRead cause old new number level = IsHoldCause (shown.IsTold old) (pages old) (pages new) number level cause

  -- why the page below a depth on the way to the key wasn't held
  abbrev pub FailsToStep : NodeError → Space P g → Space P g → Trail → Key → ℕ → ℕ → Type 0
  FailsToStep cause old new trail key levels depth = IsStepCause (shown.IsTold old) (pages old)
      (pages new) trail.pages.items key levels depth cause

  -- why the pages on the way to the key weren't found
  abbrev pub FailsOnWay : NodeError → Space P g → Space P g → Tree → Key → Type 0
  FailsOnWay cause old new tree key = IsCauseOf (shown.IsTold old) (pages old) (pages new) tree key cause
