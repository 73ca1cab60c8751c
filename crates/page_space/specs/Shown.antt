-- What a space shows.
use Rattle.std.specs.Prelude.{ℕ, ◌≡◌, ◌≢◌, IsTrue, is_some, List}
use Rattle.block_disk.specs.View.{Image, View}
use Rattle.gate_pages.specs.declared.pages.Pages.{Ghosts}
use Rattle.gate_pages.specs.Pages.{Reads, Commits, GoesOn}
use Rattle.page_space.specs.declared.superblock.Superblock.{Superblock}
use Rattle.page_space.specs.declared.space.Space.{Space}
use Rattle.page_space.specs.declared.txn.Txn.{Txn}
use Rattle.page_space.specs.declared.errors.SpaceError.{SpaceError}
use Rattle.page_space.specs.Beside.{KeepsBeside, beside_none, beside_then, beside_so}
use Rattle.page_space.specs.Causes.{Takes, Refuses}
use Rattle.page_space.specs.Copies.{Copies, place, copies_in}
use Rattle.page_space.specs.Spaces.{Stands}
use Rattle.page_space.specs.Transactions.{held, left_by}

module _ {P : Type 0} {g : Ghosts P} where
  -- its pages
  abbrev pub pages : Space P g → P
  pages it = it.pages

  -- what they mean
  abbrev pub view : Space P g → View
  view it = g.view it.pages

  -- what the pages lie on
  abbrev pub under : Space P g → View
  under it = g.under it.pages

  abbrev pub image : Space P g → Image
  image it = (view it).image

  -- how many pages it stands on
  abbrev pub count : Space P g → ℕ
  count it = (view it).size

  -- what page 0 tells
  abbrev pub numbers : Space P g → Superblock
  numbers it = it.superblock

  -- how many pages the store has
  abbrev pub total : Space P g → ℕ
  total it = (numbers it).total

  -- reads give what the pages are
  abbrev pub IsTold : Space P g → Type 0
  IsTold it = g.told it.pages

  -- the pages are sound: more calls may be made
  abbrev pub IsSound : Space P g → Type 0
  IsSound it = (view it).fit

  -- the copies of pages in memory
  abbrev pub copies : Space P g → Copies
  copies it = copies_in it.cache

  -- there is one of this page
  abbrev pub Holds : Space P g → ℕ → Type 0
  Holds it p = IsTrue (is_some (copies it p))

  -- the copies stay, but the one in the place of this page
  abbrev pub KeepsCopiesOff : ℕ → Space P g → Space P g → Type 0
  KeepsCopiesOff p old new = (q : ℕ) → place q ≢ place p → copies new q ≡ copies old q

  -- the pages change so, and all else stays
  abbrev pub Keeps : Type 0 → Space P g → Space P g → Type 0
  Keeps so old new = KeepsBeside so old.superblock new.superblock old.cache new.cache

  -- the pages as a transaction would leave them
  abbrev pub left : Space P g → Txn → Image
  left it txn = left_by txn (image it)

  -- one block is read at most, and nothing else changes
  abbrev pub ReadsOne : Space P g → Space P g → Type 0
  ReadsOne old new = Reads (IsTold old) (IsTold new) (view old) (view new)

  -- the pages of a transaction are committed, or part of the way there
  abbrev pub CommitsAll : Txn → Space P g → Space P g → Type 0
  CommitsAll txn old new = Commits (held txn) (IsTold old) (IsTold new) (view old) (view new)

  -- time goes on where the pages lie
  abbrev pub TimeGoesOn : Space P g → Space P g → Type 0
  TimeGoesOn old new = GoesOn (under old) (under new)

  -- a transaction over it takes this page, and page 0 tells these numbers then
  abbrev pub TakesPage : Space P g → Txn → Superblock → ℕ → Type 0
  TakesPage it txn after page = Takes (IsTold it) (left it txn) txn.superblock after page

  -- why the transaction takes none
  abbrev pub RefusesPage : SpaceError → Txn → Space P g → Space P g → Type 0
  RefusesPage cause txn old new = Refuses cause (IsTold old) (left old txn) txn.superblock (view old).faults (view new).faults

  -- so of each page, where what the transaction would leave stands
  abbrev pub ForStanding : Space P g → Txn → (ℕ → Type 0) → Type 0
  ForStanding it txn IsSo = IsTold it → (count page : ℕ) (taken freed : List ℕ) → Stands count (left it txn) txn.superblock taken freed
      → IsSo page

  pub keeps_none : {so : Type 0} (at : Space P g) → so → Keeps so at at
  keeps_none {so} at are = beside_none so at.superblock at.cache are

  pub keeps_then : {one two both : Type 0} (old between new : Space P g) → (one → two → both) → Keeps one old between
      → Keeps two between new → Keeps both old new
  keeps_then {one} {two} {both} old between new join first second =
      beside_then one two both old.superblock between.superblock new.superblock old.cache between.cache new.cache join first second

  pub keeps_so : {one two : Type 0} (old new : Space P g) → (one → two) → Keeps one old new → Keeps two old new
  keeps_so {one} {two} old new more keeps = beside_so one two old.superblock new.superblock old.cache new.cache more keeps
