-- What calls leave of a store as it is, whatever its pages are.
use Rattle.std.specs.Prelude.{ℕ, ◌≡◌, ◌≤◌, ◌+◌, ◌*◌, length}
use Rattle.block_disk.specs.View.{View, Now, Passes}
use Rattle.gate_pages.specs.declared.pages.Pages.{Ghosts}
use Rattle.gate_pages.specs.Pages.{GoesOn, Quiet}
use Rattle.page_space.specs.declared.superblock.Superblock.{Superblock}
use Rattle.series_catalog.specs.declared.catalog.Catalog.{Catalog}
use Rattle.series_book.specs.declared.limits.TheConstants.{MOST_SERIES}
use Rattle.series_store.specs.Shown as shown
use Rattle.series_store.specs.declared.store.Store.{Store}

-- The pages, the numbers of page 0 and the catalog stay. Blocks may be read.
pub record Looks (told_old told_new : Type 0) (old new under under' : View) (s s' : Superblock) (catalog catalog' : Catalog) : Type 0 where
  pub time : Passes old new (Now old) (Quiet old)
  pub goes_on : GoesOn under under'
  pub told : told_old → told_new
  pub was_told : told_new → told_old
  pub image : told_old → new.image ≡ old.image
  pub size : new.size ≡ old.size
  pub beside : new.beside ≡ old.beside
  pub fit : old.fit → new.fit
  pub faults : old.faults ≤ new.faults
  pub syncs : new.syncs ≡ old.syncs
  pub writes : new.writes ≡ old.writes
  pub superblock : s' ≡ s
  pub catalog_is : catalog' ≡ catalog

-- at most so many commits, each of at most 42 pages
pub record CommitsFew (most : ℕ) (old new : View) : Type 0 where
  pub syncs : new.syncs ≤ old.syncs + 4 * most
  pub writes : new.writes ≤ old.writes + 87 * most

-- a look for a clear asks each series, of which it reads at most 105 blocks, and a clear reads 96 more
abbrev pub look_reads : ℕ
look_reads = 105 * MOST_SERIES

abbrev pub clear_reads : ℕ
clear_reads = look_reads + 96

-- so many clears at most, each behind a look, and a look more
abbrev pub ReadsFew : ℕ → View → View → Type 0
ReadsFew most old new = new.reads ≤ old.reads + clear_reads * (most + 1)

-- what clears move: no series goes away, and no count falls
pub record Carries (told_old told_new : Type 0) (old new under under' : View) (total total' count count' : ℕ) : Type 0 where
  pub told : told_old → told_new
  pub was_told : told_new → told_old
  pub size : new.size ≡ old.size
  pub beside : new.beside ≡ old.beside
  pub faults : old.faults ≤ new.faults
  pub goes_on : GoesOn under under'
  pub total_is : total' ≡ total
  pub more : count ≤ count'

module _ {P : Type 0} {g : Ghosts P} where
  abbrev pub LooksOnly : Store P g → Store P g → Type 0
  LooksOnly old new = Looks (shown.IsTold old) (shown.IsTold new) (shown.view old) (shown.view new) (shown.under old) (shown.under new)
      (shown.numbers old) (shown.numbers new) (shown.kept_catalog old) (shown.kept_catalog new)

  abbrev pub CarriesOn : Store P g → Store P g → Type 0
  CarriesOn old new = Carries (shown.IsTold old) (shown.IsTold new) (shown.view old) (shown.view new) (shown.under old) (shown.under new)
      (shown.total old) (shown.total new) (length (shown.catalog old)) (length (shown.catalog new))
