-- A book that a disk holds stays where a store is to be made.
use Rattle.std.proofs.Common.{ℕ, List, sym, subst, arith}
use Rattle.block_disk.specs.View.{Image, View}
use Rattle.gate_pages.specs.GatePages.{StandsAsBefore}
use Rattle.gate_pages.specs.Journal.{page_count}
use Rattle.page_space.specs.Layout.{HasMagic}
use Rattle.series_book.specs.declared.one_series.Series.{Series}
use Rattle.store_upgrade.specs.OldStores.{HasOldMagic, IsOldStore}
use Rattle.store_upgrade.specs.Upgraded.{current}
use Rattle.stored_book.specs.Standing.{StandsForBook, RecoversTo}
use Rattle.disk_store.specs.Held.{HoldsBook}
use Rattle.empty_store.specs.Stores.{HasStore}
use Rattle.empty_store.proofs.DisksMade.{marked}
use Rattle.store_commands.specs.Books.{HoldsAgain, LeavesSame, OfBook}
use Rattle.chart_program.specs.Ran.{LeavesMade}

-- an image that stands for pages from before recovers to the book
recovers_on : (count total : ℕ) (book : List Series) (old : View) (image : Image) → HoldsBook count total book old
    → StandsAsBefore count old image → RecoversTo count image total book
recovers_on count total book old image holds stands =
    let was = holds.images stands.from stands.was in
    let P : Image → Type 0 = λ pages. StandsForBook (current pages) total book in
    let K : Image → Type 0 = λ pages. HasOldMagic (pages 0) → IsOldStore pages in
    record {
      readable = stands.readable was.readable;
      within = was.within;
      old = subst K (sym stands.same) was.old;
      stands = subst P (sym stands.same) was.stands;
    }

has_store : (count total : ℕ) (book : List Series) (old : View) → HoldsBook count total book old → HasStore count old.image
has_store count total book old holds =
    let was = holds.images old.image holds.honest in
    record { readable = was.readable; magic = subst HasMagic (sym was.stands.store.stands.spelled) (marked was.stands.superblock) }

pub init_leaves : (old new : View) → LeavesMade old new → LeavesSame (page_count old.size) old new
init_leaves old new disk = λ total book holds. record {
  goes = (disk.moments holds.honest).goes_on;
  here = λ at image low high left. recovers_on (page_count old.size) total book old image holds
      (disk.kept holds.honest (has_store (page_count old.size) total book old holds) at image low high left);
}

pub init_keeps : (old new : View) → LeavesMade old new
    → OfBook (page_count old.size) old (λ total book. HoldsBook (page_count old.size) total book new)
init_keeps old new disk = λ total book holds.
    let kept = disk.kept holds.honest (has_store (page_count old.size) total book old holds) in
    record {
      honest = disk.honest holds.honest;
      images = λ image left. recovers_on (page_count old.size) total book old image holds
          (kept new.clock image (disk.moments holds.honest).goes_on.later (omega arith) left);
    }

pub init_holds : (old new : View) → LeavesMade old new → HoldsAgain (page_count old.size) old new
init_holds old new disk = λ total book holds. (book, init_keeps old new disk total book holds)
