-- Pages that stand for a book are of version 2.
use Rattle.std.proofs.Common.{◌≡◌, ℕ, ◌≤◌, List, refl, sym, ap, subst, ◌∙◌}
use Rattle.block_disk.specs.View.{Image}
use Rattle.gate_pages.specs.GatePages.{IsReadable}
use Rattle.gate_pages.specs.Journal.{pages_of}
use Rattle.page_space.specs.Layout.{HasMagic, superblock_page}
use Rattle.page_space.specs.declared.superblock.Superblock.{Superblock}
use Rattle.series_book.specs.declared.one_series.Series.{Series}
use Rattle.store_upgrade.specs.OldStores.{HasOldMagic}
use Rattle.store_upgrade.specs.Upgraded.{current}
use Rattle.store_upgrade.proofs.Magics.{new_not_old, current_same, current_once}
use Rattle.stored_book.specs.Standing.{StandsForBook, KeepsOldStore, book_pages, RecoversTo}

marked : (s : Superblock) → HasMagic (superblock_page s)
unfolding superblock_page
marked s = refl

pub book_magic : (image : Image) (total : ℕ) (book : List Series) → StandsForBook image total book → HasMagic (image 0)
book_magic image total book stands = subst HasMagic (sym stands.store.stands.spelled) (marked stands.superblock)

pub book_not_old : (image : Image) (total : ℕ) (book : List Series) → StandsForBook image total book → HasOldMagic (image 0) → ⊥
book_not_old image total book stands = new_not_old (image 0) (book_magic image total book stands)

pub book_current : (image : Image) (total : ℕ) (book : List Series) → StandsForBook image total book → current image ≡ image
book_current image total book stands = current_same image (book_not_old image total book stands)

pub book_keeps : (count : ℕ) (image : Image) (total : ℕ) (book : List Series) → StandsForBook (pages_of count image) total book
    → KeepsOldStore count image
book_keeps count image total book stands = λ old. absurd (book_not_old (pages_of count image) total book stands old)

-- page 0 of a store has its magic, so the pages are current
pub spelled_current : (image : Image) (s : Superblock) → image 0 ≡ superblock_page s → current image ≡ image
spelled_current image s spelled = current_same image (new_not_old (image 0) (subst HasMagic (sym spelled) (marked s)))

-- pages that are those of an image in version 2 stay so
pub book_once : (count : ℕ) (old new : Image) → pages_of count new ≡ book_pages count old → book_pages count new ≡ book_pages count old
book_once count old new same = ap (λ (pages : Image). current pages) same ∙ current_once (pages_of count old)

-- an image whose pages stand for a book recovers to it
pub recovers_new : (count : ℕ) (image : Image) (total : ℕ) (book : List Series) → IsReadable count image → total ≤ count
    → StandsForBook (pages_of count image) total book → RecoversTo count image total book
recovers_new count image total book readable within stands =
    let P : Image → Type 0 = λ pages. StandsForBook pages total book in
    record {
      readable = readable;
      within = within;
      old = book_keeps count image total book stands;
      stands = subst P (sym (book_current (pages_of count image) total book stands)) stands;
    }
