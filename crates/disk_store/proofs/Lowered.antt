-- What is known of a disk, of its pages.
use Rattle.std.proofs.Common.{◌≡◌, ℕ, ◌≤◌, List, [], ◌∷◌, get_or, refl, sym, ap, subst, arith, ◌∙◌}
use Rattle.block_disk.specs.View.{Image, View, Honest}
use Rattle.gate_pages.specs.GateLaws.{closed_readable}
use Rattle.gate_pages.specs.GatePages.{PagesOf, IsReadable, IsClosed}
use Rattle.gate_pages.specs.Journal.{pages_of}
use Rattle.page_space.specs.Layout.{superblock_page}
use Rattle.page_space.specs.declared.superblock.Superblock.{Superblock}
use Rattle.series_book.specs.declared.one_series.Series.{Series}
use Rattle.stored_book.specs.Standing.{StandsForBook, RecoversTo}
use Rattle.stored_book.proofs.CurrentLemmas.{recovers_new}
use Rattle.disk_store.specs.Held.{HoldsBook}

-- page 0 of a store begins with the byte 67
marked : (s : Superblock) → get_or (superblock_page s) 0 0 ≡ 67
unfolding superblock_page
marked s = refl

-- pages of one byte, which is no store's
abbrev odd : Image
odd page = 1 ∷ []

odd_stands : (total : ℕ) (book : List Series) → StandsForBook odd total book → ⊥
odd_stands total book stands =
    let byte : 1 ≡ 67 = ap (λ (l : List ℕ). get_or l 0 0) stands.store.stands.spelled ∙ marked stands.superblock in
    omega (arith, byte)

-- If all pages that a crash may leave have a property, and those that have it stand for a book, then the journal of each
-- image that it may leave can be read, and its pages have the property: where no journal can be read they might be any.
module _ (count : ℕ) (crash : Image → Type 0) (Q : Image → Type 0) (total_of : (pages : Image) → Q pages → ℕ) (book_of : (pages : Image)
    → Q pages → List Series)
    (stand : (pages : Image) (is : Q pages) → StandsForBook pages (total_of pages is) (book_of pages is)) (all : (pages : Image)
    → PagesOf count crash pages → Q pages) (image : Image) (left : crash image) where
  pub lowered_readable : IsReadable count image
  lowered_readable broken =
      let is : Q odd = all odd (record { from = image; was = left; same = λ readable. absurd (readable broken) }) in
      odd_stands (total_of odd is) (book_of odd is) (stand odd is)

  pub lowered_is : Q (pages_of count image)
  lowered_is = all (pages_of count image) (record { from = image; was = left; same = λ readable. refl })

-- a disk at rest holds the book for which its pages stand
pub holds_closed : (count total : ℕ) (book : List Series) (disk : View) → IsClosed disk → Honest disk → total ≤ count
    → StandsForBook (pages_of count disk.image) total book → HoldsBook count total book disk
holds_closed count total book disk closed honest within stands = record {
  honest = honest;
  images = λ image left.
      let here : RecoversTo count disk.image total book = recovers_new count disk.image total book
      (closed_readable count disk.image (closed.gate honest)) within stands in
      let P : Image → Type 0 = λ i. RecoversTo count i total book in
      subst P (sym (closed.only image left)) here;
}
