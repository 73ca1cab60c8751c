-- When a disk holds a book.
use Rattle.std.specs.Prelude.{ℕ, List}
use Rattle.block_disk.specs.View.{Image, View, Now, Honest}
use Rattle.series_book.specs.declared.one_series.Series.{Series}
use Rattle.stored_book.specs.Standing.{RecoversTo}

-- Every image of so many pages that a crash now may leave recovers to this book, with this total of pages in use or
-- free, and reads give one of them.
pub record HoldsBook (count total : ℕ) (book : List Series) (disk : View) : Type 0 where
  pub honest : Honest disk
  pub images : (image : Image) → Now disk image → RecoversTo count image total book
