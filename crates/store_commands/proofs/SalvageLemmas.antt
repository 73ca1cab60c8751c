-- A disk that holds a book has each series of it.
use Rattle.std.proofs.Common.{◌≡◌, ℕ, ◌≤◌, List, Some, slice_get, arith}
use Rattle.block_disk.specs.View.{View}
use Rattle.disk_store.specs.Held.{HoldsBook}
use Rattle.page_space.specs.Layout.{IsSuperblock}
use Rattle.page_space.specs.declared.superblock.Superblock.{Superblock}
use Rattle.series_book.specs.declared.one_series.Series.{Series}
use Rattle.series_store.proofs.FitLemmas.{kept_fit}
use Rattle.stored_book.specs.Records.{entry}
use Rattle.stored_book.specs.OneSeries.{BooksHoldTheirSeries}
use Rattle.stored_book.specs.Standing.{RecoversTo, StandsForBook, book_pages}
use Rattle.store_commands.specs.Salvaged.{HasSeries, HasWhereFit}

-- numbers that keep their rules over as many pages as they say keep them over more
more_pages : (count : ℕ) (s : Superblock) → s.total ≤ count → IsSuperblock s.total s → IsSuperblock count s
more_pages count s few rules = record {
  total_low = rules.total_low;
  total_high = few;
  fresh_low = rules.fresh_low;
  fresh_high = rules.fresh_high;
  head_is = rules.head_is;
  chain_high = rules.chain_high;
  none = rules.none;
  series_high = rules.series_high;
}

pub has_each : BooksHoldTheirSeries → (count total : ℕ) (book : List Series) (id : ℕ) (series : Series) (disk : View)
    → HoldsBook count total book disk → slice_get book id ≡ Some series → HasSeries count disk series.name series
has_each each count total book id series disk holds there =
    let recovers : RecoversTo count disk.image total book = holds.images disk.image holds.honest in
    let stands : StandsForBook (book_pages count disk.image) total book = recovers.stands in
    let s : Superblock = stands.superblock in
    record {
      numbers = s;
      keeps = record {
        spelled = stands.store.stands.spelled;
        rules = more_pages count s (omega (arith, stands.total_is, recovers.within)) stands.store.stands.rules;
      };
      so = each (book_pages count disk.image) s book id series stands.store there;
    }

pub held_fit : (count : ℕ) (disk : View) (name : List ℕ) (series : Series) → HasSeries count disk name series
    → HasWhereFit count disk name series
held_fit count disk name series has = record {
  numbers = has.numbers;
  keeps = has.keeps;
  so = record {
    id = has.so.id;
    there = has.so.there;
    named = has.so.named;
    alone = has.so.alone;
    so = kept_fit (book_pages count disk.image) has.numbers.total series (entry (book_pages count disk.image) has.so.id) has.so.so;
  };
}
