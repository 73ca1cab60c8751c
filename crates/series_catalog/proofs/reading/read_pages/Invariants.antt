use Rattle.std.proofs.Common.{◌≡◌, ◌-◌, ◌≤◌, ◌<◌, ℕ, length}
use Rattle.catalog_page.specs.Layout.{KeepsLayout}
use Rattle.catalog_page.specs.Places.{records_of}
use Rattle.series_catalog.specs.Catalogs.{AreAsTold}
use Rattle.series_catalog.specs.Reading.{AreRead}
use Rattle.series_catalog.specs.Shown.{ReadsUpTo, series_in}
use Rattle.page_space.specs.Shown as shown
use Rattle.series_catalog.proofs.reading.read_pages.Given as goal

abbrev pub invariant-loop-page : goal.invariant-loop-page
invariant-loop-page g l = record {
  read : AreRead (l.page - 1) (shown.numbers l.fn.space).series (shown.numbers l.fn.space).fresh (series_in l.catalog);
  told : shown.IsTold l.fn.space → AreAsTold (shown.image l.fn.space) (series_in l.catalog);
  keeps : shown.IsTold l.fn.space → (p : ℕ) → 1 ≤ p → p < l.page
      → KeepsLayout (records_of p (shown.numbers l.fn.space).series) (shown.numbers l.fn.space).fresh (shown.image l.fn.space p);
  reads : ReadsUpTo (l.page - 1) l.fn.space l.space;
  goes_on : shown.TimeGoesOn l.fn.space l.space;
  superblock : shown.numbers l.space ≡ shown.numbers l.fn.space;
  whole : length l.bytes ≡ 4096;
  same : (shown.view l.space).faults ≡ (shown.view l.fn.space).faults;
}
