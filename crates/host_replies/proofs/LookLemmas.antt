-- Reads change nothing but what was read.
use Rattle.std.proofs.Common.{◌≡◌}
use Rattle.block_disk.specs.View.{View}
use Rattle.page_space.specs.declared.superblock.Superblock.{Superblock}
use Rattle.retention.specs.Moving.{Looks}
use Rattle.series_catalog.specs.declared.catalog.Catalog.{Catalog}
use Rattle.series_store.specs.Counting as counting

-- a look at pages is one at a store whose catalog stays
pub looks_at : (told told' : Type 0) (old new under under' : View) (s s' : Superblock) (catalog catalog' : Catalog)
    → counting.Looks told told' old new under under' s s' → catalog' ≡ catalog → Looks told told' old new under under' s s' catalog catalog'
looks_at told told' old new under under' s s' catalog catalog' looks same = record {
  time = looks.kept.time;
  goes_on = looks.over.goes_on;
  told = looks.kept.told;
  was_told = looks.kept.was_told;
  image = looks.kept.image;
  size = looks.kept.size;
  beside = looks.kept.beside;
  fit = looks.kept.fit;
  faults = looks.kept.faults;
  syncs = looks.kept.syncs;
  writes = looks.kept.writes;
  superblock = looks.over.superblock;
  catalog_is = same;
}
