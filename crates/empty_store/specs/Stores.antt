-- An empty store, and what is left while one is made.
use Rattle.std.specs.Prelude.{ℕ, ◌≡◌, ◌≤◌, ◌<◌, ◌⊎◌}
use Rattle.block_disk.specs.View.{Image, View, Honest, Passes, sent_now}
use Rattle.gate_pages.specs.GatePages.{IsReadable, StandsAsBefore}
use Rattle.gate_pages.specs.Journal.{page_count, pages_of}
use Rattle.gate_pages.specs.Pages.{Quiet, GoesOn}
use Rattle.page_space.specs.Layout.{HasMagic, superblock_page, catalog_page, empty_of}
use Rattle.store_upgrade.specs.Upgraded.{current}

-- page 0 counts no series, and no page in use but itself and the 16 pages of the catalog, which have no series
pub record IsEmptyStore (count : ℕ) (pages : Image) : Type 0 where
  pub first : pages 0 ≡ superblock_page (empty_of count)
  pub catalog : (p : ℕ) → 1 ≤ p → p < 17 → pages p ≡ catalog_page

-- the image stands for an empty store, and its journal can be read
pub record IsNewStore (count : ℕ) (image : Image) : Type 0 where
  pub readable : IsReadable count image
  pub store : IsEmptyStore count (pages_of count image)

-- there is a store of either version, or what is left of one: the journal can be read, and once it is replayed, page 0 has
-- the magic of version 2 or that of version 1
pub record HasStore (count : ℕ) (image : Image) : Type 0 where
  pub readable : IsReadable count image
  pub magic : HasMagic (current (pages_of count image) 0)

-- the disk stands for the pages that it stood for
abbrev pub KeepsPages : View → View → Type 0
KeepsPages old new = Honest old → pages_of (page_count old.size) new.image ≡ pages_of (page_count old.size) old.image

-- pages from before, or a new store
abbrev pub BeforeOrNew : ℕ → View → Image → Type 0
BeforeOrNew count before image = StandsAsBefore count before image ⊎ IsNewStore count image

-- At each moment from old to new a crash leaves an image that stands for pages from before, or a new store, and no
-- byte is sent.
pub record LeavesNew (count : ℕ) (old new : View) : Type 0 where
  pub goes_on : GoesOn old new
  pub images : (at : ℕ) (image : Image) → old.clock ≤ at → at ≤ new.clock → new.crash at image → BeforeOrNew count old image
  pub sent : (at : ℕ) → old.clock ≤ at → at ≤ new.clock → new.sent_by at ≡ sent_now old

-- at each moment from old to new a crash leaves the pages of old, or an empty store, and no byte is sent
abbrev pub Makes : View → View → Type 0
Makes old new = Passes old new (λ pages. (pages ≡ old.image) ⊎ IsEmptyStore old.size pages) (Quiet old)
