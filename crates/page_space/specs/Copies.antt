-- The copies of pages that a cache holds.
use Rattle.std.specs.Prelude.{ℕ, ◌%◌, ◌==◌, ◌≡◌, if◌then◌else◌, List, Option, None, Some, slice_index_or, unwrap_or}
use Rattle.std.specs.Option.{option_map}
use Rattle.block_disk.specs.MemDisk.{blocks_of}
use Rattle.block_disk.specs.View.{Image}
use Rattle.gate_pages.specs.Batch.{Entry, page_in}
use Rattle.page_space.specs.declared.page_cache.Kept.{Kept}
use Rattle.page_space.specs.declared.page_cache.PageCache.{PageCache}

-- of each page the copy that is held, if there is one
abbrev pub Copies : Type 0
Copies = ℕ → Option (List ℕ)

-- the place of a page
abbrev pub place : ℕ → ℕ
place p = p % 4096

-- what a place that holds the page of this number has of a page
abbrev pub copy_of : ℕ → List ℕ → Copies
copy_of number bytes p = if p == number then Some bytes else None

-- what a place has of a page
abbrev pub copy_at : Option Kept → List ℕ → Copies
copy_at None bytes p = None
copy_at (Some kept) bytes p = copy_of kept.page (blocks_of bytes kept.copy) p

-- the copies in these places
abbrev pub copies_at : List (Option Kept) → List ℕ → Copies
copies_at places bytes p = copy_at (slice_index_or places (place p) None) bytes p

-- the copies that a cache holds
abbrev pub copies_in : PageCache → Copies
copies_in cache = copies_at cache.places.items cache.bytes.items

-- this page is held in its place, and the other places hold what they held
abbrev pub with_copy : ℕ → List ℕ → Copies → Copies
with_copy p bytes copies q = if place q == place p then copy_of p bytes q else copies q

-- each page that is held has the bytes of the batch, where it has such
abbrev pub renewed : List Entry → Copies → Copies
renewed batch copies p = option_map (λ bytes. unwrap_or (page_in batch p) bytes) (copies p)

-- each copy is the page
abbrev pub AreCopiesOf : Image → Copies → Type 0
AreCopiesOf image copies = (p : ℕ) (bytes : List ℕ) → copies p ≡ Some bytes → bytes ≡ image p
