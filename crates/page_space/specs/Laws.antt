-- Laws of standing pages.
use Rattle.std.specs.Prelude.{◌≡◌, ◌<◌, ◌^◌, ℕ, List}
use Rattle.block_disk.specs.View.{Image}
use Rattle.page_space.specs.Spaces.{times, Stands}
use Rattle.page_space.specs.Standing.{IsSame}
use Rattle.page_space.specs.declared.superblock.Superblock.{Superblock}

-- Pages stand for one state alone.
abbrev pub PagesStandForOneState : Type 0
PagesStandForOneState =
    (count : ℕ) (image : Image) (s other : Superblock) (taken taken' freed freed' : List ℕ)
    → count < 2 ^ 32 → Stands count image s taken freed → Stands count image other taken' freed' → IsSame s other taken taken' freed freed'

-- Page 0 and the pages of the chain decide what pages stand for.
abbrev pub PagesStandOn : Type 0
PagesStandOn =
    (count : ℕ) (old new : Image) (s : Superblock) (taken taken' freed : List ℕ)
    → new 0 ≡ old 0 → ((p : ℕ) → 0 < times p freed → new p ≡ old p) → ((p : ℕ) → times p taken' ≡ times p taken)
    → Stands count old s taken freed
    → Stands count new s taken' freed
