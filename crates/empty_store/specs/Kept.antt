-- A store that is there stays.
use Rattle.std.specs.Prelude.{ℕ, ◌≡◌, ◌≤◌}
use Rattle.block_disk.specs.View.{Image, View, Passes}
use Rattle.gate_pages.specs.GatePages.{StandsAsBefore}
use Rattle.gate_pages.specs.Pages.{Quiet}

-- at each moment from old to new a crash leaves an image that stands for pages from before
abbrev pub LeavesOld : ℕ → View → View → Type 0
LeavesOld count old new = (at : ℕ) (image : Image) → old.clock ≤ at → at ≤ new.clock → new.crash at image → StandsAsBefore count old image

-- at each moment from old to new a crash leaves the pages of old, and no byte is sent
abbrev pub Stays : View → View → Type 0
Stays old new = Passes old new (λ pages. pages ≡ old.image) (Quiet old)
