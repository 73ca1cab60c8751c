-- What a crash leaves at each moment, and how many bytes were sent by then.
use Rattle.std.specs.Prelude.{ℕ, ◌<◌, ◌≤◌}
use Rattle.block_disk.specs.View.{Image, View}
use Rattle.gate_pages.specs.Pages.{GoesOn}

-- Time goes on from old to new. At each moment since, an image that a crash may leave and the number of bytes sent by
-- then are so.
pub record Since (old new : View) (IsSo : Image → ℕ → Type 0) : Type 0 where
  pub goes : GoesOn old new
  pub here : (at : ℕ) (image : Image) → old.clock ≤ at → at ≤ new.clock → new.crash at image → IsSo image (new.sent_by at)

-- Time goes on from old to new. At each later moment an image that a crash may leave and the number of bytes sent by
-- then are so.
pub record Through (old new : View) (IsSo : Image → ℕ → Type 0) : Type 0 where
  pub goes : GoesOn old new
  pub here : (at : ℕ) (image : Image) → old.clock < at → at ≤ new.clock → new.crash at image → IsSo image (new.sent_by at)
