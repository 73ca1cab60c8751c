-- A disk with too few blocks for a store turns a command away.
use Rattle.std.specs.Prelude.{ℕ, ◌≡◌, ◌<◌, List, [], ◌∷◌, Contains, Option}
use Rattle.block_disk.specs.View.{View}
use Rattle.run_ends.specs.declared.status.Status.{Status}
use Rattle.store_commands.specs.Traffic.{Traffic}

-- The status says that the disk is too small, unless a call of it failed or there was no memory. No input was taken, and
-- nothing was sent.
pub record IsTurnedAway (left left' before now : Option (List ℕ)) (code : ℕ) : Type 0 where
  pub codes : Contains (3 ∷ 6 ∷ 12 ∷ []) code
  pub left_is : left' ≡ left
  pub sent_is : now ≡ before

-- a disk of fewer than 128 blocks does so
abbrev pub TurnsAway : View → Traffic → Status → Type 0
TurnsAway old t end = old.size < 128 → IsTurnedAway t.left t.left_now t.sent t.sent_now end.code
