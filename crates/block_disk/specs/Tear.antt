-- What a crash makes of pending blocks.
use Rattle.std.specs.Prelude.{ℕ, ◌≡◌, ◌⊎◌, List, [], ◌∷◌, ◌++◌, take, drop, replicate}
use Rattle.block_disk.specs.Blocks.{block_size}
use Rattle.block_disk.specs.View.{Image}
use Rattle.block_disk.specs.MemDisk.{put, before_all, HasNoSync, IsPending}
use Rattle.block_disk.specs.declared.mem_disk.Call.{Call}
use Rattle.block_disk.specs.declared.mem_disk.Call.TheVariants.{Wrote, Synced, Asked}
use Rattle.block_disk.specs.declared.tear.Tear.{Tear}
use Rattle.block_disk.specs.declared.tear.Tear.TheVariants.{Old, New, Half, Junk}

-- a pending block after a crash, from what it was at the last sync and what was written
abbrev pub torn : Tear → List ℕ → List ℕ → List ℕ
torn Old old new = old
torn New old new = new
torn Half old new = take 2048 new ++ drop 2048 old
torn (Junk byte) old new = replicate block_size byte

-- an image once the block of a call is torn
abbrev pub after_tear : Tear → Call → Image → Image → Image → Image
after_tear tear (Wrote number block) old new image = put number (torn tear (old number) (new number)) image
after_tear tear Synced old new image = image
after_tear tear Asked old new image = image

-- there are no calls, or the last of them is a sync
abbrev pub EndsSynced : List Call → Type 0
EndsSynced calls = (calls ≡ []) ⊎ ((front : List Call) × (calls ≡ front ++ Synced ∷ []))

-- a block was written by one of the calls
abbrev pub Touched : List Call → ℕ → Type 0
Touched [] number = ⊥
Touched (Wrote one block ∷ calls) number = (number ≡ one) ⊎ Touched calls number
Touched (Synced ∷ calls) number = Touched calls number
Touched (Asked ∷ calls) number = Touched calls number

-- the touched blocks are torn between old and new, and the others are as new
pub record TornBy (tear : Tear) (calls : List Call) (old new left : Image) : Type 0 where
  pub touched : (number : ℕ) → Touched calls number → left number ≡ torn tear (old number) (new number)
  pub others : (number : ℕ) → (Touched calls number → ⊥) → left number ≡ new number

-- The pending blocks are torn between what they were at the last sync and what was written. The others
-- are as they were.
pub record Crashed (tear : Tear) (calls : List Call) (image left : Image) : Type 0 where
  -- how many calls there were when the last sync was done
  pub synced : ℕ
  pub last : EndsSynced (take synced calls)
  pub since : HasNoSync (drop synced calls)
  pub pending : (number : ℕ) → IsPending calls number → left number ≡ torn tear (before_all (drop synced calls) image number) (image number)
  pub others : (number : ℕ) → (IsPending calls number → ⊥) → left number ≡ image number
