-- What the calls of pages do.
use Rattle.std.specs.Prelude.{ℕ, ◌+◌, ◌*◌, ◌≡◌, ◌≤◌, ◌⊎◌, List, length}
use Rattle.block_disk.specs.View.{Image, View, Now, sent_now, Passes, Rises}
use Rattle.gate_pages.specs.Batch.{Entry, put_all}

-- no byte is sent meanwhile
abbrev pub Quiet : View → ℕ → Type 0
Quiet view count = count ≡ sent_now view

-- the pages from before, or those with the batch in their places
abbrev pub BeforeOrAfter : List Entry → Image → Image → Type 0
BeforeOrAfter batch before pages = (pages ≡ before) ⊎ (pages ≡ put_all batch before)

-- time goes on from old to new: what was possible at the moments of old stays as it was
pub record GoesOn (old new : View) : Type 0 where
  pub later : old.clock ≤ new.clock
  pub past : (at : ℕ) (image : Image) → at ≤ old.clock → new.crash at image → old.crash at image
  pub kept : (at : ℕ) (image : Image) → at ≤ old.clock → old.crash at image → new.crash at image
  pub sent_past : (at : ℕ) → at ≤ old.clock → new.sent_by at ≡ old.sent_by at

-- One block is read at most, and nothing else changes. At each moment a crash leaves what it might have left before.
pub record Reads (told_old told_new : Type 0) (old new : View) : Type 0 where
  pub time : Passes old new (Now old) (Quiet old)
  pub told : told_old → told_new
  pub was_told : told_new → told_old
  pub image : told_old → new.image ≡ old.image
  pub size : new.size ≡ old.size
  pub beside : new.beside ≡ old.beside
  pub fit : old.fit → new.fit
  pub faults : old.faults ≤ new.faults
  pub reads : Rises 1 old.reads new.reads
  pub syncs : new.syncs ≡ old.syncs
  pub writes : new.writes ≡ old.writes

-- A batch is committed, or part of the way there. At each moment a crash leaves the pages from before or after.
pub record Commits (batch : List Entry) (told_old told_new : Type 0) (old new : View) : Type 0 where
  pub time : Passes old new (BeforeOrAfter batch old.image) (Quiet old)
  pub told : told_old → told_new
  pub was_told : told_new → told_old
  pub size : new.size ≡ old.size
  pub beside : new.beside ≡ old.beside
  pub faults : old.faults ≤ new.faults
  pub reads : new.reads ≡ old.reads
  pub syncs : Rises 4 old.syncs new.syncs
  pub writes : Rises (2 * length batch + 3) old.writes new.writes
