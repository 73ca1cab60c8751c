-- What a disk means: the outside as one value, with the moments that it has passed.
use Rattle.std.specs.Prelude.{ℕ, ◌+◌, ◌≡◌, ◌≤◌, ◌<◌, List, Option}

-- a disk's content: the bytes of each block
abbrev pub Image : Type 0
Image = ℕ → List ℕ

-- what stands beside the blocks: a stream of input and one of output
pub record Beside : Type 0 where
  pub left : Option (List ℕ)
  pub sent : Option (List ℕ)
  pub read_faults : ℕ
  pub send_faults : ℕ
  pub pieces : ℕ

pub record View : Type 1 where
  -- how many blocks there are
  pub size : ℕ
  -- what reads give
  pub image : Image
  -- the moment, a number that doesn't fall
  pub clock : ℕ
  -- the images that a crash at a moment may leave
  pub crash : ℕ → Image → Type 0
  -- how many bytes were sent by a moment
  pub sent_by : ℕ → ℕ
  pub faults : ℕ
  pub reads : ℕ
  pub syncs : ℕ
  pub writes : ℕ
  pub beside : Beside
  -- more calls may be made
  pub fit : Type 0

-- what a crash now may leave
abbrev pub Now : View → Image → Type 0
Now view image = view.crash view.clock image

-- what reads give is one of the images that a crash now may leave
abbrev pub Honest : View → Type 0
Honest view = Now view view.image

-- how many bytes were sent so far
abbrev pub sent_now : View → ℕ
sent_now view = view.sent_by view.clock

-- a crash leaves this image and no other
abbrev pub Only : Image → (Image → Type 0) → Type 0
Only image images = (other : Image) → images other → other ≡ image

-- two images differ at these blocks alone
abbrev pub SameOff : (ℕ → Type 0) → Image → Image → Type 0
SameOff touched old new = (number : ℕ) → (touched number → ⊥) → new number ≡ old number

-- an image that differs from one of these at these blocks alone, where any bytes may stand
pub record TornOff (touched : ℕ → Type 0) (images : Image → Type 0) (torn : Image) : Type 0 where
  pub from : Image
  pub was : images from
  pub same : SameOff touched from torn

-- Time goes on from old to new. What was possible at the moments of old stays as it was. At each later
-- moment the images are among those, and the number of bytes sent is one of those, that are named.
pub record Passes (old new : View) (images : Image → Type 0) (sent : ℕ → Type 0) : Type 0 where
  pub later : old.clock ≤ new.clock
  pub past : (at : ℕ) (image : Image) → at ≤ old.clock → new.crash at image → old.crash at image
  pub kept : (at : ℕ) (image : Image) → at ≤ old.clock → old.crash at image → new.crash at image
  pub here : (at : ℕ) (image : Image) → old.clock < at → at ≤ new.clock → new.crash at image → images image
  pub sent_past : (at : ℕ) → at ≤ old.clock → new.sent_by at ≡ old.sent_by at
  pub sent_here : (at : ℕ) → old.clock < at → at ≤ new.clock → sent (new.sent_by at)

-- a count doesn't fall, and rises by at most so many
pub record Rises (most old new : ℕ) : Type 0 where
  pub low : old ≤ new
  pub high : new ≤ old + most

-- what a call of the disk does that touches these blocks, and so many reads, syncs and writes
pub record Moves (touched : ℕ → Type 0) (most_reads most_syncs most_writes : ℕ) (old new : View) : Type 0 where
  pub time : Passes old new (TornOff touched (Now old)) (λ count. count ≡ sent_now old)
  pub honest : Honest old → Honest new
  pub was_honest : Honest new → Honest old
  pub off : Honest old → SameOff touched old.image new.image
  pub size : new.size ≡ old.size
  pub beside : new.beside ≡ old.beside
  pub fit : old.fit → new.fit
  pub faults : old.faults ≤ new.faults
  pub reads : Rises most_reads old.reads new.reads
  pub syncs : Rises most_syncs old.syncs new.syncs
  pub writes : Rises most_writes old.writes new.writes

abbrev pub Nowhere : ℕ → Type 0
Nowhere number = ⊥

abbrev pub At : ℕ → ℕ → Type 0
At one number = number ≡ one

-- a call beside the disk leaves its blocks and its counts
pub record DiskKept (old new : View) : Type 0 where
  pub now : (image : Image) → Now old image → Now new image
  pub size : new.size ≡ old.size
  pub image : new.image ≡ old.image
  pub faults : new.faults ≡ old.faults
  pub reads : new.reads ≡ old.reads
  pub syncs : new.syncs ≡ old.syncs
  pub writes : new.writes ≡ old.writes
  pub fit : old.fit → new.fit
