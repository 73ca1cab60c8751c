-- When a page is taken, and why not.
use Rattle.std.specs.Prelude.{ℕ, ◌+◌, ◌≡◌, ◌≢◌, ◌<◌, ◌⊎◌, List}
use Rattle.block_disk.specs.Counts.{HasRisen}
use Rattle.block_disk.specs.View.{Image, View}
use Rattle.page_space.specs.declared.superblock.Superblock.{Superblock}
use Rattle.page_space.specs.declared.errors.SpaceError.{SpaceError}
use Rattle.page_space.specs.declared.errors.SpaceError.TheVariants.{NotAStore, Full, DiskFault, Damaged, NoMemory}
use Rattle.page_space.specs.Layout.{HasMagic, Keeps, Links, IsNext, IsFull, in_use, freed_page, with_fresh, without_head}

-- the head of the chain was taken, and where the pages are told, this is what it names
pub record FromChain (told : Type 0) (image : Image) (s s' : Superblock) (p : ℕ) : Type 0 where
  pub some : s.chain ≢ 0
  pub head_is : p ≡ s.head
  pub rule : IsNext s s'.head
  pub spelled : told → image s.head ≡ freed_page s'.head
  pub after : s' ≡ without_head s s'.head

-- the chain is empty, and the first page that was never used was taken
pub record FromFresh (s s' : Superblock) (p : ℕ) : Type 0 where
  pub none : s.chain ≡ 0
  pub room : s.fresh < s.total
  pub fresh_is : p ≡ s.fresh
  pub after : s' ≡ with_fresh s

abbrev pub Takes : Type 0 → Image → Superblock → Superblock → ℕ → Type 0
Takes told image s s' p = FromChain told image s s' p ⊎ FromFresh s s' p

-- when a page isn't taken: image is what the transaction would leave, and the counts are those of faults
abbrev pub Refuses : SpaceError → Type 0 → Image → Superblock → ℕ → ℕ → Type 0
Refuses NotAStore told image s old new = ⊥
Refuses (Full needed have) told image s old new = IsFull s × ((needed ≡ in_use s + 1) × (have ≡ s.total))
Refuses DiskFault told image s old new = (s.chain ≢ 0) × HasRisen old new
Refuses (Damaged page) told image s old new = (s.chain ≢ 0) × ((page ≡ s.head) × (told → (next : ℕ) → Links s next (image s.head) → ⊥))
Refuses NoMemory told image s old new = ⊥

-- when page 0, as read, gives no superblock
abbrev pub Unreadable : SpaceError → ℕ → List ℕ → Type 0
Unreadable NotAStore count page = HasMagic page → ⊥
Unreadable (Full needed have) count page = ⊥
Unreadable DiskFault count page = ⊥
Unreadable (Damaged at) count page = (at ≡ 0) × (HasMagic page × ((s : Superblock) → Keeps count s page → ⊥))
Unreadable NoMemory count page = ⊥

-- why pages weren't opened
abbrev pub Unopened : SpaceError → Type 0 → View → View → Type 0
Unopened NotAStore told old new = told → HasMagic (old.image 0) → ⊥
Unopened (Full needed have) told old new = ⊥
Unopened DiskFault told old new = HasRisen old.faults new.faults
Unopened (Damaged at) told old new = (at ≡ 0) × (told → HasMagic (old.image 0) × ((s : Superblock) → Keeps old.size s (old.image 0) → ⊥))
Unopened NoMemory told old new = Unit {0}

-- why they weren't made an empty store
abbrev pub Uninitialized : SpaceError → View → View → Type 0
Uninitialized NotAStore old new = ⊥
Uninitialized (Full needed have) old new = ⊥
Uninitialized DiskFault old new = HasRisen old.faults new.faults
Uninitialized (Damaged at) old new = ⊥
Uninitialized NoMemory old new = Unit {0}

-- the disk failed, or there was no memory
abbrev pub IsOutside : SpaceError → Type 0
IsOutside cause = (cause ≡ DiskFault) ⊎ (cause ≡ NoMemory)
