-- The pages of a space as bytes: the superblock, a page of the chain, and an empty page of the catalog.
use Rattle.std.specs.Prelude.{ℕ, ◌+◌, ◌-◌, ◌^◌, ◌≡◌, ◌≢◌, ◌≤◌, ◌<◌, ◌↔◌, List, [], ◌∷◌, ◌++◌, drop, replicate}
use Rattle.byteorder.specs.Endian.{big_bytes}
use Rattle.page_space.specs.declared.superblock.Superblock.{Superblock}

-- CHARTST2
abbrev pub magic : List ℕ
magic = 67 ∷ 72 ∷ 65 ∷ 82 ∷ 84 ∷ 83 ∷ 84 ∷ 50 ∷ []

-- page 0 begins with the magic
abbrev pub HasMagic : List ℕ → Type 0
HasMagic page = page ≡ magic ++ drop 8 page

-- a number in four bytes, the highest first
unfoldable pub word : ℕ → List ℕ
word n = big_bytes 4 n

-- page 0 with these numbers: behind them all is zero
unfoldable pub superblock_page : Superblock → List ℕ
superblock_page s = magic ++ (word s.total ++ (word s.fresh ++ (word s.head ++ (word s.chain ++ (word s.series ++ replicate 4068 0)))))

-- a page behind the catalog that was in use before
abbrev pub IsGiven : ℕ → ℕ → Type 0
IsGiven fresh p = (17 ≤ p) × (p < fresh)

-- the rules of the numbers of page 0, over so many pages
pub record IsSuperblock (count : ℕ) (s : Superblock) : Type 0 where
  pub total_low : 62 ≤ s.total
  pub total_high : s.total ≤ count
  pub fresh_low : 17 ≤ s.fresh
  pub fresh_high : s.fresh ≤ s.total
  pub head_is : s.head ≢ 0 → IsGiven s.fresh s.head
  pub chain_high : s.chain + 17 ≤ s.fresh
  pub none : (s.chain ≡ 0) ↔ (s.head ≡ 0)
  pub series_high : s.series ≤ 512

-- each number fits in four bytes
pub record IsSmall (s : Superblock) : Type 0 where
  pub total : s.total < 2 ^ 32
  pub fresh : s.fresh < 2 ^ 32
  pub head : s.head < 2 ^ 32
  pub chain : s.chain < 2 ^ 32
  pub series : s.series < 2 ^ 32

-- page 0 keeps its layout, and these are its numbers
pub record Keeps (count : ℕ) (s : Superblock) (page : List ℕ) : Type 0 where
  pub spelled : page ≡ superblock_page s
  pub rules : IsSuperblock count s

-- a page of the chain: the next page of it, or 0, and else zeros
unfoldable pub freed_page : ℕ → List ℕ
freed_page next = 1 ∷ 0 ∷ 0 ∷ 0 ∷ (word next ++ replicate 4088 0)

-- what may follow the head of the chain: 0 exactly where the head is its last page
pub record IsNext (s : Superblock) (next : ℕ) : Type 0 where
  pub last : (s.chain ≡ 1) ↔ (next ≡ 0)
  pub given : next ≢ 0 → IsGiven s.fresh next

-- the head of the chain keeps its layout, and names this page
pub record Links (s : Superblock) (next : ℕ) (page : List ℕ) : Type 0 where
  pub spelled : page ≡ freed_page next
  pub rule : IsNext s next

-- a page of the catalog without a series
unfoldable pub catalog_page : List ℕ
catalog_page = 4 ∷ replicate 4095 0

-- The numbers of page 0 and what becomes of them.

-- so many pages are in use, those of the catalog and page 0 among them
abbrev pub in_use : Superblock → ℕ
in_use s = s.fresh - s.chain

-- no page is free
abbrev pub IsFull : Superblock → Type 0
IsFull s = (s.chain ≡ 0) × (s.fresh ≡ s.total)

-- an empty store of so many pages
abbrev pub empty_of : ℕ → Superblock
empty_of count = record { total = count; fresh = 17; head = 0; chain = 0; series = 0 }

-- the first page that was never used is taken
abbrev pub with_fresh : Superblock → Superblock
with_fresh s = record { total = s.total; fresh = s.fresh + 1; head = s.head; chain = s.chain; series = s.series }

-- the head of the chain is taken, and this is the next one
abbrev pub without_head : Superblock → ℕ → Superblock
without_head s next = record { total = s.total; fresh = s.fresh; head = next; chain = s.chain - 1; series = s.series }

-- a page becomes the head of the chain
abbrev pub with_head : Superblock → ℕ → Superblock
with_head s p = record { total = s.total; fresh = s.fresh; head = p; chain = s.chain + 1; series = s.series }

abbrev pub with_series : Superblock → ℕ → Superblock
with_series s n = record { total = s.total; fresh = s.fresh; head = s.head; chain = s.chain; series = n }
