-- What a call of a space leaves of what stands.
use Rattle.std.specs.Prelude.{ℕ, ◌≡◌, List, ◌∷◌, drop}
use Rattle.block_disk.specs.View.{Image}
use Rattle.page_space.specs.declared.superblock.Superblock.{Superblock}
use Rattle.page_space.specs.declared.txn.Txn.{Txn}
use Rattle.page_space.specs.Spaces.{times, Stands}
use Rattle.page_space.specs.Transactions.{left_by}

-- where pages stand with these numbers, a transaction would leave them standing with the same pages in use and freed
abbrev pub StandsAs : Superblock → Txn → Type 0
StandsAs s txn = (count : ℕ) (image : Image) (taken freed : List ℕ) → Stands count image s taken freed
    → Stands count (left_by txn image) txn.superblock taken freed

-- where what a transaction would leave stands, it does so afterwards, with the same pages in use and freed
abbrev pub KeepsStanding : Txn → Txn → Type 0
KeepsStanding old new = (count : ℕ) (image : Image) (taken freed : List ℕ) → Stands count (left_by old image) old.superblock taken freed
    → Stands count (left_by new image) new.superblock taken freed

-- and so where this page isn't a freed one
abbrev pub KeepsStandingOff : ℕ → Txn → Txn → Type 0
KeepsStandingOff p old new = (count : ℕ) (image : Image) (taken freed : List ℕ)
    → Stands count (left_by old image) old.superblock taken freed → times p freed ≡ 0
    → Stands count (left_by new image) new.superblock taken freed

-- where this page was in use, it is freed, and the others stay
abbrev pub Frees : ℕ → Txn → Txn → Type 0
Frees p old new =
    (count : ℕ) (image : Image) (taken rest freed : List ℕ) → Stands count (left_by old image) old.superblock taken freed
    → ((q : ℕ) → times q taken ≡ times q (p ∷ rest)) → Stands count (left_by new image) new.superblock rest (p ∷ freed)

-- of pages that are these, the page was not in use, and now it is
abbrev pub TakesInto : Image → ℕ → Txn → Txn → Type 0
TakesInto image p old new =
    (count : ℕ) (taken freed : List ℕ) → Stands count (left_by old image) old.superblock taken freed
    → Stands count (left_by new image) new.superblock (p ∷ taken) (drop 1 freed)

-- the first pages stand as the other ones do
abbrev pub StandsWith : Image → Superblock → Image → Superblock → Type 0
StandsWith old s new other = (count : ℕ) (taken freed : List ℕ) → Stands count old s taken freed → Stands count new other taken freed
