-- Page 0 is read.
use Rattle.std.proofs.Common.{◌≡◌, ℕ, List, refl, sym, subst, inl, inr, ◌⊎◌}
use Rattle.block_disk.specs.View.{View}
use Rattle.page_space.specs.declared.superblock.Superblock.{Superblock}
use Rattle.page_space.specs.declared.errors.SpaceError.{SpaceError}
use Rattle.page_space.specs.declared.errors.SpaceError.TheVariants.{NotAStore, Full, DiskFault, Damaged, NoMemory}
use Rattle.page_space.specs.Causes.{Unreadable, Unopened}
use Rattle.page_space.specs.Layout.{HasMagic, IsSuperblock, Keeps}
use Rattle.page_space.proofs.Layouts.{marked}

pub rules_at : (count count' : ℕ) (s : Superblock) → count ≡ count' → IsSuperblock count s → IsSuperblock count' s
rules_at count count' s same rules = let P : ℕ → Type 0 = λ n. IsSuperblock n s in subst P same rules

pub keeps_at : (count count' : ℕ) (s : Superblock) (page page' : List ℕ) → count ≡ count' → page ≡ page' → Keeps count s page
    → Keeps count' s page'
keeps_at count count' s page page' same is keeps =
    let P : ℕ → Type 0 = λ n. Keeps n s page' in
    let Q : List ℕ → Type 0 = λ l. Keeps count s l in
    subst P same (subst Q is keeps)

-- what is said of the page as read holds of the page
pub unopened : (cause : SpaceError) (count : ℕ) (page : List ℕ) (told : Type 0) (old new : View) → count ≡ old.size
    → (told → page ≡ old.image 0) → Unreadable cause count page → Unopened cause told old new
unopened NotAStore count page told old new same read none = λ is has. none (subst HasMagic (sym (read is)) has)
unopened (Full needed have) count page told old new same read none = absurd none
unopened DiskFault count page told old new same read none = absurd none
unopened (Damaged at) count page told old new same read broken = (
  broken.0,
  λ is. (
    subst HasMagic (read is) broken.1.0,
    λ s keeps. broken.1.1 s (keeps_at old.size count s (old.image 0) page (sym same) (sym (read is)) keeps),
  ),
)
unopened NoMemory count page told old new same read none = absurd none

-- where page 0 keeps its layout, it is not the cause
pub a_store : (cause : SpaceError) (told : Type 0) (old new : View) (s : Superblock) → told → Keeps old.size s (old.image 0)
    → Unopened cause told old new → (cause ≡ DiskFault) ⊎ (cause ≡ NoMemory)
a_store NotAStore told old new s is keeps why = absurd (why is (subst HasMagic (sym keeps.spelled) (marked s)))
a_store (Full needed have) told old new s is keeps why = absurd why
a_store DiskFault told old new s is keeps why = inl refl
a_store (Damaged at) told old new s is keeps why = absurd ((why.1 is).1 s keeps)
a_store NoMemory told old new s is keeps why = inr refl
