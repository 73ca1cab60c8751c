-- A page is taken in a transaction.
use Rattle.std.proofs.Common.{◌≡◌, ◌≢◌, ℕ, ◌<◌, ◌^◌, List, ◌∷◌, drop, sym, ap, subst, inl, inr, ◌∙◌}
use Rattle.block_disk.specs.View.{Image}
use Rattle.page_space.specs.declared.superblock.Superblock.{Superblock}
use Rattle.page_space.specs.declared.txn.Txn.{Txn}
use Rattle.page_space.specs.declared.errors.SpaceError.{SpaceError}
use Rattle.page_space.specs.declared.errors.SpaceError.TheVariants.{Damaged}
use Rattle.page_space.specs.Causes.{Takes, Refuses}
use Rattle.page_space.specs.Layout.{superblock_page, with_fresh, without_head}
use Rattle.page_space.specs.Spaces.{first, Stands}
use Rattle.page_space.specs.Transactions.{left_by, OnlyFirst}
use Rattle.page_space.proofs.Leaving.{left_first, left_same}
use Rattle.page_space.proofs.Spacing.{take_fresh, take_head, head_links}

-- the pages go on standing, and the page is in use
pub taken_stands : (told : Type 0) (old new : Txn) (image : Image) (p : ℕ) → told → old.superblock.fresh < 2 ^ 32
    → new.superblock.head < 2 ^ 32 → OnlyFirst old new → Takes told (left_by old image) old.superblock new.superblock p
    → (count : ℕ) (taken freed : List ℕ) → Stands count (left_by old image) old.superblock taken freed
    → Stands count (left_by new image) new.superblock (p ∷ taken) (drop 1 freed)
taken_stands told old new image p is small small' only takes count taken freed stands = elim takes [
  | inl chain ↦
      let s = old.superblock in
      let next = new.superblock.head in
      let spelled : left_by new image 0 ≡ superblock_page (without_head s next) = left_first new image
      ∙ ap (λ t. superblock_page t) chain.after in
      let stood = take_head count (left_by old image) (left_by new image) s next taken freed chain.some small small' chain.rule
      (chain.spelled is) spelled (λ q behind. left_same old new image q (only.others q behind)) stands in
      let P : Superblock → Type 0 = λ t. Stands count (left_by new image) t (s.head ∷ taken) (drop 1 freed) in
      let Q : ℕ → Type 0 = λ q. Stands count (left_by new image) new.superblock (q ∷ taken) (drop 1 freed) in
      subst Q (sym chain.head_is) (subst P (sym chain.after) stood)
  | inr fresh ↦
      let s = old.superblock in
      let spelled : left_by new image 0 ≡ superblock_page (with_fresh s) = left_first new image ∙ ap (λ t. superblock_page t) fresh.after in
      let stood = take_fresh count (left_by old image) (left_by new image) s taken freed fresh.none fresh.room spelled stands in
      let P : Superblock → Type 0 = λ t. Stands count (left_by new image) t (s.fresh ∷ taken) (drop 1 freed) in
      let Q : ℕ → Type 0 = λ q. Stands count (left_by new image) new.superblock (q ∷ taken) (drop 1 freed) in
      subst Q (sym fresh.fresh_is) (subst P (sym fresh.after) stood)
]

-- the same where the new numbers are known by another name
pub taken_stands_at : (told : Type 0) (old new : Txn) (s' : Superblock) (image : Image) (p : ℕ) → told → new.superblock ≡ s'
    → old.superblock.fresh < 2 ^ 32 → s'.head < 2 ^ 32 → OnlyFirst old new → Takes told (left_by old image) old.superblock s' p
    → (count : ℕ) (taken freed : List ℕ) → Stands count (left_by old image) old.superblock taken freed
    → Stands count (left_by new image) new.superblock (p ∷ taken) (drop 1 freed)
taken_stands_at told old new s' image p is same small small' only takes =
    let Low : Superblock → Type 0 = λ t. t.head < 2 ^ 32 in
    let Taken : Superblock → Type 0 = λ t. Takes told (left_by old image) old.superblock t p in
    taken_stands told old new image p is small (subst Low (sym same) small') only (subst Taken (sym same) takes)

-- where the pages stand, the head of the chain keeps its layout
pub undamaged : (told : Type 0) (image : Image) (s : Superblock) (count page : ℕ) (taken freed : List ℕ) (cause : SpaceError)
    (before now : ℕ) → told → Stands count image s taken freed → Refuses cause told image s before now → cause ≢ Damaged page
undamaged told image s count page taken freed cause before now is stands refused same =
    let P : SpaceError → Type 0 = λ e. Refuses e told image s before now in
    let damaged : Refuses (Damaged page) told image s before now = subst P same refused in
    damaged.1.1 is (first (drop 1 freed)) (head_links count image s taken freed damaged.0 stands)
