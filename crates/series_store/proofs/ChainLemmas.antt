-- The pages of the chain are taken one after the other.
use Rattle.std.proofs.Common.{◌≡◌, ◌≢◌, ℕ, suc, ◌+◌, ◌-◌, ◌<◌, ◌≤◌, List, ◌∷◌, drop, unwrap_or, refl, sym, ap, subst, arith, inl, inr, ◌∙◌}
use Rattle.block_disk.specs.View.{Image, View, Rises}
use Rattle.page_space.specs.declared.superblock.Superblock.{Superblock}
use Rattle.page_space.specs.declared.txn.Txn.{Txn}
use Rattle.page_space.specs.declared.errors.SpaceError.{SpaceError}
use Rattle.page_space.specs.declared.errors.SpaceError.TheVariants.{NotAStore as NoStore, Full, DiskFault as AtDisk, Damaged as AtPage}
use Rattle.page_space.specs.declared.errors.SpaceError.TheVariants.{NoMemory as AtMemory}
use Rattle.page_space.specs.Causes.{FromChain, Takes, Refuses}
use Rattle.page_space.specs.Layout.{IsSuperblock, Links, freed_page, without_head}
use Rattle.page_space.specs.Spaces.{Stands}
use Rattle.page_space.specs.Transactions.{left_by, OnlyFirst}
use Rattle.path_repair.specs.Damage.{HasBadLink}
use Rattle.series_catalog.proofs.ReadLemmas.{risen_on}
use Rattle.series_store.specs.Counting.{Looks, IsSoundChain, NamesWithin, IsChainCause}
use Rattle.series_store.specs.Opening.{IsOutside, space_error_of}
use Rattle.series_store.proofs.LookLemmas.{looks_then}

-- pages stand with these numbers
pub record HaveStood (count : ℕ) (image : Image) (s : Superblock) : Type 0 where
  pub taken : List ℕ
  pub freed : List ℕ
  pub stands : Stands count image s taken freed

-- so many pages of the chain are left, and those before were sound
pub record IsPassing (told told' : Type 0) (old new under under' : View) (s s' : Superblock) (txn : Txn) (left : ℕ) : Type 0 where
  pub looks : Looks told told' old new under under' s s'
  pub total : txn.superblock.total ≡ s.total
  pub left_is : txn.superblock.chain ≡ left
  pub reads : new.reads + left ≤ old.reads + s.chain
  pub same : told → (p : ℕ) → 0 < p → left_by txn old.image p ≡ old.image p
  pub bad : told → (at : ℕ) → HasBadLink old.image txn.superblock left at → HasBadLink old.image s s.chain at
  pub whole : told → IsSoundChain old.image txn.superblock left → IsSoundChain old.image s s.chain
  pub stands : (count : ℕ) (taken freed : List ℕ) → told → Stands count old.image s taken freed
      → HaveStood count (left_by txn old.image) txn.superblock

chain_bad : (image : Image) (s s' : Superblock) (left at : ℕ) → s' ≡ s → s.chain ≡ left → HasBadLink image s' left at
    → HasBadLink image s s.chain at
chain_bad image s s' left at same is bad =
    let S : Superblock → Type 0 = λ x. HasBadLink image x left at in
    let L : ℕ → Type 0 = λ n. HasBadLink image s n at in
    subst L (sym is) (subst S same bad)

chain_whole : (image : Image) (s s' : Superblock) (left : ℕ) → s' ≡ s → s.chain ≡ left → IsSoundChain image s' left
    → IsSoundChain image s s.chain
chain_whole image s s' left same is sound =
    let S : Superblock → Type 0 = λ x. IsSoundChain image x left in
    let L : ℕ → Type 0 = λ n. IsSoundChain image s n in
    subst L (sym is) (subst S same sound)

pub pass_start : (told told' : Type 0) (old new under under' : View) (s s' : Superblock) (txn : Txn) (left : ℕ)
    → Looks told told' old new under under' s s' → txn.superblock ≡ s → s.chain ≡ left
    → (told → (p : ℕ) → left_by txn old.image p ≡ old.image p)
    → ((count : ℕ) (image : Image) (taken freed : List ℕ) → Stands count image s taken freed
    → Stands count (left_by txn image) txn.superblock taken freed)
    → new.reads ≤ old.reads → IsPassing told told' old new under under' s s' txn left
pass_start told told' old new under under' s s' txn left looks same is pages stands none = record {
  reads = omega (arith, none, is);
  looks = looks;
  total = ap (λ (x : Superblock). x.total) same;
  left_is = ap (λ (x : Superblock). x.chain) same ∙ is;
  same = λ t p some. pages t p;
  bad = λ t at bad. chain_bad old.image s txn.superblock left at same is bad;
  whole = λ t sound. chain_whole old.image s txn.superblock left same is sound;
  stands = λ count taken freed t standing. record { taken = taken; freed = freed; stands = stands count old.image taken freed standing };
}

-- the head of the chain, as the transaction would leave it, is as it was
head_is : (told : Type 0) (old : View) (s : Superblock) (txn : Txn) → IsSuperblock s.total s → s.chain ≢ 0
    → (told → (p : ℕ) → 0 < p → left_by txn old.image p ≡ old.image p) → told → left_by txn old.image s.head ≡ old.image s.head
head_is told old s txn rules some same t = same t s.head (some_head s.head (λ none. some (rules.none.1 none)))
  where
    some_head : (n : ℕ) → n ≢ 0 → 0 < n
    some_head n some = omega (arith, some)

-- the numbers of a transaction once the head is taken
from_chain : (told : Type 0) (image : Image) (s s' : Superblock) (p left : ℕ) → s.chain ≡ suc left → Takes told image s s' p
    → FromChain told image s s' p
from_chain told image s s' p left is (inl taken) = taken
from_chain told image s s' p left is (inr fresh) = absurd (omega (arith, is, fresh.none))

next_bad : (image : Image) (s s' : Superblock) (left at : ℕ) → Links s s'.head (image s.head) → s' ≡ without_head s s'.head
    → HasBadLink image s' left at → HasBadLink image s (suc left) at
next_bad image s s' left at links after bad =
    let S : Superblock → Type 0 = λ x. HasBadLink image x left at in
    inr (s'.head, links, subst S after bad)

next_whole : (image : Image) (s s' : Superblock) (left : ℕ) → Links s s'.head (image s.head) → s' ≡ without_head s s'.head
    → IsSoundChain image s' left → IsSoundChain image s (suc left)
next_whole image s s' left links after sound =
    let S : Superblock → Type 0 = λ x. IsSoundChain image x left in
    (s'.head, links, subst S after sound)

one_less : (s s' : Superblock) (left : ℕ) → s.chain ≡ suc left → s' ≡ without_head s s'.head → s'.chain ≡ left
one_less s s' left is after =
    let less : s'.chain ≡ s.chain - 1 = ap (λ (x : Superblock). x.chain) after in
    omega (arith, less, is)

pub pass_on : (told told' told'' : Type 0) (old mid new under under' under'' : View) (s s' s'' : Superblock) (txn txn' : Txn)
    (left below p : ℕ) → IsPassing told told' old mid under under' s s' txn left → left ≡ suc below
    → Looks told' told'' mid new under' under'' s' s'' → Takes told' (left_by txn mid.image) txn.superblock txn'.superblock p
    → txn'.superblock.total ≡ txn.superblock.total → OnlyFirst txn txn'
    → (told' → (count : ℕ) (taken freed : List ℕ) → Stands count (left_by txn mid.image) txn.superblock taken freed
    → Stands count (left_by txn' mid.image) txn'.superblock (p ∷ taken) (drop 1 freed))
    → Rises 1 mid.reads new.reads → IsPassing told told'' old new under under'' s s'' txn' below
pass_on told told' told'' old mid new under under' under'' s s' s'' txn txn' left below p way is looks takes total only stands one =
    let chain_is : txn.superblock.chain ≡ suc below = way.left_is ∙ is in
    let from = from_chain told' (left_by txn mid.image) txn.superblock txn'.superblock p below chain_is takes in
    let I : Image → Type 0 = λ image. left_by txn image txn.superblock.head ≡ freed_page txn'.superblock.head in
    let links : told → Links txn.superblock txn'.superblock.head (old.image txn.superblock.head) = λ t. record {
      spelled = sym (head_is told old txn.superblock txn txn.rules from.some way.same t)
          ∙ subst I (way.looks.kept.image t) (from.spelled (way.looks.kept.told t));
      rule = from.rule;
    } in
    record {
      looks = looks_then told told' told'' old mid new under under' under'' s s' s'' way.looks looks;
      total = total ∙ way.total;
      reads = omega (arith, way.reads, is, one.high);
      left_is = one_less txn.superblock txn'.superblock below chain_is from.after;
      same = λ t q some. ap (λ page. unwrap_or page (old.image q)) (only.others q some) ∙ way.same t q some;
      bad = λ t at bad.
          let L : ℕ → Type 0 = λ n. HasBadLink old.image txn.superblock n at in
          way.bad t at (subst L (sym is) (next_bad old.image txn.superblock txn'.superblock below at (links t) from.after bad));
      whole = λ t sound.
          let L : ℕ → Type 0 = λ n. IsSoundChain old.image txn.superblock n in
          way.whole t (subst L (sym is) (next_whole old.image txn.superblock txn'.superblock below (links t) from.after sound));
      stands = λ count taken freed t standing.
          let stood = way.stands count taken freed t standing in
          let S : Image → Type 0 = λ image. Stands count (left_by txn image) txn.superblock stood.taken stood.freed
          → Stands count (left_by txn' image) txn'.superblock (p ∷ stood.taken) (drop 1 stood.freed) in
          record {
            taken = p ∷ stood.taken;
            freed = drop 1 stood.freed;
            stands = subst S (way.looks.kept.image t) (stands (way.looks.kept.told t) count stood.taken stood.freed) stood.stands;
          };
    }

-- why the next page wasn't taken
pub pass_cause : (e : SpaceError) (told told' : Type 0) (old mid new under under' : View) (s s' : Superblock) (txn : Txn) (left below : ℕ)
    → IsPassing told told' old mid under under' s s' txn left → mid.faults ≡ old.faults → left ≡ suc below
    → Refuses e told' (left_by txn mid.image) txn.superblock mid.faults new.faults → IsChainCause (space_error_of e) told s old new
pass_cause NoStore told told' old mid new under under' s s' txn left below way quiet is bad = bad
pass_cause (Full needed have) told told' old mid new under under' s s' txn left below way quiet is bad = tt
pass_cause AtDisk told told' old mid new under under' s s' txn left below way quiet is bad = risen_on old.faults mid.faults new.faults quiet
    bad.1
pass_cause (AtPage page) told told' old mid new under under' s s' txn left below way quiet is bad = λ t.
    let L : ℕ → Type 0 = λ n. HasBadLink old.image txn.superblock n page in
    let B : List ℕ → Type 0 = λ bytes. (next : ℕ) → Links txn.superblock next bytes → ⊥ in
    let I : Image → Type 0 = λ image. (next : ℕ) → Links txn.superblock next (left_by txn image txn.superblock.head) → ⊥ in
    way.bad t page (subst L (sym is) (inl (
      bad.1.0,
      subst B (head_is told old txn.superblock txn txn.rules bad.0 way.same t)
          (subst I (way.looks.kept.image t) (bad.1.1 (way.looks.kept.told t))),
    )))
pass_cause AtMemory told told' old mid new under under' s s' txn left below way quiet is bad = absurd bad

-- where the pages stand, only for an outer cause
pub pass_outside : (e : SpaceError) (told : Type 0) (image : Image) (s : Superblock) (old new : ℕ) → ((page : ℕ) → e ≢ AtPage page)
    → Refuses e told image s old new → IsOutside (space_error_of e)
pass_outside NoStore told image s old new undamaged bad = absurd bad
pass_outside (Full needed have) told image s old new undamaged bad = inr refl
pass_outside AtDisk told image s old new undamaged bad = inl refl
pass_outside (AtPage page) told image s old new undamaged bad = absurd (undamaged page refl)
pass_outside AtMemory told image s old new undamaged bad = absurd bad

pub pass_stood : (told told' : Type 0) (old mid under under' : View) (s s' : Superblock) (txn : Txn) (left : ℕ)
    → IsPassing told told' old mid under under' s s' txn left → (count : ℕ) (taken freed : List ℕ) → told
    → Stands count old.image s taken freed
    → HaveStood count (left_by txn mid.image) txn.superblock
pass_stood told told' old mid under under' s s' txn left way count taken freed t standing =
    let S : Image → Type 0 = λ image. HaveStood count (left_by txn image) txn.superblock in
    subst S (sym (way.looks.kept.image t)) (way.stands count taken freed t standing)

-- the page that wasn't taken is below the total
pub pass_within : (e : SpaceError) (told : Type 0) (image : Image) (s : Superblock) (total old new : ℕ) → IsSuperblock s.total s
    → s.total ≡ total → Refuses e told image s old new → NamesWithin total (space_error_of e)
pass_within NoStore told image s total old new rules same bad = tt
pass_within (Full needed have) told image s total old new rules same bad = tt
pass_within AtDisk told image s total old new rules same bad = tt
pass_within (AtPage page) told image s total old new rules same bad =
    let head = rules.head_is (λ none. bad.0 (rules.none.1 none)) in
    omega (arith, bad.1.0, head.1, rules.fresh_high, same)
pass_within AtMemory told image s total old new rules same bad = tt
