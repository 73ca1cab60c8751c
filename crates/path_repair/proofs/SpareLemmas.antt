-- What one child after the other spares while it is changed.
use Rattle.std.proofs.Common.{◌≡◌, ◌≢◌, ℕ, suc, ◌+◌, ◌*◌, ◌<◌, ◌≤◌, ◌⊎◌, List, Option, unwrap_or, refl, ap, arith, inl, inr, ◌∙◌}
use Rattle.block_disk.specs.View.{Image, View}
use Rattle.om3_coeff.specs.declared.span.Span.{Span}
use Rattle.node_page.specs.Fields.{child_at}
use Rattle.page_space.specs.declared.txn.Txn.{Txn}
use Rattle.page_space.specs.Layout.{IsGiven}
use Rattle.page_space.specs.Transactions.{left_by, held_page, OnlyFirst}
use Rattle.path_repair.specs.declared.errors.RepairError.{RepairError}
use Rattle.path_repair.specs.Damage.{IsDamage}
use Rattle.path_repair.specs.Keeping.{Spares, IsOwn, IsOpened, IsAsTold, IsNewRoot, root_level}
use Rattle.path_repair.specs.Standing.{AreTold}
use Rattle.path_repair.proofs.KeepLemmas.{own_more, spares_same, spares_then, spares_put}
use Rattle.path_repair.proofs.DamageLemmas.{damage_up}

-- The children below i are changed: the pages above and the catalog are spared, and the other children are as they
-- were when the page was opened.
pub record IsSparing (told : Type 0) (old : View) (t opened t' : Txn) (below : ℕ) (bytes bytes' : List ℕ) (spans spans' : ℕ
    → Option Span) (i : ℕ) : Type 0 where
  pub spares : (base : Image) → AreTold told old base
      → Spares below t.superblock.fresh t'.superblock.fresh (left_by t base) (left_by t' base)
  pub fresh : opened.superblock.fresh ≤ t'.superblock.fresh
  pub children : (c : ℕ) → i ≤ c → child_at bytes' c ≡ child_at bytes c
  pub tops : (c : ℕ) → i ≤ c → spans' (127 + c) ≡ spans (127 + c)

pub first_spares : (t t' : Txn) (base : Image) (level : ℕ) → OnlyFirst t t'
    → Spares level t.superblock.fresh t'.superblock.fresh (left_by t base) (left_by t' base)
first_spares t t' base level first = spares_same level t.superblock.fresh t'.superblock.fresh (left_by t base) (left_by t' base)
    (λ p some. ap (λ page. unwrap_or page (base p)) (first.others p some))

pub none_spares : (t : Txn) (base : Image) (level : ℕ)
    → Spares level t.superblock.fresh t.superblock.fresh (left_by t base) (left_by t base)
none_spares t base level = spares_same level t.superblock.fresh t.superblock.fresh (left_by t base) (left_by t base) (λ p some. refl)

pub spare_start : (told : Type 0) (old : View) (t t' : Txn) (below : ℕ) (bytes : List ℕ) (spans : ℕ → Option Span) → OnlyFirst t t'
    → IsSparing told old t t' t' below bytes bytes spans spans 0
spare_start told old t t' below bytes spans first = record {
  spares = λ base at. first_spares t t' base below first;
  fresh = omega arith;
  children = λ c low. refl;
  tops = λ c low. refl;
}

-- a child is changed, or its change failed
pub spare_child : (told : Type 0) (old : View) (t opened t' t'' : Txn) (below child_level : ℕ) (bytes bytes' : List ℕ) (spans spans' : ℕ
    → Option Span) (i : ℕ) → IsSparing told old t opened t' below bytes bytes' spans spans' i → child_level ≡ below
    → t.superblock.fresh ≤ t'.superblock.fresh → t'.superblock.fresh ≤ t''.superblock.fresh
    → (base : Image) → AreTold told old base → Spares child_level t'.superblock.fresh t''.superblock.fresh (left_by t' base)
    (left_by t'' base) → Spares below t.superblock.fresh t''.superblock.fresh (left_by t base) (left_by t'' base)
spare_child told old t opened t' t'' below child_level bytes bytes' spans spans' i sparing is_level more later base at spares =
    spares_then below child_level t.superblock.fresh t'.superblock.fresh t'.superblock.fresh t''.superblock.fresh (left_by t base)
    (left_by t' base) (left_by t'' base) is_level more later (sparing.spares base at) spares

pub spare_on : (told : Type 0) (old : View) (t opened t' t'' : Txn) (below child_level : ℕ) (bytes bytes' bytes'' : List ℕ)
    (spans spans' spans'' : ℕ → Option Span) (i : ℕ) → IsSparing told old t opened t' below bytes bytes' spans spans' i
    → child_level ≡ below → t.superblock.fresh ≤ t'.superblock.fresh → t'.superblock.fresh ≤ t''.superblock.fresh
    → ((base : Image) → AreTold told old base → Spares child_level t'.superblock.fresh t''.superblock.fresh (left_by t' base)
    (left_by t'' base))
    → ((c : ℕ) → c ≢ i → child_at bytes'' c ≡ child_at bytes' c) → ((n : ℕ) → n ≢ 127 + i → spans'' n ≡ spans' n)
    → IsSparing told old t opened t'' below bytes bytes'' spans spans'' (i + 1)
spare_on told old t opened t' t'' below child_level bytes bytes' bytes'' spans spans' spans'' i sparing is_level more later spares pages
    tops = record {
      spares = λ base at. spare_child told old t opened t' t'' below child_level bytes bytes' spans spans' i sparing is_level more later
          base at
          (spares base at);
      fresh = omega (arith, sparing.fresh, later);
      children = λ c low. pages c (λ is. omega (arith, is, low)) ∙ sparing.children c (omega (arith, low));
      tops = λ c low. tops (127 + c) (λ is. omega (arith, is, low)) ∙ sparing.tops c (omega (arith, low));
    }

-- which page is damaged where a child's change failed
pub spare_damage : (told : Type 0) (old : View) (t opened t' t'' : Txn)
    (height level below index page child_height child_level child_index child_page : ℕ) (top child_top : Option Span)
    (bytes bytes' : List ℕ) (spans spans' : ℕ → Option Span) (i : ℕ) (e : RepairError)
    → IsSparing told old t opened t' below bytes bytes' spans spans' i → level ≡ suc below → i < 128
    → child_height ≡ height → child_level ≡ below → child_index ≡ 128 * index + i → child_page ≡ child_at bytes' i
    → child_top ≡ spans' (127 + i) → t.superblock.fresh ≤ t'.superblock.fresh → t'.superblock.fresh ≤ t''.superblock.fresh
    → IsOpened height level index page top bytes spans
    → (base : Image) → AreTold told old base → IsAsTold (left_by t base) height level index page bytes
    → Spares child_level t'.superblock.fresh t''.superblock.fresh (left_by t' base) (left_by t'' base)
    → IsDamage (left_by t'' base) t'.superblock.fresh t''.superblock
    (root_level child_height child_level child_index) child_page child_top e
    → IsDamage (left_by t'' base) t.superblock.fresh t''.superblock (root_level height level index) page top e
spare_damage told old t opened t' t'' height level below index page child_height child_level child_index child_page top child_top bytes
    bytes' spans spans' i e sparing is within is_height is_level is_index is_page is_top more later shows base at as_told spares damage =
    damage_up (left_by t base) (left_by t'' base) t.superblock.fresh t'.superblock.fresh t''.superblock height level below index i
    child_height child_level child_index page child_page top child_top bytes spans e is more within
    is_height is_level is_index (is_page ∙ sparing.children i (omega arith)) (is_top ∙ sparing.tops i (omega arith)) shows as_told
    (spare_child told old t opened t' t'' below child_level bytes bytes' spans spans' i sparing is_level more later base at spares) damage

-- the page is put or freed
pub spare_end : (told : Type 0) (old : View) (t opened t' t'' : Txn) (level below number : ℕ) (bytes bytes' : List ℕ) (spans spans' : ℕ
    → Option Span) (i : ℕ) → IsSparing told old t opened t' below bytes bytes' spans spans' i → below ≤ level
    → opened.superblock.fresh ≤ t''.superblock.fresh → t'.superblock.fresh ≤ t''.superblock.fresh
    → (base : Image) → AreTold told old base → IsOwn (left_by t base) t.superblock.fresh opened.superblock.fresh level number
    → ((p : ℕ) → 1 ≤ p → p ≢ number → held_page t'' p ≡ held_page t' p)
    → Spares level t.superblock.fresh t''.superblock.fresh (left_by t base) (left_by t'' base)
spare_end told old t opened t' t'' level below number bytes bytes' spans spans' i sparing less more later base at own others =
    spares_put below level t.superblock.fresh t'.superblock.fresh t''.superblock.fresh number (left_by t base) (left_by t' base)
    (left_by t'' base) less later
    (own_more (left_by t base) t.superblock.fresh opened.superblock.fresh t''.superblock.fresh level number more own)
    (sparing.spares base at) (λ p some other. ap (λ page. unwrap_or page (base p)) (others p some other))

-- the root is none, the one from before, or one that was taken
pub new_root : (fresh fresh' old number new : ℕ) → fresh ≤ fresh' → (number ≡ old) ⊎ IsGiven fresh number → (new ≡ 0) ⊎ (new ≡ number)
    → IsNewRoot fresh' old new
new_root fresh fresh' old number new more opened (inl none) = inl none
new_root fresh fresh' old number new more (inl same) (inr is) = inr (inl (is ∙ same))
new_root fresh fresh' old number new more (inr given) (inr is) = inr (inr (omega (arith, given.0, is), omega (arith, given.1, is, more)))
