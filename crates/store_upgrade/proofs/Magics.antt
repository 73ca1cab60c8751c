-- The magics of the two versions, and the pages that they tell of.
use Rattle.std.proofs.Common.{◌≡◌, ℕ, ◌≤◌, ◌<◌, ◌⊎◌, Bool, true, false, cond, nat_lt, List, drop, get_or, refl, sym, ap, subst, arith, inl}
use Rattle.std.proofs.Common.{inr, ◌∙◌}
use Rattle.std.proofs.lemmas.Bool.{cases_Bool, lt-ltb, le-ltb, ne_eqb}
use Rattle.std.proofs.lemmas.Bool.Decides.{Decides-eqb}
use Rattle.std.proofs.lemmas.Slice.Eq.{starts_is}
use Rattle.block_disk.specs.View.{Image}
use Rattle.page_space.specs.Layout.{HasMagic}
use Rattle.store_upgrade.specs.OldStores.{old_magic, HasOldMagic, has_old_magic}
use Rattle.store_upgrade.specs.Upgraded.{renewed, upgraded_page, upgraded, current}

pub old_by : (page : List ℕ) → has_old_magic page ≡ true → HasOldMagic page
unfolding has_old_magic
old_by page is = (starts_is Decides-eqb page old_magic (has_old_magic page) refl).0 is

pub old_is : (page : List ℕ) → HasOldMagic page → has_old_magic page ≡ true
unfolding has_old_magic
old_is page is = (starts_is Decides-eqb page old_magic (has_old_magic page) refl).1 (drop 8 page) is

pub old_not : (page : List ℕ) → (HasOldMagic page → ⊥) → has_old_magic page ≡ false
old_not page not_old = elim (cases_Bool (has_old_magic page)) [
  | inl is ↦ absurd (not_old (old_by page is))
  | inr is ↦ is
]

apart : (b : Bool) → b ≡ true → b ≡ false → ⊥
apart b t f = grind (arith, t, f)

last_byte : (page : List ℕ) → HasMagic page → get_or page 7 0 ≡ 50
last_byte page is = ap (λ (l : List ℕ). get_or l 7 0) is

old_last_byte : (page : List ℕ) → HasOldMagic page → get_or page 7 0 ≡ 49
old_last_byte page is = ap (λ (l : List ℕ). get_or l 7 0) is

-- no page has both
pub new_not_old : (page : List ℕ) → HasMagic page → HasOldMagic page → ⊥
new_not_old page new old = omega (arith, last_byte page new, old_last_byte page old)

pub renewed_new : (page : List ℕ) → HasMagic (renewed page)
renewed_new page = refl

-- pages without the old magic are current
pub current_same : (image : Image) → (HasOldMagic (image 0) → ⊥) → current image ≡ image
unfolding current
current_same image not_old = ap (λ b. cond b (upgraded image) image) (old_not (image 0) not_old)

pub current_upgraded : (image : Image) → HasOldMagic (image 0) → current image ≡ upgraded image
unfolding current
current_upgraded image is = ap (λ b. cond b (upgraded image) image) (old_is (image 0) is)

-- page by page
pub upgraded_first : (image : Image) → upgraded image 0 ≡ renewed (image 0)
unfolding upgraded
upgraded_first image = refl

pub upgraded_catalog : (image : Image) (p : ℕ) → 1 ≤ p → p < 17 → upgraded image p ≡ upgraded_page (image p)
unfolding upgraded
upgraded_catalog image p low high =
    ap (λ b. cond b (renewed (image 0)) (cond (nat_lt p 17) (upgraded_page (image p)) (image p)))
    (ne_eqb p 0 (λ none. omega (arith, none, low)))
    ∙ ap (λ b. cond b (upgraded_page (image p)) (image p)) (lt-ltb p 17 high)

pub upgraded_behind : (image : Image) (p : ℕ) → 17 ≤ p → upgraded image p ≡ image p
unfolding upgraded
upgraded_behind image p low =
    ap (λ b. cond b (renewed (image 0)) (cond (nat_lt p 17) (upgraded_page (image p)) (image p)))
    (ne_eqb p 0 (λ none. omega (arith, none, low)))
    ∙ ap (λ b. cond b (upgraded_page (image p)) (image p)) (le-ltb p 17 low)

pub current_behind : (image : Image) (p : ℕ) → 17 ≤ p → current image p ≡ image p
unfolding current
current_behind image p low = elim (cases_Bool (has_old_magic (image 0))) [
  | inl is ↦ ap (λ b. cond b (upgraded image) image p) is ∙ upgraded_behind image p low
  | inr is ↦ ap (λ b. cond b (upgraded image) image p) is
]

-- no current pages have the old magic
pub current_new : (image : Image) → HasOldMagic (current image 0) → ⊥
current_new image old = elim (cases_Bool (has_old_magic (image 0))) [
  | inl is ↦
      let here : current image 0 ≡ renewed (image 0) = ap (λ (i : Image). i 0) (current_upgraded image (old_by (image 0) is))
      ∙ upgraded_first image in
      new_not_old (renewed (image 0)) (renewed_new (image 0)) (subst HasOldMagic here old)
  | inr is ↦
      let not_old : HasOldMagic (image 0) → ⊥ = λ has. apart (has_old_magic (image 0)) (old_is (image 0) has) is in
      not_old (subst HasOldMagic (ap (λ (i : Image). i 0) (current_same image not_old)) old)
]

pub current_once : (image : Image) → current (current image) ≡ current image
current_once image = current_same (current image) (current_new image)

pub current_first : (image : Image) → HasOldMagic (image 0) → HasMagic (current image 0)
current_first image old =
    let here : current image 0 ≡ renewed (image 0) = ap (λ (i : Image). i 0) (current_upgraded image old) ∙ upgraded_first image in
    subst HasMagic (sym here) (renewed_new (image 0))

pub magic_current : (image : Image) → HasMagic (image 0) → HasMagic (current image 0)
magic_current image new =
    let here : current image 0 ≡ image 0 = ap (λ (i : Image). i 0) (current_same image (new_not_old (image 0) new)) in
    subst HasMagic (sym here) new

-- pages that have the magic once they are current have one of the two
pub either_magic : (image : Image) → HasMagic (current image 0) → HasMagic (image 0) ⊎ HasOldMagic (image 0)
either_magic image new = elim (cases_Bool (has_old_magic (image 0))) [
  | inl is ↦ inr (old_by (image 0) is)
  | inr is ↦
      let here : current image 0 ≡ image 0 = ap (λ (i : Image). i 0)
      (current_same image (λ has. apart (has_old_magic (image 0)) (old_is (image 0) has) is)) in
      inl (subst HasMagic here new)
]

-- what a test of page 0 tells
pub tells_current : (image : Image) (old : Bool) → old ≡ has_old_magic (image 0) → old ≡ true → HasMagic (current image 0)
tells_current image old test so = current_first image (old_by (image 0) (sym test ∙ so))

pub tells_other : (image : Image) (old : Bool) → old ≡ has_old_magic (image 0) → old ≡ false → HasOldMagic (image 0) → ⊥
tells_other image old test so has = apart (has_old_magic (image 0)) (old_is (image 0) has) (sym test ∙ so)

pub current_other : (image : Image) → has_old_magic (image 0) ≡ false → current image ≡ image
current_other image is = current_same image (λ has. apart (has_old_magic (image 0)) (old_is (image 0) has) is)
