-- A damaged page below a child is one below its page.
use Rattle.std.proofs.Common.{◌≡◌, ◌≢◌, ℕ, zero, suc, ◌+◌, ◌*◌, ◌<◌, ◌≤◌, ◌⊎◌, cond, true, false, List, slice_index, Option, refl, sym, ap}
use Rattle.std.proofs.Common.{subst, arith, inl, inr, ◌∙◌}
use Rattle.std.proofs.lemmas.Bool.{cases_lt}
use Rattle.block_disk.specs.View.{Image}
use Rattle.om3_coeff.specs.declared.span.Span.{Span}
use Rattle.node_page.specs.Fields.{child_at, level_at}
use Rattle.page_space.specs.declared.superblock.Superblock.{Superblock}
use Rattle.path_repair.specs.declared.errors.RepairError.{RepairError}
use Rattle.path_repair.specs.declared.errors.RepairError.TheVariants.{Full, DiskFault, Damaged, NoMemory}
use Rattle.path_repair.specs.Costs.{is_new_root}
use Rattle.path_repair.specs.Damage.{IsUnfit, IsUnfitAt, IsBadAt, IsUnsplitPage, AreBelow, IsAbove, HasUnfit, HasUnsplit, IsDamaged}
use Rattle.path_repair.specs.Damage.{IsDamage, IsUnfitBelow}
use Rattle.path_repair.proofs.KeepLemmas.{no_new}
use Rattle.path_repair.specs.Keeping.{IsRead, IsNew, IsLookedAt, IsOpened, IsAsTold, Spares, root_level}

unfit_none : (image : Image) (fresh last total level at : ℕ) → HasUnfit image fresh last total level 0 at → ⊥
unfit_none image fresh last total zero at bad = bad
unfit_none image fresh last total (suc level) at (inl bad) = bad.0 refl
unfit_none image fresh last total (suc level) at (inr bad) = bad.2.some refl

unsplit_none : (image : Image) (fresh last level at : ℕ) (top : Option Span) → HasUnsplit image fresh last level 0 top at → ⊥
unsplit_none image fresh last zero at top bad = bad
unsplit_none image fresh last (suc level) at top (inl bad) = bad.0 refl
unsplit_none image fresh last (suc level) at top (inr bad) = bad.3.some refl

above_before : (image : Image) (fresh fresh' last level page : ℕ) (bytes : List ℕ) → fresh ≤ fresh'
    → IsAbove image fresh' last level page bytes → IsAbove image fresh last level page bytes
above_before image fresh fresh' last level page bytes less above = record {
  some = above.some;
  keeps = above.keeps;
  level_is = above.level_is;
  same = λ old. above.same (no_new fresh fresh' last last page less (omega arith) old);
}

unfit_before : (image : Image) (fresh fresh' last total level page at : ℕ) → fresh ≤ fresh' → HasUnfit image fresh' last total level page at
    → HasUnfit image fresh last total level page at
unfit_before image fresh fresh' last total zero page at less bad = bad
unfit_before image fresh fresh' last total (suc level) page at less (inl bad) = inl bad
unfit_before image fresh fresh' last total (suc level) page at less (inr (bytes, child, above, within, bad)) =
    inr (
      bytes,
      child,
      above_before image fresh fresh' last (suc level) page bytes less above,
      within,
      unfit_before image fresh fresh' last total level (child_at bytes child) at less bad,
    )

unsplit_before : (image : Image) (fresh fresh' last level page at : ℕ) (top : Option Span) → fresh ≤ fresh'
    → HasUnsplit image fresh' last level page top at → HasUnsplit image fresh last level page top at
unsplit_before image fresh fresh' last zero page at top less bad = bad
unsplit_before image fresh fresh' last (suc level) page at top less (inl bad) = inl bad
unsplit_before image fresh fresh' last (suc level) page at top less (inr (bytes, spans, child, above, below, within, bad)) =
    inr (
      bytes,
      spans,
      child,
      above_before image fresh fresh' last (suc level) page bytes less above,
      below,
      within,
      unsplit_before image fresh fresh' last level (child_at bytes child) at (spans (127 + child)) less bad,
    )

damaged_before : (image : Image) (fresh fresh' : ℕ) (s : Superblock) (level page at : ℕ) (top : Option Span) → fresh ≤ fresh'
    → IsDamaged image fresh' s level page top at → IsDamaged image fresh s level page top at
damaged_before image fresh fresh' s level page at top less (inl bad) = inl
    (unfit_before image fresh fresh' s.fresh s.total level page at less bad)
damaged_before image fresh fresh' s level page at top less (inr (inl bad)) = inr
    (inl (unsplit_before image fresh fresh' s.fresh level page at top less bad))
damaged_before image fresh fresh' s level page at top less (inr (inr bad)) = inr (inr bad)

-- which level a root below a place has

pub root_here : (height level index : ℕ) → is_new_root height level index ≡ false → root_level height level index ≡ level
unfolding root_level
root_here height level index old = ap (λ b. cond b height level) old

pub root_lower : (height level index : ℕ) → is_new_root height level index ≡ true → root_level height level index ≡ height
unfolding root_level
root_lower height level index new = ap (λ b. cond b height level) new

old_child : (height below index child : ℕ) → is_new_root height (suc below) index ≡ false
    → is_new_root height below (128 * index + child) ≡ false
unfolding is_new_root
old_child height below index child old = grind (arith, old)

pub root_child : (height below index child : ℕ) → is_new_root height (suc below) index ≡ false
    → root_level height below (128 * index + child) ≡ below
root_child height below index child old = root_here height below (128 * index + child) (old_child height below index child old)

-- a page that was read is above its children's, as long as it is spared
pub above_at : (before image : Image) (fresh last height below index page : ℕ) (bytes : List ℕ) → IsRead height (suc below) index page bytes
    → bytes ≡ before page → Spares below fresh last before image → IsAbove image fresh last (suc below) page bytes
above_at before image fresh last height below index page bytes read told spares = record {
  some = read.some;
  keeps = read.keeps;
  level_is = read.level_is;
  same = λ old. sym (spares page (omega (arith, read.some))
      (inr (old, ap (λ b. slice_index b 0) (sym told) ∙ read.keeps.kind, omega (arith, ap (λ b. level_at b) told, read.level_is)))
      ∙ sym told);
}

damaged_read : (image : Image) (fresh : ℕ) (s : Superblock) (below page child at : ℕ) (top : Option Span) (bytes : List ℕ) (spans : ℕ
    → Option Span) → IsAbove image fresh s.fresh (suc below) page bytes → AreBelow top bytes spans → child < 128
    → IsDamaged image fresh s below (child_at bytes child) (spans (127 + child)) at → IsDamaged image fresh s (suc below) page top at
damaged_read image fresh s below page child at top bytes spans above are_below within (inl bad) = inl
    (inr (bytes, child, above, within, bad))
damaged_read image fresh s below page child at top bytes spans above are_below within (inr (inl bad)) = inr
    (inl (inr (bytes, spans, child, above, are_below, within, bad)))
damaged_read image fresh s below page child at top bytes spans above are_below within (inr (inr bad)) = inr (inr bad)

damaged_none : (image : Image) (fresh : ℕ) (s : Superblock) (level level' page at : ℕ) (top top' : Option Span)
    → IsDamaged image fresh s level 0 top at → IsDamaged image fresh s level' page top' at
damaged_none image fresh s level level' page at top top' (inl bad) = absurd (unfit_none image fresh s.fresh s.total level at bad)
damaged_none image fresh s level level' page at top top' (inr (inl bad)) = absurd (unsplit_none image fresh s.fresh level at top bad)
damaged_none image fresh s level level' page at top top' (inr (inr bad)) = inr (inr bad)

pub root_first : (height below index : ℕ) → is_new_root height (suc below) index ≡ true → root_level height below (128 * index + 0) ≡ height
unfolding is_new_root root_level
root_first height below index new = grind (arith, new)

damaged_new : (image : Image) (fresh : ℕ) (s : Superblock) (height below index child page at : ℕ) (top : Option Span) (bytes : List ℕ)
    (spans : ℕ → Option Span) → IsNew height (suc below) index page bytes → spans 127 ≡ top → child < 128
    → IsDamaged image fresh s (root_level height below (128 * index + child)) (child_at bytes child) (spans (127 + child)) at
    → IsDamaged image fresh s (root_level height (suc below) index) page top at
damaged_new image fresh s height below index child page at top bytes spans new top_is within bad = elim (cases_lt 0 child) [
  | inl later ↦
      let P : ℕ → Type 0 = λ p. IsDamaged image fresh s (root_level height below (128 * index + child)) p (spans (127 + child)) at in
      damaged_none image fresh s (root_level height below (128 * index + child)) (root_level height (suc below) index) page at
      (spans (127 + child)) top (subst P (new.none child later within) bad)
  | inr first ↦
      let is : child ≡ 0 = omega (arith, first) in
      let C : ℕ → Type 0 = λ c. IsDamaged image fresh s (root_level height below (128 * index + c)) (child_at bytes c)
      (spans (127 + c)) at in
      let P : ℕ → Type 0 = λ p. IsDamaged image fresh s (root_level height below (128 * index + 0)) p (spans 127) at in
      let T : Option Span → Type 0 = λ t. IsDamaged image fresh s (root_level height below (128 * index + 0)) page t at in
      let here = subst T top_is (subst P new.first (subst C is bad)) in
      elim new.why [
        | inl none ↦
            let N : ℕ → Type 0 = λ p. IsDamaged image fresh s (root_level height below (128 * index + 0)) p top at in
            damaged_none image fresh s (root_level height below (128 * index + 0)) (root_level height (suc below) index) page at top top
            (subst N none here)
        | inr root ↦
            let L : ℕ → Type 0 = λ l. IsDamaged image fresh s l page top at in
            subst L (root_first height below index root ∙ sym (root_lower height (suc below) index root)) here
      ]
]

-- a page that is damaged below a child is so below its page
damaged_up : (before image : Image) (fresh : ℕ) (s : Superblock) (height below index child page at : ℕ) (top : Option Span) (bytes : List ℕ)
    (spans : ℕ → Option Span) → child < 128
    → IsOpened height (suc below) index page top bytes spans → IsAsTold before height (suc below) index page bytes
    → Spares below fresh s.fresh before image
    → IsDamaged image fresh s (root_level height below (128 * index + child)) (child_at bytes child) (spans (127 + child)) at
    → IsDamaged image fresh s (root_level height (suc below) index) page top at
damaged_up before image fresh s height below index child page at top bytes spans within (inl opened) told spares bad =
    let read = opened.0 in
    let L : ℕ → Type 0 = λ l. IsDamaged image fresh s l (child_at bytes child) (spans (127 + child)) at in
    let U : ℕ → Type 0 = λ l. IsDamaged image fresh s l page top at in
    subst U (sym (root_here height (suc below) index read.old))
    (damaged_read image fresh s below page child at top bytes spans
    (above_at before image fresh s.fresh height below index page bytes read (told read.some read.old) spares) opened.1 within
    (subst L (root_child height below index child read.old) bad))
damaged_up before image fresh s height below index child page at top bytes spans within (inr opened) told spares bad =
    damaged_new image fresh s height below index child page at top bytes spans opened.0 opened.1 within bad

pub damage_up : (before image : Image) (fresh fresh' : ℕ) (s : Superblock)
    (height level below index child child_height child_level child_index page child_page : ℕ) (top child_top : Option Span) (bytes : List ℕ)
    (spans : ℕ → Option Span) (e : RepairError) → level ≡ suc below → fresh ≤ fresh' → child < 128
    → child_height ≡ height → child_level ≡ below → child_index ≡ 128 * index + child → child_page ≡ child_at bytes child
    → child_top ≡ spans (127 + child)
    → IsOpened height level index page top bytes spans → IsAsTold before height level index page bytes
    → Spares below fresh s.fresh before image
    → IsDamage image fresh' s (root_level child_height child_level child_index) child_page child_top e
    → IsDamage image fresh s (root_level height level index) page top e
damage_up before image fresh fresh' s height level below index child child_height child_level child_index page child_page top child_top
    bytes spans (Full needed have) is less within is_height is_level is_index is_page is_top opened told spares bad = tt
damage_up before image fresh fresh' s height level below index child child_height child_level child_index page child_page top child_top
    bytes spans DiskFault is less within is_height is_level is_index is_page is_top opened told spares bad = tt
damage_up before image fresh fresh' s height level below index child child_height child_level child_index page child_page top child_top
    bytes spans (Damaged at) is less within is_height is_level is_index is_page is_top opened told spares bad =
    let O : ℕ → Type 0 = λ l. IsOpened height l index page top bytes spans in
    let A : ℕ → Type 0 = λ l. IsAsTold before height l index page bytes in
    let U : ℕ → Type 0 = λ l. IsDamaged image fresh s (root_level height l index) page top at in
    let root_is : root_level child_height child_level child_index ≡ root_level height below
    (128 * index + child) = ap (λ h. root_level h child_level child_index) is_height
    ∙ ap (λ l. root_level height l child_index) is_level ∙ ap (λ q. root_level height below q) is_index in
    let L : ℕ → Type 0 = λ l. IsDamaged image fresh' s l child_page child_top at in
    let G : ℕ → Type 0 = λ p. IsDamaged image fresh' s (root_level height below (128 * index + child)) p child_top at in
    let T : Option Span → Type 0 = λ t. IsDamaged image fresh' s (root_level height below (128 * index + child))
    (child_at bytes child) t at in
    let here = damaged_before image fresh fresh' s (root_level height below (128 * index + child)) (child_at bytes child) at
    (spans (127 + child)) less (subst T is_top (subst G is_page (subst L root_is bad))) in
    subst U (sym is) (damaged_up before image fresh s height below index child page at top bytes spans within (subst O is opened)
    (subst A is told) spares here)
damage_up before image fresh fresh' s height level below index child child_height child_level child_index page child_page top child_top
    bytes spans NoMemory is less within is_height is_level is_index is_page is_top opened told spares bad = tt

-- the page of a place is damaged itself
pub damage_here : (image : Image) (fresh : ℕ) (s : Superblock) (height level below index page total : ℕ) (top : Option Span)
    (e : RepairError) → level ≡ suc below → total ≡ s.total → page ≢ 0 → is_new_root height level index ≡ false
    → IsBadAt image total level page top e → IsDamage image fresh s (root_level height level index) page top e
damage_here image fresh s height level below index page total top (Full needed have) is total_is some old bad = tt
damage_here image fresh s height level below index page total top DiskFault is total_is some old bad = tt
damage_here image fresh s height level below index page total top (Damaged at) is total_is some old bad =
    let U : ℕ → Type 0 = λ l. IsDamaged image fresh s l page top at in
    let B : ℕ → Type 0 = λ l. IsUnfit s.total l (image page) ⊎ IsUnsplitPage top (image page) in
    let T : ℕ → Type 0 = λ n. IsUnfit n level (image page) ⊎ IsUnsplitPage top (image page) in
    subst U (sym (root_here height level index old ∙ is)) (elim (subst B is (subst T total_is bad.1)) [
      | inl unfit ↦ inl (inl (some, bad.0, unfit))
      | inr unsplit ↦ inr (inl (inl (some, bad.0, unsplit)))
    ])
damage_here image fresh s height level below index page total top NoMemory is total_is some old bad = tt

-- the same of the pass that changes nothing

unfit_new : (image : Image) (fresh total height below index child page at : ℕ) (bytes : List ℕ) → IsNew height (suc below) index page bytes
    → child < 128
    → HasUnfit image fresh fresh total (root_level height below (128 * index + child)) (child_at bytes child) at
    → HasUnfit image fresh fresh total (root_level height (suc below) index) page at
unfit_new image fresh total height below index child page at bytes new within bad = elim (cases_lt 0 child) [
  | inl later ↦
      let P : ℕ → Type 0 = λ p. HasUnfit image fresh fresh total (root_level height below (128 * index + child)) p at in
      absurd (unfit_none image fresh fresh total (root_level height below (128 * index + child)) at
      (subst P (new.none child later within) bad))
  | inr first ↦
      let is : child ≡ 0 = omega (arith, first) in
      let C : ℕ → Type 0 = λ c. HasUnfit image fresh fresh total (root_level height below (128 * index + c)) (child_at bytes c) at in
      let P : ℕ → Type 0 = λ p. HasUnfit image fresh fresh total (root_level height below (128 * index + 0)) p at in
      let here = subst P new.first (subst C is bad) in
      elim new.why [
        | inl none ↦ absurd (unfit_none image fresh fresh total (root_level height below (128 * index + 0)) at (subst P none here))
        | inr root ↦
            let L : ℕ → Type 0 = λ l. HasUnfit image fresh fresh total l page at in
            subst L (root_first height below index root ∙ sym (root_lower height (suc below) index root)) here
      ]
]

unfit_read : (image : Image) (fresh total height below index child page at : ℕ) (bytes : List ℕ)
    → IsRead height (suc below) index page bytes → bytes ≡ image page → child < 128
    → HasUnfit image fresh fresh total (root_level height below (128 * index + child)) (child_at bytes child) at
    → HasUnfit image fresh fresh total (root_level height (suc below) index) page at
unfit_read image fresh total height below index child page at bytes read told within bad =
    let L : ℕ → Type 0 = λ l. HasUnfit image fresh fresh total l (child_at bytes child) at in
    let U : ℕ → Type 0 = λ l. HasUnfit image fresh fresh total l page at in
    subst U (sym (root_here height (suc below) index read.old))
    (inr (
      bytes,
      child,
      record { some = read.some; keeps = read.keeps; level_is = read.level_is; same = λ old. told },
      within,
      subst L (root_child height below index child read.old) bad,
    ))

unfit_level : (image : Image) (fresh total height below index child page at : ℕ) (bytes : List ℕ)
    → IsLookedAt height (suc below) index page bytes → IsAsTold image height (suc below) index page bytes → child < 128
    → HasUnfit image fresh fresh total (root_level height below (128 * index + child)) (child_at bytes child) at
    → HasUnfit image fresh fresh total (root_level height (suc below) index) page at
unfit_level image fresh total height below index child page at bytes
    (inl read) told within bad = unfit_read image fresh total height below index child page at bytes read
    (told read.some read.old) within bad
unfit_level image fresh total height below index child page at bytes
    (inr new) told within bad = unfit_new image fresh total height below index child page at bytes new within bad

pub unfit_up : (image : Image) (fresh total height level below index child child_height child_level child_index page child_page : ℕ)
    (bytes : List ℕ) (e : RepairError) → level ≡ suc below → child < 128
    → child_height ≡ height → child_level ≡ below → child_index ≡ 128 * index + child → child_page ≡ child_at bytes child
    → IsLookedAt height level index page bytes → IsAsTold image height level index page bytes
    → IsUnfitBelow image fresh total (root_level child_height child_level child_index) child_page e
    → IsUnfitBelow image fresh total (root_level height level index) page e
unfit_up image fresh total height level below index child child_height child_level child_index page child_page bytes
    (Full needed have) is within is_height is_level is_index is_page looked told bad = bad
unfit_up image fresh total height level below index child child_height child_level child_index page child_page bytes DiskFault is within
    is_height is_level is_index is_page looked told bad = tt
unfit_up image fresh total height level below index child child_height child_level child_index page child_page bytes
    (Damaged at) is within is_height is_level is_index is_page looked told bad =
    let O : ℕ → Type 0 = λ l. IsLookedAt height l index page bytes in
    let A : ℕ → Type 0 = λ l. IsAsTold image height l index page bytes in
    let U : ℕ → Type 0 = λ l. HasUnfit image fresh fresh total (root_level height l index) page at in
    let root_is : root_level child_height child_level child_index ≡ root_level height below
    (128 * index + child) = ap (λ h. root_level h child_level child_index) is_height
    ∙ ap (λ l. root_level height l child_index) is_level ∙ ap (λ q. root_level height below q) is_index in
    let L : ℕ → Type 0 = λ l. HasUnfit image fresh fresh total l child_page at in
    let G : ℕ → Type 0 = λ p. HasUnfit image fresh fresh total (root_level height below (128 * index + child)) p at in
    subst U (sym is) (unfit_level image fresh total height below index child page at bytes (subst O is looked) (subst A is told) within
    (subst G is_page (subst L root_is bad)))
unfit_up image fresh total height level below index child child_height child_level child_index page child_page bytes NoMemory is within
    is_height is_level is_index is_page looked told bad = bad

pub unfit_here : (image : Image) (fresh total height level below index page : ℕ) (e : RepairError) → level ≡ suc below → page ≢ 0
    → is_new_root height level index ≡ false
    → IsUnfitAt image total level page e → IsUnfitBelow image fresh total (root_level height level index) page e
unfit_here image fresh total height level below index page (Full needed have) is some old bad = bad
unfit_here image fresh total height level below index page DiskFault is some old bad = tt
unfit_here image fresh total height level below index page (Damaged at) is some old bad =
    let U : ℕ → Type 0 = λ l. HasUnfit image fresh fresh total l page at in
    let B : ℕ → Type 0 = λ l. IsUnfit total l (image page) in
    subst U (sym (root_here height level index old ∙ is)) (inl (some, bad.0, subst B is bad.1))
unfit_here image fresh total height level below index page NoMemory is some old bad = bad

-- what the first pass finds is damage
pub unfit_damage : (image : Image) (total level root page : ℕ) (s : Superblock) (top : Option Span) (e : RepairError) → total ≡ s.total
    → level ≡ root → IsUnfitBelow image s.fresh total level page e → IsDamage image s.fresh s root page top e
unfit_damage image total level root page s top (Full needed have) is same bad = tt
unfit_damage image total level root page s top DiskFault is same bad = tt
unfit_damage image total level root page s top (Damaged at) is same bad =
    let T : ℕ → Type 0 = λ n. HasUnfit image s.fresh s.fresh n level page at in
    let L : ℕ → Type 0 = λ l. HasUnfit image s.fresh s.fresh s.total l page at in
    inl (subst L same (subst T is bad))
unfit_damage image total level root page s top NoMemory is same bad = tt

-- the root of the whole tree has its height
pub root_top : (height level : ℕ) → height ≤ level → root_level height level 0 ≡ height
unfolding is_new_root root_level
root_top height level less = grind (arith, less)
