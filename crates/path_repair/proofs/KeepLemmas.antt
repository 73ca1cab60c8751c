-- Which pages a change spares.
use Rattle.std.proofs.Common.{◌≡◌, ◌≢◌, ℕ, ◌≤◌, List, sym, subst, arith, inl, inr, ◌∙◌}
use Rattle.block_disk.specs.View.{Image}
use Rattle.node_page.specs.Layout.{IsKind}
use Rattle.page_space.specs.Causes.{Takes}
use Rattle.page_space.specs.Layout.{IsGiven, freed_page}
use Rattle.page_space.specs.declared.superblock.Superblock.{Superblock}
use Rattle.path_repair.specs.Damage.{IsNoNew}
use Rattle.path_repair.specs.Keeping.{IsSpared, Spares, IsOwn}

-- a page that may be put isn't spared
pub own_spared : (image : Image) (fresh last level number : ℕ) → IsOwn image fresh last level number
    → IsSpared level fresh last number (image number) → ⊥
own_spared image fresh last level number (inl own) (inl spared) = spared.1 own.0
own_spared image fresh last level number (inl own) (inr spared) = absurd (omega (arith, own.1, spared.2))
own_spared image fresh last level number (inr own) (inl spared) = absurd (omega (arith, own.0, spared.0))
own_spared image fresh last level number (inr own) (inr spared) = elim own.1 [
  | inl other ↦ other spared.1
  | inr new ↦ elim spared.0 [
    | inl low ↦ omega (arith, new.0, low)
    | inr high ↦ omega (arith, new.1, high)
  ]
]

-- fewer pages are new where fewer were taken
pub no_new : (fresh fresh' last last' p : ℕ) → fresh ≤ fresh' → last' ≤ last → IsNoNew fresh last p → IsNoNew fresh' last' p
no_new fresh fresh' last last' p more less (inl low) = inl (omega (arith, low, more))
no_new fresh fresh' last last' p more less (inr high) = inr (omega (arith, high, less))

pub own_more : (image : Image) (fresh last last' level number : ℕ) → last ≤ last' → IsOwn image fresh last level number
    → IsOwn image fresh last' level number
own_more image fresh last last' level number more (inl own) = inl own
own_more image fresh last last' level number more (inr (low, inl other)) = inr (low, inl other)
own_more image fresh last last' level number more (inr (low, inr new)) = inr (low, inr (new.0, omega (arith, new.1, more)))

-- what is spared by a change on a page level is spared by those below it
spared_below : (below level fresh fresh' last last' p : ℕ) (page : List ℕ) → below ≤ level → fresh ≤ fresh' → last' ≤ last
    → IsSpared level fresh last p page → IsSpared below fresh' last' p page
spared_below below level fresh fresh' last last' p page less more fewer (inl spared) = inl spared
spared_below below level fresh fresh' last last' p page less more fewer (inr spared) = inr
    (no_new fresh fresh' last last' p more fewer spared.0, spared.1, omega (arith, spared.2, less))

pub spares_same : (level fresh last : ℕ) (before after : Image) → ((p : ℕ) → 1 ≤ p → after p ≡ before p)
    → Spares level fresh last before after
spares_same level fresh last before after same p some spared = same p some

-- a change of pages below a level after another
pub spares_then : (below level fresh fresh' mid last : ℕ) (before between after : Image) → level ≡ below → fresh ≤ fresh' → mid ≤ last
    → Spares below fresh mid before between → Spares level fresh' last between after → Spares below fresh last before after
spares_then below level fresh fresh' mid last before between after is more later first second p some spared =
    let same = first p some (spared_below below below fresh fresh last mid p (before p) (omega arith) (omega arith) later spared) in
    let S : List ℕ → Type 0 = λ page. IsSpared level fresh' last p page in
    second p some (subst S (sym same) (spared_below level below fresh fresh' last last p (before p) (omega (arith, is)) more
    (omega arith) spared)) ∙ same

-- a page of a page level is put or freed after the changes below it
pub spares_put : (below level fresh mid last number : ℕ) (before between after : Image) → below ≤ level → mid ≤ last
    → IsOwn before fresh last level number → Spares below fresh mid before between
    → ((p : ℕ) → 1 ≤ p → p ≢ number → after p ≡ between p) → Spares level fresh last before after
spares_put below level fresh mid last number before between after less later own spares others p some spared =
    let S : ℕ → Type 0 = λ n. IsSpared level fresh last n (before n) in
    others p some (λ is. own_spared before fresh last level number own (subst S is spared))
    ∙ spares p some (spared_below below level fresh fresh last mid p (before p) less (omega arith) later spared)

-- a failing change below spares what one of this level does
pub spares_up : (below level fresh last : ℕ) (before after : Image) → below ≤ level → Spares below fresh last before after
    → Spares level fresh last before after
spares_up below level fresh last before after less spares p some spared = spares p some
    (spared_below below level fresh fresh last last p (before p) less (omega arith) (omega arith) spared)

-- a page of the chain is no tree page
freed_other : (next : ℕ) → IsKind (freed_page next) → ⊥
unfolding freed_page
freed_other next kind = grind (arith, kind)

-- a page that was taken may be put
pub taken_own : (told : Type 0) (image : Image) (s s' : Superblock) (level p : ℕ) → told → Takes told image s s' p → IsGiven s'.fresh p
    → IsOwn image s.fresh s'.fresh level p
taken_own told image s s' level p tells (inl chain) given =
    let K : List ℕ → Type 0 = λ page. IsKind page → ⊥ in
    let P : ℕ → Type 0 = λ n. IsKind (image n) → ⊥ in
    inr (given.0, inl (subst P (sym chain.head_is) (subst K (sym (chain.spelled tells)) (freed_other s'.head))))
taken_own told image s s' level p tells (inr new) given = inr (given.0, inr (omega (arith, new.fresh_is), given.1))
