-- What an ask answers.
use Rattle.std.proofs.Common.{◌≡◌, ℕ, suc, ◌+◌, ◌-◌, ◌*◌, ◌≤◌, List, true, Option, Some, None, Ok, Err, refl, sym, ap, ap₂, subst, inl, inr}
use Rattle.std.proofs.Common.{◌∙◌, arith}
use Rattle.std.specs.Prelude.{Result, OnErr, is_err}
use Rattle.block_disk.specs.View.{Image, View}
use Rattle.om3_coeff.specs.declared.key.Key.{Key}
use Rattle.om3_coeff.specs.declared.span.Span.{Span}
use Rattle.om3_coeff.specs.declared.coef.Coef.{Coef}
use Rattle.om3_coeff.specs.declared.errors.NodeError.{NodeError}
use Rattle.om3_coeff.specs.declared.errors.NodeError.TheVariants.{DiskFault, Damaged, Missing, BadCoefficient}
use Rattle.om3_coeff.specs.Keys.{page_levels, height, IsNode, MayFollow}
use Rattle.om3_coeff.specs.Coefs.{parts}
use Rattle.om3_coeff.specs.Known.{known}
use Rattle.om3_coeff.specs.View.{HasCause}
use Rattle.node_page.specs.Fields.{coef_at, child_at}
use Rattle.node_page.specs.Layout.{KeepsLayout}
use Rattle.node_page.specs.Places.{page_level, node_number}
use Rattle.tree_walk.specs.declared.tree.Tree.{Tree}
use Rattle.tree_walk.specs.declared.trail.Trail.{Trail}
use Rattle.tree_walk.specs.declared.held_page.HeldPage.{HeldPage}
use Rattle.tree_walk.specs.Paths.{path_index, path_child, page_below, page_on_path, told_by_pages, HasFault, IsDamaged, IsDamagedFor}
use Rattle.tree_walk.specs.Trails.{number_at, bytes_at, AreHeld, LeadsTo, LeadsToAny}
use Rattle.tree_walk.specs.Holding.{KeptWalking, IsBadOnPath, IsCauseOf}
use Rattle.tree_walk.specs.PagedNodes.{Ground, IsSeen, IsWayError, paged_view}
use Rattle.tree_walk.proofs.PathLemmas.{level_low, level_few, level_some, child_few, held_below, on_path, told_at}
use Rattle.tree_walk.proofs.SeenLemmas.{child_is_there}

-- the last page of the way
pub end_there : (told told' : Type 0) (old new : View) (tree : Tree) (pages : List HeldPage) (len : ℕ) (k : Key) (depth : ℕ)
    → KeptWalking told told' old new
    → AreHeld told' new.image new.size (page_levels tree.slots) pages len → LeadsTo tree pages len k
    → depth ≡ page_levels tree.slots - page_level k.level → told
    → page_on_path old.image tree k (page_level k.level) ≡ Some (number_at pages depth)
end_there told told' old new tree pages len k depth kept held leads is tells =
    let levels : ℕ = page_levels tree.slots in
    let own : ℕ = page_level k.level in
    let high : own ≤ levels = level_few k.level levels leads.node.high in
    let some : 1 ≤ own = level_some k.level leads.node.low in
    let back : levels - depth ≡ own = omega (arith, is, high) in
    let low : k.level ≤ 7 * (levels - depth) = level_low k.level (levels - depth) (omega (arith, back)) in
    let P : ℕ → Type 0 = λ n. page_below old.image tree.root depth (path_index k n) ≡ Some (number_at pages depth) in
    let there : P (levels - depth) =
    ap (λ (i : Image). page_below i tree.root depth (path_index k (levels - depth))) (sym (kept.image tells))
    ∙ held_below told' new.image new.size tree.root levels pages len k depth held leads.root
    (λ d below. leads.links d (omega (arith, below, is)))
    (omega (arith, is, leads.long)) (omega (arith, is, some, high)) low (kept.told tells) in
    on_path old.image tree k own (number_at pages depth) depth high is (subst P back there)

-- it is as the pages are
pub end_bytes : (told told' : Type 0) (old new : View) (tree : Tree) (pages : List HeldPage) (len : ℕ) (k : Key) (depth : ℕ)
    → KeptWalking told told' old new
    → AreHeld told' new.image new.size (page_levels tree.slots) pages len → LeadsTo tree pages len k
    → depth ≡ page_levels tree.slots - page_level k.level → told
    → bytes_at pages depth ≡ old.image (number_at pages depth)
end_bytes told told' old new tree pages len k depth kept held leads is tells =
    (held depth (omega (arith, is, leads.long))).as_told (kept.told tells)
    ∙ ap (λ (i : Image). i (number_at pages depth)) (kept.image tells)

pub end_keeps : (told : Type 0) (image : Image) (total : ℕ) (tree : Tree) (pages : List HeldPage) (len : ℕ) (k : Key) (depth : ℕ)
    → AreHeld told image total (page_levels tree.slots) pages len → LeadsTo tree pages len k
    → depth ≡ page_levels tree.slots - page_level k.level → KeepsLayout (bytes_at pages depth)
end_keeps told image total tree pages len k depth held leads is = (held depth (omega (arith, is, leads.long))).keeps

-- the coefficient that was read is the one at the key's node
pub end_coef : (pages : List HeldPage) (depth : ℕ) (k : Key) (c : Coef) (node : ℕ) (page slice bytes : List ℕ) → c ≡ coef_at page node
    → page ≡ slice → slice ≡ bytes → bytes_at pages depth ≡ bytes
    → node ≡ node_number k → c ≡ coef_at (bytes_at pages depth) (node_number k)
end_coef pages depth k c node page slice bytes is of value held number =
    let same : page ≡ bytes_at pages depth = of ∙ value ∙ sym held in
    is ∙ ap₂ (λ (b : List ℕ) (n : ℕ). coef_at b n) same number

-- it is the one that the pages tell
pub end_told : (told told' : Type 0) (old new : View) (tree : Tree) (pages : List HeldPage) (len : ℕ) (k : Key) (depth : ℕ) (c : Coef)
    → KeptWalking told told' old new
    → AreHeld told' new.image new.size (page_levels tree.slots) pages len → LeadsTo tree pages len k
    → depth ≡ page_levels tree.slots - page_level k.level
    → c ≡ coef_at (bytes_at pages depth) (node_number k) → told → told_by_pages old.image tree k ≡ Some c
end_told told told' old new tree pages len k depth c kept held leads is coef tells =
    told_at old.image tree k (number_at pages depth) (end_there told told' old new tree pages len k depth kept held leads is tells)
    ∙ ap (λ b. Some (coef_at b (node_number k))) (sym (end_bytes told told' old new tree pages len k depth kept held leads is tells))
    ∙ ap (λ (c : Coef). Some c) (sym coef)

-- a split that failed shows that the coefficient doesn't split
pub splits_none : {T E : Type 0} (r : Result T E) (s : Span) (c : Coef) → is_err r ≡ true → OnErr r (parts s c ≡ None) → parts s c ≡ None
splits_none (Ok p) s c is none = absurd (cc)
splits_none (Err e) s c is none = none

-- what is damaged on the way to a key is damaged
pub damaged_by : (image : Image) (total : ℕ) (tree : Tree) (k : Key) (s : Span) (page : ℕ) → IsNode (height tree.slots) k
    → known tree.span (told_by_pages image tree) (height tree.slots) k ≡ Some (Some s)
    → IsDamagedFor image total tree k s page → IsDamaged image total tree page
damaged_by image total tree k s page node seen bad = record {
  key = k;
  node = node;
  span = s;
  seen = seen;
  level = bad.level;
  above = bad.above;
  below = bad.below;
  there = bad.there;
  fault = bad.fault;
}

-- it doesn't split
pub end_way : (told told' : Type 0) (old new : View) (tree : Tree) (pages : List HeldPage) (len : ℕ) (k : Key) (s : Span) (depth number : ℕ)
    (c : Coef) → KeptWalking told told' old new
    → AreHeld told' new.image new.size (page_levels tree.slots) pages len → LeadsTo tree pages len k
    → depth ≡ page_levels tree.slots - page_level k.level
    → number_at pages depth ≡ number → c ≡ coef_at (bytes_at pages depth) (node_number k) → parts s c ≡ None → told
    → IsDamagedFor old.image old.size tree k s number
end_way told told' old new tree pages len k s depth number c kept held leads is same coef bad tells =
    let own : ℕ = page_level k.level in
    let there = end_there told told' old new tree pages len k depth kept held leads is tells in
    let bytes = end_bytes told told' old new tree pages len k depth kept held leads is tells in
    let P : ℕ → Type 0 = λ p. IsDamagedFor old.image old.size tree k s p in
    let F : List ℕ → Type 0 = λ b. HasFault old.size k s own b in
    let here : P (number_at pages depth) = record {
      level = own;
      above = omega arith;
      below = level_few k.level (page_levels tree.slots) leads.node.high;
      there = there;
      fault = subst F bytes (inr (inr (inr (refl, ap (parts s) (sym coef) ∙ bad))));
    } in
    subst P same here

pub end_bad : (told told' : Type 0) (old new : View) (tree : Tree) (pages : List HeldPage) (len : ℕ) (k : Key) (s : Span) (depth number : ℕ)
    (c : Coef) → KeptWalking told told' old new
    → AreHeld told' new.image new.size (page_levels tree.slots) pages len → LeadsTo tree pages len k
    → depth ≡ page_levels tree.slots - page_level k.level
    → IsSeen told old tree k s → number_at pages depth ≡ number → c ≡ coef_at (bytes_at pages depth) (node_number k) → parts s c ≡ None
    → told → IsDamaged old.image old.size tree number
end_bad told told' old new tree pages len k s depth number c kept held leads is seen same coef bad tells =
    damaged_by old.image old.size tree k s number leads.node (seen tells)
    (end_way told told' old new tree pages len k s depth number c kept held leads is same coef bad tells)

-- a page on the way that is found bad is damaged
path_fault : (view : View) (tree : Tree) (k : Key) (s : Span) (page : ℕ) → IsNode (height tree.slots) k
    → known tree.span (told_by_pages view.image tree) (height tree.slots) k ≡ Some (Some s)
    → (bad : IsBadOnPath view tree k page) → HasFault view.size k s bad.level (view.image page)
path_fault view tree k s page node seen bad = elim bad.bad [
  | inl broken ↦ elim broken [ inl keeps ↦ inl keeps | inr level ↦ inr (inl level) ]
  | inr names ↦ elim names.none [
    | inl none ↦
        let level : ℕ = bad.level - 1 in
        let up : bad.level ≡ suc level = omega (arith, names.below) in
        let there : page_on_path view.image tree k (suc level) ≡ Some page = ap (page_on_path view.image tree k) (sym up) ∙ bad.there in
        let zero_child : child_at (view.image page) (path_child k (suc level)) ≡ 0 = ap (λ n. child_at (view.image page) (path_child k n))
        (sym up) ∙ none in
        absurd (child_is_there view.image tree k s level page seen
        (level_low k.level level (omega (arith, names.below, up))) (omega (arith, names.below, up, level_some k.level node.low))
        (omega (arith, bad.below, up))
        there names.keeps (names.level_is ∙ up) zero_child)
    | inr past ↦ inr (inr (inl (record { child = path_child k bad.level; within = child_few k bad.level; beyond = past })))
  ]
]

pub path_damaged : (view : View) (tree : Tree) (k : Key) (s : Span) (page : ℕ) → IsNode (height tree.slots) k
    → known tree.span (told_by_pages view.image tree) (height tree.slots) k ≡ Some (Some s)
    → IsBadOnPath view tree k page → IsDamagedFor view.image view.size tree k s page
path_damaged view tree k s page node seen bad = record {
  level = bad.level;
  above = bad.above;
  below = bad.below;
  there = bad.there;
  fault = path_fault view tree k s page node seen bad;
}

pub path_way : (told : Type 0) (old new : View) (tree : Tree) (k : Key) (s : Span) (e : NodeError) → IsNode (height tree.slots) k
    → IsSeen told old tree k s
    → IsCauseOf told old new tree k e → IsWayError told old tree k s e
path_way told old new tree k s DiskFault node seen cause = tt
path_way told old new tree k s (Damaged page) node seen cause = λ tells. path_damaged old tree k s page node (seen tells) (cause.1 tells)
path_way told old new tree k s (Missing key) node seen cause = cause
path_way told old new tree k s (BadCoefficient key) node seen cause = cause

pub path_cause : (old new : Ground) (trail trail' : Trail) (k : Key) (s : Span) (e : NodeError) → IsNode (height old.tree.slots) k
    → IsSeen old.told old.view old.tree k s
    → IsCauseOf old.told old.view new.view old.tree k e → HasCause (paged_view old trail) (paged_view new trail') e
path_cause old new trail trail' k s DiskFault node seen cause = cause
path_cause old new trail trail' k s (Damaged page) node seen cause = (
  cause.0,
  λ tells. damaged_by old.view.image old.view.size old.tree k s page node (seen tells)
      (path_damaged old.view old.tree k s page node (seen tells) (cause.1 tells)),
)
path_cause old new trail trail' k s (Missing key) node seen cause = cause
path_cause old new trail trail' k s (BadCoefficient key) node seen cause = cause

-- the reads of an ask in tree order
pub asked_reads : (tree : Tree) (pages : List HeldPage) (len : ℕ) (asked : Option Key) (k : Key) (old new : ℕ)
    → LeadsToAny tree pages len asked
    → ((last : Key) → LeadsTo tree pages len last → MayFollow (height tree.slots) (Some last) k → new ≤ old + 1)
    → (k.level ≡ height tree.slots → new ≤ old + 1)
    → MayFollow (height tree.slots) asked k → new ≤ old + 1
asked_reads tree pages len None k old new leads order top (inl is) = top is
asked_reads tree pages len None k old new leads order top (inr over) = absurd over
asked_reads tree pages len (Some last) k old new leads order top follows = order last leads follows
