-- Above a key that the pages give a span each page names the next one on the way.
use Rattle.std.proofs.Common.{◌≡◌, ℕ, zero, suc, ◌+◌, ◌-◌, ◌*◌, ◌/◌, ◌%◌, ◌^◌, ◌≤◌, cond, Bool, true, false, Option, Some, None, refl, sym}
use Rattle.std.proofs.Common.{ap, subst, ◌∙◌, arith}
use Rattle.std.specs.Prelude.{◌==◌}
use Rattle.std.specs.Option.{option_map}
use Rattle.std.proofs.lemmas.Nat.{shr-shr}
use Rattle.std.proofs.lemmas.Option.{same_Some}
use Rattle.block_disk.specs.View.{Image}
use Rattle.om3_coeff.specs.declared.key.Key.{Key}
use Rattle.om3_coeff.specs.declared.span.Span.{Span}
use Rattle.om3_coeff.specs.declared.coef.Coef.{Coef}
use Rattle.om3_coeff.specs.Keys.{page_levels, height, parent_of, IsAtOrAbove}
use Rattle.om3_coeff.specs.Coefs.{coef_of, parts}
use Rattle.om3_coeff.specs.Known.{half, known_below, known}
use Rattle.om3_coeff.proofs.CoefLemmas.{AreParts, parts_are}
use Rattle.om3_coeff.proofs.KeyLemmas.{same_key}
use Rattle.om3_coeff.proofs.KnownLemmas.{known_step}
use Rattle.node_page.specs.Fields.{level_at, coef_at, child_at}
use Rattle.node_page.specs.Layout.{KeepsLayout, side_of, has_child}
use Rattle.node_page.specs.Places.{page_level, node_number}
use Rattle.node_page.proofs.KeyPlaces.{node_above, level_above}
use Rattle.tree_walk.specs.declared.tree.Tree.{Tree}
use Rattle.tree_walk.specs.Paths.{path_index, path_child, page_below, page_on_path, told_by_pages}
use Rattle.tree_walk.proofs.PathLemmas.{child_on, child_few, told_at}

-- the parent's span and coefficient give the key's span
record GivesSpan (index : ℕ) (above : Option (Option Span)) (told : Option Coef) (s : Span) : Type 0 where
  span : Span
  coef : Coef
  seen : above ≡ Some (Some span)
  is : told ≡ Some coef
  gives : option_map (half index) (parts span coef) ≡ Some (Some s)

gives_span : (index : ℕ) (above : Option (Option Span)) (told : Option Coef) (s : Span) → known_below index above told ≡ Some (Some s)
    → GivesSpan index above told s
gives_span index None told s is = absurd (cc)
gives_span index (Some None) told s is = absurd (cc)
gives_span index (Some (Some span)) None s is = absurd (cc)
gives_span index (Some (Some span)) (Some coef) s is = record { span = span; coef = coef; seen = refl; is = refl; gives = is }

-- a key has a span
record IsSeenKey (root : Option Span) (told : Key → Option Coef) (top : ℕ) (k : Key) : Type 0 where
  span : Span
  seen : known root told top k ≡ Some (Some span)

-- the keys above a key with a span have one
seen_from : (root : Option Span) (told : Key → Option Coef) (top gap : ℕ) (w k : Key) (s : Span) → w.level ≤ top → w.level ≡ k.level + gap
    → k.index / 2 ^ gap ≡ w.index
    → known root told top k ≡ Some (Some s) → IsSeenKey root told top w
seen_from root told top zero w k s high levels place seen =
    let P : Key → Type 0 = λ w. IsSeenKey root told top w in
    let whole : k.index / 2 ^ 0 ≡ k.index = omega arith in
    let same : k ≡ w = same_key k w (omega (arith, levels)) (sym whole ∙ place) in
    let here : IsSeenKey root told top k = record { span = s; seen = seen } in
    subst P same here
seen_from root told top (suc gap) w k s high levels place seen =
    let widths : k.index / 2 / 2 ^ gap ≡ k.index / 2 ^ suc gap =
    shr-shr k.index 1 gap ∙ ap (λ n. k.index / 2 ^ n) (omega arith) in
    let up = gives_span k.index (known root told top (parent_of k)) (told (parent_of k)) s
    (sym (known_step root told top k (omega (arith, levels, high))) ∙ seen) in
    seen_from root told top gap w (parent_of k) up.span high (omega (arith, levels)) (widths ∙ place) up.seen

seen_above : (root : Option Span) (told : Key → Option Coef) (top : ℕ) (w k : Key) (s : Span) → w.level ≤ top → IsAtOrAbove w k
    → known root told top k ≡ Some (Some s) → IsSeenKey root told top w
seen_above root told top w k s high above seen =
    seen_from root told top (w.level - k.level) w k s high (omega (arith, above.higher)) above.holds seen

-- a half with a span has its flag
mapped : (index : ℕ) (o : Option (Option Span × Option Span)) (x : Option Span) → option_map (half index) o ≡ Some x
    → (p : Option Span × Option Span) × ((o ≡ Some p) × (half index p ≡ x))
mapped index None x is = absurd (cc)
mapped index (Some p) x is = (p, (refl, same_Some (half index p) x is))

left_flag : (l r : Option Span) (s : Span) → l ≡ Some s → (coef_of l r).left ≡ true
left_flag None r s is = absurd (cc)
left_flag (Some l) None s is = refl
left_flag (Some l) (Some r) s is = refl

right_flag : (l r : Option Span) (s : Span) → r ≡ Some s → (coef_of l r).right ≡ true
right_flag l None s is = absurd (cc)
right_flag None (Some r) s is = refl
right_flag (Some l) (Some r) s is = refl

by_side : (even : Bool) (l r : Option Span) (c : Coef) (s : Span) → coef_of l r ≡ c → cond even l r ≡ Some s
    → cond even c.left c.right ≡ true
by_side true l r c s coef is = ap (λ (c : Coef). c.left) (sym coef) ∙ left_flag l r s is
by_side false l r c s coef is = ap (λ (c : Coef). c.right) (sym coef) ∙ right_flag l r s is

flag_of_half : (index : ℕ) (s t : Span) (c : Coef) → option_map (half index) (parts s c) ≡ Some (Some t) → side_of c index ≡ true
flag_of_half index s t c is =
    let found = mapped index (parts s c) (Some t) is in
    let p : Option Span × Option Span = found.0 in
    let are : AreParts s c p.0 p.1 = parts_are s c p.0 p.1 found.1.0 in
    by_side (index % 2 == 0) p.0 p.1 c t are.coef found.1.1

-- the key at the top of the page below on the way
top_below : Key → ℕ → Key
top_below k level = record { level = 7 * level; index = path_index k level }

top_above : (k : Key) (level : ℕ) → k.level ≤ 7 * level → IsAtOrAbove (top_below k level) k
unfolding path_index top_below
top_above k level low = record { higher = low; holds = refl }

parent_path : (k : Key) (level : ℕ) → k.level ≤ 7 * level
    → path_index (parent_of (top_below k level)) (suc level) ≡ path_index k (suc level)
unfolding path_index top_below
parent_path k level low =
    let six : 7 * suc level - suc (7 * level) ≡ 6 = omega arith in
    let sum : (7 * level - k.level) + 7 ≡ 7 * suc level - k.level = omega (arith, low) in
    ap (λ n. k.index / 2 ^ (7 * level - k.level) / 2 / 2 ^ n) six
    ∙ shr-shr (k.index / 2 ^ (7 * level - k.level)) 1 6
    ∙ shr-shr k.index (7 * level - k.level) 7
    ∙ ap (λ n. k.index / 2 ^ n) sum

side_mod : (c : Coef) (index : ℕ) → side_of c (index % 128) ≡ side_of c index
side_mod c index = let e : index % 128 % 2 ≡ index % 2 = omega arith in ap (λ n. cond (n == 0) c.left c.right) e

-- a page on the way that keeps its layout has the child on the way, where the key has a span
pub child_is_there : (image : Image) (tree : Tree) (k : Key) (s : Span) (level page : ℕ)
    → known tree.span (told_by_pages image tree) (height tree.slots) k ≡ Some (Some s)
    → k.level ≤ 7 * level → 1 ≤ level → suc level ≤ page_levels tree.slots
    → page_on_path image tree k (suc level) ≡ Some page → KeepsLayout (image page) → level_at (image page) ≡ suc level
    → child_at (image page) (path_child k (suc level)) ≡ 0 → ⊥
unfolding top_below
child_is_there image tree k s level page seen low some within there keeps is none =
    let v : Key = top_below k level in
    let w : Key = parent_of v in
    let told : Key → Option Coef = told_by_pages image tree in
    let top : ℕ = height tree.slots in
    let above = seen_above tree.span told top v k s (omega (arith, within)) (top_above k level low) seen in
    let up = gives_span v.index (known tree.span told top w) (told w) above.span
    (sym (known_step tree.span told top v (omega (arith, within))) ∙ above.seen) in
    let of_w : page_level w.level ≡ suc level = level_above (7 * level) level refl in
    let page_of_w : page_on_path image tree w (page_level w.level) ≡ Some page =
    ap (λ l. page_on_path image tree w l) of_w
    ∙ ap (λ i. page_below image tree.root (page_levels tree.slots - suc level) i) (parent_path k level low)
    ∙ there in
    let coef_is : up.coef ≡ coef_at (image page) (node_number w) = same_Some up.coef (coef_at (image page) (node_number w)) (sym up.is
    ∙ told_at image tree w page page_of_w) in
    let flag : side_of (coef_at (image page) (node_number w)) v.index ≡ true =
    ap (λ (c : Coef). side_of c v.index) (sym coef_is) ∙ flag_of_half v.index up.span above.span up.coef up.gives in
    let child : ℕ = path_child k (suc level) in
    let child_is : child ≡ v.index % 128 = child_on k level in
    let node : node_number w ≡ 63 + v.index % 128 / 2 = node_above v level refl in
    let has : has_child (image page) child ≡ true =
    ap (λ c. has_child (image page) c) child_is
    ∙ side_mod (coef_at (image page) (63 + v.index % 128 / 2)) v.index
    ∙ ap (λ n. side_of (coef_at (image page) n) v.index) (sym node)
    ∙ flag in
    (keeps.children child (child_few k (suc level))).there (omega (arith, is, some)) has none
