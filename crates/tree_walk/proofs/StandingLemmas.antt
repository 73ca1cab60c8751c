-- Pages that stand for a list tell its coefficients, and none of them is damaged.
use Rattle.std.proofs.Common.{◌≡◌, ◌≢◌, ℕ, ℤ, zero, suc, ◌+◌, ◌-◌, ◌*◌, ◌/◌, ◌%◌, ◌^◌, ◌<◌, ◌≤◌, List, length, Option, Some, None, refl}
use Rattle.std.proofs.Common.{sym, ap, subst, inl, inr, ◌∙◌, arith, rules}
use Rattle.std.specs.Prelude.{IsSome}
use Rattle.std.proofs.lemmas.Option.{same_Some}
use Rattle.std.proofs.lemmas.Nat.{pow-add, shr_below}
use Rattle.block_disk.specs.View.{Image, View}
use Rattle.om3_coeff.specs.declared.key.Key.{Key}
use Rattle.om3_coeff.specs.declared.span.Span.{Span}
use Rattle.om3_coeff.specs.declared.coef.Coef.{Coef}
use Rattle.om3_coeff.specs.Keys.{first_slot, end_slot, page_levels, height, IsKey, IsNode, IsAtOrAbove}
use Rattle.om3_coeff.specs.Spans.{AreSlots, IsProperIfAny, span}
use Rattle.om3_coeff.specs.Coefs.{coef, coef_of, parts}
use Rattle.om3_coeff.specs.Known.{known}
use Rattle.om3_coeff.specs.View.{Agrees}
use Rattle.om3_coeff.proofs.KeyLemmas.{first_above, end_above, span_halves}
use Rattle.om3_coeff.proofs.KnownLemmas.{known_spans}
use Rattle.om3_coeff.proofs.WalkLemmas.{none_within}
use Rattle.om3_coeff.proofs.ExtremeLemmas.{span_over-proper}
use Rattle.om3_coeff.proofs.CoefLemmas.{parts_joined}
use Rattle.om3_coeff.specs.Keys.{left_of, right_of}
use Rattle.node_page.specs.Fields.{child_at}
use Rattle.node_page.specs.Places.{page_level, page_index}
use Rattle.tree_walk.specs.declared.tree.Tree.{Tree}
use Rattle.tree_walk.specs.declared.trail.Trail.{Trail}
use Rattle.tree_walk.specs.Paths.{path_index, page_below, page_on_path, told_by_pages, HasFault, IsDamaged}
use Rattle.tree_walk.specs.Trees.{top_of_page, HoldsNodes, IsTree, StandsFor}
use Rattle.tree_walk.specs.PagedNodes.{IsTrail, IsFit, Ground, paged_view}
use Rattle.tree_walk.proofs.PathLemmas.{level_low, level_few, level_some, own_page, child_some, told_at}

none_some : (o : Option Span) → o ≡ None → IsSome o → ⊥
none_some None is = λ some. search rules
none_some (Some s) is = λ some. absurd (cc)

-- a range has a value where a part of it has
some_over : (list : List (Option ℤ)) (w k : Key) → IsAtOrAbove w k → IsSome (span list k) → IsSome (span list w)
some_over list w k above some = by (span list w) refl
  where
    by : (o : Option Span) → span list w ≡ o → IsSome (span list w)
    by None is =
        absurd (none_some (span list k) (none_within list (first_slot w) (end_slot w) (first_slot k) (end_slot k) is (first_above w k above)
        (end_above w k above)) some)
    by (Some s) is = let P : Option Span → Type 0 = λ o. IsSome o in subst P (sym is) refl

-- a page that stands for a range with a value
record IsPage (image : Image) (total : ℕ) (list : List (Option ℤ)) (level index page : ℕ) : Type 0 where
  there : page ≢ 0
  below : page < total
  nodes : HoldsNodes list (suc level) index (image page)
  children : (child : ℕ) → child < 128 → IsTree image total list level (128 * index + child) (child_at (image page) child)

some_page : (image : Image) (total : ℕ) (list : List (Option ℤ)) (level index page : ℕ) → IsSome (span list (top_of_page (suc level) index))
    → IsTree image total list (suc level) index page → IsPage image total list level index page
some_page image total list level index page some (inl none) = absurd (none_some (span list (top_of_page (suc level) index)) none.1 some)
some_page image total list level index page some (inr is) =
    record { there = is.0; below = is.1; nodes = is.3; children = is.4 }

part_above : (level index : ℕ) → IsAtOrAbove (top_of_page (suc level) (index / 128)) (top_of_page level index)
part_above level index = record {
  higher = omega arith;
  holds = let seven : 7 * suc level - 7 * level ≡ 7 = omega arith in ap (λ n. index / 2 ^ n) seven;
}

-- the page of a range with a value is found
record IsFound (image : Image) (total : ℕ) (list : List (Option ℤ)) (root depth level index : ℕ) : Type 0 where
  page : ℕ
  there : page_below image root depth index ≡ Some page
  is : IsPage image total list level index page

found : (image : Image) (total : ℕ) (list : List (Option ℤ)) (root depth level index : ℕ)
    → IsTree image total list (suc level + depth) 0 root → index < 128 ^ depth
    → IsSome (span list (top_of_page (suc level) index)) → IsFound image total list root depth level index
unfolding page_below
found image total list root zero level index tree within some =
    let none : index ≡ 0 = omega (arith, within) in
    let P : ℕ → Type 0 = λ i. IsTree image total list (suc level) i root in
    let Q : ℕ → Type 0 = λ n. IsTree image total list n 0 root in
    let whole : suc level + 0 ≡ suc level = omega arith in
    record { page = root; there = refl; is = some_page image total list level index root some (subst P (sym none) (subst Q whole tree)) }
found image total list root (suc depth) level index tree within some =
    let Q : ℕ → Type 0 = λ n. IsTree image total list n 0 root in
    let one : suc level + suc depth ≡ suc (suc level) + depth = omega arith in
    let width : 128 ^ suc depth ≡ 128 * 128 ^ depth = omega arith in
    let up = found image total list root depth (suc level) (index / 128) (subst Q one tree) (omega (arith, within, width))
    (some_over list (top_of_page (suc (suc level)) (index / 128)) (top_of_page (suc level) index) (part_above (suc level) index) some) in
    let R : ℕ → Type 0 = λ i. IsTree image total list (suc level) i (child_at (image up.page) (index % 128)) in
    let split : 128 * (index / 128) + index % 128 ≡ index = omega arith in
    let here = some_page image total list level index (child_at (image up.page) (index % 128)) some
    (subst R split (up.is.children (index % 128) (omega arith))) in
    record {
      page = child_at (image up.page) (index % 128);
      there = child_some image (page_below image root depth (index / 128)) up.page (index % 128) up.there here.there;
      is = here;
    }

-- the page on the way to a key whose range there has a value
path_within : (top level : ℕ) (k : Key) → k.level ≤ 7 * level → 7 * level ≤ top → k.index < 2 ^ (top - k.level)
    → path_index k level < 2 ^ (top - 7 * level)
unfolding path_index
path_within top level k low high within =
    let widths : 2 ^ ((top - 7 * level) + (7 * level - k.level)) ≡ 2 ^ (top - k.level) = ap (λ n. 2 ^ n) (omega (arith, low, high)) in
    shr_below k.index (top - 7 * level) (7 * level - k.level) (omega (arith, widths, within))

seven_each : (depth : ℕ) → 2 ^ (7 * depth) ≡ 128 ^ depth
seven_each zero = refl
seven_each (suc depth) =
    let sum : 2 ^ (7 * suc depth) ≡ 2 ^ (7 * depth) * 128 = ap (λ n. 2 ^ n) (let e : 7 * suc depth ≡ 7 * depth + 7 = omega arith in e)
    ∙ pow-add 2 (7 * depth) 7 in
    omega (arith, sum, seven_each depth)

top_over : (k : Key) (level : ℕ) → k.level ≤ 7 * level → IsAtOrAbove (top_of_page level (path_index k level)) k
unfolding path_index
top_over k level low = record { higher = low; holds = refl }

found_on : (image : Image) (total : ℕ) (tree : Tree) (list : List (Option ℤ)) (k : Key) (level : ℕ) → StandsFor image total tree list
    → IsNode (height (length list)) k → IsSome (span list k)
    → k.level ≤ 7 * suc level → suc level ≤ page_levels (length list)
    → IsFound image total list tree.root (page_levels (length list) - suc level) level (path_index k (suc level))
found_on image total tree list k level stands node some low high =
    let depth : ℕ = page_levels (length list) - suc level in
    let Q : ℕ → Type 0 = λ n. IsTree image total list n 0 tree.root in
    let whole : page_levels (length list) ≡ suc level + depth = omega (arith, high) in
    let left : 2 ^ (height (length list) - 7 * suc level) ≡ 128 ^ depth = ap (λ n. 2 ^ n)
    (let e : height (length list) - 7 * suc level ≡ 7 * depth = omega (arith, high) in e) ∙ seven_each depth in
    found image total list tree.root depth level (path_index k (suc level)) (subst Q whole stands.pages)
    (omega (arith, path_within (height (length list)) (suc level) k low (omega (arith, high)) node.within, left))
    (some_over list (top_of_page (suc level) (path_index k (suc level))) k (top_over k (suc level) low) some)

-- by the number of the page level that the key's own page has
own_level : (k : Key) → 1 ≤ k.level → (level : ℕ) × (page_level k.level ≡ suc level)
own_level k low = (page_level k.level - 1, omega (arith, level_some k.level low))

-- what the pages tell is the list's
pub standing_told : (image : Image) (total : ℕ) (tree : Tree) (list : List (Option ℤ)) (k : Key) → StandsFor image total tree list
    → IsNode (height (length list)) k → IsSome (span list k)
    → told_by_pages image tree k ≡ Some (coef list k)
standing_told image total tree list k stands node some =
    let own = own_level k node.low in
    let level : ℕ = own.0 in
    let high : suc level ≤ page_levels (length list) = omega (arith, level_few k.level (page_levels (length list)) node.high, own.1) in
    let at = found_on image total tree list k level stands node some (level_low k.level (suc level) (omega (arith, own.1))) high in
    let levels : page_levels tree.slots ≡ page_levels (length list) = ap page_levels stands.slots in
    let there : page_on_path image tree k (page_level k.level) ≡ Some at.page =
    ap (λ l. page_below image tree.root (page_levels tree.slots - l) (path_index k l)) own.1
    ∙ ap (λ n. page_below image tree.root (n - suc level) (path_index k (suc level))) levels
    ∙ at.there in
    let index : page_index k ≡ path_index k (suc level) = sym (own_page k) ∙ ap (path_index k) own.1 in
    told_at image tree k at.page there ∙ ap (λ (c : Coef). Some c) (at.is.nodes.nodes k node.low own.1 index)

-- nodes over pages that stand for a list agree with it
pub standing_agrees : (at : Ground) (trail : Trail) (list : List (Option ℤ)) → at.told → StandsFor at.view.image at.view.size at.tree list
    → Agrees (paged_view at trail) list
standing_agrees at trail list told stands = record {
  values = stands.values;
  few = stands.few;
  slots = stands.slots;
  root = stands.root_span;
  tells = told;
  told = λ k node some concerns. standing_told at.view.image at.view.size at.tree list k stands node some;
}

-- a key that the pages give a span has the list's
seen_is : (image : Image) (total : ℕ) (tree : Tree) (list : List (Option ℤ)) (k : Key) (s : Span) → StandsFor image total tree list
    → IsNode (height (length list)) k
    → known tree.span (told_by_pages image tree) (height tree.slots) k ≡ Some (Some s) → span list k ≡ Some s
seen_is image total tree list k s stands node seen =
    let key : IsKey (height (length list)) k = record { high = node.high; within = node.within } in
    same_Some (span list k) (Some s)
    (sym (known_spans tree.span (told_by_pages image tree) list k stands.values stands.root_span key
    (λ w here low above some. standing_told image total tree list w stands here some))
    ∙ ap (λ n. known tree.span (told_by_pages image tree) (height n) k) (sym stands.slots)
    ∙ seen)

-- the list's coefficient splits
no_parts : (o : Option (Option Span × Option Span)) (p : Option Span × Option Span) → o ≡ Some p → o ≡ None → ⊥
no_parts None p some = λ none. absurd (cc)
no_parts (Some q) p some = λ none. absurd (cc)

coef_splits : (list : List (Option ℤ)) (k : Key) (s : Span) → AreSlots list → 1 ≤ k.level → span list k ≡ Some s
    → parts s (coef list k) ≡ None → ⊥
coef_splits list k s values low is none =
    let l : Option Span = span list (left_of k) in
    let r : Option Span = span list (right_of k) in
    let split : parts s (coef_of l r) ≡ Some (l, r) = parts_joined l r s (span_over-proper list _ _ values)
    (span_over-proper list _ _ values) (sym (span_halves list k low) ∙ is) in
    no_parts (parts s (coef list k)) (l, r) split none

-- the children of a page that stands are below the total
child_below : (image : Image) (total : ℕ) (list : List (Option ℤ)) (level index page : ℕ) → 0 < total
    → IsTree image total list level index page → page < total
child_below image total list zero index page some is = omega (arith, some, is)
child_below image total list (suc level) index page some (inl none) = omega (arith, some, none.0)
child_below image total list (suc level) index page some (inr is) = is.1

sound_page : (image : Image) (total : ℕ) (list : List (Option ℤ)) (k : Key) (s : Span) (level index page : ℕ) → AreSlots list → 1 ≤ k.level
    → span list k ≡ Some s
    → IsPage image total list level index page → (page_level k.level ≡ suc level → page_index k ≡ index)
    → HasFault total k s (suc level) (image page) → ⊥
sound_page image total list k s level index page values low is here own (inl breaks) = breaks here.nodes.keeps
sound_page image total list k s level index page values low is here own (inr (inl other)) = other here.nodes.level_is
sound_page image total list k s level index page values low is here own (inr (inr (inl beyond))) =
    let child = child_below image total list level (128 * index + beyond.child) (child_at (image page) beyond.child)
    (omega (arith, here.below)) (here.children beyond.child beyond.within) in
    absurd (omega (arith, child, beyond.beyond))
sound_page image total list k s level index page values low is here own (inr (inr (inr bad))) =
    coef_splits list k s values low is (ap (parts s) (sym (here.nodes.nodes k low bad.0 (own bad.0))) ∙ bad.1)

-- nodes over pages that stand for a list are fit
pub standing_fit : (tells : Type 0) (pages : View) (tree : Tree) (trail : Trail) (list : List (Option ℤ)) → pages.fit → 0 < pages.size
    → StandsFor pages.image pages.size tree list
    → IsTrail tells pages tree trail → IsFit tells pages tree trail
standing_fit tells pages tree trail list fit some stands of_trail =
    let P : Option Span → Type 0 = λ o. IsProperIfAny o in
    record {
      sound = fit;
      few = omega (arith, stands.few, stands.slots);
      root = child_below pages.image pages.size list (page_levels (length list)) 0 tree.root some stands.pages;
      proper = subst P (sym stands.root_span) (span_over-proper list _ _ stands.values);
      trail_is = of_trail;
    }

-- no page of them is damaged
pub standing_sound : (image : Image) (total : ℕ) (tree : Tree) (list : List (Option ℤ)) (page : ℕ) → StandsFor image total tree list
    → IsDamaged image total tree page → ⊥
standing_sound image total tree list page stands bad =
    let k : Key = bad.key in
    let N : ℕ → Type 0 = λ n. IsNode (height n) k in
    let node : IsNode (height (length list)) k = subst N stands.slots bad.node in
    let is : span list k ≡ Some bad.span = seen_is image total tree list k bad.span stands node bad.seen in
    let S : Option Span → Type 0 = λ o. IsSome o in
    let some : IsSome (span list k) = subst S (sym is) refl in
    let levels : page_levels tree.slots ≡ page_levels (length list) = ap page_levels stands.slots in
    let level : ℕ = bad.level - 1 in
    let up : bad.level ≡ suc level = omega (arith, level_some k.level node.low, bad.above) in
    let at = found_on image total tree list k level stands node some (level_low k.level (suc level) (omega (arith, bad.above, up)))
    (omega (arith, bad.below, levels, up)) in
    let there : page_on_path image tree k bad.level ≡ Some at.page =
    ap (λ l. page_below image tree.root (page_levels tree.slots - l) (path_index k l)) up
    ∙ ap (λ n. page_below image tree.root (n - suc level) (path_index k (suc level))) levels
    ∙ at.there in
    let same : page ≡ at.page = same_Some page at.page (sym bad.there ∙ there) in
    let F : ℕ → Type 0 = λ l. HasFault total k bad.span l (image page) in
    let G : ℕ → Type 0 = λ p. HasFault total k bad.span (suc level) (image p) in
    sound_page image total list k bad.span level (path_index k (suc level)) at.page stands.values node.low is at.is
    (λ own. sym (own_page k) ∙ ap (path_index k) own)
    (subst G same (subst F up bad.fault))
