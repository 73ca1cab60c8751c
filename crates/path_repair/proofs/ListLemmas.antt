-- Lists that hold the same in a range.
use Rattle.std.proofs.Common.{◌≡◌, ℕ, ℤ, IsSome, zero, suc, ◌+◌, ◌-◌, ◌*◌, ◌/◌, ◌^◌, ◌<◌, ◌≤◌, List, length, slice_get, Option, None, Some}
use Rattle.std.proofs.Common.{refl, sym, ap, subst, arith, inl, inr, ◌∙◌}
use Rattle.std.proofs.lemmas.Bool.{cases_lt}
use Rattle.std.proofs.lemmas.Nat.{pow-add}
use Rattle.std.proofs.lemmas.Option.{slice_get_past, slice_get_within}
use Rattle.block_disk.specs.View.{Image}
use Rattle.om3_coeff.specs.declared.key.Key.{Key}
use Rattle.om3_coeff.specs.declared.span.Span.{Span}
use Rattle.om3_coeff.specs.Keys.{first_slot, end_slot, left_of, right_of, IsAtOrAbove}
use Rattle.om3_coeff.specs.Spans.{hull, span_of_slot, span_over, span}
use Rattle.om3_coeff.specs.Coefs.{coef_of, coef}
use Rattle.om3_coeff.proofs.SpanLemmas.{span_over-both, span_over-none, span_at, get_some}
use Rattle.om3_coeff.proofs.ExtremeLemmas.{none-clear, clear-none}
use Rattle.om3_coeff.proofs.KeyLemmas.{left_first, right_end, left_some, right_some, first_above, end_above}
use Rattle.node_page.specs.Fields.{child_at}
use Rattle.node_page.specs.Places.{page_level, page_index, below_top}
use Rattle.tree_walk.specs.Trees.{top_of_page, IsTree, HoldsNodes}
use Rattle.path_repair.specs.Changes.{value_of, slot_at, AreSame}

pub same_within : (list list' : List (Option ℤ)) (a b c d : ℕ) → AreSame list list' a b → a ≤ c → d ≤ b → AreSame list list' c d
same_within list list' a b c d same low high i from to = same i (omega (arith, low, from)) (omega (arith, to, high))

-- the span of one slot
pub slot_span : (list : List (Option ℤ)) (i : ℕ) → span_over list i (i + 1) ≡ span_of_slot (slot_at list i)
unfolding slot_at
slot_span list i = elim (cases_lt i (length list)) [
  | inl within ↦
      let found = get_some list i within in
      span_at list i found.0 found.1 ∙ ap (λ x. span_of_slot (value_of x)) (sym found.1)
  | inr past ↦
      let none : slice_get list i ≡ None = slice_get_past list i past in
      clear-none list i (i + 1) (λ j v low high holds. omega (arith, low, past, slice_get_within list j (Some v) holds))
      ∙ ap (λ x. span_of_slot (value_of x)) (sym none)
]

pub span_same : (n : ℕ) (list list' : List (Option ℤ)) (a : ℕ) → AreSame list list' a (a + n)
    → span_over list' a (a + n) ≡ span_over list a (a + n)
span_same zero list list' a same = span_over-none list' a (a + 0) (omega arith) ∙ sym (span_over-none list a (a + 0) (omega arith))
span_same (suc n) list list' a same =
    let P : List (Option ℤ) → ℕ → Type 0 = λ one b. span_over one a b ≡ hull (span_over one a (a + n))
    (span_over one (a + n) (a + n + 1)) in
    let next : a + n + 1 ≡ a + suc n = omega arith in
    let both : (one : List (Option ℤ)) → span_over one a (a + suc n) ≡ hull (span_over one a (a + n)) (span_of_slot (slot_at one (a + n)))
    = λ one. subst (P one) next (span_over-both one a (a + n) (a + n + 1) (omega arith) (omega arith))
    ∙ ap (λ s. hull (span_over one a (a + n)) s) (slot_span one (a + n)) in
    both list'
    ∙ ap (λ s. hull s (span_of_slot (slot_at list' (a + n))))
    (span_same n list list' a (same_within list list' a (a + suc n) a (a + n) same (omega arith) (omega arith)))
    ∙ ap (λ x. hull (span_over list a (a + n)) (span_of_slot x)) (same (a + n) (omega arith) (omega arith))
    ∙ sym (both list)

pub over_same : (list list' : List (Option ℤ)) (a b : ℕ) → AreSame list list' a b → span_over list' a b ≡ span_over list a b
over_same list list' a b same = elim (cases_lt a b) [
  | inl some ↦
      let P : ℕ → Type 0 = λ end. span_over list' a end ≡ span_over list a end in
      let whole : a + (b - a) ≡ b = omega (arith, some) in
      subst P whole (span_same (b - a) list list' a (same_within list list' a b a (a + (b - a)) same (omega arith) (omega (arith, whole))))
  | inr none ↦ span_over-none list' a b none ∙ sym (span_over-none list a b none)
]

pub coef_same : (list list' : List (Option ℤ)) (k : Key) → 1 ≤ k.level → AreSame list list' (first_slot k) (end_slot k)
    → coef list' k ≡ coef list k
coef_same list list' k low same =
    let left = over_same list list' (first_slot (left_of k)) (end_slot (left_of k))
    (same_within list list' (first_slot k) (end_slot k) (first_slot (left_of k)) (end_slot (left_of k)) same
    (omega (arith, left_first k low)) (omega (arith, right_end k low, right_some k low))) in
    let right = over_same list list' (first_slot (right_of k)) (end_slot (right_of k))
    (same_within list list' (first_slot k) (end_slot k) (first_slot (right_of k)) (end_slot (right_of k)) same
    (omega (arith, left_some k low)) (omega (arith, right_end k low))) in
    ap (λ s. coef_of s (span list' (right_of k))) left ∙ ap (λ s. coef_of (span list (left_of k)) s) right

-- a page level has seven levels
pub width : (level : ℕ) → 2 ^ (7 * suc level) ≡ 128 * 2 ^ (7 * level)
width level =
    let sum : 7 * suc level ≡ 7 + 7 * level = omega arith in
    let seven : 2 ^ 7 ≡ 128 = refl in
    ap (λ n. 2 ^ n) sum ∙ pow-add 2 7 (7 * level) ∙ ap (λ n. n * 2 ^ (7 * level)) seven

child_from : (q c p w : ℕ) → w ≡ 128 * p → q * w ≤ (128 * q + c) * p
child_from q c p w e = omega (arith, ap (λ n. q * n) e)

child_to : (q c p w : ℕ) → w ≡ 128 * p → c < 128 → (128 * q + c + 1) * p ≤ (q + 1) * w
child_to q c p w e within =
    let up : 1 ≤ 128 - c = omega (arith, within) in
    let sum : 128 * q + c + 1 + (127 - c) ≡ 128 * (q + 1) = omega (arith, within) in
    omega (arith, ap (λ n. (q + 1) * n) e, ap (λ n. n * p) sum)

-- a child's range is within the page's
pub child_first : (level index child : ℕ) → first_slot (top_of_page (suc level) index) ≤ first_slot
    (top_of_page level (128 * index + child))
child_first level index child = child_from index child (2 ^ (7 * level)) (2 ^ (7 * suc level)) (width level)

pub child_end : (level index child : ℕ) → child < 128
    → end_slot (top_of_page level (128 * index + child)) ≤ end_slot (top_of_page (suc level) index)
child_end level index child within = child_to index child (2 ^ (7 * level)) (2 ^ (7 * suc level)) (width level) within

-- the range of a node's key is within the page's
key_levels : (level page : ℕ) → page_level level ≡ page → below_top level + level ≡ 7 * page
unfolding page_level below_top
key_levels level page same = omega (arith, same)

key_within : (k : Key) (level index : ℕ) → page_level k.level ≡ level → page_index k ≡ index → IsAtOrAbove (top_of_page level index) k
unfolding page_index
key_within k level index level_is index_is =
    let levels : below_top k.level + k.level ≡ 7 * level = key_levels k.level level level_is in
    let depth : 7 * level - k.level ≡ below_top k.level = omega (arith, levels) in
    record {
      higher = omega (arith, levels);
      holds = ap (λ d. k.index / 2 ^ d) depth ∙ index_is;
    }

pub key_first : (k : Key) (level index : ℕ) → page_level k.level ≡ level → page_index k ≡ index
    → first_slot (top_of_page level index) ≤ first_slot k
key_first k level index level_is index_is = first_above (top_of_page level index) k (key_within k level index level_is index_is)

pub key_end : (k : Key) (level index : ℕ) → page_level k.level ≡ level → page_index k ≡ index
    → end_slot k ≤ end_slot (top_of_page level index)
key_end k level index level_is index_is = end_above (top_of_page level index) k (key_within k level index level_is index_is)

-- a tree stands for a list that holds the same in its range
pub nodes_same : (list list' : List (Option ℤ)) (level index : ℕ) (page : List ℕ)
    → AreSame list list' (first_slot (top_of_page level index)) (end_slot (top_of_page level index))
    → HoldsNodes list level index page → HoldsNodes list' level index page
nodes_same list list' level index page same nodes = record {
  keeps = nodes.keeps;
  level_is = nodes.level_is;
  nodes = λ k some at here. nodes.nodes k some at here
      ∙ sym (coef_same list list' k some (same_within list list' (first_slot (top_of_page level index)) (end_slot (top_of_page level index))
      (first_slot k) (end_slot k) same (key_first k level index at here) (key_end k level index at here)));
}

pub tree_same : (image : Image) (total : ℕ) (list list' : List (Option ℤ)) (level index page : ℕ)
    → AreSame list list' (first_slot (top_of_page level index)) (end_slot (top_of_page level index))
    → IsTree image total list level index page → IsTree image total list' level index page
tree_same image total list list' zero index page same tree = tree
tree_same image total list list' (suc level) index page same (inl (none, empty)) =
    inl (none, over_same list list' (first_slot (top_of_page (suc level) index)) (end_slot (top_of_page (suc level) index)) same ∙ empty)
tree_same image total list list' (suc level) index page same (inr (some, low, stored, nodes, children)) =
    let S : Option Span → Type 0 = λ s. IsSome s in
    inr (
      some,
      low,
      subst S (sym (over_same list list' (first_slot (top_of_page (suc level) index)) (end_slot (top_of_page (suc level) index)) same))
          stored,
      nodes_same list list' (suc level) index (image page) same nodes,
      λ child within. tree_same image total list list' level (128 * index + child) (child_at (image page) child)
          (same_within list list' (first_slot (top_of_page (suc level) index)) (end_slot (top_of_page (suc level) index))
          (first_slot (top_of_page level (128 * index + child))) (end_slot (top_of_page level (128 * index + child))) same
          (child_first level index child) (child_end level index child within)) (children child within),
    )

-- nothing is stored in a part of a range where nothing is
pub part_none : (list : List (Option ℤ)) (a b c d : ℕ) → a ≤ c → d ≤ b → span_over list a b ≡ None → span_over list c d ≡ None
part_none list a b c d low high none =
    clear-none list c d (λ i v from to holds. none-clear list a b none i v (omega (arith, low, from)) (omega (arith, to, high)) holds)
