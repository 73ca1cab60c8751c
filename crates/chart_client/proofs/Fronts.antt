-- The searches from the two sides of a column, over the whole tree, find the first key that fails in it.
use Rattle.std.proofs.Common.{ℕ, ℤ, ◌≡◌, ◌+◌, ◌^◌, ◌<◌, ◌≤◌, ◌↔◌, sym, ◌∙◌, ap, subst, arith}
use Rattle.std.specs.Prelude.{Option, None}
use Rattle.om3_coeff.specs.declared.key.Key.{Key}
use Rattle.om3_coeff.specs.Keys.{top_key}
use Rattle.om3_coeff.proofs.KeyLemmas.{height_covers}
use Rattle.om3_coeff.proofs.WalkLemmas.{top_first, top_end}
use Rattle.chart_grid.specs.declared.axis.Axis.{Axis}
use Rattle.chart_grid.specs.declared.grid.Grid.{Grid}
use Rattle.chart_grid.specs.Slots.{IsInColumn}
use Rattle.view_keys.specs.Ranges.{IsInRange}
use Rattle.view_keys.specs.Flat.{IsFlat}
use Rattle.view_keys.specs.Wanted.{Seen}
use Rattle.needed_nodes.proofs.EndLaws.{FlatBelow}
use Rattle.chart_client.specs.Searching.{IsBetween, IsAmong, IsFirstOf, IsEarlier, IsWantedIn, IsWantedBelow, Finds, failure_of}
use Rattle.chart_client.specs.declared.failure.Failure.{Failure}
use Rattle.chart_client.specs.declared.search.Side.{Side}
use Rattle.chart_client.specs.declared.search.Side.TheVariants.{First, Last}
use Rattle.chart_client.specs.declared.search.End.{End}
use Rattle.chart_client.proofs.Columns.{IsColumn, finds_same}
use Rattle.chart_client.proofs.Firsts.{column_first, empty_first, more_first}

-- the column's slots are those from a on and below b
abbrev pub HasSlots : Axis → Grid → ℕ → ℕ → ℕ → Type 0
HasSlots axis grid c a b = (i : ℕ) → IsInColumn axis grid c i ↔ ((a ≤ i) × (i < b))

column_of : (axis : Axis) (grid : Grid) (c a b : ℕ) → HasSlots axis grid c a b → IsColumn axis grid c a b
column_of axis grid c a b slots = record { into = λ i here. (slots i).0 here; out = λ i from to. (slots i).1 (from, to) }

in_top : (n i : ℕ) → n ≤ 2 ^ 35 → i < n → IsInRange (top_key n) i
in_top n i few less = record {
  from = omega (arith, top_first n);
  to = omega (arith, top_end n, height_covers n few, less);
}

-- over the whole tree a search among the slots from a on and below b is one among the column's slots
found_in : (seen : Seen) (axis : Axis) (grid : Grid) (lo hi : ℤ) (c a b : ℕ) (side : Side) (e : End) → axis.slots ≤ 2 ^ 35
    → HasSlots axis grid c a b
    → Finds seen axis.slots (IsFlat lo hi grid.h) (IsBetween a b) (IsAmong (top_key axis.slots) a b) side e
    → Finds seen axis.slots (IsFlat lo hi grid.h) (IsInColumn axis grid c) (IsInColumn axis grid c) side e
found_in seen axis grid lo hi c a b side e few slots found =
    finds_same seen axis.slots (IsFlat lo hi grid.h) (IsBetween a b) (IsInColumn axis grid c) (IsAmong (top_key axis.slots) a b)
    (IsInColumn axis grid c)
    (λ i at. (slots i).1 at) (λ i here. (slots i).0 here)
    (λ i among. (slots i).1 (among.from, among.to))
    (λ i here. record { in_range = in_top axis.slots i few here.slot; from = ((slots i).0 here).0; to = ((slots i).0 here).1 })
    side e found

-- both searches begin at the top
pub column_searched : FlatBelow → (seen : Seen) (axis : Axis) (grid : Grid) (lo hi : ℤ) (c a b n : ℕ) (top : Key) (near far : End)
    (x y r : Option Failure) → axis.slots ≡ n → n ≤ 2 ^ 35 → top ≡ top_key n
    → HasSlots axis grid c a b → Finds seen n (IsFlat lo hi grid.h) (IsBetween a b) (IsAmong top a b) First near
    → Finds seen n (IsFlat lo hi grid.h) (IsBetween a b) (IsAmong top a b) Last far
    → x ≡ failure_of near → y ≡ failure_of far → IsEarlier x y r → IsFirstOf seen n (IsWantedIn seen axis grid lo hi c) r
column_searched below_flat seen axis grid lo hi c a b n top near far x y r is few at slots first last xs ys earlier =
    let P : Side → End → ℕ → Key → Type 0 = λ side e m k. Finds seen m (IsFlat lo hi grid.h) (IsBetween a b) (IsAmong k a b) side e in
    let low : axis.slots ≤ 2 ^ 35 = omega (arith, is, few) in
    let here : top ≡ top_key axis.slots = at ∙ ap (λ m. top_key m) (sym is) in
    let near_found : Finds seen axis.slots (IsFlat lo hi grid.h) (IsBetween a b) (IsAmong (top_key axis.slots) a b) First near =
    subst (λ k. P First near axis.slots k) here (subst (λ m. P First near m top) (sym is) first) in
    let far_found : Finds seen axis.slots (IsFlat lo hi grid.h) (IsBetween a b) (IsAmong (top_key axis.slots) a b) Last far =
    subst (λ k. P Last far axis.slots k) here (subst (λ m. P Last far m top) (sym is) last) in
    let first_of : IsEarlier (failure_of near) (failure_of far) r = subst (λ o. IsEarlier o (failure_of far) r) xs
    (subst (λ o. IsEarlier x o r) ys earlier) in
    subst (λ m. IsFirstOf seen m (IsWantedIn seen axis grid lo hi c) r) is
    (column_first below_flat seen axis grid lo hi c a b near far r (column_of axis grid c a b slots)
    (found_in seen axis grid lo hi c a b First near low slots near_found)
    (found_in seen axis grid lo hi c a b Last far low slots far_found) first_of)

-- a column without slots
pub column_empty : (seen : Seen) (axis : Axis) (grid : Grid) (lo hi : ℤ) (c a b n : ℕ) → axis.slots ≡ n → HasSlots axis grid c a b → b ≤ a
    → IsFirstOf seen n (IsWantedIn seen axis grid lo hi c) None
column_empty seen axis grid lo hi c a b n is slots none =
    subst (λ m. IsFirstOf seen m (IsWantedIn seen axis grid lo hi c) None) is
    (empty_first seen axis grid lo hi c a b (column_of axis grid c a b slots) none)

-- one column more
pub column_more : (seen : Seen) (axis : Axis) (grid : Grid) (lo hi : ℤ) (c n : ℕ) (x y r : Option Failure) → axis.slots ≡ n
    → IsFirstOf seen axis.slots (IsWantedBelow seen axis grid lo hi c) x
    → IsFirstOf seen n (IsWantedIn seen axis grid lo hi c) y → IsEarlier x y r
    → IsFirstOf seen axis.slots (IsWantedBelow seen axis grid lo hi (c + 1)) r
column_more seen axis grid lo hi c n x y r is before here earlier =
    more_first seen axis grid lo hi c x y r before (subst (λ m. IsFirstOf seen m (IsWantedIn seen axis grid lo hi c) y) (sym is) here)
    earlier
