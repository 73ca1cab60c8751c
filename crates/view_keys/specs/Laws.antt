-- Laws of needed and wanted keys.
use Rattle.std.specs.Prelude.{◌≡◌, ℕ, ℤ, ◌+◌, ◌*◌, ◌^◌, ◌≤◌, ◌↔◌, List, length, All, Option, Some}
use Rattle.chart_grid.specs.declared.axis.Axis.{Axis}
use Rattle.chart_grid.specs.declared.grid.Grid.{Grid}
use Rattle.om3_coeff.specs.declared.key.Key.{Key}
use Rattle.om3_coeff.specs.declared.coef.Coef.{Coef}
use Rattle.om3_coeff.specs.declared.span.Span.{Span}
use Rattle.om3_coeff.specs.Keys.{height, top_key, IsAtOrAbove}
use Rattle.om3_coeff.specs.Spans.{AreSlots, span}
use Rattle.om3_coeff.specs.Coefs.{coef}
use Rattle.om3_coeff.specs.Known.{known}
use Rattle.view_keys.specs.Flat.{IsFlat}
use Rattle.view_keys.specs.Needed.{IsNeeded}
use Rattle.view_keys.specs.Wanted.{Seen, IsWanted}
use Rattle.view_keys.specs.Listed.{AreInOrder}

-- Where the keys both needed and wanted are told, the wanted keys are the needed ones.
abbrev pub WantedKeysAreNeeded : Type 0
WantedKeysAreNeeded =
    (list : List (Option ℤ)) (axis : Axis) (grid : Grid) (lo hi : ℤ) (seen : Seen)
    → AreSlots list → length list ≤ 2 ^ 35 → axis.slots ≡ length list → seen.root ≡ span list (top_key (length list))
    → ((k : Key) → IsNeeded list axis grid lo hi k → IsWanted seen axis grid lo hi k → seen.told k ≡ Some (coef list k)) → (k : Key)
    → IsWanted seen axis grid lo hi k ↔ IsNeeded list axis grid lo hi k

-- What is seen of each wanted key is then the list's span.
abbrev pub WantedKeysShowTheirSpans : Type 0
WantedKeysShowTheirSpans =
    (list : List (Option ℤ)) (axis : Axis) (grid : Grid) (lo hi : ℤ) (seen : Seen)
    → AreSlots list → length list ≤ 2 ^ 35 → axis.slots ≡ length list → seen.root ≡ span list (top_key (length list))
    → ((k : Key) → IsNeeded list axis grid lo hi k → IsWanted seen axis grid lo hi k → seen.told k ≡ Some (coef list k)) → (k : Key)
    → IsWanted seen axis grid lo hi k → known seen.root seen.told (height axis.slots) k ≡ Some (span list k)

-- A list of needed keys has at most (3 w + 1) H of them.
abbrev pub NeededKeysAreFew : Type 0
NeededKeysAreFew =
    (list : List (Option ℤ)) (axis : Axis) (grid : Grid) (lo hi : ℤ) (entries : List (Key × Coef))
    → AreInOrder entries → All (λ e. IsNeeded list axis grid lo hi e.0) entries → length entries ≤ (3 * grid.w + 1) * height (length list)

-- So has a list of wanted ones.
abbrev pub WantedKeysAreFew : Type 0
WantedKeysAreFew =
    (seen : Seen) (axis : Axis) (grid : Grid) (lo hi : ℤ) (entries : List (Key × Coef))
    → AreInOrder entries → All (λ e. IsWanted seen axis grid lo hi e.0) entries → length entries ≤ (3 * grid.w + 1) * height axis.slots

-- What is seen below a flat key is flat.
abbrev pub FlatKeysHoldFlatKeys : Type 0
FlatKeysHoldFlatKeys =
    (root : Option Span) (told : Key → Option Coef) (top : ℕ) (w k : Key) (lo hi : ℤ) (h : ℕ) (s t : Span)
    → w.level ≤ top → IsAtOrAbove w k → known root told top w ≡ Some (Some t) → known root told top k ≡ Some (Some s) → IsFlat lo hi h t
    → IsFlat lo hi h s
