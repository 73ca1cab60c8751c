-- The first wanted key whose coefficient a client lacks or can't use.
use Rattle.std.specs.Prelude.{ℕ, ℤ, ◌≡◌, ◌⊎◌, None, Some}
use Rattle.om3_coeff.specs.declared.key.Key.{Key}
use Rattle.om3_coeff.specs.declared.span.Span.{Span}
use Rattle.om3_coeff.specs.declared.coef.Coef.{Coef}
use Rattle.om3_coeff.specs.Coefs.{parts}
use Rattle.om3_coeff.specs.Keys.{height}
use Rattle.om3_coeff.specs.Known.{known}
use Rattle.chart_grid.specs.declared.axis.Axis.{Axis}
use Rattle.chart_grid.specs.declared.grid.Grid.{Grid}
use Rattle.view_keys.specs.Wanted.{Seen, IsWanted}
use Rattle.view_keys.specs.Listed.{ComesBefore}

-- no coefficient of the key is told
abbrev pub IsMissing : Seen → Key → Type 0
IsMissing seen k = seen.told k ≡ None

-- the key's coefficient is told, and doesn't split the key's span
pub record IsMisfit (seen : Seen) (slots : ℕ) (k : Key) : Type 0 where
  pub span : Span
  pub known_so : known seen.root seen.told (height slots) k ≡ Some (Some span)
  pub coef : Coef
  pub told : seen.told k ≡ Some coef
  pub splits_not : parts span coef ≡ None

-- the key's coefficient can't be used
abbrev pub Fails : Seen → ℕ → Key → Type 0
Fails seen slots k = IsMissing seen k ⊎ IsMisfit seen slots k

-- over the range lo to hi the key is the first wanted one that fails, from the top level down and then
-- from left to right
pub record IsFirstFailing (seen : Seen) (axis : Axis) (grid : Grid) (lo hi : ℤ) (k : Key) : Type 0 where
  pub wanted : IsWanted seen axis grid lo hi k
  pub fails : Fails seen axis.slots k
  pub first : (other : Key) → IsWanted seen axis grid lo hi other → Fails seen axis.slots other → ComesBefore other k → ⊥

-- no wanted key fails
abbrev pub NoneFails : Seen → Axis → Grid → ℤ → ℤ → Type 0
NoneFails seen axis grid lo hi = (k : Key) → IsWanted seen axis grid lo hi k → Fails seen axis.slots k → ⊥
