-- The rules of a tree page's fields, in the order in which they are named.
use Rattle.std.specs.Prelude.{ℕ, ◌≡◌, ◌+◌, ◌*◌, ◌/◌, ◌%◌, ◌<◌, ◌≤◌, ◌⊎◌, ◌==◌, Bool, true, false, ◌&&◌, ◌||◌, if◌then◌else◌, List}
use Rattle.std.specs.Prelude.{slice_index}
use Rattle.whole_number.specs.Range.{IsTime}
use Rattle.block_disk.specs.Blocks.{block_size}
use Rattle.om3_coeff.specs.declared.coef.Coef.{Coef}
use Rattle.om3_coeff.specs.Coefs.{IsFlat}
use Rattle.node_page.specs.Fields.{flag_at, level_at, signed_at, coef_at, child_at}
use Rattle.node_page.specs.declared.errors.BadPage.{BadPage}
use Rattle.node_page.specs.declared.errors.BadPage.TheVariants.{Kind, Level, Reserved, Flags, Differences, Children}

abbrev pub IsKind : List ℕ → Type 0
IsKind page = slice_index page 0 ≡ 2

abbrev pub IsLevel : List ℕ → Type 0
IsLevel page = (1 ≤ level_at page) × (level_at page ≤ 5)

-- a byte of no field
abbrev pub IsSpare : ℕ → Type 0
IsSpare k = ((2 ≤ k) × (k < 8)) ⊎ ((2584 ≤ k) × (k < block_size))

abbrev pub IsReserved : List ℕ → Type 0
IsReserved page = (k : ℕ) → IsSpare k → slice_index page k ≡ 0

-- a half of the node has a stored value
abbrev pub has_value : Coef → Bool
has_value c = c.left || c.right

-- The nodes below node n are 2n + 1 and 2n + 2. Each has a flag exactly where its parent's flag for it
-- is set, and node 0 has one. The two flags behind those of the nodes aren't set.
pub record AreFlags (page : List ℕ) : Type 0 where
  pub top : has_value (coef_at page 0) ≡ true
  pub left : (n : ℕ) → n < 63 → has_value (coef_at page (2 * n + 1)) ≡ (coef_at page n).left
  pub right : (n : ℕ) → n < 63 → has_value (coef_at page (2 * n + 2)) ≡ (coef_at page n).right
  pub spare_even : flag_at page 254 ≡ false
  pub spare_odd : flag_at page 255 ≡ false

-- the same of one node and those below it
abbrev pub IsAgreed : List ℕ → ℕ → Type 0
IsAgreed page n = (has_value (coef_at page (2 * n + 1)) ≡ (coef_at page n).left)
    × (has_value (coef_at page (2 * n + 2)) ≡ (coef_at page n).right)

-- differences are at most 2 * 10^18 in size, and 0 beside fewer than two flags
pub record HasDifferences (c : Coef) : Type 0 where
  pub least : IsTime c.dmin
  pub greatest : IsTime c.dmax
  pub flat : (c.left && c.right) ≡ false → IsFlat c

-- the same by places: none of eight differences is above that
abbrev pub AreEightSmall : List ℕ → ℕ → Type 0
AreEightSmall page first = (place : ℕ) → first ≤ place → place < first + 8 → IsTime (signed_at page (40 + 8 * place))

-- and a node has two flags or no difference
abbrev pub IsFullOrFlat : List ℕ → ℕ → Type 0
IsFullOrFlat page n = ((coef_at page n).left && (coef_at page n).right) ≡ false → IsFlat (coef_at page n)

abbrev pub AreDifferences : List ℕ → Type 0
AreDifferences page = (n : ℕ) → n < 127 → HasDifferences (coef_at page n)

-- the same of the four nodes whose flags stand in one byte
abbrev pub AreFourInRange : List ℕ → ℕ → Type 0
AreFourInRange page byte = (n : ℕ) → 4 * byte ≤ n → n < 4 * byte + 4 → n < 127 → HasDifferences (coef_at page n)

-- whether the range of a child has a stored value: the children lie below the nodes 63 to 126, on the
-- left of each the even one
abbrev pub side_of : Coef → ℕ → Bool
side_of c child = if child % 2 == 0 then c.left else c.right

abbrev pub has_child : List ℕ → ℕ → Bool
has_child page child = side_of (coef_at page (63 + child / 2)) child

-- on page level 1 there is no child, above it one exactly where its range has a stored value
pub record IsChild (page : List ℕ) (child : ℕ) : Type 0 where
  pub lowest : level_at page ≡ 1 → child_at page child ≡ 0
  pub empty : has_child page child ≡ false → child_at page child ≡ 0
  pub there : 1 < level_at page → has_child page child ≡ true → child_at page child ≡ 0 → ⊥

abbrev pub AreChildren : List ℕ → Type 0
AreChildren page = (child : ℕ) → child < 128 → IsChild page child

pub record KeepsLayout (page : List ℕ) : Type 0 where
  pub kind : IsKind page
  pub level : IsLevel page
  pub reserved : IsReserved page
  pub flags : AreFlags page
  pub differences : AreDifferences page
  pub children : AreChildren page

-- the field breaks its rule, and those before it keep theirs
abbrev pub IsFirstBad : BadPage → List ℕ → Type 0
IsFirstBad Kind page = IsKind page → ⊥
IsFirstBad Level page = IsKind page × (IsLevel page → ⊥)
IsFirstBad Reserved page = IsKind page × IsLevel page × (IsReserved page → ⊥)
IsFirstBad Flags page = IsKind page × IsLevel page × IsReserved page × (AreFlags page → ⊥)
IsFirstBad Differences page = IsKind page × IsLevel page × IsReserved page × AreFlags page × (AreDifferences page → ⊥)
IsFirstBad Children page =
    IsKind page × IsLevel page × IsReserved page × AreFlags page × AreDifferences page × (AreChildren page → ⊥)
