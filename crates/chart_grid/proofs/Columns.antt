use Rattle.std.proofs.Common.{ℕ, ℤ, pos, ◌≡◌, ◌+◌, ◌*◌, ◌/◌, ◌<◌, ◌≤◌, ◌-ℤ◌, ◌*ℤ◌, ◌≤ℤ◌, ◌<ℤ◌, arith, ap, sym, ◌∙◌, subst, ap₂, le_refl}
use Rattle.std.proofs.Common.{inl, inr, div-lt_iff_lt-mul}
use Rattle.std.proofs.lemmas.Int.{ints}
use Rattle.std.proofs.lemmas.Nat.{mul-le, div_below}
use Rattle.std.proofs.Math.Nat.{mul_comm}
use Rattle.chart_grid.specs.Numbers.{distance, IsFloor}
use Rattle.std.proofs.Math.IntN.{pos-*ℤ-pos}
use Rattle.chart_grid.proofs.Floors.{floor_div-is, div_ceil-lt, lt-div_ceil}
use Rattle.std.specs.Int.{div_ceil}
use Rattle.std.proofs.lemmas.Bool.{cases_lt}
use Rattle.chart_grid.proofs.Heights.{after, distance-some}

-- a time of a window is less far from its start than its end is
pub distance-below : (a b c : ℤ) → a ≤ℤ b → b <ℤ c → distance a b < distance a c
distance-below a b c h k = omega (arith, ints, after a b h, after a c (omega (arith, ints)))

-- a part of n whole ones, out of a number of steps of which d are done
pub part-below : (d w n : ℕ) → d < n → 0 < w → d * w / n < w
part-below d w n less some =
    let product : (d + 1) * w ≤ n * w = mul-le (d + 1) w n w (omega arith) (omega arith) in
    div_below (d * w) n w (omega arith) (omega (arith, mul_comm n w))

-- the column of a time is the floor of its share of the columns
pub column-is : (a b c : ℤ) (w : ℕ) → a ≤ℤ b → b <ℤ c → IsFloor ((b -ℤ a) *ℤ pos w) (distance a c) (pos (distance a b * w / distance a c))
column-is a b c w h k =
    let product : (b -ℤ a) *ℤ pos w ≡ pos (distance a b * w) =
    ap (λ z. z *ℤ pos w) (after a b h) ∙ pos-*ℤ-pos (distance a b) w in
    let Q : ℤ → Type 0 = λ z. IsFloor z (distance a c) (pos (distance a b * w / distance a c)) in
    subst Q (sym product) (floor_div-is (pos (distance a b * w)) (distance a c) (distance-some a c (omega (arith, ints))))

pub column-is_at : (a b c : ℤ) (w d s r : ℕ) → a ≤ℤ b → b <ℤ c → d ≡ distance a b → s ≡ distance a c → r ≡ d * w / s
    → IsFloor ((b -ℤ a) *ℤ pos w) (distance a c) (pos r)
column-is_at a b c w d s r h k de se re =
    let P : ℕ → Type 0 = λ n. IsFloor ((b -ℤ a) *ℤ pos w) (distance a c) (pos n) in
    subst P (sym (re ∙ ap₂ (λ m n. m * w / n) de se)) (column-is a b c w h k)

-- the border of a column is within the window
pub steps-within : (c w n : ℕ) → c ≤ w → 0 < w → div_ceil (c * n) w ≤ n
steps-within c w n within some =
    elim (cases_lt n (div_ceil (c * n) w)) [
      | inl past ↦ absurd (omega (arith, div_ceil-lt (c * n) n w some past, mul-le c n w n within (le_refl n), mul_comm n w))
      | inr le ↦ le
    ]

-- a moment is before the border of column c where its column is below c
pub before_border : (d n w c : ℕ) → 0 < n → 0 < w → d < div_ceil (c * n) w → d * w / n < c
before_border d n w c some wide h = div_below (d * w) n c some (div_ceil-lt (c * n) d w wide h)

pub below_column : (d n w c : ℕ) → 0 < n → 0 < w → d * w / n < c → d < div_ceil (c * n) w
below_column d n w c some wide h = lt-div_ceil (c * n) d w wide ((div-lt_iff_lt-mul some).0 h)

pub ruleset part_rules = (part-below, distance-below, steps-within)
