-- How far the heights of values lie from the canvas.
use Rattle.std.proofs.Common.{ℕ, ℤ, pos, negsuc, neg_ℤ, unsigned_abs, ◌+◌, ◌-◌, ◌*◌, ◌^◌, ◌≤◌, ◌≤ℤ◌, arith}
use Rattle.std.proofs.lemmas.Int.{ints, by_lt_z}
use Rattle.std.proofs.lemmas.Nat.{mul-le}
use Rattle.chart_grid.specs.Numbers.{distance}
use Rattle.chart_grid.proofs.Heights.{after, before}
use Rattle.whole_number.specs.Range.{IsValue}

size_bounds : (z : ℤ) → (z ≤ℤ pos (unsigned_abs z)) × (neg_ℤ (pos (unsigned_abs z)) ≤ℤ z)
size_bounds (pos n) = (omega (arith, ints), omega (arith, ints))
size_bounds (negsuc n) = (omega (arith, ints), omega (arith, ints))

-- two values are no farther apart than both sizes together
value_distance : (a b : ℤ) → distance a b ≤ unsigned_abs a + unsigned_abs b
value_distance a b =
    by_lt_z a b
    (λ up. omega (arith, ints, after a b (omega (arith, ints)), size_bounds a, size_bounds b))
    (λ down. omega (arith, ints, before a b down, size_bounds a, size_bounds b))

-- a height lies within what a segment can reach
pub height-fits : (v lo r : ℤ) (h : ℕ) → IsValue v → IsValue lo → h ≤ 4096 → unsigned_abs r ≤ distance lo v * (h - 1)
    → unsigned_abs r ≤ 10 ^ 22
height-fits v lo r h value low rows near =
    let apart : distance lo v ≤ 2 * 10 ^ 18 = omega (arith, value_distance lo v, value, low) in
    let steps : h - 1 ≤ 4095 = omega (arith, rows) in
    let product : distance lo v * (h - 1) ≤ 2 * 10 ^ 18 * 4095 = mul-le (distance lo v) (h - 1) (2 * 10 ^ 18) 4095 apart steps in
    omega (arith, near, product)
