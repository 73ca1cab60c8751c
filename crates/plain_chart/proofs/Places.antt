-- Where samples lie on the canvas: columns follow times, and heights have a bound.
use Rattle.std.proofs.Common.{◌≡◌, ℕ, ℤ, pos, zero, suc, ◌-◌, ◌*◌, ◌/◌, ◌^◌, ◌≤◌, ◌≤ℤ◌, ◌<ℤ◌, sym, ap, subst, arith}
use Rattle.std.proofs.lemmas.Int.{ints, by_lt_z}
use Rattle.std.proofs.lemmas.Nat.{mul-le}
use Rattle.std.proofs.Math.Nat.{div-le_self}
use Rattle.std.specs.Prelude.{unsigned_abs, neg_ℤ}
use Rattle.std.specs.Int.{div_ceil}
use Rattle.chart_grid.specs.declared.grid.Grid.{Grid}
use Rattle.chart_grid.specs.Numbers.{distance}
use Rattle.chart_grid.specs.Projection.{column, height, InWindow}
use Rattle.chart_grid.proofs.Floors.{div-rising}
use Rattle.chart_grid.proofs.Heights.{after, height-above, height-below, height-flat, distance-some}
use Rattle.std.specs.Prelude.{Option, Some}
use Rattle.std.specs.Option.{ForSome}
use Rattle.line_raster.specs.declared.position.Point.{Point}
use Rattle.plain_chart.specs.declared.sample.Sample.{Sample}
use Rattle.plain_chart.specs.declared.value_range.ValueRange.{ValueRange}
use Rattle.whole_number.specs.Range.{IsValue}
use Rattle.plain_chart.specs.Chart.{place, IsDrawable, IsBefore}

-- a later time has no lesser column
pub column-rising : (g : Grid) (s t : ℤ) → InWindow g s → s ≤ℤ t → column g s ≤ column g t
column-rising g s t window order =
    let first : g.t0 ≤ℤ s = window.from in
    let near = after g.t0 s first in
    let far = after g.t0 t (omega (arith, ints)) in
    let less : distance g.t0 s ≤ distance g.t0 t = omega (arith, ints, near, far) in
    let product : distance g.t0 s * g.w ≤ distance g.t0 t * g.w = mul-le (distance g.t0 s) g.w (distance g.t0 t) g.w less (omega arith) in
    div-rising (distance g.t0 s * g.w) (distance g.t0 t * g.w) (distance g.t0 g.t1) (distance-some g.t0 g.t1 g.window.rising) product

far_apart : (v lo : ℤ) → IsValue v → IsValue lo → distance lo v ≤ 2 * 10 ^ 18
far_apart v lo value low = grind (arith, ints)

most : (v lo : ℤ) (h : ℕ) → IsValue v → IsValue lo → h ≤ 4096 → distance lo v * (h - 1) ≤ 2 * 10 ^ 18 * 4095
most v lo h value low rows = mul-le (distance lo v) (h - 1) (2 * 10 ^ 18) 4095 (far_apart v lo value low) (omega (arith, rows))

size_up : (z : ℤ) (n : ℕ) → z ≡ pos n → n ≤ 10 ^ 22 → unsigned_abs z ≤ 10 ^ 22
size_up z n is small = omega (arith, ap unsigned_abs is)

size_down : (z : ℤ) (n : ℕ) → z ≡ neg_ℤ (pos n) → n ≤ 10 ^ 22 → unsigned_abs z ≤ 10 ^ 22
size_down z zero is small = omega (arith, ap unsigned_abs is)
size_down z (suc n) is small = omega (arith, ap unsigned_abs is)

size_wide : (v lo hi : ℤ) (h : ℕ) → IsValue v → IsValue lo → lo <ℤ hi → h ≤ 4096 → unsigned_abs (height v lo hi h) ≤ 10 ^ 22
size_wide v lo hi h value low wide rows =
    let bound : distance lo v * (h - 1) ≤ 2 * 10 ^ 18 * 4095 = most v lo h value low rows in
    let part : distance lo v * (h - 1) / distance lo hi ≤ distance lo v * (h - 1) = div-le_self (distance lo v * (h - 1))
    (distance lo hi) in
    by_lt_z v lo
    (λ below. size_down (height v lo hi h) (div_ceil (distance lo v * (h - 1)) (distance lo hi))
    (height-below v lo hi h wide (omega (arith, ints))) (omega (arith, bound, part)))
    (λ above. size_up (height v lo hi h) (distance lo v * (h - 1) / distance lo hi) (height-above v lo hi h wide above)
    (omega (arith, bound, part)))

-- heights of values stay far within the sizes that a segment takes
pub height-size : (v lo hi : ℤ) (h : ℕ) → IsValue v → IsValue lo → lo ≤ℤ hi → h ≤ 4096 → unsigned_abs (height v lo hi h) ≤ 10 ^ 22
height-size v lo hi h value low order rows =
    by_lt_z lo hi
    (λ wide. size_wide v lo hi h value low wide rows)
    (λ flat. size_up (height v lo hi h) 0 (height-flat v lo hi h flat) (omega arith))

-- an earlier sample's place isn't further right
pub placed_before : (g : Grid) (range : ValueRange) (last : Option Sample) (s t : Sample) (p : Point) → last ≡ Some s
    → ForSome last (IsDrawable g) → IsBefore last t → p ≡ place g range s → p.x ≤ column g t.time
placed_before g range last s t p is drawable before at =
    let B : Option Sample → Type 0 = λ o. IsBefore o t in
    let X : Point → Type 0 = λ q. q.x ≤ column g t.time in
    subst X (sym at) (column-rising g s.time t.time (drawable s is).window (subst B is before))
