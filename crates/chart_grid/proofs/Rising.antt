use Rattle.std.proofs.Common.{ℕ, ℤ, ◌≡◌, ◌+◌, ◌*◌, ◌<◌, ◌≤◌, ◌≤ℤ◌, ◌<ℤ◌, ◌↔◌, arith, inl, inr, le_refl}
use Rattle.std.proofs.lemmas.Int.{ints, by_lt_z}
use Rattle.std.proofs.lemmas.Bool.{cases_lt}
use Rattle.std.proofs.lemmas.Nat.{mul-le}
use Rattle.std.proofs.Math.Nat.{mul_comm}
use Rattle.std.specs.Int.{div_ceil}
use Rattle.chart_grid.specs.Numbers.{distance}
use Rattle.chart_grid.specs.Projection.{InWindow, column}
use Rattle.chart_grid.specs.Slots.{border}
use Rattle.chart_grid.specs.declared.grid.Grid.{Grid}
use Rattle.chart_grid.proofs.Floors.{div-rising, div_ceil-rising, div_ceil-is}
use Rattle.chart_grid.proofs.Heights.{after, distance-some}
use Rattle.chart_grid.proofs.Columns.{part-below, distance-below}
use Rattle.chart_grid.proofs.Slots.{border-parts}

-- a later time has no lower column
pub column-rising : (g : Grid) (s t : ℤ) → InWindow g s → InWindow g t → s ≤ℤ t → column g s ≤ column g t
column-rising g s t early late le =
    let farther : distance g.t0 s ≤ distance g.t0 t = omega (arith, ints, after g.t0 s early.from, after g.t0 t late.from) in
    div-rising (distance g.t0 s * g.w) (distance g.t0 t * g.w) (distance g.t0 g.t1) (distance-some g.t0 g.t1 g.window.rising)
    (mul-le (distance g.t0 s) g.w (distance g.t0 t) g.w farther (le_refl g.w))

-- the column of a time is one of the canvas
pub column-below : (g : Grid) (t : ℤ) → InWindow g t → column g t < g.w
column-below g t shown =
    part-below (distance g.t0 t) g.w (distance g.t0 g.t1) (distance-below g.t0 t g.t1 shown.from shown.to) g.wide.some

-- the times of a column lie between its borders
pub column-between : (g : Grid) (c : ℕ) (t : ℤ) → InWindow g t → (column g t ≡ c) ↔ ((border g c ≤ℤ t) × (t <ℤ border g (c + 1)))
column-between g c t shown =
    (λ is. (from_here is, (border-parts g (c + 1) t shown).1 (omega (arith, is))), λ within. here within)
  where
    from_here : column g t ≡ c → border g c ≤ℤ t
    from_here is =
        by_lt_z t (border g c) (λ past. absurd (omega (arith, is, (border-parts g c t shown).0 past))) (λ le. le)

    here : (border g c ≤ℤ t) × (t <ℤ border g (c + 1)) → column g t ≡ c
    here within =
        let above : column g t < c + 1 = (border-parts g (c + 1) t shown).0 within.1 in
        elim (cases_lt (column g t) c) [
          | inl less ↦ absurd (omega (arith, ints, within.0, (border-parts g c t shown).1 less))
          | inr le ↦ omega arith
        ]

pub border-first : (g : Grid) → border g 0 ≡ g.t0
border-first g =
    let none : div_ceil (0 * distance g.t0 g.t1) g.w ≡ 0 =
    div_ceil-is (0 * distance g.t0 g.t1) 0 g.w g.wide.some (omega arith) (omega (arith, g.wide.some)) in
    omega (arith, ints)

pub border-last : (g : Grid) → border g g.w ≡ g.t1
border-last g =
    let n : ℕ = distance g.t0 g.t1 in
    let all : div_ceil (g.w * n) g.w ≡ n =
    div_ceil-is (g.w * n) n g.w g.wide.some (omega (arith, mul_comm g.w n)) (omega (arith, mul_comm g.w n, g.wide.some)) in
    omega (arith, ints, all, after g.t0 g.t1 (omega (arith, ints, g.window.rising)))

-- a later column has no earlier border
pub borders-rising : (g : Grid) (b c : ℕ) → b ≤ c → border g b ≤ℤ border g c
borders-rising g b c le =
    let n : ℕ = distance g.t0 g.t1 in
    omega (arith, ints, div_ceil-rising (b * n) (c * n) g.w g.wide.some (mul-le b n c n le (le_refl n)))
