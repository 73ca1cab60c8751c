-- Grids of the same window and canvas are one.
use Rattle.std.proofs.Common.{ℕ, ℤ, ◌≡◌, ap, ◌∙◌, subst}
use Rattle.std.proofs.Math.Bridge.{le_prop}
use Rattle.std.proofs.Math.Dec.{T_prop}
use Rattle.chart_grid.specs.declared.grid.Grid.{Grid}
use Rattle.chart_grid.specs.Limits.{IsWindow, IsSide}

abbrev IsOne : Type 0 → Type 0
IsOne A = (a b : A) → a ≡ b

window_one : (t0 t1 : ℤ) → IsOne (IsWindow t0 t1)
window_one t0 t1 = hlevel (le_prop, T_prop)

side_one : (n : ℕ) → IsOne (IsSide n)
side_one n = hlevel (le_prop, T_prop)

abbrev make : (t0 t1 : ℤ) (w h : ℕ) → IsWindow t0 t1 → IsSide w → IsSide h → Grid
make t0 t1 w h a b c = record { t0 = t0; t1 = t1; w = w; h = h; window = a; wide = b; high = c }

made_same : (t0 t1 : ℤ) (w h : ℕ) (a d : IsWindow t0 t1) (b e : IsSide w) (c f : IsSide h) → make t0 t1 w h a b c ≡ make t0 t1 w h d e f
made_same t0 t1 w h a d b e c f =
    ap (λ x. make t0 t1 w h x b c) (window_one t0 t1 a d)
    ∙ ap (λ x. make t0 t1 w h d x c) (side_one w b e)
    ∙ ap (λ x. make t0 t1 w h d e x) (side_one h c f)

abbrev Same : Grid → ℤ → ℤ → ℕ → ℕ → Type 0
Same g t0 t1 w h = (a : IsWindow t0 t1) (b : IsSide w) (c : IsSide h) → g ≡ make t0 t1 w h a b c

same_at : (g : Grid) (t0 t1 : ℤ) (w h : ℕ) → g.t0 ≡ t0 → g.t1 ≡ t1 → g.w ≡ w → g.h ≡ h → Same g t0 t1 w h
same_at g t0 t1 w h e0 e1 ew eh =
    subst (λ (t : ℤ). Same g t t1 w h) e0
    (subst (λ (t : ℤ). Same g g.t0 t w h) e1
    (subst (λ (n : ℕ). Same g g.t0 g.t1 n h) ew
    (subst (λ (n : ℕ). Same g g.t0 g.t1 g.w n) eh
    (λ a b c. made_same g.t0 g.t1 g.w g.h g.window a g.wide b g.high c))))

-- grids of the same window and canvas are one
pub grid_same : (g h : Grid) → g.t0 ≡ h.t0 → g.t1 ≡ h.t1 → g.w ≡ h.w → g.h ≡ h.h → g ≡ h
grid_same g h e0 e1 ew eh = same_at g h.t0 h.t1 h.w h.h e0 e1 ew eh h.window h.wide h.high
