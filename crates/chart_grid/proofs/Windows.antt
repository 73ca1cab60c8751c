use Rattle.std.proofs.Common.{ℕ, ℤ, ◌≡◌, ◌↔◌, subst₂, inl, inr, Result, IfOk, IsOk, Err, arith}
use Rattle.std.proofs.lemmas.Int.{ints}
use Rattle.chart_grid.specs.Limits.{IsWindow, IsBadWindow}
use Rattle.chart_grid.specs.Projection.{ShowsWindow, HasCanvas}
use Rattle.chart_grid.specs.declared.grid.Grid.{Grid}
use Rattle.chart_grid.specs.declared.grid_error.GridError.{GridError}
use Rattle.chart_grid.specs.declared.grid_error.GridError.TheVariants.{BadWindow}

-- what was said of a window holds where its ends go by other names
pub shown_at : (r : Result Grid GridError) (a b s t : ℤ) (w h : ℕ) → s ≡ a → t ≡ b → IfOk r (λ g. ShowsWindow g s t × HasCanvas g w h)
    → IfOk r (λ g. ShowsWindow g a b × HasCanvas g w h)
shown_at r a b s t w h e f =
    let P : ℤ → ℤ → Type 0 = λ x y. IfOk r (λ g. ShowsWindow g x y × HasCanvas g w h) in
    subst₂ P e f

pub accepted_at : (r : Result Grid GridError) (a b s t : ℤ) → s ≡ a → t ≡ b → (IsWindow s t → IsOk r) → IsWindow a b → IsOk r
accepted_at r a b s t e f =
    let P : ℤ → ℤ → Type 0 = λ x y. IsWindow x y → IsOk r in
    subst₂ P e f

pub refused_at : (r : Result Grid GridError) (a b s t : ℤ) → s ≡ a → t ≡ b → ((r ≡ Err BadWindow) ↔ IsBadWindow s t)
    → (r ≡ Err BadWindow) ↔ IsBadWindow a b
refused_at r a b s t e f =
    let P : ℤ → ℤ → Type 0 = λ x y. (r ≡ Err BadWindow) ↔ IsBadWindow x y in
    subst₂ P e f

-- a window isn't a bad one
pub no_bad_window : (a b : ℤ) → IsWindow a b → IsBadWindow a b → ⊥
no_bad_window a b window (inl order) = omega (arith, ints, window.rising, order)
no_bad_window a b window (inr (inl far)) = omega (arith, window.from_size, far)
no_bad_window a b window (inr (inr far)) = omega (arith, window.to_size, far)
