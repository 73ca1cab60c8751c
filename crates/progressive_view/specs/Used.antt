-- The coefficients that count once the first i of a view's frame are taken.
use Rattle.std.specs.Prelude.{ℕ, ◌≡◌, ◌<◌, ◌⊎◌, ◌↔◌, slice_get, Option, Some}
use Rattle.chart_grid.specs.declared.grid.Grid.{Grid}
use Rattle.om3_coeff.specs.declared.key.Key.{Key}
use Rattle.om3_coeff.specs.declared.coef.Coef.{Coef}
use Rattle.view_keys.specs.Listed.{ComesBefore}
use Rattle.view_cover.specs.Across.{IsAcross}
use Rattle.coefficient_cache.specs.Pairs.{series_key, coefficient_at}
use Rattle.chart_frames.specs.declared.frame.ViewFrame.{ViewFrame}
use Rattle.chart_client.specs.declared.holding.Holding.{Holding}
use Rattle.chart_client.specs.Holdings.{axis_of}

-- the frame sends the coefficient for the key, among its first i
pub record IsTaken (view : ViewFrame) (i : ℕ) (k : Key) (c : Coef) : Type 0 where
  pub place : ℕ
  pub turn : place < i
  pub sent : slice_get view.coefs place ≡ Some (k, c)

-- the frame sends none for the key
abbrev pub IsUnsent : ViewFrame → Key → Type 0
IsUnsent view k = (place : ℕ) (c : Coef) → slice_get view.coefs place ≡ Some (k, c) → ⊥

-- the key comes before the first one that isn't taken, if there is one
abbrev pub IsBeforeNext : ViewFrame → ℕ → Key → Type 0
IsBeforeNext view i k = (next : Key × Coef) → slice_get view.coefs i ≡ Some next → ComesBefore k next.0

-- A held coefficient that counts: of a key for which the frame sends none, whose range meets the slots of
-- some column and isn't within them, and whose turn has come. A held coefficient of another key may be old.
pub record IsHeldFor (view : ViewFrame) (holding : Holding) (grid : Grid) (i : ℕ) (k : Key) (c : Coef) : Type 0 where
  pub unsent : IsUnsent view k
  pub across : IsAcross (axis_of view) grid k
  pub turn : IsBeforeNext view i k
  pub held : coefficient_at holding.cache.pairs (series_key view.series k) ≡ Some c

-- the coefficients that count are told, and no others
abbrev pub AreUsed : ViewFrame → Holding → Grid → ℕ → (Key → Option Coef) → Type 0
AreUsed view holding grid i told = (k : Key) (c : Coef) → (told k ≡ Some c) ↔ (IsTaken view i k c ⊎ IsHeldFor view holding grid i k c)
