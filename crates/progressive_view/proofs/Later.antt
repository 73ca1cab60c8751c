-- What counts at a stage counts at each later one.
use Rattle.std.proofs.Common.{ℕ, ℤ, ◌≡◌, ◌<◌, ◌≤◌, ◌⊎◌, inl, inr, List, length, get_or, Option, Some, sym, ◌∙◌, subst, arith}
use Rattle.std.specs.Prelude.{AllPairs, slice_get}
use Rattle.std.proofs.lemmas.Bool.{cases_lt}
use Rattle.std.proofs.lemmas.Option.{slice_get_within, get_or_from_slice_get, slice_get-get_or}
use Rattle.chart_grid.specs.declared.grid.Grid.{Grid}
use Rattle.om3_coeff.specs.declared.key.Key.{Key}
use Rattle.om3_coeff.specs.declared.coef.Coef.{Coef}
use Rattle.view_keys.specs.Listed.{ComesBefore}
use Rattle.view_keys.proofs.Orders.{before_on}
use Rattle.chart_frames.specs.declared.frame.ViewFrame.{ViewFrame}
use Rattle.chart_frames.specs.Frames.{Precedes, FitsView}
use Rattle.chart_client.specs.declared.holding.Holding.{Holding}
use Rattle.chart_client.proofs.Grids.{grid_one}
use Rattle.view_cover.specs.Scene.{Scene, with_told, IsToldBy}
use Rattle.view_cover.specs.Cover.{InCover}
use Rattle.progressive_view.specs.Used.{IsTaken, IsBeforeNext, IsHeldFor}
use Rattle.progressive_view.specs.Covers.{Stage, scene_by}
use Rattle.progressive_view.proofs.Standing.{in-order}

turn-later : (view : ViewFrame) (i j : ℕ) (k : Key) → AllPairs Precedes view.coefs → i ≤ j → IsBeforeNext view i k → IsBeforeNext view j k
turn-later view i j k order low turn next at =
    elim (cases_lt i j) [
      | inr same ↦
          (let e : j ≡ i = omega (arith, low, same) in
          turn next (subst (λ (n : ℕ). slice_get view.coefs n ≡ Some next) e at))
      | inl less ↦
          (let inside : j < length view.coefs = slice_get_within view.coefs j next at in
          let here : get_or view.coefs j next ≡ next = get_or_from_slice_get view.coefs j next next at in
          let first : slice_get view.coefs i ≡ Some (get_or view.coefs i next) = slice_get-get_or view.coefs i next
          (omega (arith, less, inside)) in
          before_on k (get_or view.coefs i next).0 next.0 (turn (get_or view.coefs i next) first)
          (subst (λ (e : Key × Coef). ComesBefore (get_or view.coefs i next).0 e.0) here
          (in-order (get_or view.coefs i next) (get_or view.coefs j next) (order i j next less inside))))
    ]

used-later : (view : ViewFrame) (holding : Holding) (grid : Grid) (i j : ℕ) (k : Key) (c : Coef) → AllPairs Precedes view.coefs → i ≤ j
    → IsTaken view i k c ⊎ IsHeldFor view holding grid i k c → IsTaken view j k c ⊎ IsHeldFor view holding grid j k c
used-later view holding grid i j k c order low (inl t) = inl (record { place = t.place; turn = omega (arith, t.turn, low); sent = t.sent })
used-later view holding grid i j k c order low (inr h) =
    inr (record { unsent = h.unsent; across = h.across; turn = turn-later view i j k order low h.turn; held = h.held })

pub one-holding : {a b : Holding} → ◌≡◌ {A = Option Holding} (Some a) (Some b) → a ≡ b
one-holding h = cc

pub later-within : ((scene : Scene) (more : Key → Option Coef) (x : ℕ) (y : ℤ) → IsToldBy scene.told more
    → InCover (with_told scene more) x y → InCover scene x y)
    → (view : ViewFrame) (holdings : List Holding) (i j : ℕ) (early : Stage view holdings i) (late : Stage view holdings j) (x : ℕ) (y : ℤ)
    → FitsView view → i ≤ j
    → InCover (scene_by view late.grid late.told) x y → InCover (scene_by view early.grid early.told) x y
later-within shrink view holdings i j early late x y fits low is =
    let grids : late.grid ≡ early.grid = grid_one view late.grid early.grid late.grid_is early.grid_is in
    let holdings_one : early.holding ≡ late.holding = one-holding (sym early.holding_is ∙ late.holding_is) in
    let tells : IsToldBy early.told late.told = (λ k c told.
    (late.used k c).1
    (subst (λ (g : Grid). IsTaken view j k c ⊎ IsHeldFor view late.holding g j k c) (sym grids)
    (subst (λ (h : Holding). IsTaken view j k c ⊎ IsHeldFor view h early.grid j k c) holdings_one
    (used-later view early.holding early.grid i j k c fits.coefs.order low ((early.used k c).0 told))))) in
    shrink (scene_by view early.grid early.told) late.told x y tells
    (subst (λ (g : Grid). InCover (scene_by view g late.told) x y) grids is)
