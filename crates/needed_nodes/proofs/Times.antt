use Rattle.std.proofs.Common.{refl, ℕ, ℤ, pos, negsuc, ◌≡◌, ◌+◌, ◌*◌, ◌^◌, ◌<◌, ◌≤◌, ◌+ℤ◌, ◌<ℤ◌, w64, arith, ap, ◌∙◌}
use Rattle.std.proofs.lemmas.Int.{ints}
use Rattle.std.specs.Prelude.{FitsSigned}
use Rattle.chart_grid.specs.Projection.{InWindow, column}
use Rattle.chart_grid.specs.Slots.{slot_time}
use Rattle.needed_nodes.specs.declared.window.Window.{Window}
use Rattle.needed_nodes.specs.Ranks.{rank}
use Rattle.needed_nodes.proofs.RankLaws.{slot_shown, rank_shown}

-- a number that is little after a first one of 64 bits
steps_below : (start t : ℤ) (n : ℕ) → FitsSigned w64 start → t ≡ start +ℤ pos n → t <ℤ pos 3000000000000000000 → n < 2 ^ 64
steps_below (pos a) t n fits is less = omega (arith, ints, is, less)
steps_below (negsuc a) t n fits is less = omega (arith, ints, is, less, fits.sfits)

-- the steps from the start to a slot of the window fit
pub steps_fit : (w : Window) (i n : ℕ) → FitsSigned w64 w.axis.start → w.from ≤ i → i < w.end → n ≡ w.axis.step → i * n < 2 ^ 64
steps_fit w i n fits from to is =
    let shown : InWindow w.grid (slot_time w.axis i) = slot_shown w i from to in
    let below : i * w.axis.step < 2 ^ 64 =
    steps_below w.axis.start (slot_time w.axis i) (i * w.axis.step) fits refl (omega (arith, ints, shown.to, w.grid.window.to_size)) in
    omega (arith, below, ap (λ m. i * m) is)

pub rank_at : (w : Window) (i r : ℕ) (t : ℤ) → w.from ≤ i → i < w.end → t ≡ slot_time w.axis i → r ≡ column w.grid t → r + 1 ≡ rank w i
rank_at w i r t from to time is =
    let same : r ≡ column w.grid (slot_time w.axis i) = is ∙ ap (column w.grid) time in omega (arith, same, rank_shown w i from to)
