-- How slots and keys lie to the columns of a window.
use Rattle.std.specs.Prelude.{ℕ, suc, ◌≡◌, ◌-◌, ◌<◌, ◌≤◌, ◌⊎◌, nat_lt, if◌then◌else◌}
use Rattle.chart_grid.specs.Projection.{column}
use Rattle.chart_grid.specs.Slots.{slot_time}
use Rattle.om3_coeff.specs.declared.key.Key.{Key}
use Rattle.om3_coeff.specs.Keys.{first_slot, end_slot, height}
use Rattle.needed_nodes.specs.declared.window.Window.{Window}
use Rattle.needed_nodes.specs.declared.window.Ranks.{Ranks}
use Rattle.needed_nodes.specs.declared.window.Place.{Place}
use Rattle.needed_nodes.specs.declared.window.Place.TheVariants.{Outside, Within, Cut}

-- how many columns begin at or before a slot, and one more behind the window: 0 before the window,
-- c + 1 in column c, w + 1 behind the window
unfoldable pub rank : Window → ℕ → ℕ
rank w i =
    if nat_lt i w.from then 0
    else (if nat_lt i w.end then suc (column w.grid (slot_time w.axis i)) else suc w.grid.w)

-- the ranks of the first and of the last slot of a key's range
abbrev pub first_rank : Window → Key → ℕ
first_rank w k = rank w (first_slot k)

abbrev pub last_rank : Window → Key → ℕ
last_rank w k = rank w (end_slot k - 1)

pub record AreRanksOf (w : Window) (k : Key) (r : Ranks) : Type 0 where
  pub first : r.first ≡ first_rank w k
  pub last : r.last ≡ last_rank w k

-- a border of a column, or an end of the window, lies inside the key's range
abbrev pub IsCutKey : Window → Key → Type 0
IsCutKey w k = first_rank w k < last_rank w k

-- the key's range lies within column c
pub record IsInside (w : Window) (c : ℕ) (k : Key) : Type 0 where
  pub first : first_rank w k ≡ suc c
  pub last : last_rank w k ≡ suc c
  pub shown : c < w.grid.w

-- it meets no column
pub record IsOutside (w : Window) (k : Key) : Type 0 where
  pub even : first_rank w k ≡ last_rank w k
  pub beyond : (first_rank w k ≡ 0) ⊎ (w.grid.w < first_rank w k)

abbrev pub IsPlace : Window → Key → Place → Type 0
IsPlace w k Outside = IsOutside w k
IsPlace w k (Within c) = IsInside w c k
IsPlace w k Cut = IsCutKey w k

-- the key k is w or lies below it
pub record IsBelow (w k : Key) : Type 0 where
  pub lower : k.level ≤ w.level
  pub from : first_slot w ≤ first_slot k
  pub to : end_slot k ≤ end_slot w

-- the key lies one level below a cut key
pub record IsUnderCut (w : Window) (k : Key) : Type 0 where
  pub above : Key
  pub level : above.level ≡ suc k.level
  pub below : IsBelow above k
  pub cut : IsCutKey w above

-- no key above this one lies within a column
abbrev pub IsTopmost : Window → Key → Type 0
IsTopmost w k = (k.level ≡ height w.axis.slots) ⊎ IsUnderCut w k
