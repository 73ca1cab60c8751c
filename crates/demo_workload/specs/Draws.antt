-- The numbers that are drawn for a workload, and the walk of the values that they make.
use Rattle.std.specs.Prelude.{ℕ, zero, suc, ℤ, pos, ◌+◌, ◌*◌, ◌/◌, ◌%◌, ◌^◌, ◌+ℤ◌, ◌-ℤ◌, List, [], ◌∷◌, ◌++◌, Option, Some}
use Rattle.demo_workload.specs.declared.draws.Walk.{Walk}

-- the generator's state of 64 bits behind a draw
unfoldable pub next_state : ℕ → ℕ
next_state x = (x * 6364136223846793005 + 1442695040888963407) % 2 ^ 64

-- the number that a draw gives which leaves this state: its high 31 bits
abbrev pub number_in : ℕ → ℕ
number_in x = x / 2 ^ 33

-- a value is the last one and a number from -100 to 100, by a draw
abbrev pub moved : ℤ → ℕ → ℤ
moved value draw = (value +ℤ pos (draw % 201)) -ℤ pos 100

-- the state and the last value behind a draw for a value
unfoldable pub after_draw : Walk → Walk
after_draw walk = record {
  state = next_state walk.state;
  value = moved walk.value (number_in (next_state walk.state));
}

-- the same behind so many of them
unfoldable pub walked : ℕ → Walk → Walk
walked zero walk = walk
walked (suc n) walk = after_draw (walked n walk)

-- the values of so many draws
unfoldable pub values : ℕ → Walk → List (Option ℤ)
values zero walk = []
values (suc n) walk = values n walk ++ Some (walked (suc n) walk).value ∷ []
