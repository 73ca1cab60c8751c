-- How much input a host takes.
use Rattle.std.specs.Prelude.{ℕ, ◌-◌, ◌^◌}

-- the most bytes of input of which lines may come
abbrev pub most_bytes : ℕ
most_bytes = 2 ^ 63 - 1
