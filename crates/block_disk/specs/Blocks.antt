-- The blocks of a disk.
use Rattle.std.specs.Prelude.{ℕ, ◌≡◌, List, length}

-- how many bytes a block has
abbrev pub block_size : ℕ
block_size = 4096

-- these are the bytes of a block
abbrev pub IsBlock : List ℕ → Type 0
IsBlock bytes = length bytes ≡ block_size
