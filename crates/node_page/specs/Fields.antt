-- The fields of a tree page of 4,096 bytes: its level, 127 coefficients and 128 children.
use Rattle.std.specs.Prelude.{ℕ, ℤ, ◌+◌, ◌*◌, ◌/◌, ◌%◌, ◌==◌, Bool, List, ◌++◌, length, take, drop, slice_index}
use Rattle.std.specs.Int.{w64, bit_at, cast_signed}
use Rattle.byteorder.specs.Endian.{big_from}
use Rattle.om3_coeff.specs.declared.coef.Coef.{Coef}

-- the number in so many bytes from an offset on, the highest byte first
unfoldable pub number_at : List ℕ → ℕ → ℕ → ℕ
number_at page size offset = big_from offset size page

-- the number in the eight bytes from an offset on, in two's complement
unfoldable pub signed_at : List ℕ → ℕ → ℤ
signed_at page offset = cast_signed w64 (number_at page 8 offset)

-- a flag: flag b is the bit of value 2^(b mod 8) in byte 8 + b / 8
unfoldable pub flag_at : List ℕ → ℕ → Bool
flag_at page b = bit_at (slice_index page (8 + b / 8)) (b % 8) == 1

-- the page level
unfoldable pub level_at : List ℕ → ℕ
level_at page = slice_index page 1

-- the coefficient of a node
unfoldable pub coef_at : List ℕ → ℕ → Coef
coef_at page node = record {
  left = flag_at page (2 * node);
  right = flag_at page (2 * node + 1);
  dmin = signed_at page (40 + 16 * node);
  dmax = signed_at page (40 + 16 * node + 8);
}

-- the page of a child, 0 where there is none
unfoldable pub child_at : List ℕ → ℕ → ℕ
child_at page child = number_at page 4 (2072 + 4 * child)

-- these bytes with others in place of those from an offset on
unfoldable pub with_bytes : List ℕ → ℕ → List ℕ → List ℕ
with_bytes page offset from = take offset page ++ (from ++ drop (offset + length from) page)
