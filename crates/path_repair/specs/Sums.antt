-- Sums and lists over the numbers below another.
use Rattle.std.specs.Prelude.{ℕ, zero, suc, ◌+◌, List, [], ◌++◌}

-- f 0 + .. + f (n - 1)
unfoldable pub sum_below : (ℕ → ℕ) → ℕ → ℕ
sum_below f zero = 0
sum_below f (suc n) = sum_below f n + f n

-- f 0 ++ .. ++ f (n - 1)
unfoldable pub join_below : (ℕ → List ℕ) → ℕ → List ℕ
join_below f zero = []
join_below f (suc n) = join_below f n ++ f n
