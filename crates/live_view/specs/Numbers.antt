-- Numbers in rising order, each of them once.
use Rattle.std.specs.Prelude.{ℕ, ◌≤◌, ◌==◌, not, nat_lt, List, ◌∷◌, ◌++◌, filter, All}

-- the numbers with one more
abbrev pub with_number : ℕ → List ℕ → List ℕ
with_number number numbers = filter (λ other. nat_lt other number) numbers ++ number ∷ filter (λ other. nat_lt number other) numbers

-- the numbers without one
abbrev pub without_number : ℕ → List ℕ → List ℕ
without_number number numbers = filter (λ other. not (other == number)) numbers

-- none of the numbers is 0
abbrev pub ArePositive : List ℕ → Type 0
ArePositive numbers = All (λ n. 1 ≤ n) numbers
