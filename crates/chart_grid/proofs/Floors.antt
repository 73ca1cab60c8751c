use Rattle.std.proofs.Common.{ℕ, ℤ, zero, suc, pos, negsuc, neg_ℤ, ◌≡◌, ◌+◌, ◌*◌, ◌/◌, ◌<◌, ◌≤◌, ◌+ℤ◌, ◌*ℤ◌, ◌≤ℤ◌, arith, ap, sym, ◌∙◌, inl}
use Rattle.std.proofs.Common.{inr, le_refl, lt_of_mul-lt-mul_right}
use Rattle.std.proofs.lemmas.Int.{ints, by_lt_z}
use Rattle.std.proofs.lemmas.Bool.{cases_lt}
use Rattle.std.proofs.lemmas.Nat.{le-div, mul-le}
use Rattle.std.proofs.Math.Nat.{div-mul-le_self, lt-div-mul-add, zero-div}
use Rattle.std.proofs.Math.IntN.{negsuc-*ℤ-pos, pos-*ℤ-pos}
use Rattle.std.specs.Int.{div_ceil}
use Rattle.std.proofs.lemmas.Grind.{div_ceil_times}
use Rattle.chart_grid.specs.Numbers.{floor_div, IsFloor}

-- a greater number has no smaller quotient
pub div-rising : (a b n : ℕ) → 0 < n → a ≤ b → a / n ≤ b / n
div-rising a b n some h = le-div (a / n) b n some (omega (arith, div-mul-le_self a n))

-- a number is below the quotient rounded up where its product with the divisor is below the dividend
pub div_ceil-lt : (a k n : ℕ) → 0 < n → k < div_ceil a n → k * n < a
div_ceil-lt a k n some h =
    let times : (k + 1) * n ≤ div_ceil a n * n = mul-le (k + 1) n (div_ceil a n) n (omega arith) (le_refl n) in
    omega (arith, div_ceil_times a n some)

pub lt-div_ceil : (a k n : ℕ) → 0 < n → k * n < a → k < div_ceil a n
lt-div_ceil a k n some h =
    lt_of_mul-lt-mul_right n (omega (arith, div_ceil_times a n some))

-- the quotient rounded up is the only number between these bounds
pub div_ceil-is : (a k n : ℕ) → 0 < n → a ≤ k * n → k * n < a + n → div_ceil a n ≡ k
div_ceil-is a k n some enough least =
    let low : k < div_ceil a n + 1 = lt_of_mul-lt-mul_right n (omega (arith, div_ceil_times a n some)) in
    let high : div_ceil a n < k + 1 = lt_of_mul-lt-mul_right n (omega (arith, div_ceil_times a n some)) in
    omega arith

pub div_ceil-rising : (a b n : ℕ) → 0 < n → a ≤ b → div_ceil a n ≤ div_ceil b n
div_ceil-rising a b n some h =
    elim (cases_lt (div_ceil b n) (div_ceil a n)) [
      | inl more ↦ absurd (omega (arith, div_ceil-lt a (div_ceil b n) n some more, div_ceil_times b n some))
      | inr le ↦ le
    ]

-- a negative quotient, rounded down, is the other one rounded up
pub floor_div-neg : (a n : ℕ) → 0 < n → floor_div (neg_ℤ (pos a)) n ≡ neg_ℤ (pos (div_ceil a n))
floor_div-neg zero n some =
    let none : div_ceil 0 n ≡ 0 = div_ceil-is 0 0 n some (omega arith) (omega arith) in
    ap pos (zero-div n) ∙ ap (λ q. neg_ℤ (pos q)) (sym none)
floor_div-neg (suc a) n some =
    let one_more : div_ceil (suc a) n ≡ suc (a / n) =
    div_ceil-is (suc a) (suc (a / n)) n some
    (omega (arith, lt-div-mul-add {a = a} {b = n} some)) (omega (arith, div-mul-le_self a n)) in
    ap (λ q. neg_ℤ (pos q)) (sym one_more)

pub floor_div-rising : (a b : ℤ) (n : ℕ) → 0 < n → a ≤ℤ b → floor_div a n ≤ℤ floor_div b n
floor_div-rising (pos a) (pos b) n some h =
    omega (arith, ints, div-rising a b n some (omega (arith, ints)))
floor_div-rising (pos a) (negsuc b) n some h = absurd (omega (arith, ints))
floor_div-rising (negsuc a) (pos b) n some h = omega (arith, ints)
floor_div-rising (negsuc a) (negsuc b) n some h =
    omega (arith, ints, div-rising b a n some (omega (arith, ints)))

-- a product with a number that isn't negative
pub times-rising : (x y : ℤ) (k : ℕ) → x ≤ℤ y → (x *ℤ pos k) ≤ℤ (y *ℤ pos k)
times-rising (pos a) (pos b) k h =
    omega (arith, ints, pos-*ℤ-pos a k, pos-*ℤ-pos b k, mul-le a k b k (omega (arith, ints)) (le_refl k))
times-rising (pos a) (negsuc b) k h = absurd (omega (arith, ints))
times-rising (negsuc a) (pos b) k h =
    omega (arith, ints, negsuc-*ℤ-pos a k, pos-*ℤ-pos b k)
times-rising (negsuc a) (negsuc b) k h =
    omega (arith, ints, negsuc-*ℤ-pos a k, negsuc-*ℤ-pos b k, mul-le (suc b) k (suc a) k (omega (arith, ints)) (le_refl k))

pub neg-times : (q n : ℕ) → neg_ℤ (pos q) *ℤ pos n ≡ neg_ℤ (pos (q * n))
neg-times zero n = omega (arith, ints, pos-*ℤ-pos 0 n)
neg-times (suc q) n = negsuc-*ℤ-pos q n

pub floor_div-is : (a : ℤ) (n : ℕ) → 0 < n → IsFloor a n (floor_div a n)
floor_div-is (pos a) n some = record {
  reached = omega (arith, ints, pos-*ℤ-pos (a / n) n, div-mul-le_self a n);
  next = omega (arith, ints, pos-*ℤ-pos (a / n + 1) n, lt-div-mul-add {a = a} {b = n} some);
}
floor_div-is (negsuc a) n some =
    let up : negsuc (a / n) +ℤ pos 1 ≡ neg_ℤ (pos (a / n)) = omega (arith, ints) in
    record {
      reached = omega (arith, ints, negsuc-*ℤ-pos (a / n) n, lt-div-mul-add {a = a} {b = n} some);
      next = omega (arith, ints, ap (λ z. z *ℤ pos n) up, neg-times (a / n) n, div-mul-le_self a n);
    }

-- no floor is below another one
floors-meet : (a : ℤ) (n : ℕ) (q r : ℤ) → IsFloor a n q → IsFloor a n r → r ≤ℤ q
floors-meet a n q r p s =
    by_lt_z q r
    (λ less. absurd (omega (arith, ints, p.next, s.reached, times-rising (q +ℤ pos 1) r n (omega (arith, ints)))))
    (λ le. le)

-- there is no other floor
pub IsFloor-one : (a : ℤ) (n : ℕ) (q r : ℤ) → IsFloor a n q → IsFloor a n r → q ≡ r
IsFloor-one a n q r p s =
    omega (arith, ints, floors-meet a n q r p s, floors-meet a n r q s p)
