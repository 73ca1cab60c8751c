use Rattle.std.proofs.Common.{ℕ, ℤ, pos, negsuc, neg_ℤ, zero, suc, unsigned_abs, int_lt, ◌≡◌, ◌-◌, ◌*◌, ◌/◌, ◌<◌, ◌-ℤ◌, ◌*ℤ◌, ◌≤ℤ◌, ◌<ℤ◌}
use Rattle.std.proofs.Common.{arith, refl, ap, sym, ◌∙◌, Bool, true, false, cond, ap₂, subst, inl, inr, le_refl, ◌≤◌}
use Rattle.std.proofs.lemmas.Int.{ints, by_lt_z}
use Rattle.std.proofs.lemmas.Bool.{cases_lt}
use Rattle.std.proofs.lemmas.Nat.{mul-le}
use Rattle.std.proofs.Math.Nat.{div-le_self}
use Rattle.std.proofs.Math.IntN.{pos-*ℤ-pos}
use Rattle.std.specs.Int.{div_ceil}
use Rattle.chart_grid.specs.Numbers.{distance, floor_div, IsFloor}
use Rattle.chart_grid.proofs.Floors.{div_ceil-lt, floor_div-neg, floor_div-is, floor_div-rising, times-rising, neg-times}
use Rattle.chart_grid.specs.Projection.{height}

size-pos : (z : ℤ) → pos 0 ≤ℤ z → z ≡ pos (unsigned_abs z)
size-pos (pos n) h = refl
size-pos (negsuc n) h = absurd (omega (arith, ints))

size-neg : (z : ℤ) → z ≤ℤ pos 0 → z ≡ neg_ℤ (pos (unsigned_abs z))
size-neg (pos zero) h = refl
size-neg (pos (suc n)) h = absurd (omega (arith, ints))
size-neg (negsuc n) h = refl

size-turned : (z : ℤ) → unsigned_abs (neg_ℤ z) ≡ unsigned_abs z
size-turned (pos zero) = refl
size-turned (pos (suc n)) = refl
size-turned (negsuc n) = refl

-- the difference and the distance
pub after : (a b : ℤ) → a ≤ℤ b → b -ℤ a ≡ pos (distance a b)
after a b h = size-pos (b -ℤ a) (omega (arith, ints))

pub before : (a b : ℤ) → b ≤ℤ a → b -ℤ a ≡ neg_ℤ (pos (distance a b))
before a b h = size-neg (b -ℤ a) (omega (arith, ints))

pub distance-some : (a b : ℤ) → a <ℤ b → 0 < distance a b
distance-some a b h = omega (arith, ints, after a b (omega (arith, ints)))

wide-test : (lo hi : ℤ) → lo <ℤ hi → int_lt lo hi ≡ true
wide-test lo hi wide = grind (arith, ints)

flat-test : (lo hi : ℤ) → hi ≤ℤ lo → int_lt lo hi ≡ false
flat-test lo hi flat = grind (arith, ints)

picked : (b : Bool) (x y : ℤ) → b ≡ true → cond b x y ≡ x
picked b x y e = rw e

other : (b : Bool) (x y : ℤ) → b ≡ false → cond b x y ≡ y
other b x y e = rw e

-- the height over a range that isn't one value
pub height-wide : (v lo hi : ℤ) (h : ℕ) → lo <ℤ hi → height v lo hi h ≡ floor_div ((v -ℤ lo) *ℤ pos (h - 1)) (distance lo hi)
height-wide v lo hi h wide = picked (int_lt lo hi) _ _ (wide-test lo hi wide)

pub height-flat : (v lo hi : ℤ) (h : ℕ) → hi ≤ℤ lo → height v lo hi h ≡ pos 0
height-flat v lo hi h flat = other (int_lt lo hi) _ _ (flat-test lo hi flat)

-- the height of a value that isn't below the range
pub height-above : (v lo hi : ℤ) (h : ℕ) → lo <ℤ hi → lo ≤ℤ v → height v lo hi h ≡ pos (distance lo v * (h - 1) / distance lo hi)
height-above v lo hi h wide up =
    height-wide v lo hi h wide
    ∙ ap (λ z. floor_div (z *ℤ pos (h - 1)) (distance lo hi)) (after lo v up)
    ∙ ap (λ z. floor_div z (distance lo hi)) (pos-*ℤ-pos (distance lo v) (h - 1))

-- the height of a value that isn't above the range's low end
pub height-below : (v lo hi : ℤ) (h : ℕ) → lo <ℤ hi → v ≤ℤ lo
    → height v lo hi h ≡ neg_ℤ (pos (div_ceil (distance lo v * (h - 1)) (distance lo hi)))
height-below v lo hi h wide down =
    height-wide v lo hi h wide
    ∙ ap (λ z. floor_div (z *ℤ pos (h - 1)) (distance lo hi)) (before lo v down)
    ∙ ap (λ z. floor_div z (distance lo hi)) (neg-times (distance lo v) (h - 1))
    ∙ floor_div-neg (distance lo v * (h - 1)) (distance lo hi) (distance-some lo hi wide)

rising-wide : (u v lo hi : ℤ) (h : ℕ) → lo <ℤ hi → u ≤ℤ v → height u lo hi h ≤ℤ height v lo hi h
rising-wide u v lo hi h wide le =
    omega (
      arith,
      ints,
      height-wide u lo hi h wide,
      height-wide v lo hi h wide,
      floor_div-rising ((u -ℤ lo) *ℤ pos (h - 1)) ((v -ℤ lo) *ℤ pos (h - 1)) (distance lo hi) (distance-some lo hi wide)
          (times-rising (u -ℤ lo) (v -ℤ lo) (h - 1) (omega (arith, ints))),
    )

-- a greater value is no lower
pub height-rising : (u v lo hi : ℤ) (h : ℕ) → u ≤ℤ v → height u lo hi h ≤ℤ height v lo hi h
height-rising u v lo hi h le =
    by_lt_z lo hi
    (λ wide. rising-wide u v lo hi h wide le)
    (λ flat. omega (arith, ints, height-flat u lo hi h flat, height-flat v lo hi h flat))

-- the height of a value below the range, from its parts
pub below_is : (v lo hi : ℤ) (h d s n : ℕ) (r : ℤ) → lo <ℤ hi → v ≤ℤ lo → d ≡ distance lo v → s ≡ distance lo hi
    → n ≡ div_ceil (d * (h - 1)) s → r ≡ neg_ℤ (pos n) → r ≡ height v lo hi h
below_is v lo hi h d s n r wide down de se ne re =
    re ∙ ap (λ k. neg_ℤ (pos k)) (ne ∙ ap₂ (λ a b. div_ceil (a * (h - 1)) b) de se) ∙ sym (height-below v lo hi h wide down)

-- and of one that isn't below the range
pub above_is : (v lo hi : ℤ) (h d s n : ℕ) (r : ℤ) → lo <ℤ hi → lo ≤ℤ v → d ≡ distance lo v → s ≡ distance lo hi → n ≡ d * (h - 1) / s
    → r ≡ pos n → r ≡ height v lo hi h
above_is v lo hi h d s n r wide up de se ne re =
    re ∙ ap pos (ne ∙ ap₂ (λ a b. a * (h - 1) / b) de se) ∙ sym (height-above v lo hi h wide up)

-- a height is the floor of the value's share of the rows
pub height-is : (v lo hi : ℤ) (h : ℕ) → lo <ℤ hi → IsFloor ((v -ℤ lo) *ℤ pos (h - 1)) (distance lo hi) (height v lo hi h)
height-is v lo hi h wide =
    let P : ℤ → Type 0 = λ z. IsFloor ((v -ℤ lo) *ℤ pos (h - 1)) (distance lo hi) z in
    subst P (sym (height-wide v lo hi h wide)) (floor_div-is ((v -ℤ lo) *ℤ pos (h - 1)) (distance lo hi) (distance-some lo hi wide))

pub height-is_at : (v lo hi : ℤ) (h : ℕ) (r : ℤ) → r ≡ height v lo hi h → lo <ℤ hi → IsFloor ((v -ℤ lo) *ℤ pos (h - 1)) (distance lo hi) r
height-is_at v lo hi h r e wide =
    let P : ℤ → Type 0 = λ z. IsFloor ((v -ℤ lo) *ℤ pos (h - 1)) (distance lo hi) z in
    subst P (sym e) (height-is v lo hi h wide)

-- a quotient rounded up isn't above its dividend
div_ceil-le : (a n : ℕ) → 0 < n → div_ceil a n ≤ a
div_ceil-le a n some =
    elim (cases_lt a (div_ceil a n)) [
      | inl more ↦ absurd (omega (arith, div_ceil-lt a a n some more, mul-le a 1 a n (le_refl a) some))
      | inr le ↦ le
    ]

-- a height is no farther from the bottom row than if the range were one unit
pub height-size : (v lo hi : ℤ) (h : ℕ) → unsigned_abs (height v lo hi h) ≤ distance lo v * (h - 1)
height-size v lo hi h =
    by_lt_z lo hi
    (λ wide. by_lt_z v lo
    (λ down. omega (
      arith,
      ap unsigned_abs (height-below v lo hi h wide (omega (arith, ints)))
          ∙ size-turned (pos (div_ceil (distance lo v * (h - 1)) (distance lo hi))),
      div_ceil-le (distance lo v * (h - 1)) (distance lo hi) (distance-some lo hi wide),
    ))
    (λ up. omega (arith, ap unsigned_abs (height-above v lo hi h wide up), div-le_self (distance lo v * (h - 1)) (distance lo hi))))
    (λ flat. omega (arith, ap unsigned_abs (height-flat v lo hi h flat)))

pub height-size_at : (v lo hi : ℤ) (h : ℕ) (r : ℤ) → r ≡ height v lo hi h → unsigned_abs r ≤ distance lo v * (h - 1)
height-size_at v lo hi h r e =
    let P : ℤ → Type 0 = λ z. unsigned_abs z ≤ distance lo v * (h - 1) in
    subst P (sym e) (height-size v lo hi h)
