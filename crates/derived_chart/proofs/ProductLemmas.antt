-- Products of numbers of which one is at most the other.
use Rattle.std.proofs.Common.{◌≡◌, ℕ, ℤ, pos, negsuc, zero, suc, ◌≤◌, ◌^◌, ◌*ℤ◌, ◌<◌, ◌≤ℤ◌, ◌<ℤ◌, arith, ap, ap₂, sym, ◌∙◌, subst}
use Rattle.std.specs.Prelude.{unsigned_abs}
use Rattle.std.proofs.Math.IntN.{suc_ℤ-*ℤ, pred_ℤ-*ℤ, zero-*ℤ}
use Rattle.std.proofs.Common.{to_z, of_z, w64}
use mir.Syntax.{w128}
use Rattle.std.specs.Int.RustNames.{FitsSigned}
use Rattle.std.proofs.lemmas.Int.{ints, unsigned_abs-mul, to_z-of_z, fits_signed_from_abs}
use Rattle.std.proofs.lemmas.Nat.{mul-le}
use Rattle.om3_coeff.specs.declared.span.Span.{Span}
use Rattle.derived_chart.specs.Bounds.{AreProducts}

up : (n : ℕ) (x y : ℤ) → x ≤ℤ y → (pos n *ℤ x) ≤ℤ (pos n *ℤ y)
up zero x y low = omega (arith, ints, zero-*ℤ x, zero-*ℤ y)
up (suc n) x y low = omega (arith, ints, suc_ℤ-*ℤ (pos n) x, suc_ℤ-*ℤ (pos n) y, up n x y low, low)

down : (n : ℕ) (x y : ℤ) → x ≤ℤ y → (negsuc n *ℤ y) ≤ℤ (negsuc n *ℤ x)
down zero x y low = omega (arith, ints, pred_ℤ-*ℤ (pos zero) x, pred_ℤ-*ℤ (pos zero) y, zero-*ℤ x, zero-*ℤ y, low)
down (suc n) x y low = omega (arith, ints, pred_ℤ-*ℤ (negsuc n) x, pred_ℤ-*ℤ (negsuc n) y, down n x y low, low)

-- a product of a factor and a value
pub product_small : (a x : ℤ) → unsigned_abs a ≤ 10 ^ 9 → unsigned_abs x ≤ 10 ^ 18 → unsigned_abs (a *ℤ x) ≤ 10 ^ 27
product_small a x factor value = omega (
  arith,
  unsigned_abs-mul a x,
  mul-le (unsigned_abs a) (unsigned_abs x) (10 ^ 9) (10 ^ 18) factor value,
)

-- the products of a factor that isn't negative
pub rising : (a : ℤ) (s : Span) (lo hi : ℤ) → pos 0 ≤ℤ a → lo ≡ a *ℤ s.min → hi ≡ a *ℤ s.max → unsigned_abs lo ≤ 10 ^ 27
    → unsigned_abs hi ≤ 10 ^ 27 → AreProducts a s (lo, hi)
rising (pos n) s lo hi sign low high small large = record {
  within = λ x above below. (omega (arith, ints, low, up n s.min x above), omega (arith, ints, high, up n x s.max below));
  small = (small, large);
  one = λ same. (low, high ∙ ap (λ z. pos n *ℤ z) (sym same));
}
rising (negsuc n) s lo hi sign low high small large = absurd (omega (arith, ints, sign))

-- and of one that is
pub falling : (a : ℤ) (s : Span) (lo hi : ℤ) → a <ℤ pos 0 → lo ≡ a *ℤ s.max → hi ≡ a *ℤ s.min → unsigned_abs lo ≤ 10 ^ 27
    → unsigned_abs hi ≤ 10 ^ 27 → AreProducts a s (lo, hi)
falling (pos n) s lo hi sign low high small large = absurd (omega (arith, ints, sign))
falling (negsuc n) s lo hi sign low high small large = record {
  within = λ x above below. (omega (arith, ints, low, down n x s.max below), omega (arith, ints, high, down n s.min x above));
  small = (small, large);
  one = λ same. (low ∙ ap (λ z. negsuc n *ℤ z) (sym same), high);
}

-- a number of so many bits is what it is passed as
pub passed : (a x r : ℤ) → unsigned_abs a ≤ 10 ^ 9 → unsigned_abs x ≤ 10 ^ 18 → r ≡ to_z w64 (of_z w64 a) *ℤ to_z w64 (of_z w64 x)
    → r ≡ a *ℤ x
passed a x r factor value is =
    let fits_a = fits_signed_from_abs w64 a (omega (arith, factor)) in
    let fits_x = fits_signed_from_abs w64 x (omega (arith, value)) in
    is ∙ ap (λ z. z *ℤ to_z w64 (of_z w64 x)) (to_z-of_z w64 a fits_a) ∙ ap (λ z. a *ℤ z) (to_z-of_z w64 x fits_x)

-- what is said of products by the numbers as they are passed
pub products_as : (a : ℤ) (s : Span) (b : ℤ × ℤ) → unsigned_abs a ≤ 10 ^ 9 → AreProducts (to_z w64 (of_z w64 a)) s b → AreProducts a s b
products_as a s b factor = subst (λ z. AreProducts z s b) (to_z-of_z w64 a (fits_signed_from_abs w64 a (omega (arith, factor))))

pub given_back : (a : ℤ) (s : Span) (lo hi : ℤ) → unsigned_abs lo ≤ 10 ^ 27 → unsigned_abs hi ≤ 10 ^ 27 → AreProducts a s (lo, hi)
    → AreProducts a s (to_z w128 (of_z w128 lo), to_z w128 (of_z w128 hi))
given_back a s lo hi small large are =
    let one = to_z-of_z w128 lo (fits_signed_from_abs w128 lo (omega (arith, small))) in
    let other = to_z-of_z w128 hi (fits_signed_from_abs w128 hi (omega (arith, large))) in
    let P : ℤ → Type 0 = λ z. AreProducts a s (z, hi) in
    let Q : ℤ → Type 0 = λ z. AreProducts a s (to_z w128 (of_z w128 lo), z) in
    subst Q (sym other) (subst P (sym one) are)

-- a number as the code holds it with more bits
pub wide : (z u : ℤ) → unsigned_abs z < 2 ^ 127 → u ≡ z → to_z w128 (of_z w128 u) ≡ z
wide z u small is = ap (λ y. to_z w128 (of_z w128 y)) is ∙ to_z-of_z w128 z (fits_signed_from_abs w128 z (omega (arith, small)))

pub fits_wide : (z u : ℤ) → unsigned_abs z < 2 ^ 127 → u ≡ z → FitsSigned w128 u
fits_wide z u small is = subst (FitsSigned w128) (sym is) (fits_signed_from_abs w128 z (omega (arith, small)))

-- the product that the code computes with them
pub wide_product : (a x u v : ℤ) → unsigned_abs a ≤ 10 ^ 9 → unsigned_abs x ≤ 10 ^ 18 → u ≡ to_z w64 (of_z w64 a)
    → v ≡ to_z w64 (of_z w64 x)
    → (to_z w128 (of_z w128 u) *ℤ to_z w128 (of_z w128 v)) ≡ (a *ℤ x)
wide_product a x u v factor value first second =
    let one : u ≡ a = first ∙ to_z-of_z w64 a (fits_signed_from_abs w64 a (omega (arith, factor))) in
    let other : v ≡ x = second ∙ to_z-of_z w64 x (fits_signed_from_abs w64 x (omega (arith, value))) in
    ap₂ (λ y z. y *ℤ z) (wide a u (omega (arith, factor)) one) (wide x v (omega (arith, value)) other)
