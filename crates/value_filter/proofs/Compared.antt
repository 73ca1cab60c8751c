-- What tests on the ends of an interval say of its whole numbers.
use Rattle.std.proofs.Common.{◌≡◌, Bool, true, false, ℤ, ◌≤ℤ◌, not, refl, sym, ap, ◌∙◌, subst, arith}
use lib.Signed.{lt_z, le_z}
use mir.Val.{to_z, of_z, SFits}
use Rattle.std.specs.Int.{w64, w128}
use Rattle.std.proofs.lemmas.Int.{to_z-of_z}
use Rattle.std.proofs.lemmas.Int.{ints}
use Rattle.std.proofs.lemmas.Bool.{eqb-true, eq-eqb}
use Rattle.std.proofs.lemmas.Bool.Decides.{Decides-int_eq}
use Rattle.std.specs.Ordering.{int_eq}
use Rattle.std.proofs.Math.Dec.{eqb}
use Rattle.value_filter.specs.declared.atoms.Comparison.{Comparison}
use Rattle.value_filter.specs.declared.atoms.Comparison.TheVariants.{NotEqual}
use Rattle.value_filter.specs.Expressions.{compares, opposite}
use Rattle.value_filter.specs.Boxes.{Interval, Always, Once}
use Rattle.value_filter.proofs.Everywhere.{compares-opposite}

fits_more : (z : ℤ) → SFits w64 z → SFits w128 z
fits_more z fits = record { sfits = omega (arith, fits.sfits) }

fits_wider : (wide z : ℤ) → wide ≡ z → SFits w64 z → SFits w128 wide
fits_wider wide z e fits = let P : ℤ → Type 0 = λ x. SFits w128 x in subst P (sym e) (fits_more z fits)

not_below : (a b : ℤ) → lt_z a b ≡ false → b ≤ℤ a
not_below a b h = grind (arith, ints)

once_not_equal_at : (low high n : ℤ) → lt_z n low ≡ false → lt_z high n ≡ false → Once NotEqual (low, high) n false
once_not_equal_at low high n below above = (n, (not_below n low below, not_below high n above), ap not ((Decides-int_eq n n).1 refl))

pub once_not_equal : (c : Comparison) (low' high' n' low high n : ℤ) → low' ≡ low → high' ≡ high → n' ≡ n → c ≡ NotEqual
    → lt_z n' low' ≡ false → lt_z high' n' ≡ false → Once c (low, high) n false
once_not_equal c low' high' n' low high n el eh en is below above =
    let P : Comparison → Type 0 = λ d. Once d (low, high) n false in
    let b : lt_z n low ≡ false = sym (ap (λ x. lt_z x low') en ∙ ap (λ x. lt_z n x) el) ∙ below in
    let a : lt_z high n ≡ false = sym (ap (λ x. lt_z x n') eh ∙ ap (λ x. lt_z high x) en) ∙ above in
    subst P (sym is) (once_not_equal_at low high n b a)

not_true : (b : Bool) → not b ≡ true → b ≡ false
not_true true e = sym e
not_true false e = refl

not_false : (b : Bool) → not b ≡ false → b ≡ true
not_false true e = refl
not_false false e = sym e

-- what the opposite says
pub always_not : (c o : Comparison) (interval : Interval) (n : ℤ) → o ≡ opposite c → Always o interval n true → Always c interval n false
always_not c o interval n e always x within =
    not_true (compares c x n) (sym (compares-opposite c x n) ∙ ap (λ d. compares d x n) (sym e) ∙ always x within)

pub once_not : (c o : Comparison) (interval : Interval) (n : ℤ) → o ≡ opposite c → Once o interval n false → Once c interval n true
once_not c o interval n e once =
    (once.0, once.1, not_false (compares c once.0 n) (sym (compares-opposite c once.0 n) ∙ ap (λ d. compares d once.0 n) (sym e) ∙ once.2))

-- the same of equal ends and an equal number
pub always_same : (c : Comparison) (low' high' n' low high n : ℤ) (b : Bool) → low' ≡ low → high' ≡ high → n' ≡ n
    → Always c (low', high') n' b → Always c (low, high) n b
always_same c low' high' n' low high n b el eh en always =
    let P : ℤ → Type 0 = λ x. Always c (x, high') n' b in
    let Q : ℤ → Type 0 = λ x. Always c (low, x) n' b in
    let R : ℤ → Type 0 = λ x. Always c (low, high) x b in
    subst R en (subst Q eh (subst P el always))

pub once_same : (c : Comparison) (low' high' n' low high n : ℤ) (b : Bool) → low' ≡ low → high' ≡ high → n' ≡ n → Once c (low', high') n' b
    → Once c (low, high) n b
once_same c low' high' n' low high n b el eh en once =
    let P : ℤ → Type 0 = λ x. Once c (x, high') n' b in
    let Q : ℤ → Type 0 = λ x. Once c (low, x) n' b in
    let R : ℤ → Type 0 = λ x. Once c (low, high) x b in
    subst R en (subst Q eh (subst P el once))

-- a number of 64 bits, passed as one of 128
pub widened : (wide z : ℤ) → wide ≡ to_z w64 (of_z w64 z) → SFits w64 z → to_z w128 (of_z w128 wide) ≡ z
widened wide z e fits =
    let same : wide ≡ z = e ∙ to_z-of_z w64 z fits in
    let wider : SFits w128 wide = fits_wider wide z same fits in
    to_z-of_z w128 wide wider ∙ same

-- one test at the ends tells of each whole number between them
pub less_at : (x high n : ℤ) → lt_z high n ≡ true → x ≤ℤ high → lt_z x n ≡ true
less_at x high n is within = grind (arith, ints)

pub up_to_at : (x high n : ℤ) → le_z high n ≡ true → x ≤ℤ high → not (lt_z n x) ≡ true
up_to_at x high n is within = grind (arith, ints)

pub from_at : (x low n : ℤ) → le_z n low ≡ true → low ≤ℤ x → not (lt_z x n) ≡ true
from_at x low n is within = grind (arith, ints)

pub greater_at : (x low n : ℤ) → lt_z n low ≡ true → low ≤ℤ x → lt_z n x ≡ true
greater_at x low n is within = grind (arith, ints)

pub past_end : (a b : ℤ) → le_z a b ≡ false → not (lt_z b a) ≡ false
past_end a b is = grind (arith, ints)

same_end : (a : ℤ) → a ≤ℤ a
same_end a = grind (arith, ints)

never_true : (b : Bool) → (b ≡ true → ⊥) → b ≡ false
never_true true never = absurd (never refl)
never_true false never = refl

below_all : (x low n : ℤ) → lt_z n low ≡ true → low ≤ℤ x → x ≡ n → ⊥
below_all x low n is within same = grind (arith, ints)

above_all : (x high n : ℤ) → lt_z high n ≡ true → x ≤ℤ high → x ≡ n → ⊥
above_all x high n is within same = grind (arith, ints)

pub unequal_below : (x low n : ℤ) → lt_z n low ≡ true → low ≤ℤ x → not (int_eq x n) ≡ true
unequal_below x low n is within = ap not (never_true (int_eq x n) (λ e. below_all x low n is within ((Decides-int_eq x n).0 e)))

pub unequal_above : (x high n : ℤ) → lt_z high n ≡ true → x ≤ℤ high → not (int_eq x n) ≡ true
unequal_above x high n is within = ap not (never_true (int_eq x n) (λ e. above_all x high n is within ((Decides-int_eq x n).0 e)))

between : (x low high n : ℤ) → n ≡ low → n ≡ high → low ≤ℤ x → x ≤ℤ high → x ≡ n
between x low high n is_low is_high above below = omega (arith, ints)

-- tests of the machine's numbers
pub plain : (test : ℤ → ℤ → Bool) (a b : ℤ) (v : Bool) → SFits w128 a → SFits w128 b
    → test (to_z w128 (of_z w128 a)) (to_z w128 (of_z w128 b)) ≡ v → test a b ≡ v
plain test a b v fits_a fits_b is =
    sym (ap (λ x. test x (to_z w128 (of_z w128 b))) (to_z-of_z w128 a fits_a) ∙ ap (λ x. test a x) (to_z-of_z w128 b fits_b)) ∙ is

plain_same : (a b : ℤ) → SFits w128 a → SFits w128 b → of_z w128 a ≡ of_z w128 b → a ≡ b
plain_same a b fits_a fits_b is =
    sym (to_z-of_z w128 a fits_a) ∙ ap (λ x. to_z w128 x) is ∙ to_z-of_z w128 b fits_b

pub plain_apart : (a b : ℤ) → (of_z w128 a ≡ of_z w128 b → ⊥) → int_eq b a ≡ false
plain_apart a b apart = never_true (int_eq b a) (λ e. apart (ap (λ x. of_z w128 x) (sym ((Decides-int_eq b a).0 e))))

pub plain_other : (a b : ℤ) → eqb (of_z w128 a) (of_z w128 b) ≡ false → int_eq b a ≡ false
plain_other a b is = plain_apart a b (λ same. clash (eq-eqb (of_z w128 a) (of_z w128 b) same))
  where
    clash : eqb (of_z w128 a) (of_z w128 b) ≡ true → ⊥
    clash same = absurd (cc (same, is))

pub equal_at : (x low high n : ℤ) → SFits w128 low → SFits w128 high → SFits w128 n → of_z w128 n ≡ of_z w128 low
    → eqb (of_z w128 n) (of_z w128 high) ≡ true
    → low ≤ℤ x → x ≤ℤ high → int_eq x n ≡ true
equal_at x low high n fits_low fits_high fits_n is_low is_high above below =
    (Decides-int_eq x n).1 (between x low high n (plain_same n low fits_n fits_low is_low)
    (plain_same n high fits_n fits_high (eqb-true (of_z w128 n) (of_z w128 high) is_high)) above below)

-- the answers of a comparison that is this one
pub always_is : (c k : Comparison) (low high n : ℤ) → c ≡ k → Always k (low, high) n true → Always c (low, high) n true
always_is c k low high n is always = let P : Comparison → Type 0 = λ d. Always d (low, high) n true in subst P (sym is) always

pub once_low : (c k : Comparison) (low high n : ℤ) → c ≡ k → low ≤ℤ high → compares k low n ≡ false → Once c (low, high) n false
once_low c k low high n is some not_there = let P : Comparison → Type 0 = λ d. Once d (low, high) n false in
    subst P (sym is) (low, (same_end low, some), not_there)

pub once_high : (c k : Comparison) (low high n : ℤ) → c ≡ k → low ≤ℤ high → compares k high n ≡ false → Once c (low, high) n false
once_high c k low high n is some not_there = let P : Comparison → Type 0 = λ d. Once d (low, high) n false in
    subst P (sym is) (high, (some, same_end high), not_there)
