-- The differences of all nodes, by their places and by the bytes of the flags.
use Rattle.std.proofs.Common.{◌≡◌, ℕ, zero, suc, ℤ, pos, negsuc, of_z, ◌+◌, ◌*◌, ◌/◌, ◌%◌, ◌^◌, ◌<◌, ◌≤◌, min, Bool, true, false, cond}
use Rattle.std.proofs.Common.{◌&&◌, ◌==◌, List, get_or, refl, ap, subst, inl, inr, ◌∙◌, arith}
use Rattle.std.proofs.lemmas.Bool.{eq-eqb, ne_eqb}
use Rattle.std.proofs.lemmas.Bool.Decides.{eqb_tells}
use Rattle.std.proofs.lemmas.Int.{ints}
use Rattle.std.specs.Int.{bit_at, w64}
use Rattle.std.specs.Prelude.{FitsSigned}
use Rattle.whole_number.specs.Range.{IsTime}
use Rattle.node_page.specs.Fields.{signed_at, flag_at, coef_at}
use Rattle.node_page.specs.Layout.{HasDifferences, AreDifferences, AreEightSmall, AreFourInRange, IsFullOrFlat, has_child}

pub bit_of_full : (i : ℕ) → i < 8 → (bit_at 255 i == 1) ≡ true
bit_of_full zero few = refl
bit_of_full (suc zero) few = refl
bit_of_full (suc (suc zero)) few = refl
bit_of_full (suc (suc (suc zero))) few = refl
bit_of_full (suc (suc (suc (suc zero)))) few = refl
bit_of_full (suc (suc (suc (suc (suc zero))))) few = refl
bit_of_full (suc (suc (suc (suc (suc (suc zero)))))) few = refl
bit_of_full (suc (suc (suc (suc (suc (suc (suc zero))))))) few = refl
bit_of_full (suc (suc (suc (suc (suc (suc (suc (suc i)))))))) few = absurd (omega (arith, few))

pub flag_of_full : (page : List ℕ) (byte flag : ℕ) → get_or page (8 + byte) 0 ≡ 255 → flag / 8 ≡ byte → flag_at page flag ≡ true
unfolding flag_at
flag_of_full page byte flag full is =
    ap (λ (b : ℕ). bit_at (get_or page (8 + b) 0) (flag % 8) == 1) is ∙ ap (λ (x : ℕ). bit_at x (flag % 8) == 1) full
    ∙ bit_of_full (flag % 8) (omega arith)

pub both : (left right : Bool) → left ≡ true → right ≡ true → (left && right) ≡ false → ⊥
both true true l r half = cc (half)
both true false l r half = cc (r)
both false right l r half = cc (l)

-- where a byte of flags is full, so are its four nodes
pub four_full : (page : List ℕ) (byte n : ℕ) → get_or page (8 + byte) 0 ≡ 255 → 4 * byte ≤ n → n < 4 * byte + 4 → IsFullOrFlat page n
unfolding coef_at
four_full page byte n full low high half =
    absurd (both (flag_at page (2 * n)) (flag_at page (2 * n + 1)) (flag_of_full page byte (2 * n) full (omega (arith, low, high)))
    (flag_of_full page byte (2 * n + 1) full (omega (arith, low, high))) half)

-- the differences of the last byte are the last of the eight that are looked at
pub in_range_from : (page : List ℕ) (byte first : ℕ) → byte < 32 → first ≡ min (8 * byte) 246 → AreEightSmall page first
    → ((n : ℕ) → 4 * byte ≤ n → n < 4 * byte + 4 → n < 127 → IsFullOrFlat page n) → AreFourInRange page byte
unfolding coef_at
in_range_from page byte first within is small flat n low high few =
    let second : 40 + 8 * (2 * n + 1) ≡ 40 + 16 * n + 8 = omega arith in
    let one : 40 + 8 * (2 * n) ≡ 40 + 16 * n = omega arith in
    let IsSmall : ℕ → Type 0 = λ at. IsTime (signed_at page at) in
    let from : first ≤ 2 * n = omega (arith, is, low) in
    let to : 2 * n + 1 < first + 8 = omega (arith, is, high, few, within) in
    record {
      least = subst IsSmall one (small (2 * n) from (omega (arith, to)));
      greatest = subst IsSmall second (small (2 * n + 1) (omega (arith, from)) to);
      flat = flat n low high few;
    }

-- the same for all nodes, by all places
pub in_range_all : (page : List ℕ) → ((place : ℕ) → place < 254 → IsTime (signed_at page (40 + 8 * place)))
    → ((n : ℕ) → n < 127 → IsFullOrFlat page n) → AreDifferences page
unfolding coef_at
in_range_all page small flat n few =
    let second : 40 + 8 * (2 * n + 1) ≡ 40 + 16 * n + 8 = omega arith in
    let one : 40 + 8 * (2 * n) ≡ 40 + 16 * n = omega arith in
    let IsSmall : ℕ → Type 0 = λ at. IsTime (signed_at page at) in
    record {
      least = subst IsSmall one (small (2 * n) (omega (arith, few)));
      greatest = subst IsSmall second (small (2 * n + 1) (omega (arith, few)));
      flat = flat n few;
    }

-- a number that is below 2^57 once 2^56 is added to it, mod 2^64, is in range
pub raised_small : (z : ℤ) (r : ℕ) → FitsSigned w64 z → r ≡ (of_z w64 z + 2 ^ 56) % 2 ^ 64 → r < 2 ^ 57 → IsTime z
raised_small (pos n) r fits is few = omega (arith, ints, fits.sfits, is, few)
raised_small (negsuc n) r fits is few = omega (arith, ints, fits.sfits, is, few)

-- a place is one of a node's two
halves : (page : List ℕ) (n rest place : ℕ) → place ≡ 2 * n + rest → rest < 2 → HasDifferences (coef_at page n)
    → IsTime (signed_at page (40 + 8 * place))
unfolding coef_at
halves page n zero place is few has =
    let at : 40 + 16 * n ≡ 40 + 8 * place = omega (arith, is) in
    let IsSmall : ℕ → Type 0 = λ at. IsTime (signed_at page at) in subst IsSmall at has.least
halves page n (suc zero) place is few has =
    let at : 40 + 16 * n + 8 ≡ 40 + 8 * place = omega (arith, is) in
    let IsSmall : ℕ → Type 0 = λ at. IsTime (signed_at page at) in subst IsSmall at has.greatest
halves page n (suc (suc rest)) place is few has = absurd (omega (arith, few))

pub small_of : (page : List ℕ) (first : ℕ) → first ≤ 246 → AreDifferences page → AreEightSmall page first
small_of page first low_first differences place low high =
    halves page (place / 2) (place % 2) place (omega arith) (omega arith) (differences (place / 2) (omega (arith, low_first, high)))

-- a child's flag is the one of its number behind those of the nodes above the lowest
pub flag_of_child : (page : List ℕ) (child : ℕ) → has_child page child ≡ flag_at page (126 + child)
unfolding coef_at
flag_of_child page child = elim (eqb_tells (child % 2) 0) [
  | inl even ↦
      let at : 2 * (63 + child / 2) ≡ 126 + child = omega (arith, even.1) in
      ap (λ b. cond b (flag_at page (2 * (63 + child / 2))) (flag_at page (2 * (63 + child / 2) + 1))) (eq-eqb (child % 2) 0 even.1)
      ∙ ap (λ n. flag_at page n) at
  | inr odd ↦
      let rest : child % 2 ≡ 1 = omega (arith, odd.1) in
      let at : 2 * (63 + child / 2) + 1 ≡ 126 + child = omega (arith, rest) in
      ap (λ b. cond b (flag_at page (2 * (63 + child / 2))) (flag_at page (2 * (63 + child / 2) + 1))) (ne_eqb (child % 2) 0 odd.1)
      ∙ ap (λ n. flag_at page n) at
]
