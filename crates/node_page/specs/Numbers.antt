-- Numbers and the bytes that they stand in.
use Rattle.std.proofs.Common.{◌≡◌, ℕ, zero, suc, ◌+◌, ◌/◌, ◌%◌, ◌^◌, ◌<◌, ◌≤◌, List, get_or, sym, ap, inl, inr, ◌∙◌, arith}
use Rattle.std.proofs.lemmas.Bool.{cases_lt}
use Rattle.std.proofs.lemmas.Nat.{div-mul-add, mod-mul-add}
use Rattle.std.proofs.lemmas.Int.{of_z-to_z}
use Rattle.std.specs.Int.{w64, cast_unsigned}
use Rattle.byteorder.specs.Endian.{big_from}
use Rattle.byteorder.specs.Numbers.{big_from-lt}
use Rattle.node_page.specs.Fields.{number_at, signed_at}

-- each of these is a byte
abbrev pub IsBytes : List ℕ → Type 0
IsBytes bytes = (k : ℕ) → get_or bytes k 0 < 256

-- the same number in so many bytes has the same bytes
big_bytes : (n i : ℕ) (xs ys : List ℕ) → IsBytes xs → IsBytes ys → big_from i n xs ≡ big_from i n ys → (k : ℕ) → i ≤ k → k < i + n
    → get_or xs k 0 ≡ get_or ys k 0
big_bytes zero i xs ys fits fits' same k low high = absurd (omega (arith, low, high))
big_bytes (suc n) i xs ys fits fits' same k low high =
    let w = 256 ^ n in
    let a = get_or xs i 0 in
    let b = get_or ys i 0 in
    let x = big_from (suc i) n xs in
    let y = big_from (suc i) n ys in
    let below : x < w = big_from-lt (suc i) n xs fits in
    let below' : y < w = big_from-lt (suc i) n ys fits' in
    let head : a ≡ b = sym (div-mul-add a w x below) ∙ ap (λ (m : ℕ). m / w) same ∙ div-mul-add b w y below' in
    let tail : x ≡ y = sym (mod-mul-add a w x below) ∙ ap (λ (m : ℕ). m % w) same ∙ mod-mul-add b w y below' in
    elim (cases_lt i k) [
      | inl less ↦ big_bytes n (suc i) xs ys fits fits' tail k less (omega (arith, high))
      | inr more ↦
          let here : k ≡ i = omega (arith, low, more) in
          ap (λ (j : ℕ). get_or xs j 0) here ∙ head ∙ ap (λ (j : ℕ). get_or ys j 0) (sym here)
    ]

pub number_bytes : (size at : ℕ) (one other : List ℕ) → IsBytes one → IsBytes other → number_at one size at ≡ number_at other size at
    → (k : ℕ) → at ≤ k → k < at + size → get_or one k 0 ≡ get_or other k 0
unfolding number_at
number_bytes size at one other fits fits' same = big_bytes size at one other fits fits' same

pub number_below : (size at : ℕ) (page : List ℕ) → IsBytes page → number_at page size at < 256 ^ size
unfolding number_at
number_below size at page fits = big_from-lt at size page fits

pub signed_bytes : (at : ℕ) (one other : List ℕ) → IsBytes one → IsBytes other → signed_at one at ≡ signed_at other at → (k : ℕ) → at ≤ k
    → k < at + 8 → get_or one k 0 ≡ get_or other k 0
unfolding signed_at
signed_bytes at one other fits fits' same =
    let x = number_at one 8 at in
    let y = number_at other 8 at in
    let below : x < 2 ^ 64 = number_below 8 at one fits in
    let below' : y < 2 ^ 64 = number_below 8 at other fits' in
    let equal : x ≡ y = sym (of_z-to_z w64 x below) ∙ ap (cast_unsigned w64) same ∙ of_z-to_z w64 y below' in
    number_bytes 8 at one other fits fits' equal
