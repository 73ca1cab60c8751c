-- Pages whose fields are all 0, and which flag stands above which.
use Rattle.std.proofs.Common.{◌≡◌, ℕ, pos, zero, suc, ◌+◌, ◌*◌, ◌/◌, ◌%◌, ◌^◌, ◌<◌, ◌≤◌, false, ◌||◌, ◌==◌, if◌then◌else◌, List, get_or}
use Rattle.std.proofs.Common.{inl, inr, refl, sym, ap, ◌∙◌, arith}
use Rattle.std.proofs.lemmas.Bool.{cases_lt}
use Rattle.std.specs.Int.{w64, bit_at, cast_signed}
use Rattle.byteorder.specs.Endian.{big_from}
use Rattle.node_page.specs.Fields.{number_at, signed_at, flag_at, coef_at, child_at}
use Rattle.node_page.specs.Layout.{KeepsLayout, side_of, has_child, has_value}
use Rattle.node_page.proofs.Coefs.{coef_made}

abbrev pub IsBlank : List ℕ → Type 0
IsBlank page = (k : ℕ) → 8 ≤ k → k < 2584 → get_or page k 0 ≡ 0

pub big_zero : (n i : ℕ) (xs : List ℕ) → ((k : ℕ) → i ≤ k → k < i + n → get_or xs k 0 ≡ 0) → big_from i n xs ≡ 0
big_zero zero i xs zeros = refl
big_zero (suc n) i xs zeros =
    let byte : get_or xs i 0 ≡ 0 = zeros i (omega arith) (omega arith) in
    let rest : big_from (suc i) n xs ≡ 0 = big_zero n (suc i) xs (λ k low high. zeros k (omega (arith, low)) (omega (arith, high))) in
    ap (λ (b : ℕ). b * 256 ^ n + big_from (suc i) n xs) byte ∙ omega (arith, rest)

number_zero : (size at : ℕ) (page : List ℕ) → IsBlank page → 8 ≤ at → at + size ≤ 2584 → number_at page size at ≡ 0
unfolding number_at
number_zero size at page blank low high = big_zero size at page (λ k from to. blank k (omega (arith, low, from)) (omega (arith, high, to)))

signed_zero : (at : ℕ) (page : List ℕ) → IsBlank page → 8 ≤ at → at + 8 ≤ 2584 → signed_at page at ≡ pos 0
unfolding signed_at
signed_zero at page blank low high = ap (cast_signed w64) (number_zero 8 at page blank low high)

pub bit_of_zero : (i : ℕ) → i < 8 → (bit_at 0 i == 1) ≡ false
bit_of_zero zero few = refl
bit_of_zero (suc zero) few = refl
bit_of_zero (suc (suc zero)) few = refl
bit_of_zero (suc (suc (suc zero))) few = refl
bit_of_zero (suc (suc (suc (suc zero)))) few = refl
bit_of_zero (suc (suc (suc (suc (suc zero))))) few = refl
bit_of_zero (suc (suc (suc (suc (suc (suc zero)))))) few = refl
bit_of_zero (suc (suc (suc (suc (suc (suc (suc zero))))))) few = refl
bit_of_zero (suc (suc (suc (suc (suc (suc (suc (suc i)))))))) few = absurd (omega (arith, few))

pub flag_blank : (page : List ℕ) → IsBlank page → (b : ℕ) → b < 256 → flag_at page b ≡ false
unfolding flag_at
flag_blank page blank b few =
    ap (λ (x : ℕ). bit_at x (b % 8) == 1) (blank (8 + b / 8) (omega arith) (omega (arith, few))) ∙ bit_of_zero (b % 8) (omega arith)

pub coef_blank : (page : List ℕ) → IsBlank page → (n : ℕ) → n < 127
    → coef_at page n ≡ record { left = false; right = false; dmin = pos 0; dmax = pos 0 }
coef_blank page blank n few =
    coef_made page n false false (pos 0) (pos 0)
    (flag_blank page blank (2 * n) (omega (arith, few)))
    (flag_blank page blank (2 * n + 1) (omega (arith, few)))
    (signed_zero (40 + 16 * n) page blank (omega arith) (omega (arith, few)))
    (signed_zero (40 + 16 * n + 8) page blank (omega arith) (omega (arith, few)))

pub child_blank : (page : List ℕ) → IsBlank page → (c : ℕ) → c < 128 → child_at page c ≡ 0
unfolding child_at
child_blank page blank c few = number_zero 4 (2072 + 4 * c) page blank (omega arith) (omega (arith, few))

either_flag : (page : List ℕ) (m b c : ℕ) → b ≡ 2 * m → c ≡ 2 * m + 1 → has_value (coef_at page m) ≡ (flag_at page b || flag_at page c)
unfolding coef_at
either_flag page m b c even odd =
    ap (λ (j : ℕ). flag_at page j || flag_at page (2 * m + 1)) (sym even) ∙ ap (λ (j : ℕ). flag_at page b || flag_at page j) (sym odd)

left_is : (page : List ℕ) (n b : ℕ) → b ≡ 2 * n → (coef_at page n).left ≡ flag_at page b
unfolding coef_at
left_is page n b is = ap (flag_at page) (sym is)

right_is : (page : List ℕ) (n b : ℕ) → b ≡ 2 * n + 1 → (coef_at page n).right ≡ flag_at page b
unfolding coef_at
right_is page n b is = ap (flag_at page) (sym is)

-- a flag above a node is set exactly where one of the node's is
pub flag_above : (page : List ℕ) → KeepsLayout page → (b : ℕ) → b < 126
    → flag_at page b ≡ (flag_at page (2 * b + 2) || flag_at page (2 * b + 3))
flag_above page keeps b few =
    let n = b / 2 in
    elim (cases_lt (2 * n) b) [
      | inl odd ↦
          sym (right_is page n b (omega (arith, odd))) ∙ sym (keeps.flags.right n (omega (arith, few)))
          ∙ either_flag page (2 * n + 2) (2 * b + 2) (2 * b + 3) (omega (arith, odd)) (omega (arith, odd))
      | inr even ↦
          sym (left_is page n b (omega (arith, even))) ∙ sym (keeps.flags.left n (omega (arith, few)))
          ∙ either_flag page (2 * n + 1) (2 * b + 2) (2 * b + 3) (omega (arith, even)) (omega (arith, even))
    ]

side_by : (page : List ℕ) (m child r : ℕ) → child % 2 ≡ r → r < 2 → side_of (coef_at page m) child ≡ flag_at page (2 * m + r)
side_by page m child zero is few =
    ap (λ (r : ℕ). if r == 0 then (coef_at page m).left else (coef_at page m).right) is ∙ left_is page m (2 * m + 0) (omega arith)
side_by page m child (suc zero) is few =
    ap (λ (r : ℕ). if r == 0 then (coef_at page m).left else (coef_at page m).right) is ∙ right_is page m (2 * m + 1) refl
side_by page m child (suc (suc r)) is few = absurd (omega (arith, few))

-- the flag above a child
pub child_flag : (page : List ℕ) (child : ℕ) → has_child page child ≡ flag_at page (126 + child)
child_flag page child =
    let place : 2 * (63 + child / 2) + child % 2 ≡ 126 + child = omega arith in
    side_by page (63 + child / 2) child (child % 2) refl (omega arith) ∙ ap (flag_at page) place
