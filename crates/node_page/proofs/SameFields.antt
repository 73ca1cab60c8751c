-- Two pages that keep the layout and have the same fields have the same bytes.
use Rattle.std.proofs.Common.{◌≡◌, ℕ, zero, suc, ◌+◌, ◌-◌, ◌*◌, ◌/◌, ◌%◌, ◌<◌, ◌≤◌, ◌==◌, List, get_or, sym, ap, inl, inr, ◌∙◌, arith}
use Rattle.std.proofs.lemmas.Bool.{cases_lt}
use Rattle.std.proofs.lemmas.Nat.Bits.{same_from_bits_below, bit_at-lt}
use Rattle.std.proofs.lemmas.Grind.{same_number_lists}
use Rattle.std.specs.Int.{bit_at}
use Rattle.block_disk.specs.Blocks.{block_size, IsBlock}
use Rattle.om3_coeff.specs.declared.coef.Coef.{Coef}
use Rattle.node_page.specs.Fields.{signed_at, flag_at, level_at, coef_at, child_at}
use Rattle.node_page.specs.Layout.{KeepsLayout}
use Rattle.node_page.specs.Numbers.{IsBytes, number_bytes, signed_bytes}

one_bit : (x y : ℕ) → x < 2 → y < 2 → (x == 1) ≡ (y == 1) → x ≡ y
one_bit x y low low' same = grind arith

pub record AreAlike (one other : List ℕ) : Type 0 where
  pub size : IsBlock one
  pub size' : IsBlock other
  pub fits : IsBytes one
  pub fits' : IsBytes other
  pub keeps : KeepsLayout one
  pub keeps' : KeepsLayout other
  pub level : level_at one ≡ level_at other
  pub coefs : (n : ℕ) → n < 127 → coef_at one n ≡ coef_at other n
  pub children : (c : ℕ) → c < 128 → child_at one c ≡ child_at other c

left_flag : (n : ℕ) (one other : List ℕ) → coef_at one n ≡ coef_at other n → flag_at one (2 * n) ≡ flag_at other (2 * n)
unfolding coef_at
left_flag n one other same = ap (λ (c : Coef). c.left) same

right_flag : (n : ℕ) (one other : List ℕ) → coef_at one n ≡ coef_at other n → flag_at one (2 * n + 1) ≡ flag_at other (2 * n + 1)
unfolding coef_at
right_flag n one other same = ap (λ (c : Coef). c.right) same

least_same : (n : ℕ) (one other : List ℕ) → coef_at one n ≡ coef_at other n → signed_at one (40 + 16 * n) ≡ signed_at other (40 + 16 * n)
unfolding coef_at
least_same n one other same = ap (λ (c : Coef). c.dmin) same

greatest_same : (n : ℕ) (one other : List ℕ) → coef_at one n ≡ coef_at other n
    → signed_at one (40 + 16 * n + 8) ≡ signed_at other (40 + 16 * n + 8)
unfolding coef_at
greatest_same n one other same = ap (λ (c : Coef). c.dmax) same

moved_flag : (b c : ℕ) (one other : List ℕ) → b ≡ c → flag_at one c ≡ flag_at other c → flag_at one b ≡ flag_at other b
moved_flag b c one other is same = ap (flag_at one) is ∙ same ∙ ap (flag_at other) (sym is)

node_flag : (b : ℕ) (one other : List ℕ) → AreAlike one other → b < 254 → flag_at one b ≡ flag_at other b
node_flag b one other alike low =
    let n = b / 2 in
    let coef : coef_at one n ≡ coef_at other n = alike.coefs n (omega (arith, low)) in
    elim (cases_lt (2 * n) b) [
      | inl odd ↦ moved_flag b (2 * n + 1) one other (omega (arith, odd)) (right_flag n one other coef)
      | inr even ↦ moved_flag b (2 * n) one other (omega (arith, even)) (left_flag n one other coef)
    ]

every_flag : (b : ℕ) (one other : List ℕ) → AreAlike one other → b < 256 → flag_at one b ≡ flag_at other b
every_flag b one other alike low = elim (cases_lt b 254) [
  | inl node ↦ node_flag b one other alike node
  | inr spare ↦ elim (cases_lt b 255) [
    | inl even ↦ moved_flag b 254 one other (omega (arith, even, spare)) (alike.keeps.flags.spare_even ∙ sym alike.keeps'.flags.spare_even)
    | inr odd ↦ moved_flag b 255 one other (omega (arith, low, odd)) (alike.keeps.flags.spare_odd ∙ sym alike.keeps'.flags.spare_odd)
  ]
]

flag_bit : (k i b : ℕ) (one other : List ℕ) → 8 + b / 8 ≡ k → b % 8 ≡ i → flag_at one b ≡ flag_at other b
    → bit_at (get_or one k 0) i ≡ bit_at (get_or other k 0) i
unfolding flag_at
flag_bit k i b one other byte bit same =
    let moved : bit_at (get_or one (8 + b / 8) 0) (b % 8) ≡ bit_at (get_or other (8 + b / 8) 0) (b % 8) =
    one_bit _ _ (bit_at-lt (get_or one (8 + b / 8) 0) (b % 8)) (bit_at-lt (get_or other (8 + b / 8) 0) (b % 8)) same in
    ap (λ (j : ℕ). bit_at (get_or one j 0) i) (sym byte) ∙ ap (bit_at (get_or one (8 + b / 8) 0)) (sym bit) ∙ moved
    ∙ ap (bit_at (get_or other (8 + b / 8) 0)) bit ∙ ap (λ (j : ℕ). bit_at (get_or other j 0) i) byte

flag_byte : (k : ℕ) (one other : List ℕ) → AreAlike one other → 8 ≤ k → k < 40 → get_or one k 0 ≡ get_or other k 0
flag_byte k one other alike low high =
    same_from_bits_below 8 (get_or one k 0) (get_or other k 0) (alike.fits k) (alike.fits' k) (λ i few.
    let b = 8 * (k - 8) + i in
    flag_bit k i b one other (omega (arith, low, few)) (omega (arith, few)) (every_flag b one other alike (omega (arith, low, high, few))))

difference_byte : (k : ℕ) (one other : List ℕ) → AreAlike one other → 40 ≤ k → k < 2072 → get_or one k 0 ≡ get_or other k 0
difference_byte k one other alike low high =
    let n = (k - 40) / 16 in
    let coef : coef_at one n ≡ coef_at other n = alike.coefs n (omega (arith, low, high)) in
    elim (cases_lt k (40 + 16 * n + 8)) [
      | inl least ↦ signed_bytes (40 + 16 * n) one other alike.fits alike.fits' (least_same n one other coef) k (omega (arith, low))
          (omega (arith, least))
      | inr greatest ↦ signed_bytes (40 + 16 * n + 8) one other alike.fits alike.fits' (greatest_same n one other coef) k greatest
          (omega (arith, low))
    ]

child_byte : (k : ℕ) (one other : List ℕ) → AreAlike one other → 2072 ≤ k → k < 2584 → get_or one k 0 ≡ get_or other k 0
unfolding child_at
child_byte k one other alike low high =
    let c = (k - 2072) / 4 in
    number_bytes 4 (2072 + 4 * c) one other alike.fits alike.fits' (alike.children c (omega (arith, low, high))) k (omega (arith, low))
    (omega (arith, low))

front_byte : (k : ℕ) (one other : List ℕ) → AreAlike one other → k < 8 → get_or one k 0 ≡ get_or other k 0
unfolding level_at
front_byte zero one other alike high = alike.keeps.kind ∙ sym alike.keeps'.kind
front_byte (suc zero) one other alike high = alike.level
front_byte (suc (suc k)) one other alike high =
    alike.keeps.reserved (suc (suc k)) (inl (omega arith, high)) ∙ sym (alike.keeps'.reserved (suc (suc k)) (inl (omega arith, high)))

any_byte : (k : ℕ) (one other : List ℕ) → AreAlike one other → k < block_size → get_or one k 0 ≡ get_or other k 0
any_byte k one other alike within = elim (cases_lt k 8) [
  | inl front ↦ front_byte k one other alike front
  | inr flags ↦ elim (cases_lt k 40) [
    | inl flag ↦ flag_byte k one other alike flags flag
    | inr differences ↦ elim (cases_lt k 2072) [
      | inl difference ↦ difference_byte k one other alike differences difference
      | inr children ↦ elim (cases_lt k 2584) [
        | inl child ↦ child_byte k one other alike children child
        | inr spare ↦ alike.keeps.reserved k (inr (spare, within)) ∙ sym (alike.keeps'.reserved k (inr (spare, within)))
      ]
    ]
  ]
]

pub alike_same : (one other : List ℕ) → AreAlike one other → one ≡ other
alike_same one other alike =
    same_number_lists one other (alike.size ∙ sym alike.size') (λ k low. any_byte k one other alike (omega (arith, low, alike.size)))
