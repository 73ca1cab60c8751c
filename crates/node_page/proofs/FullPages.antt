-- A page in which all flags of the nodes are set.
use Rattle.std.proofs.Common.{◌≡◌, ℕ, zero, suc, ◌+◌, ◌*◌, ◌/◌, ◌%◌, ◌<◌, ◌≤◌, Bool, true, false, ◌||◌, ◌==◌, List, get_or, inl, inr, refl}
use Rattle.std.proofs.Common.{sym, ap, ◌∙◌, arith}
use Rattle.std.proofs.lemmas.Bool.{cases_lt}
use Rattle.std.specs.Int.{bit_at}
use Rattle.node_page.specs.Fields.{flag_at, coef_at}
use Rattle.node_page.specs.Layout.{AreFlags, IsFullOrFlat}
use Rattle.node_page.proofs.Differences.{flag_of_full, both}

bit_of_last : (i : ℕ) → i < 6 → (bit_at 63 i == 1) ≡ true
bit_of_last zero few = refl
bit_of_last (suc zero) few = refl
bit_of_last (suc (suc zero)) few = refl
bit_of_last (suc (suc (suc zero))) few = refl
bit_of_last (suc (suc (suc (suc zero)))) few = refl
bit_of_last (suc (suc (suc (suc (suc zero))))) few = refl
bit_of_last (suc (suc (suc (suc (suc (suc i)))))) few = absurd (omega (arith, few))

flag_in_last : (page : List ℕ) (flag : ℕ) → get_or page 39 0 ≡ 63 → 248 ≤ flag → flag < 254 → flag_at page flag ≡ true
unfolding flag_at
flag_in_last page flag last low high =
    let byte : flag / 8 ≡ 31 = omega (arith, low, high) in
    ap (λ (b : ℕ). bit_at (get_or page (8 + b) 0) (flag % 8) == 1) byte ∙ ap (λ (x : ℕ). bit_at x (flag % 8) == 1) last
    ∙ bit_of_last (flag % 8) (omega (arith, low, high))

-- all flags of the nodes are set
all_set : (page : List ℕ) → ((k : ℕ) → k < 31 → get_or page (8 + k) 0 ≡ 255) → get_or page 39 0 ≡ 63 → (flag : ℕ) → flag < 254
    → flag_at page flag ≡ true
all_set page full last flag few = elim (cases_lt flag 248) [
  | inl before ↦ flag_of_full page (flag / 8) flag (full (flag / 8) (omega (arith, before))) refl
  | inr here ↦ flag_in_last page flag last here few
]

spare_unset : (page : List ℕ) → get_or page 39 0 ≡ 63 → (flag_at page 254 ≡ false) × (flag_at page 255 ≡ false)
unfolding flag_at
spare_unset page last = (ap (λ (x : ℕ). bit_at x 6 == 1) last, ap (λ (x : ℕ). bit_at x 7 == 1) last)

either : (left right : Bool) → left ≡ true → (left || right) ≡ true
either left right l = ap (λ (b : Bool). b || right) l

pub flags_of_full : (page : List ℕ) → ((k : ℕ) → k < 31 → get_or page (8 + k) 0 ≡ 255) → get_or page 39 0 ≡ 63 → AreFlags page
unfolding coef_at
flags_of_full page full last =
    let set = all_set page full last in
    let stored : (n : ℕ) → n < 127 → (flag_at page (2 * n) || flag_at page (2 * n + 1)) ≡ true = λ n few. either (flag_at page (2 * n))
    (flag_at page (2 * n + 1)) (set (2 * n) (omega (arith, few))) in
    record {
      top = stored 0 (omega arith);
      left = λ n few. stored (2 * n + 1) (omega (arith, few)) ∙ sym (set (2 * n) (omega (arith, few)));
      right = λ n few. stored (2 * n + 2) (omega (arith, few)) ∙ sym (set (2 * n + 1) (omega (arith, few)));
      spare_even = (spare_unset page last).0;
      spare_odd = (spare_unset page last).1;
    }

pub nodes_of_full : (page : List ℕ) → ((k : ℕ) → k < 31 → get_or page (8 + k) 0 ≡ 255) → get_or page 39 0 ≡ 63 → (n : ℕ) → n < 127
    → IsFullOrFlat page n
unfolding coef_at
nodes_of_full page full last n few half =
    let set = all_set page full last in
    absurd (both (flag_at page (2 * n)) (flag_at page (2 * n + 1)) (set (2 * n) (omega (arith, few)))
    (set (2 * n + 1) (omega (arith, few))) half)
