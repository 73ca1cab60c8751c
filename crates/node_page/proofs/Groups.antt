-- Flags, differences and children of which several are looked at in one.
use Rattle.std.proofs.Common.{◌≡◌, ℕ, pos, zero, suc, ◌+◌, ◌-◌, ◌*◌, ◌/◌, ◌%◌, ◌<◌, ◌≤◌, ◌⊎◌, inl, inr, Bool, true, false, ◌||◌, ◌==◌, List}
use Rattle.std.proofs.Common.{get_or, refl, sym, ap, subst, ◌∙◌, arith}
use Rattle.std.proofs.lemmas.Bool.{cases_order}
use Rattle.std.specs.Int.{bit_at}
use Rattle.whole_number.specs.Range.{IsTime}
use Rattle.node_page.specs.Fields.{number_at, signed_at, flag_at, coef_at, child_at}
use Rattle.node_page.specs.Layout.{IsAgreed, IsChild, AreFourInRange, has_child}
use Rattle.node_page.proofs.Blank.{big_zero, bit_of_zero}
use Rattle.node_page.proofs.Differences.{bit_of_full, flag_of_child}
use mathlib.Core.Bool.{beq}

-- two tests that are found to be the same
pub same_if : (a b : Bool) → beq a b ≡ true → a ≡ b
same_if true true is = refl
same_if false false is = refl
same_if true false is = cc
same_if false true is = cc

pub if_same : (a b : Bool) → a ≡ b → beq a b ≡ true
if_same true true same = refl
if_same false false same = refl
if_same true false same = cc
if_same false true same = cc

-- all bits of a byte are so
abbrev pub IsAll : ℕ → Bool → Type 0
IsAll byte on = (i : ℕ) → i < 8 → (bit_at byte i == 1) ≡ on

flag_of : (page : List ℕ) (byte flag v : ℕ) (on : Bool) → get_or page (8 + byte) 0 ≡ v → IsAll v on → flag / 8 ≡ byte
    → flag_at page flag ≡ on
unfolding flag_at
flag_of page byte flag v on is all place =
    ap (λ (b : ℕ). bit_at (get_or page (8 + b) 0) (flag % 8) == 1) place ∙ ap (λ (x : ℕ). bit_at x (flag % 8) == 1) is
    ∙ all (flag % 8) (omega arith)

-- three bytes of flags, one behind another
pub record AreThree (page : List ℕ) (byte v : ℕ) : Type 0 where
  pub first : get_or page (8 + byte) 0 ≡ v
  pub second : get_or page (8 + byte + 1) 0 ≡ v
  pub third : get_or page (8 + byte + 2) 0 ≡ v

flag_of_three : (page : List ℕ) (byte flag v rest : ℕ) (on : Bool) → AreThree page byte v → IsAll v on → flag / 8 ≡ byte + rest → rest < 3
    → flag_at page flag ≡ on
flag_of_three page byte flag v zero on three all place few = flag_of page byte flag v on three.first all (omega (arith, place))
flag_of_three page byte flag v (suc zero) on three all place few =
    flag_of page (byte + 1) flag v on (ap (λ (k : ℕ). get_or page k 0) (omega arith) ∙ three.second) all place
flag_of_three page byte flag v (suc (suc zero)) on three all place few =
    flag_of page (byte + 2) flag v on (ap (λ (k : ℕ). get_or page k 0) (omega arith) ∙ three.third) all place
flag_of_three page byte flag v (suc (suc (suc rest))) on three all place few = absurd (omega (arith, few))

either_same : (one other on : Bool) → one ≡ on → other ≡ on → (one || other) ≡ on
either_same one other true is is' = ap (λ (b : Bool). b || other) is
either_same one other false is is' = ap (λ (b : Bool). b || other) is ∙ is'

agreed_by : (page : List ℕ) (byte n v : ℕ) (on : Bool) → get_or page (8 + byte) 0 ≡ v → AreThree page (2 * byte) v → IsAll v on
    → 4 * byte ≤ n → n < 4 * byte + 4 → IsAgreed page n
unfolding coef_at
agreed_by page byte n v on above below all low high =
    let flag : (b : ℕ) → 4 * n + 2 ≤ b → b < 4 * n + 6 → flag_at page b ≡ on = λ b from to.
    let start : 2 * byte ≤ b / 8 = omega (arith, low, from) in
    flag_of_three page (2 * byte) b v (b / 8 - 2 * byte) on below all (omega (arith, start)) (omega (arith, high, to, start)) in
    let left : flag_at page (2 * n) ≡ on = flag_of page byte (2 * n) v on above all (omega (arith, low, high)) in
    let right : flag_at page (2 * n + 1) ≡ on = flag_of page byte (2 * n + 1) v on above all (omega (arith, low, high)) in (
      either_same _ _ on (flag (2 * (2 * n + 1)) (omega arith) (omega arith)) (flag (2 * (2 * n + 1) + 1) (omega arith) (omega arith))
          ∙ sym left,
      either_same _ _ on (flag (2 * (2 * n + 2)) (omega arith) (omega arith)) (flag (2 * (2 * n + 2) + 1) (omega arith) (omega arith))
          ∙ sym right,
    )

-- where the flags of four nodes and those of the bytes below are all set, or none is, the nodes agree
pub alike_agreed : (page : List ℕ) (byte n v : ℕ) → get_or page (8 + byte) 0 ≡ v → AreThree page (2 * byte) v → (v ≡ 0) ⊎ (v ≡ 255)
    → 4 * byte ≤ n → n < 4 * byte + 4 → IsAgreed page n
alike_agreed page byte n v above below (inl none) low high =
    let all : IsAll v false = λ i few. ap (λ (x : ℕ). bit_at x i == 1) none ∙ bit_of_zero i few in
    agreed_by page byte n v false above below all low high
alike_agreed page byte n v above below (inr full) low high =
    let all : IsAll v true = λ i few. ap (λ (x : ℕ). bit_at x i == 1) full ∙ bit_of_full i few in
    agreed_by page byte n v true above below all low high

-- where the differences of four nodes are 0, they are in range
pub zero_in_range : (page : List ℕ) (byte : ℕ) → ((place : ℕ) → 8 * byte ≤ place → place < 8 * byte + 8
    → signed_at page (40 + 8 * place) ≡ pos 0) → AreFourInRange page byte
unfolding coef_at
zero_in_range page byte zeros n low high few =
    let first : 40 + 16 * n ≡ 40 + 8 * (2 * n) = omega arith in
    let second : 40 + 16 * n + 8 ≡ 40 + 8 * (2 * n + 1) = omega arith in
    let least : signed_at page (40 + 16 * n) ≡ pos 0 = ap (signed_at page) first
    ∙ zeros (2 * n) (omega (arith, low)) (omega (arith, high)) in
    let greatest : signed_at page (40 + 16 * n + 8) ≡ pos 0 = ap (signed_at page) second
    ∙ zeros (2 * n + 1) (omega (arith, low)) (omega (arith, high)) in
    let none : IsTime (pos 0) = omega arith in
    record {
      least = subst IsTime (sym least) none;
      greatest = subst IsTime (sym greatest) none;
      flat = λ _. (least, greatest);
    }

-- where the flags in the bytes of those above eight children and the children's numbers are 0, none is there
pub blank_children : (page : List ℕ) (group c : ℕ) → get_or page (23 + group) 0 ≡ 0 → get_or page (23 + group + 1) 0 ≡ 0
    → ((k : ℕ) → 2072 + 32 * group ≤ k → k < 2072 + 32 * group + 32 → get_or page k 0 ≡ 0) → 8 * group ≤ c → c < 8 * group + 8
    → IsChild page c
unfolding child_at number_at
blank_children page group c first second zeros low high =
    let none : child_at page c ≡ 0 = big_zero 4 (2072 + 4 * c) page
    (λ k from to. zeros k (omega (arith, low, from)) (omega (arith, high, to))) in
    let flag : flag_at page (126 + c) ≡ false = elim (cases_order ((126 + c) / 8) (15 + group)) [
      | inl same ↦ flag_of page (15 + group) (126 + c) 0 false (ap (λ (k : ℕ). get_or page k 0) (omega arith) ∙ first) bit_of_zero same
      | inr differ ↦
          let place : (126 + c) / 8 ≡ 16 + group = elim differ
          [ inl less ↦ absurd (omega (arith, less, low)) | inr more ↦ omega (arith, more, high) ] in
          flag_of page (16 + group) (126 + c) 0 false (ap (λ (k : ℕ). get_or page k 0) (omega arith) ∙ second) bit_of_zero place
    ] in
    let empty : has_child page c ≡ false = flag_of_child page c ∙ flag in
    record {
      lowest = λ _. none;
      empty = λ _. none;
      there = λ more there _. absurd (let no : has_child page c ≡ false = empty in cc (no, there));
    }
