-- Which numbers a list has with one more and with one less, and which of its numbers pass a test.
use Rattle.std.proofs.Common.{◌≡◌, ◌≢◌, ◌⊎◌, ℕ, zero, suc, Bool, true, false, not, ◌&&◌, List, [], ◌∷◌, refl, sym, ap, ◌∙◌, inl, inr, arith}
use Rattle.std.specs.Prelude.{Contains, filter, nat_eq, nat_lt, ◌==◌, ◌↔◌}
use Rattle.std.specs.Cmp.{nat_eq_equiv}
use Rattle.std.specs.Set.{is_member}
use Rattle.std.proofs.lemmas.Bool.{cases_lt}
use Rattle.std.proofs.lemmas.Bool.Decides.{Decides-eqb, Decides-not, nat_tests}
use Rattle.std.proofs.lemmas.List.Elements.{Contains-append_left, Contains-append_right, Contains-append_cases}
use Rattle.std.proofs.lemmas.Map.Made.{is_member-Decides, is_member-filter}
use Rattle.live_view.specs.Numbers.{with_number, without_number}

both : (a b : Bool) → (a && b) ≡ true → (a ≡ true) × (b ≡ true)
both true true test = (refl, refl)
both true false test = (refl, test)
both false b test = cc

join : (a b : Bool) → a ≡ true → b ≡ true → (a && b) ≡ true
join a b one two = ap (λ t. t && b) one ∙ two

-- the numbers that pass a test
pub contains-filter : (p : ℕ → Bool) (xs : List ℕ) (m : ℕ) → Contains (filter p xs) m ↔ (Contains xs m × (p m ≡ true))
contains-filter p xs m =
    let all = is_member-Decides Decides-eqb xs m in
    let some = is_member-Decides Decides-eqb (filter p xs) m in
    let is : is_member nat_eq (filter p xs) m ≡ (is_member nat_eq xs m && p m) =
    is_member-filter nat_eq_equiv p m (λ x same. ap p ((Decides-eqb m x).0 same)) xs in (
      (λ has. let tests = both (is_member nat_eq xs m) (p m) (sym is ∙ some.1 has) in (all.0 tests.0, tests.1)),
      (λ has. some.0 (is ∙ join (is_member nat_eq xs m) (p m) (all.1 has.0) has.1)),
    )

-- the only number
contains-one : (n m : ℕ) → Contains (n ∷ []) m → m ≡ n
contains-one n m (zero, below, is) = sym is
contains-one n m (suc k, below, is) = absurd (omega (arith, below))

-- one more
pub contains-with : (n m : ℕ) (xs : List ℕ) → Contains (with_number n xs) m ↔ ((m ≡ n) ⊎ Contains xs m)
contains-with n m xs =
    let low : List ℕ = filter (λ other. nat_lt other n) xs in
    let high : List ℕ = filter (λ other. nat_lt n other) xs in (
      (λ has. elim (Contains-append_cases low (n ∷ high) m has) [
        | inl below ↦ inr ((contains-filter (λ other. nat_lt other n) xs m).0 below).0
        | inr rest ↦ elim (Contains-append_cases (n ∷ []) high m rest) [
          | inl here ↦ inl (contains-one n m here)
          | inr above ↦ inr ((contains-filter (λ other. nat_lt n other) xs m).0 above).0
        ]
      ]),
      (λ either. elim either [
        | inl same ↦ Contains-append_right low (n ∷ high) m (0, omega arith, sym same)
        | inr there ↦ elim (cases_lt m n) [
          | inl less ↦ let test : nat_lt m n ≡ true = grind (arith, nat_tests) in
              Contains-append_left low (n ∷ high) m ((contains-filter (λ other. nat_lt other n) xs m).1 (there, test))
          | inr most ↦ elim (cases_lt n m) [
            | inl more ↦ let test : nat_lt n m ≡ true = grind (arith, nat_tests) in
                Contains-append_right low (n ∷ high) m
                (Contains-append_right (n ∷ []) high m ((contains-filter (λ other. nat_lt n other) xs m).1 (there, test)))
            | inr least ↦ let same : m ≡ n = omega (arith, most, least) in Contains-append_right low (n ∷ high) m (0, omega arith, sym same)
          ]
        ]
      ]),
    )

-- one less
pub contains-without : (n m : ℕ) (xs : List ℕ) → Contains (without_number n xs) m ↔ (Contains xs m × (m ≢ n))
contains-without n m xs =
    let test = Decides-not (m == n) (Decides-eqb m n) in
    let kept = contains-filter (λ other. not (other == n)) xs m in
    ((λ has. ((kept.0 has).0, test.0 (kept.0 has).1)), (λ has. kept.1 (has.0, test.1 has.1)))
