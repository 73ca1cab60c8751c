-- The codes of the commands.
use Rattle.std.proofs.Common.{◌≡◌, ℕ, zero, suc, Bool, true, false, List, [], ◌∷◌, refl, ap, subst, sym, ◌∙◌, arith}
use Rattle.std.specs.Prelude.{Contains, if◌then◌else◌}

-- whether two numbers are the same, step by step
abbrev same : ℕ → ℕ → Bool
same zero zero = true
same zero (suc b) = false
same (suc a) zero = false
same (suc a) (suc b) = same a b

same_self : (n : ℕ) → same n n ≡ true
same_self zero = refl
same_self (suc n) = same_self n

-- whether a number is in a list
abbrev pub has : List ℕ → ℕ → Bool
has [] n = false
has (c ∷ l) n = if same c n then true else has l n

if_else : (b x : Bool) → x ≡ true → (if b then true else x) ≡ true
if_else true x is = refl
if_else false x is = is

contains_has : (l : List ℕ) (code : ℕ) → Contains l code → has l code ≡ true
contains_has [] code (k, inside, is) = absurd (omega (arith, inside))
contains_has (c ∷ l) code (zero, inside, is) =
    let P : ℕ → Type 0 = λ n. has (c ∷ l) n ≡ true in
    subst P is (ap (λ (b : Bool). if b then true else has l c) (same_self c))
contains_has (c ∷ l) code (suc k, inside, is) = if_else (same c code) (has l code) (contains_has l code (k, omega (arith, inside), is))

-- a code of the list is no other number
pub never : (l : List ℕ) (code n : ℕ) → Contains l code → has l n ≡ false → code ≡ n → ⊥
never l code n inside outside is =
    let P : ℕ → Type 0 = λ m. has l m ≡ true in
    let both : true ≡ false = sym (subst P is (contains_has l code inside)) ∙ outside in
    cc

-- the codes of the commands that serve lines
abbrev pub of_lines : List ℕ
of_lines = 0 ∷ 3 ∷ 4 ∷ 5 ∷ 6 ∷ 7 ∷ 9 ∷ 10 ∷ 11 ∷ 12 ∷ 15 ∷ []

abbrev pub of_serve : List ℕ
of_serve = 0 ∷ 3 ∷ 4 ∷ 5 ∷ 6 ∷ 7 ∷ 9 ∷ 12 ∷ []

abbrev pub of_run : List ℕ
of_run = 0 ∷ 3 ∷ 4 ∷ 5 ∷ 6 ∷ 7 ∷ 9 ∷ 10 ∷ 11 ∷ 12 ∷ []

-- no client stands in the way of `serve`, and none of those that `run` has lacks a session
pub serve_codes : (code : ℕ) → Contains of_lines code → (code ≡ 10 → ⊥) → (code ≡ 11 → ⊥) → (code ≡ 15 → ⊥) → Contains of_serve code
serve_codes code (zero, inside, is) missing misfit opened = (0, omega arith, is)
serve_codes code (suc zero, inside, is) missing misfit opened = (1, omega arith, is)
serve_codes code (suc (suc zero), inside, is) missing misfit opened = (2, omega arith, is)
serve_codes code (suc (suc (suc zero)), inside, is) missing misfit opened = (3, omega arith, is)
serve_codes code (suc (suc (suc (suc zero))), inside, is) missing misfit opened = (4, omega arith, is)
serve_codes code (suc (suc (suc (suc (suc zero)))), inside, is) missing misfit opened = (5, omega arith, is)
serve_codes code (suc (suc (suc (suc (suc (suc zero))))), inside, is) missing misfit opened = (6, omega arith, is)
serve_codes code (suc (suc (suc (suc (suc (suc (suc zero)))))), inside, is) missing misfit opened = absurd (missing (sym is))
serve_codes code (suc (suc (suc (suc (suc (suc (suc (suc zero))))))), inside, is) missing misfit opened = absurd (misfit (sym is))
serve_codes code (suc (suc (suc (suc (suc (suc (suc (suc (suc zero)))))))), inside, is) missing misfit opened = (7, omega arith, is)
serve_codes code (
  suc (suc (suc (suc (suc (suc (suc (suc (suc (suc zero))))))))),
  inside,
  is,
) missing misfit opened = absurd (opened (sym is))
serve_codes code (
  suc (suc (suc (suc (suc (suc (suc (suc (suc (suc (suc k)))))))))),
  inside,
  is,
) missing misfit opened = absurd (omega (arith, inside))

pub run_codes : (code : ℕ) → Contains of_lines code → (code ≡ 15 → ⊥) → Contains of_run code
run_codes code (zero, inside, is) opened = (0, omega arith, is)
run_codes code (suc zero, inside, is) opened = (1, omega arith, is)
run_codes code (suc (suc zero), inside, is) opened = (2, omega arith, is)
run_codes code (suc (suc (suc zero)), inside, is) opened = (3, omega arith, is)
run_codes code (suc (suc (suc (suc zero))), inside, is) opened = (4, omega arith, is)
run_codes code (suc (suc (suc (suc (suc zero)))), inside, is) opened = (5, omega arith, is)
run_codes code (suc (suc (suc (suc (suc (suc zero))))), inside, is) opened = (6, omega arith, is)
run_codes code (suc (suc (suc (suc (suc (suc (suc zero)))))), inside, is) opened = (7, omega arith, is)
run_codes code (suc (suc (suc (suc (suc (suc (suc (suc zero))))))), inside, is) opened = (8, omega arith, is)
run_codes code (suc (suc (suc (suc (suc (suc (suc (suc (suc zero)))))))), inside, is) opened = (9, omega arith, is)
run_codes code (suc (suc (suc (suc (suc (suc (suc (suc (suc (suc zero))))))))), inside, is) opened = absurd (opened (sym is))
run_codes code (suc (suc (suc (suc (suc (suc (suc (suc (suc (suc (suc k)))))))))), inside, is) opened = absurd (omega (arith, inside))

pub lines_codes : (code : ℕ) → Contains of_lines code
    → Contains (0 ∷ 3 ∷ 4 ∷ 5 ∷ 6 ∷ 7 ∷ 8 ∷ 9 ∷ 10 ∷ 11 ∷ 12 ∷ 13 ∷ 14 ∷ 15 ∷ 16 ∷ 17 ∷ []) code
lines_codes code (zero, inside, is) = (0, omega arith, is)
lines_codes code (suc zero, inside, is) = (1, omega arith, is)
lines_codes code (suc (suc zero), inside, is) = (2, omega arith, is)
lines_codes code (suc (suc (suc zero)), inside, is) = (3, omega arith, is)
lines_codes code (suc (suc (suc (suc zero))), inside, is) = (4, omega arith, is)
lines_codes code (suc (suc (suc (suc (suc zero)))), inside, is) = (5, omega arith, is)
lines_codes code (suc (suc (suc (suc (suc (suc zero))))), inside, is) = (7, omega arith, is)
lines_codes code (suc (suc (suc (suc (suc (suc (suc zero)))))), inside, is) = (8, omega arith, is)
lines_codes code (suc (suc (suc (suc (suc (suc (suc (suc zero))))))), inside, is) = (9, omega arith, is)
lines_codes code (suc (suc (suc (suc (suc (suc (suc (suc (suc zero)))))))), inside, is) = (10, omega arith, is)
lines_codes code (suc (suc (suc (suc (suc (suc (suc (suc (suc (suc zero))))))))), inside, is) = (13, omega arith, is)
lines_codes code (suc (suc (suc (suc (suc (suc (suc (suc (suc (suc (suc k)))))))))), inside, is) = absurd (omega (arith, inside))
