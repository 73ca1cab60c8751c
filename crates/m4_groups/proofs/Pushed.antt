-- The rows of points, with a point after the last.
use Rattle.std.proofs.Common.{ℕ, ℤ, zero, subst, ◌≡◌, arith, refl, suc, length, get_or, set, ap, ap₂, sym, ◌∙◌, List, [], ◌∷◌, ◌++◌, Bool}
use Rattle.std.proofs.Common.{true, false, cond, ◌==◌, eqb-true, eq-eqb}
use Rattle.std.specs.Int.{int_min, int_max}
use Rattle.std.proofs.lemmas.Int.{ints, clamps}
use Rattle.line_raster.specs.declared.position.Point.{Point}
use Rattle.m4_groups.specs.declared.row.Row.{Row}
use Rattle.m4_groups.specs.Folded.{row_of_one, row_from, put_first, rows_from, row_to, end_with, put_last}

least_of_three : (a b c : ℤ) → int_min a (int_min b c) ≡ int_min (int_min a b) c
least_of_three a b c = omega (arith, ints, clamps)

greatest_of_three : (a b c : ℤ) → int_max a (int_max b c) ≡ int_max (int_max a b) c
greatest_of_three a b c = omega (arith, ints, clamps)

both_ends : (p s : Point) (r : Row) → row_from p (row_to r s.y) ≡ row_to (row_from p r) s.y
both_ends p s r =
    let row : ℤ → ℤ → Row = λ a b. record { column = r.column; first = p.y; least = a; greatest = b; last = s.y } in
    ap₂ row (least_of_three p.y r.least s.y) (greatest_of_three p.y r.greatest s.y)

at_true : (b : Bool) (x y : List Row) → b ≡ true → cond b x y ≡ x
at_true b x y e = rw e

at_false : (b : Bool) (x y : List Row) → b ≡ false → cond b x y ≡ y
at_false b x y e = rw e

same_turned : (a b : ℕ) → a ≡ b → (b == a) ≡ true
same_turned a b e = eq-eqb b a (sym e)

apart_turned : (a b : ℕ) → (a == b) ≡ false → (b == a) ≡ false
apart_turned a b e = grind arith

one_column : (p s : Point) → p.x ≡ s.x → row_from p (row_of_one s) ≡ row_to (row_of_one p) s.y
one_column p s e =
    let row : ℕ → Row = λ c. record { column = c; first = p.y; least = int_min p.y s.y; greatest = int_max p.y s.y; last = s.y } in
    ap row (sym e)

two_points : (p s : Point) → put_first p (row_of_one s ∷ []) ≡ end_with (row_of_one p) s
two_points p s =
    elim (p.x == s.x) as (λ t. (p.x == s.x) ≡ t → put_first p (row_of_one s ∷ []) ≡ end_with (row_of_one p) s) [
      | true ↦ λ e. at_true (p.x == s.x) _ _ e
          ∙ ap (λ r. r ∷ []) (one_column p s (eqb-true p.x s.x e))
          ∙ sym (at_true (s.x == p.x) _ _ (same_turned p.x s.x (eqb-true p.x s.x e)))
      | false ↦ λ e. at_false (p.x == s.x) _ _ e ∙ sym (at_false (s.x == p.x) _ _ (apart_turned p.x s.x e))
    ] refl

ends_joined : (p s : Point) (r : Row) → (s.x == r.column) ≡ true → put_first p (row_to r s.y ∷ []) ≡ put_last (put_first p (r ∷ [])) s
ends_joined p s r e =
    elim (p.x == r.column) as (λ u. cond u (row_from p (row_to r s.y) ∷ []) (row_of_one p ∷ (row_to r s.y ∷ []))
    ≡ put_last (cond u (row_from p r ∷ []) (row_of_one p ∷ (r ∷ []))) s) [
      | true ↦ ap (λ q. q ∷ []) (both_ends p s r) ∙ sym (at_true (s.x == r.column) _ _ e)
      | false ↦ ap (λ l. row_of_one p ∷ l) (sym (at_true (s.x == r.column) _ _ e))
    ]

ends_parted : (p s : Point) (r : Row) → (s.x == r.column) ≡ false
    → put_first p (r ∷ (row_of_one s ∷ [])) ≡ put_last (put_first p (r ∷ [])) s
ends_parted p s r e =
    elim (p.x == r.column) as (λ u. cond u (row_from p r ∷ (row_of_one s ∷ [])) (row_of_one p ∷ (r ∷ (row_of_one s ∷ [])))
    ≡ put_last (cond u (row_from p r ∷ []) (row_of_one p ∷ (r ∷ []))) s) [
      | true ↦ sym (at_false (s.x == r.column) _ _ e)
      | false ↦ ap (λ l. row_of_one p ∷ l) (sym (at_false (s.x == r.column) _ _ e))
    ]

ends_apart : (p s : Point) (r : Row) → put_first p (end_with r s) ≡ put_last (put_first p (r ∷ [])) s
ends_apart p s r =
    elim (s.x == r.column) as (λ t. (s.x == r.column) ≡ t
    → put_first p (cond t (row_to r s.y ∷ []) (r ∷ (row_of_one s ∷ []))) ≡ put_last (put_first p (r ∷ [])) s) [
      | true ↦ λ e. ends_joined p s r e
      | false ↦ λ e. ends_parted p s r e
    ] refl

more_apart : (p s : Point) (r q : Row) (rs : List Row) → put_first p (r ∷ put_last (q ∷ rs) s) ≡ put_last (put_first p (r ∷ (q ∷ rs))) s
more_apart p s r q rs =
    elim (p.x == r.column) as (λ u. cond u (row_from p r ∷ put_last (q ∷ rs) s) (row_of_one p ∷ (r ∷ put_last (q ∷ rs) s))
    ≡ put_last (cond u (row_from p r ∷ (q ∷ rs)) (row_of_one p ∷ (r ∷ (q ∷ rs)))) s) [
      | true ↦ refl
      | false ↦ refl
    ]

-- to put a point first and one last is free in order
pub put_apart : (p s : Point) (rs : List Row) → put_first p (put_last rs s) ≡ put_last (put_first p rs) s
put_apart p s [] = two_points p s
put_apart p s (r ∷ []) = ends_apart p s r
put_apart p s (r ∷ (q ∷ rs)) = more_apart p s r q rs

-- the rows of a list with a point after its last
pub rows_from-push : (ps : List Point) (s : Point) → rows_from (ps ++ s ∷ []) ≡ put_last (rows_from ps) s
rows_from-push [] s = refl
rows_from-push (p ∷ ps) s = ap (put_first p) (rows_from-push ps s) ∙ put_apart p s (rows_from ps)

-- a point in the column of the last row changes that row alone
pub put_last-same : (rs : List Row) (n : ℕ) (s : Point) (r : Row) → length rs ≡ suc n → r ≡ get_or rs n r → s.x ≡ r.column
    → put_last rs s ≡ set rs n (row_to r s.y)
put_last-same [] n s r l e same = absurd (omega (arith, l))
put_last-same (a ∷ []) zero s r l e same =
    let P : Row → Type 0 = λ q. end_with a s ≡ row_to q s.y ∷ [] in
    let own : s.x ≡ a.column = same ∙ ap (λ q. q.column) e in
    subst P (sym e) (at_true (s.x == a.column) _ _ (eq-eqb s.x a.column own))
put_last-same (a ∷ []) (suc n) s r l e same = absurd (omega (arith, l))
put_last-same (a ∷ (b ∷ rs)) zero s r l e same = absurd (omega (arith, l))
put_last-same (a ∷ (b ∷ rs)) (suc n) s r l e same =
    ap (λ q. a ∷ q) (put_last-same (b ∷ rs) n s r (omega (arith, l)) e same)
