-- Drawn rows are the raster of the points.
use Rattle.std.proofs.Common.{ℕ, ℤ, ◌≡◌, ◌⊎◌, ◌↔◌, inl, inr, arith, refl, sym, subst, List, [], ◌∷◌, true, false, cond, ◌==◌, eqb-true, ap₂}
use Rattle.std.proofs.lemmas.Int.{ints, clamps}
use Rattle.line_raster.specs.declared.position.Point.{Point}
use Rattle.line_raster.specs.Segment.{On, InFill}
use Rattle.line_raster.specs.Raster.{IsAt, AlongPoints}
use Rattle.m4_groups.specs.declared.row.Row.{Row}
use Rattle.m4_groups.specs.Drawn.{first_of, Drawn}
use Rattle.m4_groups.specs.Folded.{row_of_one, row_from, put_first, rows_from}
use Rattle.m4_groups.proofs.Vertical.{Begins, filled_from, fills_on, fills_more, fills_at}

-- the rows of a list that has a point: the first row, and the others
pub record Starts (q : Point) (rows : List Row) : Type 0 where
  pub row : Row
  pub rest : List Row
  pub is : rows ≡ row ∷ rest
  pub begins : Begins q row

one_starts : (q : Point) (rest : List Row) → Starts q (row_of_one q ∷ rest)
one_starts q rest = record {
  row = row_of_one q;
  rest = rest;
  is = refl;
  begins = record { column = refl; first = refl; low = omega (arith, ints); high = omega (arith, ints) };
}

more_starts : (q : Point) (r : Row) (rest : List Row) → q.x ≡ r.column → Starts q (row_from q r ∷ rest)
more_starts q r rest e = record {
  row = row_from q r;
  rest = rest;
  is = refl;
  begins = record { column = sym e; first = refl; low = omega (arith, ints, clamps); high = omega (arith, ints, clamps) };
}

put_starts : (q : Point) (rs : List Row) → Starts q (put_first q rs)
put_starts q [] = one_starts q []
put_starts q (r ∷ rs) =
    elim (q.x == r.column) as (λ b. (q.x == r.column) ≡ b → Starts q (cond b (row_from q r ∷ rs) (row_of_one q ∷ (r ∷ rs)))) [
      | true ↦ λ e. more_starts q r rs (eqb-true q.x r.column e)
      | false ↦ λ e. one_starts q (r ∷ rs)
    ] refl

pub starts : (q : Point) (ps : List Point) → Starts q (rows_from (q ∷ ps))
starts q ps = put_starts q (rows_from ps)

-- a point in the column of the row that follows
same_column : (p q : Point) (r : Row) (rs : List Row) (x : ℕ) (y : ℤ) → p.x ≡ r.column → Begins q r
    → (IsAt p x y ⊎ (On p q x y ⊎ Drawn (r ∷ rs) x y)) ↔ Drawn (row_from p r ∷ rs) x y
same_column p q r rs x y e b = (to, back)
  where
    to : IsAt p x y ⊎ (On p q x y ⊎ Drawn (r ∷ rs) x y) → Drawn (row_from p r ∷ rs) x y
    to (inl at) = inl (fills_at p q r x y e b at)
    to (inr (inl on)) = inl (fills_on p q r x y e b on)
    to (inr (inr (inl fill))) = inl (fills_more p r x y fill)
    to (inr (inr (inr rest))) = inr rest

    back : Drawn (row_from p r ∷ rs) x y → IsAt p x y ⊎ (On p q x y ⊎ Drawn (r ∷ rs) x y)
    back (inl fill) = elim (filled_from p q r x y e b fill) [ inl on ↦ inr (inl on) | inr own ↦ inr (inr (inl own)) ]
    back (inr rest) = inr (inr (inr rest))

-- the point at which a row begins is its first one
first_is : (q : Point) (r : Row) → Begins q r → first_of r ≡ q
first_is q r b =
    let P : ℕ → ℤ → Point = λ a c. record { x = a; y = c } in
    ap₂ P b.column b.first

-- a pixel of a row of one point is that point
one_fill : (p : Point) (x : ℕ) (y : ℤ) → IsAt p x y ↔ InFill p.x p.y p.y x y
one_fill p x y = (
  λ at. record { here = at.column; above = omega (arith, ints, at.row); below = omega (arith, ints, at.row) },
  λ fill. record { column = fill.here; row = omega (arith, ints, fill.above, fill.below) },
)

-- a point before the column of the row that follows
new_column : (p q : Point) (r : Row) (rs : List Row) (x : ℕ) (y : ℤ) → Begins q r
    → (IsAt p x y ⊎ (On p q x y ⊎ Drawn (r ∷ rs) x y)) ↔ Drawn (row_of_one p ∷ (r ∷ rs)) x y
new_column p q r rs x y b = (to, back)
  where
    to : IsAt p x y ⊎ (On p q x y ⊎ Drawn (r ∷ rs) x y) → Drawn (row_of_one p ∷ (r ∷ rs)) x y
    to (inl at) = inl ((one_fill p x y).0 at)
    to (inr (inl on)) =
        let P : Point → Type 0 = λ s. On p s x y in
        inr (inl (subst P (sym (first_is q r b)) on))
    to (inr (inr rest)) = inr (inr rest)

    back : Drawn (row_of_one p ∷ (r ∷ rs)) x y → IsAt p x y ⊎ (On p q x y ⊎ Drawn (r ∷ rs) x y)
    back (inl fill) = inl ((one_fill p x y).1 fill)
    back (inr (inl on)) =
        let P : Point → Type 0 = λ s. On p s x y in
        inr (inl (subst P (first_is q r b) on))
    back (inr (inr rest)) = inr (inr rest)

-- the pixels of a point more, where those of the rest are drawn as rows
one_more : (p q : Point) (r : Row) (rs : List Row) (x : ℕ) (y : ℤ) → Begins q r
    → (IsAt p x y ⊎ (On p q x y ⊎ Drawn (r ∷ rs) x y)) ↔ Drawn (put_first p (r ∷ rs)) x y
one_more p q r rs x y b =
    elim (p.x == r.column) as (λ t. (p.x == r.column) ≡ t
    → (IsAt p x y ⊎ (On p q x y ⊎ Drawn (r ∷ rs) x y)) ↔ Drawn (cond t (row_from p r ∷ rs) (row_of_one p ∷ (r ∷ rs))) x y) [
      | true ↦ λ e. same_column p q r rs x y (eqb-true p.x r.column e) b
      | false ↦ λ e. new_column p q r rs x y b
    ] refl

replaced : (A B C D E : Type 0) → A ↔ B → (C ⊎ (D ⊎ B)) ↔ E → (C ⊎ (D ⊎ A)) ↔ E
replaced A B C D E ab cde = (
  λ h. cde.0 (elim h [ inl k ↦ inl k | inr k ↦ elim k [ inl m ↦ inr (inl m) | inr m ↦ inr (inr (ab.0 m)) ] ]),
  λ e. elim (cde.1 e) [ inl k ↦ inl k | inr k ↦ elim k [ inl m ↦ inr (inl m) | inr m ↦ inr (inr (ab.1 m)) ] ],
)

extended : (p q : Point) (rs : List Row) (x : ℕ) (y : ℤ) (A : Type 0) → Starts q rs → A ↔ Drawn rs x y
    → (IsAt p x y ⊎ (On p q x y ⊎ A)) ↔ Drawn (put_first p rs) x y
extended p q rs x y A s ih =
    let P : List Row → Type 0 = λ l. A ↔ Drawn l x y → (IsAt p x y ⊎ (On p q x y ⊎ A)) ↔ Drawn (put_first p l) x y in
    subst P (sym s.is)
    (λ same. replaced A (Drawn (s.row ∷ s.rest) x y) (IsAt p x y) (On p q x y) (Drawn (put_first p (s.row ∷ s.rest)) x y) same
    (one_more p q s.row s.rest x y s.begins))
    ih

one_point : (p : Point) (x : ℕ) (y : ℤ) → AlongPoints (p ∷ []) x y ↔ Drawn (row_of_one p ∷ []) x y
one_point p x y = (
  λ h. elim h [ inl at ↦ inl ((one_fill p x y).0 at) | inr k ↦ inr k ],
  λ h. elim h [ inl fill ↦ inl ((one_fill p x y).1 fill) | inr k ↦ inr k ],
)

-- the pixels along the points are those of their rows
pub drawn_along : (ps : List Point) (x : ℕ) (y : ℤ) → AlongPoints ps x y ↔ Drawn (rows_from ps) x y
drawn_along [] x y = (λ h. h, λ h. h)
drawn_along (p ∷ []) x y = one_point p x y
drawn_along (p ∷ (q ∷ ps)) x y =
    extended p q (rows_from (q ∷ ps)) x y (AlongPoints (q ∷ ps) x y) (starts q ps) (drawn_along (q ∷ ps) x y)
