-- Segments between two points of one column, and the column of a row with one more point.
use Rattle.std.proofs.Common.{ℕ, ℤ, pos, unsigned_abs, ◌≡◌, ◌+◌, ◌*◌, ◌/◌, ◌<◌, ◌≤◌, ◌+ℤ◌, ◌-ℤ◌, ◌≤ℤ◌, ◌<ℤ◌, ◌⊎◌, inl, inr, arith, ap, sym}
use Rattle.std.proofs.Common.{◌∙◌, int_lt, Bool, true, false, cond}
use Rattle.std.specs.Int.{int_min, int_max}
use Rattle.std.proofs.lemmas.Int.{ints, clamps, by_lt_z}
use Rattle.std.proofs.lemmas.Bool.{cases_lt}
use Rattle.std.proofs.Math.Nat.{div-eq_of_lt}
use Rattle.chart_grid.proofs.Heights.{after, before}
use Rattle.line_raster.specs.declared.position.Point.{Point}
use Rattle.line_raster.specs.Segment.{columns, rows, share, towards, On, InFill}
use Rattle.line_raster.specs.Raster.{IsAt}
use Rattle.m4_groups.specs.declared.row.Row.{Row}

-- y lies between two heights, in either order
pub record IsBetweenHeights (a b y : ℤ) : Type 0 where
  pub above : int_min a b ≤ℤ y
  pub below : y ≤ℤ int_max a b

less : (a b : ℤ) → a <ℤ b → int_lt a b ≡ true
less a b h = grind (arith, ints)

not_less : (a b : ℤ) → b ≤ℤ a → int_lt a b ≡ false
not_less a b h = grind (arith, ints)

chosen : (b : Bool) (x y : ℤ) → b ≡ true → cond b x y ≡ x
chosen b x y e = rw e

passed_by : (b : Bool) (x y : ℤ) → b ≡ false → cond b x y ≡ y
passed_by b x y e = rw e

downwards : (a b : ℤ) (n : ℕ) → b <ℤ a → towards a b n ≡ a -ℤ pos n
downwards a b n h = chosen (int_lt b a) _ _ (less b a h)

upwards : (a b : ℤ) (n : ℕ) → a ≤ℤ b → towards a b n ≡ a +ℤ pos n
upwards a b n h = passed_by (int_lt b a) _ _ (not_less b a h)

-- the share of no distance is none
no_share : (m n : ℕ) → 0 < m → share m 0 n ≡ 0
no_share m n some =
    let part : (2 * n * 0 + m) / (2 * m) ≡ 0 = div-eq_of_lt (omega arith) in
    part

-- a row of a vertical segment lies between its ends
row_between : (a b y : ℤ) (n : ℕ) → n ≤ unsigned_abs (b -ℤ a) → y ≡ towards a b n → IsBetweenHeights a b y
row_between a b y n reached e =
    by_lt_z b a
    (λ down. record {
      above = omega (arith, ints, clamps, downwards a b n down, before a b (omega (arith, ints)));
      below = omega (arith, ints, clamps, downwards a b n down, before a b (omega (arith, ints)));
    })
    (λ up. record {
      above = omega (arith, ints, clamps, upwards a b n up, after a b up);
      below = omega (arith, ints, clamps, upwards a b n up, after a b up);
    })

-- each height between the ends is one of its rows
between_row : (a b y : ℤ) → IsBetweenHeights a b y → (n : ℕ) × (n ≤ unsigned_abs (b -ℤ a)) × (y ≡ towards a b n)
between_row a b y h =
    by_lt_z b a
    (λ down.
    let falls : y ≤ℤ a = omega (arith, ints, clamps, h.below) in (
      unsigned_abs (y -ℤ a),
      omega (arith, ints, clamps, h.above, before a b (omega (arith, ints)), before a y falls),
      omega (arith, ints, downwards a b (unsigned_abs (y -ℤ a)) down, before a y falls),
    ))
    (λ up.
    let rises : a ≤ℤ y = omega (arith, ints, clamps, h.above) in (
      unsigned_abs (y -ℤ a),
      omega (arith, ints, clamps, h.below, after a b up, after a y rises),
      omega (arith, ints, upwards a b (unsigned_abs (y -ℤ a)) up, after a y rises),
    ))

dot_between : (a b y : ℤ) → unsigned_abs (b -ℤ a) ≡ 0 → y ≡ a → IsBetweenHeights a b y
dot_between a b y still e = row_between a b y 0 (omega arith) (by_lt_z b a
    (λ down. omega (arith, ints, downwards a b 0 down)) (λ up. omega (arith, ints, upwards a b 0 up)))

-- a vertical segment's pixels stay in its column
stays : (p q : Point) (x n : ℕ) → p.x ≡ q.x → columns p q < rows p q → x ≡ p.x + share (rows p q) (columns p q) n → x ≡ p.x
stays p q x n e high at =
    let flat : columns p q ≡ 0 = omega arith in
    let none : share (rows p q) (columns p q) n ≡ 0 =
    ap (λ d. share (rows p q) d n) flat ∙ no_share (rows p q) n (omega arith) in
    at ∙ ap (λ d. p.x + d) none ∙ omega arith

-- the pixels of a segment between two points of one column
pub vertical : (p q : Point) (x : ℕ) (y : ℤ) → p.x ≡ q.x → On p q x y → (x ≡ p.x) × IsBetweenHeights p.y q.y y
vertical p q x y e h =
    elim h [
      | inl dot ↦ (dot.column, dot_between p.y q.y y dot.no_rows dot.row)
      | inr rest ↦ elim rest [
        | inl wide ↦ absurd (omega (arith, wide.some))
        | inr high ↦ (stays p q x high.n e high.high high.column, row_between p.y q.y y high.n high.reached high.row)
      ]
    ]

steep_on : (p q : Point) (x : ℕ) (y : ℤ) (n : ℕ) → p.x ≡ q.x → x ≡ p.x → 0 < rows p q → n ≤ rows p q → y ≡ towards p.y q.y n → On p q x y
steep_on p q x y n e here some reached row =
    let flat : columns p q ≡ 0 = omega arith in
    let none : share (rows p q) (columns p q) n ≡ 0 =
    ap (λ d. share (rows p q) d n) flat ∙ no_share (rows p q) n some in
    inr (inr (record {
      high = omega arith;
      n = n;
      reached = reached;
      row = row;
      column = here ∙ sym (ap (λ d. p.x + d) none ∙ omega arith);
    }))

pub vertical_on : (p q : Point) (x : ℕ) (y : ℤ) → p.x ≡ q.x → x ≡ p.x → IsBetweenHeights p.y q.y y → On p q x y
vertical_on p q x y e here h =
    let found : (n : ℕ) × (n ≤ rows p q) × (y ≡ towards p.y q.y n) = between_row p.y q.y y h in
    elim (cases_lt 0 (rows p q)) [
      | inl some ↦ steep_on p q x y found.0 e here some found.1 found.2
      | inr none ↦ inl (record {
        no_columns = omega arith;
        no_rows = omega arith;
        column = here;
        row = found.2 ∙ by_lt_z q.y p.y
            (λ down. omega (arith, ints, downwards p.y q.y found.0 down, found.1))
            (λ up. omega (arith, ints, upwards p.y q.y found.0 up, found.1));
      })
    ]

-- the row r begins at the point q
pub record Begins (q : Point) (r : Row) : Type 0 where
  pub column : r.column ≡ q.x
  pub first : r.first ≡ q.y
  pub low : r.least ≤ℤ q.y
  pub high : q.y ≤ℤ r.greatest

-- a point before a row of its column adds the pixels up or down to the row
pub filled_from : (p q : Point) (r : Row) (x : ℕ) (y : ℤ) → p.x ≡ r.column → Begins q r
    → InFill r.column (int_min p.y r.least) (int_max p.y r.greatest) x y → On p q x y ⊎ InFill r.column r.least r.greatest x y
filled_from p q r x y e b h =
    by_lt_z y r.least
    (λ under. inl (vertical_on p q x y (omega (arith, b.column)) (omega (arith, h.here)) (record {
      above = omega (arith, ints, clamps, under, h.above, b.low);
      below = omega (arith, ints, clamps, under, h.above, b.low);
    })))
    (λ above. by_lt_z r.greatest y
    (λ over. inl (vertical_on p q x y (omega (arith, b.column)) (omega (arith, h.here)) (record {
      above = omega (arith, ints, clamps, over, h.below, b.high);
      below = omega (arith, ints, clamps, over, h.below, b.high);
    })))
    (λ below. inr (record { here = h.here; above = above; below = below })))

pub fills_on : (p q : Point) (r : Row) (x : ℕ) (y : ℤ) → p.x ≡ r.column → Begins q r → On p q x y
    → InFill r.column (int_min p.y r.least) (int_max p.y r.greatest) x y
fills_on p q r x y e b h =
    let v : (x ≡ p.x) × IsBetweenHeights p.y q.y y = vertical p q x y (omega (arith, b.column)) h in
    record {
      here = omega (arith, v.0);
      above = omega (arith, ints, clamps, v.1.above, b.low);
      below = omega (arith, ints, clamps, v.1.below, b.high);
    }

pub fills_more : (p : Point) (r : Row) (x : ℕ) (y : ℤ) → InFill r.column r.least r.greatest x y
    → InFill r.column (int_min p.y r.least) (int_max p.y r.greatest) x y
fills_more p r x y h = record {
  here = h.here;
  above = omega (arith, ints, clamps, h.above);
  below = omega (arith, ints, clamps, h.below);
}

pub fills_at : (p q : Point) (r : Row) (x : ℕ) (y : ℤ) → p.x ≡ r.column → Begins q r → IsAt p x y
    → InFill r.column (int_min p.y r.least) (int_max p.y r.greatest) x y
fills_at p q r x y e b h = record {
  here = omega (arith, h.column);
  above = omega (arith, ints, clamps, h.row);
  below = omega (arith, ints, clamps, h.row);
}
