use Rattle.std.proofs.Common.{◌≡◌, ℕ, ℤ, pos, ◌+◌, ◌*◌, ◌/◌, ◌<◌, ◌≤◌, ◌↔◌, sym, ◌∙◌, ap, subst, arith}
use Rattle.std.proofs.lemmas.Nat.{div-mul-add}
use Rattle.line_raster.specs.declared.position.Point.{Point}
use Rattle.line_raster.specs.Canvas.{Canvas, Adds}
use Rattle.line_raster.specs.Segment.{InColumn, rows, columns, share, towards}

-- the rows that a segment has moved in column n, and the rest of the division
pub record IsMoved (rows columns n moved error : ℕ) : Type 0 where
  pub sum : moved * (2 * columns) + error ≡ 2 * n * rows + columns
  pub small : error < 2 * columns

-- the first n columns are drawn, and the next is moved so far
pub record IsDrawnAcross (p q : Point) (n moved error : ℕ) (old new : Canvas) : Type 0 where
  pub drawn : Adds (λ a b. InColumn p q a (pos b) × (a < p.x + n)) old new
  pub moves : IsMoved (rows p q) (columns p q) n moved error

-- the first column isn't moved
pub moved_none : (rows columns error : ℕ) → 0 < columns → error ≡ columns → IsMoved rows columns 0 0 error
moved_none rows columns error some e = record { sum = omega (arith, e); small = omega (arith, some, e) }

-- the next column is moved by as much
pub moved_more : (rows rows' columns columns' n moved error moved' error' : ℕ) → rows' ≡ rows → columns' ≡ columns
    → moved' * (2 * columns') + error' ≡ moved * (2 * columns') + error + 2 * rows' → error' < 2 * columns'
    → IsMoved rows columns n moved error → IsMoved rows columns (n + 1) moved' error'
moved_more rows rows' columns columns' n moved error moved' error' is_rows is_columns sum small h =
    let P : ℕ → Type 0 = λ c. moved' * (2 * c) + error' ≡ moved * (2 * c) + error + 2 * rows' in
    let sum' : moved' * (2 * columns) + error' ≡ moved * (2 * columns) + error + 2 * rows' = subst P is_columns sum in
    record { sum = omega (arith, sum', is_rows, h.sum); small = omega (arith, small, is_columns) }

-- what a column is moved is its share
pub moved_share : (rows columns n moved error : ℕ) → IsMoved rows columns n moved error → moved ≡ share columns rows n
moved_share rows columns n moved error h = sym (ap (λ m. m / (2 * columns)) (sym h.sum) ∙ div-mul-add moved (2 * columns) error h.small)

-- the row of a column is a flat segment's pixel there
pub flat_step : (p q : Point) (from to : ℤ) (x n moved : ℕ) → from ≡ p.y → to ≡ q.y → rows p q ≤ columns p q → 0 < columns p q → p.x + n ≡ x
    → n ≤ columns p q → moved ≡ share (columns p q) (rows p q) n → (a : ℕ) (b : ℤ)
    → ((a ≡ x) × (b ≡ towards from to moved)) ↔ (InColumn p q a b × (a ≡ x))
flat_step p q from to x n moved is_from is_to wide some column reached is_moved a b = (
  (λ h.
      let level : b ≡ towards p.y q.y (share (columns p q) (rows p q) n) = h.1 ∙ (λ t. towards (is_from t) (is_to t) (is_moved t)) in
      (record { wide = wide; some = some; n = n; reached = reached; column = h.0 ∙ sym column; row = level }, h.0)),
  (λ h.
      let same : h.0.n ≡ n = omega (arith, h.0.column, h.1, column) in
      let m : share (columns p q) (rows p q) h.0.n ≡ moved = ap (share (columns p q) (rows p q)) same ∙ sym is_moved in
      (h.1, h.0.row ∙ (λ t. towards (sym is_from t) (sym is_to t) (m t)))),
)
