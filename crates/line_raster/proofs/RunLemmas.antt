use Rattle.std.proofs.Common.{◌≡◌, ℕ, pos, ◌+◌, ◌*◌, ◌<◌, ◌≤◌, ◌∙◌, inl, inr, arith, subst}
use Rattle.std.proofs.lemmas.Bool.{cases_lt}
use Rattle.std.proofs.lemmas.Nat.{div_below, le-div}
use Rattle.std.proofs.Math.Nat.{mul-le-mul_left, mul-le-mul_right}
use Rattle.line_raster.specs.declared.position.Point.{Point}
use Rattle.line_raster.specs.Canvas.{Canvas}
use Rattle.line_raster.specs.Segment.{rows, columns, share, InRow}
use Rattle.line_raster.proofs.Drawn.{no_column}
use Rattle.line_raster.proofs.SegmentLemmas.{share-le}
use Rattle.line_raster.specs.Run.{IsCut, IsBalanced, IsDrawnTo}

-- a balanced number of rows is a cut
pub cut_by : (rows columns k next error : ℕ) → 0 < rows → IsBalanced rows columns k next error → IsCut rows columns next (k + 1)
cut_by rows columns k next error some h n reached = (
  (λ before.
      let step : (n + 1) * (2 * columns) ≤ next * (2 * columns) = mul-le-mul_right (2 * columns) (omega (arith, before)) in
      div_below (2 * n * columns + rows) (2 * rows) (k + 1) (omega (arith, some)) (omega (arith, step, h.sum, h.small))),
  (λ left.
      elim (cases_lt n next) [
        | inl before ↦ before
        | inr behind ↦
            let step : next * (2 * columns) ≤ n * (2 * columns) = mul-le-mul_right (2 * columns) behind in
            let right : k + 1 ≤ share rows columns n = le-div (k + 1) (2 * n * columns + rows) (2 * rows) (omega (arith, some))
            (omega (arith, step, h.sum, h.small)) in
            absurd (omega (arith, left, right))
      ]),
)

-- it is no more than all rows
pub cut_bound : (rows columns k next error : ℕ) → k < columns → IsBalanced rows columns k next error → next ≤ rows + 1
cut_bound rows columns k next error within h =
    elim (cases_lt (rows + 1) next) [
      | inl over ↦
          let step : (rows + 2) * (2 * columns) ≤ next * (2 * columns) = mul-le-mul_right (2 * columns) (omega (arith, over)) in
          let most : rows * (2 * k + 1) ≤ rows * (2 * columns) = mul-le-mul_left rows (omega (arith, within)) in
          absurd (omega (arith, step, most, h.sum, h.small, within))
      | inr within_rows ↦ within_rows
    ]

-- the cut of the next column, where whole columns' rows and a rest are all rows
pub balanced_more : (rows rows' columns columns' k cut error cut' error' whole rest : ℕ) → rows' ≡ rows → columns' ≡ columns
    → whole * columns' + rest ≡ rows' → cut' * (2 * columns') + error' ≡ cut * (2 * columns') + error + 2 * (whole * columns' + rest)
    → error' < 2 * columns' → IsBalanced rows columns k cut error → IsBalanced rows columns (k + 1) cut' error'
balanced_more rows rows' columns columns' k cut error cut' error' whole rest is_rows is_columns parts sum small h =
    let P : ℕ → Type 0 = λ c. whole * c + rest ≡ rows' in
    let Q : ℕ → Type 0 = λ c. cut' * (2 * c) + error' ≡ cut * (2 * c) + error + 2 * (whole * c + rest) in
    let parts' : whole * columns + rest ≡ rows = subst P is_columns parts ∙ is_rows in
    let sum' : cut' * (2 * columns) + error' ≡ cut * (2 * columns) + error + 2 * (whole * columns + rest) = subst Q is_columns sum in
    record { sum = omega (arith, parts', sum', h.sum); small = omega (arith, small, is_columns) }

-- all rows are those of all columns
pub cut_all : (most distance cut : ℕ) → 0 < most → cut ≡ most + 1 → IsCut most distance cut (distance + 1)
cut_all most distance cut some e m reached = ((λ h. omega (arith, share-le most distance m some reached)), (λ h. omega (arith, reached, e)))

-- no column is drawn yet
pub drawn_none : (p q : Point) (k : ℕ) (c : Canvas) → k ≡ 0 → IsDrawnTo p q k 0 c c
drawn_none p q k c none = record {
  drawn = no_column (λ a b. InRow p q a (pos b)) (p.x + k) c (λ x y h. omega (arith, h.column, none));
  cut = λ n reached. ((λ h. absurd (omega (arith, h))), (λ h. absurd (omega (arith, h, none))));
  bound = omega arith;
}

-- a drawn part under other names
pub record IsRunning (p q : Point) (k first end error : ℕ) (old new : Canvas) : Type 0 where
  pub drawn : IsDrawnTo p q k first old new
  pub balanced : IsBalanced (rows p q) (columns p q) k end error
