-- Rows whose heights are those of some points draw the raster of these points.
use Rattle.std.proofs.Common.{ℕ, ℤ, suc, pos, ◌≡◌, ◌⊎◌, ◌↔◌, ◌≤◌, inl, inr, refl, ap, sym, arith, length, ◌∙◌, subst, List, [], ◌∷◌, map}
use Rattle.std.proofs.Common.{take, slice_get, option_map, Some}
use Rattle.std.proofs.lemmas.Option.{slice_get-map}
use Rattle.std.proofs.lemmas.List.{take_all, length-map}
use Rattle.chart_grid.specs.declared.grid.Grid.{Grid}
use Rattle.chart_grid.specs.Projection.{height, column}
use Rattle.chart_grid.proofs.Heights.{height-rising}
use Rattle.line_raster.specs.Canvas.{Canvas, Adds}
use Rattle.line_raster.specs.Segment.{On, InFill}
use Rattle.line_raster.specs.Raster.{InRaster}
use Rattle.line_raster.specs.declared.position.Point.{Point}
use Rattle.m4_groups.specs.declared.row.Row.{Row}
use Rattle.m4_groups.specs.Points.{AreInOrder, spots, pixels}
use Rattle.m4_groups.specs.Rows.{AreRowsOf}
use Rattle.m4_groups.specs.Heights.{row_height, row_heights, HaveSameHeights}
use Rattle.m4_groups.specs.Drawn.{first_of, last_of, Drawn}
use Rattle.m4_groups.specs.Folded.{rows_from}
use Rattle.m4_groups.proofs.Monotone.{point_with, rows_kept}
use Rattle.m4_groups.proofs.DrawnRows.{drawn_along}
use Rattle.m4_groups.proofs.Along.{raster_along}
use Rattle.m4_groups.proofs.Gathering.{rows-folded}
use Rattle.m4_groups.proofs.Painted.{both, alike, first_drawn, next_drawn}

spot_pixels : (g : Grid) (lo hi : ℤ) (points : List (ℤ × ℤ))
    → map (point_with (λ v. height v lo hi g.h)) (spots g points) ≡ pixels g lo hi points
spot_pixels g lo hi [] = refl
spot_pixels g lo hi (p ∷ ps) = ap (λ l. record { x = column g p.0; y = height p.1 lo hi g.h } ∷ l) (spot_pixels g lo hi ps)

-- the heights of the rows of points are the rows of their pixels
pub heights_folded : (g : Grid) (lo hi : ℤ) (points : List (ℤ × ℤ)) (of : List Row) → AreInOrder g points → AreRowsOf g points of
    → row_heights lo hi g.h of ≡ rows_from (pixels g lo hi points)
heights_folded g lo hi points of order own =
    ap (row_heights lo hi g.h) (rows-folded g points of order own)
    ∙ rows_kept (λ v. height v lo hi g.h) (λ a b le. height-rising a b lo hi g.h le) (spots g points)
    ∙ ap rows_from (spot_pixels g lo hi points)

pub drawn_raster : (ps : List Point) (hs : List Row) → hs ≡ rows_from ps → (x y : ℕ) → Drawn hs x (pos y) ↔ InRaster ps x (pos y)
drawn_raster ps hs e x y =
    let P : List Row → Type 0 = λ l. Drawn l x (pos y) ↔ InRaster ps x (pos y) in
    let d = drawn_along ps x (pos y) in
    let r = raster_along ps x (pos y) in
    subst P (sym e) (λ h. r.1 (d.1 h), λ h. d.0 (r.0 h))

-- what the rows add is the raster of the points
pub raster_of_rows : (g : Grid) (lo hi : ℤ) (points : List (ℤ × ℤ)) (rows of : List Row) (h : ℕ) (old new : Canvas) → g.h ≡ h
    → AreInOrder g points → AreRowsOf g points of → HaveSameHeights lo hi h rows of
    → Adds (λ x y. Drawn (row_heights lo hi h rows) x (pos y)) old new → Adds (λ x y. InRaster (pixels g lo hi points) x (pos y)) old new
raster_of_rows g lo hi points rows of h old new e order own same drawn =
    let P : ℕ → Type 0 = λ k. HaveSameHeights lo hi k rows of in
    let Q : ℕ → Type 0 = λ k. Adds (λ x y. Drawn (row_heights lo hi k rows) x (pos y)) old new in
    let heights : row_heights lo hi g.h rows ≡ rows_from (pixels g lo hi points) =
    subst P (sym e) same ∙ heights_folded g lo hi points of order own in
    alike (λ x y. Drawn (row_heights lo hi g.h rows) x (pos y)) (λ x y. InRaster (pixels g lo hi points) x (pos y)) old new
    (drawn_raster (pixels g lo hi points) (row_heights lo hi g.h rows) heights)
    (subst Q (sym e) drawn)

regroup : (A B C D : Type 0) → (A ⊎ (B ⊎ C)) ↔ D → ((A ⊎ B) ⊎ C) ↔ D
regroup A B C D e = (
  λ h. elim h [ inl k ↦ elim k [ inl a ↦ e.0 (inl a) | inr b ↦ e.0 (inr (inl b)) ] | inr c ↦ e.0 (inr (inr c)) ],
  λ d. elim (e.1 d) [ inl a ↦ inl (inl a) | inr k ↦ elim k [ inl b ↦ inl (inr b) | inr c ↦ inr c ] ],
)

-- one row more is drawn: the join to it, and its column
pub next_painted : (lo hi : ℤ) (h : ℕ) (rows : List Row) (j i n : ℕ) (q r : Row) (old now mid new : Canvas) → i ≡ suc j → n ≡ suc i
    → slice_get rows j ≡ Some q → slice_get rows i ≡ Some r → Adds (λ x y. Drawn (take i (row_heights lo hi h rows)) x (pos y)) old now
    → Adds (λ x y. On (last_of (row_height lo hi h q)) (first_of (row_height lo hi h r)) x (pos y)) now mid
    → (let s : Row = row_height lo hi h r in Adds (λ x y. InFill s.column s.least s.greatest x (pos y)) mid new)
    → Adds (λ x y. Drawn (take n (row_heights lo hi h rows)) x (pos y)) old new
next_painted lo hi h rows j i n q r old now mid new ei en eq er drawn joined filled =
    let hs : List Row = row_heights lo hi h rows in
    let s : Row = row_height lo hi h q in
    let t : Row = row_height lo hi h r in
    let P : ℕ → Type 0 = λ k. Adds (λ x y. Drawn (take k hs) x (pos y)) old now in
    let Q : ℕ → Type 0 = λ k. Adds (λ x y. Drawn (take k hs) x (pos y)) old new in
    let here : slice_get hs j ≡ Some s = slice_get-map (row_height lo hi h) rows j ∙ ap (option_map (row_height lo hi h)) eq in
    let next : slice_get hs (suc j) ≡ Some t =
    slice_get-map (row_height lo hi h) rows (suc j) ∙ ap (option_map (row_height lo hi h)) (ap (slice_get rows) (sym ei) ∙ er) in
    let done : ℕ → ℕ → Type 0 = λ x y. Drawn (take (suc j) hs) x (pos y) in
    let join : ℕ → ℕ → Type 0 = λ x y. On (last_of s) (first_of t) x (pos y) in
    let column : ℕ → ℕ → Type 0 = λ x y. InFill t.column t.least t.greatest x (pos y) in
    let all : Adds (λ x y. (done x y ⊎ join x y) ⊎ column x y) old new =
    both (λ x y. done x y ⊎ join x y) column old mid new (both done join old now mid (subst P ei drawn) joined) filled in
    subst Q (sym (en ∙ ap suc ei))
    (alike (λ x y. (done x y ⊎ join x y) ⊎ column x y) (λ x y. Drawn (take (suc (suc j)) hs) x (pos y)) old new
    (λ x y. regroup (done x y) (join x y) (column x y) (Drawn (take (suc (suc j)) hs) x (pos y))
    (next_drawn hs j s t x (pos y) here next))
    all)

-- the first row is drawn: its column
pub first_painted : (lo hi : ℤ) (h : ℕ) (rows : List Row) (r : Row) (old new : Canvas) → slice_get rows 0 ≡ Some r
    → (let s : Row = row_height lo hi h r in Adds (λ x y. InFill s.column s.least s.greatest x (pos y)) old new)
    → Adds (λ x y. Drawn (take 1 (row_heights lo hi h rows)) x (pos y)) old new
first_painted lo hi h rows r old new er filled =
    let first : slice_get (row_heights lo hi h rows) 0 ≡ Some (row_height lo hi h r) = slice_get-map (row_height lo hi h) rows 0
    ∙ ap (option_map (row_height lo hi h)) er in
    alike _ _ old new (λ x y. first_drawn (row_heights lo hi h rows) (row_height lo hi h r) x (pos y) first) filled

-- all rows are drawn
pub all_painted : (lo hi : ℤ) (h : ℕ) (rows : List Row) (n : ℕ) (old new : Canvas) → length rows ≤ n
    → Adds (λ x y. Drawn (take n (row_heights lo hi h rows)) x (pos y)) old new
    → Adds (λ x y. Drawn (row_heights lo hi h rows) x (pos y)) old new
all_painted lo hi h rows n old new all drawn =
    let P : List Row → Type 0 = λ l. Adds (λ x y. Drawn l x (pos y)) old new in
    subst P (take_all n (row_heights lo hi h rows) (omega (arith, all, length-map rows (row_height lo hi h)))) drawn
