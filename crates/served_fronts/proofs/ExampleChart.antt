-- The chart of the example.
use Rattle.std.proofs.Common.{◌≡◌, ℕ, ℤ, pos, zero, suc, ◌+◌, ◌*◌, ◌/◌, ◌<◌, ◌≤◌, Bool, true, false, List}
use Rattle.std.proofs.Common.{[], ◌∷◌, ◌++◌, Option, None, Some, slice_get, refl, sym, ap, subst, ◌∙◌, arith, inl, inr}
use Rattle.std.specs.Prelude.{◌⊎◌, ◌↔◌, ◌&&◌, IsTrue, int_le, int_lt, unsigned_abs, if◌then◌else◌, slice_index_or, codes}
use Rattle.std.specs.List.{enumerate_from, filter_map}
use Rattle.chart_grid.specs.declared.grid.Grid.{Grid}
use Rattle.chart_grid.specs.declared.axis.Axis.{Axis}
use Rattle.chart_grid.specs.Numbers.{distance}
use Rattle.chart_grid.specs.Projection.{ShowsWindow, HasCanvas, height}
use Rattle.chart_grid.specs.Slots.{slot_time}
use Rattle.line_raster.specs.declared.position.Point.{Point}
use Rattle.line_raster.specs.Canvas.{Canvas, black_at}
use Rattle.line_raster.specs.Raster.{InRaster, IsAt}
use Rattle.line_raster.specs.Segment.{On, share, towards}
use Rattle.plain_chart.specs.declared.sample.Sample.{Sample}
use Rattle.plain_chart.specs.declared.value_range.ValueRange.{ValueRange}
use Rattle.plain_chart.specs.Chart.{IsChart, places}
use Rattle.plain_chart.specs.Samples.{kept}
use Rattle.pbm_writer.specs.Picture.{picture, rows_below}
use Rattle.std.specs.Fmt.{decimal}
use Rattle.std.proofs.lemmas.Fmt.{decimal_digit}
use Rattle.served_fronts.specs.Example.{bitmap}

-- ---- the canvas

abbrev pub canvas : Canvas
canvas = record {
  w = 8;
  h = 4;
  cells = true ∷ false ∷ false ∷ false ∷ false ∷ true ∷ false ∷ false ∷ false ∷ false ∷ true ∷ false ∷ false ∷ false ∷ true ∷ false
      ∷ false ∷ false ∷ false ∷ true ∷ false ∷ false ∷ false ∷ false ∷ false ∷ false ∷ false ∷ false ∷ false ∷ false ∷ false ∷ false ∷ [];
}

pub its_bytes : picture canvas ≡ bitmap
unfolding black_at
its_bytes =
    let F : List ℕ → List ℕ → List ℕ = λ a b. (codes "P4\n" ++ (a ++ (codes " " ++ (b ++ codes "\n")))) ++ rows_below canvas 4 in
    ap (λ a. F a (decimal 4)) (decimal_digit 8 (omega arith)) ∙ ap (λ b. F (56 ∷ []) b) (decimal_digit 4 (omega arith))

abbrev pub from_point : Point
from_point = record { x = 0; y = pos 0 }

abbrev pub to_point : Point
to_point = record { x = 4; y = pos 3 }

abbrev pub two : List Point
two = from_point ∷ to_point ∷ []

-- ---- a black pixel is on the line

abbrev OneOf : List ℕ → ℕ → Type 0
OneOf [] i = ⊥
OneOf (n ∷ ns) i = (i ≡ n) ⊎ OneOf ns i

-- the places of the black cells, the first of which has a number
abbrev black_places : ℕ → List Bool → List ℕ
black_places n [] = []
black_places n (b ∷ bs) = if b then n ∷ black_places (suc n) bs else black_places (suc n) bs

is_black : (bs : List Bool) (n i : ℕ) → slice_index_or bs i false ≡ true → OneOf (black_places n bs) (n + i)
is_black [] n i t = let never : false ≡ true = t in cc
is_black (true ∷ bs) n zero t = inl (omega arith)
is_black (false ∷ bs) n zero t = let never : false ≡ true = t in cc
is_black (true ∷ bs) n (suc i) t =
    let P : ℕ → Type 0 = λ k. OneOf (black_places (suc n) bs) k in
    let same : suc n + i ≡ n + suc i = omega arith in
    inr (subst P same (is_black bs (suc n) i t))
is_black (false ∷ bs) n (suc i) t =
    let P : ℕ → Type 0 = λ k. OneOf (black_places (suc n) bs) k in
    let same : suc n + i ≡ n + suc i = omega arith in
    subst P same (is_black bs (suc n) i t)

on_line : (n x y : ℕ) → n ≤ 4 → x ≡ n → pos y ≡ towards (pos 0) (pos 3) (share 4 3 n) → InRaster two x (pos y)
on_line n x y low column row = inr (record {
  position = 0;
  first = from_point;
  second = to_point;
  here = refl;
  next = refl;
  pixel = inr (inl (record { wide = omega arith; some = omega arith; n = n; reached = low; column = omega (arith, column); row = row }));
})

drawn : (x y : ℕ) → y < 4 → OneOf (0 ∷ 5 ∷ 10 ∷ 14 ∷ 19 ∷ []) (0 + (x * 4 + y)) → InRaster two x (pos y)
drawn x y low (inl at) = on_line 0 x y (omega arith) (omega (arith, low, at)) (let is : y ≡ 0 = omega (arith, low, at) in ap pos is)
drawn x y low (inr (inl at)) = on_line 1 x y (omega arith) (omega (arith, low, at)) (let is : y ≡ 1 = omega (arith, low, at) in ap pos is)
drawn x y low (inr (inr (inl at))) =
    on_line 2 x y (omega arith) (omega (arith, low, at)) (let is : y ≡ 2 = omega (arith, low, at) in ap pos is)
drawn x y low (inr (inr (inr (inl at)))) =
    on_line 3 x y (omega arith) (omega (arith, low, at)) (let is : y ≡ 2 = omega (arith, low, at) in ap pos is)
drawn x y low (inr (inr (inr (inr (inl at))))) =
    on_line 4 x y (omega arith) (omega (arith, low, at)) (let is : y ≡ 3 = omega (arith, low, at) in ap pos is)
drawn x y low (inr (inr (inr (inr (inr never))))) = absurd never

-- ---- a pixel of the line is black

abbrev point_or : Option Point → Point
point_or None = from_point
point_or (Some p) = p

black : (x y a b : ℕ) → x ≡ a → y ≡ b → black_at canvas a b ≡ true → black_at canvas x y ≡ true
black x y a b column row is = ap (λ k. black_at canvas k y) column ∙ ap (λ k. black_at canvas a k) row ∙ is

in_column : (n x y : ℕ) → n ≤ 4 → x ≡ n → pos y ≡ towards (pos 0) (pos 3) (share 4 3 n) → black_at canvas x y ≡ true
unfolding black_at
in_column zero x y low column row = black x y 0 0 column (ap unsigned_abs row) refl
in_column (suc zero) x y low column row = black x y 1 1 column (ap unsigned_abs row) refl
in_column (suc (suc zero)) x y low column row = black x y 2 2 column (ap unsigned_abs row) refl
in_column (suc (suc (suc zero))) x y low column row = black x y 3 2 column (ap unsigned_abs row) refl
in_column (suc (suc (suc (suc zero)))) x y low column row = black x y 4 3 column (ap unsigned_abs row) refl
in_column (suc (suc (suc (suc (suc n))))) x y low column row = absurd (omega (arith, low))

at_point : (x y i : ℕ) (p : Point) → slice_get two i ≡ Some p → IsAt p x (pos y) → black_at canvas x y ≡ true
at_point x y zero p here at =
    let P : Point → Type 0 = λ r. IsAt r x (pos y) in
    let is = subst P (sym (ap point_or here)) at in
    in_column 0 x y (omega arith) is.column is.row
at_point x y (suc zero) p here at =
    let P : Point → Type 0 = λ r. IsAt r x (pos y) in
    let is = subst P (sym (ap point_or here)) at in
    in_column 4 x y (omega arith) is.column is.row
at_point x y (suc (suc i)) p here at = let never : None ≡ Some p = here in cc

on_segment : (x y : ℕ) → On from_point to_point x (pos y) → black_at canvas x y ≡ true
on_segment x y (inl dot) = absurd (omega (arith, dot.no_columns))
on_segment x y (inr (inl is)) = in_column is.n x y is.reached (omega (arith, is.column)) is.row
on_segment x y (inr (inr is)) = absurd (omega (arith, is.high))

between : (x y i : ℕ) (p q : Point) → slice_get two i ≡ Some p → slice_get two (i + 1) ≡ Some q → On p q x (pos y)
    → black_at canvas x y ≡ true
between x y zero p q here next on =
    let P : Point → Type 0 = λ r. On r q x (pos y) in
    let Q : Point → Type 0 = λ r. On from_point r x (pos y) in
    on_segment x y (subst Q (sym (ap point_or next)) (subst P (sym (ap point_or here)) on))
between x y (suc zero) p q here next on = let never : None ≡ Some q = next in cc
between x y (suc (suc i)) p q here next on = let never : None ≡ Some p = here in cc

drawn_back : (x y : ℕ) → InRaster two x (pos y) → black_at canvas x y ≡ true
drawn_back x y (inl is) = at_point x y is.position is.point is.here is.pixel
drawn_back x y (inr is) = between x y is.position is.first is.second is.here is.next is.pixel

pub pixels : (x y : ℕ) → y < 4 → IsTrue (black_at canvas x y) ↔ InRaster two x (pos y)
unfolding black_at
pixels x y low = (λ t. drawn x y low (is_black canvas.cells 0 (x * 4 + y) t), drawn_back x y)

-- ---- the samples

abbrev pub two_samples : List Sample
two_samples = record { time = pos 0; value = pos 0 } ∷ record { time = pos 4; value = pos 3 } ∷ []

-- the sample of a slot over a window
abbrev sample_at : ℤ → ℤ → Axis → ℕ × Option ℤ → Option Sample
sample_at a b axis (slot, None) = None
sample_at a b axis (slot, Some value) =
    if int_le a (slot_time axis slot) && int_lt (slot_time axis slot) b then Some (record { time = slot_time axis slot; value = value })
    else None

-- the times of the slots of the example
abbrev pub times : ℕ → Axis
times n = record { start = pos 0; step = 4; slots = n }

abbrev first_two : List (Option ℤ) → List (Option ℤ)
first_two values = Some (pos 0) ∷ Some (pos 3) ∷ values

pub kept_two : (g : Grid) → ShowsWindow g (pos 0) (pos 8) → kept g (times 2) (first_two []) ≡ two_samples
kept_two g shows =
    let P : ℤ → ℤ → Type 0 = λ a b. filter_map (sample_at a b (times 2)) (enumerate_from 0 (first_two [])) ≡ two_samples in
    let F : ℤ → Type 0 = λ a. P a (pos 8) in
    let G : ℤ → Type 0 = λ b. P g.t0 b in
    subst G (sym shows.to) (subst F (sym shows.from) refl)

pub kept_three : (g : Grid) → ShowsWindow g (pos 0) (pos 8) → kept g (times 3) (first_two (Some (pos 1) ∷ [])) ≡ two_samples
kept_three g shows =
    let slots = enumerate_from 0 (first_two (Some (pos 1) ∷ [])) in
    let P : ℤ → ℤ → Type 0 = λ a b. filter_map (sample_at a b (times 3)) slots ≡ two_samples in
    let F : ℤ → Type 0 = λ a. P a (pos 8) in
    let G : ℤ → Type 0 = λ b. P g.t0 b in
    subst G (sym shows.to) (subst F (sym shows.from) refl)

-- where a sample lies
abbrev place_by : ℤ → ℤ → ℕ → ℕ → ℤ → ℤ → Sample → Point
place_by a b w h lo hi s = record { x = distance a s.time * w / distance a b; y = height s.value lo hi h }

abbrev PlacesBy : ℤ → ℤ → ℕ → ℕ → ℤ → ℤ → Type 0
PlacesBy a b w h lo hi =
    place_by a b w h lo hi (record { time = pos 0; value = pos 0 })
    ∷ place_by a b w h lo hi (record { time = pos 4; value = pos 3 }) ∷ [] ≡ two

pub placed : (g : Grid) (range : ValueRange) → ShowsWindow g (pos 0) (pos 8) → HasCanvas g 8 4 → range.lo ≡ pos 0 → range.hi ≡ pos 3
    → places g range two_samples ≡ two
placed g range shows has low high =
    let A : ℤ → Type 0 = λ a. PlacesBy a (pos 8) 8 4 (pos 0) (pos 3) in
    let B : ℤ → Type 0 = λ b. PlacesBy g.t0 b 8 4 (pos 0) (pos 3) in
    let C : ℕ → Type 0 = λ w. PlacesBy g.t0 g.t1 w 4 (pos 0) (pos 3) in
    let D : ℕ → Type 0 = λ h. PlacesBy g.t0 g.t1 g.w h (pos 0) (pos 3) in
    let E : ℤ → Type 0 = λ lo. PlacesBy g.t0 g.t1 g.w g.h lo (pos 3) in
    let F : ℤ → Type 0 = λ hi. PlacesBy g.t0 g.t1 g.w g.h range.lo hi in
    let over : PlacesBy g.t0 g.t1 8 4 (pos 0) (pos 3) = subst B (sym shows.to) (subst A (sym shows.from) refl) in
    subst F (sym high) (subst E (sym low) (subst D (sym has.rows) (subst C (sym has.columns) over)))

pub chart : (g : Grid) (range : ValueRange) → ShowsWindow g (pos 0) (pos 8) → HasCanvas g 8 4 → range.lo ≡ pos 0 → range.hi ≡ pos 3
    → IsChart g range two_samples canvas
chart g range shows has low high = record {
  width = sym has.columns;
  height = sym has.rows;
  pixels = λ x y left under.
      let P : List Point → Type 0 = λ ps. IsTrue (black_at canvas x y) ↔ InRaster ps x (pos y) in
      subst P (sym (placed g range shows has low high)) (pixels x y (omega (arith, under, has.rows)));
}
