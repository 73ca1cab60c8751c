-- A number for each value that keeps their order takes rows to rows.
use Rattle.std.proofs.Common.{ℤ, ◌≡◌, ◌≤ℤ◌, arith, refl, ap, ap₂, sym, ◌∙◌, List, [], ◌∷◌, true, false, cond, ◌==◌, map}
use Rattle.std.specs.Int.{int_min, int_max}
use Rattle.std.proofs.lemmas.Int.{ints, clamps, by_lt_z}
use Rattle.line_raster.specs.declared.position.Point.{Point}
use Rattle.m4_groups.specs.declared.row.Row.{Row}
use Rattle.m4_groups.specs.Heights.{row_with}
use Rattle.m4_groups.specs.Folded.{row_of_one, row_from, put_first, rows_from}

-- f keeps the order of values
abbrev pub Keeps : (ℤ → ℤ) → Type 0
Keeps f = (a b : ℤ) → a ≤ℤ b → f a ≤ℤ f b

min_kept : (f : ℤ → ℤ) → Keeps f → (a b : ℤ) → f (int_min a b) ≡ int_min (f a) (f b)
min_kept f keeps a b =
    by_lt_z b a
    (λ down.
    let below : f b ≤ℤ f a = keeps b a (omega (arith, ints, down)) in
    let first : int_min a b ≡ b = omega (arith, ints, clamps, down) in
    let then : int_min (f a) (f b) ≡ f b = omega (arith, ints, clamps, below) in
    ap f first ∙ sym then)
    (λ up.
    let above : f a ≤ℤ f b = keeps a b up in
    let first : int_min a b ≡ a = omega (arith, ints, clamps, up) in
    let then : int_min (f a) (f b) ≡ f a = omega (arith, ints, clamps, above) in
    ap f first ∙ sym then)

max_kept : (f : ℤ → ℤ) → Keeps f → (a b : ℤ) → f (int_max a b) ≡ int_max (f a) (f b)
max_kept f keeps a b =
    by_lt_z b a
    (λ down.
    let below : f b ≤ℤ f a = keeps b a (omega (arith, ints, down)) in
    let first : int_max a b ≡ a = omega (arith, ints, clamps, down) in
    let then : int_max (f a) (f b) ≡ f a = omega (arith, ints, clamps, below) in
    ap f first ∙ sym then)
    (λ up.
    let above : f a ≤ℤ f b = keeps a b up in
    let first : int_max a b ≡ b = omega (arith, ints, clamps, up) in
    let then : int_max (f a) (f b) ≡ f b = omega (arith, ints, clamps, above) in
    ap f first ∙ sym then)

-- a point with a number for its value
abbrev pub point_with : (ℤ → ℤ) → Point → Point
point_with f p = record { x = p.x; y = f p.y }

from_kept : (f : ℤ → ℤ) → Keeps f → (p : Point) (r : Row) (rs : List Row)
    → map (row_with f) (row_from p r ∷ rs) ≡ row_from (point_with f p)
    (record { column = r.column; first = f r.first; least = f r.least; greatest = f r.greatest; last = f r.last }) ∷ map (row_with f) rs
from_kept f keeps p r rs =
    let row : ℤ → ℤ → List Row = λ a b. record {
      column = r.column;
      first = f p.y;
      least = a;
      greatest = b;
      last = f r.last;
    } ∷ map (row_with f) rs in
    ap₂ row (min_kept f keeps p.y r.least) (max_kept f keeps p.y r.greatest)

put_kept : (f : ℤ → ℤ) → Keeps f → (p : Point) (rs : List Row)
    → map (row_with f) (put_first p rs) ≡ put_first (point_with f p) (map (row_with f) rs)
put_kept f keeps p [] = refl
put_kept f keeps p (r ∷ rs) =
    elim (p.x == r.column) as (λ t. map (row_with f) (cond t (row_from p r ∷ rs) (row_of_one p ∷ (r ∷ rs)))
    ≡ cond t (row_from (point_with f p) (record {
      column = r.column;
      first = f r.first;
      least = f r.least;
      greatest = f r.greatest;
      last = f r.last;
    }) ∷ map (row_with f) rs)
    (row_of_one (point_with f p) ∷ map (row_with f) (r ∷ rs))) [
      | true ↦ from_kept f keeps p r rs
      | false ↦ refl
    ]

-- the rows of the numbers are the numbers of the rows
pub rows_kept : (f : ℤ → ℤ) → Keeps f → (ps : List Point) → map (row_with f) (rows_from ps) ≡ rows_from (map (point_with f) ps)
rows_kept f keeps [] = refl
rows_kept f keeps (p ∷ ps) =
    put_kept f keeps p (rows_from ps) ∙ ap (put_first (point_with f p)) (rows_kept f keeps ps)
