-- The pixels of a list's chart, by the list's slots.
use Rattle.std.proofs.Common.{ℕ, ℤ, suc, ◌≡◌, ◌+◌, ◌<◌, ◌≤◌, ◌⊎◌, inl, inr, Bool, true, false, cond, List, [], ◌∷◌, length, Option, None}
use Rattle.std.proofs.Common.{Some, refl, sym, ap, ◌∙◌, subst, arith}
use Rattle.std.specs.Prelude.{slice_get, int_le, int_lt}
use Rattle.std.specs.List.{enumerate_from, filter_map, cons_option}
use Rattle.std.proofs.lemmas.Bool.{and_parts, and_from, cases_lt}
use Rattle.std.proofs.lemmas.Bool.Decides.{nat_tests}
use Rattle.std.proofs.lemmas.Int.{ints}
use Rattle.std.proofs.lemmas.Option.{slice_get_within}
use Rattle.chart_grid.specs.declared.grid.Grid.{Grid}
use Rattle.chart_grid.specs.Projection.{height, column, InWindow}
use Rattle.chart_grid.specs.Slots.{IsInColumn, slot_time}
use Rattle.line_raster.specs.declared.position.Point.{Point}
use Rattle.line_raster.specs.Segment.{On}
use Rattle.line_raster.specs.Raster.{IsAt, OnNext, AlongPoints}
use Rattle.line_raster.proofs.RasterLemmas.{InRaster-along}
use Rattle.plain_chart.specs.declared.sample.Sample.{Sample}
use Rattle.plain_chart.specs.Samples.{kept_at, in_window}
use Rattle.plain_chart.specs.Chart.{places}
use Rattle.om3_coeff.specs.Spans.{Holds}
use Rattle.view_cover.specs.Scene.{Scene}
use Rattle.view_cover.specs.Chart.{InChart}
use Rattle.view_cover.proofs.Shrinking.{drawn-between}

-- slot i holds a value, and is drawn at the pixel p
pub record IsSample (list : List (Option ℤ)) (scene : Scene) (i : ℕ) (p : Point) : Type 0 where
  pub value : ℤ
  pub stored : Holds list i value
  pub column : IsInColumn scene.axis scene.grid p.x i
  pub row : p.y ≡ height value scene.lo scene.hi scene.grid.h

-- the pixel is that of a sample
pub record IsOfSample (list : List (Option ℤ)) (scene : Scene) (x : ℕ) (y : ℤ) : Type 0 where
  pub slot : ℕ
  pub point : Point
  pub sample : IsSample list scene slot point
  pub pixel : IsAt point x y

-- it lies on the segment from a sample to the next one
pub record IsOfSegment (list : List (Option ℤ)) (scene : Scene) (x : ℕ) (y : ℤ) : Type 0 where
  pub slot : ℕ
  pub point : Point
  pub sample : IsSample list scene slot point
  pub next : ℕ
  pub next_point : Point
  pub next_sample : IsSample list scene next next_point
  pub order : slot < next
  pub none_between : (i : ℕ) (v : ℤ) → slot < i → i < next → Holds list i v → ⊥
  pub pixel : On point next_point x y

-- the sample of a slot, its place, and the places of those from slot n on
abbrev sample_at : Scene → ℕ → ℤ → Sample
sample_at scene n v = record { time = slot_time scene.axis n; value = v }

abbrev place_at : Scene → ℕ → ℤ → Point
place_at scene n v = record { x = column scene.grid (slot_time scene.axis n); y = height v scene.lo scene.hi scene.grid.h }

abbrev places_from : Scene → ℕ → List (Option ℤ) → List Point
places_from scene n xs = places scene.grid (record { lo = scene.lo; hi = scene.hi })
    (filter_map (kept_at scene.grid scene.axis) (enumerate_from n xs))

-- these slots are those of the list from slot n on
abbrev AreFrom : List (Option ℤ) → ℕ → List (Option ℤ) → Type 0
AreFrom list n xs = (i : ℕ) → slice_get xs i ≡ slice_get list (n + i)

from-next : (list : List (Option ℤ)) (n : ℕ) (x : Option ℤ) (xs : List (Option ℤ)) → AreFrom list n (x ∷ xs) → AreFrom list (n + 1) xs
from-next list n x xs from i =
    let e : n + suc i ≡ n + 1 + i = omega arith in
    from (suc i) ∙ ap (λ (m : ℕ). slice_get list m) e

from-here : (list : List (Option ℤ)) (n : ℕ) (x : Option ℤ) (xs : List (Option ℤ)) → AreFrom list n (x ∷ xs) → slice_get list n ≡ Some x
from-here list n x xs from =
    let e : n ≡ n + 0 = omega arith in
    ap (λ (m : ℕ). slice_get list m) e ∙ sym (from 0)

window-true : (g : Grid) (t : ℤ) → in_window g t ≡ true → InWindow g t
window-true g t h =
    let both : (int_le g.t0 t ≡ true) × (int_lt t g.t1 ≡ true) = and_parts (int_le g.t0 t) (int_lt t g.t1) h in
    record { from = grind (arith, ints, nat_tests); to = grind (arith, ints, nat_tests) }

window-false : (g : Grid) (t : ℤ) → in_window g t ≡ false → InWindow g t → ⊥
window-false g t h shown =
    let from : int_le g.t0 t ≡ true = grind (arith, ints, nat_tests, shown.from) in
    let to : int_lt t g.t1 ≡ true = grind (arith, ints, nat_tests, shown.to) in
    let is : in_window g t ≡ true = and_from (int_le g.t0 t) (int_lt t g.t1) from to in
    true-false (sym h ∙ is)
  where
    true-false : ◌≡◌ {A = Bool} false true → ⊥
    true-false e = cc

bool-cases : (b : Bool) → (b ≡ true) ⊎ (b ≡ false)
bool-cases true = inl refl
bool-cases false = inr refl

-- a slot that is kept gives the first place, and one that isn't none
with-kept : (scene : Scene) (n : ℕ) (v : ℤ) (b : Bool) (rest : List Sample) → b ≡ true
    → places scene.grid (record { lo = scene.lo; hi = scene.hi }) (cons_option (cond b (Some (sample_at scene n v)) None) rest)
    ≡ place_at scene n v ∷ places scene.grid (record { lo = scene.lo; hi = scene.hi }) rest
with-kept scene n v b rest is = ap (λ (t : Bool). places scene.grid (record { lo = scene.lo; hi = scene.hi })
    (cons_option (cond t (Some (sample_at scene n v)) None) rest)) is

without-kept : (scene : Scene) (n : ℕ) (v : ℤ) (b : Bool) (rest : List Sample) → b ≡ false
    → places scene.grid (record { lo = scene.lo; hi = scene.hi }) (cons_option (cond b (Some (sample_at scene n v)) None) rest)
    ≡ places scene.grid (record { lo = scene.lo; hi = scene.hi }) rest
without-kept scene n v b rest is = ap (λ (t : Bool). places scene.grid (record { lo = scene.lo; hi = scene.hi })
    (cons_option (cond t (Some (sample_at scene n v)) None) rest)) is

places-kept : (scene : Scene) (n : ℕ) (v : ℤ) (xs : List (Option ℤ)) → in_window scene.grid (slot_time scene.axis n) ≡ true
    → places_from scene n (Some v ∷ xs) ≡ place_at scene n v ∷ places_from scene (n + 1) xs
places-kept scene n v xs is =
    with-kept scene n v (in_window scene.grid (slot_time scene.axis n))
    (filter_map (kept_at scene.grid scene.axis) (enumerate_from (n + 1) xs)) is

places-left : (scene : Scene) (n : ℕ) (v : ℤ) (xs : List (Option ℤ)) → in_window scene.grid (slot_time scene.axis n) ≡ false
    → places_from scene n (Some v ∷ xs) ≡ places_from scene (n + 1) xs
places-left scene n v xs is =
    without-kept scene n v (in_window scene.grid (slot_time scene.axis n))
    (filter_map (kept_at scene.grid scene.axis) (enumerate_from (n + 1) xs)) is

-- a kept slot is a sample
kept-sample : (list : List (Option ℤ)) (scene : Scene) → scene.axis.slots ≡ length list → (n : ℕ) (v : ℤ) → Holds list n v
    → in_window scene.grid (slot_time scene.axis n) ≡ true
    → IsSample list scene n (place_at scene n v)
kept-sample list scene same n v holds is = record {
  value = v;
  stored = holds;
  column = record {
    slot = omega (arith, same, slice_get_within list n (Some v) holds);
    shown = window-true scene.grid (slot_time scene.axis n) is;
    place = refl;
  };
  row = refl;
}

-- the first place is that of the first sample from slot n on
pub record IsFirst (list : List (Option ℤ)) (scene : Scene) (n : ℕ) (q : Point) : Type 0 where
  slot : ℕ
  sample : IsSample list scene slot q
  from : n ≤ slot
  none : (i : ℕ) (v : ℤ) → n ≤ i → i < slot → Holds list i v → InWindow scene.grid (slot_time scene.axis i) → ⊥

none-first : (q : Point) (ps : List Point) → ◌≡◌ {A = List Point} [] (q ∷ ps) → ⊥
none-first q ps h = cc

same-first : {p q : Point} {ps qs : List Point} → ◌≡◌ {A = List Point} (p ∷ ps) (q ∷ qs) → p ≡ q
same-first h = cc

no-value : {v : ℤ} → ◌≡◌ {A = Option (Option ℤ)} (Some None) (Some (Some v)) → ⊥
no-value h = cc

first-later : (list : List (Option ℤ)) (scene : Scene) (n : ℕ) (q : Point)
    → ((v : ℤ) → Holds list n v → InWindow scene.grid (slot_time scene.axis n) → ⊥)
    → IsFirst list scene (n + 1) q → IsFirst list scene n q
first-later list scene n q not f = record {
  slot = f.slot;
  sample = f.sample;
  from = omega (arith, f.from);
  none = λ i v low high holds shown. elim (cases_lt n i) [
    | inl past ↦ f.none i v (omega (arith, past)) high holds shown
    | inr here ↦
        (let same : i ≡ n = omega (arith, low, here) in
        not v (subst (λ (m : ℕ). Holds list m v) same holds) (subst (λ (m : ℕ). InWindow scene.grid (slot_time scene.axis m)) same shown))
  ];
}

first-place : (list : List (Option ℤ)) (scene : Scene) → scene.axis.slots ≡ length list → (xs : List (Option ℤ)) (n : ℕ) → AreFrom list n xs
    → (q : Point) (ps : List Point) → places_from scene n xs ≡ q ∷ ps → IsFirst list scene n q
first-place list scene same [] n from q ps is = absurd (none-first q ps is)
first-place list scene same (None ∷ xs) n from q ps is =
    first-later list scene n q (λ v holds shown. no-value (sym (from-here list n None xs from) ∙ holds))
    (first-place list scene same xs (n + 1) (from-next list n None xs from) q ps is)
first-place list scene same (Some v ∷ xs) n from q ps is =
    elim (bool-cases (in_window scene.grid (slot_time scene.axis n))) [
      | inl shown ↦ record {
        slot = n;
        sample = subst (λ (p : Point). IsSample list scene n p) (same-first (sym (places-kept scene n v xs shown) ∙ is))
            (kept-sample list scene same n v (from-here list n (Some v) xs from) shown);
        from = omega arith;
        none = λ i u low high holds h. absurd (omega (arith, low, high));
      }
      | inr out ↦
          first-later list scene n q (λ u holds shown. window-false scene.grid (slot_time scene.axis n) out shown)
          (first-place list scene same xs (n + 1) (from-next list n (Some v) xs from) q ps (sym (places-left scene n v xs out) ∙ is))
    ]

next-of : (p : Point) (ps : List Point) (x : ℕ) (y : ℤ) → OnNext p ps x y → (q : Point) × (rest : List Point) × (ps ≡ q ∷ rest) × On p q x y
next-of p [] x y h = absurd h
next-of p (q ∷ rest) x y h = (q, rest, refl, h)

-- a pixel of a sample, or of a segment
Charted : List (Option ℤ) → Scene → ℕ → ℤ → Type 0
Charted list scene x y = IsOfSample list scene x y ⊎ IsOfSegment list scene x y

segment-from : (list : List (Option ℤ)) (scene : Scene) (n : ℕ) (p q : Point) → IsSample list scene n p → IsFirst list scene (n + 1) q
    → (x : ℕ) (y : ℤ) → On p q x y → IsOfSegment list scene x y
segment-from list scene n p q sample f x y on = record {
  slot = n;
  point = p;
  sample = sample;
  next = f.slot;
  next_point = q;
  next_sample = f.sample;
  order = omega (arith, f.from);
  none_between = λ i v low high holds.
      f.none i v (omega (arith, low)) high holds
      (drawn-between scene.axis scene.grid p.x q.x n i f.slot sample.column f.sample.column (omega (arith, low))
      (omega (arith, high))).shown;
  pixel = on;
}

abbrev ChartsFrom : List (Option ℤ) → Scene → ℕ → ℤ → List (Option ℤ) → ℕ → Type 0
ChartsFrom list scene x y xs n = AreFrom list n xs → AlongPoints (places_from scene n xs) x y → Charted list scene x y

kept-pixel : (list : List (Option ℤ)) (scene : Scene) → scene.axis.slots ≡ length list
    → (x : ℕ) (y : ℤ) (xs : List (Option ℤ)) (n : ℕ) (v : ℤ) → AreFrom list (n + 1) xs → ChartsFrom list scene x y xs (n + 1)
    → IsSample list scene n (place_at scene n v) → AlongPoints (place_at scene n v ∷ places_from scene (n + 1) xs) x y
    → Charted list scene x y
unfolding Charted
kept-pixel list scene same x y xs n v next rest sample (inl at) = inl
    (record { slot = n; point = place_at scene n v; sample = sample; pixel = at })
kept-pixel list scene same x y xs n v next rest sample (inr (inl on)) =
    let found = next-of (place_at scene n v) (places_from scene (n + 1) xs) x y on in
    inr (segment-from list scene n (place_at scene n v) found.0 sample
    (first-place list scene same xs (n + 1) next found.0 found.1 found.2) x y found.3)
kept-pixel list scene same x y xs n v next rest sample (inr (inr along)) = rest next along

charted-from : (list : List (Option ℤ)) (scene : Scene) → scene.axis.slots ≡ length list → (x : ℕ) (y : ℤ) (xs : List (Option ℤ)) (n : ℕ)
    → ChartsFrom list scene x y xs n
charted-from list scene same x y [] n from h = absurd h
charted-from list scene same x y (None ∷ xs) n from h = charted-from list scene same x y xs (n + 1) (from-next list n None xs from) h
charted-from list scene same x y (Some v ∷ xs) n from h =
    let next = from-next list n (Some v) xs from in
    elim (bool-cases (in_window scene.grid (slot_time scene.axis n))) [
      | inr out ↦ charted-from list scene same x y xs (n + 1) next
          (subst (λ (ps : List Point). AlongPoints ps x y) (places-left scene n v xs out) h)
      | inl shown ↦ kept-pixel list scene same x y xs n v next (charted-from list scene same x y xs (n + 1))
          (kept-sample list scene same n v (from-here list n (Some v) xs from) shown)
          (subst (λ (ps : List Point). AlongPoints ps x y) (places-kept scene n v xs shown) h)
    ]

pub charted : (list : List (Option ℤ)) (scene : Scene) → scene.axis.slots ≡ length list → (x : ℕ) (y : ℤ) → InChart list scene x y
    → IsOfSample list scene x y ⊎ IsOfSegment list scene x y
unfolding Charted
charted list scene same x y h =
    charted-from list scene same x y list 0 (λ i. ap (λ (m : ℕ). slice_get list m) (zero-plus i))
    ((InRaster-along (places_from scene 0 list) x y).0 h)
  where
    zero-plus : (i : ℕ) → i ≡ 0 + i
    zero-plus i = omega arith
