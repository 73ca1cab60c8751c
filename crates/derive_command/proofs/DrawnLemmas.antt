-- A chart can be drawn of any samples, and sums are too large, or have one.
use Rattle.std.proofs.Common.{◌≡◌, ◌∙◌, ℕ, ℤ, suc, pos, ◌+◌, ◌-◌, ◌*◌, ◌/◌, ◌%◌, ◌<◌, ◌≤◌, ◌^◌, ◌+ℤ◌, ◌-ℤ◌, ◌≤ℤ◌, ◌<ℤ◌, ◌⊎◌, ◌↔◌, Bool}
use Rattle.std.proofs.Common.{true, false, List, [], ◌∷◌, get_or, map, All, Option, None, Some, IsTrue, refl, sym, subst, inl, inr, arith}
use Rattle.std.proofs.lemmas.Bool.{cases_lt, cases_eq, false≢true}
use Rattle.std.proofs.lemmas.Int.{ints}
use Rattle.std.proofs.lemmas.List.Elements.{All-cons, All-nil}
use Rattle.std.proofs.lemmas.List.{get_or-map, length-map}
use Rattle.std.proofs.lemmas.List.FromFn.{get_or-map-range_with_len}
use Rattle.std.proofs.lemmas.Nat.{div-mul-add, mod-mul-add, mul-add-lt}
use Rattle.std.specs.Int.{int_max, int_min}
use Rattle.std.specs.List.{range_with_len}
use Rattle.std.specs.Prelude.{AllPairs, Contains, int_lt, unsigned_abs}
use Rattle.chart_grid.specs.declared.grid.Grid.{Grid}
use Rattle.chart_grid.specs.declared.axis.Axis.{Axis}
use Rattle.derived_chart.specs.Lists.{sums_of}
use Rattle.derived_chart.specs.Points.{AreSumSamples, IsShift}
use Rattle.derived_chart.specs.Rows.{IsFirstTooLarge}
use Rattle.derived_chart.specs.declared.sum.Sum.{Sum}
use Rattle.series_book.specs.declared.one_series.Series.{Series}
use Rattle.series_pair.specs.Derived.{AreSamplesOf, AreShifted, HasLargeSum, IsDerivedChart, ShowsRange, axis_of}
use Rattle.whole_number.specs.Range.{IsValue}
use Rattle.line_raster.proofs.RasterLemmas.{InRaster-along}
use Rattle.line_raster.specs.Canvas.{Canvas, black_at}
use Rattle.line_raster.specs.Raster.{AlongPoints, InRaster, IsAt, OnNext}
use Rattle.line_raster.specs.Segment.{InColumn, InRow, IsDot, On, columns, rows, share, towards}
use Rattle.line_raster.specs.declared.position.Point.{Point}
use Rattle.plain_chart.specs.Chart.{IsChart, places}
use Rattle.plain_chart.specs.Samples.{IsRange, Spans, kept, sample_points, values_of}
use Rattle.plain_chart.specs.declared.sample.Sample.{Sample}
use Rattle.plain_chart.specs.declared.value_range.ValueRange.{ValueRange}

-- ---- decisions

abbrev Decided : Type 0 → Type 0
Decided P = P ⊎ (P → ⊥)

both : {P Q : Type 0} → Decided P → Decided Q → Decided (P × Q)
both {P} {Q} (inl p) (inl q) = inl (p, q)
both {P} {Q} (inr p) q = inr (λ pair. p pair.0)
both {P} {Q} (inl p) (inr q) = inr (λ pair. q pair.1)

either : {P Q : Type 0} → Decided P → Decided Q → Decided (P ⊎ Q)
either {P} {Q} (inl p) q = inl (inl p)
either {P} {Q} (inr p) (inl q) = inl (inr q)
either {P} {Q} (inr p) (inr q) = inr (λ one. elim one [ inl here ↦ p here | inr there ↦ q there ])

same_if : {P Q : Type 0} → (P → Q) → (Q → P) → Decided P → Decided Q
same_if {P} {Q} there back (inl p) = inl (there p)
same_if {P} {Q} there back (inr p) = inr (λ q. p (back q))

is_less : (m n : ℕ) → Decided (m < n)
is_less m n = elim (cases_lt m n) [ inl low ↦ inl low | inr high ↦ inr (λ low. absurd (omega (arith, low, high))) ]

is_most : (m n : ℕ) → Decided (m ≤ n)
is_most m n = elim (cases_lt n m) [ inl low ↦ inr (λ most. absurd (omega (arith, low, most))) | inr high ↦ inl high ]

is_same : (m n : ℕ) → Decided (m ≡ n)
is_same m n = elim (cases_eq m n) [ inl same ↦ inl same | inr apart ↦ inr apart ]

no_gap : (a b : ℤ) → unsigned_abs (a -ℤ b) ≡ 0 → a ≡ b
no_gap a b none = grind (arith, ints, none)

gap_none : (a b : ℤ) → a ≡ b → unsigned_abs (a -ℤ b) ≡ 0
gap_none a b same = grind (arith, ints, same)

is_same_int : (a b : ℤ) → Decided (a ≡ b)
is_same_int a b = same_if (no_gap a b) (gap_none a b) (is_same (unsigned_abs (a -ℤ b)) 0)

-- ---- the pixels of a raster

is_at : (p : Point) (x : ℕ) (y : ℤ) → Decided (IsAt p x y)
is_at p x y = same_if (λ is. record { column = is.0; row = is.1 }) (λ is. (is.column, is.row)) (both (is_same x p.x) (is_same_int y p.y))

is_dot : (p q : Point) (x : ℕ) (y : ℤ) → Decided (IsDot p q x y)
is_dot p q x y =
    same_if (λ is. record { no_columns = is.0; no_rows = is.1.0; column = is.1.1.0; row = is.1.1.1 })
    (λ is. (is.no_columns, (is.no_rows, (is.column, is.row))))
    (both (is_same (columns p q) 0) (both (is_same (rows p q) 0) (both (is_same x p.x) (is_same_int y p.y))))

-- how far a pixel lies from the start tells the step
columns_from : (p x n : ℕ) → x ≡ p + n → x - p ≡ n
columns_from p x n is = omega (arith, is)

in_column : (p q : Point) (x : ℕ) (y : ℤ) → Decided (InColumn p q x y)
in_column p q x y =
    let n = x - p.x in
    same_if (λ is. record { wide = is.0; some = is.1.0; n = n; reached = is.1.1.0; column = is.1.1.1.0; row = is.1.1.1.1 })
    (λ is.
    let same = columns_from p.x x is.n is.column in
    let R : ℕ → Type 0 = λ m. m ≤ columns p q in
    let C : ℕ → Type 0 = λ m. x ≡ p.x + m in
    let Y : ℕ → Type 0 = λ m. y ≡ towards p.y q.y (share (columns p q) (rows p q) m) in
    (is.wide, (is.some, (subst R (sym same) is.reached, (subst C (sym same) is.column, subst Y (sym same) is.row)))))
    (both (is_most (rows p q) (columns p q)) (both (is_less 0 (columns p q)) (both (is_most n (columns p q)) (both (is_same x (p.x + n))
    (is_same_int y (towards p.y q.y (share (columns p q) (rows p q) n)))))))

rows_from : (p q : ℤ) (n : ℕ) (y : ℤ) → y ≡ towards p q n → unsigned_abs (y -ℤ p) ≡ n
rows_from p q n y is = by (int_lt q p) refl
  where
    by : (down : Bool) → int_lt q p ≡ down → unsigned_abs (y -ℤ p) ≡ n
    by true down =
        let T : Bool → Type 0 = λ b. y ≡ Rattle.std.specs.Prelude.cond b (p -ℤ pos n) (p +ℤ pos n) in
        let here : y ≡ p -ℤ pos n = subst T down is in
        grind (arith, ints, here)
    by false down =
        let T : Bool → Type 0 = λ b. y ≡ Rattle.std.specs.Prelude.cond b (p -ℤ pos n) (p +ℤ pos n) in
        let here : y ≡ p +ℤ pos n = subst T down is in
        grind (arith, ints, here)

in_row : (p q : Point) (x : ℕ) (y : ℤ) → Decided (InRow p q x y)
in_row p q x y =
    let n = unsigned_abs (y -ℤ p.y) in
    same_if (λ is. record { high = is.0; n = n; reached = is.1.0; row = is.1.1.0; column = is.1.1.1 })
    (λ is.
    let same = rows_from p.y q.y is.n y is.row in
    let R : ℕ → Type 0 = λ m. m ≤ rows p q in
    let Y : ℕ → Type 0 = λ m. y ≡ towards p.y q.y m in
    let C : ℕ → Type 0 = λ m. x ≡ p.x + share (rows p q) (columns p q) m in
    (is.high, (subst R (sym same) is.reached, (subst Y (sym same) is.row, subst C (sym same) is.column))))
    (both (is_less (columns p q) (rows p q)) (both (is_most n (rows p q))
    (both (is_same_int y (towards p.y q.y n)) (is_same x (p.x + share (rows p q) (columns p q) n)))))

is_on : (p q : Point) (x : ℕ) (y : ℤ) → Decided (On p q x y)
is_on p q x y = either (is_dot p q x y) (either (in_column p q x y) (in_row p q x y))

is_next : (p : Point) (ps : List Point) (x : ℕ) (y : ℤ) → Decided (OnNext p ps x y)
is_next p [] x y = inr (λ none. none)
is_next p (q ∷ ps) x y = is_on p q x y

is_along : (ps : List Point) (x : ℕ) (y : ℤ) → Decided (AlongPoints ps x y)
is_along [] x y = inr (λ none. none)
is_along (p ∷ ps) x y = either (is_at p x y) (either (is_next p ps x y) (is_along ps x y))

in_raster : (ps : List Point) (x : ℕ) (y : ℤ) → Decided (InRaster ps x y)
in_raster ps x y = same_if (InRaster-along ps x y).1 (InRaster-along ps x y).0 (is_along ps x y)

-- ---- a canvas of such pixels

abbrev truth : {P : Type 0} → Decided P → Bool
truth {P} (inl p) = true
truth {P} (inr p) = false

truth_tells : {P : Type 0} (is : Decided P) → IsTrue (truth is) ↔ P
truth_tells {P} (inl p) = (λ yes. p, λ is. refl)
truth_tells {P} (inr p) = (λ yes. absurd (false≢true yes), λ is. absurd (p is))

abbrev canvas_of : ℕ → ℕ → (ℕ → ℕ → Bool) → Canvas
canvas_of w h black = record { w = w; h = h; cells = map (λ i. black (i / h) (i % h)) (range_with_len 0 (w * h)) }

black_is : (w h : ℕ) (black : ℕ → ℕ → Bool) (x y : ℕ) → x < w → y < h → black_at (canvas_of w h black) x y ≡ black x y
unfolding black_at
black_is w h black x y column row =
    get_or-map-range_with_len (λ i. black (i / h) (i % h)) 0 (w * h) (x * h + y) (x * h + y) false
    (omega (arith, mul-add-lt x h y w column row)) (omega arith)
    ∙ (λ i. black (div-mul-add x h y row i) (mod-mul-add x h y row i))

chart_of : (g : Grid) (range : ValueRange) (samples : List Sample) → (canvas : Canvas) × IsChart g range samples canvas
chart_of g range samples =
    let points = places g range samples in
    let black : ℕ → ℕ → Bool = λ x y. truth (in_raster points x (pos y)) in
    let c = canvas_of g.w g.h black in (
      c,
      record {
        width = refl;
        height = refl;
        pixels = λ x y column row.
            let B : Bool → Type 0 = λ b. IsTrue b ↔ InRaster points x (pos y) in
            subst B (sym (black_is g.w g.h black x y column row)) (truth_tells (in_raster points x (pos y)));
      },
    )

-- ---- the range of values

head_in : (v : ℤ) (vs : List ℤ) → Contains (v ∷ vs) v
head_in v vs = (0, omega arith, refl)

tail_in : (v : ℤ) (vs : List ℤ) (w : ℤ) → Contains vs w → Contains (v ∷ vs) w
tail_in v vs w is = (suc is.0, omega (arith, is.1), is.2)

all_so : (P Q : ℤ → Type 0) (vs : List ℤ) → ((w : ℤ) → P w → Q w) → All P vs → All Q vs
all_so P Q vs more all k d low = more _ (all k d low)

spans_of : (v : ℤ) (vs : List ℤ) → (range : ValueRange) × Spans (v ∷ vs) range
spans_of v [] = (
  record { lo = v; hi = v },
  record {
    least = head_in v [];
    none_below = All-cons (λ w. v ≤ℤ w) v [] (grind (arith, ints)) (All-nil (λ w. v ≤ℤ w));
    greatest = head_in v [];
    none_above = All-cons (λ w. w ≤ℤ v) v [] (grind (arith, ints)) (All-nil (λ w. w ≤ℤ v));
  },
)
spans_of v (u ∷ us) =
    let rest = spans_of u us in
    let lo = int_min v rest.0.lo in
    let hi = int_max v rest.0.hi in
    let C : ℤ → Type 0 = λ z. Contains (v ∷ u ∷ us) z in
    let low : (lo ≡ v) ⊎ (lo ≡ rest.0.lo) = grind (arith, ints) in
    let high : (hi ≡ v) ⊎ (hi ≡ rest.0.hi) = grind (arith, ints) in (
      record { lo = lo; hi = hi },
      record {
        least = elim low [
          | inl here ↦ subst C (sym here) (head_in v (u ∷ us))
          | inr there ↦ subst C (sym there)
              (tail_in v (u ∷ us) rest.0.lo rest.1.least)
        ];
        none_below = All-cons (λ w. lo ≤ℤ w) v (u ∷ us) (grind (arith, ints))
            (all_so (λ w. rest.0.lo ≤ℤ w) (λ w. lo ≤ℤ w) (u ∷ us) (λ w is. grind (arith, ints, is)) rest.1.none_below);
        greatest = elim high [
          | inl here ↦ subst C (sym here) (head_in v (u ∷ us))
          | inr there ↦ subst C (sym there)
              (tail_in v (u ∷ us) rest.0.hi rest.1.greatest)
        ];
        none_above = All-cons (λ w. w ≤ℤ hi) v (u ∷ us) (grind (arith, ints))
            (all_so (λ w. w ≤ℤ rest.0.hi) (λ w. w ≤ℤ hi) (u ∷ us) (λ w is. grind (arith, ints, is)) rest.1.none_above);
      },
    )

range_of : (values : List ℤ) → (range : ValueRange) × IsRange values range
range_of [] = (record { lo = pos 0; hi = pos 0 }, (refl, refl))
range_of (v ∷ vs) = spans_of v vs

shown_of : (asked : Option ValueRange) (values : List ℤ) → (range : ValueRange) × ShowsRange asked values range
shown_of None values = range_of values
shown_of (Some asked) values = (asked, refl)

-- ---- sums that are too large

large_of : (samples : List Sample) → AllPairs (λ s t. s.time <ℤ t.time) samples
    → All (λ s. IsValue s.value) samples ⊎ ((time : ℤ) × IsFirstTooLarge samples time)
large_of [] rising = inl (All-nil (λ s. IsValue s.value))
large_of (s ∷ ss) rising = by (is_less (10 ^ 18) (unsigned_abs s.value))
    (large_of ss (λ i j d low within. rising (suc i) (suc j) d (omega (arith, low)) (omega (arith, within))))
  where
    by : Decided (10 ^ 18 < unsigned_abs s.value) → All (λ s. IsValue s.value) ss ⊎ ((time : ℤ) × IsFirstTooLarge ss time)
        → All (λ s. IsValue s.value) (s ∷ ss) ⊎ ((time : ℤ) × IsFirstTooLarge (s ∷ ss) time)
    by (inl large) others = inr (
      s.time,
      record {
        value = s.value;
        among = (0, omega arith, refl);
        large = large;
        before = All-cons (λ t. t.time <ℤ s.time → IsValue t.value) s ss (λ low. absurd (grind (arith, ints, low)))
            (λ k d within low. let later = rising 0 (suc k) d (omega arith) (omega (arith, within)) in
            absurd (grind (arith, ints, low, later)));
      },
    )
    by (inr small) (inl all) = inl (All-cons (λ t. IsValue t.value) s ss
        (elim (cases_lt (10 ^ 18) (unsigned_abs s.value)) [ inl large ↦ absurd (small large) | inr low ↦ low ]) all)
    by (inr small) (inr (time, first)) = inr (
      time,
      record {
        value = first.value;
        among = (suc first.among.0, omega (arith, first.among.1), first.among.2);
        large = first.large;
        before = All-cons (λ t. t.time <ℤ time → IsValue t.value) s ss
            (λ low. elim (cases_lt (10 ^ 18) (unsigned_abs s.value)) [ inl large ↦ absurd (small large) | inr few ↦ few ]) first.before;
      },
    )

point_of : Sample → ℤ × ℤ
point_of s = (s.time, s.value)

pair_of : (samples : List Sample) → AllPairs (λ p q. p.0 <ℤ q.0) (sample_points samples) → AllPairs (λ s t. s.time <ℤ t.time) samples
unfolding point_of
pair_of samples rising i j d low within =
    let n = length-map samples point_of in
    let one = get_or-map point_of samples i d (point_of d) (omega (arith, low, within)) in
    let other = get_or-map point_of samples j d (point_of d) within in
    let is = rising i j (point_of d) low (omega (arith, within, n)) in
    let P : ℤ × ℤ → Type 0 = λ p. p.0 <ℤ (get_or (sample_points samples) j (point_of d)).0 in
    let Q : ℤ × ℤ → Type 0 = λ q. (get_or samples i d).time <ℤ q.0 in
    subst Q other (subst P one is)

-- ---- a sum has a chart, or is too large

pub sum_drawn : (book : List Series) (x y : ℕ) (shift : ℤ) (on : AreShifted book x y shift) → 0 < on.one.step
    → ((g : Grid) (x y : Axis) (sum : Sum) (xs ys : List (Option ℤ)) → 0 < x.step → IsShift x y sum.shift
    → AreSumSamples g sum.a sum.b x y xs ys (kept g x (sums_of sum xs ys)))
    → (a b : ℤ) (g : Grid) (asked : Option ValueRange)
    → ((canvas : Canvas) × IsDerivedChart book x y a b g asked canvas) ⊎ ((time : ℤ) × HasLargeSum book x y a b g time)
sum_drawn book x y shift on step law a b g asked =
    let samples = kept g (axis_of on.one) (sums_of (record { a = a; b = b; shift = shift }) on.one.slots on.other.slots) in
    let is : AreSamplesOf book x y a b g samples = record {
      one = on.one;
      other = on.other;
      first = on.first;
      second = on.second;
      are = law g (axis_of on.one) (axis_of on.other) (record { a = a; b = b; shift = shift }) on.one.slots on.other.slots step on.shift;
    } in
    by samples is (large_of samples (pair_of samples is.are.order.rising))
  where
    by : (samples : List Sample) → AreSamplesOf book x y a b g samples
        → All (λ s. IsValue s.value) samples ⊎ ((time : ℤ) × IsFirstTooLarge samples time)
        → ((canvas : Canvas) × IsDerivedChart book x y a b g asked canvas) ⊎ ((time : ℤ) × HasLargeSum book x y a b g time)
    by samples is (inl all) =
        let range = shown_of asked (values_of samples) in
        let chart = chart_of g range.0 samples in
        inl (chart.0, record { samples = samples; are = is; values = all; range = range.0; shows = range.1; chart = chart.1 })
    by samples is (inr (time, first)) = inr (time, record { samples = samples; are = is; first = first })
