-- A request over a book is refused, or has an answer.
use Rattle.std.proofs.Common.{◌≡◌, ◌∙◌, ℕ, ℤ, pos, ◌*◌, ◌/◌, ◌%◌, ◌<◌, ◌*ℤ◌, ◌+ℤ◌, ◌-ℤ◌, ◌≤ℤ◌, ◌<ℤ◌, ◌⊎◌, List, Option, None, Some, refl}
use Rattle.std.proofs.Common.{sym, ap, subst, inl, inr, arith}
use Rattle.std.proofs.Math.Nat.{mul-mod_left}
use Rattle.std.proofs.lemmas.Bool.{cases_lt, cases_eq}
use Rattle.std.proofs.lemmas.Int.{ints, unsigned_abs-mul}
use Rattle.std.proofs.lemmas.Nat.{div-add-mod'}
use Rattle.std.specs.List.{slice_get}
use Rattle.std.specs.Prelude.{neg_ℤ, unsigned_abs}
use Rattle.chart_grid.specs.Limits.{IsBadSide, IsBadWindow, IsSide, IsWindow}
use Rattle.chart_grid.specs.declared.axis.Axis.{Axis}
use Rattle.chart_grid.specs.declared.grid.Grid.{Grid}
use Rattle.chart_service.specs.Viewing.{IsBadRange, IsGoodRange}
use Rattle.derived_chart.specs.Lists.{sums_of}
use Rattle.derived_chart.specs.Points.{AreSumSamples, IsShift}
use Rattle.derived_chart.specs.declared.sum.Sum.{Sum}
use Rattle.pbm_writer.specs.Picture.{picture}
use Rattle.plain_chart.specs.Samples.{kept}
use Rattle.request_lines.specs.declared.ranges.RangeWord.{RangeWord}
use Rattle.request_lines.specs.declared.ranges.RangeWord.TheVariants as word
use Rattle.series_book.specs.Edits.{id_of}
use Rattle.series_book.specs.declared.one_series.Series.{Series}
use Rattle.series_pair.proofs.ChartLemmas.{same_series}
use Rattle.series_pair.specs.Derived.{AreUnlike, axis_of}
use Rattle.whole_number.specs.declared.limits.TheConstants.{GREATEST_TIME, GREATEST_VALUE}
use Rattle.derive_command.specs.Answers.{AreNamed, AreOnOneGrid, HaveSteps, IsAnswer, IsGridOf, IsRefused, asked_range}
use Rattle.derive_command.specs.declared.derive_refusal.DeriveRefusal.{DeriveRefusal}
use Rattle.derive_command.specs.declared.derive_refusal.DeriveRefusal.TheVariants as refusal
use Rattle.derive_command.specs.declared.request.Request.{Request}
use Rattle.derive_command.proofs.DrawnLemmas.{sum_drawn}

-- ---- a common grid

pos_times : (k n : ℕ) → (pos k *ℤ pos n) ≡ pos (k * n)
pos_times k n = grind (arith, ints)

neg_times : (k n : ℕ) → (neg_ℤ (pos k) *ℤ pos n) ≡ neg_ℤ (pos (k * n))
neg_times k n = grind (arith, ints)

-- the starts lie so far apart
abbrev gap : Axis → Axis → ℕ
gap x y = unsigned_abs (x.start -ℤ y.start)

on_sides : (a b : ℤ) (n : ℕ) → n ≡ unsigned_abs (a -ℤ b) → (a ≡ b +ℤ pos n) ⊎ (a ≡ b +ℤ neg_ℤ (pos n))
on_sides a b n is = grind (arith, ints, is)

found_shift : (x y : Axis) → y.step ≡ x.step → gap x y % x.step ≡ 0 → (d : ℤ) × IsShift x y d
found_shift x y same even =
    let k = gap x y / x.step in
    let whole : k * x.step ≡ gap x y = omega (arith, div-add-mod' (gap x y) x.step, even) in
    let P : ℕ → Type 0 = λ n. (x.start ≡ y.start +ℤ pos n) ⊎ (x.start ≡ y.start +ℤ neg_ℤ (pos n)) in
    elim (subst P (sym whole) (on_sides x.start y.start (gap x y) refl)) [
      | inl later ↦ (pos k, record { step = same; start = later ∙ ap (λ z. y.start +ℤ z) (sym (pos_times k x.step)) })
      | inr earlier ↦ (neg_ℤ (pos k), record { step = same; start = earlier ∙ ap (λ z. y.start +ℤ z) (sym (neg_times k x.step)) })
    ]

gap_of : (a b c : ℤ) → a ≡ b +ℤ c → unsigned_abs (a -ℤ b) ≡ unsigned_abs c
gap_of a b c is = grind (arith, ints, is)

even_gap : (x y : Axis) (d : ℤ) → IsShift x y d → gap x y % x.step ≡ 0
even_gap x y d shift =
    let whole : gap x y ≡ unsigned_abs d * x.step = gap_of x.start y.start (d *ℤ pos x.step) shift.start
    ∙ unsigned_abs-mul d (pos x.step) in
    ap (λ n. n % x.step) whole ∙ mul-mod_left (unsigned_abs d) x.step

shift_decided : (x y : Axis) → ((d : ℤ) × IsShift x y d) ⊎ ((d : ℤ) → IsShift x y d → ⊥)
shift_decided x y = elim (cases_eq y.step x.step) [
  | inl same ↦ elim (cases_eq (gap x y % x.step) 0)
      [ inl even ↦ inl (found_shift x y same even) | inr odd ↦ inr (λ d shift. odd (even_gap x y d shift)) ]
  | inr apart ↦ inr (λ d shift. apart shift.step)
]

-- ---- a grid

window_decided : (t0 t1 : ℤ) → IsWindow t0 t1 ⊎ IsBadWindow t0 t1
window_decided t0 t1 =
    let order : (t0 <ℤ t1) ⊎ (t1 ≤ℤ t0) = grind (arith, ints) in
    elim order [
      | inr turned ↦ inr (inl turned)
      | inl rising ↦ elim (cases_lt GREATEST_TIME (unsigned_abs t0)) [
        | inl far ↦ inr (inr (inl far))
        | inr near ↦ elim (cases_lt GREATEST_TIME (unsigned_abs t1)) [
          | inl far ↦ inr (inr (inr far))
          | inr close ↦ inl (record { rising = rising; from_size = near; to_size = close })
        ]
      ]
    ]

side_decided : (n : ℕ) → IsSide n ⊎ IsBadSide n
side_decided n = elim (cases_lt n 1) [
  | inl none ↦ inr (inl none)
  | inr some ↦ elim (cases_lt 4096 n) [ inl many ↦ inr (inr many) | inr few ↦ inl (record { some = omega (arith, some); most = few }) ]
]

range_decided : (range : RangeWord) → IsGoodRange range ⊎ IsBadRange range
range_decided word.Auto = inl tt
range_decided (word.Fixed lo hi) =
    let order : (lo ≤ℤ hi) ⊎ (hi <ℤ lo) = grind (arith, ints) in
    elim order [
      | inr turned ↦ inr (inl turned)
      | inl rising ↦ elim (cases_lt GREATEST_VALUE (unsigned_abs lo)) [
        | inl far ↦ inr (inr (inl far))
        | inr near ↦ elim (cases_lt GREATEST_VALUE (unsigned_abs hi)) [
          | inl far ↦ inr (inr (inr far))
          | inr close ↦ inl (rising, near, close)
        ]
      ]
    ]

grid_of : (r : Request) → IsWindow r.t0 r.t1 → IsSide r.w → IsSide r.h → IsGoodRange r.range → (g : Grid) × IsGridOf r g
grid_of r window wide high range = (
  record { t0 = r.t0; t1 = r.t1; w = r.w; h = r.h; window = window; wide = wide; high = high },
  record {
    window = window;
    wide = wide;
    high = high;
    range = range;
    shows = record { from = refl; to = refl };
    canvas = record { columns = refl; rows = refl };
  },
)

-- ---- a request

abbrev Settled : List Series → Request → Type 0
Settled book r = ((why : DeriveRefusal) × IsRefused book r why) ⊎ ((text : List ℕ) × IsAnswer book r text)

module _ (law : (g : Grid) (x y : Axis) (sum : Sum) (xs ys : List (Option ℤ)) → 0 < x.step → IsShift x y sum.shift
    → AreSumSamples g sum.a sum.b x y xs ys (kept g x (sums_of sum xs ys)))
    (book : List Series) (steps : HaveSteps book) (r : Request) where
  drawn : (one : AreOnOneGrid book r) → (g : Grid) → IsGridOf r g → Settled book r
  drawn one g grid_is =
      let on = one.shifted in
      elim (sum_drawn book one.x one.y one.shift on (steps one.x on.one on.first) law r.a r.b g (asked_range r.range)) [
        | inl chart ↦ inr (
          picture chart.0,
          record {
            series = one;
            grid = g;
            grid_is = grid_is;
            canvas = chart.0;
            chart = chart.1;
            text_is = refl;
          },
        )
        | inr large ↦ inl (refusal.TooLarge, record { series = one; grid = g; grid_is = grid_is; time = large.0; large = large.1 })
      ]

  viewed : AreOnOneGrid book r → Settled book r
  viewed one = elim (window_decided r.t0 r.t1) [
    | inr bad ↦ inl (refusal.BadWindow, (one, bad))
    | inl window ↦ elim (side_decided r.w) [
      | inr bad ↦ inl (refusal.BadCanvas, (one, window, inl bad))
      | inl wide ↦ elim (side_decided r.h) [
        | inr bad ↦ inl (refusal.BadCanvas, (one, window, inr bad))
        | inl high ↦ elim (range_decided r.range) [
          | inr bad ↦ inl (refusal.BadRange, (one, window, wide, high, bad))
          | inl range ↦ let g = grid_of r window wide high range in drawn one g.0 g.1
        ]
      ]
    ]
  ]

  -- the series at two ids
  module _ (x y : ℕ) (named : AreNamed book r x y) where
    unlike : AreUnlike book x y → Settled book r
    unlike none = inl (refusal.NotOneGrid, (x, y, named, none))

    paired : (one other : Option Series) → slice_get book x ≡ one → slice_get book y ≡ other → Settled book r
    paired None other first second = unlike (λ d on. let never : None ≡ Some on.one = sym first ∙ on.first in cc)
    paired (Some one) None first second = unlike (λ d on. let never : None ≡ Some on.other = sym second ∙ on.second in cc)
    paired (Some one) (Some other) first second = elim (shift_decided (axis_of one) (axis_of other)) [
      | inl found ↦ viewed (record {
        x = x;
        y = y;
        named = named;
        shift = found.0;
        shifted = record { one = one; other = other; first = first; second = second; shift = found.1 };
      })
      | inr none ↦ unlike (λ d on.
          let P : Series → Type 0 = λ s. IsShift (axis_of s) (axis_of on.other) d in
          let Q : Series → Type 0 = λ s. IsShift (axis_of one) (axis_of s) d in
          none d (subst Q (same_series book y on.other other on.second second)
          (subst P (same_series book x on.one one on.first first) on.shift)))
    ]

  named_so : (x y : Option ℕ) → id_of r.first book ≡ x → id_of r.second book ≡ y → Settled book r
  named_so None y first second = inl (refusal.UnknownSeries, inl first)
  named_so (Some x) None first second = inl (refusal.UnknownSeries, inr second)
  named_so (Some x) (Some y) first second = paired x y (record { first = first; second = second }) (slice_get book x)
      (slice_get book y) refl refl

  pub settled : Settled book r
  settled = named_so (id_of r.first book) (id_of r.second book) refl refl
