-- What a client sees of a service's view: the series that the view is of, and no wanted key that fails.
use Rattle.std.proofs.Common.{ℕ, ℤ, ◌≡◌, ◌==◌, ◌++◌, ◌^◌, ◌<◌, ◌≤◌, inl, inr, false, if◌then◌else◌, List, length, Option, None, Some, refl}
use Rattle.std.proofs.Common.{sym, ap, ◌∙◌, subst, arith}
use Rattle.std.proofs.lemmas.Bool.Decides.{nat_tests}
use Rattle.std.proofs.lemmas.Option.{slice_get_within, slice_get-get_or}
use Rattle.chart_grid.specs.declared.axis.Axis.{Axis}
use Rattle.chart_grid.specs.declared.grid.Grid.{Grid}
use Rattle.om3_coeff.specs.declared.key.Key.{Key}
use Rattle.om3_coeff.specs.declared.span.Span.{Span}
use Rattle.om3_coeff.specs.declared.coef.Coef.{Coef}
use Rattle.om3_coeff.specs.Keys.{height, top_key, left_of, right_of}
use Rattle.om3_coeff.specs.Spans.{AreSlots, span, span_over}
use Rattle.whole_number.specs.Range.{IsValue}
use Rattle.om3_coeff.specs.Coefs.{coef, parts}
use Rattle.om3_coeff.specs.Known.{known}
use Rattle.view_keys.specs.Needed.{IsNeeded}
use Rattle.view_keys.specs.Wanted.{Seen, IsWanted}
use Rattle.view_keys.specs.Listed.{IsListOf}
use Rattle.m4_groups.specs.Points.{AreInOrder}
use Rattle.needed_nodes.specs.Answers.{points_of}
use Rattle.coefficient_cache.specs.declared.series_key.SeriesKey.{SeriesKey}
use Rattle.coefficient_cache.specs.Caches.{Cache}
use Rattle.coefficient_cache.specs.Pairs.{in_series}
use Rattle.coefficient_cache.specs.Views.{AreDistinct, Gives, to_send}
use Rattle.series_book.specs.declared.one_series.Series.{Series}
use Rattle.series_book.specs.Books.{IsSeries}
use Rattle.series_book.specs.Edits.{is_too_large}
use Rattle.plain_chart.specs.declared.value_range.ValueRange.{ValueRange}
use Rattle.zoom_session.specs.declared.view_spec.ViewSpec.{ViewSpec}
use Rattle.chart_frames.specs.declared.frame.ViewFrame.{ViewFrame}
use Rattle.chart_service.specs.Viewing.{axis_of, has_of, least_of, greatest_of, root_of as series_root, view_frame, AreNeeded}
use Rattle.chart_client.specs.Holdings.{told_by, root_of, seen_by}
use Rattle.chart_client.specs.Agreeing.{Agrees}
use Rattle.chart_client.specs.Failing.{Fails}
use Rattle.view_keys.proofs.Orders.{told_among, kinds_one}

-- what is known of the layers below
pub record Laws : Type 0 where
  pub same : (list : List (Option ℤ)) (axis : Axis) (grid : Grid) (lo hi : ℤ) (seen : Seen) →
      AreSlots list → length list ≤ 2 ^ 35 → axis.slots ≡ length list → seen.root ≡ span list (top_key (length list)) →
      ((k : Key) → IsNeeded list axis grid lo hi k → IsWanted seen axis grid lo hi k → seen.told k ≡ Some (coef list k)) →
      (k : Key) → (IsWanted seen axis grid lo hi k → IsNeeded list axis grid lo hi k)
      × (IsNeeded list axis grid lo hi k → IsWanted seen axis grid lo hi k)
  pub spans : (list : List (Option ℤ)) (axis : Axis) (grid : Grid) (lo hi : ℤ) (seen : Seen) →
      AreSlots list → length list ≤ 2 ^ 35 → axis.slots ≡ length list → seen.root ≡ span list (top_key (length list)) →
      ((k : Key) → IsNeeded list axis grid lo hi k → IsWanted seen axis grid lo hi k → seen.told k ≡ Some (coef list k)) →
      (k : Key) → IsWanted seen axis grid lo hi k → known seen.root seen.told (height axis.slots) k ≡ Some (span list k)
  pub gives : (pairs : List (SeriesKey × Coef)) (series : ℕ) (needed : List (Key × Coef)) →
      AreDistinct needed → Gives (in_series series (to_send pairs series needed) ++ pairs) series needed
  pub order : (list : List (Option ℤ)) (axis : Axis) (grid : Grid) → 0 < axis.step → AreInOrder grid (points_of axis grid list)
  pub tops : (list : List (Option ℤ)) → length list ≤ 2 ^ 35 → span list (top_key (length list)) ≡ span_over list 0 (length list)
  pub splits : (list : List (Option ℤ)) (k : Key) (s : Span) → AreSlots list → 1 ≤ k.level → span list k ≡ Some s
      → parts s (coef list k) ≡ Some (span list (left_of k), span list (right_of k))

-- a frame's root is the one that was told
root-back : (o : Option Span) → (if has_of o == 1 then Some (record { min = least_of o; max = greatest_of o }) else None) ≡ o
root-back None = refl
root-back (Some s) = refl

slot-value : (v : ℤ) → is_too_large (Some v) ≡ false → IsValue v
slot-value v small = grind (arith, nat_tests, small)

slot-same : {a b : Option ℤ} → ◌≡◌ {A = Option (Option ℤ)} (Some a) (Some b) → a ≡ b
slot-same h = cc

pub are-slots : (series : Series) → IsSeries series → AreSlots series.slots
are-slots series good i v holds =
    let low = slice_get_within series.slots i (Some v) holds in
    let is = slot-same (sym (slice_get-get_or series.slots i (Some v) low) ∙ holds) in
    slot-value v (subst (λ (slot : Option ℤ). is_too_large slot ≡ false) is (good.values_in_range i (Some v) low))

-- a view that the service answers
pub record View : Type 0 where
  pub laws : Laws
  pub series : Series
  pub good : IsSeries series
  pub spec : ViewSpec
  pub number : ℕ
  pub range : ValueRange
  pub cache : Cache
  pub needed : List (Key × Coef)
  pub are_needed : AreNeeded series spec.grid range needed
  pub distinct : AreDistinct needed

abbrev pub frame_of : View → ViewFrame
frame_of v = view_frame v.number v.spec v.range v.series (to_send v.cache.pairs v.spec.series v.needed)

abbrev Need : View → Key → Type 0
Need v k = IsNeeded v.series.slots (axis_of v.series) v.spec.grid v.range.lo v.range.hi k

abbrev Want : View → Key → Type 0
Want v k = IsWanted (seen_by (frame_of v) v.cache) (axis_of v.series) v.spec.grid v.range.lo v.range.hi k

few : (v : View) → length v.series.slots ≤ 2 ^ 35
few v = omega (arith, v.good.slots_in_range)

-- each needed key is told rightly
right : (v : View) (k : Key) → Need v k → told_by (frame_of v) v.cache k ≡ Some (coef v.series.slots k)
right v k need =
    told_among (λ j. Some (coef v.series.slots j)) v.needed k (λ j o. told_by (frame_of v) v.cache j ≡ o)
    v.are_needed.coefs
    (v.laws.gives v.cache.pairs v.spec.series v.needed v.distinct)
    (v.are_needed.all k need)

root-same : (v : View) → root_of (frame_of v) ≡ span v.series.slots (top_key (length v.series.slots))
root-same v = root-back (series_root v.series) ∙ sym (v.laws.tops v.series.slots (few v))

want-need : (v : View) (k : Key) → (Want v k → Need v k) × (Need v k → Want v k)
want-need v k =
    v.laws.same v.series.slots (axis_of v.series) v.spec.grid v.range.lo v.range.hi (seen_by (frame_of v) v.cache)
    (are-slots v.series v.good) (few v) refl
    (root-same v) (λ j need want. right v j need) k

some-coef : {a b : Coef} → ◌≡◌ {A = Option Coef} (Some a) (Some b) → a ≡ b
some-coef h = cc

some-span : {a b : Option Span} → ◌≡◌ {A = Option (Option Span)} (Some a) (Some b) → a ≡ b
some-span h = cc

-- the series agrees with the frame and the client's list
pub agrees : (v : View) → Agrees (frame_of v) v.cache v.spec.grid v.series.slots
agrees v = record {
  values = are-slots v.series v.good;
  slots = refl;
  root = root-same v;
  told = λ k c want told. some-coef (sym told ∙ right v k ((want-need v k).0 want));
}

no-coef : {a : Coef} → ◌≡◌ {A = Option Coef} None (Some a) → ⊥
no-coef h = cc

no-parts : {a : Option Span × Option Span} → ◌≡◌ {A = Option (Option Span × Option Span)} None (Some a) → ⊥
no-parts h = cc

-- no wanted key fails
pub none-fails : (v : View) (k : Key) → Want v k → Fails (seen_by (frame_of v) v.cache) (length v.series.slots) k → ⊥
none-fails v k want (inl missing) = no-coef (sym missing ∙ right v k ((want-need v k).0 want))
none-fails v k want (inr misfit) =
    let need = (want-need v k).0 want in
    let shown = v.laws.spans v.series.slots (axis_of v.series) v.spec.grid v.range.lo v.range.hi (seen_by (frame_of v) v.cache)
    (are-slots v.series v.good) (few v) refl
    (root-same v) (λ j n w. right v j n) k want in
    let s : span v.series.slots k ≡ Some misfit.span = some-span (sym shown ∙ misfit.known_so) in
    let c : misfit.coef ≡ coef v.series.slots k = some-coef (sym misfit.told ∙ right v k need) in
    no-parts (sym (ap (λ d. parts misfit.span d) (sym c) ∙ misfit.splits_not)
    ∙ v.laws.splits v.series.slots k misfit.span (are-slots v.series v.good) need.node.low s)

-- the keys that the client wants are those that the service found needed
pub wanted-same : (v : View) (wanted : List (Key × Coef)) → IsListOf (Want v) (told_by (frame_of v) v.cache) wanted → wanted ≡ v.needed
wanted-same v wanted is =
    kinds_one (Want v) (Need v) (told_by (frame_of v) v.cache) (λ k. Some (coef v.series.slots k)) wanted v.needed
    (λ k. (want-need v k).0) (λ k. (want-need v k).1)
    (λ k want. sym (right v k ((want-need v k).0 want)))
    is v.are_needed
