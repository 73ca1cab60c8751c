-- A plan keeps what its query keeps.
use Rattle.std.proofs.Common.{ℕ, suc, ℤ, ◌≡◌, ◌+◌, ◌<◌, ◌≤◌, inl, inr, arith, Bool, true, false, cond, List, [], ◌∷◌, length, refl, sym}
use Rattle.std.proofs.Common.{◌∙◌, ap, subst}
use Rattle.std.proofs.lemmas.Int.{ints}
use Rattle.std.proofs.lemmas.Bool.Decides.{nat_tests}
use Rattle.std.proofs.lemmas.Bool.{cases_lt, and_parts, and_from, cases_Bool}
use Rattle.std.proofs.lemmas.Option.{slice_get_within, get_or_from_slice_get}
use Rattle.std.proofs.lemmas.List.Elements.{All-get_or}
use Rattle.std.specs.Prelude.{Option, Some, None, All, filter, slice_get, nat_le, nat_lt, int_le, int_lt, ◌&&◌, if◌then◌else◌}
use Rattle.std.specs.List.{enumerate_from, filter_map, cons_option}
use Rattle.chart_grid.specs.declared.axis.Axis.{Axis}
use Rattle.chart_grid.specs.declared.grid.Grid.{Grid}
use Rattle.chart_grid.specs.Projection.{InWindow}
use Rattle.chart_grid.specs.Slots.{AreSlotsBefore, slot_time}
use Rattle.plain_chart.specs.declared.sample.Sample.{Sample}
use Rattle.plain_chart.specs.Samples.{kept, kept_at, in_window, IsSlot}
use Rattle.whole_number.specs.Range.{IsValue}
use Rattle.value_filter.specs.declared.steps.Step.{Step}
use Rattle.value_filter.specs.Expressions.{holds_at}
use Rattle.value_filter.specs.Steps.{expression_of}
use Rattle.query_rewriter.specs.Kept.{passes, stored_at, stored_in}
use Rattle.query_rewriter.specs.Scans.{KeepsNone, IsLeft}
use Rattle.query_rewriter.proofs.Windows.{slots_shown, shown_slots}

-- whether slot i is in a range
abbrev in_range : ℕ → ℕ → ℕ → Bool
in_range a b i = nat_le a i && nat_lt i b

abbrev sample_of : Axis → ℕ → ℤ → Sample
sample_of axis i v = record { time = slot_time axis i; value = v }

-- two ways to keep samples that keep the same of each slot
kept_one : (P : Sample → Bool) (b : Bool) (s : Sample) (rest : List Sample)
    → filter P (cons_option (if b then Some s else None) rest) ≡ cond (b && P s) (s ∷ filter P rest) (filter P rest)
kept_one P true s rest = refl
kept_one P false s rest = refl

same_kept : (P Q : Sample → Bool) (axis : Axis) (g : Grid) (a b n : ℕ) (xs : List (Option ℤ))
    → ((i : ℕ) (v : ℤ) → slice_get xs i ≡ Some (Some v)
    → (in_range a b (n + i) && P (sample_of axis (n + i) v)) ≡ (in_window g (slot_time axis (n + i)) && Q (sample_of axis (n + i) v)))
    → filter P (filter_map (stored_at axis (a, b)) (enumerate_from n xs)) ≡ filter Q (filter_map (kept_at g axis) (enumerate_from n xs))
same_kept P Q axis g a b n [] same = refl
same_kept P Q axis g a b n (None ∷ xs) same =
    same_kept P Q axis g a b (n + 1) xs (λ i v holds.
    (let e : n + suc i ≡ (n + 1) + i = omega arith in
    let R : ℕ → Type 0 = λ m. (in_range a b m && P (sample_of axis m v)) ≡ (in_window g (slot_time axis m) && Q (sample_of axis m v)) in
    subst R e (same (suc i) v holds)))
same_kept P Q axis g a b n (Some u ∷ xs) same =
    let rest : filter P (filter_map (stored_at axis (a, b)) (enumerate_from (n + 1) xs)) ≡ filter Q
    (filter_map (kept_at g axis) (enumerate_from (n + 1) xs)) =
    same_kept P Q axis g a b (n + 1) xs (λ i v holds.
    (let e : n + suc i ≡ (n + 1) + i = omega arith in
    let R : ℕ → Type 0 = λ m. (in_range a b m && P (sample_of axis m v)) ≡ (in_window g (slot_time axis m) && Q (sample_of axis m v)) in
    subst R e (same (suc i) v holds))) in
    let here : (in_range a b n && P (sample_of axis n u)) ≡ (in_window g (slot_time axis n) && Q (sample_of axis n u)) =
    (let e : n + 0 ≡ n = omega arith in
    let R : ℕ → Type 0 = λ m. (in_range a b m && P (sample_of axis m u)) ≡ (in_window g (slot_time axis m) && Q (sample_of axis m u)) in
    subst R e (same 0 u refl)) in
    kept_one P (in_range a b n) (sample_of axis n u) (filter_map (stored_at axis (a, b)) (enumerate_from (n + 1) xs))
    ∙ ap (λ c. cond c (sample_of axis n u ∷ filter P (filter_map (stored_at axis (a, b)) (enumerate_from (n + 1) xs)))
    (filter P (filter_map (stored_at axis (a, b)) (enumerate_from (n + 1) xs)))) here
    ∙ ap (λ ys. cond (in_window g (slot_time axis n) && Q (sample_of axis n u)) (sample_of axis n u ∷ ys) ys) rest
    ∙ sym (kept_one Q (in_window g (slot_time axis n)) (sample_of axis n u) (filter_map (kept_at g axis) (enumerate_from (n + 1) xs)))

-- tests and what they mean
and_first : (a b : Bool) → a ≡ true → (a && b) ≡ b
and_first a b e = ap (λ a. a && b) e

none_first : (a b : Bool) → a ≡ false → (a && b) ≡ false
none_first a b e = ap (λ a. a && b) e

none_second : (a b : Bool) → b ≡ false → (a && b) ≡ false
none_second true b e = e
none_second false b e = refl

window_true : (g : Grid) (t : ℤ) → in_window g t ≡ true → InWindow g t
window_true g t h =
    let both : (int_le g.t0 t ≡ true) × (int_lt t g.t1 ≡ true) = and_parts (int_le g.t0 t) (int_lt t g.t1) h in
    record { from = grind (arith, ints, nat_tests); to = grind (arith, ints, nat_tests) }

true_window : (g : Grid) (t : ℤ) → InWindow g t → in_window g t ≡ true
true_window g t shown =
    let from : int_le g.t0 t ≡ true = grind (arith, ints, nat_tests, shown.from) in
    let to : int_lt t g.t1 ≡ true = grind (arith, ints, nat_tests, shown.to) in
    and_from (int_le g.t0 t) (int_lt t g.t1) from to

no_window : (g : Grid) (t : ℤ) → (InWindow g t → ⊥) → in_window g t ≡ false
no_window g t none =
    elim (cases_Bool (in_window g t)) [
      | inl set ↦ absurd (none (window_true g t set))
      | inr unset ↦ unset
    ]

range_true : (a b i : ℕ) → a ≤ i → i < b → in_range a b i ≡ true
range_true a b i from to = and_from (nat_le a i) (nat_lt i b) (grind (arith, nat_tests)) (grind (arith, nat_tests))

range_before : (a b i : ℕ) → i < a → in_range a b i ≡ false
range_before a b i less = none_first (nat_le a i) (nat_lt i b) (grind (arith, nat_tests))

range_behind : (a b i : ℕ) → b ≤ i → in_range a b i ≡ false
range_behind a b i le = none_second (nat_le a i) (nat_lt i b) (grind (arith, nat_tests))

-- What a plan's range and filter keep of a slot is what the window and the query's filter keep. The
-- slots a0 to b0 are those of the window, and a to b those of the plan.
outside_window : (axis : Axis) (g : Grid) (a0 b0 i : ℕ) → AreSlotsBefore axis g.t0 a0 → AreSlotsBefore axis g.t1 b0 → i < axis.slots
    → ((a0 ≤ i) × (i < b0) → ⊥) → in_window g (slot_time axis i) ≡ false
outside_window axis g a0 b0 i start stop slot out = no_window g (slot_time axis i)
    (λ shown. out (shown_slots axis g a0 b0 i start stop slot shown))

within_window : (axis : Axis) (g : Grid) (a0 b0 i : ℕ) → AreSlotsBefore axis g.t0 a0 → AreSlotsBefore axis g.t1 b0 → a0 ≤ i → i < b0
    → in_window g (slot_time axis i) ≡ true
within_window axis g a0 b0 i start stop from to = true_window g (slot_time axis i) ((slots_shown axis g a0 b0 start stop).each i from to)

passes_left : (steps : List Step) (left : Option (List Step)) (axis : Axis) (a b i : ℕ) (v : ℤ) → IsLeft steps axis a b left → a ≤ i → i < b
    → IsValue v
    → passes left (sample_of axis i v) ≡ holds_at (expression_of steps) (slot_time axis i) v
passes_left steps None axis a b i v h from to is = sym (h.each i v from to is)
passes_left steps (Some left) axis a b i v h from to is = ap (λ s. holds_at (expression_of s) (slot_time axis i) v) h

slot_same : (axis : Axis) (g : Grid) (steps : List Step) (left : Option (List Step)) (a0 a b b0 i : ℕ) (v : ℤ)
    → AreSlotsBefore axis g.t0 a0 → AreSlotsBefore axis g.t1 b0 → a0 ≤ a → b ≤ b0
    → KeepsNone (expression_of steps) axis a0 a → KeepsNone (expression_of steps) axis b b0 → IsLeft steps axis a b left
    → i < axis.slots → IsValue v
    → (in_range a b i && passes left (sample_of axis i v)) ≡ (in_window g (slot_time axis i)
    && holds_at (expression_of steps) (slot_time axis i) v)
slot_same axis g steps left a0 a b b0 i v start stop low high front back rest slot is =
    elim (cases_lt i a) [
      | inl less ↦ none_first (in_range a b i) (passes left (sample_of axis i v)) (range_before a b i less) ∙ sym (before less)
      | inr from ↦ elim (cases_lt i b) [
        | inl to ↦
            and_first (in_range a b i) (passes left (sample_of axis i v)) (range_true a b i from to)
            ∙ passes_left steps left axis a b i v rest from to is
            ∙ sym (and_first (in_window g (slot_time axis i)) (holds_at (expression_of steps) (slot_time axis i) v)
            (within_window axis g a0 b0 i start stop (omega arith) (omega arith)))
        | inr le ↦ none_first (in_range a b i) (passes left (sample_of axis i v)) (range_behind a b i le) ∙ sym (behind le)
      ]
    ]
  where
    before : i < a → (in_window g (slot_time axis i) && holds_at (expression_of steps) (slot_time axis i) v) ≡ false
    before less =
        elim (cases_lt i a0) [
          | inl out ↦ none_first (in_window g (slot_time axis i)) (holds_at (expression_of steps) (slot_time axis i) v)
              (outside_window axis g a0 b0 i start stop slot (λ place. absurd (omega (arith, place.0))))
          | inr from ↦ none_second (in_window g (slot_time axis i)) (holds_at (expression_of steps) (slot_time axis i) v)
              (front.each i v from less is)
        ]

    behind : b ≤ i → (in_window g (slot_time axis i) && holds_at (expression_of steps) (slot_time axis i) v) ≡ false
    behind le =
        elim (cases_lt i b0) [
          | inl to ↦ none_second (in_window g (slot_time axis i)) (holds_at (expression_of steps) (slot_time axis i) v)
              (back.each i v le to is)
          | inr out ↦ none_first (in_window g (slot_time axis i)) (holds_at (expression_of steps) (slot_time axis i) v)
              (outside_window axis g a0 b0 i start stop slot (λ place. absurd (omega (arith, place.1))))
        ]

window_same : (axis : Axis) (g : Grid) (a0 b0 i : ℕ) → AreSlotsBefore axis g.t0 a0 → AreSlotsBefore axis g.t1 b0 → i < axis.slots
    → in_range a0 b0 i ≡ in_window g (slot_time axis i)
window_same axis g a0 b0 i start stop slot =
    elim (cases_lt i a0) [
      | inl less ↦ range_before a0 b0 i less ∙ sym (outside_window axis g a0 b0 i start stop slot
          (λ place. absurd (omega (arith, place.0))))
      | inr from ↦ elim (cases_lt i b0) [
        | inl to ↦ range_true a0 b0 i from to ∙ sym (within_window axis g a0 b0 i start stop from to)
        | inr le ↦ range_behind a0 b0 i le ∙ sym (outside_window axis g a0 b0 i start stop slot (λ place. absurd (omega (arith, place.1))))
      ]
    ]

-- a value that a list of slots stores
value_of : (list : List (Option ℤ)) (i : ℕ) (v : ℤ) → All IsSlot list → slice_get list i ≡ Some (Some v) → IsValue v
value_of list i v values holds =
    let P : Option ℤ → Type 0 = IsSlot in
    subst P (get_or_from_slice_get list i (Some v) (Some v) holds)
    (All-get_or IsSlot list i (Some v) (slice_get_within list i (Some v) holds) values)

-- the same of all slots
pub cut_same : (axis : Axis) (g : Grid) (steps : List Step) (left : Option (List Step)) (a0 a b b0 : ℕ) (list : List (Option ℤ))
    → AreSlotsBefore axis g.t0 a0 → AreSlotsBefore axis g.t1 b0 → a0 ≤ a → b ≤ b0
    → KeepsNone (expression_of steps) axis a0 a → KeepsNone (expression_of steps) axis b b0 → IsLeft steps axis a b left
    → length list ≡ axis.slots → All IsSlot list
    → filter (passes left) (stored_in axis (a, b) list) ≡ filter (passes (Some steps)) (kept g axis list)
cut_same axis g steps left a0 a b b0 list start stop low high front back rest slots values =
    same_kept (passes left) (passes (Some steps)) axis g a b 0 list (λ i v holds.
    (let e : i ≡ 0 + i = omega arith in
    let R : ℕ → Type 0 = λ m. (in_range a b m && passes left (sample_of axis m v)) ≡ (in_window g (slot_time axis m)
    && passes (Some steps) (sample_of axis m v)) in
    let short : i < length list = slice_get_within list i (Some v) holds in
    subst R e (slot_same axis g steps left a0 a b b0 i v start stop low high front back rest (omega (arith, slots))
    (value_of list i v values holds))))

pub whole_same : (axis : Axis) (g : Grid) (a0 b0 : ℕ) (list : List (Option ℤ)) → AreSlotsBefore axis g.t0 a0 → AreSlotsBefore axis g.t1 b0
    → length list ≡ axis.slots → filter (passes None) (stored_in axis (a0, b0) list) ≡ filter (passes None) (kept g axis list)
whole_same axis g a0 b0 list start stop slots =
    same_kept (passes None) (passes None) axis g a0 b0 0 list (λ i v holds.
    (let e : i ≡ 0 + i = omega arith in
    let R : ℕ → Type 0 = λ m. (in_range a0 b0 m && true) ≡ (in_window g (slot_time axis m) && true) in
    let short : i < length list = slice_get_within list i (Some v) holds in
    subst R e (ap (λ b. b && true) (window_same axis g a0 b0 i start stop (omega (arith, slots))))))

-- the same for the filters that the code has
pub cut_plan : (axis : Axis) (g : Grid) (asked : Option (List Step)) (steps : List Step) (left : Option (List Step)) (a0 a b b0 : ℕ)
    (list : List (Option ℤ))
    → asked ≡ Some steps → AreSlotsBefore axis g.t0 a0 → AreSlotsBefore axis g.t1 b0 → a0 ≤ a → b ≤ b0
    → KeepsNone (expression_of steps) axis a0 a → KeepsNone (expression_of steps) axis b b0 → IsLeft steps axis a b left
    → length list ≡ axis.slots → All IsSlot list
    → filter (passes left) (stored_in axis (a, b) list) ≡ filter (passes asked) (kept g axis list)
cut_plan axis g asked steps left a0 a b b0 list is start stop low high front back rest slots values =
    let P : Option (List Step) → Type 0 = λ o. filter (passes left) (stored_in axis (a, b) list) ≡ filter (passes o) (kept g axis list) in
    subst P (sym is) (cut_same axis g steps left a0 a b b0 list start stop low high front back rest slots values)

pub whole_plan : (axis : Axis) (g : Grid) (asked : Option (List Step)) (a0 b0 : ℕ) (list : List (Option ℤ)) → asked ≡ None
    → AreSlotsBefore axis g.t0 a0 → AreSlotsBefore axis g.t1 b0
    → length list ≡ axis.slots → filter (passes None) (stored_in axis (a0, b0) list) ≡ filter (passes asked) (kept g axis list)
whole_plan axis g asked a0 b0 list is start stop slots =
    let P : Option (List Step) → Type 0 = λ o. filter (passes None) (stored_in axis (a0, b0) list) ≡ filter (passes o) (kept g axis list) in
    subst P (sym is) (whole_same axis g a0 b0 list start stop slots)
