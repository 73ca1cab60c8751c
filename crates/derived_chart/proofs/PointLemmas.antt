-- The samples of a sum.
use Rattle.std.proofs.Common.{◌≡◌, ℕ, zero, suc, ℤ, pos, negsuc, ◌+◌, ◌*◌, ◌/◌, ◌<◌, ◌≤◌, ◌+ℤ◌, ◌*ℤ◌, ◌<ℤ◌, ◌⊎◌, inl, inr, Bool, true}
use Rattle.std.proofs.Common.{false, List, [], ◌∷◌, Option, None, Some, arith, refl, sym, ◌∙◌, ap, subst}
use Rattle.std.proofs.Math.Nat.{mul-le-mul_right, mul-div_cancel}
use Rattle.std.proofs.lemmas.Bool.{and_parts, and_from}
use Rattle.std.proofs.lemmas.Bool.Decides.{nat_tests}
use Rattle.std.proofs.lemmas.Int.{ints}
use Rattle.std.proofs.lemmas.List.Elements.{All-nil, All-cons, All-contains, All-map, Contains-append_right}
use Rattle.std.proofs.lemmas.List.Kept.{AllPairs-cons}
use Rattle.std.specs.Prelude.{All, AllPairs, Contains, int_le, int_lt, if◌then◌else◌}
use Rattle.std.specs.List.{enumerate_from, filter_map, cons_option}
use Rattle.chart_grid.specs.declared.axis.Axis.{Axis}
use Rattle.chart_grid.specs.declared.grid.Grid.{Grid}
use Rattle.chart_grid.specs.Projection.{InWindow}
use Rattle.chart_grid.specs.Slots.{slot_time}
use Rattle.m4_groups.specs.Points.{AreInOrder}
use Rattle.om3_coeff.specs.Spans.{Holds}
use Rattle.plain_chart.specs.declared.sample.Sample.{Sample}
use Rattle.plain_chart.specs.Samples.{kept, kept_at, in_window, sample_points}
use Rattle.derived_chart.specs.declared.sum.Sum.{Sum}
use Rattle.derived_chart.specs.Lists.{sums_of}
use Rattle.derived_chart.specs.Points.{IsShift, IsSumAt, AreSumSamples}
use Rattle.derived_chart.specs.Sums.{Adds}
use Rattle.derived_chart.proofs.ListLemmas.{sums_are}

-- the test of a window
window_true : (g : Grid) (t : ℤ) → in_window g t ≡ true → InWindow g t
window_true g t h =
    let both : (int_le g.t0 t ≡ true) × (int_lt t g.t1 ≡ true) = and_parts (int_le g.t0 t) (int_lt t g.t1) h in
    record { from = grind (arith, ints, nat_tests); to = grind (arith, ints, nat_tests) }

true_window : (g : Grid) (t : ℤ) → InWindow g t → in_window g t ≡ true
true_window g t shown =
    let from : int_le g.t0 t ≡ true = grind (arith, ints, nat_tests, shown.from) in
    let to : int_lt t g.t1 ≡ true = grind (arith, ints, nat_tests, shown.to) in
    and_from (int_le g.t0 t) (int_lt t g.t1) from to

bool_cases : (b : Bool) → (b ≡ true) ⊎ (b ≡ false)
bool_cases true = inl refl
bool_cases false = inr refl

abbrev sample_of : Axis → ℕ → ℤ → Sample
sample_of axis n v = record { time = slot_time axis n; value = v }

abbrev kept_from : Grid → Axis → ℕ → List (Option ℤ) → List Sample
kept_from g axis n xs = filter_map (kept_at g axis) (enumerate_from n xs)

-- what holds of each stored slot of the window, the first of the list being slot n
all_from : (Q : Sample → Type 0) (g : Grid) (axis : Axis) (n : ℕ) (xs : List (Option ℤ))
    → ((i : ℕ) (v : ℤ) → Holds xs i v → in_window g (slot_time axis (n + i)) ≡ true → Q (sample_of axis (n + i) v))
    → All Q (kept_from g axis n xs)
all_from Q g axis n [] each = All-nil Q
all_from Q g axis n (None ∷ xs) each =
    all_from Q g axis (n + 1) xs
    (λ i v holds.
    let e : n + suc i ≡ (n + 1) + i = omega arith in
    let P : ℕ → Type 0 = λ m. in_window g (slot_time axis m) ≡ true → Q (sample_of axis m v) in
    subst P e (each (suc i) v holds))
all_from Q g axis n (Some u ∷ xs) each =
    let rest : All Q (kept_from g axis (n + 1) xs) =
    all_from Q g axis (n + 1) xs
    (λ i v holds.
    let e : n + suc i ≡ (n + 1) + i = omega arith in
    let P : ℕ → Type 0 = λ m. in_window g (slot_time axis m) ≡ true → Q (sample_of axis m v) in
    subst P e (each (suc i) v holds)) in
    let first : in_window g (slot_time axis n) ≡ true → Q (sample_of axis n u) =
    (let e : n + 0 ≡ n = omega arith in
    let P : ℕ → Type 0 = λ m. in_window g (slot_time axis m) ≡ true → Q (sample_of axis m u) in
    subst P e (each 0 u refl)) in
    let P : Bool → Type 0 = λ b. All Q (cons_option (if b then Some (sample_of axis n u) else None) (kept_from g axis (n + 1) xs)) in
    elim (bool_cases (in_window g (slot_time axis n))) [
      | inl set ↦ subst P (sym set) (All-cons Q (sample_of axis n u) (kept_from g axis (n + 1) xs) (first set) rest)
      | inr unset ↦ subst P (sym unset) rest
    ]

same_value : (u v : ℤ) → Some (Some u) ≡ Some (Some v) → u ≡ v
same_value u v h = cc

-- a stored slot of the window is among them
among_from : (g : Grid) (axis : Axis) (n : ℕ) (xs : List (Option ℤ)) (i : ℕ) (v : ℤ) → Holds xs i v
    → in_window g (slot_time axis (n + i)) ≡ true → Contains (kept_from g axis n xs) (sample_of axis (n + i) v)
among_from g axis n [] i v holds on = absurd (cc)
among_from g axis n (None ∷ xs) zero v holds on = absurd (cc)
among_from g axis n (None ∷ xs) (suc i) v holds on =
    let e : (n + 1) + i ≡ n + suc i = omega arith in
    let P : ℕ → Type 0 = λ m. in_window g (slot_time axis m) ≡ true → Contains (kept_from g axis (n + 1) xs) (sample_of axis m v) in
    subst P e (among_from g axis (n + 1) xs i v holds) on
among_from g axis n (Some u ∷ xs) zero v holds on =
    let e : n + 0 ≡ n = omega arith in
    let on_here : in_window g (slot_time axis n) ≡ true = ap (λ m. in_window g (slot_time axis m)) (sym e) ∙ on in
    let P : Bool → Type 0 = λ b. Contains (cons_option (if b then Some (sample_of axis n u) else None) (kept_from g axis (n + 1) xs))
    (sample_of axis n u) in
    let here : Contains (sample_of axis n u ∷ kept_from g axis (n + 1) xs) (sample_of axis n u) = (0, omega arith, refl) in
    let Q : ℤ → Type 0 = λ z. Contains (kept_from g axis n (Some u ∷ xs)) (sample_of axis n z) in
    let R : ℕ → Type 0 = λ m. Contains (kept_from g axis n (Some u ∷ xs)) (sample_of axis m v) in
    subst R (sym e) (subst Q (same_value u v holds) (subst P (sym on_here) here))
among_from g axis n (Some u ∷ xs) (suc i) v holds on =
    let e : (n + 1) + i ≡ n + suc i = omega arith in
    let R : ℕ → Type 0 = λ m. in_window g (slot_time axis m) ≡ true → Contains (kept_from g axis (n + 1) xs) (sample_of axis m v) in
    let rest : Contains (kept_from g axis (n + 1) xs) (sample_of axis (n + suc i) v) = subst R e
    (among_from g axis (n + 1) xs i v holds) on in
    let P : Bool → Type 0 = λ b. Contains (cons_option (if b then Some (sample_of axis n u) else None) (kept_from g axis (n + 1) xs))
    (sample_of axis (n + suc i) v) in
    elim (bool_cases (in_window g (slot_time axis n))) [
      | inl set ↦ subst P (sym set) (Contains-append_right (sample_of axis n u ∷ []) (kept_from g axis (n + 1) xs)
          (sample_of axis (n + suc i) v) rest)
      | inr unset ↦ subst P (sym unset) rest
    ]

-- they rise
time_before : (axis : Axis) (i j : ℕ) → 0 < axis.step → i < j → slot_time axis i <ℤ slot_time axis j
time_before axis i j step less =
    let steps : (i + 1) * axis.step ≤ j * axis.step = mul-le-mul_right {m = i + 1} {n = j} axis.step (omega arith) in omega (arith, ints)

abbrev pub IsEarlier : Sample → Sample → Type 0
IsEarlier s t = s.time <ℤ t.time

rise_from : (g : Grid) (axis : Axis) (n : ℕ) (xs : List (Option ℤ)) → 0 < axis.step → AllPairs IsEarlier (kept_from g axis n xs)
rise_from g axis n [] step = λ i j d less short. absurd (omega arith)
rise_from g axis n (None ∷ xs) step = rise_from g axis (n + 1) xs step
rise_from g axis n (Some u ∷ xs) step =
    let rest : AllPairs IsEarlier (kept_from g axis (n + 1) xs) = rise_from g axis (n + 1) xs step in
    let later : All (IsEarlier (sample_of axis n u)) (kept_from g axis (n + 1) xs) =
    all_from (IsEarlier (sample_of axis n u)) g axis (n + 1) xs (λ i v holds inside. time_before axis n ((n + 1) + i) step (omega arith)) in
    let P : Bool → Type 0 = λ b. AllPairs IsEarlier
    (cons_option (if b then Some (sample_of axis n u) else None) (kept_from g axis (n + 1) xs)) in
    elim (bool_cases (in_window g (slot_time axis n))) [
      | inl set ↦ subst P (sym set) (AllPairs-cons IsEarlier (sample_of axis n u) (kept_from g axis (n + 1) xs) later rest)
      | inr unset ↦ subst P (sym unset) rest
    ]

pub kept_rise : (g : Grid) (axis : Axis) (xs : List (Option ℤ)) → 0 < axis.step → AllPairs IsEarlier (kept g axis xs)
kept_rise g axis xs step = rise_from g axis 0 xs step

-- a kept sample is that of a stored slot whose time lies in the window
pub record IsKept (g : Grid) (axis : Axis) (xs : List (Option ℤ)) (s : Sample) : Type 0 where
  pub slot : ℕ
  pub holds : Holds xs slot s.value
  pub time : slot_time axis slot ≡ s.time
  pub shown : InWindow g (slot_time axis slot)

pub kept_slots : (g : Grid) (axis : Axis) (xs : List (Option ℤ)) → All (IsKept g axis xs) (kept g axis xs)
kept_slots g axis xs =
    all_from (IsKept g axis xs) g axis 0 xs
    (λ i v holds on.
    let e : 0 + i ≡ i = omega arith in
    let P : ℕ → Type 0 = λ m. in_window g (slot_time axis m) ≡ true in
    let R : ℕ → Type 0 = λ m. IsKept g axis xs (sample_of axis m v) in
    subst R (sym e) (record { slot = i; holds = holds; time = refl; shown = window_true g (slot_time axis i) (subst P e on) }))

pub kept_slot : (g : Grid) (axis : Axis) (xs : List (Option ℤ)) (s : Sample) → Contains (kept g axis xs) s → IsKept g axis xs s
kept_slot g axis xs s there = All-contains (IsKept g axis xs) (kept g axis xs) s (kept_slots g axis xs) there

pub slot_kept : (g : Grid) (axis : Axis) (xs : List (Option ℤ)) (i : ℕ) (v : ℤ) → Holds xs i v → InWindow g (slot_time axis i)
    → Contains (kept g axis xs) (record { time = slot_time axis i; value = v })
slot_kept g axis xs i v holds shown =
    let e : 0 + i ≡ i = omega arith in
    let P : ℕ → Type 0 = λ m. in_window g (slot_time axis m) ≡ true → Contains (kept g axis xs) (sample_of axis m v) in
    subst P e (among_from g axis 0 xs i v holds) (true_window g (slot_time axis i) shown)

pairs_map : (samples : List Sample) → AllPairs IsEarlier samples → AllPairs (λ p q. p.0 <ℤ q.0) (sample_points samples)
pairs_map [] rise = λ i j d less short. absurd (omega arith)
pairs_map (s ∷ ss) rise =
    AllPairs-cons (λ p q. p.0 <ℤ q.0) (s.time, s.value) (sample_points ss)
    (All-map (λ q. s.time <ℤ q.0) (λ t. (t.time, t.value)) ss (λ i d short. rise 0 (suc i) d (omega arith) (omega arith)))
    (pairs_map ss (λ i j d less short. rise (suc i) (suc j) d (omega arith) (omega arith)))

pub kept_in_order : (g : Grid) (axis : Axis) (xs : List (Option ℤ)) → 0 < axis.step → AreInOrder g (sample_points (kept g axis xs))
kept_in_order g axis xs step = record {
  shown =
      All-map (λ p. InWindow g p.0) (λ s. (s.time, s.value)) (kept g axis xs)
      (λ i d short. let is = kept_slots g axis xs i d short in let P : ℤ → Type 0 = λ t. InWindow g t in subst P is.time is.shown);
  rising = pairs_map (kept g axis xs) (kept_rise g axis xs step);
}

-- places that are so far apart, and their times
scaled : (n i j : ℕ) (d : ℤ) → pos j ≡ pos i +ℤ d → pos (j * n) ≡ pos (i * n) +ℤ d *ℤ pos n
scaled n i j (pos b) h =
    let e : j ≡ i + b = omega (arith, ints, h) in
    let s : j * n ≡ (i + b) * n = ap (λ m. m * n) e in
    omega (arith, ints, s)
scaled n i j (negsuc b) h =
    let e : i ≡ j + suc b = omega (arith, ints, h) in
    let s : i * n ≡ (j + suc b) * n = ap (λ m. m * n) e in
    omega (arith, ints, s)

cancel : (n a b : ℕ) → 0 < n → a * n ≡ b * n → a ≡ b
cancel n a b some h = sym (mul-div_cancel a {n = n} some) ∙ ap (λ m. m / n) h ∙ mul-div_cancel b {n = n} some

unscaled : (n i j : ℕ) (d : ℤ) → 0 < n → pos (j * n) ≡ pos (i * n) +ℤ d *ℤ pos n → pos j ≡ pos i +ℤ d
unscaled n i j (pos b) some h =
    let s : j * n ≡ (i + b) * n = omega (arith, ints, h) in
    let e : j ≡ i + b = cancel n j (i + b) some s in
    omega (arith, ints, e)
unscaled n i j (negsuc b) some h =
    let s : i * n ≡ (j + suc b) * n = omega (arith, ints, h) in
    let e : i ≡ j + suc b = cancel n i (j + suc b) some s in
    omega (arith, ints, e)

-- the slots of the two series that have one time
beside_time : (x y : Axis) (d : ℤ) (i j : ℕ) → IsShift x y d → pos j ≡ pos i +ℤ d → slot_time y j ≡ slot_time x i
beside_time x y d i j shift here =
    let same : j * y.step ≡ j * x.step = ap (λ n. j * n) shift.step in omega (arith, ints, scaled x.step i j d here, same, shift.start)

sums_here : (g : Grid) (x y : Axis) (sum : Sum) (xs ys : List (Option ℤ)) (t v : ℤ) → 0 < x.step → IsShift x y sum.shift
    → Contains (kept g x (sums_of sum xs ys)) (record { time = t; value = v }) → InWindow g t × IsSumAt sum.a sum.b x y xs ys t v
sums_here g x y sum xs ys t v step shift there =
    let is = kept_slot g x (sums_of sum xs ys) (record { time = t; value = v }) there in
    let adds : Adds sum xs ys is.slot v = ((sums_are sum xs ys).each is.slot v).0 is.holds in
    let P : ℤ → Type 0 = λ z. InWindow g z in (
      subst P is.time is.shown,
      record {
        one = adds.x;
        other = adds.y;
        first = record { slot = is.slot; time = is.time; holds = adds.first };
        second = record {
          slot = adds.second.slot;
          time = beside_time x y sum.shift is.slot adds.second.slot shift adds.second.here
              ∙ is.time;
          holds = adds.second.holds;
        };
        is = adds.is;
      },
    )

here_sums : (g : Grid) (x y : Axis) (sum : Sum) (xs ys : List (Option ℤ)) (t v : ℤ) → 0 < x.step → IsShift x y sum.shift → InWindow g t
    → IsSumAt sum.a sum.b x y xs ys t v → Contains (kept g x (sums_of sum xs ys)) (record { time = t; value = v })
here_sums g x y sum xs ys t v step shift shown is =
    let i : ℕ = is.first.slot in
    let j : ℕ = is.second.slot in
    let same : j * y.step ≡ j * x.step = ap (λ n. j * n) shift.step in
    let times : slot_time y j ≡ slot_time x i = is.second.time ∙ sym is.first.time in
    let apart : pos (j * x.step) ≡ pos (i * x.step) +ℤ sum.shift *ℤ pos x.step = omega (arith, ints, times, same, shift.start) in
    let adds : Adds sum xs ys i v = record {
      x = is.one;
      y = is.other;
      first = is.first.holds;
      second = record { slot = j; here = unscaled x.step i j sum.shift step apart; holds = is.second.holds };
      is = is.is;
    } in
    let P : ℤ → Type 0 = λ z. InWindow g z in
    let Q : ℤ → Type 0 = λ z. Contains (kept g x (sums_of sum xs ys)) (record { time = z; value = v }) in
    subst Q is.first.time (slot_kept g x (sums_of sum xs ys) i v (((sums_are sum xs ys).each i v).1 adds)
    (subst P (sym is.first.time) shown))

pub samples_are : (g : Grid) (x y : Axis) (sum : Sum) (xs ys : List (Option ℤ)) → 0 < x.step → IsShift x y sum.shift
    → AreSumSamples g sum.a sum.b x y xs ys (kept g x (sums_of sum xs ys))
samples_are g x y sum xs ys step shift = record {
  order = kept_in_order g x (sums_of sum xs ys) step;
  each = λ t v. (sums_here g x y sum xs ys t v step shift, λ both. here_sums g x y sum xs ys t v step shift both.0 both.1);
}
