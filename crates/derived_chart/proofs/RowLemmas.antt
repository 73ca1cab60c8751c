-- The rows of sums are those of the samples.
use Rattle.std.proofs.Common.{◌≡◌, ℕ, zero, suc, ℤ, ◌+◌, ◌-◌, ◌<◌, ◌≤◌, pos, ◌*◌, ◌+ℤ◌, ◌≤ℤ◌, ◌<ℤ◌, ◌⊎◌, inl, inr, Bool, true, false, cond}
use Rattle.std.proofs.Common.{List, [], ◌∷◌, ◌++◌, map, length, Option, None, Some, arith, refl, sym, ◌∙◌, ap, subst}
use Rattle.std.proofs.lemmas.Bool.Decides.{nat_tests}
use Rattle.std.proofs.lemmas.Bool.{cases_lt}
use Rattle.std.proofs.lemmas.Int.{ints, by_lt_z}
use Rattle.std.proofs.Math.Nat.{mul-le-mul_right}
use Rattle.std.proofs.lemmas.List.{map-append}
use Rattle.std.proofs.lemmas.List.Elements.{All-nil, All-cons, All-push, All-weaker, All-map, All-contains, Contains-append_left}
use Rattle.std.proofs.lemmas.List.Elements.{Contains-append_right, Contains-push}
use Rattle.std.proofs.lemmas.List.Kept.{AllPairs-filter}
use Rattle.std.proofs.lemmas.List.Quantifiers.{all_pairs_push}
use Rattle.std.proofs.lemmas.Option.{slice_get_within}
use Rattle.std.specs.Prelude.{All, AllPairs, Contains, slice_get, filter, ◌==◌}
use Rattle.chart_grid.specs.declared.axis.Axis.{Axis}
use Rattle.chart_grid.specs.declared.grid.Grid.{Grid}
use Rattle.chart_grid.specs.Projection.{InWindow, column}
use Rattle.chart_grid.specs.Slots.{slot_time, IsInColumn, AreSlotsBefore}
use Rattle.line_raster.specs.declared.position.Point.{Point}
use Rattle.m4_groups.specs.declared.row.Row.{Row}
use Rattle.m4_groups.specs.Heights.{IsDrawable}
use Rattle.m4_groups.specs.Points.{spots, values_in}
use Rattle.m4_groups.specs.Rows.{Sums, AreRowsOf, AreRising, columns_of}
use Rattle.om3_coeff.specs.Spans.{Holds, IsClear}
use Rattle.plain_chart.specs.declared.sample.Sample.{Sample}
use Rattle.plain_chart.specs.Samples.{kept, sample_points}
use Rattle.whole_number.specs.Range.{IsValue, IsTime}
use Rattle.std.specs.Prelude.{Result, Ok, Err, IfErr, IsErrAnd}
use Rattle.om3_coeff.specs.declared.errors.NodeError.{NodeError}
use Rattle.derived_chart.specs.declared.derived_error.DerivedError.{DerivedError}
use Rattle.derived_chart.specs.declared.derived_error.DerivedError.TheVariants.{TooLarge, Node, NoMemory}
use Rattle.derived_chart.specs.Rows.{IsAnswer, IsCause, IsRowCause, IsFirstTooLarge, IsOrdered, IsRowIn, AreColumn, IsRowOf, AreShown}
use Rattle.derived_chart.specs.Rows.{AreRowsBelow, AreColumnValues}
use Rattle.derived_chart.specs.Searches.{IsFirstLarge}
use Rattle.derived_chart.proofs.PointLemmas.{IsEarlier, IsKept, kept_rise, kept_slots, kept_slot, slot_kept}

-- the samples of a column
abbrev in_column : Grid → ℕ → Sample → Bool
in_column g c s = column g s.time == c

abbrev of_column : Grid → ℕ → List Sample → List Sample
of_column g c samples = filter (in_column g c) samples

abbrev values : List Sample → List ℤ
values samples = map (λ s. s.value) samples

column_values : (g : Grid) (c : ℕ) (samples : List Sample) → values_in c (spots g (sample_points samples)) ≡ values (of_column g c samples)
column_values g c [] = refl
column_values g c (s ∷ ss) =
    let rest : values_in c (spots g (sample_points ss)) ≡ values (of_column g c ss) = column_values g c ss in
    let spot : Point = record { x = column g s.time; y = s.value } in
    elim (column g s.time == c) as (λ b.
    map (λ p. p.y) (cond b (spot ∷ filter (λ p. p.x == c) (spots g (sample_points ss)))
    (filter (λ p. p.x == c) (spots g (sample_points ss)))) ≡ values (cond b (s ∷ of_column g c ss) (of_column g c ss))) [
      | true ↦ ap (λ zs. s.value ∷ zs) rest
      | false ↦ rest
    ]

same_true : (m n : ℕ) → m ≡ n → (m == n) ≡ true
same_true m n h = grind (arith, nat_tests)

true_same : (m n : ℕ) → (m == n) ≡ true → m ≡ n
true_same m n h = grind (arith, nat_tests)

-- an element of a list is its head or behind it
pub head_or_rest : {X : Type 0} (t : X) (ts : List X) (s : X) → Contains (t ∷ ts) s → (t ≡ s) ⊎ Contains ts s
head_or_rest t ts s (zero, less, is) = inl is
head_or_rest t ts s (suc k, less, is) = inr (k, omega (arith, less), is)

pub in_rest : {X : Type 0} (t : X) (ts : List X) (s : X) → Contains ts s → Contains (t ∷ ts) s
in_rest t ts s there = Contains-append_right (t ∷ []) ts s there

pub at_head : {X : Type 0} (t : X) (ts : List X) → Contains (t ∷ ts) t
at_head t ts = (0, omega arith, refl)

-- what passes a test is among what passes it
passes : {X : Type 0} (p : X → Bool) (xs : List X) (x : X) → Contains (filter p xs) x → Contains xs x × (p x ≡ true)
passes {X} p [] x there = absurd (omega (arith, there.1))
passes {X} p (y ∷ ys) x there =
    elim (bool_cases (p y)) [
      | inl on ↦
          let P : Bool → Type 0 = λ b. Contains (cond b (y ∷ filter p ys) (filter p ys)) x in
          elim (head_or_rest y (filter p ys) x (subst P on there)) [
            | inl same ↦ let Q : X → Type 0 = λ z. Contains (y ∷ ys) z × (p z ≡ true) in subst Q same (at_head y ys, on)
            | inr later ↦ let both = passes p ys x later in (in_rest y ys x both.0, both.1)
          ]
      | inr off ↦
          let P : Bool → Type 0 = λ b. Contains (cond b (y ∷ filter p ys) (filter p ys)) x in
          let both = passes p ys x (subst P off there) in (in_rest y ys x both.0, both.1)
    ]
  where
    bool_cases : (b : Bool) → (b ≡ true) ⊎ (b ≡ false)
    bool_cases true = inl refl
    bool_cases false = inr refl

passed : {X : Type 0} (p : X → Bool) (xs : List X) (x : X) → Contains xs x → p x ≡ true → Contains (filter p xs) x
passed {X} p [] x there on = absurd (omega (arith, there.1))
passed {X} p (y ∷ ys) x there on =
    elim (head_or_rest y ys x there) [
      | inl same ↦
          let P : Bool → Type 0 = λ b. Contains (cond b (y ∷ filter p ys) (filter p ys)) y in
          let Q : X → Type 0 = λ z. Contains (filter p (y ∷ ys)) z in
          subst Q same (subst P (sym (ap p same ∙ on)) (at_head y (filter p ys)))
      | inr later ↦
          let rest : Contains (filter p ys) x = passed p ys x later on in
          elim (p y) as (λ b. Contains (cond b (y ∷ filter p ys) (filter p ys)) x) [
            | true ↦ in_rest y (filter p ys) x rest
            | false ↦ rest
          ]
    ]

-- the earliest and the latest of samples in order of time
pub heads_rest : (t : Sample) (ts : List Sample) → AllPairs IsEarlier (t ∷ ts) → All (IsEarlier t) ts
heads_rest t ts rise = λ i d short. rise 0 (suc i) d (omega arith) (omega arith)

pub rest_rise : (t : Sample) (ts : List Sample) → AllPairs IsEarlier (t ∷ ts) → AllPairs IsEarlier ts
rest_rise t ts rise = λ i j d less short. rise (suc i) (suc j) d (omega arith) (omega arith)

first_of : (samples : List Sample) (s : Sample) → AllPairs IsEarlier samples → Contains samples s
    → ((t : Sample) → Contains samples t → s.time ≤ℤ t.time) → slice_get (values samples) 0 ≡ Some s.value
first_of [] s rise there least = absurd (omega (arith, there.1))
first_of (t ∷ ts) s rise there least = elim (head_or_rest t ts s there) [
  | inl same ↦ ap (λ z. Some z.value) same
  | inr later ↦ absurd (omega (arith, ints, least t (at_head t ts), All-contains (IsEarlier t) ts s (heads_rest t ts rise) later))
]

last_more : (u v : ℤ) (ys : List ℤ) → slice_get ys (length ys - 1) ≡ Some v → slice_get (u ∷ ys) (length (u ∷ ys) - 1) ≡ Some v
last_more u v [] h = absurd (cc)
last_more u v (y ∷ ys) h =
    let outer : length (u ∷ y ∷ ys) - 1 ≡ suc (length ys) = omega arith in
    let inner : length ys ≡ length (y ∷ ys) - 1 = omega arith in
    ap (slice_get (u ∷ y ∷ ys)) outer ∙ ap (slice_get (y ∷ ys)) inner ∙ h

last_of : (samples : List Sample) (s : Sample) → AllPairs IsEarlier samples → Contains samples s
    → ((t : Sample) → Contains samples t → t.time ≤ℤ s.time) → slice_get (values samples) (length (values samples) - 1) ≡ Some s.value
last_of [] s rise there greatest = absurd (omega (arith, there.1))
last_of (t ∷ []) s rise there greatest = elim (head_or_rest t [] s there) [
  | inl same ↦ ap (λ z. Some z.value) same
  | inr later ↦ absurd (omega (arith, later.1))
]
last_of (t ∷ u ∷ ts) s rise there greatest =
    elim (head_or_rest t (u ∷ ts) s there) [
      | inl same ↦
          let P : Sample → Type 0 = λ z. z.time <ℤ u.time in
          let before : s.time <ℤ u.time = subst P same (heads_rest t (u ∷ ts) rise 0 u (omega arith)) in
          absurd (omega (arith, ints, before, greatest u (in_rest t (u ∷ ts) u (at_head u ts))))
      | inr later ↦
          last_more t.value s.value (values (u ∷ ts))
          (last_of (u ∷ ts) s (rest_rise t (u ∷ ts) rise) later (λ w here. greatest w (in_rest t (u ∷ ts) w here)))
    ]

-- a sample of a column is that of a slot of it
record IsOf (axis : Axis) (g : Grid) (sums : List (Option ℤ)) (from to : ℕ) (s : Sample) : Type 0 where
  slot : ℕ
  low : from ≤ slot
  high : slot < to
  holds : Holds sums slot s.value
  time : slot_time axis slot ≡ s.time

is_of : (axis : Axis) (g : Grid) (sums : List (Option ℤ)) (c from to : ℕ) (s : Sample) → axis.slots ≡ length sums
    → AreColumn axis g c from to → Contains (of_column g c (kept g axis sums)) s → IsOf axis g sums from to s
is_of axis g sums c from to s slots own there =
    let both = passes (in_column g c) (kept g axis sums) s there in
    let is : IsKept g axis sums s = kept_slot g axis sums s both.0 in
    let short : is.slot < length sums = slice_get_within sums is.slot (Some s.value) is.holds in
    let place : column g (slot_time axis is.slot) ≡ c = ap (column g) is.time ∙ true_same (column g s.time) c both.1 in
    let within : (from ≤ is.slot) × (is.slot < to) = (own is.slot).0
    (record { slot = omega (arith, short, slots); shown = is.shown; place = place }) in
    record { slot = is.slot; low = within.0; high = within.1; holds = is.holds; time = is.time }

of_is : (axis : Axis) (g : Grid) (sums : List (Option ℤ)) (c from to i : ℕ) (v : ℤ) → AreColumn axis g c from to → from ≤ i → i < to
    → Holds sums i v → Contains (of_column g c (kept g axis sums)) (record { time = slot_time axis i; value = v })
of_is axis g sums c from to i v own low high holds =
    let is : IsInColumn axis g c i = (own i).1 (low, high) in
    passed (in_column g c) (kept g axis sums) (record { time = slot_time axis i; value = v }) (slot_kept g axis sums i v holds is.shown)
    (same_true (column g (slot_time axis i)) c is.place)

-- slots are in the order of their times
time_order : (start : ℤ) (step i j : ℕ) → i ≤ j → (start +ℤ pos (i * step)) ≤ℤ (start +ℤ pos (j * step))
time_order start step i j less = let steps : i * step ≤ j * step = mul-le-mul_right {m = i} {n = j} step less in omega (arith, ints, steps)

not_before : (list : List (Option ℤ)) (a i j : ℕ) (v : ℤ) → IsClear list a i → a ≤ j → Holds list j v → i ≤ j
not_before list a i j v clear low holds = elim (cases_lt j i) [
  | inl less ↦ absurd (clear j v low less holds)
  | inr more ↦ more
]

not_behind : (list : List (Option ℤ)) (i b j : ℕ) (v : ℤ) → IsClear list (i + 1) b → j < b → Holds list j v → j ≤ i
not_behind list i b j v clear high holds = elim (cases_lt i j) [
  | inl less ↦ absurd (clear j v (omega (arith, less)) high holds)
  | inr more ↦ more
]

row_sums : (axis : Axis) (g : Grid) (sums : List (Option ℤ)) (r : Row) → axis.slots ≡ length sums → 0 < axis.step → IsRowOf axis g sums r
    → Sums r (values (of_column g r.column (kept g axis sums)))
row_sums axis g sums r slots step is =
    let ss : List Sample = of_column g r.column (kept g axis sums) in
    let rise : AllPairs IsEarlier ss = AllPairs-filter IsEarlier (in_column g r.column) (kept g axis sums) (kept_rise g axis sums step) in
    let row = is.row in
    let first_in = of_is axis g sums r.column is.from is.to row.first_at r.first is.slots row.first.0 row.first.1 row.first.2 in
    let last_in = of_is axis g sums r.column is.from is.to row.last_at r.last is.slots row.last.0 row.last.1 row.last.2 in
    let least_in = of_is axis g sums r.column is.from is.to row.least.slot r.least is.slots row.least.low row.least.high row.least.holds in
    let greatest_in = of_is axis g sums r.column is.from is.to row.greatest.slot r.greatest is.slots row.greatest.low row.greatest.high
    row.greatest.holds in
    record {
      first =
          first_of ss (record { time = slot_time axis row.first_at; value = r.first }) rise first_in
          (λ t there.
          let of = is_of axis g sums r.column is.from is.to t slots is.slots there in
          let order = time_order axis.start axis.step row.first_at of.slot
          (not_before sums is.from row.first_at of.slot t.value row.first.3 of.low of.holds) in
          let P : ℤ → Type 0 = λ z. slot_time axis row.first_at ≤ℤ z in
          subst P of.time order);
      least = record {
        among = value_among ss (slot_time axis row.least.slot) r.least least_in;
        least = All-map (λ u. r.least ≤ℤ u) (λ s. s.value) ss
            (each_of (λ s. r.least ≤ℤ s.value) ss (λ t there. let of = is_of axis g sums r.column is.from is.to t slots is.slots there in
            row.none_below of.slot t.value of.low of.high of.holds));
      };
      greatest = record {
        among = value_among ss (slot_time axis row.greatest.slot) r.greatest greatest_in;
        greatest = All-map (λ u. u ≤ℤ r.greatest) (λ s. s.value) ss
            (each_of (λ s. s.value ≤ℤ r.greatest) ss (λ t there. let of = is_of axis g sums r.column is.from is.to t slots is.slots there in
            row.none_above of.slot t.value of.low of.high of.holds));
      };
      last =
          last_of ss (record { time = slot_time axis row.last_at; value = r.last }) rise last_in
          (λ t there.
          let of = is_of axis g sums r.column is.from is.to t slots is.slots there in
          let order = time_order axis.start axis.step of.slot row.last_at
          (not_behind sums row.last_at is.to of.slot t.value row.last.3 of.high of.holds) in
          let P : ℤ → Type 0 = λ z. z ≤ℤ slot_time axis row.last_at in
          subst P of.time order);
    }
  where
    each_of : (Q : Sample → Type 0) (ss : List Sample) → ((t : Sample) → Contains ss t → Q t) → All Q ss
    each_of Q [] each = All-nil Q
    each_of Q (s ∷ ss) each = All-cons Q s ss (each s (at_head s ss)) (each_of Q ss (λ t there. each t (in_rest s ss t there)))

    value_among : (ss : List Sample) (t v : ℤ) → Contains ss (record { time = t; value = v }) → Contains (values ss) v
    value_among [] t v there = absurd (omega (arith, there.1))
    value_among (s ∷ ss) t v there = elim (head_or_rest s ss (record { time = t; value = v }) there) [
      | inl same ↦ let P : ℤ → Type 0 = λ z. Contains (values (s ∷ ss)) z in subst P (ap (λ z. z.value) same) (at_head s.value (values ss))
      | inr later ↦ in_rest s.value (values ss) v (value_among ss t v later)
    ]

spots_all : (g : Grid) (Q : Point → Type 0) (samples : List Sample) → All (λ s. Q (record { x = column g s.time; y = s.value })) samples
    → All Q (spots g (sample_points samples))
spots_all g Q samples each = All-map Q (λ p. record { x = column g p.0; y = p.1 }) (sample_points samples)
    (All-map (λ p. Q (record { x = column g p.0; y = p.1 })) (λ s. (s.time, s.value)) samples each)

-- the rows of all columns are those of the samples
pub rows_are : (axis : Axis) (g : Grid) (sums : List (Option ℤ)) (rows : List Row) → axis.slots ≡ length sums → 0 < axis.step
    → ((t : ℤ) → InWindow g t → column g t < g.w) → AreRising rows → AreRowsBelow axis g sums g.w rows
    → AreRowsOf g (sample_points (kept g axis sums)) rows
rows_are axis g sums rows slots step drawn rising below = record {
  rising = rising;
  each =
      All-weaker (IsRowOf axis g sums) (λ r. Sums r (values_in r.column (spots g (sample_points (kept g axis sums)))))
      (λ r is. let P : List ℤ → Type 0 = λ vs. Sums r vs in
      subst P (sym (column_values g r.column (kept g axis sums))) (row_sums axis g sums r slots step is)) rows below.each;
  every =
      spots_all g (λ p. Contains (columns_of rows) p.x) (kept g axis sums)
      (All-weaker (IsKept g axis sums) (λ s. Contains (columns_of rows) (column g s.time))
      (λ s is.
      let short : is.slot < length sums = slice_get_within sums is.slot (Some s.value) is.holds in
      let own : IsInColumn axis g (column g (slot_time axis is.slot)) is.slot = record {
        slot = omega (arith, short, slots);
        shown = is.shown;
        place = refl;
      } in
      let found = below.every (column g (slot_time axis is.slot)) is.slot s.value (drawn (slot_time axis is.slot) is.shown) own is.holds in
      let P : ℤ → Type 0 = λ t. Contains (columns_of rows) (column g t) in
      subst P is.time found) (kept g axis sums) (kept_slots g axis sums));
}

-- no column yet
pub none_below : (axis : Axis) (g : Grid) (sums : List (Option ℤ)) → AreRowsBelow axis g sums 0 []
none_below axis g sums = record { each = All-nil (IsRowOf axis g sums); every = λ c i v less own holds. absurd (omega (arith, less)) }

pub none_shown : (w : ℕ) → AreShown w 0 []
none_shown w = record {
  rising = λ i j d less short. absurd (omega arith);
  drawable = All-nil (IsDrawable w);
  ordered = All-nil IsOrdered;
  below = All-nil (λ r. r.column < 0);
}

below_next : (c n : ℕ) → c < n + 1 → (c < n) ⊎ (c ≡ n)
below_next c n less = elim (cases_lt c n) [
  | inl before ↦ inl before
  | inr more ↦ inr (omega (arith, less, more))
]

-- a column without a sum has no row
pub column_without : (axis : Axis) (g : Grid) (sums : List (Option ℤ)) (n from to : ℕ) (rows : List Row) → AreColumn axis g n from to
    → IsClear sums from to → AreRowsBelow axis g sums n rows → AreRowsBelow axis g sums (n + 1) rows
column_without axis g sums n from to rows own clear below = record {
  each = below.each;
  every = λ c i v less is holds. elim (below_next c n less) [
    | inl before ↦ below.every c i v before is holds
    | inr same ↦
        let P : ℕ → Type 0 = λ m. IsInColumn axis g m i in
        let within = (own i).0 (subst P same is) in
        absurd (clear i v within.0 within.1 holds)
  ];
}

columns_push : (rows : List Row) (r : Row) → columns_of (rows ++ r ∷ []) ≡ columns_of rows ++ r.column ∷ []
columns_push rows r = map-append (λ r. r.column) rows (r ∷ [])

-- another one has its row behind the others
pub column_with : (axis : Axis) (g : Grid) (sums : List (Option ℤ)) (n from to : ℕ) (rows : List Row) (r : Row) → AreColumn axis g n from to
    → r.column ≡ n → IsRowIn sums from to r → AreRowsBelow axis g sums n rows → AreRowsBelow axis g sums (n + 1) (rows ++ r ∷ [])
column_with axis g sums n from to rows r own same row below =
    let P : ℕ → Type 0 = λ m. AreColumn axis g m from to in
    let mine : IsRowOf axis g sums r = record { from = from; to = to; slots = subst P (sym same) own; row = row } in
    record {
      each = All-push (IsRowOf axis g sums) rows r below.each mine;
      every = λ c i v less is holds.
          let Q : List ℕ → Type 0 = λ cs. Contains cs c in
          subst Q (sym (columns_push rows r)) (elim (below_next c n less) [
            | inl before ↦ Contains-append_left (columns_of rows) (r.column ∷ []) c (below.every c i v before is holds)
            | inr here ↦ let R : ℕ → Type 0 = λ m. Contains (columns_of rows ++ r.column ∷ []) m in
                subst R (same ∙ sym here) (Contains-push (columns_of rows) r.column)
          ]);
    }

pub shown_with : (w n : ℕ) (rows : List Row) (r : Row) → n < w → r.column ≡ n → IsDrawable (n + 1) r → IsOrdered r → AreShown w n rows
    → AreShown w (n + 1) (rows ++ r ∷ [])
shown_with w n rows r drawn same drawable order shown = record {
  rising = all_pairs_push (λ r s. r.column < s.column) rows r shown.rising (λ k d less. omega (arith, shown.below k d less, same));
  drawable = All-push (IsDrawable w) rows r shown.drawable
      (record {
        column = omega (arith, drawn, same);
        order = drawable.order;
        first = drawable.first;
        least = drawable.least;
        greatest = drawable.greatest;
        last = drawable.last;
      });
  ordered = All-push IsOrdered rows r shown.ordered order;
  below =
      All-push (λ r. r.column < n + 1) rows r (All-weaker (λ r. r.column < n) (λ r. r.column < n + 1)
      (λ r less. omega (arith, less)) rows shown.below) (omega (arith, same));
}

-- the slots of a column are slots of the window
window_within : (axis : Axis) (g : Grid) (from to i : ℕ) → AreSlotsBefore axis g.t0 from → AreSlotsBefore axis g.t1 to → i < axis.slots
    → InWindow g (slot_time axis i) → (from ≤ i) × (i < to)
window_within axis g from to i start stop slot shown = (
  elim (cases_lt i from) [
    | inl less ↦ absurd (omega (arith, ints, shown.from, (start.before i slot).0 less))
    | inr more ↦ more
  ],
  (stop.before i slot).1 shown.to,
)

-- where no sum of the window is too large, none of a column is, and no sample
pub column_small : (axis : Axis) (g : Grid) (sums : List (Option ℤ)) (from to : ℕ) → AreSlotsBefore axis g.t0 from
    → AreSlotsBefore axis g.t1 to → IsFirstLarge sums from to None → AreColumnValues axis g sums
column_small axis g sums from to start stop small c i v own holds =
    let within = window_within axis g from to i start stop own.slot own.shown in small i v within.0 within.1 holds

pub samples_small : (axis : Axis) (g : Grid) (sums : List (Option ℤ)) (from to : ℕ) → axis.slots ≡ length sums
    → AreSlotsBefore axis g.t0 from → AreSlotsBefore axis g.t1 to → IsFirstLarge sums from to None
    → All (λ s. IsValue s.value) (kept g axis sums)
samples_small axis g sums from to slots start stop small =
    All-weaker (IsKept g axis sums) (λ s. IsValue s.value)
    (λ s is.
    let short : is.slot < length sums = slice_get_within sums is.slot (Some s.value) is.holds in
    let within = window_within axis g from to is.slot start stop (omega (arith, short, slots)) is.shown in
    small is.slot s.value within.0 within.1 is.holds) (kept g axis sums) (kept_slots g axis sums)

-- the slot lies in the window
shown_slot : (axis : Axis) (g : Grid) (from to i : ℕ) → AreSlotsBefore axis g.t0 from → AreSlotsBefore axis g.t1 to → from ≤ i → i < to
    → InWindow g (slot_time axis i)
shown_slot axis g from to i start stop low high =
    let slot : i < axis.slots = omega (arith, high, stop.within) in
    record {
      from = not_less (slot_time axis i) g.t0 (λ less. omega (arith, low, (start.before i slot).1 less));
      to = (stop.before i slot).0 high;
    }
  where
    not_less : (s t : ℤ) → (s <ℤ t → ⊥) → t ≤ℤ s
    not_less s t h = by_lt_z s t (λ less. absurd (h less)) (λ le. le)

step_order : (axis : Axis) (i j : ℕ) → slot_time axis i <ℤ slot_time axis j → i < j
step_order axis i j less = elim (cases_lt i j) [
  | inl before ↦ before
  | inr more ↦ absurd (omega (arith, ints, less, time_order axis.start axis.step j i more))
]

-- the first sum that is too large is that of the first such sample
pub first_too_large : (axis : Axis) (g : Grid) (sums : List (Option ℤ)) (from to slot : ℕ) (value time : ℤ) → axis.slots ≡ length sums
    → AreSlotsBefore axis g.t0 from → AreSlotsBefore axis g.t1 to → (IsTime (slot_time axis slot) → time ≡ slot_time axis slot)
    → IsFirstLarge sums from to (Some (slot, value)) → IsFirstTooLarge (kept g axis sums) time
first_too_large axis g sums from to slot value time slots start stop is found =
    let shown : InWindow g (slot_time axis slot) = shown_slot axis g from to slot start stop found.0 found.1 in
    let fits : IsTime (slot_time axis slot) = window_time g (slot_time axis slot) shown in
    let Q : ℤ → Type 0 = λ t. IsFirstTooLarge (kept g axis sums) t in
    subst Q (sym (is fits)) (record {
      value = value;
      among = slot_kept g axis sums slot value found.2 shown;
      large = found.3;
      before =
          All-weaker (IsKept g axis sums) (λ s. s.time <ℤ slot_time axis slot → IsValue s.value)
          (λ s own earlier.
          let P : ℤ → Type 0 = λ t. t <ℤ slot_time axis slot in
          let less : own.slot < slot = step_order axis own.slot slot (subst P (sym own.time) earlier) in
          let short : own.slot < length sums = slice_get_within sums own.slot (Some s.value) own.holds in
          let within = window_within axis g from to own.slot start stop (omega (arith, short, slots)) own.shown in
          found.4 own.slot s.value within.0 less own.holds) (kept g axis sums) (kept_slots g axis sums);
    })
  where
    window_time : (g : Grid) (t : ℤ) → InWindow g t → IsTime t
    window_time g t shown = grind (arith, ints, shown.from, shown.to, g.window.from_size, g.window.to_size)

-- an error that is passed on
pub passed_error : {T : Type 0} (result : Result T DerivedError) (e : DerivedError) (P : DerivedError → Type 0)
    → IsErrAnd result (λ x. x ≡ e) → P e → IfErr result P
passed_error (Ok v) e P is holds = tt
passed_error (Err x) e P is holds = subst P (sym is) holds

pub error_answer : (g : Grid) (samples : List Sample) (result : Result (List Row) DerivedError) (e : DerivedError) (causes : NodeError
    → Type 0) → IsErrAnd result (λ x. x ≡ e) → IsRowCause causes e → IsAnswer g samples result
error_answer g samples (Ok rows) e causes is cause = absurd is
error_answer g samples (Err (TooLarge time)) e causes is cause = let P : DerivedError → Type 0 = λ x. IsRowCause causes x in
    absurd (subst P (sym is) cause)
error_answer g samples (Err (Node n)) e causes is cause = tt
error_answer g samples (Err NoMemory) e causes is cause = tt

pub later_cause : (C D : NodeError → Type 0) (e : DerivedError) → ((n : NodeError) → C n → D n) → IsRowCause C e → IsCause D e
later_cause C D (TooLarge time) more cause = tt
later_cause C D (Node n) more cause = more n cause
later_cause C D NoMemory more cause = tt

pub row_cause : (C D : NodeError → Type 0) (e : DerivedError) → ((n : NodeError) → C n → D n) → IsRowCause C e → IsRowCause D e
row_cause C D (TooLarge time) more cause = cause
row_cause C D (Node n) more cause = more n cause
row_cause C D NoMemory more cause = tt
