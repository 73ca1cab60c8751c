-- Slots that are read into an array.
use Rattle.std.proofs.Common.{ℕ, zero, suc, replicate, ℤ, pos, ◌≡◌, ◌+◌, ◌*◌, ◌^◌, ◌<◌, ◌≤◌, ◌⊎◌, inl, inr, ◌+ℤ◌, ◌*ℤ◌, ◌<ℤ◌, List, length}
use Rattle.std.proofs.Common.{Option, None, Some, Result, Ok, Err, OnOk, arith, refl, sym, ◌∙◌, ap, ap₂, subst}
use Rattle.std.proofs.lemmas.Bool.{cases_lt}
use Rattle.std.proofs.Common.{to_z, of_z}
use mir.Syntax.{w128}
use Rattle.std.proofs.lemmas.Int.{ints, to_z-of_z, fits_signed_from_abs}
use Rattle.std.proofs.lemmas.Option.{same_Some, slice_get_within}
use Rattle.std.specs.Prelude.{◌≢◌, ◌↔◌, slice_get, unsigned_abs}
use Rattle.std.specs.Int.{w64, cast_signed, cast_unsigned}
use Rattle.whole_number.specs.Range.{IsValue}
use Rattle.om3_coeff.specs.declared.key.Key.{Key}
use Rattle.om3_coeff.specs.declared.span.Span.{Span}
use Rattle.om3_coeff.specs.Keys.{first_slot, end_slot, left_of, right_of, top_key, height}
use Rattle.om3_coeff.specs.Spans.{Holds, IsProper, IsProperIfAny, span}
use Rattle.om3_coeff.specs.View.{NodesView, Agrees}
use Rattle.om3_coeff.specs.Walks.{IsReached}
use Rattle.om3_coeff.proofs.EndLemmas.{has_slots, holds_here}
use Rattle.om3_coeff.proofs.ExtremeLemmas.{none-clear}
use Rattle.om3_coeff.proofs.KeyLemmas.{left_first, right_end, height_covers}
use Rattle.om3_coeff.proofs.KnownLemmas.{reached_span}
use Rattle.om3_coeff.proofs.WalkLemmas.{same_value}
use Rattle.derived_chart.specs.declared.searches.Best.{Best}
use Rattle.derived_chart.specs.declared.sum.Sum.{Sum}
use Rattle.derived_chart.specs.Searches.{Beats, IsBestWith}
use Rattle.derived_chart.specs.Slots.{entry, IsReadAt, AreReadBelow, AreRead, HasValues, IsEmpty, IsApart, Meets, IsPut, sum_of_slots}
use Rattle.derived_chart.specs.Slots.{IsBetterOf, AreArraySums}
use Rattle.derived_chart.specs.Sums.{AreSums}
use Rattle.derived_chart.proofs.BestLemmas.{best_clear, best_left}

-- a range of which nothing is read
more_none : (list : List (Option ℤ)) (base : ℤ) (count a b : ℕ) (slots : List (Option ℤ)) → a ≤ b
    → ((i n : ℕ) (v : ℤ) → i < count → pos n ≡ base +ℤ pos i → a ≤ n → n < b → Holds list n v → ⊥) → AreReadBelow list base count a slots
    → AreReadBelow list base count b slots
more_none list base count a b slots le none read = λ i v. (
  λ is. let r = (read i v).0 is in record {
    within = r.within;
    slot = r.slot;
    here = r.here;
    below = omega (arith, r.below, le);
    holds = r.holds;
  },
  λ r. elim (cases_lt r.slot a) [
    | inl less ↦ (read i v).1 (record { within = r.within; slot = r.slot; here = r.here; below = less; holds = r.holds })
    | inr more ↦ absurd (none i r.slot v r.within r.here more r.below r.holds)
  ],
)

pub read_missing : (view : NodesView) (list : List (Option ℤ)) (k : Key) (o : Option Span) (base : ℤ) (count : ℕ) (slots : List (Option ℤ))
    → o ≡ None
    → Agrees view list → IsReached view k o → AreReadBelow list base count (first_slot k) slots
    → AreReadBelow list base count (end_slot k) slots
read_missing view list k o base count slots is agrees reached =
    let none : span list k ≡ None = sym (reached_span view list k o agrees reached) ∙ is in
    more_none list base count (first_slot k) (end_slot k) slots (omega (arith, has_slots k))
    (λ i n v within here low high holds. none-clear list (first_slot k) (end_slot k) none n v low high holds)

pub read_apart : (list : List (Option ℤ)) (k : Key) (base : ℤ) (count : ℕ) (slots : List (Option ℤ)) → IsApart k base count
    → AreReadBelow list base count (first_slot k) slots → AreReadBelow list base count (end_slot k) slots
read_apart list k base count slots apart =
    more_none list base count (first_slot k) (end_slot k) slots (omega (arith, has_slots k))
    (λ i n v within here low high holds. elim apart [
      | inl before ↦ omega (arith, ints, before, within, here, low, high)
      | inr behind ↦ omega (arith, ints, behind, within, here, low, high)
    ])

-- a slot
pub slot_end : (k : Key) → k.level ≡ 0 → end_slot k ≡ k.index + 1
slot_end k at_zero = let width : 2 ^ k.level ≡ 1 = ap (λ n. 2 ^ n) at_zero in omega (arith, ap (λ n. (k.index + 1) * n) width)

pub slot_first : (k : Key) → k.level ≡ 0 → first_slot k ≡ k.index
slot_first k at_zero = let width : 2 ^ k.level ≡ 1 = ap (λ n. 2 ^ n) at_zero in omega (arith, ap (λ n. k.index * n) width)

one_value : (list : List (Option ℤ)) (i j : ℕ) (u v : ℤ) → Holds list i u → Holds list j v → i ≡ j → u ≡ v
one_value list i j u v p q e = same_Some u v (same_Some (Some u) (Some v) (sym p ∙ ap (slice_get list) e ∙ q))

same_or_other : (i j : ℕ) → (i ≡ j) ⊎ (i ≢ j)
same_or_other i j = elim (cases_lt i j) [
  | inl less ↦ inr (λ e. omega (arith, less, e))
  | inr more ↦ elim (cases_lt j i) [
    | inl less ↦ inr (λ e. omega (arith, less, e))
    | inr le ↦ inl (omega (arith, more, le))
  ]
]

read_put : (list : List (Option ℤ)) (base : ℤ) (count n : ℕ) (v : ℤ) (old new : List (Option ℤ)) → Holds list n v
    → pos n <ℤ (base +ℤ pos count) → IsPut base n v old new
    → AreReadBelow list base count n old → AreReadBelow list base count (n + 1) new
read_put list base count n v old new holds high put read = λ i w. elim (same_or_other i put.place) [
  | inl same ↦ (own i w same, own_back i w same)
  | inr other ↦ (away i w other, away_back i w other)
]
  where
    set : (i : ℕ) → i ≡ put.place → entry new i ≡ Some v
    set i same = ap (entry new) same ∙ put.set

    own : (i : ℕ) (w : ℤ) → i ≡ put.place → entry new i ≡ Some w → IsReadAt list base count (n + 1) i w
    own i w same is =
        let e : v ≡ w = same_Some v w (sym (set i same) ∙ is) in
        record {
          within = omega (arith, ints, put.here, same, high);
          slot = n;
          here = omega (arith, ints, put.here, same);
          below = omega arith;
          holds = (let P : ℤ → Type 0 = λ z. Holds list n z in subst P e holds);
        }

    own_back : (i : ℕ) (w : ℤ) → i ≡ put.place → IsReadAt list base count (n + 1) i w → entry new i ≡ Some w
    own_back i w same r =
        let at : r.slot ≡ n = omega (arith, ints, r.here, put.here, same) in
        set i same ∙ ap (λ z. Some z) (one_value list n r.slot v w holds r.holds (sym at))

    away : (i : ℕ) (w : ℤ) → i ≢ put.place → entry new i ≡ Some w → IsReadAt list base count (n + 1) i w
    away i w other is =
        let r = (read i w).0 (sym (put.others i other) ∙ is) in
        record { within = r.within; slot = r.slot; here = r.here; below = omega (arith, r.below); holds = r.holds }

    away_back : (i : ℕ) (w : ℤ) → i ≢ put.place → IsReadAt list base count (n + 1) i w → entry new i ≡ Some w
    away_back i w other r = elim (cases_lt r.slot n) [
      | inl less ↦ put.others i other ∙ (read i w).1
          (record { within = r.within; slot = r.slot; here = r.here; below = less; holds = r.holds })
      | inr more ↦ absurd (other (omega (arith, ints, r.here, put.here, r.below, more)))
    ]

pub read_here : (view : NodesView) (list : List (Option ℤ)) (k : Key) (o : Option Span) (t : Span) (base : ℤ) (count : ℕ)
    (old new : List (Option ℤ)) → o ≡ Some t → k.level ≡ 0 → Meets k base count
    → IsPut base k.index (cast_signed w64 (cast_unsigned w64 t.min)) old new → Agrees view list → IsReached view k o
    → AreReadBelow list base count (first_slot k) old → AreReadBelow list base count (end_slot k) new
read_here view list k o t base count old new is at_zero meets put agrees reached read =
    let P : ℕ → Type 0 = λ n. AreReadBelow list base count n old in
    let Q : ℕ → Type 0 = λ n. AreReadBelow list base count n new in
    subst Q (sym (slot_end k at_zero))
    (read_put list base count k.index (cast_signed w64 (cast_unsigned w64 t.min)) old new
    (holds_here view list k o t agrees reached is at_zero)
    (let R : ℕ → Type 0 = λ n. pos n <ℤ (base +ℤ pos count) in subst R (slot_first k at_zero) meets.1) put
    (subst P (slot_first k at_zero) read))

-- the halves
pub read_left : (list : List (Option ℤ)) (base : ℤ) (count : ℕ) (k left : Key) (slots : List (Option ℤ)) → 1 ≤ k.level → left ≡ left_of k
    → AreReadBelow list base count (first_slot k) slots → AreReadBelow list base count (first_slot left) slots
read_left list base count k left slots low is =
    let P : ℕ → Type 0 = λ n. AreReadBelow list base count n slots in subst P (sym (ap first_slot is ∙ left_first k low))

pub read_middle : (list : List (Option ℤ)) (base : ℤ) (count : ℕ) (k left right : Key) (slots : List (Option ℤ)) → left ≡ left_of k
    → right ≡ right_of k → AreReadBelow list base count (end_slot left) slots → AreReadBelow list base count (first_slot right) slots
read_middle list base count k left right slots one other =
    let e : end_slot left ≡ first_slot right = ap end_slot one ∙ sym (ap first_slot other) in
    let P : ℕ → Type 0 = λ n. AreReadBelow list base count n slots in subst P e

pub read_right : (list : List (Option ℤ)) (base : ℤ) (count : ℕ) (k right : Key) (slots : List (Option ℤ)) → 1 ≤ k.level
    → right ≡ right_of k → AreReadBelow list base count (end_slot right) slots → AreReadBelow list base count (end_slot k) slots
read_right list base count k right slots low is =
    let P : ℕ → Type 0 = λ n. AreReadBelow list base count n slots in subst P (ap end_slot is ∙ right_end k low)

-- the values that are put are such that a slot can hold them
put_values : (base : ℤ) (n : ℕ) (v : ℤ) (old new : List (Option ℤ)) → IsValue v → IsPut base n v old new → HasValues old → HasValues new
put_values base n v old new value put has = λ i w is. elim (same_or_other i put.place) [
  | inl same ↦ (let P : ℤ → Type 0 = λ z. IsValue z in subst P (same_Some v w (sym (ap (entry new) same ∙ put.set) ∙ is)) value)
  | inr other ↦ has i w (sym (put.others i other) ∙ is)
]

proper_some : (s : Option Span) (t : Span) → s ≡ Some t → IsProperIfAny s → IsProper t
proper_some s t is h = let P : Option Span → Type 0 = λ s. IsProperIfAny s in subst P is h

pub here_values : (view : NodesView) (k : Key) (o : Option Span) (t : Span) (base : ℤ) (old new : List (Option ℤ)) → o ≡ Some t
    → IsReached view k o
    → IsPut base k.index (cast_signed w64 (cast_unsigned w64 t.min)) old new → HasValues old → HasValues new
here_values view k o t base old new is reached put =
    let low = (proper_some o t is reached.proper).low in
    let P : ℤ → Type 0 = λ z. IsValue z in
    put_values base k.index (cast_signed w64 (cast_unsigned w64 t.min)) old new (subst P (sym (same_value t.min low)) low) put

-- an array of nothing
pub none_at : (m n : ℕ) → entry (replicate m None) n ≡ None
none_at zero n = refl
none_at (suc m) zero = refl
none_at (suc m) (suc n) = none_at m n

-- the whole of it
pub read_start : (list : List (Option ℤ)) (base : ℤ) (count n : ℕ) (slots : List (Option ℤ)) → n ≡ 0 → IsEmpty slots
    → AreReadBelow list base count n slots
read_start list base count n slots none empty = λ i v. (
  λ is. (let never : None ≡ Some v = sym (empty i) ∙ is in absurd (cc)),
  λ r. absurd (omega (arith, r.below, none)),
)

pub read_all : (list : List (Option ℤ)) (base : ℤ) (count n : ℕ) (slots : List (Option ℤ)) → length list ≤ n
    → AreReadBelow list base count n slots → AreRead list base count slots
read_all list base count n slots whole read = λ i v. (
  λ is. (let r = (read i v).0 is in (r.within, record { slot = r.slot; here = r.here; holds = r.holds })),
  λ h. (read i v).1 (record {
    within = h.0;
    slot = h.1.slot;
    here = h.1.here;
    below = omega (arith, whole, slice_get_within list h.1.slot (Some v) h.1.holds);
    holds = h.1.holds;
  }),
)

top_first : (n : ℕ) → first_slot (top_key n) ≡ 0
top_first n = omega arith

top_end : (n : ℕ) → end_slot (top_key n) ≡ 2 ^ height n
top_end n = omega arith

pub read_series : (list : List (Option ℤ)) (base : ℤ) (count n m : ℕ) (top : Key) (slots : List (Option ℤ)) → n ≡ m → m ≡ length list
    → n ≤ 2 ^ 35 → top ≡ top_key n
    → AreReadBelow list base count (end_slot top) slots → AreRead list base count slots
read_series list base count n m top slots same counted few is =
    let end : end_slot top ≡ 2 ^ height n = ap end_slot is ∙ top_end n in
    read_all list base count (end_slot top) slots (omega (arith, end, height_covers n few, same, counted))

pub top_zero : (n : ℕ) (top : Key) → top ≡ top_key n → first_slot top ≡ 0
top_zero n top is = ap first_slot is ∙ top_first n

pub on_ok : {X E : Type 0} (r : Result X E) (P Q : Type 0) → (P → Q) → OnOk r P → OnOk r Q
on_ok (Ok x) P Q on h = on h
on_ok (Err e) P Q on h = tt

pub empty_values : (slots : List (Option ℤ)) → IsEmpty slots → HasValues slots
empty_values slots empty = λ i v is. (let never : None ≡ Some v = sym (empty i) ∙ is in absurd (cc))

-- the best of one slot and of what was found before
by_next : (best : Best) (sums : List (Option ℤ)) (n : ℕ) (found next r : Option ℤ) → ((v : ℤ) → Holds sums n v ↔ (next ≡ Some v))
    → IsBetterOf best found next r → IsBestWith best sums n (n + 1) found r
by_next best sums n found None r each is =
    let P : Option ℤ → Type 0 = λ o. IsBestWith best sums n (n + 1) found o in
    subst P (sym is)
    (best_clear best sums n (n + 1) found
    (λ j w low high holds.
    let e : j ≡ n = omega (arith, low, high) in
    let Q : ℕ → Type 0 = λ m. Holds sums m w in
    let never : None ≡ Some w = (each w).0 (subst Q e holds) in
    absurd (cc)))
by_next best sums n found (Some v) None each is = absurd is
by_next best sums n found (Some v) (Some m) each is = (
  elim is.0 [
    | inl same ↦ inl same
    | inr same ↦ inr (record { slot = n; low = omega arith; high = omega arith; holds = (each m).1 (ap (λ z. Some z) same) })
  ],
  is.1,
  λ j w low high holds.
      let e : j ≡ n = omega (arith, low, high) in
      let Q : ℕ → Type 0 = λ m. Holds sums m w in
      let P : ℤ → Type 0 = λ z. Beats best m z in
      subst P (same_Some v w ((each w).0 (subst Q e holds))) is.2,
)

pub best_step : (best : Best) (sum : Sum) (xs ys sums : List (Option ℤ)) (count p i : ℕ) (found before r : Option ℤ)
    → AreArraySums sum xs ys count p sums → i < count
    → IsBestWith best sums p (p + i) found before → IsBetterOf best before (sum_of_slots sum (entry xs i) (entry ys i)) r
    → IsBestWith best sums p (p + (i + 1)) found r
best_step best sum xs ys sums count p i found before r are within is better =
    let one : IsBestWith best sums (p + i) ((p + i) + 1) before r = by_next best sums (p + i) before
    (sum_of_slots sum (entry xs i) (entry ys i)) r (λ v. are i v within) better in
    let e : (p + i) + 1 ≡ p + (i + 1) = omega arith in
    let P : ℕ → Type 0 = λ n. IsBestWith best sums (p + i) n before r in
    best_left best sums p (p + i) (p + (i + 1)) found before r (omega arith) (omega arith) is (subst P e one)

-- the sums of the arrays are those of the series
parts_of : (sum : Sum) (o s : Option ℤ) (v : ℤ) → sum_of_slots sum o s ≡ Some v
    → (x : ℤ) × (y : ℤ) × (o ≡ Some x) × (s ≡ Some y) × (v ≡ sum.a *ℤ x +ℤ sum.b *ℤ y)
parts_of sum None s v is = absurd (cc)
parts_of sum (Some x) None v is = absurd (cc)
parts_of sum (Some x) (Some y) v is = (x, y, refl, refl, sym (same_Some (sum.a *ℤ x +ℤ sum.b *ℤ y) v is))

pub arrays_are : (sum : Sum) (xs ys sums vs ws : List (Option ℤ)) (p count : ℕ) (first second : ℤ) → first ≡ pos p
    → second ≡ pos p +ℤ sum.shift → AreSums sum xs ys sums
    → AreRead xs first count vs → AreRead ys second count ws → AreArraySums sum vs ws count p sums
arrays_are sum xs ys sums vs ws p count first second first_is second_is are one other = λ i v within. (forth i v within, back i v within)
  where
    forth : (i : ℕ) (v : ℤ) → i < count → Holds sums (p + i) v → sum_of_slots sum (entry vs i) (entry ws i) ≡ Some v
    forth i v within holds =
        let adds = (are.each (p + i) v).0 holds in
        let x_is : entry vs i ≡ Some adds.x = (one i adds.x).1 (
          within,
          record { slot = p + i; here = omega (arith, ints, first_is); holds = adds.first },
        ) in
        let y_is : entry ws i ≡ Some adds.y = (other i adds.y).1 (
          within,
          record { slot = adds.second.slot; here = omega (arith, ints, second_is, adds.second.here); holds = adds.second.holds },
        ) in
        ap₂ (sum_of_slots sum) x_is y_is ∙ ap (λ z. Some z) (sym adds.is)

    back : (i : ℕ) (v : ℤ) → i < count → sum_of_slots sum (entry vs i) (entry ws i) ≡ Some v → Holds sums (p + i) v
    back i v within is =
        let parts = parts_of sum (entry vs i) (entry ws i) v is in
        let x = parts.0 in
        let y = parts.1 in
        let h = (one i x).0 parts.2 in
        let k = (other i y).0 parts.3 in
        let at : h.1.slot ≡ p + i = omega (arith, ints, first_is, h.1.here) in
        let P : ℕ → Type 0 = λ n. Holds xs n x in
        (are.each (p + i) v).1 (record {
          x = x;
          y = y;
          first = subst P at h.1.holds;
          second = record { slot = k.1.slot; here = omega (arith, ints, second_is, k.1.here); holds = k.1.holds };
          is = parts.4;
        })

-- numbers as the code holds them
pub held : (z : ℤ) → unsigned_abs z ≤ 2 * 10 ^ 27 → to_z w128 (of_z w128 z) ≡ z
held z small = to_z-of_z w128 z (fits_signed_from_abs w128 z (omega (arith, small)))

pub held_from : (z : ℤ) (p : ℕ) → z ≡ pos p → p ≤ 2 ^ 35 → to_z w128 (of_z w128 z) ≡ pos p
held_from z p is few =
    let P : ℤ → Type 0 = λ y. unsigned_abs y ≤ 2 * 10 ^ 27 in
    let small : p ≤ 2 * 10 ^ 27 = omega (arith, few) in
    held z (subst P (sym is) small) ∙ is

pub held_place : (z y : ℤ) → z ≡ y → unsigned_abs z ≤ 5 * 10 ^ 18 → to_z w128 (of_z w128 z) ≡ y
held_place z y is small = held z (omega (arith, small)) ∙ is

pub held_sum : (r s u v t : ℤ) → unsigned_abs r ≤ 10 ^ 27 → unsigned_abs s ≤ 10 ^ 27 → unsigned_abs t ≤ 2 * 10 ^ 27
    → t ≡ to_z w128 (of_z w128 r) +ℤ to_z w128 (of_z w128 s) → r ≡ u → s ≡ v
    → to_z w128 (of_z w128 t) ≡ u +ℤ v
held_sum r s u v t small also both is one other = held t both ∙ is
    ∙ ap₂ (λ x y. x +ℤ y) (held r (omega (arith, small)) ∙ one) (held s (omega (arith, also)) ∙ other)
