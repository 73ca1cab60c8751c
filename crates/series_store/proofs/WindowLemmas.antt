-- The runs and the values of slots, one slot after the other.
use Rattle.std.proofs.Common.{◌≡◌, ℕ, ℤ, zero, suc, ◌+◌, ◌-◌, ◌*◌, ◌^◌, ◌<◌, ◌≤◌, ◌==◌, ltb, cond, Bool, true, false, List, [], ◌∷◌, ◌++◌}
use Rattle.std.proofs.Common.{length, slice_get, All, Option, None, Some, refl, sym, ap, subst, arith, inl, inr, ◌∙◌, length-append}
use Rattle.std.proofs.lemmas.Bool.{cases_lt, and_parts, and_cases, ltb-true, ltb-false, eq-eqb, ne_eqb, cond-true, cond-false}
use Rattle.std.proofs.lemmas.List.{append_assoc}
use Rattle.std.proofs.lemmas.List.Elements.{All-push}
use Rattle.whole_number.specs.Range.{IsValue}
use Rattle.om3_coeff.specs.declared.span.Span.{Span}
use Rattle.om3_coeff.specs.Keys.{first_slot, end_slot}
use Rattle.om3_coeff.specs.Spans.{span_of_slot, span}
use Rattle.om3_coeff.proofs.ExtremeLemmas.{none-clear}
use Rattle.path_repair.specs.Changes.{value_of, slot_at}
use Rattle.stored_book.proofs.OneBook.{slot_key_span}
use Rattle.tree_walk.specs.Trees.{top_of_page}
use Rattle.series_store.specs.Windows.{slots_from, stored, run_of, before_runs, runs_from, AreOf, AreBelow, AreOfSome, AreNone, reach}
use Rattle.series_store.specs.Windows.{meets}
use Rattle.series_store.specs.WindowReading.{behind_runs, IsAdded}
use Rattle.series_store.specs.declared.slot_run.SlotRun.{SlotRun}
use Rattle.series_store.specs.declared.window_values.WindowValues.{WindowValues}

-- one slot more
pub slots_more : (list : List (Option ℤ)) (first n : ℕ)
    → slots_from list first (suc n) ≡ slots_from list first n ++ slot_at list (first + n) ∷ []
unfolding slots_from
slots_more list first zero =
    let same : first ≡ first + 0 = omega arith in
    ap (λ i. slot_at list i ∷ []) same
slots_more list first (suc n) =
    let next : suc first + n ≡ first + suc n = omega arith in
    ap (λ l. slot_at list first ∷ l) (slots_more list (suc first) n ∙ ap (λ i. slots_from list (suc first) n ++ slot_at list i ∷ []) next)

pub slots_length : (list : List (Option ℤ)) (first n : ℕ) → length (slots_from list first n) ≡ n
unfolding slots_from
slots_length list first zero = refl
slots_length list first (suc n) = ap (λ k. suc k) (slots_length list (suc first) n)

-- a run that a slot makes longer, or leaves
cond_cons : (b : Bool) (x : SlotRun) (l m : List SlotRun) → x ∷ cond b l m ≡ cond b (x ∷ l) (x ∷ m)
cond_cons true x l m = refl
cond_cons false x l m = refl

behind_first : (x : SlotRun) (rest : List SlotRun) (last : SlotRun) (slot : ℕ)
    → behind_runs (x ∷ (rest ++ last ∷ [])) slot ≡ x ∷ behind_runs (rest ++ last ∷ []) slot
unfolding behind_runs
behind_first x [] last slot = refl
behind_first x (y ∷ more) last slot = refl

behind_alone : (last : SlotRun) (slot : ℕ) → behind_runs (last ∷ []) slot ≡ cond (slot == last.end) (record last { end = suc slot } ∷ [])
    (last ∷ run_of slot ∷ [])
unfolding behind_runs
behind_alone last slot = refl

-- a slot behind runs, by the last of them
pub behind_last : (front : List SlotRun) (last : SlotRun) (slot : ℕ)
    → behind_runs (front ++ last ∷ []) slot ≡ cond (slot == last.end) (front ++ record last { end = suc slot } ∷ [])
    (front ++ last ∷ run_of slot ∷ [])
behind_last [] last slot = behind_alone last slot
behind_last (x ∷ front) last slot =
    behind_first x front last slot
    ∙ ap (λ l. x ∷ l) (behind_last front last slot)
    ∙ cond_cons (slot == last.end) x (front ++ record last { end = suc slot } ∷ []) (front ++ last ∷ run_of slot ∷ [])

pub behind_none : (slot : ℕ) → behind_runs [] slot ≡ run_of slot ∷ []
unfolding behind_runs
behind_none slot = refl

pub none_of : (runs : List SlotRun) → length runs ≡ 0 → runs ≡ []
none_of [] none = refl
none_of (run ∷ runs) none = absurd (omega (arith, none))

-- the same where the runs are what they were before the last was taken away
pub next_first : (old : List SlotRun) (slot end : ℕ) → old ≡ [] → end ≡ suc slot
    → record { first = slot; end = end } ∷ [] ≡ behind_runs old slot
next_first old slot end none is =
    ap (λ n. record { first = slot; end = n } ∷ []) is ∙ sym (ap (λ l. behind_runs l slot) none ∙ behind_none slot)

pub next_grown : (front old : List SlotRun) (last : SlotRun) (slot end : ℕ) → old ≡ front ++ last ∷ [] → last.end ≡ slot → end ≡ suc slot
    → front ++ record { first = last.first; end = end } ∷ [] ≡ behind_runs old slot
next_grown front old last slot end was same is =
    let here : slot == last.end ≡ true = eq-eqb slot last.end (sym same) in
    ap (λ n. front ++ record { first = last.first; end = n } ∷ []) is
    ∙ sym (ap (λ l. behind_runs l slot) was ∙ behind_last front last slot
    ∙ cond-true (slot == last.end) (front ++ record last { end = suc slot } ∷ []) (front ++ last ∷ run_of slot ∷ []) here)

pub next_new : (front old now : List SlotRun) (last : SlotRun) (slot end : ℕ) → old ≡ front ++ last ∷ [] → now ≡ front ++ last ∷ []
    → (last.end ≡ slot → ⊥) → end ≡ suc slot → now ++ record { first = slot; end = end } ∷ [] ≡ behind_runs old slot
next_new front old now last slot end was becomes other is =
    let apart : slot == last.end ≡ false = ne_eqb slot last.end (λ same. other (sym same)) in
    ap (λ n. now ++ record { first = slot; end = n } ∷ []) is
    ∙ ap (λ l. l ++ run_of slot ∷ []) becomes
    ∙ append_assoc front (last ∷ []) (run_of slot ∷ [])
    ∙ sym (ap (λ l. behind_runs l slot) was ∙ behind_last front last slot
    ∙ cond-false (slot == last.end) (front ++ record last { end = suc slot } ∷ []) (front ++ last ∷ run_of slot ∷ []) apart)

-- a slot in front of runs and one behind them
front_one : (first slot : ℕ) (r : SlotRun) (b : Bool) → before_runs first (cond b (record r { end = suc slot } ∷ []) (r ∷ run_of slot ∷ []))
    ≡ cond (r.first == suc first) (cond b (record { first = first; end = suc slot } ∷ []) (record r { first = first } ∷ run_of slot ∷ []))
    (run_of first ∷ cond b (record r { end = suc slot } ∷ []) (r ∷ run_of slot ∷ []))
front_one first slot r true = refl
front_one first slot r false = refl

behind_one : (first slot : ℕ) (r : SlotRun) (c : Bool) → behind_runs (cond c (record r { first = first } ∷ []) (run_of first ∷ r ∷ [])) slot
    ≡ cond c (cond (slot == r.end) (record { first = first; end = suc slot } ∷ []) (record r { first = first } ∷ run_of slot ∷ []))
    (run_of first ∷ cond (slot == r.end) (record r { end = suc slot } ∷ []) (r ∷ run_of slot ∷ []))
unfolding behind_runs
behind_one first slot r true = refl
behind_one first slot r false = refl

behind_more : (first slot : ℕ) (r n : SlotRun) (more : List SlotRun) (c : Bool)
    → behind_runs (cond c (record r { first = first } ∷ n ∷ more) (run_of first ∷ r ∷ n ∷ more)) slot
    ≡ cond c (record r { first = first } ∷ behind_runs (n ∷ more) slot) (run_of first ∷ r ∷ behind_runs (n ∷ more) slot)
unfolding behind_runs
behind_more first slot r n more true = refl
behind_more first slot r n more false = refl

behind_before : (first : ℕ) (runs : List SlotRun) (slot : ℕ)
    → before_runs first (behind_runs runs slot) ≡ behind_runs (before_runs first runs) slot
unfolding behind_runs
behind_before first [] slot = refl
behind_before first (r ∷ []) slot = front_one first slot r (slot == r.end) ∙ sym (behind_one first slot r (r.first == suc first))
behind_before first (r ∷ n ∷ more) slot = sym (behind_more first slot r n more (r.first == suc first))

-- a slot behind others that holds nothing, and one that holds a value
runs_none : (first : ℕ) (slots : List (Option ℤ)) → runs_from first (slots ++ None ∷ []) ≡ runs_from first slots
unfolding runs_from
runs_none first [] = refl
runs_none first (None ∷ slots) = runs_none (suc first) slots
runs_none first (Some v ∷ slots) = ap (λ l. before_runs first l) (runs_none (suc first) slots)

runs_some : (first : ℕ) (slots : List (Option ℤ)) (v : ℤ) (slot : ℕ) → slot ≡ first + length slots
    → runs_from first (slots ++ Some v ∷ []) ≡ behind_runs (runs_from first slots) slot
unfolding runs_from
runs_some first [] v slot is =
    let same : first ≡ slot = omega (arith, is) in
    ap (λ s. run_of s ∷ []) same ∙ sym (behind_none slot)
runs_some first (None ∷ slots) v slot is = runs_some (suc first) slots v slot (omega (arith, is))
runs_some first (Some u ∷ slots) v slot is =
    ap (λ l. before_runs first l) (runs_some (suc first) slots v slot (omega (arith, is)))
    ∙ behind_before first (runs_from (suc first) slots) slot

stored_none : (slots : List (Option ℤ)) → stored (slots ++ None ∷ []) ≡ stored slots
unfolding stored
stored_none [] = refl
stored_none (None ∷ slots) = stored_none slots
stored_none (Some v ∷ slots) = ap (λ l. v ∷ l) (stored_none slots)

stored_some : (slots : List (Option ℤ)) (v : ℤ) → stored (slots ++ Some v ∷ []) ≡ stored slots ++ v ∷ []
unfolding stored
stored_some [] v = refl
stored_some (None ∷ slots) v = stored_some slots v
stored_some (Some u ∷ slots) v = ap (λ l. u ∷ l) (stored_some slots v)

are_none : (first : ℕ) (slots : List (Option ℤ)) (values : WindowValues) → AreOf first slots values
    → AreOf first (slots ++ None ∷ []) values
are_none first slots values are = record {
  runs = are.runs ∙ sym (runs_none first slots);
  values_are = are.values_are ∙ sym (stored_none slots);
}

are_some : (first : ℕ) (slots : List (Option ℤ)) (slot : ℕ) (v : ℤ) (old new : WindowValues) → slot ≡ first + length slots
    → IsAdded slot v old new → AreOf first slots old → AreOf first (slots ++ Some v ∷ []) new
are_some first slots slot v old new is added are = record {
  runs = added.runs ∙ ap (λ l. behind_runs l slot) are.runs ∙ sym (runs_some first slots v slot is);
  values_are = added.values_are ∙ ap (λ l. l ++ v ∷ []) are.values_are ∙ sym (stored_some slots v);
}

-- how far a window reaches
reach_more : (from to n : ℕ) → from ≤ n → n < to → reach from to (suc n) ≡ suc (reach from to n)
reach_more from to n low high = omega (arith, low, high)

reach_here : (from to n : ℕ) → from ≤ n → n < to → n ≡ from + reach from to n
reach_here from to n low high = omega (arith, low, high)

reach_below : (from to n : ℕ) → n < from → reach from to (suc n) ≡ reach from to n
reach_below from to n low = omega (arith, low)

reach_past : (from to n : ℕ) → to ≤ n → reach from to (suc n) ≡ reach from to n
reach_past from to n high = omega (arith, high)

-- the values of a list's slots, one slot further
below_as : (list : List (Option ℤ)) (from k k' : ℕ) (values : WindowValues) → k' ≡ k → AreOf from (slots_from list from k) values
    → AreOf from (slots_from list from k') values
below_as list from k k' values same are = subst (λ (n : ℕ). AreOf from (slots_from list from n) values) (sym same) are

below_skip : (list : List (Option ℤ)) (from to n : ℕ) (values : WindowValues) → (from ≤ n → n < to → slot_at list n ≡ None)
    → AreBelow list from to n values → AreBelow list from to (suc n) values
below_skip list from to n values none are = elim (cases_lt n from) [
  | inl low ↦ below_as list from (reach from to n) (reach from to (suc n)) values (reach_below from to n low) are
  | inr here ↦
      elim (cases_lt n to) [
        | inl high ↦
            let k = reach from to n in
            let empty : slot_at list (from + k) ≡ None = ap (λ i. slot_at list i) (sym (reach_here from to n here high)) ∙ none here high in
            let S : List (Option ℤ) → Type 0 = λ l. AreOf from l values in
            let E : Option ℤ → Type 0 = λ x. AreOf from (slots_from list from k ++ x ∷ []) values in
            below_as list from (suc k) (reach from to (suc n)) values (reach_more from to n here high)
            (subst S (sym (slots_more list from k)) (subst E (sym empty) (are_none from (slots_from list from k) values are)))
        | inr past ↦ below_as list from (reach from to n) (reach from to (suc n)) values (reach_past from to n past) are
      ]
]

below_over : (list : List (Option ℤ)) (from to a n : ℕ) (values : WindowValues)
    → ((i : ℕ) → a ≤ i → i < a + n → from ≤ i → i < to → slot_at list i ≡ None) → AreBelow list from to a values
    → AreBelow list from to (a + n) values
below_over list from to a zero values none are =
    let same : a + 0 ≡ a = omega arith in
    below_as list from (reach from to a) (reach from to (a + 0)) values (ap (λ i. reach from to i) same) are
below_over list from to a (suc n) values none are =
    let next : a + suc n ≡ suc (a + n) = omega arith in
    below_as list from (reach from to (suc (a + n))) (reach from to (a + suc n)) values (ap (λ i. reach from to i) next)
    (below_skip list from to (a + n) values (λ low high. none (a + n) (omega arith) (omega arith) low high)
    (below_over list from to a n values (λ i low high. none i low (omega (arith, high))) are))

pub below_silent : (list : List (Option ℤ)) (from to a b : ℕ) (values : WindowValues) → a ≤ b
    → ((i : ℕ) → a ≤ i → i < b → from ≤ i → i < to → slot_at list i ≡ None) → AreBelow list from to a values
    → AreBelow list from to b values
below_silent list from to a b values order none are =
    let sum : a + (b - a) ≡ b = omega (arith, order) in
    below_as list from (reach from to (a + (b - a))) (reach from to b) values (ap (λ i. reach from to i) (sym sum))
    (below_over list from to a (b - a) values (λ i low high. none i low (omega (arith, high, sum))) are)

pub below_value : (list : List (Option ℤ)) (from to n : ℕ) (v : ℤ) (old new : WindowValues) → from ≤ n → n < to → slot_at list n ≡ Some v
    → IsAdded n v old new → AreBelow list from to n old → AreBelow list from to (suc n) new
below_value list from to n v old new here high holds added are =
    let k = reach from to n in
    let at = reach_here from to n here high in
    let value : slot_at list (from + k) ≡ Some v = ap (λ i. slot_at list i) (sym at) ∙ holds in
    let S : List (Option ℤ) → Type 0 = λ l. AreOf from l new in
    let E : Option ℤ → Type 0 = λ x. AreOf from (slots_from list from k ++ x ∷ []) new in
    below_as list from (suc k) (reach from to (suc n)) new (reach_more from to n here high)
    (subst S (sym (slots_more list from k)) (subst E (sym value)
    (are_some from (slots_from list from k) n v old new (omega (arith, at, slots_length list from k)) added are)))

-- the same of some slots
some_as : (from k k' : ℕ) (values : WindowValues) → k' ≡ k → AreOfSome from k values → AreOfSome from k' values
some_as from k k' values same are = subst (λ (n : ℕ). AreOfSome from n values) (sym same) are

some_none : (from k : ℕ) (values : WindowValues) → AreOfSome from k values → AreOfSome from (suc k) values
some_none from k values are = record {
  slots = are.slots ++ None ∷ [];
  long = length-append are.slots (None ∷ []) ∙ omega (arith, are.long);
  are = are_none from are.slots values are.are;
  in_range = are.in_range;
}

some_skip : (from to n : ℕ) (values : WindowValues) → AreOfSome from (reach from to n) values
    → AreOfSome from (reach from to (suc n)) values
some_skip from to n values are = elim (cases_lt n from) [
  | inl low ↦ some_as from (reach from to n) (reach from to (suc n)) values (reach_below from to n low) are
  | inr here ↦
      elim (cases_lt n to) [
        | inl high ↦ some_as from (suc (reach from to n)) (reach from to (suc n)) values (reach_more from to n here high)
            (some_none from (reach from to n) values are)
        | inr past ↦ some_as from (reach from to n) (reach from to (suc n)) values (reach_past from to n past) are
      ]
]

some_over : (from to a n : ℕ) (values : WindowValues) → AreOfSome from (reach from to a) values
    → AreOfSome from (reach from to (a + n)) values
some_over from to a zero values are =
    let same : a + 0 ≡ a = omega arith in
    some_as from (reach from to a) (reach from to (a + 0)) values (ap (λ i. reach from to i) same) are
some_over from to a (suc n) values are =
    let next : a + suc n ≡ suc (a + n) = omega arith in
    some_as from (reach from to (suc (a + n))) (reach from to (a + suc n)) values (ap (λ i. reach from to i) next)
    (some_skip from to (a + n) values (some_over from to a n values are))

pub some_silent : (from to a b : ℕ) (values : WindowValues) → a ≤ b → AreOfSome from (reach from to a) values
    → AreOfSome from (reach from to b) values
some_silent from to a b values order are =
    let sum : a + (b - a) ≡ b = omega (arith, order) in
    some_as from (reach from to (a + (b - a))) (reach from to b) values (ap (λ i. reach from to i) (sym sum))
    (some_over from to a (b - a) values are)

pub some_value : (from to n : ℕ) (v : ℤ) (old new : WindowValues) → from ≤ n → n < to → IsValue v → IsAdded n v old new
    → AreOfSome from (reach from to n) old → AreOfSome from (reach from to (suc n)) new
some_value from to n v old new here high range added are =
    some_as from (suc (reach from to n)) (reach from to (suc n)) new (reach_more from to n here high) (record {
      slots = are.slots ++ Some v ∷ [];
      long = length-append are.slots (Some v ∷ []) ∙ omega (arith, are.long);
      are = are_some from are.slots n v old new (omega (arith, are.long, reach_here from to n here high)) added are.are;
      in_range = subst (All IsValue) (sym added.values_are) (All-push IsValue old.stored.items v are.in_range range);
    })

-- at first there are none, and all slots are below the end of what holds them
none_are : (list : List (Option ℤ)) (from : ℕ) (values : WindowValues) → AreNone values → AreOf from (slots_from list from 0) values
unfolding slots_from runs_from stored
none_are list from values none = record { runs = none.runs; values_are = none.values_are }

pub none_below : (list : List (Option ℤ)) (from to p : ℕ) (values : WindowValues) → AreNone values → AreBelow list from to (0 * p) values
none_below list from to p values none = below_as list from 0 (reach from to (0 * p)) values (omega arith) (none_are list from values none)

none_of_some : (from : ℕ) (values : WindowValues) → AreNone values → AreOfSome from 0 values
unfolding runs_from stored
none_of_some from values none = record {
  slots = [];
  long = refl;
  are = record { runs = none.runs; values_are = none.values_are };
  in_range = subst (All IsValue) (sym none.values_are) (λ k d low. absurd (omega (arith, low)));
}

pub none_some : (from to p : ℕ) (values : WindowValues) → AreNone values → AreOfSome from (reach from to (0 * p)) values
none_some from to p values none = some_as from 0 (reach from to (0 * p)) values (omega arith) (none_of_some from values none)

reach_end : (from to end : ℕ) → to ≤ end → reach from to end ≡ to - from
reach_end from to end covers = omega (arith, covers)

pub below_end : (list : List (Option ℤ)) (from to end : ℕ) (values : WindowValues) → to ≤ end → AreBelow list from to end values
    → AreOf from (slots_from list from (to - from)) values
below_end list from to end values covers are = below_as list from (reach from to end) (to - from) values
    (sym (reach_end from to end covers)) are

pub some_end : (from to end : ℕ) (values : WindowValues) → to ≤ end → AreOfSome from (reach from to end) values
    → AreOfSome from (to - from) values
some_end from to end values covers are = some_as from (reach from to end) (to - from) values (sym (reach_end from to end covers)) are

-- a range without a span holds nothing
empty_slot : (x : Option (Option ℤ)) → ((v : ℤ) → x ≡ Some (Some v) → ⊥) → value_of x ≡ None
empty_slot None none = refl
empty_slot (Some None) none = refl
empty_slot (Some (Some v)) none = absurd (none v refl)

pub slot_none : (list : List (Option ℤ)) (level index : ℕ) → span list (top_of_page level index) ≡ None → (i : ℕ)
    → first_slot (top_of_page level index) ≤ i → i < end_slot (top_of_page level index) → slot_at list i ≡ None
unfolding slot_at
slot_none list level index none i low high = empty_slot (slice_get list i)
    (λ v holds. none-clear list (first_slot (top_of_page level index)) (end_slot (top_of_page level index)) none i v low high holds)

-- a range that doesn't meet the window has none of its slots
pub not_met : (from to level index : ℕ) → meets from to level index ≡ false → (i : ℕ) → first_slot (top_of_page level index) ≤ i
    → i < end_slot (top_of_page level index) → from ≤ i → i < to → ⊥
not_met from to level index is i low high here below = elim (and_cases (ltb (first_slot (top_of_page level index)) to)
    (ltb from (end_slot (top_of_page level index))) is) [
      | inl none ↦ omega (arith, ltb-false (first_slot (top_of_page level index)) to none, low, below)
      | inr none ↦ omega (arith, ltb-false from (end_slot (top_of_page level index)) none, high, here)
    ]

-- one that does, and what it holds where it is a slot
pub record Meets (from to level index : ℕ) : Type 0 where
  pub first : first_slot (top_of_page level index) < to
  pub end : from < end_slot (top_of_page level index)

pub is_met : (from to level index : ℕ) → meets from to level index ≡ true → Meets from to level index
is_met from to level index is =
    let both = and_parts (ltb (first_slot (top_of_page level index)) to) (ltb from (end_slot (top_of_page level index))) is in
    record {
      first = ltb-true (first_slot (top_of_page level index)) to both.0;
      end = ltb-true from (end_slot (top_of_page level index)) both.1;
    }

pub slot_met : (from to level index : ℕ) → level ≡ 0 → meets from to level index ≡ true → (from ≤ index) × (index < to)
slot_met from to level index is met =
    let M : ℕ → Type 0 = λ l. Meets from to l index in
    at (subst M is (is_met from to level index met))
  where
    at : Meets from to 0 index → (from ≤ index) × (index < to)
    at m = (omega (arith, m.end), omega (arith, m.first))

slot_value : (x : Option ℤ) (s : Span) → Some s ≡ span_of_slot x → x ≡ Some s.min
slot_value None s is = absurd (cc)
slot_value (Some v) s is = ap (λ (o : Option Span). least o) (sym is)
  where
    least : Option Span → Option ℤ
    least None = None
    least (Some s) = Some s.min

pub slot_holds : (list : List (Option ℤ)) (level index : ℕ) (s : Span) → level ≡ 0 → Some s ≡ span list (top_of_page level index)
    → slot_at list index ≡ Some s.min
slot_holds list level index s is there =
    let S : ℕ → Type 0 = λ l. Some s ≡ span list (top_of_page l index) in
    slot_value (slot_at list index) s (subst S is there ∙ slot_key_span list index)

-- the range of a slot
pub slot_first : (level index : ℕ) → level ≡ 0 → first_slot (top_of_page level index) ≡ index
slot_first level index is =
    let once : index * 2 ^ 0 ≡ index = omega arith in
    ap (λ l. index * 2 ^ (7 * l)) is ∙ once

pub slot_end : (level index : ℕ) → level ≡ 0 → end_slot (top_of_page level index) ≡ suc index
slot_end level index is =
    let once : (index + 1) * 2 ^ 0 ≡ suc index = omega arith in
    ap (λ l. (index + 1) * 2 ^ (7 * l)) is ∙ once
