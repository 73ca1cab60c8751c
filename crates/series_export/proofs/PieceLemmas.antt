-- The pieces of a window, put together.
use Rattle.std.proofs.Common.{◌≡◌, ℕ, ℤ, pos, ◌+ℤ◌, ◌≤ℤ◌, ◌<ℤ◌, ◌==◌, zero, suc, ◌+◌, ◌-◌, ◌*◌, ◌<◌, ◌≤◌, Bool, true, false, cond, List, []}
use Rattle.std.proofs.Common.{◌∷◌, ◌++◌, length, take, drop, Option, None, Some, refl, sym, ap, subst, arith, inl, inr, ◌∙◌}
use Rattle.std.proofs.lemmas.Bool.{cases_lt, eqb-true, false_from_ne_true}
use Rattle.std.proofs.lemmas.Bool.Decides.{nat_tests}
use Rattle.std.proofs.lemmas.Int.{ints}
use Rattle.std.proofs.lemmas.List.{append-nil}
use Rattle.std.proofs.lemmas.List.Elements.{filter-append}
use Rattle.path_repair.specs.Changes.{slot_at}
use Rattle.series_book.specs.declared.one_series.Series.{Series}
use Rattle.series_store.specs.Windows.{slots_from, window, stored, run_of, before_runs, runs_from, piece_end}
use Rattle.series_store.specs.declared.slot_run.SlotRun.{SlotRun}
use Rattle.series_store.proofs.WindowLemmas.{slots_length}
use Rattle.series_export.specs.Exports.{Stored, stored_from, stored_values, is_within, asked, lines_of, header, export_text, slot_time}
use Rattle.series_export.specs.Pieces.{AreBefore, Piece, ArePieces, readings_from, readings_of, readings_in}
use Rattle.series_export.specs.Laws.{PiecesAreTheExport, PiecesAreTheWholeExport}
use Rattle.series_export.specs.declared.window.Window.{Window}
use Rattle.series_export.proofs.ExportLemmas.{moved, first_time}

-- each run has a slot
abbrev HaveSlots : List SlotRun → Type 0
HaveSlots [] = Unit {0}
HaveSlots (run ∷ runs) = (run.first < run.end) × HaveSlots runs

grown : (slot : ℕ) (run : SlotRun) (b : Bool) (runs : List SlotRun) → run.first == suc slot ≡ b → run.first < run.end → HaveSlots runs
    → HaveSlots (cond b (record run { first = slot } ∷ runs) (run_of slot ∷ run ∷ runs))
grown slot run true runs is some more = (omega (arith, eqb-true run.first (suc slot) is, some), more)
grown slot run false runs is some more = (omega arith, (some, more))

before_has : (slot : ℕ) (runs : List SlotRun) → HaveSlots runs → HaveSlots (before_runs slot runs)
before_has slot [] have = (omega arith, tt)
before_has slot (run ∷ runs) have = grown slot run (run.first == suc slot) runs refl have.0 have.1

runs_have : (first : ℕ) (slots : List (Option ℤ)) → HaveSlots (runs_from first slots)
unfolding runs_from
runs_have first [] = tt
runs_have first (None ∷ slots) = runs_have (suc first) slots
runs_have first (Some v ∷ slots) = before_has first (runs_from (suc first) slots) (runs_have (suc first) slots)

-- a run that a slot begins
longer_by : (start : ℤ) (step slot k : ℕ) (v : ℤ) (runs : List SlotRun) (values : List ℤ)
    → readings_from start step slot (take (suc k) (v ∷ values)) ++ readings_of start step runs (drop (suc k) (v ∷ values))
    ≡ record { time = slot_time start step slot; value = v } ∷ (readings_from start step (suc slot)
    (take k values) ++ readings_of start step runs (drop k values))
unfolding readings_from
longer_by start step slot k v runs values = refl

longer : (start : ℤ) (step slot n k : ℕ) (v : ℤ) (runs : List SlotRun) (values : List ℤ) → n ≡ suc k
    → readings_from start step slot (take n (v ∷ values)) ++ readings_of start step runs (drop n (v ∷ values))
    ≡ record { time = slot_time start step slot; value = v } ∷ (readings_from start step (suc slot)
    (take k values) ++ readings_of start step runs (drop k values))
longer start step slot n k v runs values is =
    let P : ℕ → Type 0 = λ m. readings_from start step slot (take m (v ∷ values)) ++ readings_of start step runs
    (drop m (v ∷ values)) ≡ record {
      time = slot_time start step slot;
      value = v;
    } ∷ (readings_from start step (suc slot) (take k values) ++ readings_of start step runs (drop k values)) in
    subst P (sym is) (longer_by start step slot k v runs values)

no_longer : (start : ℤ) (step slot : ℕ) (runs : List SlotRun) (values : List ℤ)
    → readings_from start step slot (take 0 values) ++ readings_of start step runs (drop 0 values) ≡ readings_of start step runs values
unfolding readings_from
no_longer start step slot runs values = refl

runs_read : (start : ℤ) (step : ℕ) (run : SlotRun) (runs : List SlotRun) (values : List ℤ)
    → readings_of start step (run ∷ runs) values ≡ readings_from start step run.first
    (take (run.end - run.first) values) ++ readings_of start step runs (drop (run.end - run.first) values)
unfolding readings_of
runs_read start step run runs values = refl

joined : (start : ℤ) (step slot : ℕ) (run : SlotRun) (runs : List SlotRun) (v : ℤ) (values : List ℤ) → run.first ≡ suc slot
    → run.first < run.end → readings_of start step (record run { first = slot } ∷ runs)
    (v ∷ values) ≡ record { time = slot_time start step slot; value = v } ∷ readings_of start step (run ∷ runs) values
joined start step slot run runs v values is some =
    let k : run.end - slot ≡ suc (run.end - run.first) = omega (arith, is, some) in
    let F : ℕ → Type 0 = λ s. record {
      time = slot_time start step slot;
      value = v;
    } ∷ (readings_from start step s (take (run.end - run.first) values) ++ readings_of start step runs
    (drop (run.end - run.first) values)) ≡ record {
      time = slot_time start step slot;
      value = v;
    } ∷ (readings_from start step run.first (take (run.end - run.first) values) ++ readings_of start step runs
    (drop (run.end - run.first) values)) in
    runs_read start step (record run { first = slot }) runs (v ∷ values)
    ∙ longer start step slot (run.end - slot) (run.end - run.first) v runs values k
    ∙ subst F is refl
    ∙ ap (λ l. record { time = slot_time start step slot; value = v } ∷ l) (sym (runs_read start step run runs values))

alone : (start : ℤ) (step slot : ℕ) (runs : List SlotRun) (v : ℤ) (values : List ℤ)
    → readings_of start step (run_of slot ∷ runs) (v ∷ values) ≡ record {
      time = slot_time start step slot;
      value = v;
    } ∷ readings_of start step runs values
alone start step slot runs v values =
    let one : suc slot - slot ≡ suc 0 = omega arith in
    runs_read start step (run_of slot) runs (v ∷ values)
    ∙ longer start step slot (suc slot - slot) 0 v runs values one
    ∙ ap (λ l. record { time = slot_time start step slot; value = v } ∷ l) (no_longer start step (suc slot) runs values)

split_read : (start : ℤ) (step slot : ℕ) (run : SlotRun) (runs : List SlotRun) (v : ℤ) (values : List ℤ) (b : Bool)
    → run.first == suc slot ≡ b → run.first < run.end
    → readings_of start step (cond b (record run { first = slot } ∷ runs) (run_of slot ∷ run ∷ runs))
    (v ∷ values) ≡ record { time = slot_time start step slot; value = v } ∷ readings_of start step (run ∷ runs) values
split_read start step slot run runs v values true is some = joined start step slot run runs v values (eqb-true run.first (suc slot) is) some
split_read start step slot run runs v values false is some = alone start step slot (run ∷ runs) v values

before_read : (start : ℤ) (step slot : ℕ) (runs : List SlotRun) (v : ℤ) (values : List ℤ) → HaveSlots runs
    → readings_of start step (before_runs slot runs) (v ∷ values) ≡ record {
      time = slot_time start step slot;
      value = v;
    } ∷ readings_of start step runs values
before_read start step slot [] v values have = alone start step slot [] v values
before_read start step slot (run ∷ runs) v values have = split_read start step slot run runs v values (run.first == suc slot) refl have.0

next_slots : (step i : ℕ) → suc i * step ≡ i * step + step
next_slots step i = omega arith

-- a slot stands a step behind the one before it
pub time_next : (start : ℤ) (step slot : ℕ) → slot_time start step (suc slot) ≡ slot_time start step slot +ℤ pos step
time_next start step slot = moved start (slot * step) step (suc slot * step) (next_slots step slot)

-- the values of slots by their runs are those at their times
pub slots_read : (start : ℤ) (step first : ℕ) (slots : List (Option ℤ))
    → readings_of start step (runs_from first slots) (stored slots) ≡ stored_from step (slot_time start step first) slots
unfolding runs_from stored stored_from readings_of
slots_read start step first [] = refl
slots_read start step first (None ∷ slots) = slots_read start step (suc first) slots
    ∙ ap (λ t. stored_from step t slots) (time_next start step first)
slots_read start step first (Some v ∷ slots) =
    before_read start step first (runs_from (suc first) slots) v (stored slots) (runs_have (suc first) slots)
    ∙ ap (λ l. record { time = slot_time start step first; value = v } ∷ l) (slots_read start step (suc first) slots
    ∙ ap (λ t. stored_from step t slots) (time_next start step first))

-- slots one behind the other
pub stored_join : (start : ℤ) (step first : ℕ) (xs ys : List (Option ℤ))
    → stored_from step (slot_time start step first) (xs ++ ys) ≡ stored_from step (slot_time start step first) xs ++ stored_from step
    (slot_time start step (first + length xs)) ys
unfolding stored_from
stored_join start step first [] ys =
    let same : first ≡ first + 0 = omega arith in
    ap (λ n. stored_from step (slot_time start step n) ys) same
stored_join start step first (None ∷ xs) ys =
    let same : suc first + length xs ≡ first + suc (length xs) = omega arith in
    ap (λ t. stored_from step t (xs ++ ys)) (sym (time_next start step first))
    ∙ stored_join start step (suc first) xs ys
    ∙ ap (λ n. stored_from step (slot_time start step (suc first)) xs ++ stored_from step (slot_time start step n) ys) same
    ∙ ap (λ t. stored_from step t xs ++ stored_from step (slot_time start step (first + suc (length xs))) ys) (time_next start step first)
stored_join start step first (Some v ∷ xs) ys =
    let same : suc first + length xs ≡ first + suc (length xs) = omega arith in
    ap (λ l. record { time = slot_time start step first; value = v } ∷ l)
    (ap (λ t. stored_from step t (xs ++ ys)) (sym (time_next start step first))
    ∙ stored_join start step (suc first) xs ys
    ∙ ap (λ n. stored_from step (slot_time start step (suc first)) xs ++ stored_from step (slot_time start step n) ys) same
    ∙ ap (λ t. stored_from step t xs ++ stored_from step (slot_time start step (first + suc (length xs))) ys) (time_next start step first))

pub slots_join : (list : List (Option ℤ)) (first m n : ℕ)
    → slots_from list first (m + n) ≡ slots_from list first m ++ slots_from list (first + m) n
unfolding slots_from
slots_join list first zero n =
    let none : 0 + n ≡ n = omega arith in
    let same : first ≡ first + 0 = omega arith in
    ap (λ k. slots_from list first k) none ∙ ap (λ k. slots_from list k n) same
slots_join list first (suc m) n =
    let next : suc m + n ≡ suc (m + n) = omega arith in
    let same : suc first + m ≡ first + suc m = omega arith in
    ap (λ k. slots_from list first k) next
    ∙ ap (λ l. slot_at list first ∷ l) (slots_join list (suc first) m n
    ∙ ap (λ k. slots_from list (suc first) m ++ slots_from list k n) same)

pub window_join : (list : List (Option ℤ)) (from mid to : ℕ) → from ≤ mid → mid ≤ to
    → window list from to ≡ window list from mid ++ window list mid to
window_join list from mid to low high =
    let sum : to - from ≡ (mid - from) + (to - mid) = omega (arith, low, high) in
    let at : from + (mid - from) ≡ mid = omega (arith, low) in
    ap (λ k. slots_from list from k) sum ∙ slots_join list from (mid - from) (to - mid)
    ∙ ap (λ k. slots_from list from (mid - from) ++ slots_from list k (to - mid)) at

window_stored : (start : ℤ) (step : ℕ) (list : List (Option ℤ)) (from mid to : ℕ) → from ≤ mid → mid ≤ to
    → stored_from step (slot_time start step from) (window list from to) ≡ stored_from step (slot_time start step from)
    (window list from mid) ++ stored_from step (slot_time start step mid) (window list mid to)
window_stored start step list from mid to low high =
    let at : from + length (window list from mid) ≡ mid = omega (arith, low, slots_length list from (mid - from)) in
    ap (λ l. stored_from step (slot_time start step from) l) (window_join list from mid to low high)
    ∙ stored_join start step from (window list from mid) (window list mid to)
    ∙ ap (λ k. stored_from step (slot_time start step from) (window list from mid) ++ stored_from step (slot_time start step k)
    (window list mid to)) at

-- pieces, one behind the other
piece_on : (from to : ℕ) → from < to → (from < piece_end from to) × (piece_end from to ≤ to)
piece_on from to some = (omega (arith, some), omega (arith, some))

nothing : (step : ℕ) (time : ℤ) (list : List (Option ℤ)) (from : ℕ) → stored_from step time (slots_from list from 0) ≡ []
unfolding stored_from slots_from
nothing step time list from = refl

pieces_read : (series : Series) (from to : ℕ) (pieces : List Piece) → ArePieces series.slots from to pieces
    → readings_in series pieces ≡ stored_from series.step (slot_time series.start series.step from) (window series.slots from to)
pieces_read series from to [] end =
    let none : to - from ≡ 0 = omega (arith, end) in
    sym (ap (λ n. stored_from series.step (slot_time series.start series.step from) (slots_from series.slots from n)) none
    ∙ nothing series.step (slot_time series.start series.step from) series.slots from)
pieces_read series from to (piece ∷ pieces) (some, is, more) =
    let mid = piece_end from to in
    let on = piece_on from to some in
    ap (λ (p : Piece). readings_of series.start series.step p.runs p.values ++ readings_in series pieces) is
    ∙ ap (λ l. l ++ readings_in series pieces) (slots_read series.start series.step from (window series.slots from mid))
    ∙ ap (λ l. stored_from series.step (slot_time series.start series.step from) (window series.slots from mid) ++ l)
    (pieces_read series mid to pieces more)
    ∙ sym (window_stored series.start series.step series.slots from mid to (omega (arith, on.0)) on.1)

-- those of the values that are in a window
asked_join : (w : Option Window) (xs ys : List Stored) → asked w (xs ++ ys) ≡ asked w xs ++ asked w ys
asked_join w xs ys = filter-append (λ one. is_within w one.time) xs ys

pick : (b : Bool) (x : Stored) (l : List Stored) → b ≡ true → cond b (x ∷ l) l ≡ x ∷ l
pick true x l is = refl
pick false x l is = absurd (cc)

leave : (b : Bool) (x : Stored) (l : List Stored) → b ≡ false → cond b (x ∷ l) l ≡ l
leave false x l is = refl
leave true x l is = absurd (cc)

all_asked : (w : Option Window) (start : ℤ) (step first : ℕ) (slots : List (Option ℤ))
    → ((i : ℕ) → first ≤ i → i < first + length slots → is_within w (slot_time start step i) ≡ true)
    → asked w (stored_from step (slot_time start step first) slots) ≡ stored_from step (slot_time start step first) slots
unfolding stored_from
all_asked w start step first [] is = refl
all_asked w start step first (None ∷ slots) is =
    let T : ℤ → Type 0 = λ t. asked w (stored_from step t slots) ≡ stored_from step t slots in
    subst T (time_next start step first) (all_asked w start step (suc first) slots
    (λ i low high. is i (omega (arith, low)) (omega (arith, high))))
all_asked w start step first (Some v ∷ slots) is =
    let T : ℤ → Type 0 = λ t. asked w (stored_from step t slots) ≡ stored_from step t slots in
    let rest = subst T (time_next start step first)
    (all_asked w start step (suc first) slots (λ i low high. is i (omega (arith, low)) (omega (arith, high)))) in
    pick (is_within w (slot_time start step first)) (record { time = slot_time start step first; value = v })
    (asked w (stored_from step (slot_time start step first +ℤ pos step) slots)) (is first (omega arith) (omega arith))
    ∙ ap (λ l. record { time = slot_time start step first; value = v } ∷ l) rest

none_asked : (w : Option Window) (start : ℤ) (step first : ℕ) (slots : List (Option ℤ))
    → ((i : ℕ) → first ≤ i → i < first + length slots → is_within w (slot_time start step i) ≡ false)
    → asked w (stored_from step (slot_time start step first) slots) ≡ []
unfolding stored_from
none_asked w start step first [] is = refl
none_asked w start step first (None ∷ slots) is =
    let T : ℤ → Type 0 = λ t. asked w (stored_from step t slots) ≡ [] in
    subst T (time_next start step first) (none_asked w start step (suc first) slots
    (λ i low high. is i (omega (arith, low)) (omega (arith, high))))
none_asked w start step first (Some v ∷ slots) is =
    let T : ℤ → Type 0 = λ t. asked w (stored_from step t slots) ≡ [] in
    let rest = subst T (time_next start step first)
    (none_asked w start step (suc first) slots (λ i low high. is i (omega (arith, low)) (omega (arith, high)))) in
    leave (is_within w (slot_time start step first)) (record { time = slot_time start step first; value = v })
    (asked w (stored_from step (slot_time start step first +ℤ pos step) slots)) (is first (omega arith) (omega arith))
    ∙ rest

-- a list is all its slots
shifted : (x : Option ℤ) (xs : List (Option ℤ)) (first n : ℕ) → slots_from (x ∷ xs) (suc first) n ≡ slots_from xs first n
unfolding slots_from slot_at
shifted x xs first zero = refl
shifted x xs first (suc n) = ap (λ l. slot_at xs first ∷ l) (shifted x xs (suc first) n)

head_at : (x : Option ℤ) (xs : List (Option ℤ)) → slot_at (x ∷ xs) 0 ≡ x
unfolding slot_at
head_at None xs = refl
head_at (Some v) xs = refl

all_slots : (list : List (Option ℤ)) → slots_from list 0 (length list) ≡ list
unfolding slots_from
all_slots [] = refl
all_slots (x ∷ xs) = ap (λ y. y ∷ slots_from (x ∷ xs) 1 (length xs)) (head_at x xs)
    ∙ ap (λ l. x ∷ l) (shifted x xs 0 (length xs) ∙ all_slots xs)

whole_window : (list : List (Option ℤ)) → window list 0 (length list) ≡ list
whole_window list =
    let all : length list - 0 ≡ length list = omega arith in
    ap (λ n. slots_from list 0 n) all ∙ all_slots list

whole_stored : (series : Series) → stored_values series ≡ stored_from series.step (slot_time series.start series.step 0)
    (window series.slots 0 (length series.slots))
whole_stored series =
    ap (λ l. stored_from series.step series.start l) (sym (whole_window series.slots))
    ∙ ap (λ t. stored_from series.step t (window series.slots 0 (length series.slots))) (sym (first_time series.start series.step))

-- a slot whose time is in the window is one of the window's
within : (w : Window) (t : ℤ) → w.from ≤ℤ t → t <ℤ w.to → is_within (Some w) t ≡ true
within w t low high = grind (arith, ints, nat_tests, low, high)

before_window : (w : Window) (t : ℤ) → t <ℤ w.from → is_within (Some w) t ≡ false
before_window w t low = false_from_ne_true (is_within (Some w) t) (λ is. grind (arith, ints, nat_tests, low, is))

behind_window : (w : Window) (t : ℤ) → w.to ≤ℤ t → is_within (Some w) t ≡ false
behind_window w t high = false_from_ne_true (is_within (Some w) t) (λ is. grind (arith, ints, nat_tests, high, is))

not_less : (a b : ℤ) → (a <ℤ b → ⊥) → b ≤ℤ a
not_less a b not = grind (arith, ints, not)

at_or_behind : (series : Series) (time : ℤ) (n i : ℕ) → AreBefore series time n → i < length series.slots → n ≤ i
    → time ≤ℤ slot_time series.start series.step i
at_or_behind series time n i are low high = not_less (slot_time series.start series.step i) time
    (λ less. omega (arith, high, (are.before i low).1 less))

window_asked : (series : Series) (w : Window) (from to : ℕ) → AreBefore series w.from from → AreBefore series w.to to → from ≤ to
    → asked (Some w) (stored_values series) ≡ stored_from series.step (slot_time series.start series.step from)
    (window series.slots from to)
window_asked series w from to first last order =
    let start = series.start in
    let step = series.step in
    let list = series.slots in
    let count = length list in
    let at : ℕ → List (Option ℤ) → List Stored = λ n l. stored_from step (slot_time start step n) l in
    let ask : List Stored → List Stored = λ l. asked (Some w) l in
    let end = last.within in
    let one = window_stored start step list 0 from count (omega arith) (omega (arith, order, end)) in
    let two = window_stored start step list from to count order end in
    let early : ask (at 0 (window list 0 from)) ≡ [] = none_asked (Some w) start step 0 (window list 0 from) (λ i low high.
    let below : i < from = omega (arith, high, slots_length list 0 (from - 0)) in
    before_window w (slot_time start step i) ((first.before i (omega (arith, below, order, end))).0 below)) in
    let here : ask (at from (window list from to)) ≡ at from (window list from to) = all_asked (Some w) start step from
    (window list from to) (λ i low high.
    let below : i < to = omega (arith, high, order, slots_length list from (to - from)) in
    within w (slot_time start step i) (at_or_behind series w.from from i first (omega (arith, below, end)) low)
    ((last.before i (omega (arith, below, end))).0 below)) in
    let late : ask (at to (window list to count)) ≡ [] = none_asked (Some w) start step to (window list to count) (λ i low high.
    let below : i < count = omega (arith, high, end, slots_length list to (count - to)) in
    behind_window w (slot_time start step i) (at_or_behind series w.to to i last below low)) in
    ap ask (whole_stored series ∙ one)
    ∙ asked_join (Some w) (at 0 (window list 0 from)) (at from (window list from count))
    ∙ ap (λ l. l ++ ask (at from (window list from count))) early
    ∙ ap ask two
    ∙ asked_join (Some w) (at from (window list from to)) (at to (window list to count))
    ∙ ap (λ l. l ++ ask (at to (window list to count))) here
    ∙ ap (λ l. at from (window list from to) ++ l) late
    ∙ append-nil (at from (window list from to))

-- no slot is in a window that is turned round
none_between : (series : Series) (w : Window) (from to : ℕ) → AreBefore series w.from from → AreBefore series w.to to → to ≤ from
    → asked (Some w) (stored_values series) ≡ []
none_between series w from to first last order =
    let start = series.start in
    let step = series.step in
    let list = series.slots in
    ap (λ l. asked (Some w) l) (whole_stored series)
    ∙ none_asked (Some w) start step 0 (window list 0 (length list)) (λ i low high.
    let below : i < length list = omega (arith, high, slots_length list 0 (length list - 0)) in
    elim (cases_lt i from) [
      | inl early ↦ before_window w (slot_time start step i) ((first.before i below).0 early)
      | inr late ↦ behind_window w (slot_time start step i) (at_or_behind series w.to to i last below (omega (arith, late, order)))
    ])

pub pieces_export : PiecesAreTheExport
unfolding export_text
pieces_export series w from to pieces first last are = elim (cases_lt from to) [
  | inl order ↦ ap (λ l. header ++ lines_of series.scale l) (window_asked series w from to first last (omega (arith, order))
      ∙ sym (pieces_read series from to pieces are))
  | inr order ↦ ap (λ l. header ++ lines_of series.scale l) (none_between series w from to first last order ∙ sym (none pieces are order))
]
  where
    none : (pieces : List Piece) → ArePieces series.slots from to pieces → to ≤ from → readings_in series pieces ≡ []
    none [] are order = refl
    none (piece ∷ more) are order = absurd (omega (arith, are.0, order))

all_kept : (values : List Stored) → asked None values ≡ values
all_kept [] = refl
all_kept (x ∷ xs) = ap (λ l. x ∷ l) (all_kept xs)

pub pieces_whole : PiecesAreTheWholeExport
unfolding export_text
pieces_whole series pieces are =
    ap (λ l. header ++ lines_of series.scale l) (all_kept (stored_values series) ∙ whole_stored series
    ∙ sym (pieces_read series 0 (length series.slots) pieces are))
