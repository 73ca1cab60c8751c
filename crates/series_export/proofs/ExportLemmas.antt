-- The lines of a series' values, slot by slot and as a list.
use Rattle.std.proofs.Common.{◌≡◌, ℕ, ℤ, pos, ◌+ℤ◌, ◌≤ℤ◌, ◌<ℤ◌, w64, unsigned_abs, ◌^◌, ◌&&◌, zero, suc, ◌+◌, ◌*◌, ◌-◌, ◌<◌, ◌≤◌, Bool}
use Rattle.std.proofs.Common.{true, false, cond, List, [], ◌∷◌, ◌++◌, length, Option, None, Some, take, refl, sym, ap, subst, arith, inl}
use Rattle.std.proofs.Common.{inr, ◌∙◌}
use Rattle.std.proofs.Common.{take_all, length-take-le}
use Rattle.std.proofs.lemmas.Bool.{cases_lt}
use Rattle.std.proofs.lemmas.List.{append_assoc, append-nil}
use mir.Val.{to_z, of_z}
use Rattle.std.specs.Prelude.{int_le, int_lt, Result, Ok, Err, IfErr}
use Rattle.block_disk.specs.Streams.{sent_after}
use Rattle.block_disk.specs.View.{Image}
use Rattle.std.proofs.lemmas.Bool.Decides.{nat_tests}
use Rattle.std.proofs.lemmas.Int.{ints, to_z-of_z, fits_signed_from_abs}
use Rattle.std.proofs.Math.Nat.{mul-le-mul_right}
use Rattle.whole_number.specs.declared.limits.TheConstants.{GREATEST_TIME}
use Rattle.whole_number.specs.Range.{IsValue}
use Rattle.whole_number.specs.SlotTimes.{EndsInTime}
use Rattle.whole_number.proofs.SlotTimes.{in_time}
use Rattle.path_repair.specs.Changes.{slot_at}
use Rattle.path_repair.specs.Sums.{join_below}
use Rattle.path_repair.proofs.SumLemmas.{join_same}
use Rattle.reading_lines.specs.Lines.{reading_line}
use Rattle.series_book.specs.declared.limits.TheConstants.{MOST_SLOTS}
use Rattle.series_book.specs.declared.one_series.Series.{Series}
use Rattle.series_book.specs.Pages.{series_pages}
use Rattle.series_store.specs.Sending.{CutsSeries, said_of, said, texts_of}
use Rattle.series_store.specs.declared.send_errors.SendError.{SendError}
use Rattle.series_store.specs.declared.send_errors.SendError.TheVariants.{SendFault, DiskFault, Damaged, NoMemory}
use Rattle.series_store.proofs.SeriesSendLemmas.{all_said, said_few}
use Rattle.series_export.specs.Cuts.{CutsExport}
use Rattle.series_export.specs.Exports.{Stored, stored_from, is_within, may_meet, asked, lines_of, header, export_text, slot_time, line_at}
use Rattle.series_export.specs.Exports.{may_be_in, window_pages, first_slots}
use Rattle.series_export.specs.declared.window.Window.{Window}

join_suc : (f : ℕ → List ℕ) (n : ℕ) → join_below f (suc n) ≡ join_below f n ++ f n
unfolding join_below
join_suc f n = refl

join_none : (f : ℕ → List ℕ) → join_below f 0 ≡ []
unfolding join_below
join_none f = refl

join_front : (f : ℕ → List ℕ) (n : ℕ) → join_below f (suc n) ≡ f 0 ++ join_below (λ i. f (suc i)) n
join_front f zero = join_suc f 0 ∙ ap (λ l. l ++ f 0) (join_none f) ∙ sym (append-nil (f 0))
    ∙ ap (λ l. f 0 ++ l) (sym (join_none (λ i. f (suc i))))
join_front f (suc n) =
    join_suc f (suc n)
    ∙ ap (λ l. l ++ f (suc n)) (join_front f n)
    ∙ append_assoc (f 0) (join_below (λ i. f (suc i)) n) (f (suc n))
    ∙ ap (λ l. f 0 ++ l) (sym (join_suc (λ i. f (suc i)) n))

at_first : (x : Option ℤ) (xs : List (Option ℤ)) → slot_at (x ∷ xs) 0 ≡ x
unfolding slot_at
at_first None xs = refl
at_first (Some v) xs = refl

at_next : (x : Option ℤ) (xs : List (Option ℤ)) (i : ℕ) → slot_at (x ∷ xs) (suc i) ≡ slot_at xs i
unfolding slot_at
at_next x xs i = refl

-- the first slot's time is the start, and the others' are those behind it
pub first_time : (start : ℤ) (step : ℕ) → slot_time start step 0 ≡ start
first_time start step = grind (arith, ints)

next_slots : (step i : ℕ) → suc i * step ≡ step + i * step
next_slots step i = omega arith

pub moved : (start : ℤ) (a b c : ℕ) → c ≡ a + b → start +ℤ pos c ≡ (start +ℤ pos a) +ℤ pos b
moved start a b c is = grind (arith, ints, is)

next_time : (start : ℤ) (step i : ℕ) → slot_time start step (suc i) ≡ slot_time (start +ℤ pos step) step i
next_time start step i = moved start step (i * step) (suc i * step) (next_slots step i)

abbrev line_if : Option Window → ℕ → ℤ → ℤ → List ℕ
line_if window scale time value = cond (is_within window time) (reading_line scale time value) []

next_said : (start : ℤ) (step scale i : ℕ) (window : Option Window) (x : Option ℤ)
    → said_of (line_at start step scale window) (suc i) x ≡ said_of (line_at (start +ℤ pos step) step scale window) i x
next_said start step scale i window None = refl
next_said start step scale i window (Some v) = ap (λ t. line_if window scale t v) (next_time start step i)

one_asked : (window : Option Window) (scale : ℕ) (one : Stored) (values : List Stored)
    → line_if window scale one.time one.value ++ lines_of scale (asked window values) ≡ lines_of scale (asked window (one ∷ values))
one_asked window scale one values = by (is_within window one.time)
  where
    by : (b : Bool) → cond b (reading_line scale one.time one.value) [] ++ lines_of scale (asked window values) ≡ lines_of scale
        (cond b (one ∷ asked window values) (asked window values))
    by true = refl
    by false = refl

-- what is said of the slots are the lines of their values
pub all_lines : (window : Option Window) (scale step : ℕ) (slots : List (Option ℤ)) (start : ℤ)
    → texts_of (line_at start step scale window) slots ≡ lines_of scale (asked window (stored_from step start slots))
unfolding stored_from
all_lines window scale step [] start = join_none (said (line_at start step scale window) [])
all_lines window scale step (x ∷ xs) start =
    join_front (said (line_at start step scale window) (x ∷ xs)) (length xs)
    ∙ ap (λ l. said_of (line_at start step scale window) 0 (slot_at (x ∷ xs) 0) ++ l) (rest
    ∙ all_lines window scale step xs (start +ℤ pos step))
    ∙ ap (λ o. said_of (line_at start step scale window) 0 o ++ lines_of scale (asked window (stored_from step (start +ℤ pos step) xs)))
    (at_first x xs)
    ∙ front x
  where
    rest : join_below (λ i. said (line_at start step scale window) (x ∷ xs) (suc i)) (length xs) ≡ texts_of
        (line_at (start +ℤ pos step) step scale window) xs
    rest = join_same (λ i. said (line_at start step scale window) (x ∷ xs) (suc i))
        (said (line_at (start +ℤ pos step) step scale window) xs) (length xs)
        (λ i low. ap (λ o. said_of (line_at start step scale window) (suc i) o) (at_next x xs i)
        ∙ next_said start step scale i window (slot_at xs i))

    front : (o : Option ℤ) → said_of (line_at start step scale window) 0 o ++ lines_of scale
        (asked window (stored_from step (start +ℤ pos step) xs)) ≡ lines_of scale (asked window (stored_from step start (o ∷ xs)))
    front None = refl
    front (Some v) = ap (λ t. line_if window scale t v ++ lines_of scale (asked window (stored_from step (start +ℤ pos step) xs)))
        (first_time start step)
        ∙ one_asked window scale (record { time = start; value = v }) (stored_from step (start +ℤ pos step) xs)

-- what is said of the first slots of a list is what is said of a list of them
at_take : (xs : List (Option ℤ)) (n i : ℕ) → i < n → slot_at (take n xs) i ≡ slot_at xs i
at_take xs zero i low = absurd (omega (arith, low))
at_take [] (suc n) i low = refl
at_take (x ∷ xs) (suc n) zero low = at_first x (take n xs) ∙ sym (at_first x xs)
at_take (x ∷ xs) (suc n) (suc i) low = at_next x (take n xs) i ∙ at_take xs n i (omega (arith, low)) ∙ sym (at_next x xs i)

said_first : (text : ℕ → ℤ → List ℕ) (xs : List (Option ℤ)) (n : ℕ) → join_below (said text xs) n ≡ texts_of text (take n xs)
said_first text xs n = elim (cases_lt (length xs) n) [
  | inl past ↦ all_said text xs n (omega (arith, past)) ∙ ap (λ l. texts_of text l) (sym (take_all n xs (omega (arith, past))))
  | inr within ↦
      join_same (said text xs) (said text (take n xs)) n (λ i low. ap (λ o. said_of text i o) (sym (at_take xs n i low)))
      ∙ ap (λ m. join_below (said text (take n xs)) m) (sym (length-take-le n xs within))
]

-- behind the header they are the text of the series
pub text_is : (series : Series) (window : Option Window) (start : ℤ) (step scale : ℕ) → start ≡ series.start → step ≡ series.step
    → scale ≡ series.scale → header ++ texts_of (line_at start step scale window) series.slots ≡ export_text series window
unfolding export_text
text_is series window start step scale same_start same_step same_scale =
    let P : ℤ → Type 0 = λ z. header ++ texts_of (line_at z step scale window) series.slots ≡ export_text series window in
    let Q : ℕ → Type 0 = λ n. header ++ texts_of (line_at series.start n scale window) series.slots ≡ export_text series window in
    let R : ℕ → Type 0 = λ n. header ++ texts_of (line_at series.start series.step n window) series.slots ≡ export_text series window in
    subst P (sym same_start) (subst Q (sym same_step)
    (subst R (sym same_scale) (ap (λ l. header ++ l) (all_lines window series.scale series.step series.slots series.start))))

-- so of the first slots of it
pub first_text : (series : Series) (window : Option Window) (n : ℕ) (start : ℤ) (step scale : ℕ) → start ≡ series.start → step ≡ series.step
    → scale ≡ series.scale
    → header ++ join_below (said (line_at start step scale window) series.slots) n ≡ export_text (first_slots series n) window
first_text series window n start step scale same_start same_step same_scale =
    ap (λ l. header ++ l) (said_first (line_at start step scale window) series.slots n)
    ∙ text_is (first_slots series n) window start step scale same_start same_step same_scale

-- the times of slots rise
later_time : (start : ℤ) (a b : ℕ) → a ≤ b → (start +ℤ pos a) ≤ℤ (start +ℤ pos b)
later_time start a b less = grind (arith, ints, less)

slots_rise : (start : ℤ) (step one two : ℕ) → one ≤ two → slot_time start step one ≤ℤ slot_time start step two
slots_rise start step one two less = later_time start (one * step) (two * step) (mul-le-mul_right step less)

le_true : (a b : ℤ) → a ≤ℤ b → int_le a b ≡ true
le_true a b h = grind (arith, ints, nat_tests, h)

lt_true : (a b : ℤ) → a <ℤ b → int_lt a b ≡ true
lt_true a b h = grind (arith, ints, nat_tests, h)

true_le : (a b : ℤ) → int_le a b ≡ true → a ≤ℤ b
true_le a b h = grind (arith, ints, nat_tests, h)

true_lt : (a b : ℤ) → int_lt a b ≡ true → a <ℤ b
true_lt a b h = grind (arith, ints, nat_tests, h)

both_true : (a b : Bool) → (a && b) ≡ true → (a ≡ true) × (b ≡ true)
both_true true true is = (refl, refl)
both_true true false is = absurd (cc)
both_true false true is = absurd (cc)
both_true false false is = absurd (cc)

within_both : (window : Window) (time : ℤ) → is_within (Some window) time ≡ true → (window.from ≤ℤ time) × (time <ℤ window.to)
within_both window time is =
    let both = both_true (int_le window.from time) (int_lt time window.to) is in
    (true_le window.from time both.0, true_lt time window.to both.1)

through : (a b c : ℤ) → a ≤ℤ b → b ≤ℤ c → a ≤ℤ c
through a b c one two = grind (arith, ints, one, two)

before : (a b c : ℤ) → a ≤ℤ b → b <ℤ c → a <ℤ c
before a b c one two = grind (arith, ints, one, two)

meets : (window : Window) (first time last : ℤ) → first ≤ℤ time → time ≤ℤ last → is_within (Some window) time ≡ true
    → may_meet (Some window) first last ≡ true
meets window first time last low high is =
    let both = within_both window time is in
    let one : int_lt first window.to ≡ true = lt_true first window.to (before first time window.to low both.1) in
    let two : int_le window.from last ≡ true = le_true window.from last (through window.from time last both.0 high) in
    ap (λ b. b && int_le window.from last) one ∙ two

silent_time : (window : Option Window) (first time last : ℤ) → may_meet window first last ≡ false → first ≤ℤ time → time ≤ℤ last
    → is_within window time ≡ false
silent_time None first time last none low high = absurd (cc)
silent_time (Some window) first time last none low high = by (is_within (Some window) time) refl
  where
    by : (b : Bool) → is_within (Some window) time ≡ b → b ≡ false
    by true is = let never : true ≡ false = sym (meets window first time last low high is) ∙ none in absurd (cc)
    by false is = refl

-- where no time of the slots is in the window nothing is said of them
pub no_line : (start : ℤ) (step scale first end : ℕ) (window : Option Window)
    → may_meet window (slot_time start step first) (slot_time start step (end - 1)) ≡ false → (slot : ℕ) (value : ℤ) → first ≤ slot
    → slot < end → line_at start step scale window slot value ≡ []
no_line start step scale first end window none slot value low high =
    ap (λ b. cond b (reading_line scale (slot_time start step slot) value) [])
    (silent_time window (slot_time start step first) (slot_time start step slot) (slot_time start step (end - 1)) none
    (slots_rise start step first slot low) (slots_rise start step slot (end - 1) (omega (arith, high))))

-- the time of a slot is a number of 64 bits
size_of : (start : ℤ) (n : ℕ) → IsValue start → (start +ℤ pos n) ≤ℤ pos GREATEST_TIME → unsigned_abs (start +ℤ pos n) < 2 ^ 63
size_of start n few early = grind (arith, ints, few, early)

pub time_same : (start : ℤ) (step slots slot : ℕ) → IsValue start → EndsInTime start step slots → slot < slots
    → to_z w64 (of_z w64 (slot_time start step slot)) ≡ slot_time start step slot
time_same start step slots slot few last within =
    to_z-of_z w64 (slot_time start step slot) (fits_signed_from_abs w64 (slot_time start step slot)
    (size_of start (slot * step) few (in_time start step slots slot last within)))

pub may_meet_so : (window : Option Window) (first last first' last' : ℤ) → first ≡ first' → last ≡ last'
    → may_meet window first last ≡ false → may_meet window first' last' ≡ false
may_meet_so window first last first' last' one two is =
    let P : ℤ → Type 0 = λ t. may_meet window t last' ≡ false in
    let Q : ℤ → Type 0 = λ t. may_meet window first t ≡ false in
    subst P one (subst Q two is)

-- the pages of a window are no more than those of the tree
pub window_few : (series : Series) (window : Option Window) → length series.slots ≤ MOST_SLOTS
    → window_pages series window ≤ series_pages series.slots
window_few series window few = said_few (may_be_in series.start series.step window) series.slots few

-- what was sent of a series before a damaged page is its export of the slots before that
export_cut : (e : SendError) (image : Image) (total id : ℕ) (series : Series) (window : Option Window) (start : ℤ) (step scale : ℕ)
    (front : List ℕ) (before now : Option (List ℕ)) → front ≡ header → start ≡ series.start → step ≡ series.step → scale ≡ series.scale
    → CutsSeries e image total id (line_at start step scale window) series.slots front before now
    → CutsExport e image total id series window before now
export_cut SendFault image total id series window start step scale front before now is same_start same_step same_scale cut = tt
export_cut DiskFault image total id series window start step scale front before now is same_start same_step same_scale cut = tt
export_cut (Damaged page) image total id series window start step scale front before now is same_start same_step same_scale cut = record {
  slot = cut.slot;
  from = cut.from;
  sent = cut.sent ∙ ap (λ l. sent_after l before) (ap (λ l. l ++ join_below (said (line_at start step scale window) series.slots) cut.slot)
      is ∙ first_text series window cut.slot start step scale same_start same_step same_scale);
}
export_cut NoMemory image total id series window start step scale front before now is same_start same_step same_scale cut = tt

pub export_cut_by : (r : Result (Unit {0}) SendError) (image : Image) (total id : ℕ) (series : Series) (window : Option Window) (start : ℤ)
    (step scale : ℕ) (front : List ℕ) (before now : Option (List ℕ)) → front ≡ header → start ≡ series.start → step ≡ series.step
    → scale ≡ series.scale
    → IfErr r (λ e. CutsSeries e image total id (line_at start step scale window) series.slots front before now)
    → IfErr r (λ e. CutsExport e image total id series window before now)
export_cut_by (Ok done) image total id series window start step scale front before now is same_start same_step same_scale cut = tt
export_cut_by (Err e) image total id series window start step scale front before now is same_start same_step same_scale cut = export_cut e
    image total id series window start step scale front before now is same_start same_step same_scale cut
