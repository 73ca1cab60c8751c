-- In a store with room the sets of a load are accepted, one after the other.
use Rattle.std.proofs.Common.{◌≡◌, ℕ, ℤ, pos, ◌+ℤ◌, ◌+◌, ◌*◌, ◌%◌, ◌≤◌, Bool, true, false, not, cond, ltb, ◌||◌, ◌==◌, List, [], ◌∷◌, ◌++◌}
use Rattle.std.proofs.Common.{length, map, max, replicate, Option, None, Some, Ok, Err, refl, sym, ap, subst, arith, inl, inr, ◌∙◌}
use Rattle.std.specs.Prelude.{int_lt, slice_get}
use Rattle.std.specs.List.{All, list_any}
use Rattle.std.proofs.lemmas.Bool.Decides.{nat_tests}
use Rattle.std.proofs.lemmas.Int.{ints}
use Rattle.std.proofs.lemmas.Nat.{mod-mul-add}
use Rattle.std.proofs.lemmas.List.{append_assoc, append-nil, length-append}
use Rattle.std.proofs.lemmas.List.Elements.{All-nil, All-cons, All-head, All-tail, All-same}
use Rattle.whole_number.specs.SlotTimes.{ends_in_time, EndsInTime}
use Rattle.whole_number.proofs.SlotTimes.{fewer_in_time}
use Rattle.series_book.specs.declared.limits.TheConstants.{MOST_SLOTS, MOST_VALUES}
use Rattle.series_book.specs.declared.one_series.Series.{Series}
use Rattle.series_book.specs.declared.refusals.Refusal.{Refusal}
use Rattle.series_book.specs.declared.refusals.Refusal.TheVariants.{OffGrid, BeforeStart, ValueTooLarge, RangeTooLong, SeriesFull}
use Rattle.series_book.specs.Books.{IsSeries}
use Rattle.series_book.specs.Edits.{Edited, apply, unless, set_at, place_of, is_overfull, overwritten, with_slots, is_off_grid}
use Rattle.series_book.specs.Edits.{is_too_large}
use Rattle.series_book.specs.Pages.{pages_of, series_pages}
use Rattle.series_book.proofs.BookLemmas.{pages_of-set}
use Rattle.series_book.proofs.EditLemmas.{fitted-ok, series_pages-nil}
use Rattle.series_book.proofs.LawLemmas.{NoneStands}
use Rattle.series_store.proofs.FindLemmas.{set_answer}
use Rattle.series_load.specs.Rows.{Reading, BadFirst}
use Rattle.series_load.specs.Fronts.{told}
use Rattle.series_load.specs.Runs.{Run, readings, IsRun, AllRuns, AreFirst}
use Rattle.series_load.specs.Sets.{IsNamed, Loads, set_of}
use Rattle.series_export.specs.Exports.{Stored, stored_from, slot_time, export_text, stored_values}
use Rattle.series_export.specs.RoundTrips.{IsBegunAs}
use Rattle.series_export.specs.Room.{HasNewFor, HasRoomFor, AreRunsOf, Accepts, AcceptsRunsOf, LoadsBack, GoesThrough}
use Rattle.series_export.proofs.CutLemmas.{stored_of, values_of_runs, values_of_open, cut_values, AreRuns, are_runs, runs_values}
use Rattle.series_export.proofs.CutLemmas.{all_are_runs}
use Rattle.series_export.proofs.ExportLemmas.{first_time}
use Rattle.series_export.proofs.RoomLemmas.{series_pages_more}
use Rattle.series_export.proofs.RowLemmas.{Knows, first_rows, none_bad, rows_are, some_rows}
use Rattle.series_export.proofs.SetLemmas.{some_value, mapped, far, place_is, with_run, Next, next_run, named_after, stored_more, back_of}
use Rattle.series_export.proofs.SetLemmas.{back_same, holds_named, same_text}

-- the value isn't too large
abbrev Fits : Option ℤ → Type 0
Fits value = is_too_large value ≡ false

all_first : (xs ys : List (Option ℤ)) → All Fits (xs ++ ys) → All Fits xs
all_first [] ys all = All-nil Fits
all_first (x ∷ xs) ys all = All-cons Fits x xs (All-head Fits x (xs ++ ys) all) (all_first xs ys (All-tail Fits x (xs ++ ys) all))

all_behind : (xs ys : List (Option ℤ)) → All Fits (xs ++ ys) → All Fits ys
all_behind [] ys all = all
all_behind (x ∷ xs) ys all = all_behind xs ys (All-tail Fits x (xs ++ ys) all)

-- no cause of a refusal stands
not_more : (m n : ℕ) → n ≤ m → ltb m n ≡ false
not_more m n few = grind (arith, nat_tests, few)

not_overfull : (series : Series) (most n : ℕ) → n ≤ most → most ≤ MOST_SLOTS → EndsInTime series.start series.step most
    → is_overfull series n ≡ false
not_overfull series most n few short last =
    let ends : ends_in_time series.start series.step n ≡ true = fewer_in_time series.start series.step most n few last in
    ap (λ b. ltb MOST_SLOTS n || not b) ends ∙ ap (λ b. b || false) (not_more MOST_SLOTS n (omega (arith, few, short)))

not_early : (start time : ℤ) (a b : ℕ) → time ≡ (start +ℤ pos a) +ℤ pos b → int_lt time start ≡ false
not_early start time a b is = grind (arith, ints, nat_tests, is)

no_rest : (n step : ℕ) → 1 ≤ step → (n * step) % step ≡ 0
no_rest n step some = let sum : n * step ≡ n * step + 0 = omega arith in ap (λ k. k % step) sum ∙ mod-mul-add n step 0 (omega (arith, some))

on_grid : (series : Series) (step : ℕ) (time : ℤ) (slots missing : ℕ) → 1 ≤ step → series.step ≡ step
    → time ≡ slot_time series.start step slots +ℤ pos (missing * step) → is_off_grid series time ≡ false
on_grid series step time slots missing some same is =
    let all : (slots + missing) * step ≡ slots * step + missing * step = omega arith in
    ap (λ n. not (n % series.step == 0)) (far series.start time (slots * step) (missing * step) ((slots + missing) * step) is all)
    ∙ ap (λ n. not (((slots + missing) * step) % n == 0)) same
    ∙ ap (λ n. not (n == 0)) (no_rest (slots + missing) step some)

none_large : (values : List (Option ℤ)) → All Fits values → list_any is_too_large values ≡ false
none_large [] fit = refl
none_large (v ∷ values) fit = ap (λ b. b || list_any is_too_large values) (All-head Fits v values fit)
    ∙ none_large values (All-tail Fits v values fit)

unless_none : (causes : List (Bool × Refusal)) (slots : List (Option ℤ)) → NoneStands causes → unless causes slots ≡ Ok slots
unless_none [] slots none = refl
unless_none (cause ∷ causes) slots none = ap (λ b. cond b (Err cause.1) (unless causes slots)) none.0 ∙ unless_none causes slots none.1

set_there : (step : ℕ) (begun : Series) (run : Run) (later : List Stored) (rest : List (Option ℤ)) → 1 ≤ step → begun.step ≡ step
    → IsRun step run → (next : Next step begun run later rest) → All Fits rest → length begun.slots + length rest ≤ MOST_SLOTS
    → EndsInTime begun.start begun.step (length begun.slots + length rest)
    → set_at begun run.first.time (map some_value (readings run)) ≡ Ok (with_run begun next.missing run)
unfolding set_at
set_there step begun run later rest some same is next fit short last =
    let values : List (Option ℤ) = map some_value (readings run) in
    let time = run.first.time in
    let place = place_is begun step time (length begun.slots) next.missing some same next.at in
    let size : length values ≡ length (readings run) = mapped (readings run) in
    let all = all_behind (replicate next.missing None) (values ++ next.behind)
    (All-same Fits (replicate next.missing None ++ (values ++ next.behind)) rest (sym next.rest_are) fit) in
    let end : length begun.slots + (next.missing + length (readings run)) ≤ length begun.slots + length rest =
    omega (
      arith,
      next.long,
      ap length next.slots_are,
      length-append begun.slots rest,
      length-append (with_run begun next.missing run) next.behind,
    ) in
    unless_none
    ((is_off_grid begun time, OffGrid)
    ∷ (int_lt time begun.start, BeforeStart)
    ∷ (list_any is_too_large values, ValueTooLarge)
    ∷ (ltb MOST_VALUES (length values), RangeTooLong)
    ∷ (is_overfull begun (max (length begun.slots) (place_of begun time + length values)), SeriesFull)
    ∷ [])
    (overwritten begun.slots (place_of begun time) values) (
      on_grid begun step time (length begun.slots) next.missing some same next.at,
      (
        not_early begun.start time (length begun.slots * step) (next.missing * step) next.at,
        (
          none_large values (all_first values next.behind all),
          (
            not_more MOST_VALUES (length values) (omega (arith, size, is.few)),
            (
              not_overfull begun (length begun.slots + length rest) (max (length begun.slots) (place_of begun time + length values))
                  (omega (arith, size, place, end)) short last,
              tt,
            ),
          ),
        ),
      ),
    )
    ∙ ap Ok next.written

sets_accepted : (step total : ℕ) (name : List ℕ) → 1 ≤ step
    → (runs : List Run) (old : List Series) (begun : Series) (rest : List (Option ℤ)) (later : List Stored) → begun.step ≡ step
    → IsNamed old name begun → AreRuns step runs
    → values_of_runs runs ++ later ≡ stored_from step (slot_time begun.start step (length begun.slots)) rest → All Fits rest
    → length begun.slots + length rest ≤ MOST_SLOTS
    → EndsInTime begun.start begun.step (length begun.slots + length rest)
    → pages_of old + series_pages (begun.slots ++ rest) ≤ total + series_pages begun.slots → Accepts total name old runs
sets_accepted step total name some [] old begun rest later same named are is fit short last room = record { new = old; loads = refl }
sets_accepted step total name some (run ∷ runs) old begun rest later same named are is fit short last room =
    let values : List (Option ℤ) = map some_value (readings run) in
    let next = next_run step some begun run (values_of_runs runs ++ later) rest same are.0
    (sym (append_assoc (map stored_of (readings run)) (values_of_runs runs) later) ∙ is) in
    let slots : List (Option ℤ) = with_run begun next.missing run in
    let book : List Series = with_slots old named.id begun slots in
    let edited : Edited = record { book = book; slots = length slots } in
    let size : length begun.slots + length rest ≡ length slots + length next.behind =
    omega (arith, ap length next.slots_are, length-append begun.slots rest, length-append slots next.behind) in
    let more = series_pages_more slots next.behind (omega (arith, size, short, length-append slots next.behind)) in
    let all : series_pages (begun.slots ++ rest) ≡ series_pages (slots ++ next.behind) = ap series_pages next.slots_are in
    let pages : pages_of book + series_pages begun.slots ≡ pages_of old + series_pages slots = pages_of-set old named.id begun
    (record begun { slots = slots }) named.there in
    let room_left : pages_of book + series_pages (slots ++ next.behind) ≤ total + series_pages slots = omega (arith, all, pages, room) in
    let fits : pages_of book ≤ total = omega (arith, more, room_left) in
    let accepted : apply old total (set_of name run) ≡ Ok edited =
    set_answer old total name run.first.time values named.id begun (Ok slots) named.id_is named.there
    (set_there step begun run (values_of_runs runs ++ later) rest some same are.0 next fit short last)
    ∙ fitted-ok total book (length slots) fits in
    let left = all_behind values next.behind (all_behind (replicate next.missing None) (values ++ next.behind)
    (All-same Fits (replicate next.missing None ++ (values ++ next.behind)) rest (sym next.rest_are) fit)) in
    let on = sets_accepted step total name some runs book (record begun { slots = slots }) next.behind later same
    (named_after name old book begun slots named refl) are.1 next.left left (omega (arith, size, short))
    (subst (EndsInTime begun.start begun.step) size last) room_left in
    record { new = on.new; loads = (edited, accepted, on.loads) }

ends_alike : (start start' : ℤ) (step step' slots : ℕ) → start ≡ start' → step ≡ step' → EndsInTime start step slots
    → EndsInTime start' step' slots
ends_alike start start' step step' slots same same' ends =
    subst (λ (z : ℤ). EndsInTime z step' slots) same (subst (λ (n : ℕ). EndsInTime start n slots) same' ends)

-- so are those of any first runs of a series' stored values
first_accepted : (total : ℕ) (name : List ℕ) (book : List Series) (series : Series) (runs : List Run) (later : List Stored)
    → IsSeries series → HasRoomFor total name book series → AreRuns series.step runs
    → values_of_runs runs ++ later ≡ stored_values series → Accepts total name book runs
first_accepted total name book series runs later is has are values =
    let step = series.step in
    let slots = has.after.slots in
    let begun = has.new.begun in
    let none : slot_time begun.start step (length begun.slots) ≡ series.start = ap (λ l. slot_time begun.start step (length l))
    has.new.alike.none ∙ first_time begun.start step ∙ has.new.alike.start in
    let few : length begun.slots + length slots ≤ length series.slots =
    omega (arith, ap length has.new.alike.none, ap length has.same.slots, length-append slots (replicate has.same.missing None)) in
    sets_accepted step total name is.step_above_zero runs book begun slots later has.new.alike.step has.new.named are
    (values ∙ ap (λ l. stored_from step series.start l) has.same.slots ∙ stored_more step has.same.missing slots series.start
    ∙ ap (λ t. stored_from step t slots) (sym none))
    (all_first slots (replicate has.same.missing None)
    (All-same Fits (slots ++ replicate has.same.missing None) series.slots (sym has.same.slots) is.values_in_range))
    (omega (arith, few, is.slots_in_range))
    (ends_alike series.start begun.start series.step begun.step _ (sym has.new.alike.start) (sym has.new.alike.step)
    (fewer_in_time series.start series.step (length series.slots) (length begun.slots + length slots) few is.last_in_range))
    (omega (arith, ap (λ l. series_pages (l ++ slots)) has.new.alike.none, has.room))

pub accepted : (total : ℕ) (name : List ℕ) (book : List Series) (series : Series) → IsSeries series → HasRoomFor total name book series
    → AcceptsRunsOf total name book series
accepted total name book series is has runs are =
    first_accepted total name book series runs [] is has (all_are_runs series.step are.rows runs are.all) (append-nil (values_of_runs runs)
    ∙ runs_values series.step are.rows runs are.all ∙ are.values)

-- so they need that room
pub room_needed : (total : ℕ) (name : List ℕ) (book : List Series) (series : Series) (runs : List Run) → IsSeries series
    → HasNewFor name book series → pages_of book ≤ total → AreRunsOf series runs → Accepts total name book runs
    → HasRoomFor total name book series
room_needed total name book series runs is new fits are sets =
    let back = back_of series new.begun are.rows runs total name book sets.new is.step_above_zero new.alike new.named are.values are.all
    sets.loads in
    record {
      new = new;
      after = back.after;
      same = back_same series new.begun total name book sets.new new.alike back;
      room = omega (arith, back.pages, back.fits fits, series_pages-nil new.begun.slots new.alike.none);
    }

-- a load of the export
pub loads_back : Knows → ((step : ℕ) (rows : List (Option Reading)) → (runs : List Run) × AllRuns step rows runs)
    → (total : ℕ) (name : List ℕ) (book : List Series) (series : Series) → IsSeries series → HasRoomFor total name book series
    → LoadsBack total name book series
loads_back knows cut total name book series is has =
    let rows = some_rows knows series is in
    let runs = cut series.step rows.0 in
    let values = rows_are knows series rows.0 is rows.1 in
    let sets = accepted total name book series is has runs.0 (record { rows = rows.0; values = values; all = runs.1 }) in
    let holds = holds_named series has.new.begun rows.0 runs.0 total name book sets.new is.step_above_zero has.new.alike has.new.named
    values runs.1 sets.loads in
    record {
      rows = rows.0;
      reads = rows.1;
      runs = runs.0;
      all = runs.1;
      new = sets.new;
      loads = sets.loads;
      holds = holds;
      text = same_text series holds.after None holds.same;
    }

-- the first runs of an export read the first stored values
record FirstRuns (series : Series) (runs : List Run) : Type 0 where
  later : List Stored
  are : AreRuns series.step runs
  values : values_of_runs runs ++ later ≡ stored_values series

first_runs : Knows → (series : Series) (runs : List Run) → IsSeries series
    → AreFirst series.scale series.step (export_text series None) runs → FirstRuns series runs
first_runs knows series runs is first =
    let read = first_rows knows series first.front first.rest first.rows is first.reads in
    elim first.ended [
      | inl ended ↦ record {
        later = values_of_open ended.0 ++ read.later;
        are = are_runs series.step first.rows runs ended.0 ended.1;
        values = sym (append_assoc (values_of_runs runs) (values_of_open ended.0) read.later)
            ∙ ap (λ l. l ++ read.later) (sym (cut_values series.step first.rows runs ended.0 ended.1)) ∙ sym read.values_are;
      }
      | inr all ↦ record {
        later = read.later;
        are = all_are_runs series.step first.rows runs all.1;
        values = ap (λ l. l ++ read.later) (runs_values series.step first.rows runs all.1) ∙ sym read.values_are;
      }
    ]

-- behind sets that are done the next is accepted
last_accepted : (total : ℕ) (name : List ℕ) (runs : List Run) (run : Run) (book mid new : List Series) → Loads total name book runs mid
    → Loads total name book (runs ++ run ∷ []) new → (edited : Edited) × (apply mid total (set_of name run) ≡ Ok edited)
last_accepted total name [] run book mid new first second =
    let P : List Series → Type 0 = λ b. apply b total (set_of name run) ≡ Ok second.0 in
    (second.0, subst P (sym first) second.1)
last_accepted total name (r ∷ runs) run book mid new first second =
    let both : Ok first.0 ≡ Ok second.0 = sym first.1 ∙ second.1 in
    let same : second.0 ≡ first.0 = sym (cc) in
    let P : Edited → Type 0 = λ e. Loads total name e.book (runs ++ run ∷ []) new in
    last_accepted total name runs run first.0.book mid new first.2 (subst P same second.2)

-- one series has a name
named_once : (book : List Series) (name : List ℕ) (one other : Series) → IsNamed book name one → IsNamed book name other → one ≡ other
named_once book name one other first second =
    let ids : Some first.id ≡ Some second.id = sym first.id_is ∙ second.id_is in
    let id : first.id ≡ second.id = cc in
    let both : Some one ≡ Some other = sym first.there ∙ ap (λ n. slice_get book n) id ∙ second.there in
    cc

pub goes_through : Knows → (total : ℕ) (name : List ℕ) (book : List Series) (series begun : Series) → IsSeries series
    → HasRoomFor total name book series → IsNamed book name begun → GoesThrough total name book begun (export_text series None)
goes_through knows total name book series begun is has named =
    let A : Series → Type 0 = λ s. IsBegunAs series s in
    let alike : IsBegunAs series begun = subst A (named_once book name has.new.begun begun has.new.named named) has.new.alike in
    record {
      good = λ at image bad.
          let line = bad.line in
          let P : ℕ → Type 0 = λ n. BadFirst n (told line.front) line.rest in
          none_bad knows series line.front line.rest is line.reads.begins (subst P alike.scale line.bad);
      accepted = λ at refusal image refused.
          let all = refused.runs ++ refused.run ∷ [] in
          let P : ℕ → Type 0 = λ n. AreFirst n begun.step (export_text series None) all in
          let Q : ℕ → Type 0 = λ n. AreFirst series.scale n (export_text series None) all in
          let first = first_runs knows series all is (subst Q alike.step (subst P alike.scale refused.first)) in
          let sets = first_accepted total name book series all first.later is has first.are first.values in
          let last = last_accepted total name refused.runs refused.run book refused.new sets.new refused.loads sets.loads in
          let never : Ok last.0 ≡ Err refusal = sym last.1 ∙ refused.refused in
          cc;
    }
