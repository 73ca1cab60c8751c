-- The sets of the runs of a list's values make the list again.
use Rattle.std.proofs.Common.{◌≡◌, ℕ, ℤ, pos, ◌+ℤ◌, ◌-ℤ◌, ◌≤ℤ◌, zero, suc, ◌+◌, ◌*◌, ◌-◌, ◌/◌, ◌<◌, ◌≤◌, Bool, true, false, cond, ltb}
use Rattle.std.proofs.Common.{unsigned_abs, List, [], ◌∷◌, ◌++◌, map, length, take, drop, replicate, set, Option, None, Some, Result, Ok}
use Rattle.std.proofs.Common.{Err, refl, sym, ap, subst, arith, ◌∙◌}
use Rattle.std.specs.List.{position_or_len, slice_get}
use Rattle.std.specs.Str.{bytes_eq}
use Rattle.std.proofs.lemmas.Bool.Decides.{nat_tests}
use Rattle.std.proofs.lemmas.Int.{ints}
use Rattle.std.proofs.lemmas.List.{append_assoc, append-nil, length-append, length-replicate, length-set, take_all, drop_all}
use Rattle.std.proofs.lemmas.List.Folds.{position_or_len-set}
use Rattle.std.proofs.Math.Nat.{mul-div_cancel}
use Rattle.std.proofs.lemmas.Option.{get_or_from_slice_get}
use Rattle.series_book.specs.declared.one_series.Series.{Series}
use Rattle.std.specs.Prelude.{max, nat_lt, int_lt}
use Rattle.std.specs.List.{list_any}
use Rattle.series_book.specs.declared.limits.TheConstants.{MOST_VALUES}
use Rattle.series_book.specs.declared.refusals.Refusal.{Refusal}
use Rattle.series_book.specs.declared.refusals.Refusal.TheVariants.{OffGrid, BeforeStart, ValueTooLarge, RangeTooLong, SeriesFull, Full}
use Rattle.series_book.specs.Edits.{Edited, id_of, unless, set_at, overwritten, place_of, is_overfull, with_slots, fitted, within}
use Rattle.series_book.specs.Edits.{is_off_grid, is_too_large}
use Rattle.series_book.specs.Pages.{pages_of, series_pages}
use Rattle.series_book.proofs.BookLemmas.{pages_of-set}
use Rattle.series_book.proofs.EditLemmas.{slice_get-set}
use Rattle.series_store.proofs.FindLemmas.{set_answer}
use Rattle.series_load.specs.Rows.{Reading}
use Rattle.series_load.specs.Runs.{Run, readings, AreSteady, IsRun, AllRuns}
use Rattle.series_load.specs.Sets.{IsNamed, Loads}
use Rattle.series_export.specs.Exports.{Stored, stored_from, slot_time, export_text, stored_values, asked, lines_of, header}
use Rattle.series_export.specs.RoundTrips.{IsBegunAs, HoldsSame, HoldsNamed, values_of}
use Rattle.series_export.specs.declared.window.Window.{Window}
use Rattle.series_export.proofs.CutLemmas.{stored_of, values_of_runs, AreRuns, runs_values, all_are_runs}
use Rattle.series_export.proofs.ExportLemmas.{moved, first_time}

abbrev pub some_value : Reading → Option ℤ
some_value reading = Some reading.value

-- no value of slots is before the first slot
late : (a b : ℤ) (step : ℕ) → (a +ℤ pos step) ≤ℤ b → a ≤ℤ b
late a b step less = grind (arith, ints, less)

same_late : (a b : ℤ) → a ≡ b → a ≤ℤ b
same_late a b is = grind (arith, ints, is)

stored_late : (step : ℕ) (slots : List (Option ℤ)) (time : ℤ) (one : Stored) (more : List Stored) → one ∷ more ≡ stored_from step time slots
    → time ≤ℤ one.time
unfolding stored_from
stored_late step [] time one more is = absurd (cc)
stored_late step (None ∷ slots) time one more is = late time one.time step (stored_late step slots (time +ℤ pos step) one more is)
stored_late step (Some v ∷ slots) time one more is =
    let same : one ≡ record { time = time; value = v } = cc in
    same_late time one.time (sym (ap (λ (x : Stored). x.time) same))

not_late : (a b : ℤ) (step : ℕ) → 1 ≤ step → (a +ℤ pos step) ≤ℤ b → b ≡ a → ⊥
not_late a b step some late is = grind (arith, ints, some, late, is)

stays_at : (time : ℤ) (step : ℕ) → time +ℤ pos (0 * step) ≡ time
stays_at time step = grind (arith, ints)

pub mapped : (rs : List Reading) → length (map some_value rs) ≡ length rs
mapped [] = refl
mapped (r ∷ rs) = ap suc (mapped rs)

-- readings that follow each other stand in slots one after the other
record Behind (step : ℕ) (others : List Reading) (time : ℤ) (later : List Stored) (slots : List (Option ℤ)) : Type 0 where
  behind : List (Option ℤ)
  slots_are : slots ≡ map some_value others ++ behind
  left : later ≡ stored_from step (time +ℤ pos (length others * step)) behind

follows_at : (a b c : ℤ) (step : ℕ) → a +ℤ pos step ≡ c → b -ℤ a ≡ pos step → b ≡ c
follows_at a b c step next follows = grind (arith, ints, next, follows)

next_end : (n step : ℕ) → suc n * step ≡ step + n * step
next_end n step = omega arith

first_end : (n step : ℕ) → (0 + suc n) * step ≡ step + n * step
first_end n step = omega arith

steady_slots : (step : ℕ) → 1 ≤ step → (others : List Reading) (first : Reading) (slots : List (Option ℤ)) (time : ℤ) (later : List Stored)
    → AreSteady step first others → first.time +ℤ pos step ≡ time → map stored_of others ++ later ≡ stored_from step time slots
    → Behind step others time later slots
unfolding stored_from
steady_slots step some [] first slots time later steady next is = record {
  behind = slots;
  slots_are = refl;
  left = is ∙ ap (λ t. stored_from step t slots) (sym (stays_at time step));
}
steady_slots step some (reading ∷ others) first [] time later steady next is = absurd (cc)
steady_slots step some (reading ∷ others) first (None ∷ slots) time later steady next is =
    let low = stored_late step slots (time +ℤ pos step) (stored_of reading) (map stored_of others ++ later) is in
    absurd (not_late time reading.time step some low (follows_at first.time reading.time time step next steady.0))
steady_slots step some (reading ∷ others) first (Some v ∷ slots) time later steady next is =
    let same : stored_of reading ≡ record { time = time; value = v } = cc in
    let rest : map stored_of others ++ later ≡ stored_from step (time +ℤ pos step) slots = cc in
    let at : reading.time ≡ time = ap (λ (x : Stored). x.time) same in
    let on = steady_slots step some others reading slots (time +ℤ pos step) later steady.1 (ap (λ t. t +ℤ pos step) at) rest in
    record {
      behind = on.behind;
      slots_are = ap (λ l. Some v ∷ l) on.slots_are
          ∙ ap (λ w. Some w ∷ (map some_value others ++ on.behind)) (sym (ap (λ (x : Stored). x.value) same));
      left = on.left ∙ ap (λ t. stored_from step t on.behind)
          (sym (moved time step (length others * step) (suc (length others) * step) (next_end (length others) step)));
    }

-- the readings of a run stand behind missing slots
record Taken (step : ℕ) (run : Run) (time : ℤ) (later : List Stored) (slots : List (Option ℤ)) : Type 0 where
  missing : ℕ
  behind : List (Option ℤ)
  slots_are : slots ≡ replicate missing None ++ (map some_value (readings run) ++ behind)
  at : run.first.time ≡ time +ℤ pos (missing * step)
  left : later ≡ stored_from step (time +ℤ pos ((missing + length (readings run)) * step)) behind

take_run : (step : ℕ) → 1 ≤ step → (slots : List (Option ℤ)) (run : Run) (time : ℤ) (later : List Stored)
    → AreSteady step run.first run.others → map stored_of (readings run) ++ later ≡ stored_from step time slots
    → Taken step run time later slots
unfolding stored_from
take_run step some [] run time later steady is = absurd (cc)
take_run step some (None ∷ slots) run time later steady is =
    let on = take_run step some slots run (time +ℤ pos step) later steady is in
    record {
      missing = suc on.missing;
      behind = on.behind;
      slots_are = ap (λ l. None ∷ l) on.slots_are;
      at = on.at ∙ sym (moved time step (on.missing * step) (suc on.missing * step) (next_end on.missing step));
      left = on.left ∙ ap (λ t. stored_from step t on.behind)
          (sym (moved time step ((on.missing + length (readings run)) * step) ((suc on.missing + length (readings run)) * step)
          (shifted on.missing (length (readings run)) step)));
    }
  where
    shifted : (m n step : ℕ) → (suc m + n) * step ≡ step + (m + n) * step
    shifted m n step = omega arith
take_run step some (Some v ∷ slots) run time later steady is =
    let same : stored_of run.first ≡ record { time = time; value = v } = cc in
    let rest : map stored_of run.others ++ later ≡ stored_from step (time +ℤ pos step) slots = cc in
    let at : run.first.time ≡ time = ap (λ (x : Stored). x.time) same in
    let on = steady_slots step some run.others run.first slots (time +ℤ pos step) later steady (ap (λ t. t +ℤ pos step) at) rest in
    record {
      missing = 0;
      behind = on.behind;
      slots_are = ap (λ l. Some v ∷ l) on.slots_are
          ∙ ap (λ w. Some w ∷ (map some_value run.others ++ on.behind)) (sym (ap (λ (x : Stored). x.value) same));
      at = at ∙ sym (stays_at time step);
      left = on.left ∙ ap (λ t. stored_from step t on.behind)
          (sym (moved time step (length run.others * step) ((0 + suc (length run.others)) * step) (first_end (length run.others) step)));
    }

-- an accepted set
unless_ok : (causes : List (Bool × Refusal)) (slots given : List (Option ℤ)) → unless causes slots ≡ Ok given → given ≡ slots
unless_ok [] slots given is = cc
unless_ok (cause ∷ causes) slots given is = by cause.0 (unless_ok causes slots given) is
  where
    by : (b : Bool) → (unless causes slots ≡ Ok given → given ≡ slots) → cond b (Err cause.1) (unless causes slots) ≡ Ok given
        → given ≡ slots
    by true later is = absurd (cc)
    by false later is = later is

set_ok : (series : Series) (time : ℤ) (values given : List (Option ℤ)) → set_at series time values ≡ Ok given
    → given ≡ overwritten series.slots (place_of series time) values
unfolding set_at
set_ok series time values given is = unless_ok
    ((is_off_grid series time, OffGrid)
    ∷ (int_lt time series.start, BeforeStart)
    ∷ (list_any is_too_large values, ValueTooLarge)
    ∷ (nat_lt MOST_VALUES (length values), RangeTooLong)
    ∷ (is_overfull series (max (length series.slots) (place_of series time + length values)), SeriesFull)
    ∷ [])
    (overwritten series.slots (place_of series time) values) given is

no_more : (total pages : ℕ) → ltb total pages ≡ false → pages ≤ total
no_more total pages within = grind (arith, nat_tests, within)

fitted_ok : (total : ℕ) (book : List Series) (slots : ℕ) (edited : Edited) → fitted total book slots ≡ Ok edited
    → (edited.book ≡ book) × (pages_of book ≤ total)
unfolding fitted
fitted_ok total book slots edited is = by (ltb total (pages_of book)) refl is
  where
    by : (b : Bool) → ltb total (pages_of book) ≡ b
        → cond b (Err (Full (pages_of book) total)) (Ok (record { book = book; slots = slots })) ≡ Ok edited
        → (edited.book ≡ book) × (pages_of book ≤ total)
    by true over is = absurd (cc)
    by false within is = let same : record { book = book; slots = slots } ≡ edited = cc in
        (sym (ap (λ (e : Edited). e.book) same), no_more total (pages_of book) within)

within_ok : (total : ℕ) (book : List Series) (id : ℕ) (series : Series) (r : Result (List (Option ℤ)) Refusal) (edited : Edited)
    → within total book id series r ≡ Ok edited
    → (slots : List (Option ℤ)) × (r ≡ Ok slots) × (edited.book ≡ with_slots book id series slots)
    × (pages_of (with_slots book id series slots) ≤ total)
within_ok total book id series (Err refusal) edited is = absurd (cc)
within_ok total book id series (Ok slots) edited is =
    let fits = fitted_ok total (with_slots book id series slots) (length slots) edited is in
    (slots, refl, fits.0, fits.1)

-- the series stays under its name
same_named : (name : List ℕ) (book : List Series) (id : ℕ) (old new : Series) → slice_get book id ≡ Some old → new.name ≡ old.name
    → id_of name (set book id new) ≡ id_of name book
unfolding id_of
same_named name book id old new there same =
    let p : Series → Bool = λ series. bytes_eq series.name name in
    let first : position_or_len p (set book id new) ≡ position_or_len p book = position_or_len-set p book id new old
    (ap (λ n. bytes_eq n name) (same ∙ ap (λ (s : Series). s.name) (sym (get_or_from_slice_get book id old old there)))) in
    ap (λ n. cond (ltb n (length (set book id new))) (Some n) None) first
    ∙ ap (λ n. cond (ltb (position_or_len p book) n) (Some (position_or_len p book)) None) (length-set book id new)

-- values behind missing slots
at_end : (slots values : List (Option ℤ)) (missing place : ℕ) → place ≡ length slots + missing
    → overwritten slots place values ≡ slots ++ replicate missing None ++ values
unfolding overwritten
at_end slots values missing place is =
    let whole : take place slots ≡ slots = take_all place slots (omega (arith, is)) in
    let gap : place - length slots ≡ missing = omega (arith, is) in
    let rest : drop (place + length values) slots ≡ [] = drop_all (place + length values) slots (omega (arith, is)) in
    ap (λ l. l ++ replicate (place - length slots) None ++ values ++ drop (place + length values) slots) whole
    ∙ ap (λ n. slots ++ replicate n None ++ values ++ drop (place + length values) slots) gap
    ∙ ap (λ l. slots ++ replicate missing None ++ values ++ l) rest
    ∙ append-nil (slots ++ replicate missing None ++ values)

pub far : (start time : ℤ) (a b n : ℕ) → time ≡ (start +ℤ pos a) +ℤ pos b → n ≡ a + b → unsigned_abs (time -ℤ start) ≡ n
far start time a b n is sum =
    let same : time -ℤ start ≡ pos n = grind (arith, ints, is, sum) in
    ap unsigned_abs same

pub place_is : (series : Series) (step : ℕ) (time : ℤ) (slots missing : ℕ) → 1 ≤ step → series.step ≡ step
    → time ≡ slot_time series.start step slots +ℤ pos (missing * step) → place_of series time ≡ slots + missing
place_is series step time slots missing some same is =
    let all : (slots + missing) * step ≡ slots * step + missing * step = omega arith in
    ap (λ n. n / series.step) (far series.start time (slots * step) (missing * step) ((slots + missing) * step) is all)
    ∙ ap (λ n. ((slots + missing) * step) / n) same
    ∙ divided (slots + missing) step some
  where
    divided : (n step : ℕ) → 1 ≤ step → (n * step) / step ≡ n
    divided n step some = let high : 0 < step = omega (arith, some) in mul-div_cancel n high

-- no values are no stored slots
none_stored : (step : ℕ) (slots : List (Option ℤ)) (time : ℤ) → [] ≡ stored_from step time slots → slots ≡ replicate (length slots) None
unfolding stored_from
none_stored step [] time is = refl
none_stored step (None ∷ slots) time is = ap (λ l. None ∷ l) (none_stored step slots (time +ℤ pos step) is)
none_stored step (Some v ∷ slots) time is = absurd (cc)

-- the slots of a series and a run of the next stored values, behind missing ones
abbrev pub with_run : Series → ℕ → Run → List (Option ℤ)
with_run series missing run = series.slots ++ replicate missing None ++ map some_value (readings run)

-- A run reads the next stored values of the slots that a series is to have behind its own: what its set makes of it.
pub record Next (step : ℕ) (begun : Series) (run : Run) (later : List Stored) (rest : List (Option ℤ)) : Type 0 where
  pub missing : ℕ
  pub behind : List (Option ℤ)
  pub rest_are : rest ≡ replicate missing None ++ (map some_value (readings run) ++ behind)
  pub at : run.first.time ≡ slot_time begun.start step (length begun.slots) +ℤ pos (missing * step)
  pub written : overwritten begun.slots (place_of begun run.first.time) (map some_value (readings run)) ≡ with_run begun missing run
  pub slots_are : begun.slots ++ rest ≡ with_run begun missing run ++ behind
  pub long : length (with_run begun missing run) ≡ length begun.slots + (missing + length (readings run))
  pub left : later ≡ stored_from step (slot_time begun.start step (length (with_run begun missing run))) behind

pub next_run : (step : ℕ) → 1 ≤ step → (begun : Series) (run : Run) (later : List Stored) (rest : List (Option ℤ)) → begun.step ≡ step
    → IsRun step run
    → map stored_of (readings run) ++ later ≡ stored_from step (slot_time begun.start step (length begun.slots)) rest
    → Next step begun run later rest
next_run step some begun run later rest same steady is =
    let values : List (Option ℤ) = map some_value (readings run) in
    let taken = take_run step some rest run (slot_time begun.start step (length begun.slots)) later steady.steady is in
    let place = place_is begun step run.first.time (length begun.slots) taken.missing some same taken.at in
    let long : length (with_run begun taken.missing run) ≡ length begun.slots + (taken.missing + length (readings run)) = three begun.slots
    taken.missing (readings run) in
    record {
      missing = taken.missing;
      behind = taken.behind;
      rest_are = taken.slots_are;
      at = taken.at;
      written = at_end begun.slots values taken.missing (place_of begun run.first.time) place;
      slots_are = ap (λ l. begun.slots ++ l) taken.slots_are ∙ regrouped begun.slots (replicate taken.missing None) values taken.behind;
      long = long;
      left = taken.left ∙ ap (λ t. stored_from step t taken.behind)
          (sym (moved begun.start (length begun.slots * step) ((taken.missing + length (readings run)) * step)
          (length (with_run begun taken.missing run) * step)
          (ap (λ n. n * step) long ∙ sum (length begun.slots) (taken.missing + length (readings run)) step)));
    }
  where
    sum : (a b step : ℕ) → (a + b) * step ≡ a * step + b * step
    sum a b step = omega arith

    three : (xs : List (Option ℤ)) (missing : ℕ) (rs : List Reading)
        → length (xs ++ replicate missing None ++ map some_value rs) ≡ length xs + (missing + length rs)
    three xs missing rs = omega (
      arith,
      length-append (xs ++ replicate missing None) (map some_value rs),
      length-append xs (replicate missing None),
      length-replicate {A = Option ℤ} missing None,
      mapped rs,
    )

    regrouped : (a b c d : List (Option ℤ)) → a ++ (b ++ (c ++ d)) ≡ a ++ b ++ c ++ d
    regrouped a b c d = sym (append_assoc a b (c ++ d)) ∙ sym (append_assoc (a ++ b) c d)

-- the series is still there under its name
pub named_after : (name : List ℕ) (old new : List Series) (begun : Series) (slots : List (Option ℤ)) (named : IsNamed old name begun)
    → new ≡ with_slots old named.id begun slots → IsNamed new name (record begun { slots = slots })
named_after name old new begun slots named book = record {
  id = named.id;
  id_is = ap (λ b. id_of name b) book ∙ same_named name old named.id begun (record begun { slots = slots }) named.there refl ∙ named.id_is;
  there = slice_get-set old new named.id begun (record begun { slots = slots }) named.there book;
}

-- a series after the sets of runs, and what the book takes
pub record IsBack (total : ℕ) (old new : List Series) (name : List ℕ) (begun : Series) (slots : List (Option ℤ)) : Type 0 where
  pub after : Series
  pub named : IsNamed new name after
  pub start : after.start ≡ begun.start
  pub step : after.step ≡ begun.step
  pub scale : after.scale ≡ begun.scale
  pub missing : ℕ
  pub slots_are : slots ≡ after.slots ++ replicate missing None
  pub pages : pages_of new + series_pages begun.slots ≡ pages_of old + series_pages after.slots
  pub fits : pages_of old ≤ total → pages_of new ≤ total

pub sets_back : (step total : ℕ) (name : List ℕ) → 1 ≤ step
    → (runs : List Run) (old new : List Series) (begun : Series) (rest : List (Option ℤ)) → begun.step ≡ step → IsNamed old name begun
    → AreRuns step runs → Loads total name old runs new
    → values_of_runs runs ≡ stored_from step (slot_time begun.start step (length begun.slots)) rest
    → IsBack total old new name begun (begun.slots ++ rest)
sets_back step total name some [] old new begun rest same named are loads is =
    let P : List Series → Type 0 = λ book. IsNamed book name begun in
    record {
      after = begun;
      named = subst P (sym loads) named;
      start = refl;
      step = refl;
      scale = refl;
      missing = length rest;
      slots_are = ap (λ l. begun.slots ++ l) (none_stored step rest (slot_time begun.start step (length begun.slots)) is);
      pages = ap (λ b. pages_of b + series_pages begun.slots) loads;
      fits = λ fits. omega (arith, fits, ap pages_of loads);
    }
sets_back step total name some (run ∷ runs) old new begun rest same named are loads is =
    let values : List (Option ℤ) = map some_value (readings run) in
    let next = next_run step some begun run (values_of_runs runs) rest same are.0 is in
    let accepted = within_ok total old named.id begun (set_at begun run.first.time values) loads.0
    (sym (set_answer old total name run.first.time values named.id begun
    (set_at begun run.first.time values) named.id_is named.there refl) ∙ loads.1) in
    let slots : List (Option ℤ) = with_run begun next.missing run in
    let written : accepted.0 ≡ slots = set_ok begun run.first.time values accepted.0 accepted.1 ∙ next.written in
    let book : loads.0.book ≡ with_slots old named.id begun slots = accepted.2 ∙ ap (λ l. with_slots old named.id begun l) written in
    let on = sets_back step total name some runs loads.0.book new (record begun { slots = slots }) next.behind same
    (named_after name old loads.0.book begun slots named book) are.1 loads.2 next.left in
    record {
      after = on.after;
      named = on.named;
      start = on.start;
      step = on.step;
      scale = on.scale;
      missing = on.missing;
      slots_are = next.slots_are ∙ on.slots_are;
      pages = omega (arith, on.pages, ap pages_of book, pages_of-set old named.id begun (record begun { slots = slots }) named.there);
      fits = λ _. on.fits (omega (arith, accepted.3, ap pages_of accepted.2));
    }

-- missing slots at the end store nothing
missing_none : (step missing : ℕ) (time : ℤ) → stored_from step time (replicate missing None) ≡ []
unfolding stored_from
missing_none step zero time = refl
missing_none step (suc missing) time = missing_none step missing (time +ℤ pos step)

pub stored_more : (step missing : ℕ) (slots : List (Option ℤ)) (time : ℤ)
    → stored_from step time (slots ++ replicate missing None) ≡ stored_from step time slots
unfolding stored_from
stored_more step missing [] time = missing_none step missing time
stored_more step missing (None ∷ slots) time = stored_more step missing slots (time +ℤ pos step)
stored_more step missing (Some v ∷ slots) time = ap (λ l. record { time = time; value = v } ∷ l)
    (stored_more step missing slots (time +ℤ pos step))

pub same_values : (series after : Series) → HoldsSame series after → stored_values series ≡ stored_values after
same_values series after same =
    ap (λ l. stored_from series.step series.start l) same.slots
    ∙ stored_more series.step same.missing after.slots series.start
    ∙ ap (λ n. stored_from n series.start after.slots) (sym same.step)
    ∙ ap (λ t. stored_from after.step t after.slots) (sym same.start)

-- what a load of the series' values makes of a series that is begun
pub back_of : (series begun : Series) (rows : List (Option Reading)) (runs : List Run) (total : ℕ) (name : List ℕ) (book new : List Series)
    → 1 ≤ series.step → IsBegunAs series begun → IsNamed book name begun → values_of rows ≡ stored_values series
    → AllRuns series.step rows runs → Loads total name book runs new
    → IsBack total book new name begun (begun.slots ++ series.slots)
back_of series begun rows runs total name book new some is named values all loads =
    let step = series.step in
    let none : slot_time begun.start step (length begun.slots) ≡ series.start = ap (λ l. slot_time begun.start step (length l)) is.none
    ∙ first_time begun.start step ∙ is.start in
    let given : values_of_runs runs ≡ stored_from step (slot_time begun.start step (length begun.slots)) series.slots =
    runs_values step rows runs all ∙ values ∙ ap (λ t. stored_from step t series.slots) (sym none) in
    sets_back step total name some runs book new begun series.slots is.step named (all_are_runs step rows runs all) loads given

pub back_same : (series begun : Series) (total : ℕ) (name : List ℕ) (book new : List Series) → IsBegunAs series begun
    → (back : IsBack total book new name begun (begun.slots ++ series.slots)) → HoldsSame series back.after
back_same series begun total name book new is back = record {
  start = back.start ∙ is.start;
  step = back.step ∙ is.step;
  scale = back.scale ∙ is.scale;
  missing = back.missing;
  slots = ap (λ l. l ++ series.slots) (sym is.none) ∙ back.slots_are;
}

pub holds_named : (series begun : Series) (rows : List (Option Reading)) (runs : List Run) (total : ℕ) (name : List ℕ)
    (book new : List Series) → 1 ≤ series.step → IsBegunAs series begun → IsNamed book name begun → values_of rows ≡ stored_values series
    → AllRuns series.step rows runs → Loads total name book runs new → HoldsNamed new name series
holds_named series begun rows runs total name book new some is named values all loads =
    let back = back_of series begun rows runs total name book new some is named values all loads in
    record { after = back.after; named = back.named; same = back_same series begun total name book new is back }

pub same_text : (series after : Series) (window : Option Window) → HoldsSame series after
    → export_text after window ≡ export_text series window
unfolding export_text
same_text series after window same =
    ap (λ n. header ++ lines_of n (asked window (stored_values after))) same.scale
    ∙ ap (λ l. header ++ lines_of series.scale (asked window l)) (sym (same_values series after same))
