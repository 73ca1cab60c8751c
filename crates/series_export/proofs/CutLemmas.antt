-- The readings of runs are those of their rows.
use Rattle.std.proofs.Common.{◌≡◌, ℕ, Bool, true, false, is_some, List, [], ◌∷◌, ◌++◌, map, Option, None, Some, refl, sym, ap, ◌∙◌}
use Rattle.std.proofs.lemmas.List.{append_assoc, append-nil}
use Rattle.series_load.specs.Rows.{Reading}
use Rattle.series_load.specs.Runs.{Run, readings, rows_of, IsRun, Cut, AllRuns, nothing, still, gap, whole}
use Rattle.series_export.specs.Exports.{Stored}
use Rattle.series_export.specs.RoundTrips.{values_of}

abbrev pub stored_of : Reading → Stored
stored_of reading = record { time = reading.time; value = reading.value }

abbrev pub values_of_runs : List Run → List Stored
values_of_runs [] = []
values_of_runs (run ∷ runs) = map stored_of (readings run) ++ values_of_runs runs

abbrev pub values_of_open : Option Run → List Stored
values_of_open None = []
values_of_open (Some run) = map stored_of (readings run)

some_rows : (rs : List Reading) (rows : List (Option Reading)) → values_of (map Some rs ++ rows) ≡ map stored_of rs ++ values_of rows
some_rows [] rows = refl
some_rows (r ∷ rs) rows = ap (λ l. stored_of r ∷ l) (some_rows rs rows)

none_last : (rows : List (Option Reading)) → values_of (rows ++ None ∷ []) ≡ values_of rows
none_last [] = refl
none_last (None ∷ rows) = none_last rows
none_last (Some r ∷ rows) = ap (λ l. stored_of r ∷ l) (none_last rows)

run_rows : (run : Run) (rows : List (Option Reading)) → values_of (rows_of run ++ rows) ≡ map stored_of (readings run) ++ values_of rows
run_rows run rows = some_rows (readings run) rows

pub cut_values : (step : ℕ) (rows : List (Option Reading)) (runs : List Run) (open_run : Option Run) → Cut step rows runs open_run
    → values_of rows ≡ values_of_runs runs ++ values_of_open open_run
cut_values step _ _ _ nothing = refl
cut_values step _ _ _ (still run is few) = ap values_of (sym (append-nil (rows_of run))) ∙ run_rows run []
    ∙ append-nil (map stored_of (readings run))
cut_values step _ _ _ (gap rows runs open_run cut) = cut_values step rows runs open_run cut
cut_values step _ _ _ (whole run rows runs open_run is ends cut) =
    run_rows run rows ∙ ap (λ l. map stored_of (readings run) ++ l) (cut_values step rows runs open_run cut)
    ∙ sym (append_assoc (map stored_of (readings run)) (values_of_runs runs) (values_of_open open_run))

-- whether the last row has a reading
abbrev ends_some : List (Option Reading) → Bool
ends_some [] = false
ends_some (row ∷ []) = is_some row
ends_some (row ∷ next ∷ rows) = ends_some (next ∷ rows)

some_ends : (first : Reading) (rs : List Reading) → ends_some (map Some (first ∷ rs)) ≡ true
some_ends first [] = refl
some_ends first (r ∷ rs) = some_ends r rs

none_ends : (rows : List (Option Reading)) → ends_some (rows ++ None ∷ []) ≡ false
none_ends [] = refl
none_ends (row ∷ []) = refl
none_ends (row ∷ next ∷ rows) = none_ends (next ∷ rows)

ends_behind : (row : Option Reading) (rows : List (Option Reading)) → ends_some rows ≡ true → ends_some (row ∷ rows) ≡ true
ends_behind row [] is = absurd (cc)
ends_behind row (next ∷ rows) is = is

ends_after : (rs rows : List (Option Reading)) → ends_some rows ≡ true → ends_some (rs ++ rows) ≡ true
ends_after [] rows is = is
ends_after (r ∷ rs) rows is = ends_behind r (rs ++ rows) (ends_after rs rows is)

open_ends : (step : ℕ) (rows : List (Option Reading)) (runs : List Run) (open_run : Option Run) → Cut step rows runs open_run
    → is_some open_run ≡ true → ends_some rows ≡ true
open_ends step _ _ _ nothing is = absurd (cc)
open_ends step _ _ _ (still run steady few) is = some_ends run.first run.others
open_ends step _ _ _ (gap rows runs open_run cut) is = ends_behind None rows (open_ends step rows runs open_run cut is)
open_ends step _ _ _ (whole run rows runs open_run steady ends cut) is = ends_after (rows_of run) rows
    (open_ends step rows runs open_run cut is)

closed_values : (open_run : Option Run) → (is_some open_run ≡ true → ⊥) → values_of_open open_run ≡ []
closed_values None never = refl
closed_values (Some run) never = absurd (never refl)

-- all runs have the readings of all rows
pub runs_values : (step : ℕ) (rows : List (Option Reading)) (runs : List Run) → AllRuns step rows runs
    → values_of_runs runs ≡ values_of rows
runs_values step rows runs all =
    let closed = closed_values all.0 (λ is. let last : true ≡ false = sym (open_ends step (rows ++ None ∷ []) runs all.0 all.1 is)
    ∙ none_ends rows in absurd (cc)) in
    sym (sym (none_last rows) ∙ cut_values step (rows ++ None ∷ []) runs all.0 all.1 ∙ ap (λ l. values_of_runs runs ++ l) closed
    ∙ append-nil (values_of_runs runs))

-- each of them is one
abbrev pub AreRuns : ℕ → List Run → Type 0
AreRuns step [] = Unit {0}
AreRuns step (run ∷ runs) = IsRun step run × AreRuns step runs

pub are_runs : (step : ℕ) (rows : List (Option Reading)) (runs : List Run) (open_run : Option Run) → Cut step rows runs open_run
    → AreRuns step runs
are_runs step _ _ _ nothing = tt
are_runs step _ _ _ (still run is few) = tt
are_runs step _ _ _ (gap rows runs open_run cut) = are_runs step rows runs open_run cut
are_runs step _ _ _ (whole run rows runs open_run is ends cut) = (is, are_runs step rows runs open_run cut)

pub all_are_runs : (step : ℕ) (rows : List (Option Reading)) (runs : List Run) → AllRuns step rows runs → AreRuns step runs
all_are_runs step rows runs all = are_runs step (rows ++ None ∷ []) runs all.0 all.1
