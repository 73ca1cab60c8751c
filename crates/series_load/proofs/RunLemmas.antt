-- Runs, as rows come behind them.
use Rattle.std.proofs.Common.{◌≡◌, ℕ, ◌+◌, ◌<◌, ◌≤◌, List, [], ◌∷◌, ◌++◌, length, Option, None, Some, refl, ap, subst, inl, inr, sym, ◌∙◌}
use Rattle.std.proofs.Common.{arith, append_assoc, length-append}
use Rattle.std.proofs.lemmas.List.{append-nil}
use Rattle.std.proofs.lemmas.List.{map-append}
use Rattle.series_load.specs.Rows.{Reading}
use Rattle.series_load.specs.Runs.{Run, readings, rows_of, Follows, AreSteady, last_of, last_reading, IsRun, Breaks, EndsAt, Cut, nothing}
use Rattle.series_load.specs.Runs.{still, gap, whole}
use Rattle.series_load.specs.Steps.{closed, Adds}

breaks_more : (step : ℕ) (run : Run) (rows more : List (Option Reading)) → Breaks step run rows → Breaks step run (rows ++ more)
breaks_more step run [] more breaks = absurd breaks
breaks_more step run (None ∷ later) more breaks = tt
breaks_more step run (Some next ∷ later) more breaks = breaks

ends_more : (step : ℕ) (run : Run) (rows more : List (Option Reading)) → EndsAt step run rows → EndsAt step run (rows ++ more)
ends_more step run rows more (inl full) = inl full
ends_more step run rows more (inr breaks) = inr (breaks_more step run rows more breaks)

-- a run that stands open is one, and isn't full
abbrev pub IsOpen : ℕ → Option Run → Type 0
IsOpen step None = Unit {0}
IsOpen step (Some run) = IsRun step run × (length (readings run) < 256)

abbrev pub open_rows : Option Run → List (Option Reading)
open_rows None = []
open_rows (Some run) = rows_of run

-- rows behind a run that stands open
cut_on : {step : ℕ} {rows : List (Option Reading)} {runs : List Run} {old : Option Run} → Cut step rows runs old
    → (more : List (Option Reading)) (ends : List Run) (new : Option Run) → (IsOpen step old → Cut step (open_rows old ++ more) ends new)
    → Cut step (rows ++ more) (runs ++ ends) new
cut_on nothing more ends new onto = onto tt
cut_on (still run is few) more ends new onto = onto (is, few)
cut_on (gap rows runs old cut) more ends new onto = gap (rows ++ more) (runs ++ ends) new (cut_on cut more ends new onto)
cut_on {step} (whole run rows runs old is ended cut) more ends new onto =
    let P : List (Option Reading) → Type 0 = λ r. Cut step r (run ∷ (runs ++ ends)) new in
    subst P (sym (append_assoc (rows_of run) rows more))
    (whole run (rows ++ more) (runs ++ ends) new is (ends_more step run rows more ended) (cut_on cut more ends new onto))

-- one reading alone
abbrev pub one_run : Reading → Run
one_run reading = record { first = reading; others = [] }

-- a reading more
abbrev pub run_more : Run → Reading → Run
run_more run next = record { first = run.first; others = run.others ++ next ∷ [] }

steady_more : (step : ℕ) (first : Reading) (others : List Reading) (next : Reading) → AreSteady step first others
    → Follows step (last_of first others) next → AreSteady step first (others ++ next ∷ [])
steady_more step first [] next steady follows = (follows, tt)
steady_more step first (other ∷ later) next steady follows = (steady.0, steady_more step other later next steady.1 follows)

pub last_more : (first : Reading) (others : List Reading) (next : Reading) → last_of first (others ++ next ∷ []) ≡ next
last_more first [] next = refl
last_more first (other ∷ later) next = last_more other later next

pub length_more : (run : Run) (next : Reading) → length (readings (run_more run next)) ≡ length (readings run) + 1
length_more run next = omega (arith, length-append run.others (next ∷ []))

rows_more : (run : Run) (next : Reading) → rows_of (run_more run next) ≡ rows_of run ++ Some next ∷ []
rows_more run next = ap (λ l. Some run.first ∷ l) (map-append Some run.others (next ∷ []))

run_is_more : (step : ℕ) (run : Run) (next : Reading) → IsRun step run → length (readings run) < 256 → Follows step (last_reading run) next
    → IsRun step (run_more run next)
run_is_more step run next is few follows = record {
  steady = steady_more step run.first run.others next is.steady follows;
  few = omega (arith, length_more run next, few);
}

pub one_is_run : (step : ℕ) (next : Reading) → IsRun step (one_run next)
one_is_run step next = record { steady = tt; few = omega arith }

-- a row without a reading ends the run that stands open
pub adds_gap : (step : ℕ) (old : Option Run) → Adds step old None (closed old) None
adds_gap step None = λ rows runs cut. cut_on cut (None ∷ []) [] None (λ is_open. gap [] [] None nothing)
adds_gap step (Some run) = λ rows runs cut. cut_on cut (None ∷ []) (run ∷ []) None
    (λ is_open. whole run (None ∷ []) [] None is_open.0 (inr tt) (gap [] [] None nothing))

-- the reading doesn't go on with the run that stands open
abbrev pub IsApart : ℕ → Option Run → Reading → Type 0
IsApart step None next = Unit {0}
IsApart step (Some run) next = Follows step (last_reading run) next → ⊥

-- and so ends it, and begins another
pub adds_first : (step : ℕ) (old : Option Run) (next : Reading) → IsApart step old next
    → Adds step old (Some next) (closed old) (Some (one_run next))
adds_first step None next apart = λ rows runs cut. cut_on cut (Some next ∷ []) [] (Some (one_run next))
    (λ is_open. still (one_run next) (one_is_run step next) (omega arith))
adds_first step (Some run) next apart = λ rows runs cut. cut_on cut (Some next ∷ []) (run ∷ []) (Some (one_run next))
    (λ is_open. whole run (Some next ∷ []) [] (Some (one_run next)) is_open.0 (inr apart)
    (still (one_run next) (one_is_run step next) (omega arith)))

-- a reading goes on with it
pub adds_next : (step : ℕ) (run : Run) (next : Reading) → Follows step (last_reading run) next → length (readings (run_more run next)) < 256
    → Adds step (Some run) (Some next) [] (Some (run_more run next))
adds_next step run next follows few = λ rows runs cut. cut_on cut (Some next ∷ []) [] (Some (run_more run next)) (λ is_open.
    let P : List (Option Reading) → Type 0 = λ r. Cut step r [] (Some (run_more run next)) in
    subst P (rows_more run next) (still (run_more run next) (run_is_more step run next is_open.0 is_open.1 follows) few))

-- or makes it full, so that it ends
pub adds_last : (step : ℕ) (run : Run) (next : Reading) → Follows step (last_reading run) next → 256 ≤ length (readings (run_more run next))
    → Adds step (Some run) (Some next) (run_more run next ∷ []) None
adds_last step run next follows many = λ rows runs cut. cut_on cut (Some next ∷ []) (run_more run next ∷ []) None (λ is_open.
    let P : List (Option Reading) → Type 0 = λ r. Cut step r (run_more run next ∷ []) None in
    let is = run_is_more step run next is_open.0 is_open.1 follows in
    let full : length (readings (run_more run next)) ≡ 256 = omega (arith, many, is.few) in
    subst P (append-nil (rows_of (run_more run next)) ∙ rows_more run next) (whole (run_more run next) [] [] None is (inl full) nothing))
