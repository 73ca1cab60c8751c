-- Rows have runs, these are one list, and those that have ended within the first rows are its first.
use Rattle.std.proofs.Common.{◌≡◌, ℕ, pos, ◌-ℤ◌, ◌+◌, ◌<◌, ◌≤◌, Bool, true, false, List, [], ◌∷◌, ◌++◌, length, map, Option, None, Some}
use Rattle.std.proofs.Common.{refl, ap, subst, inl, inr, sym, ◌∙◌, arith, append_assoc, length-append}
use Rattle.std.proofs.lemmas.List.{append-nil}
use Rattle.std.specs.Prelude.{nat_lt, if◌then◌else◌}
use Rattle.std.specs.Ordering.{int_eq}
use Rattle.std.proofs.lemmas.Bool.{cases_lt}
use Rattle.std.proofs.lemmas.Bool.Decides.{Decides-int_eq, Decides-ltb}
use Rattle.std.specs.Bool.{Decides}
use Rattle.series_load.specs.Rows.{Reading}
use Rattle.series_load.specs.Runs.{Run, readings, rows_of, Follows, AreSteady, last_of, last_reading, IsRun, Breaks, EndsAt, Cut, nothing}
use Rattle.series_load.specs.Runs.{still, gap, whole, Ended}
use Rattle.series_load.specs.Steps.{closed, Adds}
use Rattle.series_load.proofs.RunLemmas.{one_run, run_more, last_more, adds_gap, adds_first, adds_next, adds_last}

-- whether a reading follows another
abbrev follows : ℕ → Reading → Reading → Bool
follows step one next = int_eq (next.time -ℤ one.time) (pos step)

-- the runs that have ended, and the one that stands open
record State : Type 0 where
  ended : List Run
  open_run : Option Run

abbrev at : List Run → Option Run → State
at ended open_run = record { ended = ended; open_run = open_run }

-- a full run ends
abbrev settled : List Run → Run → State
settled runs run = if nat_lt 255 (length (readings run)) then at (runs ++ run ∷ []) None else at runs (Some run)

abbrev next : ℕ → List Run → Option Run → Option Reading → State
next step runs old None = at (runs ++ closed old) None
next step runs None (Some reading) = at runs (Some (one_run reading))
next step runs (Some run) (Some reading) = if follows step (last_reading run) reading then settled runs (run_more run reading)
    else at (runs ++ run ∷ []) (Some (one_run reading))

abbrev goes : ℕ → State → List (Option Reading) → State
goes step state [] = state
goes step state (row ∷ rows) = goes step (next step state.ended state.open_run row) rows

settled_few : (runs : List Run) (run : Run) → length (readings run) < 256 → settled runs run ≡ at runs (Some run)
settled_few runs run few = by (nat_lt 255 (length (readings run))) (Decides-ltb 255 (length (readings run)))
  where
    by : (b : Bool) → Decides b (255 < length (readings run))
        → (if b then at (runs ++ run ∷ []) None else at runs (Some run)) ≡ at runs (Some run)
    by true decides = absurd (omega (arith, few, decides.0 refl))
    by false decides = refl

settled_full : (runs : List Run) (run : Run) → 256 ≤ length (readings run) → settled runs run ≡ at (runs ++ run ∷ []) None
settled_full runs run full = ap (λ b. if b then at (runs ++ run ∷ []) None
    else at runs (Some run)) ((Decides-ltb 255 (length (readings run))).1 (omega (arith, full)))

next_follows : (step : ℕ) (runs : List Run) (run : Run) (reading : Reading) → Follows step (last_reading run) reading
    → next step runs (Some run) (Some reading) ≡ settled runs (run_more run reading)
next_follows step runs run reading is = ap (λ b. if b then settled runs (run_more run reading)
    else at (runs ++ run ∷ []) (Some (one_run reading))) ((Decides-int_eq (reading.time -ℤ (last_reading run).time) (pos step)).1 is)

next_apart : (step : ℕ) (runs : List Run) (run : Run) (reading : Reading) → (Follows step (last_reading run) reading → ⊥)
    → next step runs (Some run) (Some reading) ≡ at (runs ++ run ∷ []) (Some (one_run reading))
next_apart step runs run reading apart = by (follows step (last_reading run) reading)
    (Decides-int_eq (reading.time -ℤ (last_reading run).time) (pos step))
  where
    by : (b : Bool) → Decides b (Follows step (last_reading run) reading)
        → (if b then settled runs (run_more run reading)
        else at (runs ++ run ∷ []) (Some (one_run reading))) ≡ at (runs ++ run ∷ []) (Some (one_run reading))
    by true decides = absurd (apart (decides.0 refl))
    by false decides = refl

-- the readings of a run, one after the other
goes_run : (step : ℕ) (runs : List Run) (first : Reading) (done others : List Reading) (rows : List (Option Reading))
    → AreSteady step (last_of first done) others → length (first ∷ done) + length others ≤ 256
    → goes step (settled runs (record { first = first; others = done })) (map Some others ++ rows) ≡ goes step
    (settled runs (record { first = first; others = done ++ others })) rows
goes_run step runs first done [] rows steady few = ap (λ l. goes step (settled runs (record { first = first; others = l })) rows)
    (sym (append-nil done))
goes_run step runs first done (reading ∷ later) rows steady few =
    let run : Run = record { first = first; others = done } in
    let more : Run = record { first = first; others = done ++ reading ∷ [] } in
    let here : settled runs run ≡ at runs (Some run) = settled_few runs run (omega (arith, few)) in
    let L : Reading → Type 0 = λ r. AreSteady step r later in
    let steady' = subst L (sym (last_more first done reading)) steady.1 in
    ap (λ s. goes step s (Some reading ∷ (map Some later ++ rows))) here
    ∙ ap (λ s. goes step s (map Some later ++ rows)) (next_follows step runs run reading steady.0)
    ∙ goes_run step runs first (done ++ reading ∷ []) later rows steady' (omega (arith, few, length-append done (reading ∷ [])))
    ∙ ap (λ l. goes step (settled runs (record { first = first; others = l })) rows) (append_assoc done (reading ∷ []) later)

goes_whole : (step : ℕ) (runs : List Run) (run : Run) (rows : List (Option Reading)) → IsRun step run
    → goes step (at runs None) (rows_of run ++ rows) ≡ goes step (settled runs run) rows
goes_whole step runs run rows is =
    ap (λ s. goes step s (map Some run.others ++ rows)) (sym (settled_few runs (one_run run.first) (omega arith)))
    ∙ goes_run step runs run.first [] run.others rows is.steady (omega (arith, is.few))

broken : (step : ℕ) (runs : List Run) (run : Run) (rows : List (Option Reading)) → Breaks step run rows
    → goes step (at runs (Some run)) rows ≡ goes step (at (runs ++ run ∷ []) None) rows
broken step runs run [] breaks = absurd breaks
broken step runs run (None ∷ later) breaks = ap (λ r. goes step (at r None) later) (sym (append-nil (runs ++ run ∷ [])))
broken step runs run (Some reading ∷ later) breaks = ap (λ s. goes step s later) (next_apart step runs run reading breaks)

ended_run : (step : ℕ) (runs : List Run) (run : Run) (rows : List (Option Reading)) → EndsAt step run rows
    → goes step (settled runs run) rows ≡ goes step (at (runs ++ run ∷ []) None) rows
ended_run step runs run rows (inl full) = ap (λ s. goes step s rows) (settled_full runs run (omega (arith, full)))
ended_run step runs run rows (inr breaks) = elim (cases_lt (length (readings run)) 256) [
  | inl few ↦ ap (λ s. goes step s rows) (settled_few runs run few) ∙ broken step runs run rows breaks
  | inr full ↦ ap (λ s. goes step s rows) (settled_full runs run full)
]

-- what the runs of rows are
cut_is : {step : ℕ} {rows : List (Option Reading)} {runs : List Run} {old : Option Run} → Cut step rows runs old → (before : List Run)
    → goes step (at before None) rows ≡ at (before ++ runs) old
cut_is nothing before = ap (λ r. at r None) (sym (append-nil before))
cut_is {step} (still run is few) before =
    ap (goes step (at before None)) (sym (append-nil (rows_of run)))
    ∙ goes_whole step before run [] is ∙ settled_few before run few ∙ ap (λ r. at r (Some run)) (sym (append-nil before))
cut_is {step} (gap rows runs old cut) before = ap (λ r. goes step (at r None) rows) (append-nil before) ∙ cut_is cut before
cut_is {step} (whole run rows runs old is ended cut) before =
    goes_whole step before run rows is ∙ ended_run step before run rows ended ∙ cut_is cut (before ++ run ∷ [])
    ∙ ap (λ r. at r old) (append_assoc before (run ∷ []) runs)

pub one_cut : (step : ℕ) (rows : List (Option Reading)) (runs runs' : List Run) (old old' : Option Run) → Cut step rows runs old
    → Cut step rows runs' old' → (runs ≡ runs') × (old ≡ old')
one_cut step rows runs runs' old old' first second =
    let same : at runs old ≡ at runs' old' = sym (cut_is first []) ∙ cut_is second [] in
    (ap (λ (s : State). s.ended) same, ap (λ (s : State). s.open_run) same)

goes_then : (step : ℕ) (state : State) (rows more : List (Option Reading))
    → goes step state (rows ++ more) ≡ goes step (goes step state rows) more
goes_then step state [] more = refl
goes_then step state (row ∷ rows) more = goes_then step (next step state.ended state.open_run row) rows more

-- runs stay
stays_settled : (runs : List Run) (run : Run) (b : Bool)
    → (ends : List Run) × ((if b then at (runs ++ run ∷ []) None else at runs (Some run)).ended ≡ runs ++ ends)
stays_settled runs run true = (run ∷ [], refl)
stays_settled runs run false = ([], sym (append-nil runs))

stays_next : (step : ℕ) (runs : List Run) (old : Option Run) (row : Option Reading)
    → (ends : List Run) × ((next step runs old row).ended ≡ runs ++ ends)
stays_next step runs None None = ([], refl)
stays_next step runs (Some run) None = (run ∷ [], refl)
stays_next step runs None (Some reading) = ([], sym (append-nil runs))
stays_next step runs (Some run) (Some reading) = by (follows step (last_reading run) reading)
  where
    by : (b : Bool) → (ends : List Run) × ((if b then settled runs (run_more run reading)
        else at (runs ++ run ∷ []) (Some (one_run reading))).ended ≡ runs ++ ends)
    by true = stays_settled runs (run_more run reading) (nat_lt 255 (length (readings (run_more run reading))))
    by false = (run ∷ [], refl)

stays : (step : ℕ) (runs : List Run) (old : Option Run) (rows : List (Option Reading))
    → (ends : List Run) × ((goes step (at runs old) rows).ended ≡ runs ++ ends)
stays step runs old [] = ([], sym (append-nil runs))
stays step runs old (row ∷ rows) =
    let one = stays_next step runs old row in
    let two = stays step (next step runs old row).ended (next step runs old row).open_run rows in
    (one.0 ++ two.0, two.1 ∙ ap (λ r. r ++ two.0) one.1 ∙ append_assoc runs one.0 two.0)

-- the runs that have ended within the first rows come first
pub first_cut : (step : ℕ) (rows more : List (Option Reading)) (runs runs' : List Run) → Ended step rows runs
    → Ended step (rows ++ more) runs' → (later : List Run) × (runs' ≡ runs ++ later)
first_cut step rows more runs runs' first second =
    let behind = stays step runs first.0 more in
    let same : at runs' second.0 ≡ goes step (at runs first.0) more = sym (cut_is second.1 []) ∙ goes_then step (at [] None) rows more
    ∙ ap (λ s. goes step s more) (cut_is first.1 []) in
    (behind.0, ap (λ (s : State). s.ended) same ∙ behind.1)

-- a row more, and what it ends
one_more : (step : ℕ) (old : Option Run) (row : Option Reading) → (ends : List Run) × (new : Option Run) × Adds step old row ends new
one_more step None None = ([], None, adds_gap step None)
one_more step (Some run) None = (run ∷ [], None, adds_gap step (Some run))
one_more step None (Some reading) = ([], Some (one_run reading), adds_first step None reading tt)
one_more step (Some run) (Some reading) = by (follows step (last_reading run) reading)
    (Decides-int_eq (reading.time -ℤ (last_reading run).time) (pos step))
  where
    by : (b : Bool) → Decides b (Follows step (last_reading run) reading)
        → (ends : List Run) × (new : Option Run) × Adds step (Some run) (Some reading) ends new
    by true decides = elim (cases_lt (length (readings (run_more run reading))) 256) [
      | inl few ↦ ([], Some (run_more run reading), adds_next step run reading (decides.0 refl) few)
      | inr many ↦ (run_more run reading ∷ [], None, adds_last step run reading (decides.0 refl) many)
    ]
    by false decides = (
      run ∷ [],
      Some (one_run reading),
      adds_first step (Some run) reading (λ is. let other : false ≡ true = decides.1 is in cc),
    )

-- rows behind others have runs
pub some_cut : (step : ℕ) (more done : List (Option Reading)) (runs : List Run) (old : Option Run) → Cut step done runs old
    → (all : List Run) × Ended step (done ++ more) all
some_cut step [] done runs old cut =
    let P : List (Option Reading) → Type 0 = λ r. Cut step r runs old in
    (runs, (old, subst P (sym (append-nil done)) cut))
some_cut step (row ∷ later) done runs old cut =
    let one = one_more step old row in
    let on = some_cut step later (done ++ row ∷ []) (runs ++ one.0) one.1 (one.2 done runs cut) in
    let P : List (Option Reading) → Type 0 = λ r. Ended step r on.0 in
    (on.0, subst P (append_assoc done (row ∷ []) later) on.1)
