-- What a reading does to the run that stands open.
use Rattle.std.proofs.Common.{◌≡◌, ℕ, ℤ, pos, ◌-ℤ◌, ◌<◌, ◌≤◌, Bool, true, false, IsTrue, List, [], ◌∷◌, ◌++◌, length, Option, None, Some}
use Rattle.std.proofs.Common.{Result, Ok, Err, OnOk, refl, ap, subst, inl, inr, sym, ◌∙◌, arith}
use Rattle.std.specs.Prelude.{◌↔◌}
use Rattle.std.proofs.lemmas.Bool.{cases_lt}
use Rattle.std.proofs.lemmas.List.{append-nil, map-append, length-map}
use Rattle.series_load.specs.Rows.{Reading}
use Rattle.series_load.specs.Runs.{Run, readings, last_reading, Follows}
use Rattle.series_load.specs.Steps.{Adds, Keeps, KeepsRun, KeepsRuns, Took, closed}
use Rattle.run_ends.specs.declared.ending.End.{End}
use Rattle.series_load.specs.Sets.{AreSets}
use Rattle.series_load.specs.declared.kept_sets.KeptSets.{KeptSets}
use Rattle.series_load.specs.declared.open_run.OpenRun.{OpenRun}
use Rattle.series_load.proofs.RunLemmas.{IsApart, one_run, run_more, last_more, adds_first, adds_next, adds_last}

some_values : (run : Run) (kept : OpenRun) → KeepsRun run kept → 0 < length kept.values.items
some_values run kept keeps = omega (arith, ap length keeps.values_are, length-map (readings run) (λ r. r.value))

-- the test tells what follows
pub apart_of : (step : ℕ) (old : Option Run) (kept : OpenRun) (next : Reading) (b : Bool) → Keeps old kept
    → (IsTrue b ↔ (0 < length kept.values.items) × (next.time -ℤ kept.last ≡ pos step)) → b ≡ false → IsApart step old next
apart_of step None kept next b keeps tests is = tt
apart_of step (Some run) kept next b keeps tests is = λ follows.
    let P : ℤ → Type 0 = λ t. next.time -ℤ t ≡ pos step in
    let other : b ≡ true = tests.1 (some_values run kept keeps, subst P (sym keeps.last_is) follows) in
    cc

-- so a run stands open, with which the reading goes on
pub record GoesWith (step : ℕ) (old : Option Run) (kept : OpenRun) (next : Reading) : Type 0 where
  pub run : Run
  pub is_open : old ≡ Some run
  pub keeps : KeepsRun run kept
  pub follows : Follows step (last_reading run) next

pub goes_with : (step : ℕ) (old : Option Run) (kept : OpenRun) (next : Reading) (b : Bool) → Keeps old kept
    → (IsTrue b ↔ (0 < length kept.values.items) × (next.time -ℤ kept.last ≡ pos step)) → b ≡ true → GoesWith step old kept next
goes_with step None kept next b keeps tests is = let some : 0 < length kept.values.items = (tests.0 is).0 in
    absurd (omega (arith, some, ap length keeps))
goes_with step (Some run) kept next b keeps tests is =
    let P : ℤ → Type 0 = λ t. next.time -ℤ t ≡ pos step in
    record { run = run; is_open = refl; keeps = keeps; follows = subst P keeps.last_is (tests.0 is).1 }

-- a reading more is kept
pub keeps_more : (run : Run) (kept kept' : OpenRun) (next : Reading) → KeepsRun run kept → kept'.at ≡ kept.at → kept'.time ≡ kept.time
    → kept'.last ≡ next.time → kept'.values.items ≡ kept.values.items ++ next.value ∷ [] → KeepsRun (run_more run next) kept'
keeps_more run kept kept' next keeps at time last values = record {
  at_is = at ∙ keeps.at_is;
  time_is = time ∙ keeps.time_is;
  last_is = last ∙ ap (λ (r : Reading). r.time) (sym (last_more run.first run.others next));
  values_are = values ∙ ap (λ v. v ++ next.value ∷ []) keeps.values_are ∙ sym (map-append (λ r. r.value) (readings run) (next ∷ []));
}

-- the run that stood open is kept, and the reading begins another
pub begins : {T : Type 0} (step : ℕ) (name : List ℕ) (waiting : List Run) (old : Option Run) (next : Reading) (sets : KeptSets)
    (mid kept : OpenRun) (result : Result T End) → IsApart step old next → KeepsRuns name (waiting ++ closed old) None sets mid
    → OnOk result (kept.at ≡ next.at) → OnOk result (kept.time ≡ next.time) → OnOk result (kept.last ≡ next.time)
    → OnOk result (kept.values.items ≡ next.value ∷ []) → OnOk result (Took (Adds step old (Some next)) name waiting sets kept)
begins {T} step name waiting old next sets mid kept (Ok v) apart keeps at time last values = record {
  ends = closed old;
  new = Some (one_run next);
  gives = adds_first step old next apart;
  keeps = record { sets = keeps.sets; still = record { at_is = at; time_is = time; last_is = last; values_are = values } };
}
begins {T} step name waiting old next sets mid kept (Err e) apart keeps at time last values = tt

count_kept : (run : Run) (kept : OpenRun) → KeepsRun run kept → length kept.values.items ≡ length (readings run)
count_kept run kept keeps = ap length keeps.values_are ∙ length-map (readings run) (λ r. r.value)

-- the reading goes on with the run that stands open, which isn't full then
pub goes_on : (step : ℕ) (name : List ℕ) (waiting : List Run) (old : Option Run) (next : Reading) (sets : KeptSets) (kept kept' : OpenRun)
    → (goes : GoesWith step old kept next) → AreSets name waiting sets.sets.items sets.ats.items → KeepsRun (run_more goes.run next) kept'
    → length kept'.values.items < 256
    → Took (Adds step old (Some next)) name waiting sets kept'
goes_on step name waiting old next sets kept kept' goes are keeps few =
    let P : Option Run → Type 0 = λ o. Adds step o (Some next) [] (Some (run_more goes.run next)) in
    let Q : List Run → Type 0 = λ l. AreSets name l sets.sets.items sets.ats.items in
    record {
      ends = [];
      new = Some (run_more goes.run next);
      gives = subst P (sym goes.is_open) (adds_next step goes.run next goes.follows
          (omega (arith, few, count_kept (run_more goes.run next) kept' keeps)));
      keeps = record { sets = subst Q (sym (append-nil waiting)) are; still = keeps };
    }

-- or is, and ends
pub fills : {T : Type 0} (step : ℕ) (name : List ℕ) (waiting : List Run) (old : Option Run) (next : Reading) (kept kept' kept'' : OpenRun)
    (sets : KeptSets) (result : Result T End) → (goes : GoesWith step old kept next) → KeepsRun (run_more goes.run next) kept'
    → 256 ≤ length kept'.values.items
    → OnOk result (KeepsRuns name (waiting ++ closed (Some (run_more goes.run next))) None sets kept'')
    → OnOk result (Took (Adds step old (Some next)) name waiting sets kept'')
fills {T} step name waiting old next kept kept' kept'' sets (Ok v) goes keeps many ended =
    let P : Option Run → Type 0 = λ o. Adds step o (Some next) (run_more goes.run next ∷ []) None in
    record {
      ends = run_more goes.run next ∷ [];
      new = None;
      gives = subst P (sym goes.is_open) (adds_last step goes.run next goes.follows
          (omega (arith, many, count_kept (run_more goes.run next) kept' keeps)));
      keeps = ended;
    }
fills {T} step name waiting old next kept kept' kept'' sets (Err e) goes keeps many ended = tt

pub not_full : (b : Bool) (n : ℕ) → (IsTrue b ↔ 256 ≤ n) → b ≡ false → n < 256
not_full b n tests is = elim (cases_lt n 256) [
  | inl few ↦ few
  | inr many ↦ (let full : b ≡ true = tests.1 many in cc)
]
