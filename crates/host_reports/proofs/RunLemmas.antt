-- The runs of a piece meet the rules of a frame.
use Rattle.std.proofs.Common.{◌≡◌, ◌≢◌, ℕ, ℤ, suc, ◌+◌, ◌-◌, ◌<◌, ◌≤◌, ◌==◌, leb, Bool, true, false, cond, List, [], ◌∷◌, map, length}
use Rattle.std.proofs.Common.{Option, None, Some, refl, sym, ap, arith, ◌∙◌}
use Rattle.std.proofs.lemmas.Bool.{eqb-true, eqb-false, cond_both}
use Rattle.chart_frames.specs.Fields.{lesser}
use Rattle.chart_frames.specs.Frames.{FitRuns}
use Rattle.series_store.specs.Windows.{run_of, before_runs, runs_from, stored}
use Rattle.series_store.specs.declared.slot_run.SlotRun.{SlotRun}
use Rattle.host_reports.specs.Reports.{run_in}

-- runs of slots from one on and below an end, with a slot between two of them
abbrev pub AreApart : ℕ → ℕ → List SlotRun → Type 0
AreApart end from [] = Unit {0}
AreApart end from (run ∷ runs) = (from ≤ run.first) × (run.first < run.end) × (run.end ≤ end) × AreApart end (suc run.end) runs

apart_from : (end from less : ℕ) (runs : List SlotRun) → less ≤ from → AreApart end from runs → AreApart end less runs
apart_from end from less [] low apart = tt
apart_from end from less (run ∷ runs) low (first, some, within, more) = (omega (arith, low, first), some, within, more)

begun : (slot end : ℕ) (run : SlotRun) (runs : List SlotRun) (b : Bool) → run.first == suc slot ≡ b → slot < end
    → AreApart end (suc slot) (run ∷ runs) → AreApart end slot (cond b (record run { first = slot } ∷ runs) (run_of slot ∷ run ∷ runs))
begun slot end run runs true is low (first, some, within, more) = (omega arith, omega (arith, first, some), within, more)
begun slot end run runs false is low (first, some, within, more) =
    let apart : run.first ≢ suc slot = eqb-false run.first (suc slot) is in
    (omega arith, omega arith, omega (arith, low), (omega (arith, first, apart), some, within, more))

before_apart : (slot end : ℕ) (runs : List SlotRun) → slot < end → AreApart end (suc slot) runs → AreApart end slot (before_runs slot runs)
before_apart slot end [] low apart = (omega arith, omega arith, omega (arith, low), tt)
before_apart slot end (run ∷ runs) low apart = begun slot end run runs (run.first == suc slot) refl low apart

pub runs_apart : (first : ℕ) (slots : List (Option ℤ)) (end : ℕ) → first + length slots ≤ end → AreApart end first (runs_from first slots)
unfolding runs_from
runs_apart first [] end within = tt
runs_apart first (None ∷ slots) end within = apart_from end (suc first) first (runs_from (suc first) slots) (omega arith)
    (runs_apart (suc first) slots end (omega (arith, within)))
runs_apart first (Some v ∷ slots) end within = before_apart first end (runs_from (suc first) slots) (omega (arith, within))
    (runs_apart (suc first) slots end (omega (arith, within)))

-- how many slots runs have
abbrev pub slots_in : List SlotRun → ℕ
slots_in [] = 0
slots_in (run ∷ runs) = (run.end - run.first) + slots_in runs

counted : (slot end : ℕ) (run : SlotRun) (runs : List SlotRun) (b : Bool) → run.first == suc slot ≡ b → AreApart end (suc slot) (run ∷ runs)
    → slots_in (cond b (record run { first = slot } ∷ runs) (run_of slot ∷ run ∷ runs)) ≡ suc (slots_in (run ∷ runs))
counted slot end run runs true is (first, some, within, more) = omega (arith, eqb-true run.first (suc slot) is, some)
counted slot end run runs false is apart = omega arith

before_count : (slot end : ℕ) (runs : List SlotRun) → AreApart end (suc slot) runs → slots_in (before_runs slot runs) ≡ suc (slots_in runs)
before_count slot end [] apart = omega arith
before_count slot end (run ∷ runs) apart = counted slot end run runs (run.first == suc slot) refl apart

pub runs_count : (first : ℕ) (slots : List (Option ℤ)) → slots_in (runs_from first slots) ≡ length (stored slots)
unfolding runs_from stored
runs_count first [] = refl
runs_count first (None ∷ slots) = runs_count (suc first) slots
runs_count first (Some v ∷ slots) =
    before_count first (suc first + length slots) (runs_from (suc first) slots)
    (runs_apart (suc first) slots (suc first + length slots) (omega arith)) ∙ ap (λ n. suc n) (runs_count (suc first) slots)

least : (a b n : ℕ) → n ≤ a → n ≤ b → n ≤ lesser a b
least a b n one two = cond_both (leb a b) a b (λ x. n ≤ x) (λ is. one) (λ is. two)

pub runs_fit : (start end from behind limit left : ℕ) (runs : List SlotRun) → from ≤ behind → start ≤ behind → AreApart end behind runs
    → end ≤ limit → end ≤ start + 4096 → slots_in runs ≡ left → FitRuns from limit left (map run_in runs)
runs_fit start end from behind limit left [] low base apart high near count = sym count
runs_fit start end from behind limit left (run ∷ runs) low base (first, some, within, more) high near count = (
  record {
    behind = omega (arith, low, first);
    some = omega (arith, some);
    before = omega (arith, some, within, high);
    room = omega (arith, count);
  },
  runs_fit start end (run.first + (run.end - run.first) + 1) (suc run.end) (lesser limit (run.first + 4096))
      (left - (run.end - run.first)) runs
      (omega (arith, some)) (omega (arith, base, first, some)) more
      (least limit (run.first + 4096) end high (omega (arith, base, first, near))) near (omega (arith, count)),
)
