-- The frame of a piece, and its rules.
use Rattle.std.proofs.Common.{◌≡◌, ℕ, ℤ, suc, pos, ◌+ℤ◌, ◌≤ℤ◌, ◌+◌, ◌-◌, ◌*◌, ◌<◌, ◌≤◌, Bool, false, ltb, List, [], ◌∷◌, map, length, All}
use Rattle.std.proofs.Common.{Option, None, Some, refl, sym, ap, subst, arith, ◌∙◌}
use Rattle.std.specs.Prelude.{if◌then◌else◌}
use Rattle.std.proofs.lemmas.Int.{ints}
use Rattle.std.proofs.lemmas.List.Elements.{All-cons}
use Rattle.whole_number.specs.declared.limits.TheConstants.{GREATEST_TIME}
use Rattle.whole_number.specs.Range.{IsTime, IsValue}
use Rattle.chart_frames.specs.declared.limits.TheConstants.{MOST_SLOTS}
use Rattle.chart_frames.specs.declared.reports.Run.{Run}
use Rattle.chart_frames.specs.Frames.{FitsValues, FitRuns}
use Rattle.retention.specs.Sweeps.{slots_before}
use Rattle.series_book.specs.declared.one_series.Series.{Series}
use Rattle.series_store.specs.Windows.{runs_from, stored, window, piece_end, IsPiece, AreOf, AreOfSome}
use Rattle.series_store.specs.declared.slot_run.SlotRun.{SlotRun}
use Rattle.series_store.specs.declared.window_values.WindowValues.{WindowValues}
use Rattle.host_reports.specs.Reports.{run_in, AreInOrder, time_left, piece_frame, values_of}
use Rattle.host_reports.proofs.RunLemmas.{AreApart, runs_apart, runs_count, runs_fit}

-- a time of a slot is a time
pub far_time : (start : ℤ) (n : ℕ) → IsValue start → (start +ℤ pos n) ≤ℤ pos GREATEST_TIME → IsTime (start +ℤ pos n)
far_time start n near early = grind (arith, ints, near, early)

in_order : (end from : ℕ) (runs : List SlotRun) → AreApart end from runs → AreInOrder runs
in_order end from [] apart = λ k d low. absurd (omega (arith, low))
in_order end from (run ∷ runs) (
  first,
  some,
  within,
  more,
) = All-cons (λ (r : SlotRun). r.first ≤ r.end) run runs (omega (arith, some)) (in_order end (suc run.end) runs more)

pub some_in_order : (from count : ℕ) (w : WindowValues) → AreOfSome from count w → AreInOrder w.runs.items
some_in_order from count w are =
    subst AreInOrder (sym are.are.runs) (in_order (from + length are.slots) from (runs_from from are.slots)
    (runs_apart from are.slots (from + length are.slots) (omega arith)))

stored_few : (slots : List (Option ℤ)) → length (stored slots) ≤ length slots
unfolding stored
stored_few [] = omega arith
stored_few (None ∷ slots) = omega (arith, stored_few slots)
stored_few (Some v ∷ slots) = omega (arith, stored_few slots)

piece_few : (from end : ℕ) → IsPiece from end → end - from ≤ 4096
piece_few from end piece = omega (arith, piece)

pub values_fit : (id from end : ℕ) (more : Bool) (next : ℤ) (runs : List Run) (values : List ℤ) (w : WindowValues) → id < 512 → IsTime next
    → (more ≡ false → next ≡ pos 0) → IsPiece from end → from ≤ MOST_SLOTS → end ≤ MOST_SLOTS
    → AreOfSome from (end - from) w → runs ≡ map run_in w.runs.items → values ≡ w.stored.items
    → FitsValues (record { series = id; more = more; next = next; runs = runs; values = values })
values_fit id from end more next runs values w low time none piece begin within are runs_are values_are =
    let slots = are.slots in
    let is : values ≡ stored slots = values_are ∙ are.are.values_are in
    let few : length slots ≤ 4096 = omega (arith, are.long, piece_few from end piece) in
    let count : length values ≡ length (stored slots) = ap length is in
    let R : List Run → Type 0 = λ l. FitRuns 0 MOST_SLOTS (length values) l in
    let last = from + length slots in
    record {
      known = low;
      next = time;
      none_left = none;
      most = omega (arith, count, stored_few slots, few);
      runs = subst R (sym (runs_are ∙ ap (λ l. map run_in l) are.are.runs))
          (runs_fit from last 0 from MOST_SLOTS (length values) (runs_from from slots) (omega arith) (omega arith)
          (runs_apart from slots last (omega arith)) (omega (arith, are.long, begin, within)) (omega (arith, few))
          (runs_count from slots ∙ sym count));
      values = subst (All IsValue) (sym values_are) are.in_range;
    }

pub values_same : (id : ℕ) (series : Series) (t0 t1 : ℤ) (from to end : ℕ) (next : ℤ) (runs : List Run) (values : List ℤ) (w : WindowValues)
    → from ≡ slots_before series t0 → to ≡ slots_before series t1 → end ≡ piece_end from to
    → next ≡ time_left series.start series.step end to → runs ≡ map run_in w.runs.items → values ≡ w.stored.items
    → AreOf from (window series.slots from end) w
    → record { series = id; more = ltb end to; next = next; runs = runs; values = values } ≡ values_of id series t0 t1
values_same id series t0 t1 from to end next runs values w from_is to_is end_is next_is runs_are values_are are =
    here
    ∙ ap (λ e. piece_frame id series from to e) end_is
    ∙ ap (λ f. piece_frame id series f to (piece_end f to)) from_is
    ∙ ap (λ t. piece_frame id series (slots_before series t0) t (piece_end (slots_before series t0) t)) to_is
  where
    here : record { series = id; more = ltb end to; next = next; runs = runs; values = values } ≡ piece_frame id series from to end
    here = λ i. record {
      series = id;
      more = ltb end to;
      next = next_is i;
      runs = (runs_are ∙ ap (λ l. map run_in l) are.runs) i;
      values = (values_are ∙ are.values_are) i;
    }

-- where no slots are left there is no time
pub none_left : (start : ℤ) (step end to : ℕ) → ltb end to ≡ false → time_left start step end to ≡ pos 0
none_left start step end to none = by (ltb end to) none
  where
    by : (b : Bool) → b ≡ false → (if b then start +ℤ pos (end * step) else pos 0) ≡ pos 0
    by b is = rw is refl
