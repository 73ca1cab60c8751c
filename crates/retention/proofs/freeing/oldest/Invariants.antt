use Rattle.std.proofs.Common.{ℕ, ◌+◌, ◌*◌, ◌≤◌, List, None}
use Rattle.chart_world.specs.Faults.{CountsFault}
use Rattle.series_book.specs.declared.one_series.Series.{Series}
use Rattle.series_store.specs.Shown as shown
use Rattle.stored_book.specs.Standing.{StandsForBook}
use Rattle.retention.specs.Moving.{LooksOnly}
use Rattle.retention.specs.Sweeping.{AreKept}
use Rattle.retention.specs.Sweeps.{oldest_among}
use Rattle.retention.proofs.freeing.oldest.Given as goal

-- the oldest of the series so far
abbrev pub invariant-loop-id : goal.invariant-loop-id
invariant-loop-id g l = record {
  sound : shown.IsSound l.store;
  looks : LooksOnly l.initial.store l.store;
  quiet : CountsFault None (shown.view l.initial.store) (shown.view l.store);
  reads : (shown.view l.store).reads ≤ (shown.view l.initial.store).reads + 105 * l.id;
  best : (total : ℕ) (book : List Series) → shown.IsTold l.initial.store → StandsForBook (shown.image l.initial.store) total book
      → AreKept (oldest_among book l.id) l.best;
}
