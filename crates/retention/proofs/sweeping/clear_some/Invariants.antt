use Rattle.std.proofs.Common.{ℕ, List, None, ◌+◌, ◌*◌, ◌-◌, ◌≤◌}
use Rattle.chart_world.specs.Faults.{CountsFault}
use Rattle.series_book.specs.declared.one_series.Series.{Series}
use Rattle.series_store.specs.Shown as shown
use Rattle.stored_book.specs.Standing.{StandsForBook}
use Rattle.retention.specs.Moving.{CarriesOn, clear_reads}
use Rattle.retention.specs.Sweeping.{Commits}
use Rattle.retention.proofs.SweepLemmas.{Going}
use Rattle.retention.proofs.sweeping.clear_some.Given as goal

-- the clears so far were done
abbrev pub invariant-clearing : goal.invariant-clearing
invariant-clearing g l = record {
  sound : shown.IsSound l.store;
  carries : CarriesOn l.initial.store l.store;
  quiet : CountsFault None (shown.view l.initial.store) (shown.view l.store);
  few : l.clears ≤ l.most;
  commits : Commits l.clears l.initial.store l.store;
  reads : (shown.view l.store).reads ≤ (shown.view l.initial.store).reads + clear_reads * l.clears;
  going : (total : ℕ) (book : List Series) → shown.IsTold l.initial.store → StandsForBook (shown.image l.initial.store) total book
      → Going total book l.rule l.most l.clears (shown.view l.initial.store) (shown.view l.store);
}

abbrev pub decreases-clearing : goal.decreases-clearing
decreases-clearing g l = l.most - l.clears
