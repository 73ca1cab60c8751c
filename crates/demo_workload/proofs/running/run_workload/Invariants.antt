use Rattle.std.proofs.Common.{ℕ, ◌≡◌, ◌+◌, ◌≤◌, List, [], None, length}
use Rattle.block_disk.specs.View.{Passes}
use Rattle.chart_world.specs.Faults.{CountsFault}
use Rattle.gate_pages.specs.Pages.{GoesOn, Quiet}
use Rattle.series_book.specs.declared.one_series.Series.{Series}
use Rattle.stored_book.specs.Standing.{StandsForBook}
use Rattle.chart_service.specs.Stepping.{state_of}
use Rattle.chart_service.specs.Shown as shown
use Rattle.demo_workload.specs.Workload.{workload}
use Rattle.demo_workload.specs.Reading.{most_reads}
use Rattle.demo_workload.specs.Summaries.{IsSmall}
use Rattle.demo_workload.specs.Replying.{IsPartWay}
use Rattle.demo_workload.specs.Ending.{CostsRequests, Runs}
use Rattle.demo_workload.specs.Answering.{KnowsOpen, HasAccepted, Reaches}
use Rattle.demo_workload.proofs.FewReads.{AreOfDemo}
use Rattle.demo_workload.proofs.running.run_workload.Given as goal

-- the requests so far are answered
abbrev pub invariant-requests : goal.invariant-requests
invariant-requests g l = record {
  fit : (shown.view l.service).fit;
  small : IsSmall l.summary;
  few : l.summary.requests + length l.workload ≤ 12290;
  counted : l.summary.requests + length l.workload ≡ length (workload l.fn.seed l.fn.count);
  costs : CostsRequests l.summary.requests (shown.view l.fn.service) (shown.view l.service);
  knows : KnowsOpen l.service.sessions l.client;
  accepted : HasAccepted l.client;
  reaches : (total : ℕ) (book : List Series) → shown.IsTold l.fn.service → StandsForBook (shown.image l.fn.service) total book
      → Reaches (workload l.fn.seed l.fn.count) l.workload total (state_of book total [])
      (shown.image l.service) l.service.sessions l.client l.summary;
  moments : (total : ℕ) (book : List Series) → shown.IsTold l.fn.service → StandsForBook (shown.image l.fn.service) total book
      → Passes (shown.view l.fn.service) (shown.view l.service) (IsPartWay (workload l.fn.seed l.fn.count) total (state_of book total []))
      (Quiet (shown.view l.fn.service));
  are : AreOfDemo l.workload;
  reads : (total : ℕ) (book : List Series) → shown.IsTold l.fn.service → StandsForBook (shown.image l.fn.service) total book
      → (shown.view l.service).reads + most_reads l.workload ≤ (shown.view l.fn.service).reads + most_reads (workload l.fn.seed l.fn.count);
  faults : CountsFault None (shown.view l.fn.service) (shown.view l.service);
  runs : Runs (shown.IsTold l.fn.service) (shown.IsTold l.service) (shown.view l.fn.service) (shown.view l.service);
  goes_on : GoesOn (shown.under l.fn.service) (shown.under l.service);
  total : shown.total l.service ≡ shown.total l.fn.service;
}

abbrev pub decreases-requests : goal.decreases-requests
decreases-requests g l = length l.workload
