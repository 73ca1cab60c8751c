-- The commands that take no input did as their pages say.
use Rattle.std.proofs.Common.{◌≡◌, ℕ, ◌<◌, ◌⊎◌, List, Option, sym, subst, arith, inl, inr}
use Rattle.block_disk.specs.Counts.{HasRisen}
use Rattle.block_disk.specs.View.{View}
use Rattle.run_ends.specs.Statuses.{code_of}
use Rattle.run_ends.specs.declared.ending.End.{End}
use Rattle.run_ends.specs.declared.ending.End.TheVariants.{Done, NoMemory, SendFault, DiskFault, DamagedBlock, DamagedPage}
use Rattle.run_ends.specs.declared.ending.End.TheVariants.{Missing, BadCoefficient, TooSmall, IsStore, UnknownSeries}
use Rattle.series_export.specs.declared.window.Window.{Window}
use Rattle.store_commands.specs.Away.{IsTurnedAway}
use Rattle.store_commands.specs.Checked.{CheckEnds, IsCheckEnd}
use Rattle.demo_workload.specs.Demonstrated.{DemoEnds, IsDemoEnd}
use Rattle.store_commands.specs.Exported.{ExportEnds, ExportsPart, IsExportEnd}
use Rattle.store_commands.specs.Listed.{IsListEnd, ListEnds}
use Rattle.store_commands.specs.Unopened.{IsUnopenedEnd}
use Rattle.chart_program.specs.Check.{CheckDoes, OfCheck}
use Rattle.chart_program.specs.Course.{Course, FoundDamaged, HeldNoBook, IsDoneOrCut, SentNothing, StandsOn, TookNothing, count}
use Rattle.chart_program.specs.Demo.{DemoDoes, OfDemo}
use Rattle.chart_program.specs.Export.{ExportDoes, HoldsNamed, OfExport}
use Rattle.chart_program.specs.Init.{InitDoes, IsFree, IsMadeOrCut, LeavesMade, OfInit}
use Rattle.chart_program.specs.ListSeries.{ListDoes, OfList}
use Rattle.chart_program.specs.Ran.{IsInitEnd}
use Rattle.chart_program.proofs.CommandsEnd.{small_never}
use Rattle.chart_program.proofs.InitLemmas.{init_keeps, init_leaves}

-- with good input it is done, a stream fails, or there is no memory: so where no store is opened
pub unopened_good : (old new : View) → StandsOn old new → (end : End) → IsUnopenedEnd end old new → IsDoneOrCut end
unopened_good old new r NoMemory is = tt
unopened_good old new r DiskFault is = absurd (r.whole is)
unopened_good old new r (DamagedBlock block) is = absurd (is.1 r.total r.book r.holds)
unopened_good old new r (TooSmall blocks) is = absurd (small_never old r.total r.book r.holds (omega (arith, is.1)))
unopened_good old new r end is = absurd is

-- a disk that is too small turned the command away
abbrev Away : Course → End → Type 0
Away c end = c.old.size < 128 → IsTurnedAway c.left c.left_now c.sent c.sent_now (code_of end)

module _ (c : Course) (sends sends_now : ℕ) where
  found : (block : ℕ) → IsUnopenedEnd (DamagedBlock block) c.old c.new → SentNothing c → TookNothing c → FoundDamaged c block × HeldNoBook c
  found block is quiet took = (record { at_first = is.0; took_nothing = took; sent_nothing = quiet }, is.1)

  -- ---- `list`

  list_does : TookNothing c → (end : End) → IsListEnd end c.old c.new c.sent c.sent_now sends sends_now → ListDoes c end
  list_does took Done is = is
  list_does took NoMemory is = is.1
  list_does took SendFault is = is.1
  list_does took DiskFault is = is.1
  list_does took (DamagedBlock block) is = found block is.0 is.1 took
  list_does took (TooSmall blocks) is = is.0
  list_does took end is = absurd is.0

  pub list_good : StandsOn c.old c.new → (end : End) → IsListEnd end c.old c.new c.sent c.sent_now sends sends_now → IsDoneOrCut end
  list_good r Done is = tt
  list_good r SendFault is = tt
  list_good r end is = unopened_good c.old c.new r end is.0

  pub of_list : (end : End) → ListEnds c.old c.new c.sent c.sent_now sends sends_now end → Away c end → TookNothing c → OfList c end
  of_list end e away took = record {
    does = list_does took end e.is;
    store = record { goes_on = e.goes_on; away = away };
    untaken = took;
    kept = record { holds = e.holds; crash = e.crash };
    few = e.few;
    records = e.records;
    reads = e.reads;
    good = λ r. list_good r end e.is;
  }

  -- ---- `check`

  check_does : TookNothing c → (end : End) → IsCheckEnd end c.old c.new c.sent c.sent_now sends sends_now → CheckDoes c end
  check_does took Done is = is
  check_does took NoMemory is = is.1
  check_does took SendFault is = is.1
  check_does took DiskFault is = is.1
  check_does took (DamagedBlock block) is = found block is.0 is.1 took
  check_does took (DamagedPage page) is = is
  check_does took (TooSmall blocks) is = is.0
  check_does took end is = absurd is.0

  pub check_good : StandsOn c.old c.new → (end : End) → IsCheckEnd end c.old c.new c.sent c.sent_now sends sends_now → IsDoneOrCut end
  check_good r Done is = tt
  check_good r SendFault is = tt
  check_good r (DamagedPage page) is = absurd (is.1 r.total r.book r.holds)
  check_good r end is = unopened_good c.old c.new r end is.0

  pub of_check : (end : End) → CheckEnds c.old c.new c.sent c.sent_now sends sends_now end → Away c end → TookNothing c → OfCheck c end
  of_check end e away took = record {
    does = check_does took end e.is;
    store = record { goes_on = e.goes_on; away = away };
    untaken = took;
    kept = record { holds = e.holds; crash = e.crash };
    reads = e.reads;
    few = e.few;
    good = λ r. check_good r end e.is;
  }

  -- ---- `demo`

  module _ (seed rounds : ℕ) where
    demo_does : TookNothing c → (end : End) → IsDemoEnd end seed rounds c.old c.new c.sent c.sent_now sends sends_now
        → DemoDoes seed rounds c end
    demo_does took Done is = is
    demo_does took NoMemory is = is
    demo_does took SendFault is = is.1
    demo_does took DiskFault is = is.1
    demo_does took (DamagedBlock block) is = found block is.0 is.1 took
    demo_does took (DamagedPage page) is = is
    demo_does took (Missing number) is = is
    demo_does took (BadCoefficient number) is = is
    demo_does took (TooSmall blocks) is = is.0
    demo_does took end is = absurd is.0

    pub demo_good : StandsOn c.old c.new → (end : End) → IsDemoEnd end seed rounds c.old c.new c.sent c.sent_now sends sends_now
        → IsDoneOrCut end
    demo_good r Done is = tt
    demo_good r NoMemory is = tt
    demo_good r SendFault is = tt
    demo_good r (DamagedPage page) is = absurd (is.1 r.total r.book r.holds)
    demo_good r (Missing number) is = absurd (is.0 r.total r.book r.holds)
    demo_good r (BadCoefficient number) is = absurd (is.0 r.total r.book r.holds)
    demo_good r end is = unopened_good c.old c.new r end is.0

    pub of_demo : (end : End) → DemoEnds seed rounds c.old c.new c.sent c.sent_now sends sends_now end → Away c end → TookNothing c
        → OfDemo seed rounds c end
    of_demo end e away took = record {
      does = demo_does took end e.is;
      store = record { goes_on = e.goes_on; away = away };
      untaken = took;
      crash = e.crash;
      costs = e.costs;
      reads = e.reads;
      good = λ r. demo_good r end e.is;
    }

  -- ---- `export`

  module _ (name : List ℕ) (window : Option Window) where
    export_does : TookNothing c → (end : End) → IsExportEnd end name window c.old c.new c.sent c.sent_now sends sends_now
        → ExportsPart name window (count c) c.old c.sent c.sent_now → ExportDoes name window c end
    export_does took Done is part = is
    export_does took NoMemory is part = part
    export_does took SendFault is part = part
    export_does took DiskFault is part = part
    export_does took (DamagedBlock block) is part = found block is.0 is.1 took
    export_does took (DamagedPage page) is part = is
    export_does took (TooSmall blocks) is part = is.0
    export_does took UnknownSeries is part = is
    export_does took end is part = absurd is.0

    pub export_good : HoldsNamed name c.old c.new → (end : End) → IsExportEnd end name window c.old c.new c.sent c.sent_now sends sends_now
        → IsDoneOrCut end
    export_good r Done is = tt
    export_good r NoMemory is = tt
    export_good r SendFault is = tt
    export_good r DiskFault is = absurd (r.whole is)
    export_good r (DamagedPage page) is = absurd (is.1 r.total r.book r.holds)
    export_good r UnknownSeries is = absurd (is.0 r.total r.book r.holds r.series r.named)
    export_good r end is = unopened_good c.old c.new (record { total = r.total; book = r.book; holds = r.holds; whole = r.whole }) end is.0

    pub of_export : (end : End) → ExportEnds name window c.old c.new c.sent c.sent_now sends sends_now end → Away c end → TookNothing c
        → OfExport name window c end
    of_export end e away took = record {
      does = export_does took end e.is e.part;
      store = record { goes_on = e.goes_on; away = away };
      untaken = took;
      unnamed = e.unnamed;
      lacks = e.lacks;
      kept = record { holds = e.holds; crash = e.crash };
      few = e.few;
      reads = e.reads;
      salvaged = e.salvaged;
      held_reads = e.held_reads;
      good = λ r. export_good r end e.is;
    }

-- ---- `init`

module _ (c : Course) where
  init_does : (end : End) → IsInitEnd end c.old c.new → InitDoes c end
  init_does Done is = is
  init_does NoMemory is = tt
  init_does DiskFault is = tt
  init_does (TooSmall blocks) is = is
  init_does IsStore is = is
  init_does end is = absurd is

  made_or_cut : (end : End) → (end ≡ Done) ⊎ (end ≡ NoMemory) → IsMadeOrCut end
  made_or_cut end (inl is) = subst IsMadeOrCut (sym is) tt
  made_or_cut end (inr is) = subst IsMadeOrCut (sym is) tt

  pub of_init : (end : End) → IsInitEnd end c.old c.new → Away c end → TookNothing c → SentNothing c → LeavesMade c.old c.new
      → (IsFree c.old → (HasRisen c.old.faults c.new.faults → ⊥) → (end ≡ Done) ⊎ (end ≡ NoMemory)) → OfInit c end
  of_init end is away took quiet leaves ready = record {
    does = init_does end is;
    untaken = took;
    sent_nothing = quiet;
    leaves = leaves;
    kept = record { holds = init_keeps c.old c.new leaves; crash = init_leaves c.old c.new leaves };
    away = away;
    ready = λ free whole. made_or_cut end (ready free whole);
  }
