-- The commands that take no input, but `init`, end as their own clauses say.
use Rattle.std.proofs.Common.{◌≡◌, ◌≢◌, ℕ, ◌<◌, List, Option, refl, ap, arith, inl, inr}
use Rattle.std.specs.Prelude.{Contains}
use Rattle.block_disk.specs.View.{View}
use Rattle.gate_pages.specs.Journal.{page_count}
use Rattle.series_export.specs.declared.window.Window.{Window}
use Rattle.run_ends.specs.Statuses.{code_of, place_of}
use Rattle.run_ends.specs.declared.ending.End.{End}
use Rattle.run_ends.specs.declared.ending.End.TheVariants.{Done, NoMemory, SendFault, DiskFault, DamagedBlock, DamagedPage}
use Rattle.run_ends.specs.declared.ending.End.TheVariants.{Missing, BadCoefficient, TooSmall, UnknownSeries}
use Rattle.store_commands.specs.Away.{IsTurnedAway}
use Rattle.store_commands.specs.Books.{HoldsAgain}
use Rattle.store_commands.specs.Checked.{CheckEnds, IsCheckEnd}
use Rattle.demo_workload.specs.Demonstrated.{DemoEnds, IsDemoEnd}
use Rattle.store_commands.specs.Exported.{ExportEnds, ExportsPart, IsExportEnd}
use Rattle.store_commands.specs.Listed.{IsListEnd, ListEnds}
use Rattle.program_words.specs.declared.words.Command.TheVariants.{Check, Demo, Export, ListSeries}
use Rattle.chart_program.specs.CommandStatuses.{codes_of}
use Rattle.chart_program.specs.Course.{Course}
use Rattle.chart_program.specs.Served.{Faults}
use Rattle.chart_program.specs.Ran.{CommandEnds}
use Rattle.chart_program.proofs.Codes.{told_all}
use Rattle.chart_program.proofs.CommandsEnd.{all_told}
use Rattle.chart_program.proofs.Counts.{told_any}
use Rattle.chart_program.proofs.EndsByCode.{Came, by_code, done_codes, unnamed_codes}
use Rattle.chart_program.proofs.StorePages.{check_good, demo_good, export_good, list_good}

module _ (old new : View) (left left' before now : Option (List ℕ)) (faults : Faults) where
  abbrev at : Course
  at = record { old = old; new = new; left = left; left_now = left'; sent = before; sent_now = now }

  -- ---- `list`

  list_came : (end : End) → IsListEnd end old new before now faults.sends faults.sends_now
      → Came ListSeries old new left left' before now faults end
  list_came Done is = (told_all left _ tt, told_all left _ is, tt)
  list_came NoMemory is = told_all left _ is.1
  list_came SendFault is = (is.0, told_all left _ is.1)
  list_came DiskFault is = (is.0, told_all left _ is.1)
  list_came (DamagedBlock block) is = (is.0.0, told_all left _ is.0.1, is.1)
  list_came (TooSmall blocks) is = is.0
  list_came end is = absurd is.0

  list_own : (end : End) → IsListEnd end old new before now faults.sends faults.sends_now → Contains (codes_of ListSeries) (code_of end)
  list_own Done is = (0, omega arith, refl)
  list_own NoMemory is = (1, omega arith, refl)
  list_own SendFault is = (2, omega arith, refl)
  list_own DiskFault is = (3, omega arith, refl)
  list_own (DamagedBlock block) is = (4, omega arith, refl)
  list_own (TooSmall blocks) is = (5, omega arith, refl)
  list_own end is = absurd is.0

  list_unsent : (end : End) → IsListEnd end old new before now faults.sends faults.sends_now → code_of end ≢ 0 → code_of end ≢ 5
      → now ≡ before
  list_unsent Done is whole part = absurd (whole refl)
  list_unsent SendFault is whole part = absurd (part refl)
  list_unsent end is whole part = is.1

  pub list_ends : (end : End) → ListEnds old new before now faults.sends faults.sends_now end
      → (old.size < 128 → IsTurnedAway left left' before now (code_of end)) → left' ≡ left
      → CommandEnds ListSeries old new left left' before now faults (code_of end) (place_of end)
  list_ends end e away untaken = by_code ListSeries old new left left' before now faults end (record {
    came = list_came end e.is;
    own = list_own end e.is;
    away = λ over. away;
    untaken = λ none. untaken;
    reads = e.reads;
    reads_lines = told_any left;
    syncs = told_any left;
    unnamed = tt;
    nothing = λ whole part quiet. list_unsent end e.is whole part;
    pictures = λ is command. cc;
    holds = λ other. told_all left _ (λ total book held. (book, e.holds total book held));
    crash = all_told left before _ e.crash;
    disk = e.goes_on;
    honest = e.honest;
    complete = told_all left _ (λ good. done_codes end (list_good at faults.sends faults.sends_now good end e.is));
    drawn = λ command. cc;
    ready = λ command. cc;
  })

  -- ---- `check`

  check_came : (end : End) → IsCheckEnd end old new before now faults.sends faults.sends_now
      → Came Check old new left left' before now faults end
  check_came Done is = (told_all left _ tt, told_all left _ is, tt)
  check_came NoMemory is = told_all left _ is.1
  check_came SendFault is = (is.0, told_all left _ is.1)
  check_came DiskFault is = (is.0, told_all left _ is.1)
  check_came (DamagedBlock block) is = (inl is.0.0, told_all left _ is.0.1, is.1)
  check_came (DamagedPage page) is = (inr is.0, told_all left _ is.1, is.2)
  check_came (TooSmall blocks) is = is.0
  check_came end is = absurd is.0

  check_own : (end : End) → IsCheckEnd end old new before now faults.sends faults.sends_now → Contains (codes_of Check) (code_of end)
  check_own Done is = (0, omega arith, refl)
  check_own NoMemory is = (1, omega arith, refl)
  check_own SendFault is = (2, omega arith, refl)
  check_own DiskFault is = (3, omega arith, refl)
  check_own (DamagedBlock block) is = (4, omega arith, refl)
  check_own (DamagedPage page) is = (4, omega arith, refl)
  check_own (TooSmall blocks) is = (5, omega arith, refl)
  check_own end is = absurd is.0

  check_unsent : (end : End) → IsCheckEnd end old new before now faults.sends faults.sends_now → code_of end ≢ 0 → code_of end ≢ 5
      → now ≡ before
  check_unsent Done is whole part = absurd (whole refl)
  check_unsent SendFault is whole part = absurd (part refl)
  check_unsent (DamagedPage page) is whole part = is.2
  check_unsent end is whole part = is.1

  pub check_ends : (end : End) → CheckEnds old new before now faults.sends faults.sends_now end
      → (old.size < 128 → IsTurnedAway left left' before now (code_of end)) → left' ≡ left
      → CommandEnds Check old new left left' before now faults (code_of end) (place_of end)
  check_ends end e away untaken = by_code Check old new left left' before now faults end (record {
    came = check_came end e.is;
    own = check_own end e.is;
    away = λ over. away;
    untaken = λ none. untaken;
    reads = e.reads;
    reads_lines = told_any left;
    syncs = told_any left;
    unnamed = tt;
    nothing = λ whole part quiet. check_unsent end e.is whole part;
    pictures = λ is command. cc;
    holds = λ other. told_all left _ (λ total book held. (book, e.holds total book held));
    crash = all_told left before _ e.crash;
    disk = e.goes_on;
    honest = e.honest;
    complete = told_all left _ (λ good. done_codes end (check_good at faults.sends faults.sends_now good end e.is));
    drawn = λ command. cc;
    ready = λ command. cc;
  })

  -- ---- `demo`

  module _ (seed rounds : ℕ) where
    demo_came : (end : End) → IsDemoEnd end seed rounds old new before now faults.sends faults.sends_now
        → Came (Demo seed rounds) old new left left' before now faults end
    demo_came Done is = (told_all left _ tt, told_all left _ is, tt)
    demo_came NoMemory is = told_all left _ is.0
    demo_came SendFault is = (is.0, told_all left _ is.1)
    demo_came DiskFault is = (is.0, told_all left _ is.1)
    demo_came (DamagedBlock block) is = (inl is.0.0, told_all left _ is.0.1, is.1)
    demo_came (DamagedPage page) is = (inr is.0, told_all left _ is.1, is.2)
    demo_came (Missing key) is = told_all left _ (is.0, is.1)
    demo_came (BadCoefficient key) is = told_all left _ (is.0, is.1)
    demo_came (TooSmall blocks) is = is.0
    demo_came end is = absurd is.0

    demo_own : (end : End) → IsDemoEnd end seed rounds old new before now faults.sends faults.sends_now
        → Contains (codes_of (Demo seed rounds)) (code_of end)
    demo_own Done is = (0, omega arith, refl)
    demo_own NoMemory is = (1, omega arith, refl)
    demo_own SendFault is = (2, omega arith, refl)
    demo_own DiskFault is = (3, omega arith, refl)
    demo_own (DamagedBlock block) is = (4, omega arith, refl)
    demo_own (DamagedPage page) is = (4, omega arith, refl)
    demo_own (Missing key) is = (5, omega arith, refl)
    demo_own (BadCoefficient key) is = (6, omega arith, refl)
    demo_own (TooSmall blocks) is = (7, omega arith, refl)
    demo_own end is = absurd is.0

    demo_unsent : (end : End) → IsDemoEnd end seed rounds old new before now faults.sends faults.sends_now → code_of end ≢ 0
        → code_of end ≢ 5 → now ≡ before
    demo_unsent Done is whole part = absurd (whole refl)
    demo_unsent SendFault is whole part = absurd (part refl)
    demo_unsent (DamagedPage page) is whole part = is.2
    demo_unsent (Missing key) is whole part = is.2
    demo_unsent (BadCoefficient key) is whole part = is.2
    demo_unsent end is whole part = is.1

    pub demo_ends : (end : End) → DemoEnds seed rounds old new before now faults.sends faults.sends_now end
        → (old.size < 128 → IsTurnedAway left left' before now (code_of end)) → left' ≡ left
        → (end ≢ DiskFault → HoldsAgain (page_count old.size) old new)
        → CommandEnds (Demo seed rounds) old new left left' before now faults (code_of end) (place_of end)
    demo_ends end e away untaken holds = by_code (Demo seed rounds) old new left left' before now faults end (record {
      came = demo_came end e.is;
      own = demo_own end e.is;
      away = λ over. away;
      untaken = λ none. untaken;
      reads = tt;
      reads_lines = told_any left;
      syncs = told_any left;
      unnamed = tt;
      nothing = λ whole part quiet. demo_unsent end e.is whole part;
      pictures = λ is command. cc;
      holds = λ other. told_all left _ (holds (λ is. other (ap (λ (x : End). code_of x) is)));
      crash = all_told left before _ e.crash;
      disk = e.goes_on;
      honest = e.honest;
      complete = told_all left _ (λ good. done_codes end (demo_good at faults.sends faults.sends_now seed rounds good end e.is));
      drawn = λ command. cc;
      ready = λ command. cc;
    })

  -- ---- `export`

  module _ (name : List ℕ) (window : Option Window) where
    export_came : (end : End) → IsExportEnd end name window old new before now faults.sends faults.sends_now
        → ExportsPart name window (page_count old.size) old before now → Came (Export name window) old new left left' before now faults end
    export_came Done is part = (told_all left _ tt, told_all left _ is, tt)
    export_came NoMemory is part = told_all left _ part
    export_came SendFault is part = (is, told_all left _ part)
    export_came DiskFault is part = (is, told_all left _ part)
    export_came (DamagedBlock block) is part = (inl is.0.0, told_all left _ is.0.1, inl (is.0.0, is.1))
    export_came (DamagedPage page) is part = (inr is.0, told_all left _ is.1, inr is.0)
    export_came (TooSmall blocks) is part = is.0
    export_came UnknownSeries is part = (is.1, told_all left _ (refl, is.0))
    export_came end is part = absurd is.0

    export_own : (end : End) → IsExportEnd end name window old new before now faults.sends faults.sends_now
        → Contains (codes_of (Export name window)) (code_of end)
    export_own Done is = (0, omega arith, refl)
    export_own NoMemory is = (1, omega arith, refl)
    export_own SendFault is = (2, omega arith, refl)
    export_own DiskFault is = (3, omega arith, refl)
    export_own (DamagedBlock block) is = (4, omega arith, refl)
    export_own (DamagedPage page) is = (4, omega arith, refl)
    export_own (TooSmall blocks) is = (5, omega arith, refl)
    export_own UnknownSeries is = (6, omega arith, refl)
    export_own end is = absurd is.0

    pub export_ends : (end : End) → ExportEnds name window old new before now faults.sends faults.sends_now end
        → (old.size < 128 → IsTurnedAway left left' before now (code_of end)) → left' ≡ left
        → CommandEnds (Export name window) old new left left' before now faults (code_of end) (place_of end)
    export_ends end e away untaken = by_code (Export name window) old new left left' before now faults end (record {
      came = export_came end e.is e.part;
      own = export_own end e.is;
      away = λ over. away;
      untaken = λ none. untaken;
      reads = e.reads;
      reads_lines = told_any left;
      syncs = told_any left;
      unnamed = λ total book holds none. unnamed_codes end (e.unnamed total book holds none);
      nothing = λ whole part quiet. absurd (quiet tt);
      pictures = λ is command. cc;
      holds = λ other. told_all left _ (λ total book held. (book, e.holds total book held));
      crash = all_told left before _ e.crash;
      disk = e.goes_on;
      honest = e.honest;
      complete = told_all left _ (λ good. done_codes end (export_good at faults.sends faults.sends_now name window good end e.is));
      drawn = λ command. cc;
      ready = λ command. cc;
    })
