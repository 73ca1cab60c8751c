-- The command `load` ends as its own clauses say.
use Rattle.std.proofs.Common.{◌≡◌, ◌≢◌, ℕ, zero, suc, ◌<◌, List, Option, Some, None, IfSome, refl, ap, arith, inl, inr}
use Rattle.std.specs.Prelude.{Contains}
use Rattle.block_disk.specs.View.{View}
use Rattle.disk_store.specs.Held.{HoldsBook}
use Rattle.gate_pages.specs.Journal.{page_count}
use Rattle.run_ends.specs.Statuses.{code_of, place_of, refused_at}
use Rattle.run_ends.specs.declared.ending.End.{End}
use Rattle.run_ends.specs.declared.ending.End.TheVariants.{Done, NoMemory, ReadFault, SendFault, DiskFault, DamagedBlock, DamagedPage}
use Rattle.run_ends.specs.declared.ending.End.TheVariants.{BadInput, InputTooLong, TooSmall, UnknownSeries, Refused}
use Rattle.store_commands.specs.Away.{IsTurnedAway}
use Rattle.store_commands.specs.Books.{HoldsAgain, OfBook}
use Rattle.store_commands.specs.Loaded.{HasNone, IsLoadEnd, LoadEnds, RefusesRun, Unnamed, unnamed_ends}
use Rattle.store_commands.specs.Traffic.{Traffic}
use Rattle.program_words.specs.declared.words.Command.TheVariants.{Load}
use Rattle.chart_program.specs.CommandStatuses.{codes_of}
use Rattle.chart_program.specs.Served.{Faults}
use Rattle.chart_program.specs.Ran.{AreReadings, CommandEnds, IsRefused}
use Rattle.chart_program.proofs.Codes.{told_all, told_long}
use Rattle.chart_program.proofs.CommandsEnd.{both_told}
use Rattle.chart_program.proofs.Counts.{told_any}
use Rattle.chart_program.proofs.EndsByCode.{Came, by_code, completes, unnamed_codes}
use Rattle.chart_program.proofs.LoadPage.{of_load}

-- a set is refused where a series has the name
refused_never : (at number : ℕ) → Contains unnamed_ends (Refused at number) → ⊥
refused_never at number (zero, inside, is) = cc
refused_never at number (suc zero, inside, is) = cc
refused_never at number (suc (suc zero), inside, is) = cc
refused_never at number (suc (suc (suc k)), inside, is) = absurd (omega (arith, inside))

module _ (name : List ℕ) (old new : View) (left left' before now : Option (List ℕ)) (faults : Faults) where
  abbrev passed : Traffic
  passed = record {
    left = left;
    left_now = left';
    sent = before;
    sent_now = now;
    reads = faults.reads;
    reads_now = faults.reads_now;
    sends = faults.sends;
    sends_now = faults.sends_now;
  }

  unknown_told : (l : Option (List ℕ)) → left' ≡ l → HasNone (page_count old.size) old name
      → OfBook (page_count old.size) old (λ total book. HoldsBook (page_count old.size) total book new)
      → IfSome l (λ input. IsRefused (Load name) old new input left' 8)
  unknown_told None same none holds = tt
  unknown_told (Some input) same none holds = (
    (λ total book held series named. absurd (none total book held series named)),
    (λ total book held unnamed. (refl, same, holds total book held)),
  )

  refused_told : (at number : ℕ) (l : Option (List ℕ)) → IfSome l (λ input. RefusesRun name (page_count old.size) old new input at number)
      → Unnamed (page_count old.size) old name (λ total book. Contains unnamed_ends (Refused at number))
      → IfSome l (λ input. IsRefused (Load name) old new input left' (refused_at at number))
  refused_told at number None refused unnamed = tt
  refused_told at number (Some input) refused unnamed = (
    (λ total book held series named.
        let is = refused total book held series named in
        (at, is.refusal, ap (λ n. refused_at at n) is.number_is, is.so)),
    (λ total book held none. absurd (refused_never at number (unnamed total book held none))),
  )

  load_came : (end : End) → IsLoadEnd end name old new passed
      → Unnamed (page_count old.size) old name (λ total book. Contains unnamed_ends end)
      → Came (Load name) old new left left' before now faults end
  load_came Done is unnamed = (is.0, is.1, tt)
  load_came NoMemory is unnamed = is.0
  load_came ReadFault is unnamed = (is.0, is.1)
  load_came SendFault is unnamed = is
  load_came DiskFault is unnamed = (is.0, told_all left _ is.1)
  load_came (DamagedBlock block) is unnamed = (inl is.0.0, told_all left _ is.0.1, is.2)
  load_came (DamagedPage page) is unnamed = (inr is.0, told_all left _ is.1, is.2)
  load_came (BadInput at) is unnamed = is.0
  load_came InputTooLong is unnamed = told_long left _ is.0 is.1
  load_came (TooSmall blocks) is unnamed = is.0
  load_came UnknownSeries is unnamed = (is.4, unknown_told left is.3 is.0 is.1)
  load_came (Refused at number) is unnamed = (is.1, refused_told at number left is.0 unnamed)
  load_came end is unnamed = absurd is.0

  load_own : (end : End) → IsLoadEnd end name old new passed → Contains (codes_of (Load name)) (code_of end)
  load_own Done is = (0, omega arith, refl)
  load_own NoMemory is = (1, omega arith, refl)
  load_own ReadFault is = (2, omega arith, refl)
  load_own SendFault is = (3, omega arith, refl)
  load_own DiskFault is = (4, omega arith, refl)
  load_own (DamagedBlock block) is = (5, omega arith, refl)
  load_own (DamagedPage page) is = (5, omega arith, refl)
  load_own (BadInput at) is = (6, omega arith, refl)
  load_own InputTooLong is = (7, omega arith, refl)
  load_own (TooSmall blocks) is = (8, omega arith, refl)
  load_own UnknownSeries is = (9, omega arith, refl)
  load_own (Refused at number) is = (9, omega arith, refl)
  load_own end is = absurd is.0

  load_unsent : (end : End) → IsLoadEnd end name old new passed → code_of end ≢ 0 → code_of end ≢ 5 → now ≡ before
  load_unsent Done is whole part = absurd (whole refl)
  load_unsent NoMemory is whole part = is.1
  load_unsent ReadFault is whole part = is.2
  load_unsent SendFault is whole part = absurd (part refl)
  load_unsent DiskFault is whole part = is.1
  load_unsent (BadInput at) is whole part = is.1
  load_unsent InputTooLong is whole part = is.2
  load_unsent UnknownSeries is whole part = is.4
  load_unsent (Refused at number) is whole part = is.1
  load_unsent end is whole part = is.2

  pub load_ends : (end : End) → LoadEnds name old new passed end → (old.size < 128 → IsTurnedAway left left' before now (code_of end))
      → (end ≢ DiskFault → HoldsAgain (page_count old.size) old new)
      → CommandEnds (Load name) old new left left' before now faults (code_of end) (place_of end)
  load_ends end e away holds = by_code (Load name) old new left left' before now faults end (record {
    came = load_came end e.is e.unnamed;
    own = load_own end e.is;
    away = λ over. away;
    untaken = λ none. absurd none;
    reads = tt;
    reads_lines = told_any left;
    syncs = told_any left;
    unnamed = λ total book held none. unnamed_codes end (e.unnamed total book held none);
    nothing = λ whole part quiet. load_unsent end e.is whole part;
    pictures = λ is command. cc;
    holds = λ other. told_all left _ (holds (λ is. other (ap (λ (x : End). code_of x) is)));
    crash = both_told left before _ _ e.crash e.kept;
    disk = e.goes_on;
    honest = e.honest;
    complete = completes left (λ input. AreReadings name old new input) end (of_load name old new passed end e away).good;
    drawn = λ command. cc;
    ready = λ command. cc;
  })
