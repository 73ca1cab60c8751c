-- The command `retain` ends as its own clauses say.
use Rattle.std.proofs.Common.{ℕ, ◌<◌, List, Option, Some, None, IfSome, refl, ap, arith, inl, inr}
use Rattle.std.specs.Prelude.{Contains}
use Rattle.block_disk.specs.View.{View}
use Rattle.gate_pages.specs.Journal.{page_count}
use Rattle.run_ends.specs.Statuses.{code_of, place_of}
use Rattle.run_ends.specs.declared.ending.End.{End}
use Rattle.run_ends.specs.declared.ending.End.TheVariants.{Done, NoMemory, ReadFault, SendFault, DiskFault, DamagedBlock, DamagedPage}
use Rattle.run_ends.specs.declared.ending.End.TheVariants.{BadInput, InputTooLong, TooSmall, NoSeries}
use Rattle.store_commands.specs.Away.{IsTurnedAway}
use Rattle.store_commands.specs.Books.{Holds, OfBook}
use Rattle.store_commands.specs.Traffic.{Traffic}
use Rattle.retain_command.specs.Retained.{IsRetainCause, RetainEnds, RetainsTaken}
use Rattle.retain_command.specs.Sweeping.{EndsSo}
use Rattle.program_words.specs.declared.words.Command.TheVariants.{Retain}
use Rattle.chart_program.specs.CommandStatuses.{codes_of}
use Rattle.chart_program.specs.Served.{Faults}
use Rattle.chart_program.specs.Ran.{AreRetained, CommandEnds}
use Rattle.chart_program.proofs.Codes.{told_long}
use Rattle.chart_program.proofs.Counts.{told_any}
use Rattle.chart_program.proofs.EndsByCode.{Came, by_code, completes}
use Rattle.chart_program.proofs.RetainPage.{of_retain}

taken : (old new : View) (left left' before now : Option (List ℕ))
    → IfSome left (λ input. RetainsTaken (page_count old.size) old new input left' before now)
    → IfSome left (λ input. IfSome left' (λ bytes. RetainsTaken (page_count old.size) old new input (Some bytes) before now))
taken old new None left' before now all = tt
taken old new (Some input) None before now all = tt
taken old new (Some input) (Some bytes) before now all = all

module _ (old new : View) (left left' before now : Option (List ℕ)) (faults : Faults) where
  abbrev passed : Traffic
  passed = record {
    left = left;
    left_now = left';
    sent = before;
    sent_now = now;
    reads = faults.reads;
    reads_now = faults.reads_now;
    sends = faults.sends;
    sends_now = faults.sends_now;
  }

  abbrev Sweeps : End → Type 0
  Sweeps end = IfSome left (λ input. OfBook (page_count old.size) old
      (λ total book. EndsSo (Holds (page_count old.size) total new) total book input left' before now end))

  retain_came : (end : End) → IsRetainCause end old new passed → Sweeps end → Came Retain old new left left' before now faults end
  retain_came Done cause does = (cause, does, tt)
  retain_came NoMemory cause does = does
  retain_came ReadFault cause does = (cause, taken old new left left' before now does)
  retain_came SendFault cause does = (cause, does)
  retain_came DiskFault cause does = (cause, does)
  retain_came (DamagedBlock block) cause does = (inl cause.0, does, inl (cause.0.0, cause.1))
  retain_came (DamagedPage page) cause does = (inr cause, does, inr cause)
  retain_came (BadInput at) cause does = does
  retain_came InputTooLong cause does = told_long left _ cause does
  retain_came (TooSmall blocks) cause does = cause
  retain_came (NoSeries at) cause does = does
  retain_came end cause does = absurd cause

  retain_own : (end : End) → IsRetainCause end old new passed → Contains (codes_of Retain) (code_of end)
  retain_own Done cause = (0, omega arith, refl)
  retain_own NoMemory cause = (1, omega arith, refl)
  retain_own ReadFault cause = (2, omega arith, refl)
  retain_own SendFault cause = (3, omega arith, refl)
  retain_own DiskFault cause = (4, omega arith, refl)
  retain_own (DamagedBlock block) cause = (5, omega arith, refl)
  retain_own (DamagedPage page) cause = (5, omega arith, refl)
  retain_own (BadInput at) cause = (6, omega arith, refl)
  retain_own InputTooLong cause = (7, omega arith, refl)
  retain_own (TooSmall blocks) cause = (8, omega arith, refl)
  retain_own (NoSeries at) cause = (9, omega arith, refl)
  retain_own end cause = absurd cause

  pub retain_ends : (end : End) → RetainEnds old new passed end → (old.size < 128 → IsTurnedAway left left' before now (code_of end))
      → CommandEnds Retain old new left left' before now faults (code_of end) (place_of end)
  retain_ends end e away = by_code Retain old new left left' before now faults end (record {
    came = retain_came end e.cause e.does;
    own = retain_own end e.cause;
    away = λ over. away;
    untaken = λ none. absurd none;
    reads = tt;
    reads_lines = told_any left;
    syncs = told_any left;
    unnamed = tt;
    nothing = λ some unsent quiet. absurd (quiet tt);
    pictures = λ is command. cc;
    holds = λ other. e.holds (λ is. other (ap (λ (end : End). code_of end) is));
    crash = e.crash;
    disk = e.goes_on;
    honest = e.honest;
    complete = completes left (λ input. AreRetained old new input) end (of_retain old new passed end e away).good;
    drawn = λ command. cc;
    ready = λ command. cc;
  })
