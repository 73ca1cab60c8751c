-- The command `live` ends as its own clauses say.
use Rattle.std.proofs.Common.{ℕ, ◌<◌, List, Option, Some, None, IfSome, refl, ap, arith, inl, inr}
use Rattle.std.specs.Prelude.{Contains}
use Rattle.block_disk.specs.View.{View}
use Rattle.gate_pages.specs.Journal.{page_count}
use Rattle.run_ends.specs.Statuses.{code_of, place_of}
use Rattle.run_ends.specs.declared.ending.End.{End}
use Rattle.run_ends.specs.declared.ending.End.TheVariants.{Done, NoMemory, ReadFault, SendFault, DiskFault, DamagedBlock, DamagedPage}
use Rattle.run_ends.specs.declared.ending.End.TheVariants.{InputTooLong, TooSmall}
use Rattle.store_commands.specs.Away.{IsTurnedAway}
use Rattle.store_commands.specs.Traffic.{Traffic}
use Rattle.live_command.specs.Ended.{DoesLive, IsLiveCause, LiveEnds, LivesTaken, ReadsLiving, SyncsLiving}
use Rattle.program_words.specs.declared.words.Command.TheVariants.{Live}
use Rattle.chart_program.specs.CommandStatuses.{codes_of}
use Rattle.chart_program.specs.Served.{Faults}
use Rattle.chart_program.specs.Ran.{AreLines, CommandEnds}
use Rattle.chart_program.proofs.Codes.{told_long}
use Rattle.chart_program.proofs.EndsByCode.{Came, by_code, completes}
use Rattle.chart_program.proofs.LivePage.{good_live}

abbrev pub passed : (left left' before now : Option (List ℕ)) → Faults → Traffic
passed left left' before now faults = record {
  left = left;
  left_now = left';
  sent = before;
  sent_now = now;
  reads = faults.reads;
  reads_now = faults.reads_now;
  sends = faults.sends;
  sends_now = faults.sends_now;
}

taken : (old new : View) (left left' before now : Option (List ℕ))
    → IfSome left (λ input. LivesTaken (page_count old.size) old new input left' before now)
    → IfSome left (λ input. IfSome left' (λ bytes. LivesTaken (page_count old.size) old new input (Some bytes) before now))
taken old new None left' before now all = tt
taken old new (Some input) None before now all = tt
taken old new (Some input) (Some bytes) before now all = all

module _ (old new : View) (left left' before now : Option (List ℕ)) (faults : Faults) where
  live_came : (end : End) → IsLiveCause end old new (passed left left' before now faults)
      → DoesLive (page_count old.size) old new (passed left left' before now faults) end
      → Came Live old new left left' before now faults end
  live_came Done cause does = (cause, does, tt)
  live_came NoMemory cause does = does
  live_came ReadFault cause does = (cause, taken old new left left' before now does)
  live_came SendFault cause does = (cause, does)
  live_came DiskFault cause does = (cause, does)
  live_came (DamagedBlock block) cause does = (inl cause.0, does, inl (cause.0.0, cause.1))
  live_came (DamagedPage page) cause does = (inr cause, does, inr cause)
  live_came InputTooLong cause does = told_long left _ cause does
  live_came (TooSmall blocks) cause does = cause
  live_came end cause does = absurd cause

  pub live_own : (end : End) → IsLiveCause end old new (passed left left' before now faults) → Contains (codes_of Live) (code_of end)
  live_own Done cause = (0, omega arith, refl)
  live_own NoMemory cause = (1, omega arith, refl)
  live_own ReadFault cause = (2, omega arith, refl)
  live_own SendFault cause = (3, omega arith, refl)
  live_own DiskFault cause = (4, omega arith, refl)
  live_own (DamagedBlock block) cause = (5, omega arith, refl)
  live_own (DamagedPage page) cause = (5, omega arith, refl)
  live_own InputTooLong cause = (6, omega arith, refl)
  live_own (TooSmall blocks) cause = (7, omega arith, refl)
  live_own end cause = absurd cause

  pub live_ends : (end : End) → LiveEnds old new (passed left left' before now faults) end
      → (old.size < 128 → IsTurnedAway left left' before now (code_of end)) → IfSome left (λ input. ReadsLiving old new input)
      → IfSome left (λ input. SyncsLiving old new input)
      → CommandEnds Live old new left left' before now faults (code_of end) (place_of end)
  live_ends end e away reads syncs = by_code Live old new left left' before now faults end (record {
    came = live_came end e.cause e.does;
    own = live_own end e.cause;
    away = λ over. away;
    untaken = λ none. absurd none;
    reads = tt;
    reads_lines = reads;
    syncs = syncs;
    unnamed = tt;
    nothing = λ some unsent quiet. absurd (quiet tt);
    pictures = λ is command. cc;
    holds = λ other. e.holds (λ is. other (ap (λ (end : End). code_of end) is));
    crash = e.crash;
    disk = e.goes_on;
    honest = e.honest;
    complete = completes left (λ input. AreLines old new input) end (good_live old new (passed left left' before now faults) end e);
    drawn = λ command. cc;
    ready = λ command. cc;
  })
