-- The command `host` ends as its own clauses say.
use Rattle.std.proofs.Common.{◌∙◌, ◌<◌, List, ℕ, Option, Some, None, IfSome, ap, arith, inl, inr, refl, sym, subst}
use Rattle.std.specs.Prelude.{Contains}
use Rattle.block_disk.specs.View.{View}
use Rattle.gate_pages.specs.Journal.{page_count}
use Rattle.run_ends.specs.Statuses.{code_of, place_of}
use Rattle.run_ends.specs.declared.ending.End.{End}
use Rattle.run_ends.specs.declared.ending.End.TheVariants.{Done, NoMemory, ReadFault, SendFault, DiskFault}
use Rattle.run_ends.specs.declared.ending.End.TheVariants.{DamagedBlock, DamagedPage, InputTooLong, TooSmall}
use Rattle.store_commands.specs.Away.{IsTurnedAway}
use Rattle.host_command.specs.Ended.{CostsHosting, DoesHost, HostEnds, IsHostCause}
use Rattle.hosted_lines.specs.Input.{most_bytes}
use Rattle.program_words.specs.declared.words.Command.TheVariants.{Host}
use Rattle.chart_program.specs.CommandStatuses.{codes_of}
use Rattle.chart_program.specs.Host.{HostsTaken, hosting_end}
use Rattle.chart_program.specs.Served.{Faults}
use Rattle.chart_program.specs.Ran.{AreLines, CommandEnds}
use Rattle.chart_program.proofs.Codes.{told_past}
use Rattle.chart_program.proofs.EndsByCode.{Came, by_code, completes}
use Rattle.chart_program.proofs.HostPage.{good_host, hosted_code}
use Rattle.chart_program.proofs.LiveEnds.{live_own, passed}

taken : (old new : View) (left left' before now : Option (List ℕ))
    → IfSome left (λ input. HostsTaken (page_count old.size) old new input left' before now)
    → IfSome left (λ input. IfSome left' (λ bytes. HostsTaken (page_count old.size) old new input (Some bytes) before now))
taken old new None left' before now all = tt
taken old new (Some input) None before now all = tt
taken old new (Some input) (Some bytes) before now all = all

module _ (old new : View) (left left' before now : Option (List ℕ)) (faults : Faults) where
  host_came : (end : End) → IsHostCause end old new (passed left left' before now faults)
      → DoesHost (page_count old.size) old new (passed left left' before now faults) end
      → Came Host old new left left' before now faults (hosting_end end)
  host_came Done cause does = (cause, does, tt)
  host_came NoMemory cause does = does
  host_came ReadFault cause does = (cause, taken old new left left' before now does)
  host_came SendFault cause does = (cause, does)
  host_came DiskFault cause does = (cause, does)
  host_came (DamagedBlock block) cause does = (inl cause.0, does, inl (cause.0.0, cause.1))
  host_came (DamagedPage page) cause does = (inr cause, does, inr cause)
  host_came InputTooLong cause does = told_past most_bytes left _ cause does
  host_came (TooSmall blocks) cause does = cause
  host_came end cause does = absurd cause

  host_own : (end : End) → IsHostCause end old new (passed left left' before now faults)
      → Contains (codes_of Host) (code_of (hosting_end end))
  host_own Done cause = (0, omega arith, refl)
  host_own (DamagedPage page) cause = (5, omega arith, refl)
  host_own InputTooLong cause = (6, omega arith, refl)
  host_own end cause = live_own old new left left' before now faults end cause

  pub host_ends : (end : End) → HostEnds old new (passed left left' before now faults) end
      → (old.size < 128 → IsTurnedAway left left' before now (code_of end)) → IfSome left (λ input. CostsHosting old new input)
      → CommandEnds Host old new left left' before now faults (code_of (hosting_end end)) (place_of (hosting_end end))
  host_ends end e away costs = by_code Host old new left left' before now faults (hosting_end end) (record {
    came = host_came end e.cause e.does;
    own = host_own end e.cause;
    away = λ over. let A : ℕ → Type 0 = λ n. old.size < 128 → IsTurnedAway left left' before now n in subst A (sym (hosted_code end)) away;
    untaken = λ none. absurd none;
    reads = tt;
    reads_lines = costs;
    syncs = costs;
    unnamed = tt;
    nothing = λ some unsent quiet. absurd (quiet tt);
    pictures = λ is command. cc;
    holds = λ other. e.holds (λ is. other (hosted_code end ∙ ap (λ (end : End). code_of end) is));
    crash = e.crash;
    disk = e.goes_on;
    honest = e.honest;
    complete = completes left (λ input. AreLines old new input) (hosting_end end)
        (good_host old new (passed left left' before now faults) end e);
    drawn = λ command. cc;
    ready = λ command. cc;
  })
