-- The command `retain` did as its page says.
use Rattle.std.proofs.Common.{ℕ, List, IfSome, arith}
use Rattle.block_disk.specs.View.{View}
use Rattle.chart_world.specs.LineLaws.{told_so}
use Rattle.gate_pages.specs.Journal.{page_count}
use Rattle.retain_command.specs.Retained.{IsRetainCause, RetainEnds}
use Rattle.retain_command.specs.Sweeping.{EndsSo}
use Rattle.retain_command.proofs.GoodLemmas.{bad_never, unknown_never}
use Rattle.run_ends.specs.Statuses.{status_of}
use Rattle.run_ends.specs.declared.ending.End.{End}
use Rattle.run_ends.specs.declared.ending.End.TheVariants.{Done, NoMemory, ReadFault, SendFault, DiskFault, DamagedBlock, DamagedPage}
use Rattle.run_ends.specs.declared.ending.End.TheVariants.{BadInput, InputTooLong, TooSmall, NoSeries}
use Rattle.store_commands.specs.Away.{TurnsAway}
use Rattle.store_commands.specs.Books.{Holds, OfBook}
use Rattle.store_commands.specs.Traffic.{Traffic}
use Rattle.chart_program.specs.Course.{Course, IsDoneOrCut}
use Rattle.chart_program.specs.Retain.{AreRetained, OfRetain, RetainDoes}

module _ (old new : View) (t : Traffic) where
  abbrev at : Course
  at = record { old = old; new = new; left = t.left; left_now = t.left_now; sent = t.sent; sent_now = t.sent_now }

  -- what was swept and sent for an input, by the book that the disk held
  abbrev Sweeps : End → List ℕ → Type 0
  Sweeps end input = OfBook (page_count old.size) old
      (λ total book. EndsSo (Holds (page_count old.size) total new) total book input t.left_now t.sent t.sent_now end)

  retain_does : (end : End) → IsRetainCause end old new t → IfSome t.left (Sweeps end) → RetainDoes at end
  retain_does Done cause does = (cause, does)
  retain_does NoMemory cause does = does
  retain_does ReadFault cause does = does
  retain_does SendFault cause does = does
  retain_does DiskFault cause does = does
  retain_does (DamagedBlock block) cause does = (record { at_first = cause.0; took_nothing = cause.1.0; sent_nothing = cause.1.1 }, does)
  retain_does (DamagedPage page) cause does = (cause, does)
  retain_does (BadInput offset) cause does = does
  retain_does InputTooLong cause does = (cause, does)
  retain_does (TooSmall blocks) cause does = cause
  retain_does (NoSeries offset) cause does = does
  retain_does end cause does = absurd cause

  -- with good input it is done, a stream fails, or there is no memory
  retain_good : (end : End) → IsRetainCause end old new t → (input : List ℕ) → Sweeps end input → AreRetained old new input
      → IsDoneOrCut end
  retain_good Done cause input does r = tt
  retain_good NoMemory cause input does r = tt
  retain_good ReadFault cause input does r = tt
  retain_good SendFault cause input does r = tt
  retain_good DiskFault cause input does r = absurd (r.whole cause)
  retain_good (BadInput offset) cause input does r = absurd
      (bad_never _ r.total r.book input t.sent t.sent_now offset r.rules r.are (does r.total r.book r.holds))
  retain_good InputTooLong cause input does r = absurd (omega (arith, r.short, (does r.total r.book r.holds).past))
  retain_good (NoSeries offset) cause input does r = absurd
      (unknown_never _ r.total r.book input t.sent t.sent_now offset r.rules r.are (does r.total r.book r.holds))
  retain_good end cause input does r = absurd (does r.total r.book r.holds)

  pub of_retain : (end : End) → RetainEnds old new t end → TurnsAway old t (status_of end) → OfRetain at end
  of_retain end e away = record {
    does = retain_does end e.cause e.does;
    store = record { goes_on = e.goes_on; away = away };
    crash = e.crash;
    costs = e.costs;
    line = e.faulty;
    answered = e.answered;
    good = told_so (Sweeps end) (λ input. AreRetained old new input → IsDoneOrCut end) t.left (retain_good end e.cause) e.does;
  }
