-- The command `live` did as its page says.
use Rattle.std.proofs.Common.{◌≡◌, ℕ, List, IfSome, arith, refl}
use Rattle.block_disk.specs.View.{View}
use Rattle.chart_world.specs.LineLaws.{told_so}
use Rattle.gate_pages.specs.Journal.{page_count}
use Rattle.chart_service.specs.Blaming.{Blames}
use Rattle.live_command.specs.Ended.{IsLiveCause, LiveEnds, ReadsLiving, SyncsLiving}
use Rattle.hosted_lines.specs.Answers.{SendsAnswers}
use Rattle.hosted_lines.specs.Begun.{begun_live}
use Rattle.live_service.specs.Kinds.{MayAnswerLive}
use Rattle.live_service.specs.Pushing.{followed_after}
use Rattle.live_command.specs.Running.{EndsSo}
use Rattle.run_ends.specs.Statuses.{status_of}
use Rattle.run_ends.specs.declared.ending.End.{End}
use Rattle.run_ends.specs.declared.ending.End.TheVariants.{Done, NoMemory, ReadFault, SendFault, DiskFault, DamagedBlock, DamagedPage}
use Rattle.run_ends.specs.declared.ending.End.TheVariants.{InputTooLong, TooSmall}
use Rattle.store_commands.specs.Away.{TurnsAway}
use Rattle.store_commands.specs.Books.{Holds, OfBook}
use Rattle.store_commands.specs.Traffic.{Traffic}
use Rattle.chart_program.specs.Course.{Course, IsDoneOrCut}
use Rattle.chart_program.specs.LineAnswers.{IsBlamedBy, NoneIsPassedBy}
use Rattle.chart_program.specs.Live.{LiveDoes, OfLive}
use Rattle.chart_program.specs.Serve.{AreLines}

module _ (old new : View) (t : Traffic) where
  abbrev at : Course
  at = record { old = old; new = new; left = t.left; left_now = t.left_now; sent = t.sent; sent_now = t.sent_now }

  -- what was answered and sent for an input, by the book that the disk held
  abbrev Answers : End → List ℕ → Type 0
  Answers end input = OfBook (page_count old.size) old
      (λ total book. EndsSo (Holds (page_count old.size) total new) input (begun_live total book) t.left_now t.sent t.sent_now end)

  live_does : (end : End) → IsLiveCause end old new t → IfSome t.left (Answers end) → LiveDoes at end
  live_does Done cause does = (cause, does)
  live_does NoMemory cause does = does
  live_does ReadFault cause does = does
  live_does SendFault cause does = does
  live_does DiskFault cause does = does
  live_does (DamagedBlock block) cause does = (record { at_first = cause.0; took_nothing = cause.1.0; sent_nothing = cause.1.1 }, does)
  live_does (DamagedPage page) cause does = (cause, does)
  live_does InputTooLong cause does = (cause, does)
  live_does (TooSmall blocks) cause does = cause
  live_does end cause does = absurd cause

  -- with good input it is done, a stream fails, or there is no memory
  live_good : (end : End) → IsLiveCause end old new t → (input : List ℕ) → Answers end input → AreLines old new input → IsDoneOrCut end
  live_good Done cause input does r = tt
  live_good NoMemory cause input does r = tt
  live_good ReadFault cause input does r = tt
  live_good SendFault cause input does r = tt
  live_good DiskFault cause input does r = absurd (r.whole cause)
  live_good InputTooLong cause input does r = absurd (omega (arith, r.short, (does r.total r.book r.holds).past))
  live_good end cause input does r = absurd (does r.total r.book r.holds)

  pub good_live : (end : End) → LiveEnds old new t end → IfSome t.left (λ input. AreLines old new input → IsDoneOrCut end)
  good_live end e = told_so (Answers end) (λ input. AreLines old new input → IsDoneOrCut end) t.left (live_good end e.cause) e.does

  abbrev AreAnswered : Type 0
  AreAnswered = IfSome t.left (λ input. SendsAnswers MayAnswerLive followed_after input t.sent t.sent_now)

  live_passed : (end : End) → (end ≡ Done → AreAnswered) → NoneIsPassedBy MayAnswerLive followed_after at end
  live_passed Done answered = answered refl
  live_passed end answered = tt

  pub of_live : (end : End) → LiveEnds old new t end → TurnsAway old t (status_of end) → IfSome t.left (ReadsLiving old new)
      → IfSome t.left (SyncsLiving old new) → (end ≡ Done → AreAnswered)
      → IsBlamedBy MayAnswerLive followed_after Blames at end → OfLive at end
  of_live end e away reads syncs answered blamed = record {
    does = live_does end e.cause e.does;
    store = record { goes_on = e.goes_on; away = away };
    crash = e.crash;
    reads = reads;
    syncs = syncs;
    good = good_live end e;
    passed = live_passed end answered;
    blamed = blamed;
  }
