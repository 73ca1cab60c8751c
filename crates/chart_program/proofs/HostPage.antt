-- The command `host` did as its page says.
use Rattle.std.proofs.Common.{◌≡◌, ◌<◌, ℕ, List, IfSome, refl, sym, subst, arith}
use Rattle.block_disk.specs.View.{View}
use Rattle.chart_world.specs.LineLaws.{told_so}
use Rattle.gate_pages.specs.Journal.{page_count}
use Rattle.host_command.specs.Ended.{CostsHosting, HostEnds, IsHostCause}
use Rattle.hosted_lines.specs.Answers.{MayAnswerHost, SendsAnswers, followed_behind}
use Rattle.hosted_lines.specs.Blaming.{BlamesHost}
use Rattle.hosted_lines.specs.Running.{EndsSo}
use Rattle.hosted_lines.specs.Begun.{begun_live}
use Rattle.run_ends.specs.Faults.{end_fault}
use Rattle.run_ends.specs.Statuses.{code_of, status_of}
use Rattle.run_ends.specs.declared.ending.End.{End}
use Rattle.run_ends.specs.declared.ending.End.TheVariants.{Done, NoMemory, ReadFault, SendFault, DiskFault}
use Rattle.run_ends.specs.declared.ending.End.TheVariants.{DamagedBlock, DamagedPage, InputTooLong, TooSmall}
use Rattle.store_commands.specs.Away.{IsTurnedAway, TurnsAway}
use Rattle.store_commands.specs.Books.{Holds, OfBook}
use Rattle.store_commands.specs.Traffic.{Traffic}
use Rattle.chart_program.specs.Course.{Course, IsDoneOrCut}
use Rattle.chart_program.specs.Host.{HostDoes, OfHost, hosting_end}
use Rattle.chart_program.specs.LineAnswers.{IsBlamedBy, NoneIsPassedBy}
use Rattle.chart_program.specs.Serve.{AreLines}

-- the call that failed stays, and so does the code
pub hosted_fault : (end : End) → end_fault (hosting_end end) ≡ end_fault end
hosted_fault InputTooLong = refl
hosted_fault end = refl

pub hosted_code : (end : End) → code_of (hosting_end end) ≡ code_of end
hosted_code InputTooLong = refl
hosted_code end = refl

module _ (old new : View) (t : Traffic) where
  abbrev at : Course
  at = record { old = old; new = new; left = t.left; left_now = t.left_now; sent = t.sent; sent_now = t.sent_now }

  -- what was answered and sent for an input, by the book that the disk held
  abbrev Answers : End → List ℕ → Type 0
  Answers end input = OfBook (page_count old.size) old (λ total book.
      EndsSo (Holds (page_count old.size) total new) input (begun_live total book) t.left_now t.sent t.sent_now end)

  host_does : (end : End) → IsHostCause end old new t → IfSome t.left (Answers end) → HostDoes at (hosting_end end)
  host_does Done cause does = (cause, does)
  host_does NoMemory cause does = does
  host_does ReadFault cause does = does
  host_does SendFault cause does = does
  host_does DiskFault cause does = does
  host_does (DamagedBlock block) cause does =
      (record { at_first = cause.0; took_nothing = cause.1.0; sent_nothing = cause.1.1 }, does)
  host_does (DamagedPage page) cause does = (cause, does)
  host_does InputTooLong cause does = (refl, cause, does)
  host_does (TooSmall blocks) cause does = cause
  host_does end cause does = absurd cause

  -- with good input it is done, a stream fails, or there is no memory
  host_good : (end : End) → IsHostCause end old new t → (input : List ℕ) → Answers end input → AreLines old new input
      → IsDoneOrCut (hosting_end end)
  host_good Done cause input does r = tt
  host_good NoMemory cause input does r = tt
  host_good ReadFault cause input does r = tt
  host_good SendFault cause input does r = tt
  host_good DiskFault cause input does r = absurd (r.whole cause)
  host_good InputTooLong cause input does r = absurd (omega (arith, r.short, (does r.total r.book r.holds).past))
  host_good end cause input does r = absurd (does r.total r.book r.holds)

  pub good_host : (end : End) → HostEnds old new t end → IfSome t.left (λ input. AreLines old new input → IsDoneOrCut (hosting_end end))
  good_host end e =
      told_so (Answers end) (λ input. AreLines old new input → IsDoneOrCut (hosting_end end)) t.left (host_good end e.cause) e.does

  abbrev AreAnswered : Type 0
  AreAnswered = IfSome t.left (λ input. SendsAnswers MayAnswerHost followed_behind input t.sent t.sent_now)

  host_passed : (end : End) → (end ≡ Done → AreAnswered) → NoneIsPassedBy MayAnswerHost followed_behind at (hosting_end end)
  host_passed Done answered = answered refl
  host_passed end answered = tt

  abbrev Blamed : End → Type 0
  Blamed end = IsBlamedBy MayAnswerHost followed_behind BlamesHost at end

  host_blamed : (end : End) → Blamed end → Blamed (hosting_end end)
  host_blamed InputTooLong blamed = tt
  host_blamed end blamed = blamed

  pub of_host : (end : End) → HostEnds old new t end → TurnsAway old t (status_of end)
      → IfSome t.left (CostsHosting old new) → (end ≡ Done → AreAnswered) → Blamed end → OfHost at (hosting_end end)
  of_host end e away costs answered blamed = record {
    does = host_does end e.cause e.does;
    store = record {
      goes_on = e.goes_on;
      away = (let A : ℕ → Type 0 = λ n. old.size < 128
          → IsTurnedAway t.left t.left_now t.sent t.sent_now n in subst A (sym (hosted_code end)) away);
    };
    crash = e.crash;
    costs = costs;
    good = good_host end e;
    passed = host_passed end answered;
    blamed = host_blamed end blamed;
  }
