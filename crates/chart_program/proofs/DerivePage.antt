-- The command `derive` did as its page says.
use Rattle.std.proofs.Common.{ℕ, List, IfSome, ap, arith}
use Rattle.block_disk.specs.View.{View}
use Rattle.chart_world.specs.LineLaws.{told_so}
use Rattle.derive_command.specs.Derived.{DeriveEnds, DerivesToRefused, IsDeriveCause}
use Rattle.derive_command.specs.Answers.{by_book}
use Rattle.derive_command.specs.Lines.{EndsSo}
use Rattle.derive_command.proofs.GoodLemmas.{bad_never, refused_never}
use Rattle.gate_pages.specs.Journal.{page_count}
use Rattle.run_ends.specs.Statuses.{refused_at, status_of}
use Rattle.run_ends.specs.declared.ending.End.{End}
use Rattle.run_ends.specs.declared.ending.End.TheVariants.{Done, NoMemory, ReadFault, SendFault, DiskFault, DamagedBlock, DamagedPage}
use Rattle.run_ends.specs.declared.ending.End.TheVariants.{BadInput, InputTooLong, TooSmall, RefusedLine}
use Rattle.store_commands.specs.Away.{TurnsAway}
use Rattle.store_commands.specs.Books.{OfBook}
use Rattle.store_commands.specs.Traffic.{Traffic}
use Rattle.chart_program.specs.Course.{Course, IsDoneOrCut}
use Rattle.chart_program.specs.Derive.{AreDerived, DeriveDoes, OfDerive}

module _ (old new : View) (t : Traffic) where
  abbrev at : Course
  at = record { old = old; new = new; left = t.left; left_now = t.left_now; sent = t.sent; sent_now = t.sent_now }

  -- what was sent for an input, by the book that the disk holds
  abbrev Sends : End → List ℕ → Type 0
  Sends end input = OfBook (page_count old.size) old (λ total book. EndsSo (by_book book) input t.left_now t.sent t.sent_now end)

  -- a line that is refused, by its place
  refused : (offset number : ℕ) (input : List ℕ) → Sends (RefusedLine offset number) input
      → DerivesToRefused (page_count old.size) old input (refused_at offset number) t.sent t.sent_now
  refused offset number input sent = λ total book holds.
      let is = sent total book holds in
      record { at = offset; refusal = is.why; place_is = ap (λ n. refused_at offset n) is.number_is; draws = is.draws }

  derive_does : (end : End) → IsDeriveCause end old new t → IfSome t.left (Sends end) → DeriveDoes at end
  derive_does Done cause sent = (cause, sent)
  derive_does NoMemory cause sent = sent
  derive_does ReadFault cause sent = sent
  derive_does SendFault cause sent = sent
  derive_does DiskFault cause sent = sent
  derive_does (DamagedBlock block) cause sent = (record { at_first = cause.0; took_nothing = cause.1.0; sent_nothing = cause.1.1 }, sent)
  derive_does (DamagedPage page) cause sent = (
    cause,
    told_so (Sends (DamagedPage page)) (λ input. OfBook (page_count old.size) old (λ total book. ⊥)) t.left
        (λ input is total book holds. (is total book holds).damages.damaged) sent,
  )
  derive_does (BadInput offset) cause sent = sent
  derive_does InputTooLong cause sent = (cause, sent)
  derive_does (TooSmall blocks) cause sent = cause
  derive_does (RefusedLine offset number) cause sent =
      told_so (Sends (RefusedLine offset number)) (λ input. DerivesToRefused (page_count old.size) old input
      (refused_at offset number) t.sent t.sent_now) t.left (refused offset number) sent
  derive_does end cause sent = absurd cause

  -- with good input it is done, a stream fails, or there is no memory
  derive_good : (end : End) → IsDeriveCause end old new t → (input : List ℕ) → Sends end input → AreDerived old new input → IsDoneOrCut end
  derive_good Done cause input sent r = tt
  derive_good NoMemory cause input sent r = tt
  derive_good ReadFault cause input sent r = tt
  derive_good SendFault cause input sent r = tt
  derive_good DiskFault cause input sent r = absurd (r.whole cause)
  derive_good (BadInput offset) cause input sent r = absurd
      (bad_never r.book input t.sent t.sent_now offset r.requests (sent r.total r.book r.holds))
  derive_good (DamagedPage page) cause input sent r = absurd (sent r.total r.book r.holds).damages.damaged
  derive_good InputTooLong cause input sent r = absurd (omega (arith, r.short, (sent r.total r.book r.holds).past))
  derive_good (RefusedLine offset number) cause input sent r =
      let is = sent r.total r.book r.holds in
      absurd (refused_never r.book input t.sent t.sent_now offset is.why r.requests is.draws)
  derive_good end cause input sent r = absurd (sent r.total r.book r.holds)

  pub of_derive : (end : End) → DeriveEnds old new t end → TurnsAway old t (status_of end) → OfDerive at end
  of_derive end e away = record {
    does = derive_does end e.cause e.sent;
    store = record { goes_on = e.goes_on; away = away };
    kept = record { holds = e.holds; crash = e.crash };
    few = e.few;
    lines = e.lines;
    good = told_so (Sends end) (λ input. AreDerived old new input → IsDoneOrCut end) t.left (derive_good end e.cause) e.sent;
  }
