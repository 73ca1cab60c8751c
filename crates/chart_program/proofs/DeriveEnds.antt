-- The command `derive` ends as its own clauses say.
use Rattle.std.proofs.Common.{ℕ, ◌<◌, List, Option, Some, None, IfSome, refl, ap, arith, inl, inr}
use Rattle.std.specs.Prelude.{Contains}
use Rattle.block_disk.specs.View.{View}
use Rattle.gate_pages.specs.Journal.{page_count}
use Rattle.run_ends.specs.Statuses.{block_of, code_of, place_of, refused_at}
use Rattle.run_ends.specs.declared.ending.End.{End}
use Rattle.run_ends.specs.declared.ending.End.TheVariants.{Done, NoMemory, ReadFault, SendFault, DiskFault, DamagedBlock, DamagedPage}
use Rattle.run_ends.specs.declared.ending.End.TheVariants.{BadInput, InputTooLong, TooSmall, RefusedLine}
use Rattle.store_commands.specs.Away.{IsTurnedAway}
use Rattle.store_commands.specs.Books.{OfBook}
use Rattle.store_commands.specs.Traffic.{Traffic}
use Rattle.stored_book.specs.Damage.{IsBadForRequest}
use Rattle.store_commands.specs.Damaged.{IsDamagedLater}
use Rattle.derive_command.specs.Derived.{IsBadForChart, DeriveEnds, DerivesTaken, DerivesToRefused, IsDeriveCause}
use Rattle.derive_command.specs.Answers.{by_book}
use Rattle.derive_command.specs.Lines.{DrawsToNumber, EndsSo}
use Rattle.program_words.specs.declared.words.Command.TheVariants.{Derive}
use Rattle.chart_program.specs.CommandStatuses.{codes_of}
use Rattle.chart_program.specs.Served.{Faults}
use Rattle.chart_program.specs.Ran.{AreDerived, CommandEnds}
use Rattle.chart_program.proofs.Codes.{told_all, told_long}
use Rattle.chart_program.proofs.CommandsEnd.{all_told}
use Rattle.chart_program.proofs.Counts.{told_any}
use Rattle.chart_program.proofs.EndsByCode.{Came, by_code, completes}
use Rattle.chart_program.proofs.DerivePage.{of_derive}

taken : (old : View) (left left' before now : Option (List ℕ))
    → IfSome left (λ input. DerivesTaken (page_count old.size) old input left' before now)
    → IfSome left (λ input. IfSome left' (λ bytes. DerivesTaken (page_count old.size) old input (Some bytes) before now))
taken old None left' before now all = tt
taken old (Some input) None before now all = tt
taken old (Some input) (Some bytes) before now all = all

-- what is bad for a chart is so for a request
by_request : (old new : View) (place : ℕ) → IsDamagedLater IsBadForChart (page_count old.size) new place
    → IsDamagedLater IsBadForRequest (page_count old.size) new place
by_request old new place is = record {
  page = is.page;
  place_is = is.place_is;
  within = is.within;
  bad = λ honest. let bad = is.bad honest in record { numbers = bad.numbers; keeps = bad.keeps; so = (bad.so.0, inl bad.so.1) };
}

-- a line that is refused, by its place
refused : (old : View) (left before now : Option (List ℕ)) (at number : ℕ)
    → IfSome left (λ input. OfBook (page_count old.size) old (λ total book. DrawsToNumber (by_book book) input before now at number))
    → IfSome left (λ input. DerivesToRefused (page_count old.size) old input (refused_at at number) before now)
refused old None before now at number all = tt
refused old (Some input) before now at number all = λ total book holds.
    let is = all total book holds in
    record { at = at; refusal = is.why; place_is = ap (λ n. refused_at at n) is.number_is; draws = is.draws }

module _ (old new : View) (left left' before now : Option (List ℕ)) (faults : Faults) where
  abbrev passed : Traffic
  passed = record {
    left = left;
    left_now = left';
    sent = before;
    sent_now = now;
    reads = faults.reads;
    reads_now = faults.reads_now;
    sends = faults.sends;
    sends_now = faults.sends_now;
  }

  derive_came : (end : End) → IsDeriveCause end old new passed
      → IfSome left (λ input. OfBook (page_count old.size) old (λ total book. EndsSo (by_book book) input left' before now end))
      → Came Derive old new left left' before now faults end
  derive_came Done cause sent = (cause, sent, tt)
  derive_came NoMemory cause sent = sent
  derive_came ReadFault cause sent = (cause, taken old left left' before now sent)
  derive_came SendFault cause sent = (cause, sent)
  derive_came DiskFault cause sent = (cause, sent)
  derive_came (DamagedBlock block) cause sent = (inl cause.0, sent, inl (cause.0.0, cause.1))
  derive_came (DamagedPage page) cause sent = (inr cause, never left sent, inr (by_request old new (block_of page) cause))
    where
      never : (input : Option (List ℕ)) → IfSome input
          (λ bytes. OfBook (page_count old.size) old (λ total book. EndsSo (by_book book) bytes left' before now (DamagedPage page)))
          → IfSome input (λ bytes. OfBook (page_count old.size) old (λ total book. ⊥))
      never None all = tt
      never (Some bytes) all = λ total book holds. (all total book holds).damages.damaged
  derive_came (BadInput at) cause sent = sent
  derive_came InputTooLong cause sent = told_long left _ cause sent
  derive_came (TooSmall blocks) cause sent = cause
  derive_came (RefusedLine at number) cause sent = refused old left before now at number sent
  derive_came end cause sent = absurd cause

  derive_own : (end : End) → IsDeriveCause end old new passed → Contains (codes_of Derive) (code_of end)
  derive_own Done cause = (0, omega arith, refl)
  derive_own NoMemory cause = (1, omega arith, refl)
  derive_own ReadFault cause = (2, omega arith, refl)
  derive_own SendFault cause = (3, omega arith, refl)
  derive_own DiskFault cause = (4, omega arith, refl)
  derive_own (DamagedBlock block) cause = (5, omega arith, refl)
  derive_own (DamagedPage page) cause = (5, omega arith, refl)
  derive_own (BadInput at) cause = (6, omega arith, refl)
  derive_own InputTooLong cause = (7, omega arith, refl)
  derive_own (TooSmall blocks) cause = (8, omega arith, refl)
  derive_own (RefusedLine at number) cause = (9, omega arith, refl)
  derive_own end cause = absurd cause

  pub derive_ends : (end : End) → DeriveEnds old new passed end → (old.size < 128 → IsTurnedAway left left' before now (code_of end))
      → CommandEnds Derive old new left left' before now faults (code_of end) (place_of end)
  derive_ends end e away = by_code Derive old new left left' before now faults end (record {
    came = derive_came end e.cause e.sent;
    own = derive_own end e.cause;
    away = λ over. away;
    untaken = λ none. absurd none;
    reads = tt;
    reads_lines = told_any left;
    syncs = told_any left;
    unnamed = tt;
    nothing = λ some unsent quiet. absurd (quiet tt);
    pictures = λ is command. cc;
    holds = λ other. told_all left _ (λ total book held. (book, e.holds total book held));
    crash = all_told left before _ e.crash;
    disk = e.goes_on;
    honest = e.honest;
    complete = completes left (λ input. AreDerived old new input) end (of_derive old new passed end e away).good;
    drawn = λ command. cc;
    ready = λ command. cc;
  })
