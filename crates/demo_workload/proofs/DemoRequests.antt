-- The requests of a demo are answered over a store, by what a workload does over its pages.
use Rattle.std.proofs.Common.{◌≡◌, ◌≢◌, ℕ, ◌≤◌, Bool, List, [], Result, Ok, Err, refl, sym, subst, inr, arith, ◌∙◌}
use Rattle.std.specs.Prelude.{IfOk, IfErr}
use Rattle.block_disk.specs.View.{Image, View, Honest, Passes, sent_now}
use Rattle.gate_pages.specs.GateLaws.{goes_none, goes_then}
use Rattle.gate_pages.specs.GatePages.{IsClosed, pages_view}
use Rattle.gate_pages.specs.Journal.{page_count, pages_of}
use Rattle.gate_pages.specs.Pages.{GoesOn, Quiet}
use Rattle.request_lines.specs.declared.requests.Request.{Request}
use Rattle.series_book.specs.declared.one_series.Series.{Series}
use Rattle.empty_store.proofs.DisksMade.{sent_so}
use Rattle.disk_store.specs.Held.{HoldsBook}
use Rattle.disk_store.specs.Openings.{Opens}
use Rattle.disk_store.proofs.Lowered.{holds_closed}
use Rattle.run_ends.specs.declared.ending.End.{End}
use Rattle.run_ends.specs.declared.ending.End.TheVariants.{NoMemory, DiskFault, DamagedPage}
use Rattle.stored_book.specs.Damage.{IsBadForRequest}
use Rattle.stored_book.specs.Standing.{StandsForBook, RecoversTo}
use Rattle.stored_book.proofs.CurrentLemmas.{spelled_current}
use Rattle.zoom_session.specs.declared.session.Session.{Session}
use Rattle.chart_service.specs.MomentLaws.{since_none, since_both}
use Rattle.chart_service.specs.Moments.{Since}
use Rattle.chart_service.specs.State.{State}
use Rattle.chart_service.specs.Stepping.{StandsAfter}
use Rattle.chart_service.proofs.DiskKept.{risen_since}
use Rattle.demo_workload.specs.declared.summaries.Summary.{Summary}
use Rattle.demo_workload.specs.Ending.{IsOutside, IsCause}
use Rattle.demo_workload.specs.Replying.{Summarizes, IsPartWay}
use Rattle.store_commands.specs.Books.{OfBook, FromBook, begun}
use Rattle.store_commands.proofs.Held.{RestsNew, held, stands_held, within_held, from_book}
use Rattle.store_commands.proofs.Moments.{since_opened, since_worked, on_book, opened_quiet, opened_goes}
use Rattle.demo_workload.specs.Demonstrated.{AnswersFirst, IsAheadDemo, LeavesDemo}
use Rattle.demo_workload.specs.Answered.{Answered, IsEndCause}

-- ---- before the first request

pub first_none : (requests : List Request) (start : State) → AnswersFirst requests start start
first_none requests start = record { first = []; rest = requests; split = refl; frames = []; answered = refl }

pub ahead_none : (requests : List Request) (count total : ℕ) (book : List Series) (from : ℕ) (image : Image)
    → RecoversTo count image total book → IsAheadDemo requests count total (begun total book) from image from
ahead_none requests count total book from image is = record {
  readable = is.readable;
  within = is.within;
  old = is.old;
  some = record { first = []; rest = requests; split = refl; frames = []; new = begun total book; answered = refl; stands = is.stands };
  all = λ more. absurd (omega (arith, more));
}

pub since_start : (requests : List Request) (count total : ℕ) (book : List Series) (at : View) → HoldsBook count total book at
    → Since at at (IsAheadDemo requests count total (begun total book) (sent_now at))
since_start requests count total book at holds =
    since_none at (IsAheadDemo requests count total (begun total book) (sent_now at)) (λ image left.
    ahead_none requests count total book (sent_now at) image (holds.images image left))

-- want of memory for a service
pub answered_none : (requests : List Request) (count : ℕ) (at : View) → Answered requests count at at (Err NoMemory)
answered_none requests count at = record {
  done = tt;
  stopped = λ other total book holds. (begun total book, first_none requests (begun total book), holds);
  outside = λ total book holds. inr refl;
  cause = tt;
  crash = λ total book holds. since_start requests count total book at holds;
  quiet = λ total book holds. refl;
  beside = refl;
  faults = omega arith;
  honest = λ h. h;
  goes_on = goes_none at;
}

-- ---- a workload over the pages of a disk

cause_of : (end : End) (count count' : ℕ) (sound sound' : Bool) (old new : View) → count' ≡ count
    → IsCause end (Honest new) (pages_view count sound old) (pages_view count' sound' new) → IsEndCause end count old new
cause_of (DamagedPage page) count count' sound sound' old new same is =
    let C : ℕ → Type 0 = λ n. IsBadForRequest n (pages_of n new.image) page in
    let D : Image → Type 0 = λ i. IsBadForRequest count i page in
    record {
      page = page;
      place_is = refl;
      within = omega (arith, is.0, same);
      bad = λ honest. let bad = subst C same (is.1 honest) in
          subst D (sym (spelled_current (pages_of count new.image) bad.numbers bad.keeps.spelled)) bad;
    }
cause_of end count count' sound sound' old new same is = is

cause_in : (answer : Result Summary End) (count count' : ℕ) (sound sound' : Bool) (old new : View) → count' ≡ count
    → IfErr answer (λ end. IsCause end (Honest new) (pages_view count sound old) (pages_view count' sound' new))
    → IfErr answer (λ end. IsEndCause end count old new)
cause_in (Ok summary) count count' sound sound' old new same is = tt
cause_in (Err end) count count' sound sound' old new same is = cause_of end count count' sound sound' old new same is

module _ (requests : List Request) (count count' : ℕ) (sound sound' : Bool) (old new : View) (sessions : List Session)
    (same : count' ≡ count) (told : Honest old → Honest new) (faults : old.faults ≤ new.faults) (beside : new.beside ≡ old.beside)
    (goes : GoesOn old new) (rests : RestsNew count old) where
  -- where the pages stand for a book
  abbrev pub OfPages : (ℕ → List Series → Type 0) → Type 0
  OfPages IsSo = (total : ℕ) (book : List Series) → Honest old → StandsForBook (pages_of count old.image) total book → IsSo total book

  abbrev pub Done : ℕ → List Series → Summary → Type 0
  Done total book summary = StandsAfter total (pages_of count' new.image) sessions
      (λ state. Summarizes requests (begun total book) state summary)

  abbrev pub Left : ℕ → List Series → End → Type 0
  Left total book end = end ≢ DiskFault → IsPartWay requests total (begun total book) (pages_of count' new.image)

  abbrev pub Passed : ℕ → List Series → Type 0
  Passed total book = Passes (pages_view count sound old) (pages_view count' sound' new) (IsPartWay requests total (begun total book))
      (Quiet (pages_view count sound old))

  of_pages : (IsSo : ℕ → List Series → Type 0) → OfPages IsSo → OfBook count old IsSo
  of_pages IsSo all = λ total book holds. all total book holds.honest (stands_held count total book old rests holds)

  -- the book that some first requests left is held
  stopped_by : (end : End) → OfPages (λ total book. Left total book end) → IsClosed new → end ≢ DiskFault
      → FromBook count old new (AnswersFirst requests)
  stopped_by end left closed other = λ total book holds.
      let way = of_pages (λ total book. Left total book end) left total book holds other in
      let S : ℕ → Type 0 = λ c. StandsForBook (pages_of c new.image) total way.new.book in (
        way.new,
        record { first = way.first; rest = way.rest; split = way.split; frames = way.frames; answered = way.answered },
        holds_closed count total way.new.book new closed (told holds.honest) (within_held count total book old holds)
            (subst S same way.stands),
      )

  leaves : OfPages Passed → LeavesDemo requests count old new
  leaves passes = λ total book holds.
      let IsSo : Image → ℕ → Type 0 = IsAheadDemo requests count total (begun total book) (sent_now old) in
      since_worked IsSo count count' total sound sound' old old new (IsPartWay requests total (begun total book))
      (λ pages is. is.new.book) same (within_held count total book old holds) (λ pages is. is.stands)
      (of_pages Passed passes total book holds) goes refl
      (λ image on.
      let here = on_book count total (IsPartWay requests total (begun total book)) on.so.new.book image on.so.stands on in
      record { readable = here.readable; within = here.within; old = here.old; some = here.so; all = λ more. absurd (omega (arith, more)) })
      (since_start requests count total book old holds)

  quiet_by : OfPages Passed → OfBook count old (λ total book. sent_now new ≡ sent_now old)
  quiet_by passes = λ total book holds.
      sent_so (pages_view count sound old) (pages_view count' sound' new) (IsPartWay requests total (begun total book))
      (of_pages Passed passes total book holds) new.clock goes.later (omega arith)

  answered_alone : (answer : Result Summary End) → OfPages (λ total book. IfOk answer (Done total book))
      → OfPages (λ total book. IfErr answer IsOutside) → OfPages Passed → OfPages (λ total book. IfErr answer (Left total book))
      → IfErr answer (λ end. IsEndCause end count old new) → (answer ≢ Err DiskFault → IsClosed new)
      → Answered requests count old new answer
  answered_alone (Ok summary) done standing passes left cause closed = record {
    done = from_book count count' old new same told sessions (λ start state. Summarizes requests start state summary) (closed (λ e. cc))
        (of_pages (λ total book. Done total book summary) done);
    stopped = tt;
    outside = tt;
    cause = tt;
    crash = leaves passes;
    quiet = quiet_by passes;
    beside = beside;
    faults = faults;
    honest = told;
    goes_on = goes;
  }
  answered_alone (Err end) done standing passes left cause closed = record {
    done = tt;
    stopped = λ other. stopped_by end left (closed (λ e. other (cc))) other;
    outside = of_pages (λ total book. IsOutside end) standing;
    cause = cause;
    crash = leaves passes;
    quiet = quiet_by passes;
    beside = beside;
    faults = faults;
    honest = told;
    goes_on = goes;
  }

  pub answered_by : (answer : Result Summary End) → OfPages (λ total book. IfOk answer (Done total book))
      → OfPages (λ total book. IfErr answer IsOutside) → OfPages Passed → OfPages (λ total book. IfErr answer (Left total book))
      → IfErr answer (λ end. IsCause end (Honest new) (pages_view count sound old) (pages_view count' sound' new))
      → (answer ≢ Err DiskFault → IsClosed new) → Answered requests count old new answer
  answered_by answer done standing passes left cause closed = answered_alone answer done standing passes left
      (cause_in answer count count' sound sound' old new same cause) closed

-- ---- and the store was opened before

leaves_on : (requests : List Request) (old mid new : View) → Opens (page_count old.size) old mid
    → LeavesDemo requests (page_count old.size) mid new → LeavesDemo requests (page_count old.size) old new
leaves_on requests old mid new opens leaves = λ total book holds.
    let count = page_count old.size in
    let IsSo : Image → ℕ → Type 0 = IsAheadDemo requests count total (begun total book) (sent_now old) in
    let P : ℕ → Type 0 = λ from. Since mid new (IsAheadDemo requests count total (begun total book) from) in
    since_both old mid new IsSo (since_opened IsSo old mid total book opens holds
    (λ image is. ahead_none requests count total book (sent_now old) image is))
    (subst P (opened_quiet old mid opens) (leaves total book (held old mid opens total book holds)))

cause_on : (end : End) (count : ℕ) (old mid new : View) → mid.faults ≡ old.faults → IsEndCause end count mid new
    → IsEndCause end count old new
cause_on DiskFault count old mid new same is = risen_since old.faults mid.faults new.faults same is
cause_on end count old mid new same is = is

answered_on : (requests : List Request) (old mid new : View) (answer : Result Summary End) → Opens (page_count old.size) old mid
    → mid.faults ≡ old.faults → Answered requests (page_count old.size) mid new answer
    → Answered requests (page_count old.size) old new answer
answered_on requests old mid new (Ok summary) opens quiet a = record {
  done = λ total book holds. a.done total book (held old mid opens total book holds);
  stopped = tt;
  outside = tt;
  cause = tt;
  crash = leaves_on requests old mid new opens a.crash;
  quiet = λ total book holds. a.quiet total book (held old mid opens total book holds) ∙ opened_quiet old mid opens;
  beside = a.beside ∙ opens.beside_is;
  faults = omega (arith, opens.faults, a.faults);
  honest = λ h. a.honest (opens.honest h);
  goes_on = goes_then old mid new (opened_goes old mid opens) a.goes_on;
}
answered_on requests old mid new (Err end) opens quiet a = record {
  done = tt;
  stopped = λ other total book holds. a.stopped other total book (held old mid opens total book holds);
  outside = λ total book holds. a.outside total book (held old mid opens total book holds);
  cause = cause_on end (page_count old.size) old mid new quiet a.cause;
  crash = leaves_on requests old mid new opens a.crash;
  quiet = λ total book holds. a.quiet total book (held old mid opens total book holds) ∙ opened_quiet old mid opens;
  beside = a.beside ∙ opens.beside_is;
  faults = omega (arith, opens.faults, a.faults);
  honest = λ h. a.honest (opens.honest h);
  goes_on = goes_then old mid new (opened_goes old mid opens) a.goes_on;
}

pub answered_opened : (requests : List Request) (count : ℕ) (old mid new : View) (answer answer' : Result Summary End)
    → count ≡ page_count old.size → answer ≡ answer' → Opens (page_count old.size) old mid → mid.faults ≡ old.faults
    → Answered requests count mid new answer → Answered requests (page_count old.size) old new answer'
answered_opened requests count old mid new answer answer' counted same opens quiet a =
    let C : ℕ → Type 0 = λ c. Answered requests c mid new answer in
    let A : Result Summary End → Type 0 = λ x. Answered requests (page_count old.size) old new x in
    subst A same (answered_on requests old mid new answer opens quiet (subst C counted a))
