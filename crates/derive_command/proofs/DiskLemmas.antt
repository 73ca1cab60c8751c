-- How lines end over the store of a disk, in the words of the disk.
use Rattle.std.proofs.Common.{◌≡◌, ◌≢◌, ◌∙◌, ℕ, ◌<◌, ◌≤◌, Bool, List, Option, Some, None, IfSome, refl, sym, subst, arith}
use Rattle.block_disk.proofs.Passing.{passes_weaker}
use Rattle.block_disk.specs.SentLaws.{sent_none}
use Rattle.block_disk.specs.View.{Image, View, Honest, Now, Passes, sent_now}
use Rattle.chart_service.specs.MomentLaws.{since_both, since_none}
use Rattle.chart_service.specs.Moments.{Since}
use Rattle.chart_service.proofs.DiskKept.{risen_since}
use Rattle.chart_world.specs.LineLaws.{told_so}
use Rattle.disk_store.specs.Held.{HoldsBook}
use Rattle.disk_store.proofs.Opened.{few_then}
use Rattle.disk_store.specs.Openings.{Opens}
use Rattle.disk_store.specs.declared.causes.OpeningCause.{OpeningCause}
use Rattle.disk_store.specs.declared.causes.OpeningCause.TheVariants as opening
use Rattle.gate_pages.specs.GateLaws.{goes_then}
use Rattle.gate_pages.specs.GatePages.{IsClosed, PagesOf, pages_view}
use Rattle.gate_pages.specs.Journal.{page_count, pages_of}
use Rattle.run_ends.specs.Statuses.{block_of}
use Rattle.run_ends.specs.declared.ending.End.{End}
use Rattle.run_ends.specs.declared.ending.End.TheVariants.{Done, NoMemory, ReadFault, SendFault, DiskFault, DamagedPage}
use Rattle.run_ends.specs.declared.ending.End.TheVariants.{BadInput, InputTooLong, RefusedLine}
use Rattle.series_book.specs.declared.one_series.Series.{Series}
use Rattle.stored_book.proofs.CurrentLemmas.{recovers_new, spelled_current}
use Rattle.series_pair.specs.Damage.{IsBadForChart}
use Rattle.stored_book.specs.Standing.{StandsForBook, RecoversTo}
use Rattle.store_commands.proofs.CheckLooks.{left_stands}
use Rattle.store_commands.proofs.Held.{RestsNew, held, holds_same, stands_held, within_held}
use Rattle.store_commands.proofs.InputLemmas.{any_told}
use Rattle.store_commands.proofs.Moments.{on_at, opened_goes, opened_since, since_on}
use Rattle.store_commands.proofs.WorldLemmas.{IsUnopened}
use Rattle.store_commands.specs.Books.{LeavesSame, OfBook}
use Rattle.store_commands.specs.Codes.{too_small, unopened}
use Rattle.store_commands.specs.Damaged.{IsDamagedLater}
use Rattle.store_commands.specs.Sides.{Side}
use Rattle.store_commands.specs.Status.{opening_end}
use Rattle.store_commands.specs.Traffic.{IsLong, Traffic, WasRead}
use Rattle.derive_command.specs.Derived.{DeriveEnds, IsDeriveCause}
use Rattle.derive_command.specs.Doing.{Goes, IsCause}
use Rattle.derive_command.specs.Answers.{Answering, IsAnswer, by_book}
use Rattle.derive_command.specs.Catalogs.{by_disk}
use Rattle.derive_command.specs.Lines.{EndsAnyhow, EndsSo}
use Rattle.derive_command.proofs.LineLemmas.{no_lines}
use Rattle.derive_command.proofs.RecordLemmas.{SaysMore, ends_anyhow}

-- a page that was called damaged is so of the disk, whose pages are of version 2
later_way : (count count' : ℕ) (new : View) (page : ℕ) → count' ≡ count → page < count'
    → (Honest new → IsBadForChart count' (pages_of count' new.image) page) → IsDamagedLater IsBadForChart count new (block_of page)
later_way count count' new page same within bad =
    let P : ℕ → Type 0 = λ n. IsBadForChart n (pages_of n new.image) page in
    let Q : Image → Type 0 = λ pages. IsBadForChart count pages page in
    record {
      page = page;
      place_is = refl;
      within = omega (arith, within, same);
      bad = λ honest. let here = subst P same (bad honest) in
          subst Q (sym (spelled_current (pages_of count new.image) here.numbers here.keeps.spelled)) here;
    }

abbrev pub disk_side : ℕ → Bool → View → ℕ → ℕ → ℕ → Side
disk_side count sound disk total reads sends = record {
  told = Honest disk;
  view = pages_view count sound disk;
  under = disk;
  total = total;
  read_faults = reads;
  send_faults = sends;
}

-- A store was opened, lines were answered over its pages, and its disk is at rest afterwards.
module _ (count count' : ℕ) (sound sound' : Bool) (first old new : View) (total total' : ℕ) (t : Traffic)
    (goes : Goes (disk_side count sound old total t.reads t.sends) (disk_side count' sound' new total' t.reads_now t.sends_now))
    (rests : RestsNew count old) (closed : IsClosed new) (few : total ≤ count) (counted : count ≡ page_count first.size)
    (opens : Opens (page_count first.size) first old) (quiet : old.faults ≡ first.faults) where
  -- the disk holds the book once the store is open
  held_open : (total : ℕ) (book : List Series) → HoldsBook (page_count first.size) total book first → HoldsBook count total book old
  held_open total book holds = let C : ℕ → Type 0 = λ n. HoldsBook n total book old in
      subst C (sym counted) (held first old opens total book holds)

  leaves : LeavesSame count old new
  leaves = λ total book holds.
      let IsSo : Image → ℕ → Type 0 = λ image sent. RecoversTo count image total book in
      let Q : Image → Type 0 = λ pages. StandsForBook pages total book in
      let before = pages_view count sound old in
      let after = pages_view count' sound' new in
      let S : ℕ → Type 0 = λ sent. (sent_now before ≤ sent) × (sent ≤ sent_now after) in
      let passes : Passes before after Q S = passes_weaker before after (PagesOf count (Now old)) Q S S
      (left_stands count total book old rests holds) (λ sent is. is) goes.time in
      since_on IsSo old old new (since_none old IsSo holds.images) goes.goes_on (λ at image low high left.
      let on = on_at count count' total sound sound' old new goes.size (within_held count total book old holds) Q S (λ pages is. book)
      (λ pages is. is) passes at image low high left in
      recovers_new count image total book on.readable on.within on.so)

  cause_on : (end : End) → (end ≡ Done → WasRead t.left t.left_now) → (end ≡ InputTooLong → IsLong t.left)
      → (end ≢ Done → IsCause end (disk_side count sound old total t.reads t.sends)
      (disk_side count' sound' new total' t.reads_now t.sends_now)) → IsDeriveCause end first new t
  cause_on Done whole long cause = whole refl
  cause_on NoMemory whole long cause = tt
  cause_on ReadFault whole long cause = cause (λ is. cc)
  cause_on SendFault whole long cause = cause (λ is. cc)
  cause_on DiskFault whole long cause = risen_since first.faults old.faults new.faults quiet (cause (λ is. cc))
  cause_on (DamagedPage page) whole long cause =
      let is = cause (λ is. cc) in
      let C : ℕ → Type 0 = λ n. IsDamagedLater IsBadForChart n new (block_of page) in
      subst C counted (later_way count count' new page goes.size (omega (arith, is.0, few, goes.size)) is.1)
  cause_on (BadInput at) whole long cause = tt
  cause_on InputTooLong whole long cause = long refl
  cause_on (RefusedLine at refusal) whole long cause = tt
  cause_on end whole long cause = absurd (cause (λ is. cc))

  sent_on : (left : Option (List ℕ)) (end : End) → ((total : ℕ) (book : List Series) → Honest old
      → StandsForBook (pages_of count old.image) total book
      → IfSome left (λ input. EndsSo (by_book book) input t.left_now t.sent t.sent_now end))
      → IfSome left (λ input. OfBook (page_count first.size) first
      (λ total book. EndsSo (by_book book) input t.left_now t.sent t.sent_now end))
  sent_on None end ends = tt
  sent_on (Some input) end ends = λ total book holds. let here = held_open total book holds in
      ends total book here.honest (stands_held count total book old rests here)

  pub derived_by : (end : End) → (end ≡ Done → WasRead t.left t.left_now) → (end ≡ InputTooLong → IsLong t.left)
      → (end ≢ Done → IsCause end (disk_side count sound old total t.reads t.sends)
      (disk_side count' sound' new total' t.reads_now t.sends_now))
      → ((total : ℕ) (book : List Series) → Honest old → StandsForBook (pages_of count old.image) total book
      → IfSome t.left (λ input. EndsSo (by_book book) input t.left_now t.sent t.sent_now end))
      → (by : Answering) → (by_all : SaysMore by (by_disk count' new))
      → IfSome t.left (λ input. EndsSo by input t.left_now t.sent t.sent_now end)
      → DeriveEnds first new t end
  derived_by end whole long cause ends by more lines = record {
    lines =
        let C : ℕ → Type 0 = λ n. IfSome t.left (λ input. EndsAnyhow (by_disk n new) input t.left_now t.sent t.sent_now end) in
        subst C (goes.size ∙ counted)
        (told_so (λ input. EndsSo by input t.left_now t.sent t.sent_now end)
        (λ input. EndsAnyhow (by_disk count' new) input t.left_now t.sent t.sent_now end) t.left
        (λ input is. ends_anyhow by (by_disk count' new) more input t.left_now t.sent t.sent_now end is) lines);
    cause = cause_on end whole long cause;
    sent = sent_on t.left end ends;
    crash = λ total book holds.
        let C : ℕ → Type 0 = λ n. Since old new (λ image sent. RecoversTo n image total book) in
        since_both first old new (λ image sent. RecoversTo (page_count first.size) image total book)
        (opened_since first old opens total book holds) (subst C counted (leaves total book (held_open total book holds)));
    holds = λ total book holds.
        let C : ℕ → Type 0 = λ n. HoldsBook n total book new in
        subst C counted (holds_same count count' total book old new rests goes.size goes.is_told goes.image closed
        (held_open total book holds));
    few = few_then (page_count first.size) first old new opens.few goes.syncs goes.writes;
    honest = λ h. goes.is_told (opens.honest h);
    goes_on = goes_then first old new (opened_goes first old opens) goes.goes_on;
  }

-- ---- no store was opened

module _ (old new : View) (t : Traffic) where
  unopened_cause : (cause : OpeningCause) → IsUnopened old new t.left t.left_now t.sent t.sent_now cause
      → IsDeriveCause (opening_end cause) old new t
  unopened_cause (opening.TooSmall size) u = (u.prevents.0, omega (arith, u.prevents.0, u.prevents.1))
  unopened_cause (opening.Damaged block) u = (u.prevents.1, (u.left_is, u.sent_is))
  unopened_cause opening.DiskFault u = u.prevents
  unopened_cause opening.NoMemory u = tt

  unopened_sent : (input : List ℕ) (cause : OpeningCause) → IsUnopened old new t.left t.left_now t.sent t.sent_now cause
      → OfBook (page_count old.size) old (λ total book. EndsSo (by_book book) input t.left_now t.sent t.sent_now (opening_end cause))
  unopened_sent input (opening.TooSmall size) u = λ total book holds. absurd (too_small size (u.outside total book holds))
  unopened_sent input (opening.Damaged block) u = λ total book holds. absurd (unopened block (u.outside total book holds))
  unopened_sent input opening.DiskFault u = λ total book holds. record {
    first = no_lines (IsAnswer book) input;
    sent = u.sent_is ∙ sent_none t.sent;
  }
  unopened_sent input opening.NoMemory u = λ total book holds. record {
    first = no_lines (IsAnswer book) input;
    sent = u.sent_is ∙ sent_none t.sent;
  }

  unopened_lines : (by : Answering) (input : List ℕ) (cause : OpeningCause) → IsUnopened old new t.left t.left_now t.sent t.sent_now cause
      → EndsAnyhow by input t.left_now t.sent t.sent_now (opening_end cause)
  unopened_lines by input (opening.TooSmall size) u = u.sent_is
  unopened_lines by input (opening.Damaged block) u = u.sent_is
  unopened_lines by input opening.DiskFault u = record { first = no_lines by.answers input; sent = u.sent_is ∙ sent_none t.sent }
  unopened_lines by input opening.NoMemory u = record { first = no_lines by.answers input; sent = u.sent_is ∙ sent_none t.sent }

  pub unopened_ends : (cause : OpeningCause) (end : End) → end ≡ opening_end cause
      → IsUnopened old new t.left t.left_now t.sent t.sent_now cause → DeriveEnds old new t end
  unopened_ends cause end same u =
      let E : End → Type 0 = λ e. DeriveEnds old new t e in
      subst E (sym same) (record {
        cause = unopened_cause cause u;
        sent = any_told t.left _ (λ input. unopened_sent input cause u);
        lines = any_told t.left (λ input. EndsAnyhow (by_disk (page_count old.size) new) input t.left_now t.sent t.sent_now
            (opening_end cause))
            (λ input. unopened_lines (by_disk (page_count old.size) new) input cause u);
        crash = opened_since old new u.opens;
        holds = held old new u.opens;
        few = u.opens.few;
        honest = u.opens.honest;
        goes_on = opened_goes old new u.opens;
      })
