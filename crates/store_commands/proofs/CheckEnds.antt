-- How a check ends.
use Rattle.std.proofs.Common.{◌≡◌, ℕ, List, Option, sym, subst, arith}
use Rattle.block_disk.specs.View.{Image, View, Honest}
use Rattle.gate_pages.specs.GateLaws.{goes_then}
use Rattle.gate_pages.specs.Journal.{page_count}
use Rattle.gate_pages.specs.Pages.{GoesOn}
use Rattle.series_store.specs.Counting.{AreSound}
use Rattle.chart_service.proofs.DiskKept.{risen_since}
use Rattle.store_commands.specs.Damaged.{IsDamagedLater}
use Rattle.disk_store.proofs.Opened.{few_then}
use Rattle.disk_store.specs.Openings.{Opens}
use Rattle.disk_store.specs.declared.causes.OpeningCause.{OpeningCause}
use Rattle.disk_store.specs.declared.causes.OpeningCause.TheVariants as opening
use Rattle.series_store.specs.declared.counts.Counts.{Counts}
use Rattle.page_space.specs.Layout.{superblock_page}
use Rattle.stored_book.specs.Standing.{AreCatalog, book_pages, RecoversTo}
use Rattle.run_ends.specs.Statuses.{block_of}
use Rattle.run_ends.specs.declared.ending.End.{End}
use Rattle.run_ends.specs.declared.ending.End.TheVariants.{Done, NoMemory, SendFault, DiskFault, DamagedPage}
use Rattle.store_commands.specs.Books.{LeavesSame}
use Rattle.store_commands.specs.Status.{opening_end}
use Rattle.store_commands.specs.Unopened.{IsUnopenedEnd}
use Rattle.store_commands.proofs.Held.{held}
use Rattle.store_commands.proofs.Moments.{opened_since, opened_goes, since_on}
use Rattle.store_commands.proofs.Unopened.{unopened_end}
use Rattle.store_commands.proofs.WorldLemmas.{IsUnopened}
use Rattle.store_commands.specs.Checked.{AreWhole, IsBadForCheck, IsCheckEnd, CheckEnds}
use Rattle.store_commands.specs.Checking.{EndsCheck, ChecksStore}

-- no store was opened
pub unchecked : (old new : View) (left left' before now : Option (List ℕ)) (sends sends_now : ℕ) (cause : OpeningCause) (end : End)
    → IsUnopened old new left left' before now cause → end ≡ opening_end cause
    → CheckEnds old new before now sends sends_now end
unchecked old new left left' before now sends sends_now cause end u same = record {
  is =
      let P : End → Type 0 = λ e. IsCheckEnd e old new before now sends sends_now in
      subst P (sym same) (by cause (unopened_end old new left left' before now cause u));
  crash = opened_since old new u.opens;
  holds = held old new u.opens;
  reads = λ total book holds. omega (arith, u.opens.reads.high);
  few = u.opens.few;
  honest = u.opens.honest;
  goes_on = opened_goes old new u.opens;
}
  where
    by : (cause : OpeningCause) → IsUnopenedEnd (opening_end cause) old new × (now ≡ before)
        → IsCheckEnd (opening_end cause) old new before now sends sends_now
    by opening.NoMemory is = is
    by cause is = is

-- The store was opened and checked.
module _ (old mid new : View) (before now : Option (List ℕ)) (sends sends_now : ℕ) (opens : Opens (page_count old.size) old mid)
    (pages : Honest old → book_pages (page_count old.size) mid.image ≡ book_pages (page_count old.size) old.image) where
  pub since_both : LeavesSame (page_count old.size) mid new → GoesOn mid new → LeavesSame (page_count old.size) old new
  since_both crash goes = λ total book holds.
      let IsSo : Image → ℕ → Type 0 = λ image sent. RecoversTo (page_count old.size) image total book in
      let later = crash total book (held old mid opens total book holds) in
      since_on IsSo old mid new (opened_since old mid opens total book holds) goes
      (λ at image low high left. later.here at image (omega (arith, low)) high left)

  whole_before : (counts : Counts) → AreWhole (page_count old.size) mid counts → AreWhole (page_count old.size) old counts
  whole_before counts whole = record {
    superblock = whole.superblock;
    numbers = whole.numbers;
    rules = whole.rules;
    spelled = λ honest.
        let P : Image → Type 0 = λ image. image 0 ≡ superblock_page whole.superblock in
        subst P (pages honest) (whole.spelled (opens.honest honest));
    catalog = λ honest.
        let P : Image → Type 0 = λ image. AreCatalog image whole.superblock.fresh whole.superblock.series in
        subst P (pages honest) (whole.catalog (opens.honest honest));
    sound = λ honest.
        let P : Image → Type 0 = λ image. AreSound image whole.superblock in
        subst P (pages honest) (whole.sound (opens.honest honest));
  }

  bad_before : (place : ℕ) → IsDamagedLater IsBadForCheck (page_count old.size) mid place
      → IsDamagedLater IsBadForCheck (page_count old.size) old place
  bad_before place bad = record {
    page = bad.page;
    place_is = bad.place_is;
    within = bad.within;
    bad = λ honest.
        let P : Image → Type 0 = λ image. IsBadForCheck (page_count old.size) image bad.page in
        subst P (pages honest) (bad.bad (opens.honest honest));
  }

  checked : mid.faults ≡ old.faults → (end : End) → EndsCheck end (page_count old.size) mid new before now sends sends_now
      → IsCheckEnd end old new before now sends sends_now
  checked quiet Done all =
      record {
        counts = all.counts;
        of_book = λ total book is. all.of_book total book (held old mid opens total book is);
        whole = whole_before all.counts all.whole;
        sent = all.sent;
      }
  checked quiet NoMemory same = (tt, same)
  checked quiet SendFault part = (
    part.0,
    record {
      counts = part.1.counts;
      of_book = λ total book is. part.1.of_book total book (held old mid opens total book is);
      whole = whole_before part.1.counts part.1.whole;
      sent = part.1.sent;
    },
  )
  checked quiet DiskFault fault = (risen_since old.faults mid.faults new.faults quiet fault.0, fault.1)
  checked quiet (DamagedPage page) bad = (
    bad_before (block_of page) bad.0,
    λ total book is. bad.1 total book (held old mid opens total book is),
    bad.2,
  )
  checked quiet end none = absurd none

-- the same, where equals stand for equals
pub ends_opened : (count : ℕ) (old mid new : View) (before mid_before now : Option (List ℕ)) (sends mid_sends sends_now : ℕ) (end : End)
    → Opens (page_count old.size) old mid → mid.faults ≡ old.faults → count ≡ page_count old.size
    → (Honest old → book_pages count mid.image ≡ book_pages count old.image)
    → mid_before ≡ before → mid_sends ≡ sends → ChecksStore count mid new mid_before now mid_sends sends_now end
    → CheckEnds old new before now sends sends_now end
ends_opened count old mid new before mid_before now sends mid_sends sends_now end opens quiet counted pages same same_sends s =
    let C : ℕ → Type 0 = λ c. ChecksStore c mid new mid_before now mid_sends sends_now end in
    let G : ℕ → Type 0 = λ c. Honest old → book_pages c mid.image ≡ book_pages c old.image in
    let B : Option (List ℕ) → Type 0 = λ b. CheckEnds old new b now mid_sends sends_now end in
    let S : ℕ → Type 0 = λ n. CheckEnds old new before now n sends_now end in
    let e = subst C counted s in
    let pages_are = subst G counted pages in
    let all : CheckEnds old new mid_before now mid_sends sends_now end = record {
      is = checked old mid new mid_before now mid_sends sends_now opens pages_are quiet end e.is;
      crash = since_both old mid new mid_before now mid_sends sends_now opens pages_are e.crash e.goes_on;
      holds = λ total book is. e.holds total book (held old mid opens total book is);
      reads = λ total book is. omega (arith, opens.reads.high, e.reads total book (held old mid opens total book is));
      few = few_then (page_count old.size) old mid new opens.few e.unwritten.0 e.unwritten.1;
      honest = λ h. e.honest (opens.honest h);
      goes_on = goes_then old mid new (opened_goes old mid opens) e.goes_on;
    } in
    subst S same_sends (subst B same all)
