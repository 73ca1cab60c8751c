-- What is done over the store of a disk, in the words of the disk.
use Rattle.std.proofs.Common.{◌≡◌, ◌≢◌, ◌∙◌, ℕ, ◌≤◌, Bool, List, [], Option, Some, None, IfSome, refl, sym, subst, arith}
use Rattle.block_disk.specs.View.{Image, View, Honest, sent_now}
use Rattle.block_disk.specs.SentLaws.{sent_none}
use Rattle.chart_service.specs.MomentLaws.{since_both, since_none}
use Rattle.chart_service.specs.Moments.{Since}
use Rattle.chart_service.proofs.DiskKept.{risen_since}
use Rattle.disk_store.proofs.Lowered.{lowered_is, lowered_readable}
use Rattle.disk_store.specs.Held.{HoldsBook}
use Rattle.disk_store.proofs.Opened.{syncs_few}
use Rattle.disk_store.specs.Openings.{Opens}
use Rattle.disk_store.specs.declared.causes.OpeningCause.{OpeningCause}
use Rattle.disk_store.specs.declared.causes.OpeningCause.TheVariants as opening
use Rattle.gate_pages.specs.GateLaws.{goes_none, goes_then}
use Rattle.gate_pages.specs.GatePages.{IsClosed, PagesOf, pages_view}
use Rattle.gate_pages.specs.Journal.{page_count, pages_of}
use Rattle.live_service.specs.LiveReplies.{LiveState}
use Rattle.run_ends.specs.declared.ending.End.{End}
use Rattle.run_ends.specs.declared.ending.End.TheVariants.{Done, NoMemory, ReadFault, SendFault, DiskFault, DamagedPage, InputTooLong}
use Rattle.series_book.specs.declared.one_series.Series.{Series}
use Rattle.stored_book.proofs.CurrentLemmas.{recovers_new}
use Rattle.stored_book.specs.Standing.{StandsForBook, RecoversTo}
use Rattle.store_commands.proofs.Damages.{later_bad}
use Rattle.store_commands.proofs.Held.{RestsNew, held, holds_so, stands_held, within_held}
use Rattle.store_commands.proofs.HoldsAgain.{again_opened, again_told}
use Rattle.store_commands.proofs.Moments.{opened_goes, opened_quiet, since_opened}
use Rattle.store_commands.proofs.WorldLemmas.{IsUnopened}
use Rattle.store_commands.specs.Books.{HoldsAgain, OfBook, OfPages, Stands, Holds}
use Rattle.store_commands.specs.Codes.{too_small, unopened}
use Rattle.store_commands.specs.Status.{opening_end}
use Rattle.store_commands.specs.Traffic.{IsLong, Traffic, WasRead}
use Rattle.hosted_lines.specs.Doing.{Goes, IsCause}
use Rattle.hosted_lines.specs.Begun.{begun_live}
use Rattle.hosted_lines.specs.Blaming.{OfDamaged}
use Rattle.hosted_lines.proofs.DiskSides.{disk_side}
use Rattle.live_command.specs.Ended.{IsLiveCause, LeavesLived, LiveEnds, ReadsFrom, ReadsLiving, SyncsLiving}
use Rattle.live_command.specs.Ending.{IsServeCause, Served}
use Rattle.hosted_lines.specs.Reads.{ReadsLines}
use Rattle.live_command.specs.Running.{EndsSo, IsAhead, SendsAll}
use Rattle.live_command.specs.Syncs.{SyncsLines}
use Rattle.live_command.proofs.ReadLemmas.{none_read}
use Rattle.live_command.proofs.RunLemmas.{no_lines, none_ahead}
use Rattle.live_command.proofs.SyncLemmas.{nothing_synced}

-- ---- the same of a book that is there otherwise

module _ (IsThere IsThat : List Series → Type 0) (input : List ℕ) (old : LiveState) (before now : Option (List ℕ))
    (so : (after : List Series) → IsThere after → IsThat after) where
  all_so : SendsAll IsThere input old before now → SendsAll IsThat input old before now
  all_so s = record {
    frames = s.frames;
    state = s.state;
    lives = s.lives;
    idle = s.idle;
    there = so s.state.state.book s.there;
    sent = s.sent;
  }

  ends_so : (left : Option (List ℕ)) (end : End) → EndsSo IsThere input old left before now end
      → EndsSo IsThat input old left before now end
  ends_so left Done s = all_so s
  ends_so left NoMemory s = record {
    shown = s.shown;
    more = s.more;
    few = s.few;
    state = s.state;
    first = s.first;
    there = so s.state.state.book s.there;
    sent = s.sent;
  }
  ends_so left ReadFault s = record {
    sends = record {
      frames = s.sends.frames;
      state = s.sends.state;
      first = s.sends.first;
      idle = s.sends.idle;
      there = so s.sends.state.state.book s.sends.there;
      sent = s.sends.sent;
    };
    whole = s.whole;
    behind = s.behind;
  }
  ends_so left SendFault s = record {
    shown = s.shown;
    last = s.last;
    state = s.state;
    first = s.first;
    there = so s.state.state.book s.there;
    between = s.between;
    whole = s.whole;
    part = s.part;
  }
  ends_so left DiskFault s = s
  ends_so left InputTooLong s = record {
    sends = record {
      frames = s.sends.frames;
      state = s.sends.state;
      first = s.sends.first;
      idle = s.sends.idle;
      there = so s.sends.state.state.book s.sends.there;
      sent = s.sends.sent;
    };
    unended = s.unended;
    past = s.past;
  }
  ends_so left end s = absurd s

ahead_so : (IsThere IsThat : List Series → Type 0) (input : List ℕ) (old : LiveState) (from sent : ℕ)
    → ((after : List Series) → IsThere after → IsThat after) → IsAhead IsThere input old from sent → IsAhead IsThat input old from sent
ahead_so IsThere IsThat input old from sent so a = record {
  shown = a.shown;
  more = a.more;
  few = a.few;
  state = a.state;
  first = a.first;
  there = so a.state.state.book a.there;
  low = a.low;
  high = a.high;
}

-- ---- what a crash leaves

-- what is ahead in all pages that a crash may leave is so in each image that it may leave
ahead_on : (total : ℕ) (input : List ℕ) (old : LiveState) (from sent count : ℕ) (crash : Image → Type 0) → total ≤ count
    → ((pages : Image) → PagesOf count crash pages → IsAhead (Stands total pages) input old from sent) → (image : Image) → crash image
    → IsAhead (λ after. RecoversTo count image total after) input old from sent
ahead_on total input old from sent count crash within all image left =
    let Q : Image → Type 0 = λ pages. IsAhead (Stands total pages) input old from sent in
    let total_of : (pages : Image) → Q pages → ℕ = λ pages is. total in
    let book_of : (pages : Image) → Q pages → List Series = λ pages is. is.state.state.book in
    let stand : (pages : Image) (is : Q pages) → StandsForBook pages (total_of pages is) (book_of pages is) = λ pages is. is.there in
    let readable = lowered_readable count crash Q total_of book_of stand all image left in
    ahead_so (Stands total (pages_of count image)) (λ after. RecoversTo count image total after) input old from sent
    (λ after stands. recovers_new count image total after readable within stands)
    (lowered_is count crash Q total_of book_of stand all image left)

-- ---- the lines of an input over the pages of a disk, which is at rest afterwards unless a call of it failed

-- from the state on that a service without sessions begins with
module _ (count count' : ℕ) (sound sound' : Bool) (old new : View) (t : Traffic)
    (goes : Goes (disk_side count sound old t.reads t.sends) (disk_side count' sound' new t.reads_now t.sends_now))
    (rests : RestsNew count old) (state : ℕ → List Series → LiveState) (begins : (total : ℕ) (book : List Series)
    → state total book ≡ begun_live total book) where
  cause_on : (end : End) → (end ≡ Done → WasRead t.left t.left_now) → (end ≡ InputTooLong → IsLong t.left)
      → (end ≢ Done → IsCause end (disk_side count sound old t.reads t.sends) (disk_side count' sound' new t.reads_now t.sends_now))
      → IsServeCause end count old new t
  cause_on Done whole long cause = whole refl
  cause_on NoMemory whole long cause = tt
  cause_on ReadFault whole long cause = cause (λ is. cc)
  cause_on SendFault whole long cause = cause (λ is. cc)
  cause_on DiskFault whole long cause = cause (λ is. cc)
  cause_on (DamagedPage page) whole long cause = let is = cause (λ is. cc) in later_bad count count' new page goes.size is.0 is.1
  cause_on InputTooLong whole long cause = long refl
  cause_on end whole long cause = absurd (cause (λ is. cc))

  -- by the pages of the store
  abbrev ServedOn : ℕ → LiveState → List ℕ → End → Type 0
  ServedOn total start input end = EndsSo (Stands total (pages_of count' new.image)) input start t.left_now t.sent t.sent_now end

  end_on : (total : ℕ) (book : List Series) (input : List ℕ) (end : End) → HoldsBook count total book old → (end ≢ DiskFault → IsClosed new)
      → ServedOn total (begun_live total book) input end
      → EndsSo (Holds count total new) input (begun_live total book) t.left_now t.sent t.sent_now end
  end_on total book input DiskFault holds closed s = s
  end_on total book input end holds closed s = ends_so (Stands total (pages_of count' new.image)) (Holds count total new) input
      (begun_live total book) t.sent t.sent_now (holds_so count count' old new goes.size goes.is_told total book holds (closed (λ is. cc)))
      t.left_now end s

  does_on : (left : Option (List ℕ)) (end : End) → OfPages count old
      (λ total book. IfSome left (λ input. ServedOn total (state total book) input end)) → (end ≢ DiskFault → IsClosed new)
      → IfSome left (λ input. OfBook count old (λ total book. EndsSo (Holds count total new) input
      (begun_live total book) t.left_now t.sent t.sent_now end))
  does_on None end all closed = tt
  does_on (Some input) end all closed = λ total book holds.
      let P : LiveState → Type 0 = λ s. ServedOn total s input end in
      end_on total book input end holds closed (subst P (begins total book)
      (all total book holds.honest (stands_held count total book old rests holds)))

  crash_on : (left before : Option (List ℕ)) → OfPages count old
      (λ total book. IfSome left (λ input. IfSome before
      (λ bytes. Since (pages_view count sound old) (pages_view count' sound' new)
      (λ pages sent. IsAhead (Stands total pages) input (state total book) (sent_now (pages_view count sound old)) sent))))
      → IfSome left (λ input. IfSome before (λ bytes. LeavesLived count input old new))
  crash_on None before all = tt
  crash_on (Some input) None all = tt
  crash_on (Some input) (Some bytes) all = λ total book holds.
      let L : LiveState → Type 0 = λ s. Since (pages_view count sound old) (pages_view count' sound' new)
      (λ pages sent. IsAhead (Stands total pages) input s (sent_now (pages_view count sound old)) sent) in
      let since : L (begun_live total book) = subst L (begins total book)
      (all total book holds.honest (stands_held count total book old rests holds)) in
      record {
        goes = goes.goes_on;
        here = λ at image low high left.
            let P : ℕ → Type 0 = λ c. (pages : Image) → PagesOf c (new.crash at) pages
            → IsAhead (Stands total pages) input (begun_live total book) (sent_now old) (new.sent_by at) in
            let each : P count' = λ pages found. since.here at pages low high found in
            ahead_on total input (begun_live total book) (sent_now old) (new.sent_by at) count (new.crash at)
            (within_held count total book old holds) (subst P goes.size each) image left;
      }

  pub served_by : (end : End) → (end ≡ Done → WasRead t.left t.left_now) → (end ≡ InputTooLong → IsLong t.left)
      → (end ≢ Done → IsCause end (disk_side count sound old t.reads t.sends) (disk_side count' sound' new t.reads_now t.sends_now))
      → OfPages count old (λ total book. IfSome t.left (λ input. ServedOn total (state total book) input end))
      → OfPages count old (λ total book. IfSome t.left
      (λ input. IfSome t.sent (λ bytes. Since (pages_view count sound old) (pages_view count' sound' new)
      (λ pages sent. IsAhead (Stands total pages) input (state total book) (sent_now (pages_view count sound old)) sent))))
      → (end ≢ DiskFault → IsClosed new) → Served count old new t end
  served_by end whole long cause ends crash closed = record {
    cause = cause_on end whole long cause;
    does = does_on t.left end ends closed;
    crash = crash_on t.left t.sent crash;
    honest = goes.is_told;
    goes_on = goes.goes_on;
  }

-- ---- the store is opened first

module _ (old mid new : View) (t : Traffic) (opens : Opens (page_count old.size) old mid) (quiet : mid.faults ≡ old.faults) where
  does_opened : (left : Option (List ℕ)) (end : End)
      → IfSome left (λ input. OfBook (page_count old.size) mid
      (λ total book. EndsSo (Holds (page_count old.size) total new) input (begun_live total book) t.left_now t.sent t.sent_now end))
      → IfSome left (λ input. OfBook (page_count old.size) old
      (λ total book. EndsSo (Holds (page_count old.size) total new) input (begun_live total book) t.left_now t.sent t.sent_now end))
  does_opened None end all = tt
  does_opened (Some input) end all = λ total book holds. all total book (held old mid opens total book holds)

  crash_opened : (left before : Option (List ℕ)) → IfSome left
      (λ input. IfSome before (λ bytes. LeavesLived (page_count old.size) input mid new))
      → IfSome left (λ input. IfSome before (λ bytes. LeavesLived (page_count old.size) input old new))
  crash_opened None before all = tt
  crash_opened (Some input) None all = tt
  crash_opened (Some input) (Some bytes) all = λ total book holds.
      let count = page_count old.size in
      let IsSo : Image → ℕ → Type 0 = λ image sent. IsAhead (λ after. RecoversTo count image total after) input (begun_live total book)
      (sent_now old) sent in
      let P : ℕ → Type 0 = λ from. Since mid new (λ image sent. IsAhead (λ after. RecoversTo count image total after) input
      (begun_live total book) from sent) in
      since_both old mid new IsSo (since_opened IsSo old mid total book opens holds
      (λ image is. none_ahead (λ after. RecoversTo count image total after) input (begun_live total book) (sent_now old) is))
      (subst P (opened_quiet old mid opens) (all total book (held old mid opens total book holds)))

  cause_opened : (end : End) → IsServeCause end (page_count old.size) mid new t → IsLiveCause end old new t
  cause_opened Done is = is
  cause_opened NoMemory is = tt
  cause_opened ReadFault is = is
  cause_opened SendFault is = is
  cause_opened DiskFault is = risen_since old.faults mid.faults new.faults quiet is
  cause_opened (DamagedPage page) is = is
  cause_opened InputTooLong is = is
  cause_opened end is = absurd is

  next_held : (total : ℕ) (book : List Series) (input : List ℕ) (end : End) → end ≢ DiskFault
      → EndsSo (Holds (page_count old.size) total new) input (begun_live total book) t.left_now t.sent t.sent_now end
      → (next : List Series) × HoldsBook (page_count old.size) total next new
  next_held total book input Done other s = (s.state.state.book, s.there)
  next_held total book input NoMemory other s = (s.state.state.book, s.there)
  next_held total book input ReadFault other s = (s.sends.state.state.book, s.sends.there)
  next_held total book input SendFault other s = (s.state.state.book, s.there)
  next_held total book input DiskFault other s = absurd (other refl)
  next_held total book input InputTooLong other s = (s.sends.state.state.book, s.sends.there)
  next_held total book input end other s = absurd s

  ends_opened : (end : End) → Served (page_count old.size) mid new t end → LiveEnds old new t end
  ends_opened end s =
      let does = does_opened t.left end s.does in
      record {
        cause = cause_opened end s.cause;
        does = does;
        holds = λ other. again_told (page_count old.size) old new t.left
            (λ total book input. EndsSo (Holds (page_count old.size) total new) input
            (begun_live total book) t.left_now t.sent t.sent_now end) (λ total book input is. next_held total book input end other is) does;
        crash = crash_opened t.left t.sent s.crash;
        honest = λ h. s.honest (opens.honest h);
        goes_on = goes_then old mid new (opened_goes old mid opens) s.goes_on;
      }

  pub live_ends : (count : ℕ) (end : End) → count ≡ page_count old.size → Served count mid new t end → LiveEnds old new t end
  live_ends count end counted s = let C : ℕ → Type 0 = λ n. Served n mid new t end in ends_opened end (subst C counted s)

-- ---- nothing was done

told_each : (o : Option (List ℕ)) (P : List ℕ → Type 0) → ((input : List ℕ) → P input) → IfSome o P
told_each None P all = tt
told_each (Some input) P all = all input

-- there was no memory for a service
pub served_none : (count : ℕ) (disk : View) (t : Traffic) → t.sent_now ≡ t.sent → Served count disk disk t NoMemory
served_none count disk t unsent = record {
  cause = tt;
  does = told_each t.left (λ input. OfBook count disk
      (λ total book. EndsSo (Holds count total disk) input (begun_live total book) t.left_now t.sent t.sent_now NoMemory))
      (λ input total book holds. record {
        shown = [];
        more = [];
        few = omega arith;
        state = begun_live total book;
        first = no_lines input (begun_live total book);
        there = holds;
        sent = unsent ∙ sent_none t.sent;
      });
  crash = told_each t.left (λ input. IfSome t.sent (λ bytes. LeavesLived count input disk disk))
      (λ input. told_each t.sent (λ bytes. LeavesLived count input disk disk) (λ bytes total book holds.
      since_none disk (λ image sent. IsAhead (λ after. RecoversTo count image total after) input (begun_live total book)
      (sent_now disk) sent)
      (λ image left. none_ahead (λ after. RecoversTo count image total after) input (begun_live total book) (sent_now disk)
      (holds.images image left))));
  honest = λ h. h;
  goes_on = goes_none disk;
}

-- no store was opened
module _ (old new : View) (t : Traffic) where
  unopened_cause : (cause : OpeningCause) → IsUnopened old new t.left t.left_now t.sent t.sent_now cause
      → IsLiveCause (opening_end cause) old new t
  unopened_cause (opening.TooSmall size) u = (u.prevents.0, omega (arith, u.prevents.0, u.prevents.1))
  unopened_cause (opening.Damaged block) u = (u.prevents.1, (u.left_is, u.sent_is))
  unopened_cause opening.DiskFault u = u.prevents
  unopened_cause opening.NoMemory u = tt

  unopened_does : (input : List ℕ) (cause : OpeningCause) → IsUnopened old new t.left t.left_now t.sent t.sent_now cause
      → OfBook (page_count old.size) old (λ total book. EndsSo (Holds (page_count old.size) total new) input
      (begun_live total book) t.left_now t.sent t.sent_now (opening_end cause))
  unopened_does input (opening.TooSmall size) u = λ total book holds. absurd (too_small size (u.outside total book holds))
  unopened_does input (opening.Damaged block) u = λ total book holds. absurd (unopened block (u.outside total book holds))
  unopened_does input opening.DiskFault u = λ total book holds. record {
    frames = [];
    state = begun_live total book;
    first = no_lines input (begun_live total book);
    sent = u.sent_is ∙ sent_none t.sent;
  }
  unopened_does input opening.NoMemory u = λ total book holds. record {
    shown = [];
    more = [];
    few = omega arith;
    state = begun_live total book;
    first = no_lines input (begun_live total book);
    there = held old new u.opens total book holds;
    sent = u.sent_is ∙ sent_none t.sent;
  }

  unopened_crash : (input : List ℕ) → Opens (page_count old.size) old new → LeavesLived (page_count old.size) input old new
  unopened_crash input opens = λ total book holds.
      let count = page_count old.size in
      since_opened (λ image sent. IsAhead (λ after. RecoversTo count image total after) input (begun_live total book) (sent_now old) sent)
      old new total book opens holds (λ image is. none_ahead (λ after. RecoversTo count image total after) input (begun_live total book)
      (sent_now old) is)

  pub unopened_ends : (cause : OpeningCause) (end : End) → end ≡ opening_end cause
      → IsUnopened old new t.left t.left_now t.sent t.sent_now cause → LiveEnds old new t end
  unopened_ends cause end same u =
      let E : End → Type 0 = λ e. LiveEnds old new t e in
      subst E (sym same) (record {
        cause = unopened_cause cause u;
        does = told_each t.left _ (λ input. unopened_does input cause u);
        holds = λ other. told_each t.left (λ input. HoldsAgain (page_count old.size) old new) (λ input. again_opened old new u.opens);
        crash = told_each t.left (λ input. IfSome t.sent (λ bytes. LeavesLived (page_count old.size) input old new))
            (λ input. told_each t.sent (λ bytes. LeavesLived (page_count old.size) input old new) (λ bytes. unopened_crash input u.opens));
        honest = u.opens.honest;
        goes_on = opened_goes old new u.opens;
      })

-- ---- what was read

-- no line
pub reads_untaken : (count : ℕ) (disk : View) (left : Option (List ℕ)) → IfSome left (λ input. ReadsFrom count disk disk input disk.reads)
reads_untaken count disk left = told_each left (λ input. ReadsFrom count disk disk input disk.reads)
    (λ input total book holds. none_read input (begun_live total book) disk.reads)

-- by a service without sessions
pub reads_from : (count : ℕ) (old new : View) → RestsNew count old → (left : Option (List ℕ)) (state : ℕ → List Series → LiveState)
    → ((total : ℕ) (book : List Series) → state total book ≡ begun_live total book)
    → ((total : ℕ) (book : List Series) → Honest old → StandsForBook (pages_of count old.image) total book
    → IfSome left (λ input. ReadsLines input (state total book) old.reads new.reads))
    → IfSome left (λ input. ReadsFrom count old new input old.reads)
reads_from count old new rests None state begins reads = tt
reads_from count old new rests (Some input) state begins reads = λ total book holds.
    let P : LiveState → Type 0 = λ s. ReadsLines input s old.reads new.reads in
    subst P (begins total book) (reads total book holds.honest (stands_held count total book old rests holds))

-- over a store that is opened first, or isn't
pub reads_on : (count : ℕ) (old mid new : View) (left_mid left : Option (List ℕ)) → count ≡ page_count old.size
    → Opens (page_count old.size) old mid → left_mid ≡ left → IfSome left_mid (λ input. ReadsFrom count mid new input mid.reads)
    → IfSome left (λ input. ReadsLiving old new input)
reads_on count old mid new left_mid left counted opens same reads =
    let C : ℕ → Type 0 = λ n. IfSome left_mid (λ input. ReadsFrom n mid new input mid.reads) in
    let L : Option (List ℕ) → Type 0 = λ l. IfSome l (λ input. ReadsFrom (page_count old.size) mid new input mid.reads) in
    opened left (subst L same (subst C counted reads))
  where
    opened : (o : Option (List ℕ)) → IfSome o (λ input. ReadsFrom (page_count old.size) mid new input mid.reads)
        → IfSome o (λ input. ReadsLiving old new input)
    opened None reads = tt
    opened (Some input) reads = (mid.reads, opens.reads.high, λ total book holds. reads total book (held old mid opens total book holds))

pub reads_unopened : (old new : View) (left : Option (List ℕ)) → Opens (page_count old.size) old new
    → IfSome left (λ input. ReadsLiving old new input)
reads_unopened old new left opens = told_each left (λ input. ReadsLiving old new input)
    (λ input. (new.reads, opens.reads.high, λ total book holds. none_read input (begun_live total book) new.reads))

-- ---- and how often it was synced

pub syncs_on : (old mid new : View) (left_mid left : Option (List ℕ)) → Opens (page_count old.size) old mid → left_mid ≡ left
    → IfSome left_mid (λ input. SyncsLines input mid.syncs new.syncs) → IfSome left (λ input. SyncsLiving old new input)
syncs_on old mid new left_mid left opens same syncs =
    let L : Option (List ℕ) → Type 0 = λ l. IfSome l (λ input. SyncsLines input mid.syncs new.syncs) in
    opened left (subst L same syncs)
  where
    opened : (o : Option (List ℕ)) → IfSome o (λ input. SyncsLines input mid.syncs new.syncs)
        → IfSome o (λ input. SyncsLiving old new input)
    opened None syncs = tt
    opened (Some input) syncs = (mid.syncs, syncs_few (page_count old.size) old mid opens.few, syncs)

pub syncs_unopened : (old new : View) (left : Option (List ℕ)) → Opens (page_count old.size) old new
    → IfSome left (λ input. SyncsLiving old new input)
syncs_unopened old new left opens = told_each left (λ input. SyncsLiving old new input)
    (λ input. (new.syncs, syncs_few (page_count old.size) old new opens.few, nothing_synced input new.syncs))

-- where no store was opened, the run wasn't done
pub opening_done : (cause : OpeningCause) → opening_end cause ≡ Done → ⊥
opening_done (opening.TooSmall blocks) is = cc
opening_done (opening.Damaged block) is = cc
opening_done opening.DiskFault is = cc
opening_done opening.NoMemory is = cc

-- nor was a page of a store called damaged
pub opening_unblamed : (cause : OpeningCause) (end : End) (IsSo : ℕ → Type 0) → end ≡ opening_end cause → OfDamaged IsSo end
opening_unblamed (opening.TooSmall blocks) end IsSo is = let E : End → Type 0 = OfDamaged IsSo in subst E (sym is) tt
opening_unblamed (opening.Damaged block) end IsSo is = let E : End → Type 0 = OfDamaged IsSo in subst E (sym is) tt
opening_unblamed opening.DiskFault end IsSo is = let E : End → Type 0 = OfDamaged IsSo in subst E (sym is) tt
opening_unblamed opening.NoMemory end IsSo is = let E : End → Type 0 = OfDamaged IsSo in subst E (sym is) tt
