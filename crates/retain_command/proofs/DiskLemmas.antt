-- How lines end over the store of a disk, in the words of the disk.
use Rattle.std.proofs.Common.{◌≡◌, ◌≢◌, ◌∙◌, ℕ, ◌+◌, ◌*◌, ◌<◌, ◌≤◌, Bool, List, length, Option, Some, None, IfSome, refl, sym, subst, inl}
use Rattle.std.proofs.Common.{inr, arith}
use Rattle.block_disk.specs.SentLaws.{sent_none}
use Rattle.block_disk.specs.View.{Image, View, Honest, sent_now}
use Rattle.chart_service.specs.MomentLaws.{since_both}
use Rattle.chart_service.specs.Moments.{Since}
use Rattle.chart_service.proofs.DiskKept.{risen_since}
use Rattle.chart_world.specs.LineLaws.{told_so}
use Rattle.disk_store.proofs.Lowered.{lowered_is, lowered_readable}
use Rattle.disk_store.specs.Held.{HoldsBook}
use Rattle.disk_store.specs.Openings.{Opens}
use Rattle.disk_store.specs.declared.causes.OpeningCause.{OpeningCause}
use Rattle.disk_store.specs.declared.causes.OpeningCause.TheVariants as opening
use Rattle.gate_pages.specs.GateLaws.{goes_then}
use Rattle.gate_pages.specs.GatePages.{IsClosed, PagesOf, pages_view}
use Rattle.gate_pages.specs.Journal.{page_count, pages_of}
use Rattle.run_ends.specs.Statuses.{block_of}
use Rattle.run_ends.specs.declared.ending.End.{End}
use Rattle.run_ends.specs.declared.ending.End.TheVariants.{Done, NoMemory, ReadFault, SendFault, DiskFault, DamagedPage}
use Rattle.run_ends.specs.declared.ending.End.TheVariants.{BadInput, InputTooLong, NoSeries}
use Rattle.retention.specs.Damage.{IsBadForSweep}
use Rattle.retention.specs.Moving.{clear_reads}
use Rattle.retention.specs.declared.rule.Rule.{Rule}
use Rattle.series_book.specs.declared.one_series.Series.{Series}
use Rattle.series_catalog.specs.declared.stored_series.StoredSeries.{StoredSeries}
use Rattle.series_store.specs.Asking.{LacksName}
use Rattle.stored_book.proofs.CurrentLemmas.{recovers_new, spelled_current}
use Rattle.stored_book.specs.Damage.{IsBadForRequest}
use Rattle.stored_book.specs.Standing.{StandsForBook, RecoversTo}
use Rattle.store_commands.proofs.Damages.{later_bad}
use Rattle.store_commands.proofs.Held.{RestsNew, held, holds_so, stands_held, within_held}
use Rattle.store_commands.proofs.HoldsAgain.{again_opened, again_told}
use Rattle.store_commands.proofs.InputLemmas.{any_told}
use Rattle.store_commands.proofs.Moments.{opened_goes, opened_quiet, since_opened}
use Rattle.store_commands.proofs.SpendLemmas.{spends_behind, spends_opening}
use Rattle.store_commands.proofs.WorldLemmas.{IsUnopened}
use Rattle.store_commands.specs.Books.{HoldsAgain, OfBook, OfPages, Stands, Holds}
use Rattle.store_commands.specs.Codes.{too_small, unopened}
use Rattle.store_commands.specs.Damaged.{IsDamagedLater}
use Rattle.store_commands.specs.Lacking.{LacksRecord}
use Rattle.store_commands.specs.Sides.{Side}
use Rattle.store_commands.specs.Status.{opening_end}
use Rattle.store_commands.specs.Traffic.{IsLong, Traffic, WasRead}
use Rattle.retain_command.specs.Answered.{AnswersSo}
use Rattle.retain_command.specs.Answers.{book_behind}
use Rattle.retain_command.specs.Doing.{Goes, IsCause, RuleCosts}
use Rattle.retain_command.specs.Retained.{IsAtLine, IsBadBy, IsRetainCause, LeavesSwept, RetainEnds, RetainsFew}
use Rattle.retain_command.specs.Sweeping.{EndsSo, Faults, IsAhead, SweepsAll, SweepsFew, SweepsFirst, clears_of, left_by}
use Rattle.retain_command.proofs.RuleLemmas.{first_unanswered, no_rules}

-- ---- the same of a book that is there otherwise

module _ (IsThere IsThat : List Series → Type 0) (total : ℕ) (book : List Series) (input : List ℕ) (before now : Option (List ℕ))
    (so : (after : List Series) → IsThere after → IsThat after) where
  all_so : SweepsAll IsThere total book input before now → SweepsAll IsThat total book input before now
  all_so s = record { rules = s.rules; are = s.are; there = so (book_behind total book s.rules) s.there; sent = s.sent }

  first_so : SweepsFirst IsThere total book input before now → SweepsFirst IsThat total book input before now
  first_so s = record { first = s.first; there = so (left_by total book input s.first) s.there; sent = s.sent }

  ends_so : (left : Option (List ℕ)) (end : End) → EndsSo IsThere total book input left before now end
      → EndsSo IsThat total book input left before now end
  unfolding first_so
  ends_so left Done s = all_so s
  ends_so left NoMemory (inl s) = inl (first_so s)
  ends_so left NoMemory (inr s) = inr (record {
    first = s.first;
    rule = s.rule;
    next = s.next;
    done = s.done;
    few = s.few;
    there = so _ s.there;
    sent = s.sent;
  })
  ends_so left ReadFault s = record { swept = first_so s.swept; whole = s.whole; behind = s.behind }
  ends_so left SendFault s = record {
    first = s.first;
    rule = s.rule;
    next = s.next;
    there = so _ s.there;
    between = s.between;
    sent = s.sent;
    part = s.part;
  }
  ends_so left DiskFault s = s
  ends_so left (BadInput at) s = record {
    swept = first_so s.swept;
    line = s.line;
    next = s.next;
    some = s.some;
    none = s.none;
    at_is = s.at_is;
  }
  ends_so left InputTooLong s = record { swept = first_so s.swept; unended = s.unended; past = s.past }
  ends_so left (NoSeries at) s = record {
    swept = first_so s.swept;
    line = s.line;
    next = s.next;
    rule = s.rule;
    says_it = s.says_it;
    unknown = s.unknown;
    at_is = s.at_is;
  }
  ends_so left end s = absurd s

ahead_so : (IsThere IsThat : List Series → Type 0) (total : ℕ) (book : List Series) (input : List ℕ) (from sent : ℕ)
    → ((after : List Series) → IsThere after → IsThat after) → IsAhead IsThere total book input from sent
    → IsAhead IsThat total book input from sent
ahead_so IsThere IsThat total book input from sent so a = record {
  first = a.first;
  state = elim a.state [
    | inl here ↦ inl (so _ here.0, here.1)
    | inr next ↦ inr (record {
      rule = next.rule;
      next = next.next;
      done = next.done;
      few = next.few;
      there = so _ next.there;
      low = next.low;
      high = next.high;
      all = next.all;
    })
  ];
}

-- ---- what a crash leaves

ahead_book : (pages : Image) (total : ℕ) (book : List Series) (input : List ℕ) (from sent : ℕ)
    → IsAhead (Stands total pages) total book input from sent → (after : List Series) × StandsForBook pages total after
ahead_book pages total book input from sent a = elim a.state [
  | inl here ↦ (_, here.0)
  | inr next ↦ (_, next.there)
]

-- what is ahead in all pages that a crash may leave is so in each image that it may leave
ahead_on : (total : ℕ) (book : List Series) (input : List ℕ) (from sent count : ℕ) (crash : Image → Type 0) → total ≤ count
    → ((pages : Image) → PagesOf count crash pages → IsAhead (Stands total pages) total book input from sent) → (image : Image)
    → crash image → IsAhead (λ after. RecoversTo count image total after) total book input from sent
ahead_on total book input from sent count crash within all image left =
    let Q : Image → Type 0 = λ pages. IsAhead (Stands total pages) total book input from sent in
    let total_of : (pages : Image) → Q pages → ℕ = λ pages is. total in
    let book_of : (pages : Image) → Q pages → List Series = λ pages is. (ahead_book pages total book input from sent is).0 in
    let stand : (pages : Image) (is : Q pages) → StandsForBook pages (total_of pages is) (book_of pages is) = λ pages is.
    (ahead_book pages total book input from sent is).1 in
    let readable = lowered_readable count crash Q total_of book_of stand all image left in
    ahead_so (Stands total (pages_of count image)) (λ after. RecoversTo count image total after) total book input from sent
    (λ after stands. recovers_new count image total after readable within stands)
    (lowered_is count crash Q total_of book_of stand all image left)

-- before the first line
ahead_none : (total : ℕ) (book : List Series) (input : List ℕ) (from count : ℕ) (image : Image) → RecoversTo count image total book
    → IsAhead (λ after. RecoversTo count image total after) total book input from from
ahead_none total book input from count image is = record { first = no_rules total book input; state = inl (is, omega arith) }

-- ---- a page that a sweep calls damaged

-- it is so of the disk, whose pages are of version 2
later_swept : (rule : Rule) (count count' : ℕ) (new : View) (page : ℕ) → count' ≡ count → page < count'
    → (Honest new → IsBadForSweep rule count' (pages_of count' new.image) page) → IsBadBy count new rule page
later_swept rule count count' new page same within bad =
    let P : ℕ → Type 0 = λ n. IsBadForSweep rule n (pages_of n new.image) page in
    let Q : Image → Type 0 = λ pages. IsBadForSweep rule count pages page in
    record {
      page = page;
      place_is = refl;
      within = omega (arith, within, same);
      bad = λ honest.
          let here = subst P same (bad honest) in
          subst Q (sym (spelled_current (pages_of count new.image) here.numbers here.keeps.spelled)) here;
    }

-- ---- a store was opened

abbrev pub disk_side : ℕ → Bool → View → ℕ → ℕ → ℕ → Side
disk_side count sound disk total reads sends = record {
  told = Honest disk;
  view = pages_view count sound disk;
  under = disk;
  total = total;
  read_faults = reads;
  send_faults = sends;
}

-- Lines were swept over its pages, and its disk is at rest afterwards unless a call of it failed.
module _ (count count' : ℕ) (sound sound' : Bool) (first old new : View) (total total' : ℕ) (t : Traffic)
    (goes : Goes (disk_side count sound old total t.reads t.sends) (disk_side count' sound' new total' t.reads_now t.sends_now))
    (rests : RestsNew count old) (few : total ≤ count) (counted : count ≡ page_count first.size)
    (opens : Opens (page_count first.size) first old) (quiet : old.faults ≡ first.faults) where
  -- the disk holds the book once the store is open
  held_open : (total : ℕ) (book : List Series) → HoldsBook (page_count first.size) total book first → HoldsBook count total book old
  held_open total book holds = let C : ℕ → Type 0 = λ n. HoldsBook n total book old in
      subst C (sym counted) (held first old opens total book holds)

  cause_on : (end : End) → (end ≡ Done → WasRead t.left t.left_now) → (end ≡ InputTooLong → IsLong t.left)
      → (end ≢ Done → IsCause end (disk_side count sound old total t.reads t.sends)
      (disk_side count' sound' new total' t.reads_now t.sends_now)) → IsRetainCause end first new t
  cause_on Done whole long cause = whole refl
  cause_on NoMemory whole long cause = tt
  cause_on ReadFault whole long cause = cause (λ is. cc)
  cause_on SendFault whole long cause = cause (λ is. cc)
  cause_on DiskFault whole long cause = risen_since first.faults old.faults new.faults quiet (cause (λ is. cc))
  cause_on (DamagedPage page) whole long cause =
      let is = cause (λ is. cc) in
      let C : ℕ → Type 0 = λ n. IsDamagedLater IsBadForRequest n new (block_of page) in
      subst C counted (later_bad count count' new page goes.size (omega (arith, is.0, few, goes.size)) is.1)
  cause_on (BadInput at) whole long cause = tt
  cause_on InputTooLong whole long cause = long refl
  cause_on (NoSeries at) whole long cause = tt
  cause_on end whole long cause = absurd (cause (λ is. cc))

  -- the pages of the store
  abbrev SweptOn : ℕ → List Series → List ℕ → End → Type 0
  SweptOn total book input end = EndsSo (Stands total (pages_of count' new.image)) total book input t.left_now t.sent t.sent_now end

  abbrev SweptBy : ℕ → ℕ → List Series → List ℕ → End → Type 0
  SweptBy n total book input end = EndsSo (Holds n total new) total book input t.left_now t.sent t.sent_now end

  end_on : (total : ℕ) (book : List Series) (input : List ℕ) (end : End) → HoldsBook count total book old → (end ≢ DiskFault → IsClosed new)
      → SweptOn total book input end → SweptBy count total book input end
  end_on total book input DiskFault holds closed s = s
  end_on total book input end holds closed s = ends_so (Stands total (pages_of count' new.image))
      (Holds count total new) total book input t.sent t.sent_now
      (holds_so count count' old new goes.size goes.is_told total book holds (closed (λ is. cc))) t.left_now end s

  does_on : (left : Option (List ℕ)) (end : End) → OfPages count old (λ total book. IfSome left (λ input. SweptOn total book input end))
      → (end ≢ DiskFault → IsClosed new) → IfSome left
      (λ input. OfBook (page_count first.size) first (λ total book. SweptBy (page_count first.size) total book input end))
  does_on None end all closed = tt
  does_on (Some input) end all closed = λ total book holds.
      let here = held_open total book holds in
      let C : ℕ → Type 0 = λ n. SweptBy n total book input end in
      subst C counted (end_on total book input end here closed (all total book here.honest (stands_held count total book old rests here)))

  crash_on : (left before : Option (List ℕ)) → OfPages count old
      (λ total book. IfSome left (λ input. IfSome before
      (λ bytes. Since (pages_view count sound old) (pages_view count' sound' new)
      (λ pages sent. IsAhead (Stands total pages) total book input (sent_now (pages_view count sound old)) sent))))
      → IfSome left (λ input. IfSome before (λ bytes. LeavesSwept (page_count first.size) input first new))
  crash_on None before all = tt
  crash_on (Some input) None all = tt
  crash_on (Some input) (Some bytes) all = λ total book holds.
      let here = held_open total book holds in
      let since = all total book here.honest (stands_held count total book old rests here) in
      let Leaves : ℕ → ℕ → Image → ℕ → Type 0 = λ n from image sent. IsAhead
      (λ after. RecoversTo n image total after) total book input from sent in
      let later : Since old new (Leaves count (sent_now old)) = record {
        goes = goes.goes_on;
        here = λ at image low high left.
            let P : ℕ → Type 0 = λ c. (pages : Image) → PagesOf c (new.crash at) pages
            → IsAhead (Stands total pages) total book input (sent_now old) (new.sent_by at) in
            let each : P count' = λ pages found. since.here at pages low high found in
            ahead_on total book input (sent_now old) (new.sent_by at) count (new.crash at) (within_held count total book old here)
            (subst P goes.size each) image left;
      } in
      let n = page_count first.size in
      let C : ℕ → Type 0 = λ m. Since old new (Leaves m (sent_now old)) in
      let F : ℕ → Type 0 = λ from. Since old new (Leaves n from) in
      since_both first old new (Leaves n (sent_now first))
      (since_opened (Leaves n (sent_now first)) first old total book opens holds
      (λ image is. ahead_none total book input (sent_now first) n image is))
      (subst F (opened_quiet first old opens) (subst C counted later))

  -- what the sweeps cost
  costs_on : (left : Option (List ℕ)) → OfPages count old
      (λ total book. IfSome left (λ input. SweepsFew
      (λ rules clears. RuleCosts rules clears (pages_view count sound old) (pages_view count' sound' new)) total book input))
      → IfSome left (RetainsFew (page_count first.size) first new)
  costs_on None all = tt
  costs_on (Some input) all = λ total book holds.
      let here = held_open total book holds in
      let c = all total book here.honest (stands_held count total book old rests here) in
      let rules = length c.first.rules + 1 in
      let clears = clears_of total book c.first.rules + c.more in
      record {
        first = c.first;
        more = c.more;
        next = c.next;
        cost = spends_behind (page_count first.size) (clear_reads * (clears + rules)) (4 * clears)
            (87 * clears) first old new opens c.cost.reads c.cost.syncs c.cost.writes;
      }

  -- the line that stopped the run
  fault_on : (catalog : List StoredSeries) (input : List ℕ) (end : End)
      → (end ≢ DiskFault → (name : List ℕ) → LacksName catalog name → LacksRecord count' new name)
      → Faults catalog input end → IsAtLine (page_count first.size) new input end
  fault_on catalog input (BadInput at) lacking is = is
  fault_on catalog input (NoSeries at) lacking is =
      let C : ℕ → Type 0 = λ n. LacksRecord n new is.name in
      record {
        front = is.front;
        rest = is.rest;
        begins = is.begins;
        at_is = is.at_is;
        line = is.line;
        next = is.next;
        rule = is.rule;
        says_it = is.says_it;
        name = is.name;
        names = is.names;
        lacks = subst C (goes.size ∙ counted) (lacking (λ same. cc) is.name is.lacks);
      }
  fault_on catalog input end lacking is = tt

  -- the page that the line is told to have met
  abbrev pub BadOn : Rule → ℕ → Type 0
  BadOn rule page = Honest new → IsBadForSweep rule (pages_view count' sound' new).size (pages_view count' sound' new).image page

  answered_on : (input : List ℕ) (end : End)
      → (end ≢ Done → IsCause end (disk_side count sound old total t.reads t.sends)
      (disk_side count' sound' new total' t.reads_now t.sends_now))
      → AnswersSo BadOn input t.left_now t.sent t.sent_now end
      → AnswersSo (IsBadBy (page_count first.size) new) input t.left_now t.sent t.sent_now end
  answered_on input Done cause is = is
  answered_on input NoMemory cause is = is
  answered_on input ReadFault cause is = is
  answered_on input SendFault cause is = is
  answered_on input DiskFault cause is = is
  answered_on input (DamagedPage page) cause is =
      let low = (cause (λ is. cc)).0 in
      let C : ℕ → Type 0 = λ n. IsBadBy n new is.rule page in
      record {
        answered = is.answered;
        rule = is.rule;
        next = is.next;
        so = subst C counted (later_swept is.rule count count' new page goes.size (omega (arith, low, few, goes.size)) is.so);
      }
  answered_on input (BadInput at) cause is = is
  answered_on input InputTooLong cause is = is
  answered_on input (NoSeries at) cause is = is
  answered_on input end cause is = is

  next_held : (n total : ℕ) (book : List Series) (input : List ℕ) (end : End) → end ≢ DiskFault → SweptBy n total book input end
      → (next : List Series) × HoldsBook n total next new
  next_held n total book input Done other s = (_, s.there)
  next_held n total book input NoMemory other (inl s) = (_, s.there)
  next_held n total book input NoMemory other (inr s) = (_, s.there)
  next_held n total book input ReadFault other s = (_, s.swept.there)
  next_held n total book input SendFault other s = (_, s.there)
  next_held n total book input DiskFault other s = absurd (other refl)
  next_held n total book input (BadInput at) other s = (_, s.swept.there)
  next_held n total book input InputTooLong other s = (_, s.swept.there)
  next_held n total book input (NoSeries at) other s = (_, s.swept.there)
  next_held n total book input end other s = absurd s

  pub retained_by : (end : End) → (end ≡ Done → WasRead t.left t.left_now) → (end ≡ InputTooLong → IsLong t.left)
      → (end ≢ Done → IsCause end (disk_side count sound old total t.reads t.sends)
      (disk_side count' sound' new total' t.reads_now t.sends_now))
      → OfPages count old (λ total book. IfSome t.left (λ input. SweptOn total book input end))
      → OfPages count old (λ total book. IfSome t.left
      (λ input. IfSome t.sent (λ bytes. Since (pages_view count sound old) (pages_view count' sound' new)
      (λ pages sent. IsAhead (Stands total pages) total book input (sent_now (pages_view count sound old)) sent))))
      → (end ≢ DiskFault → IsClosed new)
      → OfPages count old (λ total book. IfSome t.left
      (λ input. SweepsFew (λ rules clears. RuleCosts rules clears (pages_view count sound old) (pages_view count' sound' new)) total
      book input))
      → (catalog : List StoredSeries) → IfSome t.left (λ input. Faults catalog input end)
      → (end ≢ DiskFault → (name : List ℕ) → LacksName catalog name → LacksRecord count' new name)
      → IfSome t.left (λ input. AnswersSo BadOn input t.left_now t.sent t.sent_now end) → RetainEnds first new t end
  retained_by end whole long cause ends crash closed costs catalog faults lacking answered =
      let n = page_count first.size in
      let does = does_on t.left end ends closed in
      record {
        cause = cause_on end whole long cause;
        does = does;
        holds = λ other. again_told n first new t.left (λ total book input. SweptBy n total book input end)
            (λ total book input s. next_held n total book input end other s) does;
        crash = crash_on t.left t.sent crash;
        costs = costs_on t.left costs;
        faulty = told_so (λ input. Faults catalog input end) (λ input. IsAtLine (page_count first.size) new input end) t.left
            (λ input is. fault_on catalog input end lacking is) faults;
        answered = told_so (λ input. AnswersSo BadOn input t.left_now t.sent t.sent_now end)
            (λ input. AnswersSo (IsBadBy n new) input t.left_now t.sent t.sent_now end) t.left
            (λ input is. answered_on input end cause is) answered;
        honest = λ h. goes.is_told (opens.honest h);
        goes_on = goes_then first old new (opened_goes first old opens) goes.goes_on;
      }

-- ---- no store was opened

module _ (old new : View) (t : Traffic) where
  unopened_cause : (cause : OpeningCause) → IsUnopened old new t.left t.left_now t.sent t.sent_now cause
      → IsRetainCause (opening_end cause) old new t
  unopened_cause (opening.TooSmall size) u = (u.prevents.0, omega (arith, u.prevents.0, u.prevents.1))
  unopened_cause (opening.Damaged block) u = (u.prevents.1, (u.left_is, u.sent_is))
  unopened_cause opening.DiskFault u = u.prevents
  unopened_cause opening.NoMemory u = tt

  unopened_does : (input : List ℕ) (cause : OpeningCause) → IsUnopened old new t.left t.left_now t.sent t.sent_now cause
      → OfBook (page_count old.size) old (λ total book. EndsSo
      (Holds (page_count old.size) total new) total book input t.left_now t.sent t.sent_now (opening_end cause))
  unopened_does input (opening.TooSmall size) u = λ total book holds. absurd (too_small size (u.outside total book holds))
  unopened_does input (opening.Damaged block) u = λ total book holds. absurd (unopened block (u.outside total book holds))
  unopened_does input opening.DiskFault u = λ total book holds. record {
    first = no_rules total book input;
    sent = u.sent_is ∙ sent_none t.sent;
  }
  unopened_does input opening.NoMemory u = λ total book holds.
      inl (record { first = no_rules total book input; there = held old new u.opens total book holds; sent = u.sent_is ∙ sent_none t.sent })

  unopened_crash : (input : List ℕ) → Opens (page_count old.size) old new → LeavesSwept (page_count old.size) input old new
  unopened_crash input opens = λ total book holds.
      let n = page_count old.size in
      since_opened (λ image sent. IsAhead (λ after. RecoversTo n image total after) total book input (sent_now old) sent) old new total book
      opens holds (λ image is. ahead_none total book input (sent_now old) n image is)

  unopened_costs : (input : List ℕ) → Opens (page_count old.size) old new → RetainsFew (page_count old.size) old new input
  unopened_costs input opens = λ total book holds.
      record {
        first = no_rules total book input;
        more = 0;
        next = inl refl;
        cost = spends_opening (page_count old.size) (clear_reads * (0 + 1)) (4 * 0) (87 * 0) old new opens;
      }

  unopened_fault : (input : List ℕ) (cause : OpeningCause) → IsAtLine (page_count old.size) new input (opening_end cause)
  unopened_fault input (opening.TooSmall size) = tt
  unopened_fault input (opening.Damaged block) = tt
  unopened_fault input opening.DiskFault = tt
  unopened_fault input opening.NoMemory = tt

  unopened_answered : (input : List ℕ) (cause : OpeningCause) → IsUnopened old new t.left t.left_now t.sent t.sent_now cause
      → AnswersSo (IsBadBy (page_count old.size) new) input t.left_now t.sent t.sent_now (opening_end cause)
  unopened_answered input (opening.TooSmall size) u = u.sent_is
  unopened_answered input (opening.Damaged block) u = u.sent_is
  unopened_answered input opening.DiskFault u = first_unanswered input t.sent t.sent_now u.sent_is
  unopened_answered input opening.NoMemory u = first_unanswered input t.sent t.sent_now u.sent_is

  pub unopened_ends : (cause : OpeningCause) (end : End) → end ≡ opening_end cause
      → IsUnopened old new t.left t.left_now t.sent t.sent_now cause → RetainEnds old new t end
  unopened_ends cause end same u =
      let E : End → Type 0 = λ e. RetainEnds old new t e in
      subst E (sym same) (record {
        cause = unopened_cause cause u;
        does = any_told t.left _ (λ input. unopened_does input cause u);
        holds = λ other. any_told t.left (λ input. HoldsAgain (page_count old.size) old new) (λ input. again_opened old new u.opens);
        crash = any_told t.left (λ input. IfSome t.sent (λ bytes. LeavesSwept (page_count old.size) input old new))
            (λ input. any_told t.sent (λ bytes. LeavesSwept (page_count old.size) input old new) (λ bytes. unopened_crash input u.opens));
        costs = any_told t.left (RetainsFew (page_count old.size) old new) (λ input. unopened_costs input u.opens);
        faulty = any_told t.left (λ input. IsAtLine (page_count old.size) new input (opening_end cause))
            (λ input. unopened_fault input cause);
        answered = any_told t.left (λ input. AnswersSo (IsBadBy (page_count old.size) new) input t.left_now t.sent t.sent_now
            (opening_end cause)) (λ input. unopened_answered input cause u);
        honest = u.opens.honest;
        goes_on = opened_goes old new u.opens;
      })
