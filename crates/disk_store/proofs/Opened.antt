-- What becomes of a disk whose store is opened.
use Rattle.std.proofs.Common.{◌≡◌, ℕ, ◌+◌, ◌≤◌, ◌<◌, ◌⊎◌, Bool, List, ◌∷◌, ◌++◌, length, length-append, refl, sym, ap, subst, arith, inl}
use Rattle.std.proofs.Common.{inr, ◌∙◌}
use Rattle.std.proofs.lemmas.Bool.{cases_Bool, cases_lt}
use Rattle.block_disk.specs.Counts.{HasRisen}
use Rattle.block_disk.specs.View.{Image, View, Now, Honest, Passes, Moves, Nowhere, sent_now}
use Rattle.block_disk.proofs.Passing.{passes_weaker}
use Rattle.gate_pages.specs.GateLaws.{gate_rests, goes_by}
use Rattle.gate_pages.specs.GatePages.{HasClosedGate, PagesOf, IsReadable, IsClosed, StandsAsBefore, pages_view}
use Rattle.gate_pages.specs.Journal.{page_count, pages_of}
use Rattle.gate_pages.specs.Pages.{Quiet, GoesOn, Reads}
use Rattle.gate_pages.specs.Steps.{Anywhere}
use Rattle.gate_pages.specs.declared.errors.OpenCause.{OpenCause}
use Rattle.gate_pages.specs.declared.errors.OpenCause.TheVariants as of_pages
use Rattle.gate_pages.proofs.Moving.{sent_same}
use Rattle.page_space.specs.Layout.{HasMagic}
use Rattle.path_repair.specs.Standing.{ReadsMost}
use Rattle.series_book.specs.declared.one_series.Series.{Series}
use Rattle.store_upgrade.specs.OldStores.{HasOldMagic, has_old_magic, IsOldStore}
use Rattle.store_upgrade.specs.Upgraded.{upgraded, current}
use Rattle.store_upgrade.specs.Upgrading.{Upgrades, BeforeOrUpgraded, IsFirstBroken, IsPlace}
use Rattle.store_upgrade.specs.Upgrading as of_upgrades
use Rattle.store_upgrade.specs.declared.errors.UpgradeError.{UpgradeError}
use Rattle.store_upgrade.specs.declared.errors.UpgradeError.TheVariants as of_upgrade
use Rattle.store_upgrade.proofs.Magics.{old_by, current_upgraded, current_other}
use Rattle.series_store.specs.Opening.{IsOpenCause, IsFirstPage, IsBrokenPage}
use Rattle.series_store.specs.Opening as store_opening
use Rattle.series_store.specs.declared.errors.StoreError.{StoreError}
use Rattle.series_store.specs.declared.errors.StoreError.TheVariants as of_store
use Rattle.stored_book.specs.Standing.{StandsForBook, book_pages, RecoversTo}
use Rattle.stored_book.proofs.CurrentLemmas.{recovers_new}
use Rattle.empty_store.proofs.DisksMade.{sent_so}
use Rattle.disk_store.specs.Held.{HoldsBook}
use Rattle.disk_store.specs.Openings.{IsCurrent, Opens, Prevents, SyncsOpening, WritesFew, IsLeftOpening, StandsOrUpgraded, IsDamagedBlock}
use Rattle.disk_store.specs.Openings.{IsOpeningPlace, IsOutside, cause_of, upgrade_cause_of, store_cause_of}

-- Calls so far leave pages from before, or those in version 2.
abbrev LeavesOpening : ℕ → View → View → Type 0
LeavesOpening count old new = Passes old new (IsLeftOpening count old) (Quiet old)

-- the images of the moments so far
pub left_opening : (count : ℕ) (old mid : View) → LeavesOpening count old mid → (at : ℕ) (image : Image) → old.clock ≤ at → at ≤ mid.clock
    → mid.crash at image → IsLeftOpening count old image
left_opening count old mid passes at image low high left = elim (cases_lt old.clock at) [
  | inl moved ↦ passes.here at image moved high left
  | inr stands ↦
      let same : at ≡ old.clock = omega (arith, low, stands) in
      let P : ℕ → Type 0 = λ time. old.crash time image in
      λ honest. record { from = image; was = subst P same (passes.past at image stands left); pages = inl refl; readable = λ is. is }
]

-- an opening goes on, and no byte is sent
pub opens_goes : (count : ℕ) (old new : View) → Opens count old new → GoesOn old new
opens_goes count old new opens = goes_by old new (IsLeftOpening count old) (Quiet old) opens.time

pub opens_quiet : (count : ℕ) (old new : View) → Opens count old new → sent_now new ≡ sent_now old
opens_quiet count old new opens = sent_same old new (IsLeftOpening count old) opens.time

pub opens_sent : (count : ℕ) (old new : View) → Opens count old new → (at : ℕ) → old.clock ≤ at → at ≤ new.clock
    → new.sent_by at ≡ sent_now old
opens_sent count old new opens = sent_so old new (IsLeftOpening count old) opens.time

-- the pages were opened
opened_time : (count : ℕ) (old new : View) → Passes old new (StandsAsBefore count old) (Quiet old) → LeavesOpening count old new
opened_time count old new passes =
    passes_weaker old new (StandsAsBefore count old) (IsLeftOpening count old) (Quiet old) (Quiet old)
    (λ image stands honest. record { from = stands.from; was = stands.was; pages = inl stands.same; readable = stands.readable })
    (λ sent quiet. quiet) passes

-- what only looks behind an opening syncs and writes no more
pub few_then : (count : ℕ) (old mid new : View) → WritesFew count old mid → new.syncs ≡ mid.syncs → new.writes ≡ mid.writes
    → WritesFew count old new
few_then count old mid new few syncs writes = record {
  syncs = record { low = omega (arith, few.syncs.low, syncs); high = omega (arith, few.syncs.high, syncs) };
  writes = record { low = omega (arith, few.writes.low, writes); high = omega (arith, few.writes.high, writes) };
  current = λ honest current. omega (arith, few.current honest current, syncs);
  unwritten = λ shut current. writes ∙ few.unwritten shut current;
}

pub syncs_few : (count : ℕ) (old new : View) → WritesFew count old new → SyncsOpening count old new.syncs
syncs_few count old new few = (few.syncs.high, few.current)

-- the pages of a disk were opened, which writes nothing where the gate is closed
abbrev pub KeepsShut : View → View → Type 0
KeepsShut old new = HasClosedGate old → Moves Nowhere 1 1 0 old new

none_written : (old new : View) → Moves Nowhere 1 1 0 old new → new.writes ≡ old.writes
none_written old new moves = omega (arith, moves.writes.low, moves.writes.high)

few_pages : (count : ℕ) (old new : View) → Moves Anywhere 66 3 65 old new → KeepsShut old new → WritesFew count old new
few_pages count old new moves shut = record {
  syncs = record { low = moves.syncs.low; high = omega (arith, moves.syncs.high) };
  writes = record { low = moves.writes.low; high = omega (arith, moves.writes.high) };
  current = λ honest current. moves.syncs.high;
  unwritten = λ closed current. none_written old new (shut closed);
}

-- and no more
pub opens_pages : (count : ℕ) (old new : View) → Passes old new (StandsAsBefore count old) (Quiet old) → Moves Anywhere 66 3 65 old new
    → KeepsShut old new → Opens count old new
opens_pages count old new passes moves shut = record {
  time = opened_time count old new passes;
  honest = moves.honest;
  was_honest = moves.was_honest;
  beside_is = moves.beside;
  faults = moves.faults;
  reads = record { low = moves.reads.low; high = omega (arith, moves.reads.high) };
  few = few_pages count old new moves shut;
}

-- more calls
more_time : (count : ℕ) (old mid new : View) → LeavesOpening count old mid → GoesOn mid new
    → ((at : ℕ) (image : Image) → mid.clock < at → at ≤ new.clock → new.crash at image → IsLeftOpening count old image)
    → ((at : ℕ) → mid.clock < at → at ≤ new.clock → new.sent_by at ≡ sent_now mid) → LeavesOpening count old new
more_time count old mid new so_far goes late quiet = record {
  later = omega (arith, so_far.later, goes.later);
  past = λ at image within left. so_far.past at image within (goes.past at image (omega (arith, within, so_far.later)) left);
  kept = λ at image within left. goes.kept at image (omega (arith, within, so_far.later)) (so_far.kept at image within left);
  here = λ at image low high left. elim (cases_lt mid.clock at) [
    | inl after ↦ late at image after high left
    | inr before ↦ so_far.here at image low before (goes.past at image before left)
  ];
  sent_past = λ at within. goes.sent_past at (omega (arith, within, so_far.later)) ∙ so_far.sent_past at within;
  sent_here = λ at low high. elim (cases_lt mid.clock at) [
    | inl after ↦ quiet at after high ∙ sent_same old mid (IsLeftOpening count old) so_far
    | inr before ↦ goes.sent_past at before ∙ so_far.sent_here at low before
  ];
}

longer : (one other : List ℕ) → (1 ∷ (one ++ other) ≡ one) → ⊥
longer one other same = omega (arith, ap length same, length-append one other)

longer_too : (one other : List ℕ) → (1 ∷ (one ++ other) ≡ other) → ⊥
longer_too one other same = omega (arith, ap length same, length-append one other)

-- The journal of an image that may be left can be read, where its pages are one of two: else they might be any.
module _ (count : ℕ) (crash : Image → Type 0) (one other : Image) (at_each : (pages : Image) → PagesOf count crash pages → (pages ≡ one)
    ⊎ (pages ≡ other)) (image : Image) (left : crash image) where
  either_readable : IsReadable count image
  either_readable broken =
      let odd : Image = λ page. 1 ∷ (one page ++ other page) in
      elim (at_each odd (record { from = image; was = left; same = λ readable. absurd (readable broken) })) [
        | inl same ↦ longer (one 0) (other 0) (ap (λ (i : Image). i 0) same)
        | inr same ↦ longer_too (one 0) (other 0) (ap (λ (i : Image). i 0) same)
      ]

one_of_two : (before pages : Image) → BeforeOrUpgraded before pages → (pages ≡ before) ⊎ (pages ≡ upgraded before)
one_of_two before pages (inl same) = inl same
one_of_two before pages (inr is) = inr is.1

-- the pages are in version 2 once they are current
current_either : (pages : Image) → (HasOldMagic (pages 0) → IsOldStore pages) → BeforeOrUpgraded pages (current pages)
current_either pages kept = elim (cases_Bool (has_old_magic (pages 0))) [
  | inl is ↦ let old = old_by (pages 0) is in inr (kept old, current_upgraded pages old)
  | inr is ↦ inl (current_other pages is)
]

-- pages at rest are brought to version 2
module _ (count : ℕ) (sound sound' : Bool) (old mid near : View) (so_far : LeavesOpening count old mid) (honest : Honest old
    → Honest mid) (same : Honest old → pages_of count mid.image ≡ pages_of count old.image)
    (time : Passes (pages_view count sound mid) (pages_view count sound' near) (λ pages. Honest mid
    → BeforeOrUpgraded (pages_of count mid.image) pages) (Quiet (pages_view count sound mid))) (goes : GoesOn mid near) where
  late_upgraded : (at : ℕ) (image : Image) → mid.clock < at → at ≤ near.clock → near.crash at image → IsLeftOpening count old image
  late_upgraded at image low high left = λ is.
      let base = pages_of count mid.image in
      let each : (pages : Image) → PagesOf count (near.crash at) pages
      → BeforeOrUpgraded base pages = λ pages found. time.here at pages low high found (honest is) in
      let here : PagesOf count (near.crash at) (pages_of count image) = record { from = image; was = left; same = λ readable. refl } in
      let B : Image → Type 0 = λ before. BeforeOrUpgraded before (pages_of count image) in
      record {
        from = old.image;
        was = is;
        pages = subst B (same is) (each (pages_of count image) here);
        readable = λ any. either_readable count (near.crash at) base (upgraded base)
            (λ pages found. one_of_two base pages (each pages found)) image left;
      }

  upgraded_time : LeavesOpening count old near
  upgraded_time = more_time count old mid near so_far goes late_upgraded time.sent_here

-- and then read
module _ (count : ℕ) (sound sound' : Bool) (old near new : View) (so_far : LeavesOpening count old near) (closed : IsClosed near)
    (same : Honest old → pages_of count near.image ≡ current (pages_of count old.image))
    (kept : Honest old → HasOldMagic (pages_of count old.image 0) → IsOldStore (pages_of count old.image))
    (time : Passes (pages_view count sound near) (pages_view count sound' new) (PagesOf count (Now near))
    (Quiet (pages_view count sound near))) (goes : GoesOn near new) where
  late_read : (at : ℕ) (image : Image) → near.clock < at → at ≤ new.clock → new.crash at image → IsLeftOpening count old image
  late_read at image low high left = λ is.
      let at_each : (pages : Image) → PagesOf count (new.crash at) pages
      → pages ≡ pages_of count near.image = λ pages found. gate_rests count near closed pages (time.here at pages low high found) in
      let here : PagesOf count (new.crash at) (pages_of count image) = record { from = image; was = left; same = λ readable. refl } in
      let B : Image → Type 0 = λ pages. BeforeOrUpgraded (pages_of count old.image) pages in
      record {
        from = old.image;
        was = is;
        pages = subst B (sym (at_each (pages_of count image) here ∙ same is)) (current_either (pages_of count old.image) (kept is));
        readable = λ any. either_readable count (new.crash at) (pages_of count near.image) (pages_of count near.image)
            (λ pages found. inl (at_each pages found)) image left;
      }

  read_time : LeavesOpening count old new
  read_time = more_time count old near new so_far goes late_read time.sent_here

-- An opening, and the pages brought to version 2, where the pages know how many they are.
module _ (n count count' : ℕ) (sound sound' : Bool) (old mid near : View) (counted : count ≡ n)
    (passes : Passes old mid (StandsAsBefore n old) (Quiet old)) (moves : Moves Anywhere 66 3 65 old mid)
    (same : Honest old → pages_of count mid.image ≡ pages_of count old.image)
    (upgrades : Upgrades (Honest mid) (Honest near) (pages_view count sound mid) (pages_view count' sound' near))
    (goes : GoesOn mid near)
    (shut : KeepsShut old mid) (left_alone : Honest mid → IsCurrent count mid
    → Reads (Honest mid) (Honest near) (pages_view count sound mid) (pages_view count' sound' near)) where
  counted_near : count' ≡ n
  counted_near = upgrades.size ∙ counted

  same_mid : Honest old → pages_of n mid.image ≡ pages_of n old.image
  same_mid = let S : ℕ → Type 0 = λ m. Honest old → pages_of m mid.image ≡ pages_of m old.image in subst S counted same

  time_near : LeavesOpening n old near
  time_near =
      let P : ℕ → Type 0 = λ m. Passes (pages_view count sound mid) (pages_view m sound' near) (λ pages. Honest mid
      → BeforeOrUpgraded (pages_of count mid.image) pages) (Quiet (pages_view count sound mid)) in
      let Q : ℕ → Type 0 = λ m. Passes (pages_view m sound mid) (pages_view m sound' near) (λ pages. Honest mid
      → BeforeOrUpgraded (pages_of m mid.image) pages) (Quiet (pages_view m sound mid)) in
      upgraded_time n sound sound' old mid near (opened_time n old mid passes) moves.honest same_mid
      (subst Q counted (subst P upgrades.size upgrades.time)) goes

  -- pages that aren't of version 1 are only read
  read_alone : Honest old → IsCurrent n old → Reads (Honest mid) (Honest near) (pages_view count sound mid) (pages_view count' sound' near)
  read_alone honest current =
      let M : Image → Type 0 = λ pages. HasOldMagic (pages 0) in
      let N : ℕ → Type 0 = λ m. M (pages_of m old.image) in
      left_alone (moves.honest honest) (λ magic. current (subst N counted (subst M (same honest) magic)))

  few_upgraded : WritesFew n old near
  few_upgraded = record {
    syncs = record {
      low = omega (arith, moves.syncs.low, upgrades.syncs.low);
      high = omega (arith, moves.syncs.high, upgrades.syncs.high);
    };
    writes = record {
      low = omega (arith, moves.writes.low, upgrades.writes.low);
      high = omega (arith, moves.writes.high, upgrades.writes.high);
    };
    current = λ honest current. omega (arith, moves.syncs.high, (read_alone honest current).syncs);
    unwritten = λ closed current. (read_alone closed.honest current).writes ∙ none_written old mid (shut closed);
  }

  pub opens_upgraded : Opens n old near
  opens_upgraded = record {
    time = time_near;
    honest = λ honest. upgrades.told (moves.honest honest);
    was_honest = λ honest. moves.was_honest (upgrades.was_told honest);
    beside_is = upgrades.beside ∙ moves.beside;
    faults = omega (arith, moves.faults, upgrades.faults);
    reads = record {
      low = omega (arith, moves.reads.low, upgrades.reads.low);
      high = omega (arith, moves.reads.high, upgrades.reads.high);
    };
    few = few_upgraded;
  }

  module _ (done : Honest mid → pages_of count' near.image ≡ current (pages_of count mid.image)) where
    -- the pages that the disk stood for are of version 2
    pub same_near : Honest old → pages_of count' near.image ≡ current (pages_of count' old.image)
    same_near honest =
        let S : ℕ → Type 0 = λ m. pages_of count mid.image ≡ pages_of m old.image in
        done (moves.honest honest) ∙ ap (λ (pages : Image). current pages) (subst S (sym upgrades.size) (same honest))

    module _ (kept : Honest mid → HasOldMagic (pages_of count mid.image 0)
        → IsOldStore (pages_of count mid.image)) (closed : IsClosed near) where
      kept_old : Honest old → HasOldMagic (pages_of n old.image 0) → IsOldStore (pages_of n old.image)
      kept_old honest =
          let K : Image → Type 0 = λ pages. HasOldMagic (pages 0) → IsOldStore pages in
          let N : ℕ → Type 0 = λ m. K (pages_of m old.image) in
          subst N counted (subst K (same honest) (kept (moves.honest honest)))

      pub opens_read : (count'' : ℕ) (sound'' : Bool) (new : View)
          → ReadsMost 17 (Honest near) (Honest new) (pages_view count' sound' near) (pages_view count'' sound'' new) → GoesOn near new
          → Opens n old new
      opens_read count'' sound'' new reads goes_new =
          let P : ℕ → Type 0 = λ m. Passes (pages_view count' sound' near) (pages_view m sound'' new) (PagesOf count' (Now near))
          (Quiet (pages_view count' sound' near)) in
          let Q : ℕ → Type 0 = λ m. Passes (pages_view m sound' near) (pages_view m sound'' new) (PagesOf m (Now near))
          (Quiet (pages_view m sound' near)) in
          let S : ℕ → Type 0 = λ m. Honest old → pages_of m near.image ≡ current (pages_of m old.image) in
          record {
            time = read_time n sound' sound'' old near new time_near closed (subst S counted_near same_near) kept_old
                (subst Q counted_near (subst P reads.size reads.time)) goes_new;
            honest = λ honest. reads.told (upgrades.told (moves.honest honest));
            was_honest = λ honest. moves.was_honest (upgrades.was_told (reads.was_told honest));
            beside_is = reads.beside ∙ upgrades.beside ∙ moves.beside;
            faults = omega (arith, moves.faults, upgrades.faults, reads.faults);
            reads = record {
              low = omega (arith, moves.reads.low, upgrades.reads.low, reads.reads.low);
              high = omega (arith, moves.reads.high, upgrades.reads.high, reads.reads.high);
            };
            few = few_then n old near new few_upgraded reads.syncs reads.writes;
          }

-- an image that stands for pages from before, or for those in version 2, recovers to their book
pub stands_on : (count total : ℕ) (book : List Series) (old : View) (image : Image)
    → ((from : Image) → Now old from → RecoversTo count from total book) → StandsOrUpgraded count old image
    → RecoversTo count image total book
stands_on count total book old image all stands =
    let was = all stands.from stands.was in
    elim stands.pages [
      | inl same ↦
          let P : Image → Type 0 = λ pages. StandsForBook (current pages) total book in
          let K : Image → Type 0 = λ pages. HasOldMagic (pages 0) → IsOldStore pages in
          record {
            readable = stands.readable was.readable;
            within = was.within;
            old = subst K (sym same) was.old;
            stands = subst P (sym same) was.stands;
          }
      | inr is ↦
          let P : Image → Type 0 = λ pages. StandsForBook pages total book in
          recovers_new count image total book (stands.readable was.readable) was.within
          (subst P (current_upgraded (pages_of count stands.from) is.0.magic ∙ sym is.1) was.stands)
    ]

pub holds_moments : (count total : ℕ) (book : List Series) (old new : View) → HoldsBook count total book old → Opens count old new
    → Passes old new (λ image. RecoversTo count image total book) (Quiet old)
holds_moments count total book old new holds opens =
    passes_weaker old new (IsLeftOpening count old) (λ image. RecoversTo count image total book) (Quiet old) (Quiet old)
    (λ image stands. stands_on count total book old image holds.images (stands holds.honest)) (λ sent quiet. quiet) opens.time

-- what is left at each moment of an opening recovers to the book that the disk holds
pub opens_recover : (count total : ℕ) (book : List Series) (old new : View) → HoldsBook count total book old → Opens count old new
    → (at : ℕ) (image : Image) → old.clock ≤ at → at ≤ new.clock → new.crash at image → RecoversTo count image total book
opens_recover count total book old new holds opens at image low high left =
    stands_on count total book old image holds.images (left_opening count old new opens.time at image low high left holds.honest)

pub holds_on : (count total : ℕ) (book : List Series) (old new : View) → HoldsBook count total book old → Opens count old new
    → HoldsBook count total book new
holds_on count total book old new holds opens = record {
  honest = opens.honest holds.honest;
  images = λ image left. opens_recover count total book old new holds opens new.clock image opens.time.later (omega arith) left;
}

-- a disk that stands for a book isn't too small
pub is_large : (size total : ℕ) (image : Image) (book : List Series) → RecoversTo (page_count size) image total book → 128 ≤ size
is_large size total image book is =
    let low = is.stands.store.stands.rules.total_low in
    omega (arith, low, is.stands.total_is, is.within)

risen_before : (old mid new : ℕ) → mid ≡ old → HasRisen mid new → HasRisen old new
risen_before old mid new same (inl risen) = inl (omega (arith, same, risen))
risen_before old mid new same (inr last) = inr (omega (arith, same, last.0), last.1 ∙ same)

-- why no store was opened on the pages
pub store_prevents : (cause : StoreError) (n count count' : ℕ) (sound sound' : Bool) (old mid new : View) → count ≡ n
    → n ≡ page_count old.size → 128 ≤ old.size → (Honest old → Honest mid)
    → (Honest old → pages_of count mid.image ≡ book_pages count old.image) → mid.faults ≡ old.faults → IsFirstPage cause
    → IsOpenCause cause (Honest mid) (pages_view count sound mid) (pages_view count' sound' new) → Prevents (store_cause_of cause) old new
store_prevents (of_store.Refused refusal) n count count' sound sound' old mid new counted is_n large honest same faults first is = tt
store_prevents of_store.NotAStore n count count' sound sound' old mid new counted is_n large honest same faults first is =
    let P : ℕ → Type 0 = λ m. IsDamagedBlock m old.image 66 in
    let M : Image → Type 0 = λ pages. HasMagic (pages 0) in (
      large,
      (
        inr (omega arith, omega arith),
        λ h. subst P (counted
            ∙ is_n) (inr (inl (refl, λ magic. is (honest h) (subst M (sym (same h)) magic)))),
      ),
    )
store_prevents of_store.DiskFault n count count' sound sound' old mid new counted is_n large honest same faults first is = risen_before
    old.faults mid.faults new.faults faults is
store_prevents (of_store.Damaged page) n count count' sound sound' old mid new counted is_n large honest same faults first is =
    let P : ℕ → Type 0 = λ m. IsDamagedBlock m old.image (66 + page) in
    let B : Image → Type 0 = λ pages. IsBrokenPage count pages page in (
      large,
      (
        inr (omega arith, omega (arith, first)),
        λ h. subst P (counted ∙ is_n) (inr (inr (inl (page, refl, subst B (same h) (is (honest h)))))),
      ),
    )
store_prevents of_store.NoMemory n count count' sound sound' old mid new counted is_n large honest same faults first is = tt

-- why the pages weren't brought to version 2
pub upgrade_prevents : (cause : UpgradeError) (n count count' : ℕ) (sound sound' : Bool) (old mid new : View) → count ≡ n
    → n ≡ page_count old.size → 128 ≤ old.size → (Honest old → Honest mid)
    → (Honest old → pages_of count mid.image ≡ pages_of count old.image) → mid.faults ≡ old.faults → IsPlace cause
    → of_upgrades.Prevents cause (Honest mid) (pages_view count sound mid) (pages_view count' sound' new)
    → Prevents (upgrade_cause_of cause) old new
upgrade_prevents (of_upgrade.Damaged page) n count count' sound sound' old mid new counted is_n large honest same faults place is =
    let P : ℕ → Type 0 = λ m. IsDamagedBlock m old.image (66 + page) in
    let B : Image → Type 0 = λ pages. IsFirstBroken pages page in (
      large,
      (
        inr (omega arith, omega (arith, place.1)),
        λ h. subst P (counted ∙ is_n) (inr (inr (inr (page, refl, subst B (same h) (is (honest h)))))),
      ),
    )
upgrade_prevents of_upgrade.DiskFault n count count' sound sound' old mid new counted is_n large honest same faults place is = risen_before
    old.faults mid.faults new.faults faults is
upgrade_prevents of_upgrade.NoMemory n count count' sound sound' old mid new counted is_n large honest same faults place is = tt

-- a disk that stands for a book has no page that breaks the rules of version 1
pub upgrade_outside : (cause : UpgradeError) (count count' total : ℕ) (book : List Series) (sound sound' : Bool) (old mid new : View)
    → Honest mid → pages_of count mid.image ≡ pages_of count old.image → RecoversTo count old.image total book
    → of_upgrades.Prevents cause (Honest mid) (pages_view count sound mid) (pages_view count' sound' new)
    → IsOutside (upgrade_cause_of cause)
upgrade_outside (of_upgrade.Damaged page) count count' total book sound sound' old mid new honest same recovers is =
    let B : Image → Type 0 = λ pages. IsFirstBroken pages page in
    let broken : IsFirstBroken (pages_of count old.image) page = subst B same (is honest) in
    absurd (broken.breaks ((recovers.old broken.magic).catalog page broken.place.0 broken.place.1))
upgrade_outside of_upgrade.DiskFault count count' total book sound sound' old mid new honest same recovers is = inl refl
upgrade_outside of_upgrade.NoMemory count count' total book sound sound' old mid new honest same recovers is = inr refl

pub upgrade_place : (cause : UpgradeError) → IsPlace cause → IsOpeningPlace (upgrade_cause_of cause)
upgrade_place (of_upgrade.Damaged page) place = inr (omega arith, omega (arith, place.1))
upgrade_place of_upgrade.DiskFault place = tt
upgrade_place of_upgrade.NoMemory place = tt

pub store_outside : (cause : StoreError) → store_opening.IsOutside cause → IsOutside (store_cause_of cause)
store_outside cause (inl same) = inl (ap store_cause_of same)
store_outside cause (inr same) = inr (ap store_cause_of same)

-- the block of a cause
pub pages_place : (cause : OpenCause) → IsOpeningPlace (cause_of cause)
pages_place of_pages.DiskFault = tt
pages_place (of_pages.TooSmall blocks) = tt
pages_place of_pages.BadDirectory = inl refl
pages_place of_pages.NoMemory = tt

pub store_place : (cause : StoreError) → IsFirstPage cause → IsOpeningPlace (store_cause_of cause)
store_place (of_store.Refused refusal) first = tt
store_place of_store.NotAStore first = inr (omega arith, omega arith)
store_place of_store.DiskFault first = tt
store_place (of_store.Damaged page) first = inr (omega arith, omega (arith, first))
store_place of_store.NoMemory first = tt
