-- How an export ends.
use Rattle.std.proofs.Common.{◌≡◌, ℕ, zero, suc, ◌+◌, ◌*◌, ◌^◌, ◌<◌, ◌≤◌, Bool, List, Option, Some, None, Result, Ok, Err, length, refl}
use Rattle.std.proofs.Common.{sym, ap, subst, arith, inl, inr, ◌∙◌}
use Rattle.std.proofs.Math.Seq.{take-length}
use Rattle.std.proofs.lemmas.List.{append-nil}
use Rattle.std.specs.Prelude.{slice_get, IfErr, OnOk, OnErr}
use Rattle.block_disk.specs.Counts.{HasRisen}
use Rattle.block_disk.specs.Streams.{sent_after, PartSent}
use Rattle.block_disk.specs.View.{Image, View, Now, Honest, Passes, sent_now}
use Rattle.block_disk.proofs.Passing.{passes_weaker}
use Rattle.gate_pages.specs.GateLaws.{goes_none, goes_then}
use Rattle.gate_pages.specs.GatePages.{PagesOf, IsClosed, pages_view}
use Rattle.gate_pages.specs.Journal.{page_count, pages_of}
use Rattle.catalog_page.specs.Entries.{Entry}
use Rattle.node_page.specs.Fields.{child_at}
use Rattle.om3_coeff.specs.declared.span.Span.{Span}
use Rattle.om3_coeff.specs.Keys.{page_levels}
use Rattle.page_space.specs.Layout.{Keeps}
use Rattle.page_space.specs.declared.superblock.Superblock.{Superblock}
use Rattle.series_book.specs.declared.one_series.Series.{Series}
use Rattle.series_book.specs.Edits.{id_of}
use Rattle.series_book.specs.Pages.{series_pages}
use Rattle.series_export.specs.Cuts.{CutsExport}
use Rattle.series_export.specs.Exports.{export_text, window_pages}
use Rattle.series_export.proofs.ExportLemmas.{window_few}
use Rattle.series_export.specs.declared.window.Window.{Window}
use Rattle.series_load.specs.Sets.{IsNamed}
use Rattle.series_store.specs.Counting.{HasBadPage, HasBadTree}
use Rattle.series_store.specs.Sending.{Sends, HasUnfitPage, IsSeriesCause, IsNoDamage}
use Rattle.series_store.specs.WhereFit.{IsKeptWhereFit}
use Rattle.series_store.proofs.FitLemmas.{kept_fit}
use Rattle.series_store.specs.declared.send_errors.SendError.{SendError}
use Rattle.series_store.specs.declared.send_errors.SendError.TheVariants.{SendFault, DiskFault, Damaged, NoMemory}
use Rattle.disk_store.specs.Held.{HoldsBook}
use Rattle.disk_store.proofs.Opened.{few_then}
use Rattle.disk_store.specs.Openings.{Opens}
use Rattle.disk_store.specs.declared.causes.OpeningCause.{OpeningCause}
use Rattle.disk_store.specs.declared.causes.OpeningCause.TheVariants as opening
use Rattle.run_ends.specs.Statuses.{block_of}
use Rattle.run_ends.specs.declared.ending.End.{End}
use Rattle.run_ends.specs.declared.ending.End.TheVariants as ends
use Rattle.stored_book.specs.Damage.{SaysNumbers}
use Rattle.stored_book.specs.OneSeries.{HasOneRecord}
use Rattle.stored_book.specs.Records.{entry}
use Rattle.stored_book.specs.Standing.{IsKept, StandsForBook, book_pages, RecoversTo}
use Rattle.stored_book.proofs.CurrentLemmas.{recovers_new}
use Rattle.stored_book.proofs.NumberLemmas.{one_page, small_numbers}
use Rattle.chart_service.specs.MomentLaws.{since_none}
use Rattle.chart_service.proofs.DiskKept.{risen_since}
use Rattle.store_commands.specs.Books.{Never, LeavesSame, SendsPartOf}
use Rattle.store_commands.specs.Damaged.{IsDamagedLater}
use Rattle.store_commands.specs.Exported.{ExportEnds, ExportsPart, IsBadForExport, IsExportEnd}
use Rattle.store_commands.specs.Exporting.{EndsExport, ExportsStore, export_end}
use Rattle.store_commands.specs.Lacking.{HasNoRecord, LacksRecord}
use Rattle.store_commands.specs.Loaded.{OfSeries}
use Rattle.store_commands.specs.Salvaged.{IsCutEnd, IsSalvageEnd, OfFitSeries, Salvages, SendsBefore, SendsHeld}
use Rattle.store_commands.specs.Status.{opening_end}
use Rattle.store_commands.specs.Unopened.{IsUnopenedEnd}
use Rattle.store_commands.proofs.Held.{RestsNew, stands_held, within_held, held, holds_same}
use Rattle.store_commands.proofs.Moments.{opened_goes, opened_since, since_on, on_at}
use Rattle.store_commands.proofs.CheckEnds.{since_both}
use Rattle.store_commands.proofs.CheckLooks.{left_stands}
use Rattle.store_commands.proofs.LoadStored.{named_or}
use Rattle.store_commands.proofs.Unopened.{opening_known, outside_ends, unopened_end}
use Rattle.store_commands.proofs.WorldLemmas.{IsUnopened}

-- ---- no store was opened

-- where none was opened, nothing was done, and it wasn't for a page of the series
opening_never : (cause : OpeningCause) → opening_end cause ≡ ends.Done → ⊥
opening_never (opening.TooSmall size) is = cc
opening_never (opening.Damaged block) is = cc
opening_never opening.DiskFault is = cc
opening_never opening.NoMemory is = cc

opening_salvages : (cause : OpeningCause) → IsSalvageEnd (opening_end cause)
opening_salvages (opening.TooSmall size) = tt
opening_salvages (opening.Damaged block) = tt
opening_salvages opening.DiskFault = tt
opening_salvages opening.NoMemory = tt

opening_cut : (cause : OpeningCause) (count : ℕ) (image : Image) (name : List ℕ) (series : Series) (window : Option Window)
    (before now : Option (List ℕ)) → IsCutEnd (opening_end cause) count image name series window before now
opening_cut (opening.TooSmall size) count image name series window before now = tt
opening_cut (opening.Damaged block) count image name series window before now = tt
opening_cut opening.DiskFault count image name series window before now = tt
opening_cut opening.NoMemory count image name series window before now = tt

-- a text of which nothing was sent
none_sent : (text : List ℕ) (before now : Option (List ℕ)) → now ≡ before → SendsPartOf text before now
none_sent text None now same = record { count = 0; within = omega arith; sent = same }
none_sent text (Some bytes) now same = record { count = 0; within = omega arith; sent = same ∙ ap Some (sym (append-nil bytes)) }

pub unexported : (name : List ℕ) (window : Option Window) (old new : View) (left left' before now : Option (List ℕ)) (sends sends_now : ℕ)
    (cause : OpeningCause) (end : End) → IsUnopened old new left left' before now cause → end ≡ opening_end cause
    → ExportEnds name window old new before now sends sends_now end
unexported name window old new left left' before now sends sends_now cause end u same =
    let P : End → Type 0 = λ e. ExportEnds name window old new before now sends sends_now e in
    subst P (sym same) (record {
      is = by cause (unopened_end old new left left' before now cause u);
      part = λ total book holds series named. none_sent (export_text series window) before now u.sent_is;
      unnamed = λ total book holds none. outside_ends cause (u.outside total book holds);
      lacks = λ is. absurd (opening_known cause is);
      crash = opened_since old new u.opens;
      holds = held old new u.opens;
      reads = λ total book holds series named. omega (arith, u.opens.reads.high);
      salvaged = record {
        sends = λ series honest has. record {
          all = λ is. absurd (opening_never cause is);
          part = none_sent (export_text series window) before now u.sent_is;
        };
        cut = λ series honest has. opening_cut cause (page_count old.size)
            (book_pages (page_count old.size) old.image) name series window before now;
        sound = λ series honest has. opening_salvages cause;
      };
      held_reads = λ series honest has. omega (arith, u.opens.reads.high);
      few = u.opens.few;
      honest = u.opens.honest;
      goes_on = opened_goes old new u.opens;
    })
  where
    by : (cause : OpeningCause) → IsUnopenedEnd (opening_end cause) old new × (now ≡ before)
        → IsExportEnd (opening_end cause) name window old new before now sends sends_now
    by (opening.TooSmall size) is = is
    by (opening.Damaged block) is = is
    by opening.DiskFault is = is.0
    by opening.NoMemory is = tt

-- ---- a series was sent

-- a page that is unfit for its place is bad for it
unfit_bad : (image : Image) (total slots level index page : ℕ) (top : Option Span) (at : ℕ) → HasUnfitPage image total level page top at
    → HasBadPage image total slots level index page top at
unfit_bad image total slots zero index page top at is = is
unfit_bad image total slots (suc level) index page top at (inl here) = inl (here.0, here.1, inl here.2)
unfit_bad image total slots (suc level) index page top at (inr below) =
    inr (
      below.0,
      below.1,
      below.2,
      below.3,
      below.4,
      unfit_bad image total slots level (128 * index + below.2) (child_at (image page) below.2) (below.1 (127 + below.2)) at below.5,
    )

-- a text that was sent whole
all_sent : (text : List ℕ) (before now : Option (List ℕ)) → now ≡ sent_after text before → SendsPartOf text before now
all_sent text before now sent =
    let P : List ℕ → Type 0 = λ l. now ≡ sent_after l before in
    record { count = length text; within = omega arith; sent = subst P (sym (take-length text)) sent }

part_sent : (text : List ℕ) (before now : Option (List ℕ)) → PartSent text before now → SendsPartOf text before now
part_sent text before now part = record { count = part.count; within = part.within; sent = part.sent }

both : (o : Option ℕ) (id : ℕ) → o ≡ Some id → o ≡ None → ⊥
both o id some none = cc

one_id : (o : Option ℕ) (a b : ℕ) → o ≡ Some a → o ≡ Some b → a ≡ b
one_id o a b first second = let same : Some a ≡ Some b = sym first ∙ second in cc

-- page 0 says one set of numbers
own_numbers : (count : ℕ) (image : Image) (t s : Superblock) → count < 2 ^ 32 → Keeps count t (image 0) → Keeps count s (image 0) → t ≡ s
own_numbers count image t s few keeps keeps' = one_page t s (small_numbers count t few keeps.rules) (small_numbers count s few keeps'.rules)
    (sym keeps.spelled ∙ keeps'.spelled)

-- a name that no record has isn't that of one
not_held : (count : ℕ) (image : Image) (name : List ℕ) (IsSo : Superblock → Entry → Type 0) → count < 2 ^ 32 → HasNoRecord count image name
    → SaysNumbers count image (λ t. HasOneRecord image t name (IsSo t)) → ⊥
not_held count image name IsSo small lack has =
    let S : Superblock → Type 0 = λ u. HasOneRecord image u name (IsSo u) in
    let holds : S lack.numbers = subst S (own_numbers count image has.numbers lack.numbers small has.keeps lack.keeps) has.so in
    lack.so holds.id holds.there holds.named

module _ (name : List ℕ) (window : Option Window) (count count' : ℕ) (sound sound' : Bool) (old new : View) (s s' : Superblock)
    (kept : Sends (Honest old) (Honest new) (pages_view count sound old) (pages_view count' sound' new) old new s s')
    (rests : RestsNew count old) (closed : IsClosed new) (id : ℕ)
    (found : (total : ℕ) (book : List Series) → Honest old → StandsForBook (pages_of count old.image) total book
    → id_of name book ≡ Some id) where
  sent_since : LeavesSame count old new
  sent_since = λ total book holds.
      let IsSo : Image → ℕ → Type 0 = λ image sent. RecoversTo count image total book in
      let Q : Image → Type 0 = λ pages. StandsForBook pages total book in
      let before = pages_view count sound old in
      let after = pages_view count' sound' new in
      let S : ℕ → Type 0 = λ sent. (sent_now before ≤ sent) × (sent ≤ sent_now after) in
      let passes : Passes before after Q S = passes_weaker before after (PagesOf count (Now old)) Q S S
      (left_stands count total book old rests holds) (λ sent is. is) kept.time in
      since_on IsSo old old new (since_none old IsSo holds.images) kept.goes_on (λ at image low high left.
      let on = on_at count count' total sound sound' old new kept.size (within_held count total book old holds) Q S (λ pages is. book)
      (λ pages is. is) passes at image low high left in
      recovers_new count image total book on.readable on.within on.so)

  -- this is so of the series of this id
  abbrev pub OfId : (List Series → Series → Type 0) → Type 0
  OfId IsSo = (total : ℕ) (book : List Series) (series : Series) → Honest old → StandsForBook (pages_of count old.image) total book
      → slice_get book id ≡ Some series → IsSo book series

  -- so it is of the one of this name
  of_id : (IsSo : List Series → Series → Type 0) → OfId IsSo → OfSeries count old name (λ total book series. IsSo book series)
  of_id IsSo all = λ total book holds series named.
      let stands = stands_held count total book old rests holds in
      let P : ℕ → Type 0 = λ n. slice_get book n ≡ Some series in
      all total book series holds.honest stands (subst P
      (one_id (id_of name book) named.id id named.id_is (found total book holds.honest stands)) named.there)

  -- this is so of what the record of this id is so of
  abbrev pub OfRecord : (Image → ℕ → Series → Entry → Type 0) → (Series → Type 0) → Type 0
  OfRecord Is IsSo = (series : Series) → Honest old → Is (pages_of count old.image) s.total series (entry (pages_of count old.image) id)
      → IsSo series

  -- so it is of the series of this id of a book
  abbrev pub EachOf : (Image → ℕ → Series → Entry → Type 0) → Type 0
  EachOf Is = (total : ℕ) (book : List Series) (series : Series) → Honest old → StandsForBook (pages_of count old.image) total book
      → slice_get book id ≡ Some series
      → Is (pages_of count old.image) s.total series (entry (pages_of count old.image) id)

  by_book : (Is : Image → ℕ → Series → Entry → Type 0) (IsSo : Series → Type 0) → EachOf Is → OfRecord Is IsSo
      → OfId (λ book series. IsSo series)
  by_book Is IsSo of_book all = λ total book series honest stands there. all series honest (of_book total book series honest stands there)

  -- and of the one that the pages hold under this name
  held_so : (Is : Image → ℕ → Series → Entry → Type 0) (IsSo : Series → Type 0) → count < 2 ^ 32 → id < s.series
      → (Honest old → Keeps count s (pages_of count old.image 0)) → (Honest old → (entry (pages_of count old.image) id).name ≡ name)
      → OfRecord Is IsSo → (series : Series) → Honest old
      → SaysNumbers count (book_pages count old.image)
      (λ t. HasOneRecord (book_pages count old.image) t name (Is (book_pages count old.image) t.total series)) → IsSo series
  held_so Is IsSo few within spelled named all = λ series honest has.
      let image = pages_of count old.image in
      let K : Image → Type 0 = λ pages. SaysNumbers count pages (λ t. HasOneRecord pages t name (Is pages t.total series)) in
      let here : K image = subst K (rests.current honest) has in
      let S : Superblock → Type 0 = λ u. HasOneRecord image u name (Is image u.total series) in
      let holds : S s = subst S (own_numbers count image here.numbers s few here.keeps (spelled honest)) here.so in
      let I : ℕ → Type 0 = λ n. Is image s.total series (entry image n) in
      all series honest (subst I (sym (holds.alone id within (named honest))) holds.so)

  -- the rest is so however it ended
  ended : (before now : Option (List ℕ)) (sends sends_now : ℕ) (end : End) → (end ≡ ends.UnknownSeries → ⊥)
      → EndsExport end name window count old new before now sends sends_now → ExportsPart name window count old before now
      → OfId (λ book series. new.reads ≤ old.reads + series_pages series.slots) → Salvages name window count old before now end
      → OfFitSeries count old name (λ series. new.reads ≤ old.reads + window_pages series window)
      → ExportsStore name window count old new before now sends sends_now end
  ended before now sends sends_now end known is part reads salvaged held_reads = record {
    is = is;
    part = part;
    unnamed = λ total book holds none. absurd (both (id_of name book) id
        (found total book holds.honest (stands_held count total book old rests holds)) none);
    lacks = λ is. absurd (known is);
    crash = sent_since;
    holds = λ total book holds. holds_same count count' total book old new rests kept.size kept.told kept.image closed holds;
    reads = of_id (λ book series. new.reads ≤ old.reads + series_pages series.slots) reads;
    salvaged = salvaged;
    held_reads = held_reads;
    unwritten = (kept.syncs, kept.writes);
    honest = kept.told;
    goes_on = kept.goes_on;
  }

  -- a series that is sent is known
  sent_known : (e : SendError) → export_end (Err e) ≡ ends.UnknownSeries → ⊥
  sent_known SendFault is = cc
  sent_known DiskFault is = cc
  sent_known (Damaged page) is = cc
  sent_known NoMemory is = cc

  sent_never : (e : SendError) → export_end (Err e) ≡ ends.Done → ⊥
  sent_never SendFault is = cc
  sent_never DiskFault is = cc
  sent_never (Damaged page) is = cc
  sent_never NoMemory is = cc

  sent_salvages : (e : SendError) → IsNoDamage e → IsSalvageEnd (export_end (Err e))
  sent_salvages SendFault sound = tt
  sent_salvages DiskFault sound = tt
  sent_salvages (Damaged page) sound = absurd sound
  sent_salvages NoMemory sound = tt

  abbrev pub OfFit : (Series → Type 0) → Type 0
  OfFit IsSo = OfRecord IsKeptWhereFit IsSo

  -- the pages of the window are no more than those of the tree
  few_read : OfFit (λ series. new.reads ≤ old.reads + window_pages series window)
      → OfFit (λ series. new.reads ≤ old.reads + series_pages series.slots)
  few_read reads = λ series honest kept. omega (arith, reads series honest kept, window_few series window kept.tree.few)

  fit_of : EachOf IsKept → EachOf IsKeptWhereFit
  fit_of of_book = λ total book series honest stands there. kept_fit (pages_of count old.image) s.total series
      (entry (pages_of count old.image) id) (of_book total book series honest stands there)

  -- where it ended at a damaged page
  cut_end : (e : SendError) (before now : Option (List ℕ)) → id < s.series → (Honest old → Keeps count s (pages_of count old.image 0))
      → (Honest old → (entry (pages_of count old.image) id).name ≡ name) → (series : Series) → Honest old
      → CutsExport e (pages_of count old.image) s.total id series window before now
      → IsCutEnd (export_end (Err e)) count (book_pages count old.image) name series window before now
  cut_end SendFault before now within spelled named series honest cut = tt
  cut_end DiskFault before now within spelled named series honest cut = tt
  cut_end (Damaged page) before now within spelled named series honest cut =
      let image = pages_of count old.image in
      let P : Image → Type 0 = λ pages. SaysNumbers count pages (λ t. SendsBefore pages t name page series window before now) in
      let here : P image = record {
        numbers = s;
        keeps = spelled honest;
        so = record { id = id; there = within; named = named honest; sends = cut };
      } in
      subst P (sym (rests.current honest)) here
  cut_end NoMemory before now within spelled named series honest cut = tt

  pub series_sent : (before now : Option (List ℕ)) (sends sends_now : ℕ) (answer : Result (Unit {0}) SendError)
      → old.beside.send_faults ≡ sends → new.beside.send_faults ≡ sends_now → id < s.series → s.total ≤ count → count < 2 ^ 32
      → (Honest old → Keeps count s (pages_of count old.image 0)) → (Honest old → (entry (pages_of count old.image) id).name ≡ name)
      → EachOf IsKept → OfFit (λ series. OnOk answer (now ≡ sent_after (export_text series window) before))
      → OfFit (λ series. OnErr answer (PartSent (export_text series window) before now))
      → OfFit (λ series. IfErr answer (λ e. CutsExport e (pages_of count old.image) s.total id series window before now))
      → OfRecord IsKept (λ series. IfErr answer IsNoDamage)
      → IfErr answer (λ e. IsSeriesCause e (Honest old) s id (pages_view count sound old) (pages_view count' sound' new))
      → OfFit (λ series. new.reads ≤ old.reads + window_pages series window)
      → ExportsStore name window count old new before now sends sends_now (export_end answer)
  series_sent before now sends sends_now (Ok done) was is_now within few small spelled named of_book sent part cut no_damage cause reads =
      let all = of_id (λ book series. now ≡ sent_after (export_text series window) before)
      (by_book IsKeptWhereFit (λ series. now ≡ sent_after (export_text series window) before) (fit_of of_book) sent) in
      let held : OfFit (λ series. SendsHeld series window before now ends.Done) = λ series honest kept. record {
        all = λ is. sent series honest kept;
        part = all_sent (export_text series window) before now (sent series honest kept);
      } in
      ended before now sends sends_now ends.Done (λ is. cc) all
      (λ total book holds series named. all_sent (export_text series window) before now (all total book holds series named))
      (by_book IsKeptWhereFit (λ series. new.reads ≤ old.reads + series_pages series.slots) (fit_of of_book) (few_read reads))
      (record {
        sends = held_so IsKeptWhereFit (λ series. SendsHeld series window before now ends.Done) small within spelled named held;
        cut = λ series honest has. tt;
        sound = λ series honest has. tt;
      })
      (held_so IsKeptWhereFit (λ series. new.reads ≤ old.reads + window_pages series window) small within spelled named reads)
  series_sent before now sends sends_now (Err e) was is_now within few small spelled named of_book sent part cut no_damage cause reads =
      let front : ExportsPart name window count old before now = λ total book holds series named.
      part_sent (export_text series window) before now
      (of_id (λ book series. PartSent (export_text series window) before now)
      (by_book IsKeptWhereFit (λ series. PartSent (export_text series window) before now) (fit_of of_book) part) total book holds series
      named) in
      let held : OfFit (λ series. SendsHeld series window before now (export_end (Err e))) = λ series honest kept. record {
        all = λ is. absurd (sent_never e is);
        part = part_sent (export_text series window) before now (part series honest kept);
      } in
      ended before now sends sends_now (export_end (Err e)) (sent_known e)
      (by_error e (by_book IsKept (λ series. IsNoDamage e) of_book no_damage) cause) front
      (by_book IsKeptWhereFit (λ series. new.reads ≤ old.reads + series_pages series.slots) (fit_of of_book) (few_read reads))
      (record {
        sends = held_so IsKeptWhereFit (λ series. SendsHeld series window before now (export_end (Err e))) small within spelled named held;
        cut = held_so IsKeptWhereFit (λ series. IsCutEnd (export_end (Err e)) count
            (book_pages count old.image) name series window before now) small within spelled named
            (λ series honest kept. cut_end e before now within spelled named series honest (cut series honest kept));
        sound = held_so IsKept (λ series. IsSalvageEnd (export_end (Err e))) small within spelled named
            (λ series honest kept. sent_salvages e (no_damage series honest kept));
      })
      (held_so IsKeptWhereFit (λ series. new.reads ≤ old.reads + window_pages series window) small within spelled named reads)
    where
      by_error : (e : SendError) → OfId (λ book series. IsNoDamage e)
          → IsSeriesCause e (Honest old) s id (pages_view count sound old) (pages_view count' sound' new)
          → EndsExport (export_end (Err e)) name window count old new before now sends sends_now
      by_error SendFault no_damage cause =
          let A : ℕ → Type 0 = λ n. HasRisen n new.beside.send_faults in
          let B : ℕ → Type 0 = λ n. HasRisen sends n in
          subst B is_now (subst A was cause)
      by_error DiskFault no_damage cause = cause
      by_error (Damaged page) no_damage cause =
          let image = pages_of count old.image in
          let bad : IsDamagedLater (IsBadForExport name) count old (block_of page) = record {
            page = page;
            place_is = refl;
            within = omega (arith, cause.0, few);
            bad = λ honest.
                let B : Image → Type 0 = λ i. IsBadForExport name count i page in
                let tree : HasBadTree image s page = record {
                  id = id;
                  within = within;
                  bad = unfit_bad image s.total (entry image id).slots (page_levels (entry image id).slots) 0 (entry image id).root
                      (entry image id).span page (cause.1 honest);
                } in
                subst B (sym (rests.current honest))
                (record { numbers = s; keeps = spelled honest; so = (cause.0, record { bad = tree; named = named honest }) });
          } in
          let never : Never count old = λ total book holds. elim (named_or name book) [
            | inl none ↦ both (id_of name book) id (found total book holds.honest (stands_held count total book old rests holds)) none
            | inr named ↦ of_id (λ book series. IsNoDamage (Damaged page)) no_damage total book holds named.0 named.1
          ] in
          (bad, never)
      by_error NoMemory no_damage cause = tt

-- no series has the name
pub none_found : (name : List ℕ) (window : Option Window) (count : ℕ) (old : View) (before : Option (List ℕ)) (sends : ℕ) → count < 2 ^ 32
    → RestsNew count old → LacksRecord count old name
    → ((total : ℕ) (book : List Series) → Honest old → StandsForBook (pages_of count old.image) total book → id_of name book ≡ None)
    → ExportsStore name window count old old before before sends sends ends.UnknownSeries
none_found name window count old before sends small rests lacks none =
    let image = book_pages count old.image in
    let none_named : (total : ℕ) (book : List Series) → HoldsBook count total book old → (series : Series) → IsNamed book name series
    → ⊥ = λ total book holds series named. both (id_of name book) named.id named.id_is
    (none total book holds.honest (stands_held count total book old rests holds)) in
    record {
      is = (none_named, refl);
      part = λ total book holds series named. absurd (none_named total book holds series named);
      unnamed = λ total book holds unnamed. refl;
      lacks = λ is. lacks;
      crash = λ total book holds. since_none old (λ image sent. RecoversTo count image total book) holds.images;
      holds = λ total book holds. holds;
      reads = λ total book holds series named. omega arith;
      salvaged = record {
        sends = λ series honest has. absurd (not_held count image name (λ t. IsKeptWhereFit image t.total series) small (lacks honest) has);
        cut = λ series honest has. tt;
        sound = λ series honest has. absurd (not_held count image name (λ t. IsKept image t.total series) small (lacks honest) has);
      };
      held_reads = λ series honest has. omega arith;
      unwritten = (refl, refl);
      honest = λ h. h;
      goes_on = goes_none old;
    }

-- ---- a store was opened first

-- a page that is bad once the store is open was so before
tree_before : (name : List ℕ) (count : ℕ) (old mid : View) (place : ℕ) → (Honest old → Honest mid)
    → (Honest old → book_pages count mid.image ≡ book_pages count old.image) → IsDamagedLater (IsBadForExport name) count mid place
    → IsDamagedLater (IsBadForExport name) count old place
tree_before name count old mid place honest_then pages bad = record {
  page = bad.page;
  place_is = bad.place_is;
  within = bad.within;
  bad = λ honest.
      let P : Image → Type 0 = λ image. IsBadForExport name count image bad.page in
      subst P (pages honest) (bad.bad (honest_then honest));
}

-- and a series that the pages hold they hold once the store is open
held_before : (name : List ℕ) (count : ℕ) (old mid : View) → (Honest old → Honest mid)
    → (Honest old → book_pages count mid.image ≡ book_pages count old.image)
    → (Is : Image → ℕ → Series → Entry → Type 0) (IsSo : Series → Type 0)
    → ((series : Series) → Honest mid → SaysNumbers count (book_pages count mid.image)
    (λ s. HasOneRecord (book_pages count mid.image) s name (Is (book_pages count mid.image) s.total series)) → IsSo series)
    → (series : Series) → Honest old → SaysNumbers count (book_pages count old.image)
    (λ s. HasOneRecord (book_pages count old.image) s name (Is (book_pages count old.image) s.total series)) → IsSo series
held_before name count old mid honest_then pages Is IsSo all = λ series honest has.
    let P : Image → Type 0 = λ image. SaysNumbers count image (λ s. HasOneRecord image s name (Is image s.total series)) in
    all series (honest_then honest) (subst P (sym (pages honest)) has)

module _ (name : List ℕ) (window : Option Window) (old mid new : View) (before now : Option (List ℕ)) (sends sends_now : ℕ)
    (opens : Opens (page_count old.size) old mid) (quiet : mid.faults ≡ old.faults) (pages : Honest old
    → book_pages (page_count old.size) mid.image ≡ book_pages (page_count old.size) old.image) where
  exported : (end : End) → EndsExport end name window (page_count old.size) mid new before now sends sends_now
      → IsExportEnd end name window old new before now sends sends_now
  exported ends.Done is = λ total book holds series named. is total book (held old mid opens total book holds) series named
  exported ends.NoMemory is = tt
  exported ends.SendFault is = is
  exported ends.DiskFault is = risen_since old.faults mid.faults new.faults quiet is
  exported (ends.DamagedPage page) is = (
    tree_before name (page_count old.size) old mid (block_of page) opens.honest pages is.0,
    λ total book holds. is.1 total book (held old mid opens total book holds),
  )
  exported ends.UnknownSeries is = (
    λ total book holds series named. is.0 total book (held old mid opens total book holds) series named,
    is.1,
  )
  exported end is = absurd is

pub ends_opened : (name : List ℕ) (window : Option Window) (count : ℕ) (old mid new : View) (before mid_before now : Option (List ℕ))
    (sends mid_sends sends_now : ℕ) (end : End) → Opens (page_count old.size) old mid → mid.faults ≡ old.faults
    → count ≡ page_count old.size
    → (Honest old → book_pages count mid.image ≡ book_pages count old.image) → mid_before ≡ before → mid_sends ≡ sends
    → ExportsStore name window count mid new mid_before now mid_sends sends_now end
    → ExportEnds name window old new before now sends sends_now end
ends_opened name window count old mid new before mid_before now sends mid_sends sends_now end opens quiet counted pages same same_sends s =
    let C : ℕ → Type 0 = λ c. ExportsStore name window c mid new mid_before now mid_sends sends_now end in
    let G : ℕ → Type 0 = λ c. Honest old → book_pages c mid.image ≡ book_pages c old.image in
    let B : Option (List ℕ) → Type 0 = λ b. ExportEnds name window old new b now mid_sends sends_now end in
    let S : ℕ → Type 0 = λ n. ExportEnds name window old new before now n sends_now end in
    let e = subst C counted s in
    let pages_are = subst G counted pages in
    let hold = held old mid opens in
    let all : ExportEnds name window old new mid_before now mid_sends sends_now end = record {
      is = exported name window old mid new mid_before now mid_sends sends_now opens quiet pages_are end e.is;
      part = λ total book holds series named. e.part total book (hold total book holds) series named;
      unnamed = λ total book holds none. (2, omega arith, sym (e.unnamed total book (hold total book holds) none));
      lacks = λ is honest.
          let P : Image → Type 0 = λ image. HasNoRecord (page_count old.size) image name in
          subst P (pages_are honest) (e.lacks is (opens.honest honest));
      crash = since_both old mid new mid_before now mid_sends sends_now opens pages_are e.crash e.goes_on;
      holds = λ total book holds. e.holds total book (hold total book holds);
      reads = λ total book holds series named. omega (arith, opens.reads.high, e.reads total book (hold total book holds) series named);
      salvaged = record {
        sends = held_before name (page_count old.size) old mid opens.honest pages_are IsKeptWhereFit
            (λ series. SendsHeld series window mid_before now end) e.salvaged.sends;
        cut = λ series honest has.
            let count : ℕ = page_count old.size in
            let C : Image → Type 0 = λ image. IsCutEnd end count image name series window mid_before now in
            subst C (pages_are honest) (held_before name count old mid opens.honest pages_are IsKeptWhereFit
            (λ series. IsCutEnd end count (book_pages count mid.image) name series window mid_before now) e.salvaged.cut series honest
            has);
        sound = held_before name (page_count old.size) old mid opens.honest pages_are IsKept (λ series. IsSalvageEnd end) e.salvaged.sound;
      };
      held_reads = held_before name (page_count old.size) old mid opens.honest pages_are IsKeptWhereFit
          (λ series. new.reads ≤ old.reads + 200 + window_pages series window)
          (λ series honest has. omega (arith, opens.reads.high, e.held_reads series honest has));
      few = few_then (page_count old.size) old mid new opens.few e.unwritten.0 e.unwritten.1;
      honest = λ h. e.honest (opens.honest h);
      goes_on = goes_then old mid new (opened_goes old mid opens) e.goes_on;
    } in
    subst S same_sends (subst B same all)
