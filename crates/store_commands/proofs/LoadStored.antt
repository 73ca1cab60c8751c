-- What a load does over a store on a disk, in the words of the disk.
use Rattle.std.proofs.Common.{◌≡◌, ◌≢◌, ◌↔◌, ℕ, ◌≤◌, ◌<◌, ◌⊎◌, pos, Bool, List, [], length, Option, Some, None, Result, Ok, Err, IfSome}
use Rattle.std.proofs.Common.{refl, sym, ap, subst, inl, inr, arith, ◌∙◌}
use Rattle.std.specs.Prelude.{IfErr, IfOk, OnOk, bytes_eq}
use Rattle.std.proofs.lemmas.List.Quantifiers.{position-Some}
use Rattle.block_disk.specs.View.{Image, View, Honest, Passes, sent_now}
use Rattle.gate_pages.specs.GatePages.{IsClosed, pages_view}
use Rattle.gate_pages.specs.Journal.{pages_of}
use Rattle.gate_pages.specs.Pages.{GoesOn, Quiet}
use Rattle.series_book.specs.declared.one_series.Series.{Series}
use Rattle.series_book.specs.Edits.{id_of}
use Rattle.empty_store.proofs.DisksMade.{sent_so}
use Rattle.disk_store.specs.Held.{HoldsBook}
use Rattle.stored_book.specs.Damage.{IsBadForEdit}
use Rattle.stored_book.specs.Standing.{StandsForBook, book_pages, RecoversTo}
use Rattle.stored_book.proofs.CurrentLemmas.{spelled_current}
use Rattle.chart_service.specs.MomentLaws.{since_none}
use Rattle.chart_service.specs.Moments.{Since}
use Rattle.series_load.specs.Sets.{IsNamed, IsAfterSome, OfRefusal}
use Rattle.series_load.specs.Ends.{CostsFirst, IsLoaded, IsAtBad, IsAtRefusal, IsTaken, IsPast, IsLoadCause, KeepsSome, EndsLoad, Outcome}
use Rattle.run_ends.specs.Statuses.{block_of}
use Rattle.run_ends.specs.declared.ending.End.{End}
use Rattle.run_ends.specs.declared.ending.End.TheVariants.{NoMemory, ReadFault, DiskFault, DamagedPage, BadInput, InputTooLong}
use Rattle.run_ends.specs.declared.ending.End.TheVariants.{UnknownSeries, Refused}
use Rattle.series_load.specs.Steps.{IsSoundFor}
use Rattle.series_load.proofs.Knowing.{some_at_first}
use Rattle.series_store.proofs.BookCountLemmas.{some_at}
use Rattle.store_commands.specs.Damaged.{IsDamagedLater}
use Rattle.store_commands.specs.Books.{OfBook, Never, IsOnBook, HoldsPages}
use Rattle.store_commands.proofs.Held.{RestsNew, stands_held, within_held, holds_pages}
use Rattle.store_commands.proofs.Moments.{since_worked, on_book}
use Rattle.store_commands.specs.Lacking.{LacksRecord}
use Rattle.store_commands.specs.Loaded.{IsAtLine, IsReadByRecord, OfSeries, RefusesRun, Unnamed}
use Rattle.store_commands.specs.Storing.{StopsAt, IsEndCause, Stores}
use Rattle.store_commands.specs.Traffic.{IsLong, Traffic, WasRead}

-- ---- a name is a series' or none's

abbrev some_series : Series
some_series = record { name = []; start = pos 0; step = 1; scale = 0; slots = [] }

id_within : (name : List ℕ) (book : List Series) (id : ℕ) → id_of name book ≡ Some id → id < length book
unfolding id_of
id_within name book id is = (position-Some (λ (series : Series). bytes_eq series.name name) book id some_series is).0

named_by : (name : List ℕ) (book : List Series) (o : Option ℕ) → id_of name book ≡ o
    → (id_of name book ≡ None) ⊎ ((series : Series) × IsNamed book name series)
named_by name book None is = inl is
named_by name book (Some id) is =
    let it = some_at book id (id_within name book id is) in
    inr (it.0, record { id = id; id_is = is; there = it.1 })

pub named_or : (name : List ℕ) (book : List Series) → (id_of name book ≡ None) ⊎ ((series : Series) × IsNamed book name series)
named_or name book = named_by name book (id_of name book) refl

-- ---- what a load leaves of the disk

some_of : (total : ℕ) (name : List ℕ) (book : List Series) (series : Series) (left : Option (List ℕ)) (image : Image) (e : End)
    → e ≢ DiskFault → KeepsSome total name book series left image e → IsAfterSome total name book series left image
some_of total name book series left image NoMemory other keeps = keeps
some_of total name book series left image ReadFault other keeps = keeps
some_of total name book series left image DiskFault other keeps = absurd (other refl)
some_of total name book series left image (BadInput at) other keeps = keeps
some_of total name book series left image InputTooLong other keeps = keeps
some_of total name book series left image (Refused at number) other keeps = keeps
some_of total name book series left image end other keeps = absurd keeps

abbrev pub failed : End → Result ℕ End
failed e = Err e

abbrev pub answered : ℕ → Result ℕ End
answered readings = Ok readings

pub err_same : (e f : End) → failed e ≡ failed f → e ≡ f
err_same e f same = cc

module _ (name : List ℕ) (count count' : ℕ) (sound sound' : Bool) (old new : View) (t : Traffic) (same : count' ≡ count) (told : Honest old
    → Honest new) (goes : GoesOn old new) (rests : RestsNew count old) where
  -- this is so where the pages stand for a book with the series
  abbrev pub OfPages : (ℕ → List Series → Series → Type 0) → Type 0
  OfPages IsSo = (total : ℕ) (book : List Series) (series : Series) → Honest old → StandsForBook (pages_of count old.image) total book
      → IsNamed book name series → IsSo total book series

  abbrev pub Comes : Result ℕ End → Type 0
  Comes answer = OfPages (λ total book series. Outcome total name book series t.left t.left_now answer (pages_view count sound old)
      (pages_view count' sound' new))

  abbrev pub Finds : Result ℕ End → Type 0
  Finds answer = (total : ℕ) (book : List Series) → Honest old → StandsForBook (pages_of count old.image) total book
      → (answer ≡ Err UnknownSeries) ↔ (id_of name book ≡ None)

  of_pages : (IsSo : ℕ → List Series → Series → Type 0) → OfPages IsSo → OfSeries count old name IsSo
  of_pages IsSo all = λ total book holds series named. all total book series holds.honest
      (stands_held count total book old rests holds) named

  pages_so : (total : ℕ) (book : List Series) (IsSo : Image → Type 0) → HoldsBook count total book old → IsClosed new
      → IsSo (pages_of count' new.image) → HoldsPages count total IsSo new
  pages_so total book IsSo holds closed so =
      let P : ℕ → Type 0 = λ c. IsSo (pages_of c new.image) in
      holds_pages count total IsSo new closed (told holds.honest) (within_held count total book old holds) (subst P same so)

  abbrev pub Passed : ℕ → List Series → Series → Type 0
  Passed total book series = Passes (pages_view count sound old) (pages_view count' sound' new) (IsAfterSome total name book series t.left)
      (Quiet (pages_view count sound old))

  passed : (answer : Result ℕ End) (total : ℕ) (book : List Series) (series : Series)
      → Outcome total name book series t.left t.left_now answer (pages_view count sound old) (pages_view count' sound' new)
      → Passed total book series
  passed (Ok readings) total book series comes = comes.moments
  passed (Err e) total book series comes = comes.moments

  moments_by : (answer : Result ℕ End) → Comes answer
      → OfSeries count old name (λ total book series. Since old new
      (λ image sent. IsOnBook count total (IsAfterSome total name book series t.left) image × (sent ≡ sent_now old)))
  moments_by answer comes = λ total book holds series named.
      let Q : Image → Type 0 = IsAfterSome total name book series t.left in
      let IsSo : Image → ℕ → Type 0 = λ image sent. IsOnBook count total Q image × (sent ≡ sent_now old) in
      let within = within_held count total book old holds in
      since_worked IsSo count count' total sound sound' old old new Q (λ pages is. is.after.new) same within (λ pages is. is.after.stands)
      (passed answer total book series (of_pages (λ total book series. Outcome total name book series t.left t.left_now answer
      (pages_view count sound old) (pages_view count' sound' new)) comes total book holds series named)) goes refl
      (λ image on. (on_book count total Q on.so.after.new image on.so.after.stands on, refl))
      (since_none old IsSo (λ image left_so.
      let is = holds.images image left_so in (
        record {
          readable = is.readable;
          within = within;
          old = is.old;
          so = some_at_first total name book series t.left (book_pages count image) is.stands;
        },
        refl,
      )))

  on_disk : (series : Series) → CostsFirst series t.left (pages_view count sound old) (pages_view count' sound' new)
      → CostsFirst series t.left old new
  on_disk series c = record {
    runs = c.runs;
    first = c.first;
    costs = record { reads = c.costs.reads; syncs = c.costs.syncs; writes = c.costs.writes };
  }

  cost_of : (answer : Result ℕ End) (total : ℕ) (book : List Series) (series : Series)
      → Outcome total name book series t.left t.left_now answer (pages_view count sound old) (pages_view count' sound' new)
      → CostsFirst series t.left old new
  cost_of (Ok readings) total book series comes = on_disk series comes.costs
  cost_of (Err e) total book series comes = on_disk series comes.costs

  pub costs_by : (answer : Result ℕ End) → Comes answer → OfSeries count old name (λ total book series. CostsFirst series t.left old new)
  costs_by answer comes = λ total book holds series named.
      cost_of answer total book series (of_pages (λ total book series. Outcome total name book series t.left t.left_now answer
      (pages_view count sound old) (pages_view count' sound' new)) comes total book holds series named)

  quiet_by : (answer : Result ℕ End) → Comes answer → Finds answer → (answer ≡ Err UnknownSeries → new ≡ old)
      → OfBook count old (λ total book. sent_now new ≡ sent_now old)
  quiet_by answer comes finds stays = λ total book holds. elim (named_or name book) [
    | inl none ↦ ap (λ (v : View). sent_now v) (stays
        ((finds total book holds.honest (stands_held count total book old rests holds)).1 none))
    | inr named ↦
        sent_so (pages_view count sound old) (pages_view count' sound' new) (IsAfterSome total name book named.0 t.left)
        (passed answer total book named.0 (comes total book named.0 holds.honest (stands_held count total book old rests holds) named.1))
        new.clock goes.later (omega arith)
  ]

  some_by : (answer : Result ℕ End) → Comes answer → answer ≢ Err DiskFault → IsClosed new
      → OfSeries count old name (λ total book series. HoldsPages count total (IsAfterSome total name book series t.left) new)
  some_by (Ok readings) comes other closed = λ total book holds series named.
      pages_so total book (IsAfterSome total name book series t.left) holds closed
      (comes total book series holds.honest (stands_held count total book old rests holds) named).some
  some_by (Err e) comes other closed = λ total book holds series named.
      pages_so total book (IsAfterSome total name book series t.left) holds closed
      (some_of total name book series t.left (pages_of count' new.image) e (λ is. other (ap Err is))
      (comes total book series holds.honest (stands_held count total book old rests holds) named).some)

  -- ---- by the answer

  done_by : (input : Option (List ℕ)) (readings : ℕ)
      → ((total : ℕ) (book : List Series) (series : Series) → Honest old → StandsForBook (pages_of count old.image) total book
      → IsNamed book name series → IfSome input (λ bytes. IsLoaded total name book series bytes readings (pages_of count' new.image)))
      → IsClosed new
      → IfSome input (λ bytes. OfSeries count old name
      (λ total book series. HoldsPages count total (IsLoaded total name book series bytes readings) new))
  done_by None readings all closed = tt
  done_by (Some bytes) readings all closed = λ total book holds series named.
      pages_so total book (IsLoaded total name book series bytes readings) holds closed
      (all total book series holds.honest (stands_held count total book old rests holds) named)

  taken_by : (bytes : List ℕ) (rest : Option (List ℕ))
      → ((total : ℕ) (book : List Series) (series : Series) → Honest old → StandsForBook (pages_of count old.image) total book
      → IsNamed book name series → IfSome rest (λ r. IsTaken total name book series bytes r (pages_of count' new.image))) → IsClosed new
      → IfSome rest (λ r. OfSeries count old name (λ total book series. HoldsPages count total
      (IsTaken total name book series bytes r) new))
  taken_by bytes None all closed = tt
  taken_by bytes (Some r) all closed = λ total book holds series named.
      pages_so total book (IsTaken total name book series bytes r) holds closed
      (all total book series holds.honest (stands_held count total book old rests holds) named)

  refused_by : (input : Option (List ℕ)) (at number : ℕ)
      → ((total : ℕ) (book : List Series) (series : Series) → Honest old → StandsForBook (pages_of count old.image) total book
      → IsNamed book name series → IfSome input (λ bytes. OfRefusal number
      (λ refusal. IsAtRefusal total name book series bytes at refusal (pages_of count' new.image))))
      → IsClosed new → IfSome input (λ bytes. RefusesRun name count old new bytes at number)
  refused_by None at number all closed = tt
  refused_by (Some bytes) at number all closed = λ total book holds series named.
      let is = all total book series holds.honest (stands_held count total book old rests holds) named in
      record {
        refusal = is.refusal;
        number_is = is.number_is;
        so = pages_so total book (IsAtRefusal total name book series bytes at is.refusal) holds closed is.so;
      }

  stops_by : (input : Option (List ℕ)) (e : End) → ((total : ℕ) (book : List Series) (series : Series) → Honest old
      → StandsForBook (pages_of count old.image) total book → IsNamed book name series
      → IfSome input (λ bytes. EndsLoad total name book series bytes t.left_now (pages_of count' new.image) e))
      → (e ≢ DiskFault → IsClosed new)
      → IfSome input (λ bytes. StopsAt name count old new bytes t.left_now e)
  stops_by None e all closed = tt
  stops_by (Some bytes) ReadFault all closed = taken_by bytes t.left_now
      (λ total book series honest stands named. all total book series honest stands named) (closed (λ is. cc))
  stops_by (Some bytes) (BadInput at) all closed = λ total book holds series named.
      pages_so total book (IsAtBad total name book series bytes at) holds (closed (λ is. cc))
      (all total book series holds.honest (stands_held count total book old rests holds) named)
  stops_by (Some bytes) InputTooLong all closed = λ total book holds series named.
      pages_so total book (IsPast total name book series bytes) holds (closed (λ is. cc))
      (all total book series holds.honest (stands_held count total book old rests holds) named)
  stops_by (Some bytes) (Refused at number) all closed = refused_by (Some bytes) at number all (closed (λ is. cc))
  stops_by (Some bytes) end all closed = tt

  damaged_by : (page : ℕ) → Comes (Err (DamagedPage page)) → Finds (Err (DamagedPage page)) → Never count old
  damaged_by page comes finds = λ total book holds. elim (named_or name book) [
    | inl none ↦ let is = err_same (DamagedPage page) UnknownSeries
        ((finds total book holds.honest (stands_held count total book old rests holds)).1 none) in cc
    | inr named ↦ (comes total book named.0 holds.honest (stands_held count total book old rests holds) named.1).some
  ]

  bad_by : (page total : ℕ) → total ≤ count' → (page < total) × (Honest new → IsBadForEdit count' (pages_of count' new.image) page)
      → IsDamagedLater IsBadForEdit count new (block_of page)
  bad_by page total few is =
      let C : ℕ → Type 0 = λ n. IsBadForEdit n (pages_of n new.image) page in
      let D : Image → Type 0 = λ i. IsBadForEdit count i page in
      record {
        page = page;
        place_is = refl;
        within = omega (arith, is.0, few, same);
        bad = λ honest. let bad = subst C same (is.1 honest) in
            subst D (sym (spelled_current (pages_of count new.image) bad.numbers bad.keeps.spelled)) bad;
      }

  cause_by : (e : End) (total reads reads_now : ℕ) → total ≤ count'
      → IsLoadCause e (Honest new) total (pages_view count sound old) (pages_view count' sound' new) reads reads_now → Comes (Err e)
      → Finds (Err e) → IsEndCause e count old new reads reads_now
  cause_by (DamagedPage page) total reads reads_now few is comes finds = (damaged_by page comes finds, bad_by page total few is)
  cause_by end total reads reads_now few is comes finds = is

  named_by_load : (answer : Result ℕ End) → Finds answer → OfSeries count old name (λ total book series. answer ≢ Err UnknownSeries)
  named_by_load answer finds = λ total book holds series named is.
      let none = (finds total book holds.honest (stands_held count total book old rests holds)).0 is in
      let both : Some named.id ≡ None = sym named.id_is ∙ none in
      cc

  unnamed_by_load : (answer : Result ℕ End) → Finds answer → Unnamed count old name (λ total book. answer ≡ Err UnknownSeries)
  unnamed_by_load answer finds = λ total book holds none.
      (finds total book holds.honest (stands_held count total book old rests holds)).1 none

  abbrev Stays : ℕ → List Series → Type 0
  Stays total book = HoldsBook count total book new × Since old new (λ image sent. RecoversTo count image total book)

  untouched_by : (answer : Result ℕ End) → (answer ≡ Err UnknownSeries → (new ≡ old) × (t.left_now ≡ t.left)) → answer ≡ Err UnknownSeries
      → OfBook count old Stays × (t.left_now ≡ t.left)
  untouched_by answer stays is =
      let so = stays is in (
        (λ total book holds.
            let P : View → Type 0 = λ v. HoldsBook count total book v × Since old v (λ image sent. RecoversTo count image total book) in
            subst P (sym so.0) (holds, since_none old (λ image sent. RecoversTo count image total book) holds.images)),
        so.1,
      )

  pub stores_by : (answer : Result ℕ End) (total_now : ℕ) → Comes answer → Finds answer
      → (answer ≡ Err UnknownSeries → LacksRecord count old name)
      → IfErr answer (λ e. IfSome t.left (λ input. IsAtLine name count old input e))
      → IfOk answer (λ readings. IfSome t.left (λ input. IsReadByRecord count old name input readings))
      → OnOk answer (WasRead t.left t.left_now) → (answer ≡ Err InputTooLong → IsLong t.left) → total_now ≤ count'
      → IfErr answer (λ e. IsLoadCause e (Honest new) total_now (pages_view count sound old)
      (pages_view count' sound' new) t.reads t.reads_now)
      → (answer ≢ Err DiskFault → IsClosed new) → (answer ≡ Err UnknownSeries → (new ≡ old) × (t.left_now ≡ t.left)) → t.sent_now ≡ t.sent
      → t.sends_now ≡ t.sends → old.faults ≤ new.faults → Stores name count old new t answer
  stores_by (Ok readings) total_now comes finds lacks line read within long few cause closed stays sent_is sends_is faults = record {
    done = done_by t.left readings (λ total book series honest stands named. (comes total book series honest stands named).done)
        (closed (λ is. cc));
    within = within;
    long = long;
    some = λ other. some_by (Ok readings) comes other (closed other);
    stops = tt;
    cause = tt;
    named = named_by_load (Ok readings) finds;
    unnamed = unnamed_by_load (Ok readings) finds;
    lacks = lacks;
    line = tt;
    read = read;
    untouched = untouched_by (Ok readings) stays;
    moments = moments_by (Ok readings) comes;
    quiet = quiet_by (Ok readings) comes finds (λ is. (stays is).0);
    sent_is = sent_is;
    sends_is = sends_is;
    faults = faults;
    honest = told;
    goes_on = goes;
  }
  stores_by (Err e) total_now comes finds lacks line read within long few cause closed stays sent_is sends_is faults = record {
    done = tt;
    within = tt;
    long = long;
    some = λ other. some_by (Err e) comes other (closed other);
    stops = stops_by t.left e (λ total book series honest stands named. (comes total book series honest stands named).ends)
        (λ other. closed (λ is. other (err_same e DiskFault is)));
    cause = cause_by e total_now t.reads t.reads_now few cause comes finds;
    named = named_by_load (Err e) finds;
    unnamed = unnamed_by_load (Err e) finds;
    lacks = lacks;
    line = line;
    read = tt;
    untouched = untouched_by (Err e) stays;
    moments = moments_by (Err e) comes;
    quiet = quiet_by (Err e) comes finds (λ is. (stays is).0);
    sent_is = sent_is;
    sends_is = sends_is;
    faults = faults;
    honest = told;
    goes_on = goes;
  }

-- unless a call of the disk failed, the pages are sound
pub sound_after : (answer : Result ℕ End) (view : View) → OnOk answer view.fit → IfErr answer (λ e. IsSoundFor e view)
    → answer ≢ Err DiskFault → view.fit
sound_after (Ok readings) view sound sound_for other = sound
sound_after (Err DiskFault) view sound sound_for other = absurd (other refl)
sound_after (Err end) view sound sound_for other = sound_for
