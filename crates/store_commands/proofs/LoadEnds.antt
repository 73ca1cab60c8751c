-- How a load ends.
use Rattle.std.proofs.Common.{◌≡◌, ◌≢◌, ℕ, ◌*◌, ◌<◌, ◌≤◌, List, [], length, Option, Some, None, Result, Ok, Err, IfSome, refl, sym, ap}
use Rattle.std.proofs.Common.{subst, inl, arith, ◌∙◌}
use Rattle.block_disk.specs.Streams.{sent_after}
use Rattle.block_disk.specs.View.{Honest, Image, View, Now, DiskKept, Passes, sent_now}
use Rattle.block_disk.proofs.Passing.{now_back}
use Rattle.gate_pages.specs.GateLaws.{kept_told, goes_by, goes_then}
use Rattle.gate_pages.specs.GatePages.{IsReadable}
use Rattle.gate_pages.specs.Journal.{page_count, pages_of}
use Rattle.series_book.specs.declared.one_series.Series.{Series}
use Rattle.disk_store.specs.Held.{HoldsBook}
use Rattle.disk_store.specs.Openings.{Opens}
use Rattle.disk_store.specs.declared.causes.OpeningCause.{OpeningCause}
use Rattle.disk_store.specs.declared.causes.OpeningCause.TheVariants as opening
use Rattle.disk_store.proofs.Opened.{is_large}
use Rattle.stored_book.specs.Damage.{SaysNumbers}
use Rattle.stored_book.specs.Standing.{StandsForBook, book_pages, RecoversTo}
use Rattle.stored_book.proofs.CurrentLemmas.{book_current, book_keeps, recovers_new}
use Rattle.chart_service.specs.MomentLaws.{since_both, since_so}
use Rattle.chart_service.specs.Moments.{Since}
use Rattle.chart_service.proofs.DiskKept.{risen_since}
use Rattle.series_load.specs.Sets.{IsAfterSome}
use Rattle.series_load.specs.Ends.{CostsFirst, IsLoaded}
use Rattle.series_load.specs.Fronts.{PlacedLine}
use Rattle.series_load.specs.Rows.{AreTable}
use Rattle.series_load.specs.Runs.{AreFirst, nothing}
use Rattle.series_load.proofs.Joined.{told_nothing}
use Rattle.series_load.proofs.Knowing.{some_at_first}
use Rattle.chart_world.specs.LineLaws.{told_so}
use Rattle.run_ends.specs.declared.ending.End.{End}
use Rattle.run_ends.specs.declared.ending.End.TheVariants.{Done, NoMemory, ReadFault, SendFault, DiskFault, DamagedPage, BadInput}
use Rattle.run_ends.specs.declared.ending.End.TheVariants.{InputTooLong, UnknownSeries, Refused}
use Rattle.store_commands.specs.Books.{OfBook, IsOn, IsOnBook, HoldsPages, SendsPartOf}
use Rattle.store_commands.specs.Status.{opening_end}
use Rattle.store_commands.specs.Sending.{IsSent, SendsText}
use Rattle.store_commands.specs.Traffic.{Traffic, WasRead}
use Rattle.store_commands.specs.Unopened.{IsUnopenedEnd}
use Rattle.store_commands.proofs.Held.{held}
use Rattle.store_commands.proofs.InputLemmas.{any_told}
use Rattle.store_commands.proofs.LoadStored.{answered, err_same, failed}
use Rattle.store_commands.proofs.Moments.{since_opened, since_sent, opened_since, opened_goes, opened_quiet}
use Rattle.store_commands.proofs.SpendLemmas.{spends_behind, spends_opening, spends_sent}
use Rattle.store_commands.proofs.Unopened.{opening_known, outside_ends, unopened_end}
use Rattle.store_commands.proofs.WorldLemmas.{IsUnopened}
use Rattle.store_commands.specs.Lacking.{HasNoRecord, HasScale, LacksRecord, TellsScale}
use Rattle.store_commands.specs.Loaded.{OfSeries, LoadEnds, IsAheadLoad, IsAtLine, IsReadByRecord, TellsReadings, IsLoadEnd, LeavesLoads}
use Rattle.store_commands.specs.Loaded.{HoldsSome, LoadsFew, LoadsSome, loaded_text}
use Rattle.store_commands.specs.Storing.{StopsAt, IsEndCause, Stores}

-- ---- the store is opened first

module _ (name : List ℕ) (old mid new : View) (opens : Opens (page_count old.size) old mid) (same_faults : mid.faults ≡ old.faults)
    (pages : Honest old → book_pages (page_count old.size) mid.image ≡ book_pages (page_count old.size) old.image) where
  -- a name that its catalog lacks once the store is open
  lacks_on : LacksRecord (page_count old.size) mid name → LacksRecord (page_count old.size) old name
  lacks_on lacks = λ honest.
      let P : Image → Type 0 = λ image. HasNoRecord (page_count old.size) image name in
      subst P (pages honest) (lacks (opens.honest honest))

  -- the scale that it tells of a name, and the line by it
  scale_on : (scale : ℕ) → TellsScale (page_count old.size) mid name scale → TellsScale (page_count old.size) old name scale
  scale_on scale tells = λ honest.
      let P : Image → Type 0 = λ image. SaysNumbers (page_count old.size) image (λ s. HasScale image s name scale) in
      subst P (pages honest) (tells (opens.honest honest))

  line_on : (input : List ℕ) (end : End) → IsAtLine name (page_count old.size) mid input end
      → IsAtLine name (page_count old.size) old input end
  line_on input (BadInput at) is = record { scale = is.scale; tells = scale_on is.scale is.tells; line = is.line }
  line_on input end is = tt

  read_on : (input : List ℕ) (readings : ℕ) → IsReadByRecord (page_count old.size) mid name input readings
      → IsReadByRecord (page_count old.size) old name input readings
  read_on input readings is = record { scale = is.scale; tells = scale_on is.scale is.tells; read = is.read }

  of_series : (IsSo : ℕ → List Series → Series → Type 0) → OfSeries (page_count old.size) mid name IsSo
      → OfSeries (page_count old.size) old name IsSo
  of_series IsSo all = λ total book holds series named. all total book (held old mid opens total book holds) series named

  of_book : (IsSo : ℕ → List Series → Type 0) → OfBook (page_count old.size) mid IsSo → OfBook (page_count old.size) old IsSo
  of_book IsSo all = λ total book holds. all total book (held old mid opens total book holds)

  stops_on : (input : List ℕ) (left' : Option (List ℕ)) (end : End) → StopsAt name (page_count old.size) mid new input left' end
      → StopsAt name (page_count old.size) old new input left' end
  stops_on input left' ReadFault is = told_so _ _ left'
      (λ bytes all total book holds series named. all total book (held old mid opens total book holds) series named) is
  stops_on input left' (BadInput at) is = λ total book holds series named. is total book (held old mid opens total book holds) series named
  stops_on input left' InputTooLong is = λ total book holds series named. is total book (held old mid opens total book holds) series named
  stops_on input left' (Refused at number) is = λ total book holds series named. is total book
      (held old mid opens total book holds) series named
  stops_on input left' end is = tt

  cause_on : (end : End) (reads reads_now : ℕ) → IsEndCause end (page_count old.size) mid new reads reads_now
      → IsEndCause end (page_count old.size) old new reads reads_now
  cause_on DiskFault reads reads_now is = risen_since old.faults mid.faults new.faults same_faults is
  cause_on (DamagedPage page) reads reads_now is = (λ total book holds. is.0 total book (held old mid opens total book holds), is.1)
  cause_on end reads reads_now is = is

  abbrev Stays : View → ℕ → List Series → Type 0
  Stays from total book = HoldsBook (page_count old.size) total book new
      × Since from new (λ image sent. RecoversTo (page_count old.size) image total book)

  untouched_on : (answer : Result ℕ End) (left left' : Option (List ℕ))
      → (answer ≡ Err UnknownSeries → OfBook (page_count old.size) mid (Stays mid) × (left' ≡ left)) → answer ≡ Err UnknownSeries
      → OfBook (page_count old.size) old (Stays old) × (left' ≡ left)
  untouched_on answer left left' stays is =
      let so = stays is in (
        (λ total book holds.
            let later = so.0 total book (held old mid opens total book holds) in (
              later.0,
              since_both old mid new (λ image sent. RecoversTo (page_count old.size) image total book)
                  (opened_since old mid opens total book holds) later.1,
            )),
        so.1,
      )

  moments_on : (left : Option (List ℕ)) → OfSeries (page_count old.size) mid name
      (λ total book series. Since mid new (λ image sent. IsOnBook (page_count old.size) total
      (IsAfterSome total name book series left) image × (sent ≡ sent_now mid)))
      → OfSeries (page_count old.size) old name (λ total book series. Since old new
      (λ image sent. IsOnBook (page_count old.size) total (IsAfterSome total name book series left) image × (sent ≡ sent_now old)))
  moments_on left moments = λ total book holds series named.
      let Q : Image → Type 0 = IsOnBook (page_count old.size) total (IsAfterSome total name book series left) in
      let IsSo : Image → ℕ → Type 0 = λ image sent. Q image × (sent ≡ sent_now old) in
      since_both old mid new IsSo
      (since_opened IsSo old mid total book opens holds
      (λ image is. (
        record {
          readable = is.readable;
          within = is.within;
          old = is.old;
          so = some_at_first total name book series left (book_pages (page_count old.size) image) is.stands;
        },
        refl,
      )))
      (since_so mid new (λ image sent. Q image × (sent ≡ sent_now mid)) IsSo (λ image sent is. (is.0, is.1 ∙ opened_quiet old mid opens))
      (moments total book (held old mid opens total book holds) series named))

  stores_opened : (t : Traffic) (answer : Result ℕ End) → Stores name (page_count old.size) mid new t answer
      → Stores name (page_count old.size) old new t answer
  stores_opened t (Ok readings) s = record {
    done = told_so _ _ t.left (λ input all. of_series
        (λ total book series. HoldsPages (page_count old.size) total (IsLoaded total name book series input readings) new) all) s.done;
    within = s.within;
    long = s.long;
    some = λ other. of_series (λ total book series. HoldsPages (page_count old.size) total (IsAfterSome total name book series t.left) new)
        (s.some other);
    stops = tt;
    line = tt;
    read = told_so (λ input. IsReadByRecord (page_count old.size) mid name input readings)
        (λ input. IsReadByRecord (page_count old.size) old name input readings) t.left (λ input is. read_on input readings is) s.read;
    cause = tt;
    named = of_series (λ total book series. Ok readings ≢ Err UnknownSeries) s.named;
    unnamed = λ total book holds none. s.unnamed total book (held old mid opens total book holds) none;
    lacks = λ is. lacks_on (s.lacks is);
    untouched = λ is. untouched_on (Ok readings) t.left t.left_now s.untouched is;
    moments = moments_on t.left s.moments;
    quiet = λ total book holds. s.quiet total book (held old mid opens total book holds) ∙ opened_quiet old mid opens;
    sent_is = s.sent_is;
    sends_is = s.sends_is;
    faults = omega (arith, opens.faults, s.faults);
    honest = λ h. s.honest (opens.honest h);
    goes_on = goes_then old mid new (opened_goes old mid opens) s.goes_on;
  }
  stores_opened t (Err end) s = record {
    done = tt;
    within = tt;
    long = s.long;
    some = λ other. of_series (λ total book series. HoldsPages (page_count old.size) total (IsAfterSome total name book series t.left) new)
        (s.some other);
    stops = told_so _ _ t.left (λ input is. stops_on input t.left_now end is) s.stops;
    line = told_so (λ input. IsAtLine name (page_count old.size) mid input end)
        (λ input. IsAtLine name (page_count old.size) old input end) t.left (λ input is. line_on input end is) s.line;
    read = tt;
    cause = cause_on end t.reads t.reads_now s.cause;
    named = of_series (λ total book series. Err end ≢ Err UnknownSeries) s.named;
    unnamed = λ total book holds none. s.unnamed total book (held old mid opens total book holds) none;
    lacks = λ is. lacks_on (s.lacks is);
    untouched = λ is. untouched_on (Err end) t.left t.left_now s.untouched is;
    moments = moments_on t.left s.moments;
    quiet = λ total book holds. s.quiet total book (held old mid opens total book holds) ∙ opened_quiet old mid opens;
    sent_is = s.sent_is;
    sends_is = s.sends_is;
    faults = omega (arith, opens.faults, s.faults);
    honest = λ h. s.honest (opens.honest h);
    goes_on = goes_then old mid new (opened_goes old mid opens) s.goes_on;
  }

-- ---- the moments

ahead_by : (name : List ℕ) (count : ℕ) (old new : View) (left : Option (List ℕ))
    → OfSeries count old name (λ total book series. Since old new
    (λ image sent. IsOnBook count total (IsAfterSome total name book series left) image × (sent ≡ sent_now old)))
    → IfSome left (λ input. LeavesLoads name count input old new)
ahead_by name count old new None moments = tt
ahead_by name count old new (Some input) moments = λ total book holds series named.
    since_so old new (λ image sent. IsOnBook count total (IsAfterSome total name book series (Some input)) image
    × (sent ≡ sent_now old)) (IsAheadLoad count total name book series input (sent_now old))
    (λ image sent is. record {
      readable = is.0.readable;
      within = is.0.within;
      old = is.0.old;
      some = is.0.so;
      all = λ more. absurd (omega (arith, more, is.1));
    }) (moments total book holds series named)

some_held : (count total : ℕ) (name : List ℕ) (book : List Series) (series : Series) (input : List ℕ) (disk : View)
    → HoldsPages count total (IsAfterSome total name book series (Some input)) disk → HoldsSome count total name book series input disk
some_held count total name book series input disk p =
    let S : Image → Type 0 = λ pages. StandsForBook pages total p.on.so.after.new in
    record {
      runs = p.on.so.runs;
      first = p.on.so.first;
      new = p.on.so.after.new;
      loads = p.on.so.after.loads;
      holds = record {
        honest = p.honest;
        images = λ image left. let there = p.images image left in
            recovers_new count image total p.on.so.after.new there.0 p.on.within (subst S (sym there.1) p.on.so.after.stands);
      };
    }

some_told : (name : List ℕ) (count : ℕ) (old new : View) (left : Option (List ℕ))
    → OfSeries count old name (λ total book series. HoldsPages count total (IsAfterSome total name book series left) new)
    → IfSome left (λ input. LoadsSome name count old new input)
some_told name count old new None some = tt
some_told name count old new (Some input) some = λ total book holds series named. some_held count total name book series input new
    (some total book holds series named)

-- ---- no store was opened

opened_ahead : (name : List ℕ) (old new : View) (left : Option (List ℕ)) → Opens (page_count old.size) old new
    → IfSome left (λ input. LeavesLoads name (page_count old.size) input old new)
opened_ahead name old new None opens = tt
opened_ahead name old new (Some input) opens = λ total book holds series named.
    since_opened (IsAheadLoad (page_count old.size) total name book series input (sent_now old)) old new total book opens holds
    (λ image is. record {
      readable = is.readable;
      within = is.within;
      old = is.old;
      some = some_at_first total name book series (Some input) (book_pages (page_count old.size) image) is.stands;
      all = λ more. absurd (omega (arith, more));
    })

-- no runs are the first of any input
first_none : (scale step : ℕ) (input : List ℕ) → AreFirst scale step input []
first_none scale step input =
    let T : List PlacedLine → Type 0 = λ lines. AreTable scale lines [] in
    record {
      front = [];
      rest = input;
      early = omega arith;
      rows = [];
      reads = record { begins = record { split = refl; whole = inl (inl refl) }; table = subst T (sym told_nothing) (inl tt) };
      ended = inl (None, nothing);
    }

opened_some : (name : List ℕ) (old new : View) (left : Option (List ℕ)) → Opens (page_count old.size) old new
    → IfSome left (λ input. LoadsSome name (page_count old.size) old new input)
opened_some name old new None opens = tt
opened_some name old new (Some input) opens = λ total book holds series named. record {
  runs = [];
  first = first_none series.scale series.step input;
  new = book;
  loads = refl;
  holds = held old new opens total book holds;
}

pub small_never : (old : View) (total : ℕ) (book : List Series) → HoldsBook (page_count old.size) total book old → old.size < 128 → ⊥
small_never old total book holds small = omega (arith, small, is_large old.size total old.image book (holds.images old.image holds.honest))

-- no set was done
opened_costs : (name : List ℕ) (old new : View) (left : Option (List ℕ)) → Opens (page_count old.size) old new
    → IfSome left (LoadsFew name (page_count old.size) old new)
opened_costs name old new None opens = tt
opened_costs name old new (Some input) opens = λ total book holds series named.
    record {
      runs = [];
      first = first_none series.scale series.step input;
      spends = spends_opening (page_count old.size) 0 0 0 old new opens;
    }

pub unloaded : (name : List ℕ) (old new : View) (t : Traffic) (cause : OpeningCause) (end : End)
    → IsUnopened old new t.left t.left_now t.sent t.sent_now cause → end ≡ opening_end cause → LoadEnds name old new t end
unloaded name old new t cause end u same =
    let P : End → Type 0 = λ e. LoadEnds name old new t e in
    subst P (sym same) (record {
      is = by cause (unopened_end old new t.left t.left_now t.sent t.sent_now cause u).0;
      unnamed = λ total book holds none. outside_ends cause (u.outside total book holds);
      lacks = λ is. absurd (opening_known cause is);
      crash = opened_ahead name old new t.left u.opens;
      kept = λ total book holds none. opened_since old new u.opens total book holds;
      costs = opened_costs name old new t.left u.opens;
      line = any_told t.left (λ input. IsAtLine name (page_count old.size) old input (opening_end cause))
          (λ input. unopened_line input cause);
      read = any_told t.left (λ input. TellsReadings name (page_count old.size) old input t.sent t.sent_now (opening_end cause))
          (λ input. unopened_read input cause);
      honest = u.opens.honest;
      goes_on = opened_goes old new u.opens;
    })
  where
    by : (cause : OpeningCause) → IsUnopenedEnd (opening_end cause) old new → IsLoadEnd (opening_end cause) name old new t
    by opening.NoMemory is = (opened_some name old new t.left u.opens, u.sent_is)
    by opening.DiskFault is = (is, u.sent_is)
    by cause is = (is, u.left_is, u.sent_is)

    unopened_line : (input : List ℕ) (cause : OpeningCause) → IsAtLine name (page_count old.size) old input (opening_end cause)
    unopened_line input (opening.TooSmall size) = tt
    unopened_line input (opening.Damaged block) = tt
    unopened_line input opening.DiskFault = tt
    unopened_line input opening.NoMemory = tt

    unopened_read : (input : List ℕ) (cause : OpeningCause)
        → TellsReadings name (page_count old.size) old input t.sent t.sent_now (opening_end cause)
    unopened_read input (opening.TooSmall size) = tt
    unopened_read input (opening.Damaged block) = tt
    unopened_read input opening.DiskFault = tt
    unopened_read input opening.NoMemory = tt

-- ---- not all of the input was loaded

stopped : (name : List ℕ) (old new : View) (t : Traffic) (end : End) → Stores name (page_count old.size) old new t (Err end)
    → IsLoadEnd end name old new t
stopped name old new t NoMemory s = (some_told name (page_count old.size) old new t.left (s.some (λ is. cc)), s.sent_is)
stopped name old new t ReadFault s = (s.cause, s.stops, s.sent_is)
stopped name old new t DiskFault s = (s.cause, s.sent_is)
stopped name old new t (DamagedPage page) s = (s.cause.1, s.cause.0, s.sent_is)
stopped name old new t (BadInput at) s = (s.stops, s.sent_is)
stopped name old new t InputTooLong s = (s.long refl, s.stops, s.sent_is)
stopped name old new t UnknownSeries s =
    let stays = s.untouched refl in (
      (λ total book holds series named. s.named total book holds series named refl),
      (λ total book holds. (stays.0 total book holds).0),
      (λ total book holds. (stays.0 total book holds).1),
      stays.1,
      s.sent_is,
    )
stopped name old new t (Refused at number) s = (s.stops, s.sent_is)
stopped name old new t end s = absurd s.cause

-- then no number was told
stopped_read : (name : List ℕ) (count : ℕ) (disk new : View) (input : List ℕ) (before now : Option (List ℕ)) (reads reads_now : ℕ)
    (end : End)
    → IsEndCause end count disk new reads reads_now → TellsReadings name count disk input before now end
stopped_read name count disk new input before now reads reads_now Done cause = absurd cause
stopped_read name count disk new input before now reads reads_now SendFault cause = absurd cause
stopped_read name count disk new input before now reads reads_now end cause = tt

pub stopped_ends : (name : List ℕ) (old new : View) (t : Traffic) (end : End) → Stores name (page_count old.size) old new t (Err end)
    → IfSome t.left (LoadsFew name (page_count old.size) old new)
    → LoadEnds name old new t end
stopped_ends name old new t end s costs = record {
  costs = costs;
  line = s.line;
  read = any_told t.left (λ input. TellsReadings name (page_count old.size) old input t.sent t.sent_now end)
      (λ input. stopped_read name (page_count old.size) old new input t.sent t.sent_now t.reads t.reads_now end s.cause);
  is = stopped name old new t end s;
  unnamed = λ total book holds none. (2, omega arith, sym (err_same end UnknownSeries (s.unnamed total book holds none)));
  lacks = λ is. s.lacks (ap Err is);
  crash = ahead_by name (page_count old.size) old new t.left s.moments;
  kept = λ total book holds none. ((s.untouched (s.unnamed total book holds none)).0 total book holds).1;
  honest = s.honest;
  goes_on = s.goes_on;
}

-- ---- all of it was

-- what a disk holds it holds on while a text is sent
pages_kept : (count total : ℕ) (IsSo : Image → Type 0) (mid new : View) → DiskKept mid new
    → Passes mid new (Now mid) (λ sent. (sent_now mid ≤ sent) × (sent ≤ sent_now new)) → HoldsPages count total IsSo mid
    → HoldsPages count total IsSo new
pages_kept count total IsSo mid new kept time holds =
    let P : Image → Type 0 = λ i. IsOn count total IsSo i in
    let Q : Image → Image → Type 0 = λ i j. IsReadable count i × (pages_of count i ≡ pages_of count j) in
    record {
      honest = kept_told mid new kept holds.honest;
      on = subst P (sym kept.image) holds.on;
      images = λ image left. subst (Q image) (sym kept.image)
          (holds.images image (now_back mid new (λ sent. (sent_now mid ≤ sent) × (sent ≤ sent_now new)) time image left));
    }

sent_ahead : (name : List ℕ) (count : ℕ) (old mid new : View) (left : Option (List ℕ)) (readings : ℕ)
    → Passes mid new (Now mid) (λ sent. (sent_now mid ≤ sent) × (sent ≤ sent_now new))
    → OfBook count old (λ total book. sent_now mid ≡ sent_now old)
    → OfSeries count old name (λ total book series. Since old mid
    (λ image sent. IsOnBook count total (IsAfterSome total name book series left) image × (sent ≡ sent_now old)))
    → OfSeries count old name (λ total book series. HoldsPages count total (IsAfterSome total name book series left) mid)
    → IfSome left (λ input. OfSeries count old name
    (λ total book series. HoldsPages count total (IsLoaded total name book series input readings) mid))
    → IfSome left (λ input. LeavesLoads name count input old new)
sent_ahead name count old mid new None readings time quiet moments some done = tt
sent_ahead name count old mid new (Some input) readings time quiet moments some done = λ total book holds series named.
    let first = ahead_by name count old mid (Some input) moments total book holds series named in
    let after = some total book holds series named in
    let all = done total book holds series named in
    since_sent (IsAheadLoad count total name book series input (sent_now old)) old mid new time (quiet total book holds)
    (λ image sent left low.
    let there = after.images image left in
    let S : Image → Type 0 = λ pages. IsAfterSome total name book series (Some input) pages in
    let A : Image → Type 0 = λ pages. IsLoaded total name book series input readings pages in
    let B : Image → Type 0 = λ pages. StandsForBook pages total after.on.so.after.new in
    let stands = subst B (sym there.1) after.on.so.after.stands in
    let current = book_current (pages_of count image) total after.on.so.after.new stands in
    record {
      readable = there.0;
      within = after.on.within;
      old = book_keeps count image total after.on.so.after.new stands;
      some = subst S (sym (current ∙ there.1)) after.on.so;
      all = λ more. (readings, subst A (sym (current ∙ there.1)) all.on.so);
    })
    first

sent_costs : (name : List ℕ) (count : ℕ) (old mid new : View) (left : Option (List ℕ)) → DiskKept mid new
    → IfSome left (LoadsFew name count old mid) → IfSome left (LoadsFew name count old new)
sent_costs name count old mid new None kept costs = tt
sent_costs name count old mid new (Some input) kept costs = λ total book holds series named.
    let c = costs total book holds series named in
    record {
      runs = c.runs;
      first = c.first;
      spends = spends_sent count (96 * length c.runs) (4 * length c.runs)
          (131 * length c.runs) old mid new kept c.spends;
    }

-- what passed through the streams, and then more
abbrev further : Traffic → Option (List ℕ) → Option (List ℕ) → ℕ → ℕ → Traffic
further t left' now reads_now sends_now = record {
  left = t.left;
  left_now = left';
  sent = t.sent;
  sent_now = now;
  reads = t.reads;
  reads_now = reads_now;
  sends = t.sends;
  sends_now = sends_now;
}

module _ (name : List ℕ) (old mid new : View) (t : Traffic) (readings : ℕ) (s : Stores name (page_count old.size) old mid t (Ok readings))
    (kept : DiskKept mid new) (time : Passes mid new (Now mid) (λ sent. (sent_now mid ≤ sent) × (sent ≤ sent_now new))) where
  -- the disk still holds what was loaded
  still_loaded : (Q : ℕ → Type 0) → Q readings → IfSome t.left (λ input. OfSeries (page_count old.size) old name (λ total book series.
      (n : ℕ) × HoldsPages (page_count old.size) total (IsLoaded total name book series input n) new × Q n))
  still_loaded Q is = told_so _ _ t.left (λ input all total book holds series named. (
    readings,
    pages_kept (page_count old.size) total (IsLoaded total name book series input readings) mid new kept time
        (all total book holds series named),
    is,
  )) s.done

  text_sent : (left' now : Option (List ℕ)) (reads_now sends_now : ℕ) (end : End) → left' ≡ t.left_now
      → IsSent end (loaded_text readings) t.sent now t.sends sends_now
      → IsLoadEnd end name old new (further t left' now reads_now sends_now)
  text_sent left' now reads_now sends_now Done same is =
      let R : Option (List ℕ) → Type 0 = λ l. WasRead t.left l in
      (subst R (sym same) s.within, still_loaded (λ n. now ≡ sent_after (loaded_text n) t.sent) is)
  text_sent left' now reads_now sends_now NoMemory same is = (
    some_told name (page_count old.size) old new t.left (λ total book holds series named.
        pages_kept (page_count old.size) total (IsAfterSome total name book series t.left) mid new kept time
        (s.some (λ same. cc) total book holds series named)),
    is,
  )
  text_sent left' now reads_now sends_now SendFault same is = (is.0, still_loaded (λ n. SendsPartOf (loaded_text n) t.sent now) is.1)
  text_sent left' now reads_now sends_now end same is = absurd is

-- where a text was sent no line is bad
sent_line : (name : List ℕ) (count : ℕ) (disk : View) (text : List ℕ) (before now : Option (List ℕ)) (sends sends_now : ℕ) (input : List ℕ)
    (end : End)
    → IsSent end text before now sends sends_now → IsAtLine name count disk input end
sent_line name count disk text before now sends sends_now input (BadInput at) is = absurd is
sent_line name count disk text before now sends sends_now input end is = tt

-- the number of the readings was sent, or a part of it
sent_read : (name : List ℕ) (count : ℕ) (disk : View) (readings : ℕ) (before now : Option (List ℕ)) (sends sends_now : ℕ) (input : List ℕ)
    (end : End)
    → IsSent end (loaded_text readings) before now sends sends_now → IsReadByRecord count disk name input readings
    → TellsReadings name count disk input before now end
sent_read name count disk readings before now sends sends_now input Done is read = (readings, read, is)
sent_read name count disk readings before now sends sends_now input SendFault is read = (readings, read, is.1)
sent_read name count disk readings before now sends sends_now input end is read = tt

never_unknown : (readings : ℕ) → answered readings ≡ failed UnknownSeries → ⊥
never_unknown readings same = cc

pub sent_ends : (name : List ℕ) (old mid new : View) (t : Traffic) (left' now : Option (List ℕ)) (reads_now sends_now readings : ℕ)
    (end : End) → left' ≡ t.left_now → Stores name (page_count old.size) old mid t (Ok readings)
    → SendsText (loaded_text readings) mid new t.sent_now now t.sends_now sends_now end
    → IfSome t.left (LoadsFew name (page_count old.size) old mid) → LoadEnds name old new (further t left' now reads_now sends_now) end
sent_ends name old mid new t left' now reads_now sends_now readings end same s text costs =
    let B : Option (List ℕ) → Type 0 = λ b. SendsText (loaded_text readings) mid new b now t.sends_now sends_now end in
    let C : ℕ → Type 0 = λ n. SendsText (loaded_text readings) mid new t.sent now n sends_now end in
    let x = subst C s.sends_is (subst B s.sent_is text) in
    record {
      is = text_sent name old mid new t readings s x.kept x.time left' now reads_now sends_now end same x.is;
      unnamed = λ total book holds none. absurd (never_unknown readings (s.unnamed total book holds none));
      lacks = λ is.
          let S : End → Type 0 = λ e. IsSent e (loaded_text readings) t.sent now t.sends sends_now in
          absurd (subst S is x.is);
      crash = sent_ahead name (page_count old.size) old mid new t.left readings x.time s.quiet s.moments (s.some (λ same. cc)) s.done;
      kept = λ total book holds none. absurd (never_unknown readings (s.unnamed total book holds none));
      costs = sent_costs name (page_count old.size) old mid new t.left x.kept costs;
      line = any_told t.left (λ input. IsAtLine name (page_count old.size) old input end)
          (λ input. sent_line name (page_count old.size) old (loaded_text readings) t.sent now t.sends sends_now input end x.is);
      read = told_so (λ input. IsReadByRecord (page_count old.size) old name input readings)
          (λ input. TellsReadings name (page_count old.size) old input t.sent now end) t.left
          (λ input is. sent_read name (page_count old.size) old readings t.sent now t.sends sends_now input end x.is is) s.read;
      honest = λ h. kept_told mid new x.kept (s.honest h);
      goes_on = goes_then old mid new s.goes_on (goes_by mid new (Now mid) (λ sent. (sent_now mid ≤ sent) × (sent ≤ sent_now new)) x.time);
    }

-- ---- as the calls give it

pub costs_on : (name : List ℕ) (count : ℕ) (old start new : View) (left left' : Option (List ℕ)) → count ≡ page_count old.size
    → Opens (page_count old.size) old start → left' ≡ left
    → OfSeries count start name (λ total book series. CostsFirst series left' start new)
    → IfSome left (LoadsFew name (page_count old.size) old new)
costs_on name count old start new left left' counted opens same costs =
    let C : ℕ → Type 0 = λ n. OfSeries n start name (λ total book series. CostsFirst series left' start new) in
    let L : Option (List ℕ) → Type 0 = λ l. OfSeries (page_count old.size) start name
    (λ total book series. CostsFirst series l start new) in
    by left (subst L same (subst C counted costs))
  where
    by : (l : Option (List ℕ)) → OfSeries (page_count old.size) start name (λ total book series. CostsFirst series l start new)
        → IfSome l (LoadsFew name (page_count old.size) old new)
    by None costs = tt
    by (Some input) costs = λ total book holds series named.
        let c = costs total book (held old start opens total book holds) series named in
        record {
          runs = c.runs;
          first = c.first;
          spends = spends_behind (page_count old.size) (96 * length c.runs) (4 * length c.runs)
              (131 * length c.runs) old start new opens c.costs.reads c.costs.syncs c.costs.writes;
        }

pub stores_on : (name : List ℕ) (count : ℕ) (old start new : View) (t t' : Traffic) (answer told : Result ℕ End)
    → count ≡ page_count old.size → answer ≡ told → Opens (page_count old.size) old start → start.faults ≡ old.faults
    → (Honest old → book_pages count start.image ≡ book_pages count old.image) → t' ≡ t
    → Stores name count start new t' answer → Stores name (page_count old.size) old new t told
stores_on name count old start new t t' answer told counted is opens same_faults pages same s =
    let G : ℕ → Type 0 = λ n. Honest old → book_pages n start.image ≡ book_pages n old.image in
    let C : ℕ → Type 0 = λ n. Stores name n start new t' answer in
    let R : Result ℕ End → Type 0 = λ r. Stores name (page_count old.size) start new t' r in
    let T : Traffic → Type 0 = λ x. Stores name (page_count old.size) start new x told in
    stores_opened name old start new opens same_faults (subst G counted pages) t told (subst T same (subst R is (subst C counted s)))
