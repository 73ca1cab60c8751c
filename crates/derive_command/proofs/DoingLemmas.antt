-- A request is answered, and a line; and what calls move.
use Rattle.std.proofs.Common.{◌≡◌, ◌∙◌, ◌⊎◌, ℕ, ℤ, ◌<◌, ◌≤◌, List, [], ◌∷◌, length, Option, None, Some, Result, Ok, Err, refl, ap, sym}
use Rattle.std.proofs.Common.{subst, arith, inl, inr}
use Rattle.std.specs.Prelude.{OnOk, IfErr, IsTrue, ⊤}
use Rattle.block_disk.specs.SentLaws.{sent_none}
use Rattle.block_disk.specs.Counts.{HasRisen}
use Rattle.block_disk.specs.Streams.{sent_after, PartSent}
use Rattle.block_disk.specs.View.{Beside, Image, View, DiskKept, Now, Passes, sent_now}
use Rattle.chart_world.specs.Fronts.{says}
use Rattle.gate_pages.specs.Pages.{GoesOn}
use Rattle.line_raster.specs.Canvas.{Canvas}
use Rattle.page_space.specs.declared.superblock.Superblock.{Superblock}
use Rattle.pbm_writer.specs.Picture.{picture}
use Rattle.plain_chart.specs.declared.value_range.ValueRange.{ValueRange}
use Rattle.retention.specs.Moving.{Looks}
use Rattle.run_ends.specs.declared.ending.End.{End}
use Rattle.run_ends.specs.Faults.{end_fault}
use Rattle.run_ends.specs.declared.ending.End.TheVariants.{NoMemory, SendFault, DiskFault, DamagedPage, BadInput, RefusedLine}
use Rattle.series_book.specs.declared.one_series.Series.{Series}
use Rattle.series_catalog.specs.Catalogs.{AreAsTold}
use Rattle.series_catalog.specs.declared.stored_series.StoredSeries.{StoredSeries}
use Rattle.series_catalog.specs.declared.catalog.Catalog.{Catalog}
use Rattle.series_pair.specs.Damage.{IsBadForPair}
use Rattle.series_pair.specs.DamageLaws.{chart_bad}
use Rattle.series_pair.specs.Derived.{HasLargeSum, IsChartAnswer, IsChartCause, IsDerivedChart, sum_fault}
use Rattle.series_pair.specs.declared.sum_error.SumError.{SumError}
use Rattle.series_pair.specs.declared.sum_error.SumError.TheVariants as sum
use Rattle.chart_grid.specs.Projection.{HasCanvas}
use Rattle.series_store.proofs.NameLemmas.{named_record}
use Rattle.stored_book.specs.Records.{entry}
use Rattle.chart_world.specs.Faults.{CountsFault}
use Rattle.store_commands.specs.Sides.{Side, AreBeside}
use Rattle.derive_command.specs.Answers.{Answering, AreOnOneGrid, HasLarge, IsAnswer, by_book}
use Rattle.derive_command.specs.Catalogs.{AreOnGrid, HasTwoIn, IsBadOf, IsDrawable, IsPicture, by_memory}
use Rattle.derive_command.specs.Doing.{DoesLine, DoesRequest, Goes, IsAsked, IsAskedIn, IsCause, LineStops, RequestStops, TextStops, end_at}
use Rattle.derive_command.specs.Doing.{refused_at}
use Rattle.derive_command.specs.Requests.{Spells, SaysNone}
use Rattle.derive_command.specs.WorkLaws.{cause_later, quiet_between}
use Rattle.derive_command.specs.declared.asked.Asked.{Asked}
use Rattle.derive_command.specs.declared.derive_refusal.DeriveRefusal.{DeriveRefusal}
use Rattle.derive_command.specs.declared.derive_refusal.DeriveRefusal.TheVariants as refusal
use Rattle.derive_command.specs.declared.request.Request.{Request}

-- ---- a request

-- what stands against it where there is no chart
abbrev pub IsUndrawn : Answering → Request → SumError → Type 0
IsUndrawn by r (sum.TooLarge time) = by.refuses r refusal.TooLarge
IsUndrawn by r sum.DiskFault = ⊤
IsUndrawn by r (sum.Damaged page) = by.damages r page
IsUndrawn by r sum.NoMemory = ⊤

module _ (book : List Series) (r : Request) (asked : Asked) (is : IsAsked book r asked) where
  abbrev series_of : AreOnOneGrid book r
  series_of = record { x = asked.x; y = asked.y; named = is.named; shift = asked.sum.shift; shifted = is.shifted }

  pub is_answer : (canvas : Canvas) → IsDerivedChart book asked.x asked.y asked.sum.a asked.sum.b asked.grid asked.range canvas
      → IsAnswer book r (picture canvas)
  is_answer canvas chart =
      let A : ℤ → Type 0 = λ a. IsDerivedChart book asked.x asked.y a asked.sum.b asked.grid asked.range canvas in
      let B : ℤ → Type 0 = λ b. IsDerivedChart book asked.x asked.y r.a b asked.grid asked.range canvas in
      let R : Option ValueRange → Type 0 = λ v. IsDerivedChart book asked.x asked.y r.a r.b asked.grid v canvas in
      record {
        series = series_of;
        grid = asked.grid;
        grid_is = is.grid_is;
        canvas = canvas;
        chart = subst R is.range_is (subst B is.b (subst A is.a chart));
        text_is = refl;
      }

  has_large : (time : ℤ) → HasLargeSum book asked.x asked.y asked.sum.a asked.sum.b asked.grid time → HasLarge book r
  has_large time large =
      let A : ℤ → Type 0 = λ a. HasLargeSum book asked.x asked.y a asked.sum.b asked.grid time in
      let B : ℤ → Type 0 = λ b. HasLargeSum book asked.x asked.y r.a b asked.grid time in
      record { series = series_of; grid = asked.grid; grid_is = is.grid_is; time = time; large = subst B is.b (subst A is.a large) }

  -- why it wasn't drawn
  pub undrawn : (error : SumError) → IsChartAnswer book asked.x asked.y asked.sum.a asked.sum.b asked.grid asked.range (Err error)
      → IsUndrawn (by_book book) r error
  undrawn (sum.TooLarge time) large = has_large time large
  undrawn sum.DiskFault answer = tt
  undrawn (sum.Damaged page) answer = answer
  undrawn sum.NoMemory answer = tt

-- ---- what is done of a request, by what it is answered

module _ (by : Answering) (r : Request) (at : ℕ) where
  text_stops : (before between now : Option (List ℕ)) → between ≡ before → (text : List ℕ) → by.answers r text → (end : End)
      → TextStops text between now end → RequestStops by r at before now end
  text_stops before between now unsent text is NoMemory stops = stops ∙ unsent
  text_stops before between now unsent text is SendFault stops =
      let P : Option (List ℕ) → Type 0 = λ b. PartSent text b now in
      record { text = text; answer = is; part = subst P unsent stops }
  text_stops before between now unsent text is end stops = absurd stops

  -- its chart was drawn and sent, or not all of it
  pub request_drawn : {T : Type 0} (before between now : Option (List ℕ)) → between ≡ before → (text : List ℕ) → by.answers r text
      → (result : Result T End) → OnOk result (now ≡ sent_after text between)
      → IfErr result (TextStops text between now) → DoesRequest by r at result before now
  request_drawn {T} before between now unsent text is (Ok v) whole stops = record {
    done = record { text = text; answer = is; sent = whole ∙ ap (sent_after text) unsent };
    stops = tt;
  }
  request_drawn {T} before between now unsent text is (Err end) whole stops = record {
    done = tt;
    stops = text_stops before between now unsent text is end stops;
  }

  not_drawn : (before now : Option (List ℕ)) → now ≡ before → (error : SumError) → IsUndrawn by r error
      → RequestStops by r at before now (end_at at error)
  not_drawn before now unsent (sum.TooLarge time) why = record {
    place_is = refl;
    why = refusal.TooLarge;
    number_is = refl;
    refused = why;
    unsent = unsent;
  }
  not_drawn before now unsent sum.DiskFault why = unsent
  not_drawn before now unsent (sum.Damaged page) why = (why, unsent)
  not_drawn before now unsent sum.NoMemory why = unsent

  -- it wasn't drawn
  pub request_undrawn : {T : Type 0} (before now : Option (List ℕ)) → now ≡ before → (error : SumError) (end : End) → end ≡ end_at at error
      → IsUndrawn by r error → DoesRequest {T = T} by r at (Err end) before now
  request_undrawn {T} before now unsent error end end_is why =
      let P : End → Type 0 = λ e. RequestStops by r at before now e in
      record { done = tt; stops = subst P (sym end_is) (not_drawn before now unsent error why) }

  pub request_refused : {T : Type 0} (why : DeriveRefusal) (end : End) (before : Option (List ℕ)) → end ≡ refused_at at why
      → by.refuses r why → DoesRequest {T = T} by r at (Err end) before before
  request_refused {T} why end before end_is refused =
      let P : End → Type 0 = λ e. RequestStops by r at before before e in
      record {
        done = tt;
        stops = subst P (sym end_is)
            (record { place_is = refl; why = why; number_is = refl; refused = refused; unsent = refl });
      }

-- ---- a line

module _ (by : Answering) (line : List ℕ) (at : ℕ) (before now : Option (List ℕ)) where
  request_stops_line : (r : Request) → Spells r line → (end : End) → RequestStops by r at before now end
      → LineStops by (Some line) at before now end
  request_stops_line r spells NoMemory stops = stops
  request_stops_line r spells SendFault stops = (stops.text, record { request = r; says_it = spells; answer = stops.answer }, stops.part)
  request_stops_line r spells DiskFault stops = stops
  request_stops_line r spells (DamagedPage page) stops = (record { request = r; says_it = spells; damaged = stops.0 }, stops.1)
  request_stops_line r spells (RefusedLine place number) stops = record {
    place_is = stops.place_is;
    why = stops.why;
    number_is = stops.number_is;
    refuses_it = record { request = r; says_it = spells; refused = stops.refused };
    unsent = stops.unsent;
  }
  request_stops_line r spells end stops = absurd stops

  pub line_of_request : {T : Type 0} (result : Result T End) (r : Request) → Spells r line → DoesRequest by r at result before now
      → DoesLine by (Some line) at result before now
  line_of_request {T} (Ok v) r spells does = record {
    done = record {
      text = does.done.text;
      said = inr (record { request = r; says_it = spells; answer = does.done.answer });
      sent = does.done.sent;
    };
    stops = tt;
  }
  line_of_request {T} (Err end) r spells does = record { done = tt; stops = request_stops_line r spells end does.stops }

-- a line that is empty
pub line_empty : {T : Type 0} (v : T) (by : Answering) (line : List ℕ) (at : ℕ) (before : Option (List ℕ)) → length line ≡ 0
    → DoesLine {T = T} by (Some line) at (Ok v) before before
line_empty {T} v by [] at before none = record { done = record { text = []; said = inl (refl, refl); sent = sent_none before }; stops = tt }
line_empty {T} v by (byte ∷ bytes) at before none = absurd (omega (arith, none))

-- a line that says no request
pub line_bad : {T : Type 0} (by : Answering) (line : Option (List ℕ)) (at place : ℕ) (before : Option (List ℕ)) → place ≡ at
    → IsTrue (says line) → SaysNone line → DoesLine {T = T} by line at (Err (BadInput place)) before before
line_bad {T} by line at place before same some none = record {
  done = tt;
  stops = record { place_is = same; some = some; none = none; unsent = refl };
}

-- ---- by the catalog that was read

module _ (catalog : List StoredSeries) (r : Request) (asked : Asked) (is : IsAskedIn catalog r asked) where
  drawable : IsDrawable (HasTwoIn AreOnGrid catalog) r
  drawable = record { named = is.on_grid; grid = asked.grid; grid_is = is.grid_is }

  pub is_picture : (canvas : Canvas) → HasCanvas asked.grid canvas.w canvas.h → IsPicture (HasTwoIn AreOnGrid catalog) r (picture canvas)
  is_picture canvas size = record {
    drawable = drawable;
    canvas = canvas;
    width = sym size.columns ∙ is.grid_is.canvas.columns;
    height = sym size.rows ∙ is.grid_is.canvas.rows;
    text_is = refl;
  }

  module _ (image : Image) (told : AreAsTold image catalog) (first : asked.x < length catalog) (second : asked.y < length catalog) where
    named_so : (id : ℕ) → (id ≡ asked.x) ⊎ (id ≡ asked.y) → ((entry image id).name ≡ r.first) ⊎ ((entry image id).name ≡ r.second)
    named_so id (inl same) = inl (ap (λ n. (entry image n).name) same
        ∙ named_record image catalog r.first asked.x first told is.named.first)
    named_so id (inr same) = inr (ap (λ n. (entry image n).name) same
        ∙ named_record image catalog r.second asked.y second told is.named.second)

    bad_of : (count page : ℕ) → IsBadForPair asked.x asked.y count image page → IsBadOf count image r.first r.second page
    bad_of count page bad = record {
      numbers = bad.numbers;
      keeps = bad.keeps;
      so = record { low = bad.so.0; on_way = bad.so.1.on_way; named = named_so bad.so.1.on_way.id bad.so.1.own };
    }

  pub undrawn_in : (at : Side) (old : View) (total : ℕ) → at.total ≡ total → (at.told → AreAsTold at.view.image catalog)
      → asked.x < length catalog → asked.y < length catalog
      → (error : SumError) → IsChartCause asked.x asked.y error at.told total old at.view → IsUndrawn (by_memory catalog at) r error
  undrawn_in at old total same told first second (sum.TooLarge time) cause = drawable
  undrawn_in at old total same told first second sum.DiskFault cause = tt
  undrawn_in at old total same told first second (sum.Damaged page) cause =
      (drawable, (omega (arith, cause.0, same), λ t. bad_of at.view.image (told t) first second at.view.size page (cause.1 t)))
  undrawn_in at old total same told first second sum.NoMemory cause = tt

-- ---- what calls move

-- pages are looked at
pub goes_looks : (old new : Side) (s s' : Superblock) (catalog catalog' : Catalog) → AreBeside old.view old.read_faults old.send_faults
    → AreBeside new.view new.read_faults new.send_faults → (s' ≡ s → new.total ≡ old.total)
    → Looks old.told new.told old.view new.view old.under new.under s s' catalog catalog' → Goes old new
goes_looks old new s s' catalog catalog' was are total_is looks = record {
  time = quiet_between old.view new.view looks.time;
  is_told = looks.told;
  was_told = looks.was_told;
  image = looks.image;
  size = looks.size;
  fit = looks.fit;
  faults = looks.faults;
  syncs = looks.syncs;
  writes = looks.writes;
  goes_on = looks.goes_on;
  total_is = total_is looks.superblock;
  reads = omega (arith, sym are.reads_are ∙ ap (λ (b : Beside). b.read_faults) looks.beside ∙ was.reads_are);
  sends = omega (arith, sym are.sends_are ∙ ap (λ (b : Beside). b.send_faults) looks.beside ∙ was.sends_are);
}

-- bytes are sent
pub goes_sends : (old new : Side) → DiskKept old.view new.view
    → Passes old.view new.view (Now old.view) (λ count. (sent_now old.view ≤ count) × (count ≤ sent_now new.view)) → (old.told → new.told)
    → (new.told → old.told) → GoesOn old.under new.under → new.total ≡ old.total → old.read_faults ≤ new.read_faults
    → old.send_faults ≤ new.send_faults → Goes old new
goes_sends old new kept passes told was_told on total_is reads sends = record {
  time = passes;
  is_told = told;
  was_told = was_told;
  image = λ t. kept.image;
  size = kept.size;
  fit = kept.fit;
  faults = omega (arith, kept.faults);
  syncs = kept.syncs;
  writes = kept.writes;
  goes_on = on;
  total_is = total_is;
  reads = reads;
  sends = sends;
}

-- ---- causes

pub causes_later : {T : Type 0} (old mid new : Side) → AreBeside old.view old.read_faults old.send_faults
    → AreBeside mid.view mid.read_faults mid.send_faults → CountsFault None old.view mid.view → (result : Result T End) → Goes old mid
    → IfErr result (λ end. IsCause end mid new) → IfErr result (λ end. IsCause end old new)
causes_later {T} old mid new was are quiet (Ok v) goes cause = tt
causes_later {T} old mid new was are quiet (Err end) goes cause = cause_later old mid new was are quiet end goes cause

-- why there is no chart
pub chart_cause : (old new : Side) (x y at : ℕ) (error : SumError) (end : End) → end ≡ end_at at error
    → IsChartCause x y error new.told old.total old.view new.view → IsCause end old new
chart_cause old new x y at error end end_is is =
    let P : End → Type 0 = λ e. IsCause e old new in
    subst P (sym end_is) (by error is)
  where
    by : (error : SumError) → IsChartCause x y error new.told old.total old.view new.view → IsCause (end_at at error) old new
    by (sum.TooLarge time) is = tt
    by sum.DiskFault is = is
    by (sum.Damaged page) is = (is.0, λ t. chart_bad x y new.view.size new.view.image page (is.1 t))
    by sum.NoMemory is = tt

-- and the fault of which it tells
pub chart_fault : (at : ℕ) (error : SumError) → end_fault (end_at at error) ≡ sum_fault error
chart_fault at (sum.TooLarge time) = refl
chart_fault at sum.DiskFault = refl
chart_fault at (sum.Damaged page) = refl
chart_fault at sum.NoMemory = refl

-- why a picture wasn't sent
pub text_cause : (old new : Side) (text : List ℕ) (before now : Option (List ℕ)) (end : End) → TextStops text before now end
    → (end ≡ SendFault → HasRisen old.send_faults new.send_faults) → IsCause end old new
text_cause old new text before now NoMemory stops risen = tt
text_cause old new text before now SendFault stops risen = risen refl
text_cause old new text before now end stops risen = absurd stops

pub sent_cause : {T : Type 0} (old new : Side) (text : List ℕ) (before now : Option (List ℕ)) (result : Result T End)
    → IfErr result (TextStops text before now) → (result ≡ Err SendFault → HasRisen old.send_faults new.send_faults)
    → IfErr result (λ end. IsCause end old new)
sent_cause {T} old new text before now (Ok v) stops risen = tt
sent_cause {T} old new text before now (Err end) stops risen = text_cause old new text before now end stops (λ is. risen (ap Err is))
