-- What is asked, what is done of one line, and what calls move. Private contracts are stated by these words.
use Rattle.std.specs.Prelude.{◌≡◌, ℕ, ◌<◌, ◌≤◌, ◌⊎◌, List, [], Option, Some, Result, Ok, Err, IfErr, IsTrue, OnOk, ⊤}
use Rattle.block_disk.specs.Counts.{HasRisen}
use Rattle.block_disk.specs.Streams.{sent_after, PartSent}
use Rattle.block_disk.specs.View.{Now, Passes, sent_now}
use Rattle.chart_grid.specs.Limits.{IsWindow, IsSide, IsBadWindow, IsBadSide}
use Rattle.chart_grid.specs.declared.grid.Grid.{Grid}
use Rattle.chart_service.specs.Viewing.{IsBadRange}
use Rattle.chart_world.specs.Fronts.{says}
use Rattle.gate_pages.specs.Pages.{GoesOn}
use Rattle.plain_chart.specs.declared.value_range.ValueRange.{ValueRange}
use Rattle.run_ends.specs.declared.ending.End.{End}
use Rattle.run_ends.specs.declared.ending.End.TheVariants.{NoMemory, ReadFault, SendFault, DiskFault, DamagedPage, BadInput, InputTooLong}
use Rattle.run_ends.specs.declared.ending.End.TheVariants.{RefusedLine}
use Rattle.series_book.specs.declared.one_series.Series.{Series}
use Rattle.series_catalog.specs.declared.stored_series.StoredSeries.{StoredSeries}
use Rattle.series_store.specs.Asking.{IsNamedAt, LacksName}
use Rattle.series_pair.specs.Damage.{IsBadForChart}
use Rattle.series_pair.specs.Derived.{AreShifted}
use Rattle.series_pair.specs.declared.sum_error.SumError.{SumError}
use Rattle.series_pair.specs.declared.sum_error.SumError.TheVariants as sum
use Rattle.store_commands.specs.Sides.{Side}
use Rattle.derive_command.specs.Answers.{Answering, AnswersLine, AreNamed, DamagesLine, IsGridOf, IsRefused, RefusesLine, asked_range}
use Rattle.derive_command.specs.Answers.{number_of}
use Rattle.derive_command.specs.Catalogs.{AreOnGrid, HasTwoIn}
use Rattle.derive_command.specs.Requests.{SaysNone}
use Rattle.derive_command.specs.declared.asked.Asked.{Asked}
use Rattle.derive_command.specs.declared.derive_refusal.DeriveRefusal.{DeriveRefusal}
use Rattle.derive_command.specs.declared.derive_refusal.DeriveRefusal.TheVariants as refusal
use Rattle.derive_command.specs.declared.request.Request.{Request}

-- ---- what is asked

-- the grid and the range that a request asks for, or why there is none
abbrev pub IsViewOf : Request → Result (Grid × Option ValueRange) DeriveRefusal → Type 0
IsViewOf r (Ok (grid, range)) = IsGridOf r grid × (range ≡ asked_range r.range)
IsViewOf r (Err refusal.UnknownSeries) = ⊥
IsViewOf r (Err refusal.NotOneGrid) = ⊥
IsViewOf r (Err refusal.BadWindow) = IsBadWindow r.t0 r.t1
IsViewOf r (Err refusal.BadCanvas) = IsWindow r.t0 r.t1 × (IsBadSide r.w ⊎ IsBadSide r.h)
IsViewOf r (Err refusal.BadRange) = IsWindow r.t0 r.t1 × IsSide r.w × IsSide r.h × IsBadRange r.range
IsViewOf r (Err refusal.TooLarge) = ⊥

-- the ids of the series that a request names; the only refusal is that one isn't there
abbrev pub AreIdsOf : List Series → Request → Result (ℕ × ℕ) DeriveRefusal → Type 0
AreIdsOf book r (Ok (x, y)) = AreNamed book r x y
AreIdsOf book r (Err e) = (e ≡ refusal.UnknownSeries) × IsRefused book r refusal.UnknownSeries

-- all that a request asks for, over a book
pub record IsAsked (book : List Series) (r : Request) (asked : Asked) : Type 0 where
  pub named : AreNamed book r asked.x asked.y
  pub shifted : AreShifted book asked.x asked.y asked.sum.shift
  pub a : asked.sum.a ≡ r.a
  pub b : asked.sum.b ≡ r.b
  pub grid_is : IsGridOf r asked.grid
  pub range_is : asked.range ≡ asked_range r.range

-- the catalog has series of these names at these places
pub record AreNamedIn (catalog : List StoredSeries) (r : Request) (x y : ℕ) : Type 0 where
  pub first : IsNamedAt catalog r.first x
  pub second : IsNamedAt catalog r.second y

-- all that a request asks for, by the catalog that was read
pub record IsAskedIn (catalog : List StoredSeries) (r : Request) (asked : Asked) : Type 0 where
  pub named : AreNamedIn catalog r asked.x asked.y
  pub on_grid : HasTwoIn AreOnGrid catalog r.first r.second
  pub grid_is : IsGridOf r asked.grid

-- the catalog lacks one of the two series that a request names
abbrev pub LacksOne : List StoredSeries → Request → Type 0
LacksOne catalog r = LacksName catalog r.first ⊎ LacksName catalog r.second

-- ---- what is done of one line

-- the end where the line at this offset is refused
abbrev pub refused_at : ℕ → DeriveRefusal → End
refused_at at why = RefusedLine at (number_of why)

-- and where its chart gave this error
abbrev pub end_at : ℕ → SumError → End
end_at at (sum.TooLarge time) = refused_at at refusal.TooLarge
end_at at sum.DiskFault = DiskFault
end_at at (sum.Damaged page) = DamagedPage page
end_at at sum.NoMemory = NoMemory

-- a text wasn't sent, or not all of it
abbrev pub TextStops : List ℕ → Option (List ℕ) → Option (List ℕ) → End → Type 0
TextStops text before now NoMemory = now ≡ before
TextStops text before now SendFault = PartSent text before now
TextStops text before now end = ⊥

-- the answer to a request was sent
pub record SendsAnswer (answers : Request → List ℕ → Type 0) (r : Request) (before now : Option (List ℕ)) : Type 0 where
  pub text : List ℕ
  pub answer : answers r text
  pub sent : now ≡ sent_after text before

-- a part of it was
pub record SendsPartOfAnswer (answers : Request → List ℕ → Type 0) (r : Request) (before now : Option (List ℕ)) : Type 0 where
  pub text : List ℕ
  pub answer : answers r text
  pub part : PartSent text before now

-- the request is refused for the reason of this number, and nothing was sent
pub record RefusesAt (refuses : Request → DeriveRefusal
    → Type 0) (r : Request) (at place number : ℕ) (before now : Option (List ℕ)) : Type 0 where
  pub place_is : place ≡ at
  pub why : DeriveRefusal
  pub number_is : number ≡ number_of why
  pub refused : refuses r why
  pub unsent : now ≡ before

-- why a request wasn't answered
abbrev pub RequestStops : Answering → Request → ℕ → Option (List ℕ) → Option (List ℕ) → End → Type 0
RequestStops by r at before now NoMemory = now ≡ before
RequestStops by r at before now SendFault = SendsPartOfAnswer by.answers r before now
RequestStops by r at before now DiskFault = now ≡ before
RequestStops by r at before now (DamagedPage page) = by.damages r page × (now ≡ before)
RequestStops by r at before now (RefusedLine place number) = RefusesAt by.refuses r at place number before now
RequestStops by r at before now end = ⊥

-- what a call does that answers a request
pub record DoesRequest {T : Type 0} (by : Answering) (r : Request) (at : ℕ) (result : Result T End)
    (before now : Option (List ℕ)) : Type 0 where
  pub done : OnOk result (SendsAnswer by.answers r before now)
  pub stops : IfErr result (RequestStops by r at before now)

-- the text is what is sent for a line: none for an empty one, and else its answer
abbrev pub IsSaid : (Request → List ℕ → Type 0) → Option (List ℕ) → List ℕ → Type 0
IsSaid answers line text = ((line ≡ Some []) × (text ≡ [])) ⊎ AnswersLine answers line text

pub record LineDone (answers : Request → List ℕ → Type 0) (line : Option (List ℕ)) (before now : Option (List ℕ)) : Type 0 where
  pub text : List ℕ
  pub said : IsSaid answers line text
  pub sent : now ≡ sent_after text before

-- it isn't empty and says no request
pub record LineBad (line : Option (List ℕ)) (at place : ℕ) (before now : Option (List ℕ)) : Type 0 where
  pub place_is : place ≡ at
  pub some : IsTrue (says line)
  pub none : SaysNone line
  pub unsent : now ≡ before

-- it says a request that is refused for the reason of this number
pub record LineRefused (refuses : Request → DeriveRefusal
    → Type 0) (line : Option (List ℕ)) (at place number : ℕ) (before now : Option (List ℕ))
    : Type 0 where
  pub place_is : place ≡ at
  pub why : DeriveRefusal
  pub number_is : number ≡ number_of why
  pub refuses_it : RefusesLine refuses line why
  pub unsent : now ≡ before

-- why a line wasn't answered
abbrev pub LineStops : Answering → Option (List ℕ) → ℕ → Option (List ℕ) → Option (List ℕ) → End → Type 0
LineStops by line at before now NoMemory = now ≡ before
LineStops by line at before now SendFault = (text : List ℕ) × AnswersLine by.answers line text × PartSent text before now
LineStops by line at before now DiskFault = now ≡ before
LineStops by line at before now (DamagedPage page) = DamagesLine by.damages line page × (now ≡ before)
LineStops by line at before now (BadInput place) = LineBad line at place before now
LineStops by line at before now (RefusedLine place number) = LineRefused by.refuses line at place number before now
LineStops by line at before now end = ⊥

-- what a call does that answers a line
pub record DoesLine {T : Type 0} (by : Answering) (line : Option (List ℕ)) (at : ℕ) (result : Result T End)
    (before now : Option (List ℕ)) : Type 0 where
  pub done : OnOk result (LineDone by.answers line before now)
  pub stops : IfErr result (LineStops by line at before now)

-- ---- what calls move, whatever the pages are

-- Pages are read, input is taken and bytes are sent, and nothing else changes: a crash leaves at each moment what it might
-- have left before.
pub record Goes (old new : Side) : Type 0 where
  pub time : Passes old.view new.view (Now old.view) (λ count. (sent_now old.view ≤ count) × (count ≤ sent_now new.view))
  pub is_told : old.told → new.told
  pub was_told : new.told → old.told
  pub image : old.told → new.view.image ≡ old.view.image
  pub size : new.view.size ≡ old.view.size
  pub fit : old.view.fit → new.view.fit
  pub faults : old.view.faults ≤ new.view.faults
  pub syncs : new.view.syncs ≡ old.view.syncs
  pub writes : new.view.writes ≡ old.view.writes
  pub goes_on : GoesOn old.under new.under
  pub total_is : new.total ≡ old.total
  pub reads : old.read_faults ≤ new.read_faults
  pub sends : old.send_faults ≤ new.send_faults

-- Why lines weren't answered. A page that is called damaged is one of the store's, and is so where reads give what the pages are.
abbrev pub IsCause : End → Side → Side → Type 0
IsCause NoMemory old new = ⊤
IsCause ReadFault old new = HasRisen old.read_faults new.read_faults
IsCause SendFault old new = HasRisen old.send_faults new.send_faults
IsCause DiskFault old new = HasRisen old.view.faults new.view.faults
IsCause (DamagedPage page) old new = (page < old.total) × (new.told → IsBadForChart new.view.size new.view.image page)
IsCause (BadInput at) old new = ⊤
IsCause InputTooLong old new = ⊤
IsCause (RefusedLine at refusal) old new = ⊤
IsCause end old new = ⊥
