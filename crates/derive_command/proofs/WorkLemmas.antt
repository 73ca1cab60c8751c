-- What a line of `derive` does, as a work of lines says it.
use Rattle.std.proofs.Common.{◌≡◌, ◌≢◌, ◌∙◌, ℕ, List, Option, None, Some, Result, Ok, Err, refl, ap, sym, subst, inl, inr}
use Rattle.std.specs.Prelude.{OnOk, IfErr, ⊤}
use Rattle.block_disk.specs.View.{Image}
use Rattle.line_runs.specs.Carried.{DoesOne}
use Rattle.line_runs.specs.Given.{Line}
use Rattle.run_ends.specs.declared.ending.End.{End}
use Rattle.run_ends.specs.declared.ending.End.TheVariants.{BadInput, InputTooLong}
use Rattle.series_book.specs.declared.one_series.Series.{Series}
use Rattle.series_catalog.specs.declared.stored_series.StoredSeries.{StoredSeries}
use Rattle.series_pair.specs.declared.sum_error.SumError.{SumError}
use Rattle.series_pair.specs.declared.sum_error.SumError.TheVariants as sum
use Rattle.stored_book.specs.Standing.{StandsForBook}
use Rattle.store_commands.specs.Sides.{Side}
use Rattle.derive_command.specs.Answers.{by_book}
use Rattle.derive_command.specs.Catalogs.{by_memory}
use Rattle.derive_command.specs.Doing.{DoesLine, Goes, end_at, refused_at}
use Rattle.derive_command.specs.declared.derive_refusal.DeriveRefusal.{DeriveRefusal}
use Rattle.derive_command.specs.Working.{Known, LineDoes, LineStopsSo, StandFor, StandsSo, answering_by}

-- the pages stay
pub stand_still : (old new : Side) (book : List Series) → Goes old new → StandFor old.told old.view.image book
    → StandFor new.told new.view.image book
stand_still old new book goes stand =
    let P : Image → Type 0 = λ i. StandsForBook i stand.1.0 book in
    (goes.is_told stand.0, (stand.1.0, subst P (sym (goes.image stand.0)) stand.1.1))

pub stands_still : (old new : Side) (catalog catalog' : List StoredSeries) (known : Known) → catalog' ≡ catalog → Goes old new
    → StandsSo old.told old.view.image catalog known
    → StandsSo new.told new.view.image catalog' known
stands_still old new catalog catalog' (inl book) same goes stands = stand_still old new book goes stands
stands_still old new catalog catalog' (inr read) same goes stands = same ∙ stands

-- what a line does, by what is known
pub line_known : {T : Type 0} {Told : Type 0} (image : Image) (catalog : List StoredSeries) (pages : Side) (known : Known) (line : List ℕ)
    (at : ℕ) (before now : Option (List ℕ)) (result : Result T End)
    → StandsSo Told image catalog known → ((total : ℕ) (book : List Series) → Told → StandsForBook image total book
    → DoesLine (by_book book) (Some line) at result before now)
    → DoesLine (by_memory catalog pages) (Some line) at result before now
    → DoesLine (answering_by known pages) (Some line) at result before now
line_known {T} {Told} image catalog pages (inl book) line at before now result stands does records = does stands.1.0 book stands.0
    stands.1.1
line_known {T} {Told} image catalog pages (inr read) line at before now result stands does records =
    let P : List StoredSeries → Type 0 = λ c. DoesLine (by_memory c pages) (Some line) at result before now in
    subst P stands records

pub line_done : {T : Type 0} (IsNow : Known → Type 0) (pages : Side) (known : Known) (line : List ℕ) (at : ℕ) (before now : Option (List ℕ))
    (result : Result T End) → IsNow known
    → DoesLine (answering_by known pages) (Some line) at result before now
    → OnOk result (DoesOne LineDoes IsNow known (Line at (Some line)) before now)
line_done {T} IsNow pages known line at before now (Err end) stands does = tt
line_done {T} IsNow pages known line at before now (Ok v) stands does = record {
  text = does.done.text;
  behind = known;
  done = (refl, does.done.said);
  stands = stands;
  sent = does.done.sent;
}

pub line_stops : {T : Type 0} (pages : Side) (known : Known) (line : List ℕ) (at : ℕ) (before now : Option (List ℕ)) (result : Result T End)
    → DoesLine (answering_by known pages) (Some line) at result before now
    → IfErr result (λ end. LineStopsSo known (Line at (Some line)) pages before now end)
line_stops {T} pages known line at before now (Ok v) does = tt
line_stops {T} pages known line at before now (Err end) does = does.stops

-- a line that is too long
pub long_stops : (known : Known) (at : ℕ) (pages : Side) (before : Option (List ℕ))
    → LineStopsSo known (Line at None) pages before before (BadInput at)
long_stops known at pages before = record { place_is = refl; some = refl; none = λ request none. none; unsent = refl }

-- no end of a request is the input's length
pub refused_short : (at : ℕ) (why : DeriveRefusal) (end : End) → end ≡ refused_at at why
    → ◌≡◌ {A = Result ⊤ End} (Err end) (Err InputTooLong) → ⊥
refused_short at why end is same = cc

pub chart_short : (at : ℕ) (error : SumError) (end : End) → end ≡ end_at at error → ◌≡◌ {A = Result ⊤ End} (Err end) (Err InputTooLong) → ⊥
chart_short at (sum.TooLarge time) end is same = cc
chart_short at sum.DiskFault end is same = cc
chart_short at (sum.Damaged page) end is same = cc
chart_short at sum.NoMemory end is same = cc

-- a cause of an end that isn't the input's length
pub cause_short : {T : Type 0} (Causes : End → Type 0) (result : Result T End) → IfErr result Causes → (result ≡ Err InputTooLong → ⊥)
    → IfErr result (λ end. Causes end × (end ≢ InputTooLong))
cause_short {T} Causes (Ok done) causes short = tt
cause_short {T} Causes (Err end) causes short = (causes, λ is. short (ap Err is))
