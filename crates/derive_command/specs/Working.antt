-- What a line of `derive` sends, and why it stops the run.
use Rattle.std.specs.Prelude.{◌≡◌, ℕ, ◌⊎◌, List, [], Option}
use Rattle.std.proofs.Common.{inl, inr}
use Rattle.block_disk.specs.View.{Image}
use Rattle.line_runs.specs.Given as given
use Rattle.run_ends.specs.declared.ending.End.{End}
use Rattle.series_book.specs.declared.one_series.Series.{Series}
use Rattle.series_catalog.specs.declared.stored_series.StoredSeries.{StoredSeries}
use Rattle.store_commands.specs.Sides.{Side}
use Rattle.stored_book.specs.Standing.{StandsForBook}
use Rattle.derive_command.specs.Answers.{Answering, IsAnswer, IsRefused, by_book}
use Rattle.derive_command.specs.Catalogs.{AreOnGrid, HasTwoIn, IsPicture, IsRefusedBy, by_memory, in_memory}
use Rattle.derive_command.specs.Doing.{IsSaid, LineStops}
use Rattle.derive_command.specs.declared.derive_refusal.DeriveRefusal.{DeriveRefusal}
use Rattle.derive_command.specs.declared.request.Request.{Request}

-- the pages of this image, which reads give, stand for the book
abbrev pub StandFor : Type 0 → Image → List Series → Type 0
StandFor Told image book = Told × ((total : ℕ) × StandsForBook image total book)

-- what is known of a store: the book that its pages stand for, or the catalog that was read
abbrev pub Known : Type 0
Known = List Series ⊎ List StoredSeries

abbrev pub StandsSo : Type 0 → Image → List StoredSeries → Known → Type 0
StandsSo Told image catalog (inl book) = StandFor Told image book
StandsSo Told image catalog (inr read) = catalog ≡ read

-- what the answers are by it
abbrev pub answers_by : Known → Request → List ℕ → Type 0
answers_by (inl book) = IsAnswer book
answers_by (inr read) = IsPicture (HasTwoIn AreOnGrid read)

-- why a request is refused
abbrev pub refuses_by : Known → Request → DeriveRefusal → Type 0
refuses_by (inl book) = IsRefused book
refuses_by (inr read) = IsRefusedBy (in_memory read)

-- and which page is called damaged for it, over these pages
abbrev pub damages_by : Known → Side → Request → ℕ → Type 0
damages_by (inl book) at = (by_book book).damages
damages_by (inr read) at = (by_memory read at).damages

abbrev pub answering_by : Known → Side → Answering
answering_by known at = record { answers = answers_by known; refuses = refuses_by known; damages = damages_by known at }

-- what is known stays; at a pause and at the end nothing is sent
abbrev pub LineDoes : Known → given.Given → List ℕ → Known → Type 0
LineDoes known (given.Line at line) text behind = (behind ≡ known) × IsSaid (answers_by known) line text
LineDoes known given.Pause text behind = (behind ≡ known) × (text ≡ [])
LineDoes known given.End text behind = (behind ≡ known) × (text ≡ [])

-- why a line stopped the run
abbrev pub LineStopsSo : Known → given.Given → Side → Option (List ℕ) → Option (List ℕ) → End → Type 0
LineStopsSo known (given.Line at line) pages before now end = LineStops (answering_by known pages) line at before now end
LineStopsSo known given.Pause pages before now end = ⊥
LineStopsSo known given.End pages before now end = ⊥
