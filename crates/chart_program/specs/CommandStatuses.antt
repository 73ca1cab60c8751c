-- Which statuses each command has, and which commands open a store and take input.
use Rattle.std.specs.Prelude.{ℕ, ◌≡◌, ◌≤◌, ◌⊎◌, List, [], ◌∷◌, Option, Result, Ok, Err, ⊤}
use Rattle.block_disk.specs.View.{Image, View}
use Rattle.gate_pages.specs.Journal.{page_count}
use Rattle.disk_store.specs.Openings.{IsOpeningPlace}
use Rattle.disk_store.specs.declared.causes.OpeningCause.{OpeningCause}
use Rattle.program_words.specs.declared.words.Command.{Command}
use Rattle.program_words.specs.declared.words.Command.TheVariants.{Plot, Load, Demo, Run, Serve, Draw, Init, Check, ListSeries, Export}
use Rattle.program_words.specs.declared.words.Command.TheVariants.{Retain, Cover, Live, Host, Derive}
use Rattle.run_ends.specs.declared.status.Status.{Status}
use Rattle.run_ends.specs.declared.ending.End.{End}
use Rattle.run_ends.specs.declared.ending.End.TheVariants as ends
use Rattle.chart_frames.specs.Frames.{key_number}
use Rattle.draw_command.specs.declared.draw_end.DrawEnd.{DrawEnd}
use Rattle.draw_command.specs.declared.draw_end.DrawEnd.TheVariants as draw_end
use Rattle.store_commands.specs.Traffic.{Traffic}
use Rattle.hosted_lines.specs.HostCauses.{IsBadForHost}
use Rattle.stored_book.specs.Damage.{IsBadForRequest}
use Rattle.store_commands.specs.Damaged.{IsDamagedLater}
use Rattle.store_commands.specs.Exported.{IsDamagedForExport}
use Rattle.chart_program.specs.declared.lines_end.LinesEnd.{LinesEnd}
use Rattle.chart_program.specs.declared.lines_end.LinesEnd.TheVariants as lines_end

-- the codes of all statuses
abbrev pub all_codes : List ℕ
all_codes = 0 ∷ 2 ∷ 3 ∷ 4 ∷ 5 ∷ 6 ∷ 7 ∷ 8 ∷ 9 ∷ 10 ∷ 11 ∷ 12 ∷ 13 ∷ 14 ∷ 15 ∷ 16 ∷ 17 ∷ []

-- the codes of the statuses that a command has, once its words were read
abbrev pub codes_of : Command → List ℕ
codes_of (Plot w h) = 0 ∷ 3 ∷ 4 ∷ 5 ∷ 8 ∷ 9 ∷ []
codes_of Run = 0 ∷ 3 ∷ 4 ∷ 5 ∷ 6 ∷ 7 ∷ 9 ∷ 10 ∷ 11 ∷ 12 ∷ []
codes_of Serve = 0 ∷ 3 ∷ 4 ∷ 5 ∷ 6 ∷ 7 ∷ 9 ∷ 12 ∷ []
codes_of Draw = 0 ∷ 3 ∷ 4 ∷ 5 ∷ 8 ∷ 9 ∷ 10 ∷ 11 ∷ 15 ∷ []
codes_of Init = 0 ∷ 3 ∷ 6 ∷ 12 ∷ 13 ∷ []
codes_of (Load name) = 0 ∷ 3 ∷ 4 ∷ 5 ∷ 6 ∷ 7 ∷ 8 ∷ 9 ∷ 12 ∷ 14 ∷ []
codes_of (Demo seed rounds) = 0 ∷ 3 ∷ 5 ∷ 6 ∷ 7 ∷ 10 ∷ 11 ∷ 12 ∷ []
codes_of Check = 0 ∷ 3 ∷ 5 ∷ 6 ∷ 7 ∷ 12 ∷ []
codes_of ListSeries = 0 ∷ 3 ∷ 5 ∷ 6 ∷ 7 ∷ 12 ∷ []
codes_of (Export name window) = 0 ∷ 3 ∷ 5 ∷ 6 ∷ 7 ∷ 12 ∷ 14 ∷ []
codes_of Retain = 0 ∷ 3 ∷ 4 ∷ 5 ∷ 6 ∷ 7 ∷ 8 ∷ 9 ∷ 12 ∷ 17 ∷ []
codes_of (Cover every) = 0 ∷ 3 ∷ 4 ∷ 5 ∷ 8 ∷ 9 ∷ 10 ∷ 11 ∷ 15 ∷ []
codes_of Live = 0 ∷ 3 ∷ 4 ∷ 5 ∷ 6 ∷ 7 ∷ 9 ∷ 12 ∷ []
codes_of Host = 0 ∷ 3 ∷ 4 ∷ 5 ∷ 6 ∷ 7 ∷ 9 ∷ 12 ∷ []
codes_of Derive = 0 ∷ 3 ∷ 4 ∷ 5 ∷ 6 ∷ 7 ∷ 8 ∷ 9 ∷ 12 ∷ 16 ∷ []

-- the command opens the store of the disk, or makes one
abbrev pub IsOverStore : Command → Type 0
IsOverStore (Plot w h) = ⊥
IsOverStore Draw = ⊥
IsOverStore (Cover every) = ⊥
IsOverStore command = ⊤

-- the command takes no input
abbrev pub TakesNone : Command → Type 0
TakesNone Init = ⊤
TakesNone (Demo seed rounds) = ⊤
TakesNone Check = ⊤
TakesNone ListSeries = ⊤
TakesNone (Export name window) = ⊤
TakesNone command = ⊥

-- No store was opened for this cause, which names a block of the journal or of the catalog where it names one. No input
-- was taken, and nothing was sent.
pub record IsUnopened (cause : OpeningCause) (left left' before now : Option (List ℕ)) : Type 0 where
  pub place : IsOpeningPlace cause
  pub left_is : left' ≡ left
  pub sent_is : now ≡ before

-- a serving command was kept from opening its store, or the disk is large enough for one
abbrev pub OpensFirst : {T : Type 0} → View → Traffic → Result T LinesEnd → Type 0
OpensFirst old t (Ok done) = 128 ≤ old.size
OpensFirst old t (Err (lines_end.Opening cause)) = IsUnopened cause t.left t.left_now t.sent t.sent_now
OpensFirst old t (Err (lines_end.Answering end)) = 128 ≤ old.size

-- The block at this place was found damaged at the opening, and then no input was taken and nothing was sent; or it was
-- found so as lines were answered.
abbrev pub IsBarredAs : (ℕ → Image → ℕ → Type 0) → ℕ → View → Option (List ℕ) → Option (List ℕ) → Option (List ℕ) → Option (List ℕ) → ℕ
    → Type 0
IsBarredAs IsBad count new left left' before now place =
    (((place ≡ 1) ⊎ ((66 ≤ place) × (place ≤ 82))) × ((left' ≡ left) × (now ≡ before))) ⊎ IsDamagedLater IsBad count new place

abbrev pub IsBarred : ℕ → View → Option (List ℕ) → Option (List ℕ) → Option (List ℕ) → Option (List ℕ) → ℕ → Type 0
IsBarred count new left left' before now place = IsBarredAs IsBadForRequest count new left left' before now place

abbrev pub IsBarredBy : View → View → Traffic → Status → Type 0
IsBarredBy old new t end = end.code ≡ 7 → IsBarred (page_count old.size) new t.left t.left_now t.sent t.sent_now end.place

-- of any command: one that serves no lines has sent nothing, unless it is an export
abbrev pub Bars : Command → View → View → Option (List ℕ) → Option (List ℕ) → Option (List ℕ) → Option (List ℕ) → ℕ → Type 0
Bars Run old new left left' before now place = IsBarred (page_count old.size) new left left' before now place
Bars Serve old new left left' before now place = IsBarred (page_count old.size) new left left' before now place
Bars (Export name window) old new left left' before now place = IsDamagedForExport name old before now place
Bars Retain old new left left' before now place = IsBarred (page_count old.size) new left left' before now place
Bars Live old new left left' before now place = IsBarred (page_count old.size) new left left' before now place
Bars Host old new left left' before now place = IsBarredAs IsBadForHost (page_count old.size) new left left' before now place
Bars Derive old new left left' before now place = IsBarred (page_count old.size) new left left' before now place
Bars command old new left left' before now place = now ≡ before

abbrev pub BarsBy : View → View → Status → Command → Option (List ℕ) → Option (List ℕ) → Option (List ℕ) → Option (List ℕ) → Type 0
BarsBy old new end command left left' before now = Bars command old new left left' before now end.place

-- how a run ended by what `draw` and `cover` answer
abbrev pub drawing_end : {T : Type 0} → Result T DrawEnd → End
drawing_end (Ok done) = ends.Done
drawing_end (Err draw_end.NoMemory) = ends.NoMemory
drawing_end (Err draw_end.ReadFault) = ends.ReadFault
drawing_end (Err draw_end.SendFault) = ends.SendFault
drawing_end (Err draw_end.InputTooLong) = ends.InputTooLong
drawing_end (Err (draw_end.BadFrame at)) = ends.BadInput at
drawing_end (Err (draw_end.Missing key)) = ends.Missing (key_number key)
drawing_end (Err (draw_end.BadCoefficient key)) = ends.BadCoefficient (key_number key)
drawing_end (Err (draw_end.UnknownSession number)) = ends.UnknownSession number
