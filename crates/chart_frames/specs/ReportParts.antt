-- Parts of reports that were read.
use Rattle.std.specs.Prelude.{ℕ, ℤ, suc, ◌≡◌, ◌+◌, ◌-◌, ◌++◌, List, [], ◌∷◌, Bool}
use Rattle.whole_number.specs.Range.{IsValue}
use Rattle.chart_frames.specs.declared.frame.Frame.{Frame}
use Rattle.chart_frames.specs.declared.frame.Frame.TheVariants as frames
use Rattle.chart_frames.specs.declared.reports.ListedSeries.{ListedSeries}
use Rattle.chart_frames.specs.declared.reports.Run.{Run}
use Rattle.chart_frames.specs.declared.reports.Report.TheVariants as reports
use Rattle.chart_frames.specs.declared.values_reading.Room.{Room}
use Rattle.chart_frames.specs.Format.{Format}
use Rattle.chart_frames.specs.Reading.{read}
use Rattle.chart_frames.specs.Fields.{lesser, listed_fields, runs_fields, value_field}
use Rattle.chart_frames.specs.Frames.{FitsListed, FitsRun}
use Rattle.chart_frames.specs.Spelled.{signed_bytes, listed_before, run_before}

-- the catalog of these series
abbrev pub catalog_frame : ℕ → ℕ → List ListedSeries → Frame
catalog_frame total used series = frames.Report (reports.Catalog (record { total = total; used = used; series = series }))

-- the frame of these runs and values
abbrev pub values_frame : ℕ → Bool → ℤ → List Run → List ℤ → Frame
values_frame series more next runs values =
    frames.Report (reports.Values (record { series = series; more = more; next = next; runs = runs; values = values }))

-- one series more was read
pub record PushesListed (old new : List ListedSeries) (bytes rest : List ℕ) : Type 0 where
  pub listed : ListedSeries
  pub fits : FitsListed listed
  pub pushed : new ≡ old ++ listed ∷ []
  pub begins : bytes ≡ listed_before listed rest
  pub on : (next : Format) → read (listed_fields next) bytes ≡ read next rest

-- where the next run may stand, and how many values are left, behind a run
abbrev pub room_behind : Room → Run → Room
room_behind room run = record {
  from = run.first + run.count + 1;
  limit = lesser room.limit (run.first + 4096);
  left = room.left - run.count;
}

abbrev pub runs_in : Room → ℕ → Format → Format
runs_in room count next = runs_fields room.from room.limit room.left count next

-- one run more was read, and so many stand behind it
pub record PushesRun (room : Room) (behind : ℕ) (old new : List Run) (bytes : List ℕ) (after : Room) (rest : List ℕ) : Type 0 where
  pub run : Run
  pub fits : FitsRun room.from room.limit room.left run
  pub all_taken : behind ≡ 0 → after.left ≡ 0
  pub pushed : new ≡ old ++ run ∷ []
  pub behind_is : after ≡ room_behind room run
  pub begins : bytes ≡ run_before run rest
  pub on : (next : Format) → read (runs_in room (suc behind) next) bytes ≡ read (runs_in after behind next) rest

-- one value more was read
pub record PushesValue (old new : List ℤ) (bytes rest : List ℕ) : Type 0 where
  pub value : ℤ
  pub fits : IsValue value
  pub pushed : new ≡ old ++ value ∷ []
  pub begins : bytes ≡ signed_bytes value ++ rest
  pub on : (next : Format) → read (value_field (λ v. next)) bytes ≡ read next rest
