-- The values of a series in a window, read piece by piece.
use Rattle.std.specs.Prelude.{◌≡◌, ◌-◌, ◌<◌, ◌≤◌, ◌<ℤ◌, ◌↔◌, ℕ, ℤ, suc, List, [], ◌∷◌, ◌++◌, take, drop, length, flat_map, Option}
use Rattle.series_book.specs.declared.one_series.Series.{Series}
use Rattle.series_store.specs.Windows.{runs_from, stored, window, piece_end}
use Rattle.series_store.specs.declared.slot_run.SlotRun.{SlotRun}
use Rattle.series_export.specs.Exports.{Stored, slot_time}

-- the first n slots of a series are those whose times are before this one
pub record AreBefore (series : Series) (time : ℤ) (n : ℕ) : Type 0 where
  pub within : n ≤ length series.slots
  pub before : (i : ℕ) → i < length series.slots → (i < n) ↔ (slot_time series.start series.step i <ℤ time)

-- the runs and the values of a piece
pub record Piece : Type 0 where
  pub runs : List SlotRun
  pub values : List ℤ

-- those of the slots from `from` on and below `to`
abbrev pub piece_of : List (Option ℤ) → ℕ → ℕ → Piece
piece_of slots from to = record { runs = runs_from from (window slots from to); values = stored (window slots from to) }

-- pieces of the slots from `from` on and below `to`, each asked for from where the one before it ends
abbrev pub ArePieces : List (Option ℤ) → ℕ → ℕ → List Piece → Type 0
ArePieces slots from to [] = to ≤ from
ArePieces slots from to (piece ∷ pieces) = (from < to) × (piece ≡ piece_of slots from (piece_end from to))
    × ArePieces slots (piece_end from to) to pieces

-- values of slots one behind the other, the first of which is this one
unfoldable pub readings_from : ℤ → ℕ → ℕ → List ℤ → List Stored
readings_from start step slot [] = []
readings_from start step slot (value ∷ values) = record {
  time = slot_time start step slot;
  value = value;
} ∷ readings_from start step (suc slot) values

-- values of the slots of runs
unfoldable pub readings_of : ℤ → ℕ → List SlotRun → List ℤ → List Stored
readings_of start step [] values = []
readings_of start step (run ∷ runs) values =
    readings_from start step run.first (take (run.end - run.first) values) ++ readings_of start step runs
    (drop (run.end - run.first) values)

-- the values of pieces, one behind the other, at their times
abbrev pub readings_in : Series → List Piece → List Stored
readings_in series pieces = flat_map (λ piece. readings_of series.start series.step piece.runs piece.values) pieces
