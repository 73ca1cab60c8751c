-- Parts of frames that were read, and items that are read one after the other: what the last one was, and why reading ended.
use Rattle.std.specs.Prelude.{ℕ, ◌≡◌, ◌-◌, List, length, slice_get, Option, option_map, Result, Err}
use Rattle.om3_coeff.specs.declared.key.Key.{Key}
use Rattle.om3_coeff.specs.declared.coef.Coef.{Coef}
use Rattle.m4_groups.specs.declared.row.Row.{Row}
use Rattle.chart_frames.specs.declared.fields.Stop.{Stop}
use Rattle.chart_frames.specs.declared.item_stop.ItemStop.{ItemStop}
use Rattle.chart_frames.specs.declared.item_stop.ItemStop.TheVariants as stops
use Rattle.chart_frames.specs.Frames.{key_number}
use Rattle.chart_frames.specs.Fields.{coefs_fields, rows_fields}
use Rattle.chart_frames.specs.Reading.{read}
use Rattle.chart_frames.specs.Spelled.{coefs_before, rows_all_before}

-- a function ended for this cause: reading ends with the same one, unless memory ran out
abbrev pub Fails : ItemStop → Result (List ℕ) Stop → Type 0
Fails (stops.Stop e) found = found ≡ Err e
Fails stops.NoMemory found = Unit {0}

-- the number of the last key
abbrev pub last_key : List (Key × Coef) → Option ℕ
last_key coefs = option_map (λ e. key_number e.0) (slice_get coefs (length coefs - 1))

-- the last column
abbrev pub last_column : List Row → Option ℕ
last_column rows = option_map (λ r. r.column) (slice_get rows (length rows - 1))

-- behind the coefficients that were read, reading one of count ends for this cause
abbrev pub FailsInCoefs : ℕ → ℕ → ItemStop → List (Key × Coef) → List (Key × Coef) → List ℕ → Type 0
FailsInCoefs slots count e old new bytes =
    (tail : List ℕ) × (coefs_before new tail ≡ coefs_before old bytes)
    × Fails e (read (coefs_fields slots (last_key new) (count - length new)) tail)

-- behind the rows that were read, reading one of count ends for this cause
abbrev pub FailsInRows : ℕ → ℕ → ItemStop → List Row → List Row → List ℕ → Type 0
FailsInRows w count e old new bytes =
    (tail : List ℕ) × (rows_all_before new tail ≡ rows_all_before old bytes)
    × Fails e (read (rows_fields w (last_column new) (count - length new)) tail)
