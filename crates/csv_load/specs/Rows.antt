-- What a line says.
use Rattle.std.specs.Prelude.{◌≡◌, ◌⊎◌, ℕ, ℤ, List, [], None, ⊤, IsSomeAnd, codes}
use Rattle.whole_number.specs.Spelling.{SpellsInteger}
use Rattle.csv_load.specs.Fields.{Fields, fields_of_line}
use Rattle.csv_load.specs.Decimals.{SpellsDecimal}
use Rattle.csv_load.specs.declared.row.Row.{Row}
use Rattle.csv_load.specs.declared.row.Row.TheVariants.{Point, Skip, Header}
use Rattle.csv_load.specs.declared.row.RowCause.{RowCause}
use Rattle.csv_load.specs.declared.row.RowCause.TheVariants as cause
use Rattle.csv_load.specs.declared.row.RowError.{RowError}
use Rattle.csv_load.specs.declared.row.RowError.TheVariants.{BadRow, NoMemory}

-- the fields name the columns
abbrev pub IsHeader : Fields → Type 0
IsHeader fields = (fields.time ≡ codes "time") × (fields.value ≡ codes "value")

-- a field of a value that is missing
abbrev pub IsMissing : List ℕ → Type 0
IsMissing value = (value ≡ []) ⊎ (value ≡ codes "-")

-- the fields are this row, of a series with this scale
abbrev pub FieldsSay : ℕ → Fields → Row → Type 0
FieldsSay scale fields (Point time value) = SpellsInteger fields.time time × SpellsDecimal scale fields.value value
FieldsSay scale fields (Skip time) = SpellsInteger fields.time time × IsMissing fields.value
FieldsSay scale fields Header = IsHeader fields

-- the first thing that is wrong with the fields: the time is no integer, or it is one, and the value is
-- neither missing nor a decimal with so many places
abbrev pub FieldsFail : ℕ → Fields → RowCause → Type 0
FieldsFail scale fields cause.Fields = ⊥
FieldsFail scale fields cause.Time = ¬ IsHeader fields × ((time : ℤ) → SpellsInteger fields.time time → ⊥)
FieldsFail scale fields cause.Value =
    ((time : ℤ) × SpellsInteger fields.time time) × ¬ IsMissing fields.value × ((value : ℤ) → SpellsDecimal scale fields.value value → ⊥)

-- the line is this row
abbrev pub Says : ℕ → List ℕ → Row → Type 0
Says scale line row = IsSomeAnd (fields_of_line line) (λ fields. FieldsSay scale fields row)

-- the line is no row, and this is the first thing that is wrong with it
abbrev pub Fails : ℕ → List ℕ → RowCause → Type 0
Fails scale line cause.Fields = fields_of_line line ≡ None
Fails scale line cause.Time = IsSomeAnd (fields_of_line line) (λ fields. FieldsFail scale fields cause.Time)
Fails scale line cause.Value = IsSomeAnd (fields_of_line line) (λ fields. FieldsFail scale fields cause.Value)

-- why a line gives no row
abbrev pub Refuses : ℕ → List ℕ → RowError → Type 0
Refuses scale line (BadRow cause) = Fails scale line cause
Refuses scale line NoMemory = ⊤

-- why two fields give no row
abbrev pub IsBadFields : ℕ → Fields → RowError → Type 0
IsBadFields scale fields (BadRow cause) = FieldsFail scale fields cause
IsBadFields scale fields NoMemory = ⊥
