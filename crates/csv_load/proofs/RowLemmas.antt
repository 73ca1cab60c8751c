-- From the fields of a line to its row.
use Rattle.std.proofs.Common.{◌≡◌, ℕ, List, Option, None, Some, Result, Ok, Err, option_map, sym, ap, subst, ◌∙◌}
use Rattle.std.specs.Prelude.{IfOk, IfErr}
use Rattle.std.specs.Option.{IsSomeAnd, option_and_then}
use Rattle.csv.specs.Reading.{records, default_config, strip_bom}
use Rattle.csv_load.specs.Fields.{Fields, only_record, pair_of, trimmed, trimmed_fields, fields_of_line}
use Rattle.csv_load.specs.declared.row.RowError.{RowError}
use Rattle.csv_load.specs.declared.row.RowError.TheVariants.{BadRow, NoMemory}
use Rattle.csv_load.specs.Rows.{IsBadFields, Refuses, FieldsSay, FieldsFail, Says, Fails}
use Rattle.csv_load.specs.declared.row.Row.{Row}
use Rattle.csv_load.specs.declared.row.RowCause.{RowCause}
use Rattle.csv_load.specs.declared.row.RowCause.TheVariants as cause

-- the one record of a line
abbrev pub record_of : List ℕ → Option (List (List ℕ))
record_of line = only_record (records default_config (strip_bom line))

pub no_fields : (line : List ℕ) → record_of line ≡ None → fields_of_line line ≡ None
unfolding fields_of_line
no_fields line none = ap (λ o. option_map trimmed_fields (option_and_then pair_of o)) none

pub no_pair : (line : List ℕ) (fs : List (List ℕ)) → record_of line ≡ Some fs → pair_of fs ≡ None → fields_of_line line ≡ None
unfolding fields_of_line
no_pair line fs is none = ap (λ o. option_map trimmed_fields (option_and_then pair_of o)) is ∙ ap (option_map trimmed_fields) none

pub fields_are : (line : List ℕ) (fs : List (List ℕ)) (t v time value : List ℕ) → record_of line ≡ Some fs
    → Some (record { time = t; value = v }) ≡ pair_of fs
    → time ≡ trimmed t → value ≡ trimmed v → fields_of_line line ≡ Some (record { time = time; value = value })
unfolding fields_of_line
fields_are line fs t v time value is pair time_is value_is =
    let build : List ℕ → List ℕ → Fields = λ a b. record { time = a; value = b } in
    ap (λ o. option_map trimmed_fields (option_and_then pair_of o)) is
    ∙ ap (option_map trimmed_fields) (sym pair)
    ∙ ap (λ a. Some (build a (trimmed v))) (sym time_is)
    ∙ ap (λ b. Some (build time b)) (sym value_is)

pub says_at : (scale : ℕ) (line : List ℕ) (fields : Fields) (row : Row) → fields_of_line line ≡ Some fields → FieldsSay scale fields row
    → Says scale line row
says_at scale line fields row is says =
    let P : Option Fields → Type 0 = λ o. IsSomeAnd o (λ f. FieldsSay scale f row) in
    subst P (sym is) says

pub fails_at : (scale : ℕ) (line : List ℕ) (fields : Fields) (why : RowCause) → fields_of_line line ≡ Some fields
    → FieldsFail scale fields why → Fails scale line why
fails_at scale line fields cause.Fields is fails = absurd fails
fails_at scale line fields cause.Time is fails =
    let P : Option Fields → Type 0 = λ o. IsSomeAnd o (λ f. FieldsFail scale f cause.Time) in
    subst P (sym is) fails
fails_at scale line fields cause.Value is fails =
    let P : Option Fields → Type 0 = λ o. IsSomeAnd o (λ f. FieldsFail scale f cause.Value) in
    subst P (sym is) fails

pub refuses_at : (scale : ℕ) (line : List ℕ) (fields : Fields) (error : RowError) → fields_of_line line ≡ Some fields
    → IsBadFields scale fields error → Refuses scale line error
refuses_at scale line fields (BadRow why) is fails = fails_at scale line fields why is fails
refuses_at scale line fields NoMemory is fails = absurd fails

pub says_in : (scale : ℕ) (line : List ℕ) (fields : Fields) (result : Result Row RowError) → fields_of_line line ≡ Some fields
    → IfOk result (λ row. FieldsSay scale fields row) → IfOk result (λ row. Says scale line row)
says_in scale line fields (Ok row) is says = says_at scale line fields row is says
says_in scale line fields (Err error) is says = tt

pub refuses_in : (scale : ℕ) (line : List ℕ) (fields : Fields) (result : Result Row RowError) → fields_of_line line ≡ Some fields
    → IfErr result (λ error. IsBadFields scale fields error) → IfErr result (λ error. Refuses scale line error)
refuses_in scale line fields (Ok row) is fails = tt
refuses_in scale line fields (Err error) is fails = refuses_at scale line fields error is fails
