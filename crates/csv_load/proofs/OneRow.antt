-- A line has one row or one fault.
use Rattle.std.proofs.Common.{◌≡◌, ℕ, ℤ, pos, negsuc, List, [], ◌∷◌, Option, None, Some, refl, ap, subst, ◌∙◌, arith, inl, inr, get_or}
use Rattle.std.specs.Option.{IsSomeAnd}
use lib.Chars.{codes}
use Rattle.whole_number.specs.Spelling.{SpellsInteger}
use Rattle.whole_number.proofs.Digits.{one_integer, spelling_digits}
use Rattle.csv_load.specs.Decimals.{SpellsDecimal}
use Rattle.csv_load.specs.Fields.{Fields, fields_of_line}
use Rattle.csv_load.specs.Rows.{IsMissing, FieldsSay, FieldsFail, Says, Fails}
use Rattle.csv_load.specs.declared.row.Row.{Row}
use Rattle.csv_load.specs.declared.row.Row.TheVariants.{Point, Skip, Header}
use Rattle.csv_load.specs.declared.row.RowCause.{RowCause}
use Rattle.csv_load.specs.declared.row.RowCause.TheVariants as cause
use Rattle.csv_load.proofs.PartLemmas.{one_decimal, nothing_decimal, hyphen_decimal}

-- a letter begins no number
letter : (cs : List ℕ) (z : ℤ) → SpellsInteger (116 ∷ cs) z → ⊥
letter cs (pos n) spells = omega (arith, (spelling_digits (116 ∷ cs) n spells).0)
letter cs (negsuc n) spells = omega (arith, ap (λ bytes. get_or bytes 0 0) spells.0)

-- the name of the column of times is no time
header_time : (time : List ℕ) (z : ℤ) → time ≡ codes "time" → SpellsInteger time z → ⊥
header_time time z is spells =
    let P : List ℕ → Type 0 = λ x. SpellsInteger x z in
    letter (105 ∷ 109 ∷ 101 ∷ []) z (subst P is spells)

-- a missing value is no decimal
missing_decimal : (scale : ℕ) (value : List ℕ) (z : ℤ) → IsMissing value → SpellsDecimal scale value z → ⊥
missing_decimal scale value z (inl is) spells =
    let P : List ℕ → Type 0 = λ x. SpellsDecimal scale x z in
    nothing_decimal scale z (subst P is spells)
missing_decimal scale value z (inr is) spells =
    let P : List ℕ → Type 0 = λ x. SpellsDecimal scale x z in
    hyphen_decimal scale z (subst P is spells)

one_say : (scale : ℕ) (f : Fields) (r s : Row) → FieldsSay scale f r → FieldsSay scale f s → r ≡ s
one_say scale f (Point t v) (Point u w) one other =
    ap (λ x. Point x v) (one_integer f.time t u one.0 other.0) ∙ ap (λ x. Point u x) (one_decimal scale f.value v w one.1 other.1)
one_say scale f (Point t v) (Skip u) one other = absurd (missing_decimal scale f.value v other.1 one.1)
one_say scale f (Point t v) Header one other = absurd (header_time f.time t other.0 one.0)
one_say scale f (Skip t) (Point u w) one other = absurd (missing_decimal scale f.value w one.1 other.1)
one_say scale f (Skip t) (Skip u) one other = ap (λ x. Skip x) (one_integer f.time t u one.0 other.0)
one_say scale f (Skip t) Header one other = absurd (header_time f.time t other.0 one.0)
one_say scale f Header (Point u w) one other = absurd (header_time f.time u one.0 other.0)
one_say scale f Header (Skip u) one other = absurd (header_time f.time u one.0 other.0)
one_say scale f Header Header one other = refl

no_fault : (scale : ℕ) (f : Fields) (r : Row) (why : RowCause) → FieldsSay scale f r → FieldsFail scale f why → ⊥
no_fault scale f r cause.Fields says fails = fails
no_fault scale f (Point t v) cause.Time says fails = fails.1 t says.0
no_fault scale f (Skip t) cause.Time says fails = fails.1 t says.0
no_fault scale f Header cause.Time says fails = fails.0 says
no_fault scale f (Point t v) cause.Value says fails = fails.2 v says.1
no_fault scale f (Skip t) cause.Value says fails = fails.1 says.1
no_fault scale f Header cause.Value says fails = header_time f.time fails.0.0 says.0 fails.0.1

say_one : (scale : ℕ) (o : Option Fields) (r s : Row) → IsSomeAnd o (λ f. FieldsSay scale f r) → IsSomeAnd o (λ f. FieldsSay scale f s)
    → r ≡ s
say_one scale None r s one other = absurd one
say_one scale (Some f) r s one other = one_say scale f r s one other

pub one_row : (scale : ℕ) (line : List ℕ) (r s : Row) → Says scale line r → Says scale line s → r ≡ s
one_row scale line r s one other = say_one scale (fields_of_line line) r s one other

say_or_fail : (scale : ℕ) (o : Option Fields) (r : Row) (why : RowCause) → IsSomeAnd o (λ f. FieldsSay scale f r)
    → IsSomeAnd o (λ f. FieldsFail scale f why) → ⊥
say_or_fail scale None r why says fails = says
say_or_fail scale (Some f) r why says fails = no_fault scale f r why says fails

none_says : (scale : ℕ) (o : Option Fields) (r : Row) → IsSomeAnd o (λ f. FieldsSay scale f r) → o ≡ None → ⊥
none_says scale None r says none = says
none_says scale (Some f) r says none = cc

pub row_or_fault : (scale : ℕ) (line : List ℕ) (r : Row) (why : RowCause) → Says scale line r → Fails scale line why → ⊥
row_or_fault scale line r cause.Fields says fails = none_says scale (fields_of_line line) r says fails
row_or_fault scale line r cause.Time says fails = say_or_fail scale (fields_of_line line) r cause.Time says fails
row_or_fault scale line r cause.Value says fails = say_or_fail scale (fields_of_line line) r cause.Value says fails

none_fails : (scale : ℕ) (o : Option Fields) (why : RowCause) → IsSomeAnd o (λ f. FieldsFail scale f why) → o ≡ None → ⊥
none_fails scale None why fails none = fails
none_fails scale (Some f) why fails none = cc

time_or_value : (scale : ℕ) (o : Option Fields) → IsSomeAnd o (λ f. FieldsFail scale f cause.Time)
    → IsSomeAnd o (λ f. FieldsFail scale f cause.Value) → ⊥
time_or_value scale None time value = time
time_or_value scale (Some f) time value = time.1 value.0.0 value.0.1

pub one_fault : (scale : ℕ) (line : List ℕ) (why other : RowCause) → Fails scale line why → Fails scale line other → why ≡ other
one_fault scale line cause.Fields cause.Fields first second = refl
one_fault scale line cause.Fields cause.Time first second = absurd (none_fails scale (fields_of_line line) cause.Time second first)
one_fault scale line cause.Fields cause.Value first second = absurd (none_fails scale (fields_of_line line) cause.Value second first)
one_fault scale line cause.Time cause.Fields first second = absurd (none_fails scale (fields_of_line line) cause.Time first second)
one_fault scale line cause.Time cause.Time first second = refl
one_fault scale line cause.Time cause.Value first second = absurd (time_or_value scale (fields_of_line line) first second)
one_fault scale line cause.Value cause.Fields first second = absurd (none_fails scale (fields_of_line line) cause.Value first second)
one_fault scale line cause.Value cause.Time first second = absurd (time_or_value scale (fields_of_line line) second first)
one_fault scale line cause.Value cause.Value first second = refl
