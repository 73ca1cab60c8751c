-- What a filter is, and its truth at a point.
use Rattle.std.specs.Prelude.{ℤ, Bool, int_lt, not, ◌&&◌, ◌||◌}
use Rattle.std.specs.Ordering.{int_eq}
use Rattle.value_filter.specs.declared.atoms.Subject.{Subject}
use Rattle.value_filter.specs.declared.atoms.Subject.TheVariants.{Time, Value}
use Rattle.value_filter.specs.declared.atoms.Comparison.{Comparison}
use Rattle.value_filter.specs.declared.atoms.Comparison.TheVariants.{Less, LessOrEqual, Equal, NotEqual, GreaterOrEqual, Greater}
use Rattle.value_filter.specs.declared.atoms.Atom.{Atom}

-- a filter: an atom, or `not`, `and` or `or` of filters
pub data Expression : Type 0 where
  Compare : Atom → Expression
  Negate : Expression → Expression
  Both : Expression → Expression → Expression
  Either : Expression → Expression → Expression

-- whether a number compares so with another
abbrev pub compares : Comparison → ℤ → ℤ → Bool
compares Less x number = int_lt x number
compares LessOrEqual x number = not (int_lt number x)
compares Equal x number = int_eq x number
compares NotEqual x number = not (int_eq x number)
compares GreaterOrEqual x number = not (int_lt x number)
compares Greater x number = int_lt number x

-- the comparison that holds exactly where this one doesn't
abbrev pub opposite : Comparison → Comparison
opposite Less = GreaterOrEqual
opposite LessOrEqual = Greater
opposite Equal = NotEqual
opposite NotEqual = Equal
opposite GreaterOrEqual = Less
opposite Greater = LessOrEqual

-- what of a point an atom compares
abbrev pub subject_of : {A : Type 0} → Subject → A → A → A
subject_of Time time value = time
subject_of Value time value = value

abbrev pub atom_holds : Atom → ℤ → ℤ → Bool
atom_holds atom time value = compares atom.comparison (subject_of atom.subject time value) atom.number

-- a filter's truth at the point with this time and this value
abbrev pub holds_at : Expression → ℤ → ℤ → Bool
holds_at (Compare atom) time value = atom_holds atom time value
holds_at (Negate f) time value = not (holds_at f time value)
holds_at (Both f g) time value = holds_at f time value && holds_at g time value
holds_at (Either f g) time value = holds_at f time value || holds_at g time value
