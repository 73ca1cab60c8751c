-- What a filter says of a box: all points whose time and whose value lie in two intervals.
use Rattle.std.specs.Prelude.{◌≡◌, ℤ, ◌≤ℤ◌, Bool, true, false}
use Rattle.value_filter.specs.declared.atoms.Subject.{Subject}
use Rattle.value_filter.specs.declared.atoms.Comparison.{Comparison}
use Rattle.value_filter.specs.declared.atoms.Atom.{Atom}
use Rattle.value_filter.specs.declared.box_answers.BoxAnswer.{BoxAnswer}
use Rattle.value_filter.specs.declared.box_answers.BoxAnswer.TheVariants.{All, Nothing, Mixed}
use Rattle.value_filter.specs.Expressions.{Expression, Compare, Negate, Both, Either, compares, subject_of}

-- an interval's two ends, which both belong to it
abbrev pub Interval : Type 0
Interval = ℤ × ℤ

abbrev pub IsWithin : Interval → ℤ → Type 0
IsWithin interval x = (interval.0 ≤ℤ x) × (x ≤ℤ interval.1)

abbrev pub interval_of : Subject → Interval → Interval → Interval
interval_of subject times values = subject_of subject times values

-- whether each whole number of an interval, or some, compares so with the number
abbrev pub Always : Comparison → Interval → ℤ → Bool → Type 0
Always comparison interval number holds = (x : ℤ) → IsWithin interval x → compares comparison x number ≡ holds

abbrev pub Once : Comparison → Interval → ℤ → Bool → Type 0
Once comparison interval number holds = (x : ℤ) × IsWithin interval x × (compares comparison x number ≡ holds)

-- a comparison's answer on an interval: All where it holds at each whole number, Nothing where at none
abbrev pub IsIntervalAnswer : Comparison → Interval → ℤ → BoxAnswer → Type 0
IsIntervalAnswer comparison interval number All = Always comparison interval number true
IsIntervalAnswer comparison interval number Nothing = Always comparison interval number false
IsIntervalAnswer comparison interval number Mixed = Once comparison interval number true × Once comparison interval number false

-- an atom's answer
abbrev pub IsAtomAnswer : Atom → Interval → BoxAnswer → Type 0
IsAtomAnswer atom interval answer = IsIntervalAnswer atom.comparison interval atom.number answer

-- the three-valued tables, in which Nothing is false, All is true and Mixed is unknown
abbrev pub negated : BoxAnswer → BoxAnswer
negated All = Nothing
negated Nothing = All
negated Mixed = Mixed

abbrev pub both_of : BoxAnswer → BoxAnswer → BoxAnswer
both_of All b = b
both_of Nothing b = Nothing
both_of Mixed Nothing = Nothing
both_of Mixed All = Mixed
both_of Mixed Mixed = Mixed

abbrev pub either_of : BoxAnswer → BoxAnswer → BoxAnswer
either_of All b = All
either_of Nothing b = b
either_of Mixed All = All
either_of Mixed Nothing = Mixed
either_of Mixed Mixed = Mixed

-- a filter's answer on a box
abbrev pub IsAnswer : Expression → Interval → Interval → BoxAnswer → Type 0
IsAnswer (Compare atom) times values answer = IsAtomAnswer atom (interval_of atom.subject times values) answer
IsAnswer (Negate f) times values answer =
    (a : BoxAnswer) × IsAnswer f times values a × (answer ≡ negated a)
IsAnswer (Both f g) times values answer =
    (a b : BoxAnswer) × IsAnswer f times values a × IsAnswer g times values b × (answer ≡ both_of a b)
IsAnswer (Either f g) times values answer =
    (a b : BoxAnswer) × IsAnswer f times values a × IsAnswer g times values b × (answer ≡ either_of a b)
