-- What an answer says of each point of its box.
use Rattle.std.proofs.Common.{◌≡◌, Bool, true, false, ℤ, not, ◌&&◌, ◌||◌, refl, sym, ap, ◌∙◌, subst, arith}
use Rattle.std.proofs.lemmas.Int.{ints}
use Rattle.std.proofs.Math.Bool.{not-not}
use Rattle.value_filter.specs.declared.atoms.Subject.{Subject}
use Rattle.value_filter.specs.declared.atoms.Subject.TheVariants.{Time, Value}
use Rattle.value_filter.specs.declared.atoms.Comparison.{Comparison}
use Rattle.value_filter.specs.declared.atoms.Comparison.TheVariants.{Less, LessOrEqual, Equal, NotEqual, GreaterOrEqual, Greater}
use Rattle.value_filter.specs.declared.atoms.Atom.{Atom}
use Rattle.value_filter.specs.declared.box_answers.BoxAnswer.{BoxAnswer}
use Rattle.value_filter.specs.declared.box_answers.BoxAnswer.TheVariants.{All, Nothing, Mixed}
use Rattle.value_filter.specs.Expressions.{Expression, Compare, Negate, Both, Either, compares, opposite, subject_of, holds_at}
use Rattle.value_filter.specs.Boxes.{Interval, IsWithin, IsAnswer, IsAtomAnswer, interval_of, negated, both_of, either_of}

-- what an answer says of a truth value
abbrev pub Says : BoxAnswer → Bool → Type 0
Says All holds = holds ≡ true
Says Nothing holds = holds ≡ false
Says Mixed holds = Unit {0}

says_not : (a : BoxAnswer) (p : Bool) → Says a p → Says (negated a) (not p)
says_not All p s = ap not s
says_not Nothing p s = ap not s
says_not Mixed p s = tt

says_and : (a b : BoxAnswer) (p q : Bool) → Says a p → Says b q → Says (both_of a b) (p && q)
says_and All All p q s t = grind (arith, s, t)
says_and All Nothing p q s t = grind (arith, s, t)
says_and All Mixed p q s t = tt
says_and Nothing b p q s t = grind (arith, s)
says_and Mixed Nothing true q s t = t
says_and Mixed Nothing false q s t = refl
says_and Mixed All p q s t = tt
says_and Mixed Mixed p q s t = tt

says_or : (a b : BoxAnswer) (p q : Bool) → Says a p → Says b q → Says (either_of a b) (p || q)
says_or All b p q s t = grind (arith, s)
says_or Nothing All p q s t = grind (arith, s, t)
says_or Nothing Nothing p q s t = grind (arith, s, t)
says_or Nothing Mixed p q s t = tt
says_or Mixed All true q s t = refl
says_or Mixed All false q s t = t
says_or Mixed Nothing p q s t = tt
says_or Mixed Mixed p q s t = tt

says_same : (a b : BoxAnswer) (p : Bool) → a ≡ b → Says b p → Says a p
says_same a b p e s = let P : BoxAnswer → Type 0 = λ x. Says x p in subst P (sym e) s

subject_within : (subject : Subject) (times values : Interval) (t v : ℤ) → IsWithin times t → IsWithin values v
    → IsWithin (interval_of subject times values) (subject_of subject t v)
subject_within Time times values t v in_times in_values = in_times
subject_within Value times values t v in_times in_values = in_values

atom_says : (a : BoxAnswer) (atom : Atom) (interval : Interval) (x : ℤ) → IsAtomAnswer atom interval a → IsWithin interval x
    → Says a (compares atom.comparison x atom.number)
atom_says All atom interval x is within = is x within
atom_says Nothing atom interval x is within = is x within
atom_says Mixed atom interval x is within = tt

pub everywhere : (f : Expression) (times values : Interval) (answer : BoxAnswer) (t v : ℤ) → IsAnswer f times values answer
    → IsWithin times t → IsWithin values v → Says answer (holds_at f t v)
everywhere (Compare atom) times values answer t v is in_times in_values =
    atom_says answer atom (interval_of atom.subject times values) (subject_of atom.subject t v) is
    (subject_within atom.subject times values t v in_times in_values)
everywhere (Negate f) times values answer t v is in_times in_values =
    says_same answer (negated is.0) (not (holds_at f t v)) is.2
    (says_not is.0 (holds_at f t v) (everywhere f times values is.0 t v is.1 in_times in_values))
everywhere (Both f g) times values answer t v is in_times in_values =
    says_same answer (both_of is.0 is.1) (holds_at f t v && holds_at g t v) is.4
    (says_and is.0 is.1 (holds_at f t v) (holds_at g t v) (everywhere f times values is.0 t v is.2 in_times in_values)
    (everywhere g times values is.1 t v is.3 in_times in_values))
everywhere (Either f g) times values answer t v is in_times in_values =
    says_same answer (either_of is.0 is.1) (holds_at f t v || holds_at g t v) is.4
    (says_or is.0 is.1 (holds_at f t v) (holds_at g t v) (everywhere f times values is.0 t v is.2 in_times in_values)
    (everywhere g times values is.1 t v is.3 in_times in_values))

-- the opposite of a comparison holds exactly where it doesn't
pub compares-opposite : (c : Comparison) (x n : ℤ) → compares (opposite c) x n ≡ not (compares c x n)
compares-opposite Less x n = refl
compares-opposite LessOrEqual x n = sym (not-not (compares (opposite LessOrEqual) x n))
compares-opposite Equal x n = refl
compares-opposite NotEqual x n = sym (not-not (compares (opposite NotEqual) x n))
compares-opposite GreaterOrEqual x n = sym (not-not (compares (opposite GreaterOrEqual) x n))
compares-opposite Greater x n = refl

-- at a single point nothing is mixed
abbrev pub IsSure : BoxAnswer → Type 0
IsSure All = Unit {0}
IsSure Nothing = Unit {0}
IsSure Mixed = ⊥

sure_not : (a : BoxAnswer) → IsSure a → IsSure (negated a)
sure_not All s = tt
sure_not Nothing s = tt
sure_not Mixed s = s

sure_and : (a b : BoxAnswer) → IsSure a → IsSure b → IsSure (both_of a b)
sure_and All b s t = t
sure_and Nothing b s t = tt
sure_and Mixed b s t = absurd s

sure_or : (a b : BoxAnswer) → IsSure a → IsSure b → IsSure (either_of a b)
sure_or All b s t = tt
sure_or Nothing b s t = t
sure_or Mixed b s t = absurd s

sure_same : (a b : BoxAnswer) → a ≡ b → IsSure b → IsSure a
sure_same a b e s = subst IsSure (sym e) s

alone : (x t : ℤ) → IsWithin (t, t) x → x ≡ t
alone x t within = omega (arith, ints, within.0, within.1)

sure_interval : (c : Comparison) (n t : ℤ) (x y : ℤ) → IsWithin (t, t) x → IsWithin (t, t) y → compares c x n ≡ true
    → compares c y n ≡ false → ⊥
sure_interval c n t x y in_x in_y holds fails =
    let e : true ≡ false = sym holds ∙ ap (λ z. compares c z n) (alone x t in_x ∙ sym (alone y t in_y)) ∙ fails in
    cc

sure_atom : (a : BoxAnswer) (atom : Atom) (t : ℤ) → IsAtomAnswer atom (t, t) a → IsSure a
sure_atom All atom t is = tt
sure_atom Nothing atom t is = tt
sure_atom Mixed atom t is = sure_interval atom.comparison atom.number t is.0.0 is.1.0 is.0.1 is.1.1 is.0.2 is.1.2

sure_subject : (a : BoxAnswer) (subject : Subject) (atom : Atom) (t v : ℤ) → IsAtomAnswer atom (interval_of subject (t, t) (v, v)) a
    → IsSure a
sure_subject a Time atom t v is = sure_atom a atom t is
sure_subject a Value atom t v is = sure_atom a atom v is

pub sure : (f : Expression) (answer : BoxAnswer) (t v : ℤ) → IsAnswer f (t, t) (v, v) answer → IsSure answer
sure (Compare atom) answer t v is = sure_subject answer atom.subject atom t v is
sure (Negate f) answer t v is = sure_same answer (negated is.0) is.2 (sure_not is.0 (sure f is.0 t v is.1))
sure (Both f g) answer t v is = sure_same answer (both_of is.0 is.1) is.4 (sure_and is.0 is.1 (sure f is.0 t v is.2) (sure g is.1 t v is.3))
sure (Either f g) answer t v is = sure_same answer (either_of is.0 is.1) is.4
    (sure_or is.0 is.1 (sure f is.0 t v is.2) (sure g is.1 t v is.3))

-- so the answer at a point is the truth there
abbrev pub is_all : BoxAnswer → Bool
is_all All = true
is_all Nothing = false
is_all Mixed = false

says_sure : (a : BoxAnswer) (p : Bool) → IsSure a → Says a p → is_all a ≡ p
says_sure All p s t = sym t
says_sure Nothing p s t = sym t
says_sure Mixed p s t = absurd s

pub truth : (f : Expression) (answer : BoxAnswer) (t v : ℤ) → IsAnswer f (t, t) (v, v) answer → is_all answer ≡ holds_at f t v
truth f answer t v is =
    says_sure answer (holds_at f t v) (sure f answer t v is)
    (everywhere f (t, t) (v, v) answer t v is (omega (arith, ints), omega (arith, ints)) (omega (arith, ints), omega (arith, ints)))
