-- A filter has one answer on a box that holds a point.
use Rattle.std.proofs.Common.{◌≡◌, true, false, ℤ, ◌≤ℤ◌, refl, sym, ap, ◌∙◌, arith}
use Rattle.std.proofs.lemmas.Int.{ints}
use Rattle.value_filter.specs.declared.atoms.Subject.{Subject}
use Rattle.value_filter.specs.declared.atoms.Subject.TheVariants.{Time, Value}
use Rattle.value_filter.specs.declared.atoms.Comparison.{Comparison}
use Rattle.value_filter.specs.declared.box_answers.BoxAnswer.{BoxAnswer}
use Rattle.value_filter.specs.declared.box_answers.BoxAnswer.TheVariants.{All, Nothing, Mixed}
use Rattle.value_filter.specs.Expressions.{Expression, Compare, Negate, Both, Either, compares}
use Rattle.value_filter.specs.Boxes.{Interval, IsWithin, IsAnswer, IsIntervalAnswer, interval_of, negated, both_of, either_of}

differ : (c : Comparison) (n x : ℤ) → compares c x n ≡ true → compares c x n ≡ false → ⊥
differ c n x holds fails = let e : true ≡ false = sym holds ∙ fails in cc

one_interval : (c : Comparison) (interval : Interval) (n : ℤ) (a b : BoxAnswer) → interval.0 ≤ℤ interval.1 → IsIntervalAnswer c interval n a
    → IsIntervalAnswer c interval n b → a ≡ b
one_interval c i n All All some is other = refl
one_interval c i n All Nothing some is other = let here : IsWithin i i.0 = (omega (arith, ints), some) in
    absurd (differ c n i.0 (is i.0 here) (other i.0 here))
one_interval c i n All Mixed some is other = absurd (differ c n other.1.0 (is other.1.0 other.1.1) other.1.2)
one_interval c i n Nothing All some is other = let here : IsWithin i i.0 = (omega (arith, ints), some) in
    absurd (differ c n i.0 (other i.0 here) (is i.0 here))
one_interval c i n Nothing Nothing some is other = refl
one_interval c i n Nothing Mixed some is other = absurd (differ c n other.0.0 other.0.2 (is other.0.0 other.0.1))
one_interval c i n Mixed All some is other = absurd (differ c n is.1.0 (other is.1.0 is.1.1) is.1.2)
one_interval c i n Mixed Nothing some is other = absurd (differ c n is.0.0 is.0.2 (other is.0.0 is.0.1))
one_interval c i n Mixed Mixed some is other = refl

some_within : (subject : Subject) (times values : Interval) → times.0 ≤ℤ times.1 → values.0 ≤ℤ values.1
    → (interval_of subject times values).0 ≤ℤ (interval_of subject times values).1
some_within Time times values t v = t
some_within Value times values t v = v

pub one_answer : (f : Expression) (times values : Interval) (a b : BoxAnswer) → times.0 ≤ℤ times.1 → values.0 ≤ℤ values.1
    → IsAnswer f times values a → IsAnswer f times values b → a ≡ b
one_answer (Compare atom) times values a b t v is other =
    one_interval atom.comparison (interval_of atom.subject times values) atom.number a b
    (some_within atom.subject times values t v) is other
one_answer (Negate f) times values a b t v is other =
    is.2 ∙ ap negated (one_answer f times values is.0 other.0 t v is.1 other.1) ∙ sym other.2
one_answer (Both f g) times values a b t v is other =
    is.4 ∙ ap (λ x. both_of x is.1) (one_answer f times values is.0 other.0 t v is.2 other.2)
    ∙ ap (both_of other.0) (one_answer g times values is.1 other.1 t v is.3 other.3) ∙ sym other.4
one_answer (Either f g) times values a b t v is other =
    is.4 ∙ ap (λ x. either_of x is.1) (one_answer f times values is.0 other.0 t v is.2 other.2)
    ∙ ap (either_of other.0) (one_answer g times values is.1 other.1 t v is.3 other.3) ∙ sym other.4
