-- Sums of ranges.
use Rattle.std.proofs.Common.{◌≡◌, ℕ, ℤ, pos, ◌≤◌, ◌<◌, ◌+◌, ◌+ℤ◌, List, length, Option, None, Some, arith, sym, ◌∙◌, subst}
use Rattle.std.proofs.Common.{to_z, of_z, w64, ◌*◌, ◌^◌, Result, Ok, Err, IfErr}
use Rattle.std.specs.Prelude.{IsErrAnd, unsigned_abs}
use Rattle.std.proofs.lemmas.Int.{ints, to_z-of_z, fits_signed_from_abs}
use Rattle.om3_coeff.specs.declared.errors.NodeError.{NodeError}
use Rattle.std.proofs.lemmas.Option.{slice_get_within}
use Rattle.om3_coeff.specs.declared.span.Span.{Span}
use Rattle.om3_coeff.specs.Spans.{Holds, IsClear, IsSpanOf, AreExtremes, span_over}
use Rattle.om3_coeff.proofs.ExtremeLemmas.{span_over_is}
use Rattle.derived_chart.specs.declared.sum.Sum.{Sum}
use Rattle.derived_chart.specs.Sums.{Adds, AreSums}
use Rattle.derived_chart.specs.Bounds.{AreBetween, AreBeside, AreProducts}

-- what a range holds, by its span
spanned : (list : List (Option ℤ)) (p q : ℕ) (o : Option Span) → o ≡ span_over list p q → IsSpanOf list p q o
spanned list p q o is = subst (IsSpanOf list p q) (sym is) (span_over_is list p q)

-- where the first series stores nothing, no sum stands
pub first_clear : (sum : Sum) (xs ys sums : List (Option ℤ)) (p q : ℕ) → AreSums sum xs ys sums → None ≡ span_over xs p q → IsClear sums p q
first_clear sum xs ys sums p q are none i v low high holds =
    let adds = (are.each i v).0 holds in
    spanned xs p q None none i adds.x low high adds.first

-- a sum's slot in the second series
second_slot : (sum : Sum) (xs ys sums : List (Option ℤ)) (p q count : ℕ) (r : ℕ × ℕ) (i : ℕ) (v : ℤ) → count ≡ length ys
    → AreBeside sum.shift count p q r → p ≤ i → i < q → (adds : Adds sum xs ys i v) → (r.0 ≤ adds.second.slot) × (adds.second.slot < r.1)
second_slot sum xs ys sums p q count r i v counted beside low high adds =
    let within = slice_get_within ys adds.second.slot (Some adds.y) adds.second.holds in
    beside.each i adds.second.slot low high (omega (arith, within, counted)) adds.second.here

-- where the second series stores nothing beside the range, neither
pub second_clear : (sum : Sum) (xs ys sums : List (Option ℤ)) (p q count : ℕ) (r : ℕ × ℕ) → AreSums sum xs ys sums → count ≡ length ys
    → AreBeside sum.shift count p q r → None ≡ span_over ys r.0 r.1 → IsClear sums p q
second_clear sum xs ys sums p q count r are counted beside none i v low high holds =
    let adds = (are.each i v).0 holds in
    let here = second_slot sum xs ys sums p q count r i v counted beside low high adds in
    spanned ys r.0 r.1 None none adds.second.slot adds.y here.0 here.1 adds.second.holds

-- else they lie between the sums of the products
pub between : (sum : Sum) (xs ys sums : List (Option ℤ)) (p q count : ℕ) (r : ℕ × ℕ) (x y : Span) (b c : ℤ × ℤ) (lo hi : ℤ)
    → AreSums sum xs ys sums → count ≡ length ys → AreBeside sum.shift count p q r
    → Some x ≡ span_over xs p q → Some y ≡ span_over ys r.0 r.1 → AreProducts sum.a x b → AreProducts sum.b y c → lo ≡ b.0 +ℤ c.0
    → hi ≡ b.1 +ℤ c.1 → AreBetween sums p q (Some (lo, hi))
between sum xs ys sums p q count r x y b c lo hi are counted beside first second products others low_is high_is i v low high holds =
    let adds = (are.each i v).0 holds in
    let here = second_slot sum xs ys sums p q count r i v counted beside low high adds in
    let X : AreExtremes xs p q x = spanned xs p q (Some x) first in
    let Y : AreExtremes ys r.0 r.1 y = spanned ys r.0 r.1 (Some y) second in
    let one = products.within adds.x (X.above i adds.x low high adds.first) (X.below i adds.x low high adds.first) in
    let other = others.within adds.y (Y.above adds.second.slot adds.y here.0 here.1 adds.second.holds)
    (Y.below adds.second.slot adds.y here.0 here.1 adds.second.holds) in
    (omega (arith, ints, low_is, adds.is, one.0, other.0), omega (arith, ints, high_is, adds.is, one.1, other.1))

-- one slot holds one value
one_value : (list : List (Option ℤ)) (i j : ℕ) (v w : ℤ) → i ≡ j → Holds list i v → Holds list j w → v ≡ w
one_value list i j v w same first second =
    let P : ℕ → Type 0 = λ n. Holds list n v in
    let both : Some (Some v) ≡ Some (Some w) = sym (subst P same first) ∙ second in
    cc

-- of a single slot it is the sum that stands there
pub here : (sum : Sum) (xs ys sums : List (Option ℤ)) (p q count : ℕ) (r : ℕ × ℕ) (x y : Span) (b c : ℤ × ℤ) (lo hi : ℤ)
    → AreSums sum xs ys sums → count ≡ length ys → AreBeside sum.shift count p q r
    → Some x ≡ span_over xs p q → Some y ≡ span_over ys r.0 r.1 → AreProducts sum.a x b → AreProducts sum.b y c → lo ≡ b.0 +ℤ c.0
    → hi ≡ b.1 +ℤ c.1 → q ≡ p + 1 → Holds sums p lo × (hi ≡ lo)
here sum xs ys sums p q count r x y b c lo hi are counted beside first second products others low_is high_is single =
    let X : AreExtremes xs p q x = spanned xs p q (Some x) first in
    let Y : AreExtremes ys r.0 r.1 y = spanned ys r.0 r.1 (Some y) second in
    let least_x : X.least.slot ≡ p = omega (arith, X.least.low, X.least.high, single) in
    let greatest_x : X.greatest.slot ≡ p = omega (arith, X.greatest.low, X.greatest.high, single) in
    let at_least = beside.only Y.least.slot Y.least.low Y.least.high in
    let at_greatest = beside.only Y.greatest.slot Y.greatest.low Y.greatest.high in
    let least_y : pos Y.least.slot ≡ pos p +ℤ sum.shift = omega (arith, ints, at_least.0, at_least.1, single) in
    let same_slot : Y.least.slot ≡ Y.greatest.slot = omega (arith, ints, at_least.0, at_least.1, at_greatest.0, at_greatest.1, single) in
    let P : ℕ → Type 0 = λ n. Holds xs n x.min in
    let one_x = one_value xs X.least.slot X.greatest.slot x.min x.max (least_x ∙ sym greatest_x) X.least.holds X.greatest.holds in
    let one_y = one_value ys Y.least.slot Y.greatest.slot y.min y.max same_slot Y.least.holds Y.greatest.holds in
    let x_is = products.one one_x in
    let y_is = others.one one_y in (
      (are.each p lo).1 (record {
        x = x.min;
        y = y.min;
        first = subst P least_x X.least.holds;
        second = record { slot = Y.least.slot; here = least_y; holds = Y.least.holds };
        is = omega (arith, ints, low_is, x_is.0, y_is.0);
      }),
      omega (arith, ints, low_is, high_is, x_is.0, x_is.1, y_is.0, y_is.1),
    )

-- what is said of a shift as it is passed
pub beside_as : (shift : ℤ) (count p q : ℕ) (r : ℕ × ℕ) → unsigned_abs shift ≤ 4 * 10 ^ 18
    → AreBeside (to_z w64 (of_z w64 shift)) count p q r → AreBeside shift count p q r
beside_as shift count p q r small = subst (λ z. AreBeside z count p q r)
    (to_z-of_z w64 shift (fits_signed_from_abs w64 shift (omega (arith, small))))

-- an error that is passed on
pub passed_on : {T : Type 0} (result : Result T NodeError) (e : NodeError) (P : NodeError → Type 0) → IsErrAnd result (λ x. x ≡ e) → P e
    → IfErr result P
passed_on (Ok v) e P is holds = tt
passed_on (Err x) e P is holds = subst P (sym is) holds

-- what is said of a result that is there
pub value_between : (list : List (Option ℤ)) (p q : ℕ) (o : Option (ℤ × ℤ)) (b : ℤ × ℤ) → o ≡ Some b → AreBetween list p q o
    → AreBetween list p q (Some b)
value_between list p q o b is = subst (AreBetween list p q) is
