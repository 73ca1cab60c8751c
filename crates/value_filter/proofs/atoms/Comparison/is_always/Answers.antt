use Rattle.std.proofs.Common.{true, false}
use lib.Signed.{lt_z, le_z}
use Rattle.std.specs.Int.{w128}
use Rattle.std.proofs.lemmas.Int.{to_z-of_z}
use Rattle.value_filter.specs.declared.atoms.Comparison.TheVariants.{Less, LessOrEqual, Equal, NotEqual, GreaterOrEqual, Greater}
use Rattle.value_filter.proofs.Compared.{once_not_equal, less_at, up_to_at, from_at, greater_at, past_end, unequal_below, unequal_above}
use Rattle.value_filter.proofs.Compared.{equal_at, plain, plain_other, plain_apart, always_is, once_low, once_high}
use Rattle.value_filter.proofs.atoms.Comparison.is_always.Goals as goal

pub returns-else-number-low-2-clause-once : goal.returns-else-number-low-2-clause-once
returns-else-number-low-2-clause-once c = λ high.
    once_not_equal c.args.self _ _ _ c.args.low c.args.high c.args.number
    (to_z-of_z w128 c.args.low c.ranges.low) (to_z-of_z w128 c.args.high c.ranges.high) (to_z-of_z w128 c.args.number c.ranges.number)
    c.in-NotEqual.is c.if-number-low-2.false high

pub returns-in-Less-clause-always : goal.returns-in-Less-clause-always
returns-in-Less-clause-always c = λ is.
    always_is c.args.self Less _ _ _ c.in-Less.is (λ x within. less_at x c.args.high c.args.number
    (plain lt_z c.args.high c.args.number true c.ranges.high c.ranges.number is) within.1)

pub returns-in-Less-clause-once : goal.returns-in-Less-clause-once
returns-in-Less-clause-once c = λ is.
    once_high c.args.self Less c.args.low c.args.high c.args.number c.in-Less.is c.requires
    (plain lt_z c.args.high c.args.number false c.ranges.high c.ranges.number is)

pub returns-in-LessOrEqual-clause-always : goal.returns-in-LessOrEqual-clause-always
returns-in-LessOrEqual-clause-always c = λ is.
    always_is c.args.self LessOrEqual _ _ _ c.in-LessOrEqual.is
    (λ x within. up_to_at x c.args.high c.args.number
    (plain le_z c.args.high c.args.number true c.ranges.high c.ranges.number is) within.1)

pub returns-in-LessOrEqual-clause-once : goal.returns-in-LessOrEqual-clause-once
returns-in-LessOrEqual-clause-once c = λ is.
    once_high c.args.self LessOrEqual c.args.low c.args.high c.args.number c.in-LessOrEqual.is c.requires
    (past_end c.args.high c.args.number (plain le_z c.args.high c.args.number false c.ranges.high c.ranges.number is))

pub returns-in-GreaterOrEqual-clause-always : goal.returns-in-GreaterOrEqual-clause-always
returns-in-GreaterOrEqual-clause-always c = λ is.
    always_is c.args.self GreaterOrEqual _ _ _ c.in-GreaterOrEqual.is
    (λ x within. from_at x c.args.low c.args.number (plain le_z c.args.number c.args.low true c.ranges.number c.ranges.low is) within.0)

pub returns-in-GreaterOrEqual-clause-once : goal.returns-in-GreaterOrEqual-clause-once
returns-in-GreaterOrEqual-clause-once c = λ is.
    once_low c.args.self GreaterOrEqual c.args.low c.args.high c.args.number c.in-GreaterOrEqual.is c.requires
    (past_end c.args.number c.args.low (plain le_z c.args.number c.args.low false c.ranges.number c.ranges.low is))

pub returns-in-Greater-clause-always : goal.returns-in-Greater-clause-always
returns-in-Greater-clause-always c = λ is.
    always_is c.args.self Greater _ _ _ c.in-Greater.is
    (λ x within. greater_at x c.args.low c.args.number
    (plain lt_z c.args.number c.args.low true c.ranges.number c.ranges.low is) within.0)

pub returns-in-Greater-clause-once : goal.returns-in-Greater-clause-once
returns-in-Greater-clause-once c = λ is.
    once_low c.args.self Greater c.args.low c.args.high c.args.number c.in-Greater.is c.requires
    (plain lt_z c.args.number c.args.low false c.ranges.number c.ranges.low is)

pub returns-then-number-low-clause-always : goal.returns-then-number-low-clause-always
returns-then-number-low-clause-always c = λ is.
    always_is c.args.self Equal _ _ _ c.in-Equal.is
    (λ x within. equal_at x c.args.low c.args.high c.args.number c.ranges.low c.ranges.high c.ranges.number c.if-number-low.true is
    within.0 within.1)

pub returns-then-number-low-clause-once : goal.returns-then-number-low-clause-once
returns-then-number-low-clause-once c = λ is.
    once_high c.args.self Equal c.args.low c.args.high c.args.number c.in-Equal.is c.requires (plain_other c.args.number c.args.high is)

pub returns-else-number-low-clause-once : goal.returns-else-number-low-clause-once
returns-else-number-low-clause-once c = λ is.
    once_low c.args.self Equal c.args.low c.args.high c.args.number c.in-Equal.is c.requires
    (plain_apart c.args.number c.args.low c.if-number-low.false)

pub returns-then-number-low-2-clause-always : goal.returns-then-number-low-2-clause-always
returns-then-number-low-2-clause-always c = λ is.
    always_is c.args.self NotEqual _ _ _ c.in-NotEqual.is
    (λ x within. unequal_below x c.args.low c.args.number
    (plain lt_z c.args.number c.args.low true c.ranges.number c.ranges.low c.if-number-low-2.true) within.0)

pub returns-else-number-low-2-clause-always : goal.returns-else-number-low-2-clause-always
returns-else-number-low-2-clause-always c = λ is.
    always_is c.args.self NotEqual _ _ _ c.in-NotEqual.is
    (λ x within. unequal_above x c.args.high c.args.number
    (plain lt_z c.args.high c.args.number true c.ranges.high c.ranges.number is) within.1)
