use Rattle.std.proofs.Common.{◌∙◌}
use Rattle.om3_coeff.proofs.CoefLemmas.{parts_both, parts_left, parts_right, parts_neither}
use Rattle.om3_coeff.proofs.joining.parts.Goals as goal

pub returns-in-true-true : goal.returns-in-true-true
returns-in-true-true c =
    c.both.ensures ∙ parts_both c.args.span c.args.coef c.left_part.result c.right_part.result c.in-true-true.is-0 c.in-true-true.is-1
    c.left_part.ensures c.right_part.ensures

pub returns-in-true-false : goal.returns-in-true-false
returns-in-true-false c =
    c.left_alone.ensures ∙ parts_left c.args.span c.args.coef c.one_part.result c.in-true-false.is-0 c.in-true-false.is-1 c.one_part.ensures

pub returns-in-false-true : goal.returns-in-false-true
returns-in-false-true c =
    c.right_alone.ensures ∙ parts_right c.args.span c.args.coef c.one_part-in-false-true.result c.in-false-true.is-0 c.in-false-true.is-1
    c.one_part-in-false-true.ensures

pub returns-in-false-false : goal.returns-in-false-false
returns-in-false-false c = parts_neither c.args.span c.args.coef c.in-false-false.is-0 c.in-false-false.is-1
