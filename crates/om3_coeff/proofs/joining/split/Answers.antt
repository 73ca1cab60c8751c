use Rattle.om3_coeff.proofs.CoefLemmas.{split_bad, split_joined, split_proper, split_whole}
use Rattle.om3_coeff.proofs.joining.split.Goals as goal

pub returns-clause-bad : goal.returns-clause-bad
returns-clause-bad c =
    split_bad c.parts.result _ c.ok_or.result c.args.span c.args.coef c.parts.ensures c.ok_or.ensures.value

pub returns-clause-joined : goal.returns-clause-joined
returns-clause-joined c = λ left right.
    split_joined c.parts.result _ c.ok_or.result c.args.span c.args.coef left right c.parts.ensures c.ok_or.ensures.value

pub returns-clause-proper : goal.returns-clause-proper
returns-clause-proper c =
    split_proper c.parts.result _ c.ok_or.result c.args.span c.args.coef c.parts.ensures c.ok_or.ensures.value

pub returns-clause-whole : goal.returns-clause-whole
returns-clause-whole c =
    split_whole c.parts.result _ c.ok_or.result c.args.span c.args.coef c.parts.ensures c.ok_or.ensures.value
