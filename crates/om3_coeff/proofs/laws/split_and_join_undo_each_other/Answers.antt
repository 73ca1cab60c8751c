use Rattle.om3_coeff.proofs.CoefLemmas.{parts_joined, parts_are}
use Rattle.om3_coeff.proofs.laws.split_and_join_undo_each_other.Goals as goal

pub returns-clause-split : goal.returns-clause-split
returns-clause-split c = parts_joined

pub returns-clause-proper : goal.returns-clause-proper
returns-clause-proper c = λ s k left right e.
    ((parts_are s k left right e).left_proper, (parts_are s k left right e).right_proper)

pub returns-clause-whole : goal.returns-clause-whole
returns-clause-whole c = λ s k left right e. (parts_are s k left right e).whole

pub returns-clause-join : goal.returns-clause-join
returns-clause-join c = λ s k left right e. (parts_are s k left right e).coef
