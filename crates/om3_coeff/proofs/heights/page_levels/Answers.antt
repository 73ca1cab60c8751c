use Rattle.std.proofs.Common.{sym, arith}
use Rattle.om3_coeff.proofs.KeyLemmas.{levels_1, levels_2, levels_3, levels_4, levels_5, levels_least}
use Rattle.om3_coeff.proofs.heights.page_levels.Goals as goal

pub returns-in-0-to-128-clause-levels : goal.returns-in-0-to-128-clause-levels
returns-in-0-to-128-clause-levels c = sym (levels_1 c.args.slots (omega arith))

pub returns-in-129-to-16384-clause-levels : goal.returns-in-129-to-16384-clause-levels
returns-in-129-to-16384-clause-levels c = sym (levels_2 c.args.slots (omega arith) (omega arith))

pub returns-in-16385-to-2097152-clause-levels : goal.returns-in-16385-to-2097152-clause-levels
returns-in-16385-to-2097152-clause-levels c = sym (levels_3 c.args.slots (omega arith) (omega arith))

pub returns-in-16385-to-2097152-clause-least : goal.returns-in-16385-to-2097152-clause-least
returns-in-16385-to-2097152-clause-least c = λ k some covered. levels_least c.args.slots 2 k (omega arith) covered

pub returns-in-2097153-to-268435456-clause-levels : goal.returns-in-2097153-to-268435456-clause-levels
returns-in-2097153-to-268435456-clause-levels c = sym (levels_4 c.args.slots (omega arith) (omega arith))

pub returns-in-2097153-to-268435456-clause-least : goal.returns-in-2097153-to-268435456-clause-least
returns-in-2097153-to-268435456-clause-least c = λ k some covered. levels_least c.args.slots 3 k (omega arith) covered

pub returns-in_default-clause-levels : goal.returns-in_default-clause-levels
returns-in_default-clause-levels c = sym (levels_5 c.args.slots (omega arith))

pub returns-in_default-clause-least : goal.returns-in_default-clause-least
returns-in_default-clause-least c = λ k some covered. levels_least c.args.slots 4 k (omega arith) covered
