use Rattle.std.proofs.Common.{arith, rules}
use Rattle.host_lines.proofs.LineLemmas.{line_asks, line_long}
use Rattle.host_lines.proofs.lines.host_line.Goals as goal

pub returns-then-line-gt-LONGEST_LINE-clause-asked : goal.returns-then-line-gt-LONGEST_LINE-clause-asked
returns-then-line-gt-LONGEST_LINE-clause-asked c = line_long c.args.line.now (omega arith)

pub returns-then-eq-clause-asked : goal.returns-then-eq-clause-asked
returns-then-eq-clause-asked c = rw (line_asks c.args.line.now c.first_token-word.result.now (omega arith) c.first_token-word.ensures.token)
    (search rules)

pub returns-then-eq-2-clause-asked : goal.returns-then-eq-2-clause-asked
returns-then-eq-2-clause-asked c = rw (line_asks c.args.line.now c.first_token-word.result.now
    (omega arith) c.first_token-word.ensures.token) (search rules)

pub returns-then-eq-3-clause-asked : goal.returns-then-eq-3-clause-asked
returns-then-eq-3-clause-asked c = rw (line_asks c.args.line.now c.first_token-word.result.now
    (omega arith) c.first_token-word.ensures.token) (search rules)

pub returns-then-eq-4-clause-asked : goal.returns-then-eq-4-clause-asked
returns-then-eq-4-clause-asked c = rw (line_asks c.args.line.now c.first_token-word.result.now
    (omega arith) c.first_token-word.ensures.token) (search rules)

pub returns-clause-asked : goal.returns-clause-asked
returns-clause-asked c = rw (line_asks c.args.line.now c.first_token-word.result.now (omega arith) c.first_token-word.ensures.token)
    (search rules)
