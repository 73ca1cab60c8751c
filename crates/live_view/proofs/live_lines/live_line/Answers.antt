use Rattle.std.proofs.Common.{arith, rules}
use Rattle.live_view.proofs.LineLemmas.{line-long, line-asks}
use Rattle.live_view.proofs.live_lines.live_line.Goals as goal

pub returns-then-line-gt-LONGEST_LINE-clause-asked : goal.returns-then-line-gt-LONGEST_LINE-clause-asked
returns-then-line-gt-LONGEST_LINE-clause-asked c = line-long c.args.line.now (omega arith)

pub returns-then-eq-clause-asked : goal.returns-then-eq-clause-asked
returns-then-eq-clause-asked c = rw (line-asks c.args.line.now c.first_token-word.result.now (omega arith) c.first_token-word.ensures.token)
    (search rules)

pub returns-then-eq-2-clause-asked : goal.returns-then-eq-2-clause-asked
returns-then-eq-2-clause-asked c = rw (line-asks c.args.line.now c.first_token-word.result.now
    (omega arith) c.first_token-word.ensures.token) (search rules)

pub returns-clause-asked : goal.returns-clause-asked
returns-clause-asked c = rw (line-asks c.args.line.now c.first_token-word.result.now (omega arith) c.first_token-word.ensures.token)
    (search rules)
