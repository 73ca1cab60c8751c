use Rattle.std.proofs.Common.{arith, rules}
use Rattle.host_lines.specs.Grammar.{rule_fault}
use Rattle.host_lines.proofs.LineLemmas.{rule_missing, rule_word}
use Rattle.host_lines.proofs.faults.rule_fault.Goals as goal

pub returns-then-at-line-clause-fault : goal.returns-then-at-line-clause-fault
returns-then-at-line-clause-fault c = rule_missing c.args.line.now c.args.at c.if-at-line.true

pub returns-then-eq-clause-fault : goal.returns-then-eq-clause-fault
unfolding rule_fault
returns-then-eq-clause-fault c = rw (rule_word c.args.line.now c.args.at c.token_at-word.result.now
    (omega arith) c.token_at-word.ensures.token) (search rules)

pub returns-then-eq-2-clause-fault : goal.returns-then-eq-2-clause-fault
unfolding rule_fault
returns-then-eq-2-clause-fault c = rw (rule_word c.args.line.now c.args.at c.token_at-word.result.now
    (omega arith) c.token_at-word.ensures.token) (search rules)

pub returns-then-eq-3-clause-fault : goal.returns-then-eq-3-clause-fault
unfolding rule_fault
returns-then-eq-3-clause-fault c = rw (rule_word c.args.line.now c.args.at c.token_at-word.result.now
    (omega arith) c.token_at-word.ensures.token) (search rules)

pub returns-clause-fault : goal.returns-clause-fault
unfolding rule_fault
returns-clause-fault c = rw (rule_word c.args.line.now c.args.at c.token_at-word.result.now (omega arith) c.token_at-word.ensures.token)
    (search rules)
