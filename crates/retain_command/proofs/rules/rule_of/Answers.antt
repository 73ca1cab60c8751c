use lib.Chars.{codes}
use Rattle.retain_command.proofs.SpellLemmas.{none_before, none_last, word_is}
use Rattle.retain_command.proofs.rules.rule_of.Goals as goal

pub returns-then-eq-clause-none : goal.returns-then-eq-clause-none
returns-then-eq-clause-none c = λ is.
    none_before c.args.line.now c.in-Some.word.now c.in-Some.rest.now c.in-Some.ensures.cut
    (word_is c.in-Some.word.now c.as_slice.result.now (codes "before") c.eq.result c.eq.ensures c.if-eq.true c.as_slice.ensures)
    (c.before-then-eq.ensures.none is)

pub returns-then-eq-2-clause-none : goal.returns-then-eq-2-clause-none
returns-then-eq-2-clause-none c = λ is.
    none_last c.args.line.now c.in-Some.word.now c.in-Some.rest.now c.in-Some.ensures.cut
    (word_is c.in-Some.word.now c.as_slice-2.result.now (codes "last") c.eq-2.result c.eq-2.ensures c.if-eq-2.true c.as_slice-2.ensures)
    (c.last.ensures.none is)
