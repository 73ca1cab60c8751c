use Rattle.std.proofs.Common.{List, sym, subst}
use Rattle.chart_service.specs.EditGroups.{SpellEdits}
use Rattle.series_book.specs.declared.edits.Edit.{Edit}
use Rattle.hosted_lines.proofs.settling.settle.Goals as goal

pub returns-clause-does : goal.returns-clause-does
returns-clause-does g c = λ lines spell.
    let S : List Edit → Type 0 = λ l. SpellEdits lines l in
    c.do_group-answer.ensures.does lines (subst S (sym c.as_slice.ensures.value) spell)

pub returns-clause-sends : goal.returns-clause-sends
returns-clause-sends g c = λ lines spell.
    let S : List Edit → Type 0 = λ l. SpellEdits lines l in
    c.do_group-answer.ensures.sends lines (subst S (sym c.as_slice.ensures.value) spell)

pub returns-clause-blames : goal.returns-clause-blames
returns-clause-blames g c = λ lines spell.
    let S : List Edit → Type 0 = λ l. SpellEdits lines l in
    c.do_group-answer.ensures.blames lines (subst S (sym c.as_slice.ensures.value) spell)
