use Rattle.std.proofs.Common.{◌≡◌, ◌≤◌, List, length, sym, subst, arith}
use Rattle.std.proofs.lemmas.Grind.{common_steps}
use Rattle.series_book.specs.declared.edits.Edit.{Edit}
use Rattle.chart_service.specs.Making.{LinesStop}
use Rattle.chart_service.specs.Shown as shown
use Rattle.chart_service.specs.Stepping.{state_of}
use Rattle.chart_service.proofs.Sending.{error_so}
use Rattle.served_lines.specs.Standing.{IsHeld}
use Rattle.served_lines.specs.Shown.{Unsettled}
use Rattle.served_lines.proofs.SettleLemmas.{both_ok, moments_settled, none_settled, settled, unsettled}
use Rattle.zoom_session.specs.Sessions.{is_open}
use Rattle.chart_service.specs.EditGroups.{SpellEdits}
use Rattle.served_lines.proofs.KeepLemmas.{none_given}
use Rattle.served_lines.proofs.BlameLemmas.{none_last}
use Rattle.served_lines.proofs.settling.settle.Goals as goal

pub returns-then-is_empty-clause-done : goal.returns-then-is_empty-clause-done
returns-then-is_empty-clause-done g c = λ held is.
    let it = c.args.service.now in
    let none : length c.args.turns.now.edits.items ≡ 0 = grind (arith, common_steps) in
    none_settled g.R.Reply.makes held c.args.turns.now.edits.items (shown.IsTold it) (shown.view it) (shown.sessions it)
    c.args.turns.now.kept.now
    (g.P.Streams.sent (shown.pages it)) is none

pub returns-clause-done : goal.returns-clause-done
returns-clause-done g c = λ held is.
    let it = c.args.service.now in
    let new = c.answer_edits-answer.new.service in
    let e = c.answer_edits-answer.ensures in
    let edits = c.as_slice.result.now in
    let kept = c.args.turns.now.kept.now in
    let before = g.P.Streams.sent (shown.pages it) in
    let I : List Edit → Type 0 = λ l. IsHeld held kept l (shown.IsTold it) (shown.view it) (shown.sessions it) before in
    let here = subst I (sym c.as_slice.ensures.value) is in
    both_ok c.answer_edits-answer.result
    (λ after behind. settled g.R.Reply.makes held edits (shown.IsTold it) (shown.view it) (shown.sessions it) kept before here
    (shown.IsTold new) (shown.view new) (shown.sessions new) c.answer_edits-answer.new.kept (g.P.Streams.sent (shown.pages new))
    c.clear.new.self.items c.clear.ensures.items after behind (e.serves.told is.told_so) e.rises
    (e.reads held.state.total held.state.book is.told_so is.stands) (e.syncs held.state.total held.state.book is.told_so is.stands))
    (e.done held.ahead here.spells held.state.total held.state.book is.told_so is.stands)
    (e.behind held.state.total held.state.book is.told_so is.stands)

pub returns-clause-stops : goal.returns-clause-stops
returns-clause-stops g c = λ held is.
    let it = c.args.service.now in
    let new = c.answer_edits-answer.new.service in
    let e = c.answer_edits-answer.ensures in
    let edits = c.as_slice.result.now in
    let kept = c.args.turns.now.kept.now in
    let kept' = c.answer_edits-answer.new.kept in
    let before = g.P.Streams.sent (shown.pages it) in
    let now = g.P.Streams.sent (shown.pages new) in
    let I : List Edit → Type 0 = λ l. IsHeld held kept l (shown.IsTold it) (shown.view it) (shown.sessions it) before in
    let here = subst I (sym c.as_slice.ensures.value) is in
    let some : 1 ≤ length edits = grind (arith, common_steps) in
    let first = state_of held.state.book held.state.total (shown.sessions it) in
    error_so c.answer_edits-answer.result
    (LinesStop g.R.Reply.makes held.ahead kept kept' first (shown.image new) (shown.sessions new) before now)
    (Unsettled g.R.Reply.makes held kept' c.args.turns.now.edits.items (shown.image new) (shown.sessions new) now (shown.view new).reads
    (shown.view new).syncs)
    (λ end why.
    let U : List Edit → Type 0 = λ l. Unsettled g.R.Reply.makes held kept' l (shown.image new) (shown.sessions new) now
    (shown.view new).reads (shown.view new).syncs end in
    subst U c.as_slice.ensures.value
    (unsettled g.R.Reply.makes held edits (shown.IsTold it) (shown.view it) (shown.sessions it) kept before here
    (shown.IsTold new) (shown.view new) (shown.sessions new) kept' now end some why
    (e.reads held.state.total held.state.book is.told_so is.stands) (e.syncs held.state.total held.state.book is.told_so is.stands)))
    (e.stops held.ahead here.spells held.state.total held.state.book is.told_so is.stands)

pub returns-clause-moments : goal.returns-clause-moments
returns-clause-moments g c = λ held is told.
    let it = c.args.service.now in
    let new = c.answer_edits-answer.new.service in
    let e = c.answer_edits-answer.ensures in
    let edits = c.as_slice.result.now in
    let kept = c.args.turns.now.kept.now in
    let before = g.P.Streams.sent (shown.pages it) in
    let I : List Edit → Type 0 = λ l. IsHeld held kept l (shown.IsTold it) (shown.view it) (shown.sessions it) before in
    let here = subst I (sym c.as_slice.ensures.value) is in
    let some : 1 ≤ length edits = grind (arith, common_steps) in
    moments_settled g.R.Reply.makes held edits (shown.IsTold it) (shown.view it) (shown.sessions it) kept before here
    (shown.IsTold new) (shown.view new) (shown.sessions new) c.answer_edits-answer.new.kept (g.P.Streams.sent (shown.pages new))
    some told (e.moments held.ahead here.spells held.state.total held.state.book is.told_so is.stands)

pub returns-then-is_empty-clause-gives : goal.returns-then-is_empty-clause-gives
returns-then-is_empty-clause-gives g c = λ lines spells.
    let it = c.args.service.now in
    let none : length c.args.turns.now.edits.items ≡ 0 = grind (arith, common_steps) in
    none_given g.R.Reply.makes lines c.args.turns.now.edits.items none spells c.args.turns.now.kept.now (λ n. is_open n it.sessions)
    (g.P.Streams.sent (shown.pages it))

pub returns-clause-gives : goal.returns-clause-gives
returns-clause-gives g c = λ lines spells.
    let S : List Edit → Type 0 = λ l. SpellEdits lines l in
    c.answer_edits-answer.ensures.gives lines (subst S (sym c.as_slice.ensures.value) spells)

pub returns-then-is_empty-clause-blames : goal.returns-then-is_empty-clause-blames
returns-then-is_empty-clause-blames g c = λ lines spells.
    let it = c.args.service.now in
    let none : length c.args.turns.now.edits.items ≡ 0 = grind (arith, common_steps) in
    none_last g.R.Reply.makes lines c.args.turns.now.edits.items none spells c.args.turns.now.kept.now it.sessions
    (g.P.Streams.sent (shown.pages it))

pub returns-clause-blames : goal.returns-clause-blames
returns-clause-blames g c = λ lines spells.
    let S : List Edit → Type 0 = λ l. SpellEdits lines l in
    c.answer_edits-answer.ensures.blames lines (subst S (sym c.as_slice.ensures.value) spells)
