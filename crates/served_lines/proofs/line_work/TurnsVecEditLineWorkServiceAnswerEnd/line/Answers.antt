use Rattle.std.proofs.Common.{rules, ◌≡◌, ◌<◌, Some, length, arith}
use Rattle.std.proofs.lemmas.Grind.{common_steps}
use Rattle.chart_service.specs.EditGroups.{SpellsEdit}
use Rattle.chart_service.specs.Shown as shown
use Rattle.served_lines.proofs.IdleLemmas.{empty_does}
use Rattle.served_lines.proofs.KeepLemmas.{memory_stops}
use Rattle.served_lines.proofs.Steps.{said_some}
use Rattle.served_lines.proofs.line_work.TurnsVecEditLineWorkServiceAnswerEnd.line.Goals as goal

pub returns-then-is_empty-clause-does : goal.returns-then-is_empty-clause-does
returns-then-is_empty-clause-does g c = λ stand stands.
    let it = c.args.from.now in
    let turns = c.args.self.now in
    let none : length c.args.line.now ≡ 0 = grind (arith, common_steps) in
    empty_does g.R.Reply.makes turns.kept.ghost_name turns.kept.now turns.edits.items (shown.IsTold it) (shown.view it) (shown.sessions it)
    (g.P.Streams.sent (shown.pages it)) stand c.args.at c.args.line.now none stands

pub returns-in-Ok-Some-clause-does : goal.returns-in-Ok-Some-clause-does
returns-in-Ok-Some-clause-does g c = λ stand stands.
    let spells : SpellsEdit (Some c.args.line.now) c.in-Ok-Some.edit = search rules in
    c.keep.ensures.does stand c.args.at (Some c.args.line.now) spells stands

pub returns-in-Ok-Some-clause-leaves : goal.returns-in-Ok-Some-clause-leaves
returns-in-Ok-Some-clause-leaves g c = λ stand stands lasting.
    let spells : SpellsEdit (Some c.args.line.now) c.in-Ok-Some.edit = search rules in
    c.keep.ensures.leaves stand c.args.at (Some c.args.line.now) spells stands lasting

pub returns-in-Ok-None-clause-does : goal.returns-in-Ok-None-clause-does
returns-in-Ok-None-clause-does g c = λ stand stands. c.answer_other.ensures.does stand c.args.at stands

pub returns-in-Ok-None-clause-leaves : goal.returns-in-Ok-None-clause-leaves
returns-in-Ok-None-clause-leaves g c = λ stand stands lasting. c.answer_other.ensures.leaves stand c.args.at stands lasting

pub returns-in-Err-clause-stops : goal.returns-in-Err-clause-stops
returns-in-Err-clause-stops g c = λ stand stands.
    let it = c.args.from.now in
    let turns = c.args.self.now in
    let some : 0 < length c.args.line.now = grind (arith, common_steps) in
    memory_stops g.R.Reply.makes turns.kept.ghost_name turns.kept.now turns.edits.items (shown.IsTold it) (shown.view it) (shown.sessions
    it)
    (g.P.Streams.sent (shown.pages it)) stand c.args.at (Some c.args.line.now) (said_some c.args.line.now some) stands
