use Rattle.chart_service.specs.Shown as shown
use Rattle.served_lines.proofs.IdleLemmas.{end_does}
use Rattle.served_lines.proofs.line_work.TurnsVecEditLineWorkServiceAnswerEnd.finish.Goals as goal

pub returns-clause-does : goal.returns-clause-does
returns-clause-does g c = λ stand stands.
    let it = c.args.from.now in
    let turns = c.args.self.now in
    end_does g.R.Reply.makes turns.kept.ghost_name turns.kept.now turns.edits.items (shown.IsTold it) (shown.view it) (shown.sessions it)
    (g.P.Streams.sent (shown.pages it)) stand stands
