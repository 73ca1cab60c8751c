use Rattle.served_lines.proofs.line_work.TurnsVecEditLineWorkServiceAnswerEnd.long_line.Goals as goal

pub returns-clause-does : goal.returns-clause-does
returns-clause-does g c = λ stand stands. c.refuse_long.ensures.does stand c.args.at stands

pub returns-clause-leaves : goal.returns-clause-leaves
returns-clause-leaves g c = λ stand stands lasting. c.refuse_long.ensures.leaves stand c.args.at stands lasting
