use Rattle.series_store.specs.Shown as shown
use Rattle.store_commands.specs.Sides.{side_of}
use Rattle.retain_command.specs.Doing.{IsCause}
use Rattle.retain_command.specs.Shown.{IsBadOn}
use Rattle.retain_command.proofs.WorkLemmas.{cause_short, work_done, work_stops}
use Rattle.retain_command.proofs.rule_work.RuleWorkLineWorkStoreEnd.line.Goals as goal

pub returns-clause-does : goal.returns-clause-does
returns-clause-does g c = λ held stands.
    let sent = g.P.Streams.sent in
    let old = c.args.from.now in
    let new = c.answer_line.new.store in
    let e = c.answer_line.ensures in
    work_done held c.args.line.now c.args.at (shown.view old) (shown.view new) (sent (shown.pages old)) (sent (shown.pages new))
    (shown.IsTold old) (shown.IsTold new) c.answer_line.result e.goes.is_told stands
    (λ known. e.does held.total held.book (stands known).0 (stands known).1) e.says

pub returns-clause-stops : goal.returns-clause-stops
returns-clause-stops g c = λ held stands.
    let sent = g.P.Streams.sent in
    let old = c.args.from.now in
    let new = c.answer_line.new.store in
    let e = c.answer_line.ensures in
    work_stops held c.args.line.now c.args.at (shown.view old) (shown.view new) (sent (shown.pages old)) (sent (shown.pages new))
    (shown.IsTold old) c.answer_line.result (IsBadOn new) (shown.catalog new) stands
    (λ known. e.does held.total held.book (stands known).0 (stands known).1) e.fails

pub returns-clause-leaves : goal.returns-clause-leaves
returns-clause-leaves g c = λ held stands known. (c.answer_line.ensures.does held.total held.book (stands known).0 (stands known).1).moments

pub returns-clause-cause : goal.returns-clause-cause
returns-clause-cause g c =
    let side = side_of g.P.Streams in
    cause_short (λ end. IsCause end (side c.args.from.now) (side c.answer_line.new.store)) c.answer_line.result c.answer_line.ensures.cause
    c.answer_line.ensures.long
