use Rattle.series_store.specs.Shown as shown
use Rattle.store_commands.specs.Sides.{side_of}
use Rattle.derive_command.specs.Doing.{IsCause}
use Rattle.derive_command.specs.Working.{StandsSo}
use Rattle.derive_command.proofs.WorkLemmas.{cause_short, line_done, line_known, line_stops, stands_still}
use Rattle.derive_command.proofs.request_work.RequestWorkLineWorkStoreEnd.line.Goals as goal

pub returns-clause-does : goal.returns-clause-does
returns-clause-does g c = λ known stands.
    let sent = g.P.Streams.sent in
    let side = side_of g.P.Streams in
    let old = c.args.from.now in
    let new = c.answer_line.new.store in
    let e = c.answer_line.ensures in
    let before = sent (shown.pages old) in
    let now = sent (shown.pages new) in
    line_done (λ k. StandsSo (shown.IsTold new) (shown.image new) (shown.catalog new) k)
    (side new) known c.args.line.now c.args.at before now c.answer_line.result
    (stands_still (side old) (side new) (shown.catalog old) (shown.catalog new) known e.catalog e.goes stands)
    (line_known {Told = shown.IsTold old} (shown.image old) (shown.catalog old)
    (side new) known c.args.line.now c.args.at before now c.answer_line.result stands e.does e.records)

pub returns-clause-stops : goal.returns-clause-stops
returns-clause-stops g c = λ known stands.
    let sent = g.P.Streams.sent in
    let side = side_of g.P.Streams in
    let old = c.args.from.now in
    let new = c.answer_line.new.store in
    let e = c.answer_line.ensures in
    let before = sent (shown.pages old) in
    let now = sent (shown.pages new) in
    line_stops (side new) known c.args.line.now c.args.at before now c.answer_line.result
    (line_known {Told = shown.IsTold old} (shown.image old) (shown.catalog old)
    (side new) known c.args.line.now c.args.at before now c.answer_line.result stands e.does e.records)

pub returns-clause-cause : goal.returns-clause-cause
returns-clause-cause g c =
    let side = side_of g.P.Streams in
    cause_short (λ end. IsCause end (side c.args.from.now) (side c.answer_line.new.store)) c.answer_line.result c.answer_line.ensures.cause
    c.answer_line.ensures.long
