use Rattle.std.proofs.Common.{◌≡◌, Err, Some, ap, arith, length}
use Rattle.std.proofs.lemmas.Grind.{common_steps}
use Rattle.chart_world.specs.LineLaws.{says_text}
use Rattle.series_store.specs.Shown as shown
use Rattle.store_commands.specs.Sides.{side_of}
use Rattle.derive_command.specs.Answers.{by_book}
use Rattle.derive_command.specs.Catalogs.{by_memory}
use Rattle.derive_command.proofs.DoingLemmas.{line_bad, line_empty, line_of_request}
use Rattle.derive_command.proofs.answering.answer_line.Goals as goal

pub returns-then-is_empty-clause-does : goal.returns-then-is_empty-clause-does
returns-then-is_empty-clause-does g c = λ total book told stands.
    let none : length c.args.line.now ≡ 0 = (grind (arith, common_steps, c.is_empty.ensures, c.if-is_empty.true)) in
    line_empty _ (by_book book) c.args.line.now c.args.at (g.P.Streams.sent (shown.pages c.args.store.now)) none

pub returns-in-Ok-clause-does : goal.returns-in-Ok-clause-does
returns-in-Ok-clause-does g c = λ total book told stands.
    let sent = g.P.Streams.sent in
    line_of_request (by_book book) c.args.line.now c.args.at (sent (shown.pages c.args.store.now))
    (sent (shown.pages c.answer_request.new.store)) c.answer_request.result c.in-Ok.request c.in-Ok.ensures.spelt
    (c.answer_request.ensures.does total book told stands)

pub returns-in-Err-NoRequest-clause-does : goal.returns-in-Err-NoRequest-clause-does
returns-in-Err-NoRequest-clause-does g c = λ total book told stands.
    line_bad (by_book book) (Some c.args.line.now) c.args.at c.from.result (g.P.Streams.sent (shown.pages c.args.store.now)) c.from.ensures
    (says_text c.args.line.now (grind (arith, common_steps, c.is_empty.ensures, c.if-is_empty.false)))
    (c.in-Err-NoRequest.ensures.none (ap Err c.in-Err-NoRequest.field-0-is))

pub returns-then-is_empty-clause-records : goal.returns-then-is_empty-clause-records
returns-then-is_empty-clause-records g c =
    let none : length c.args.line.now ≡ 0 = (grind (arith, common_steps, c.is_empty.ensures, c.if-is_empty.true)) in
    line_empty _ (by_memory (shown.catalog c.args.store.now) (side_of g.P.Streams c.args.store.now)) c.args.line.now c.args.at
    (g.P.Streams.sent (shown.pages c.args.store.now)) none

pub returns-in-Ok-clause-records : goal.returns-in-Ok-clause-records
returns-in-Ok-clause-records g c =
    let sent = g.P.Streams.sent in
    line_of_request (by_memory (shown.catalog c.args.store.now) (side_of g.P.Streams c.answer_request.new.store)) c.args.line.now c.args.at
    (sent (shown.pages c.args.store.now)) (sent (shown.pages c.answer_request.new.store)) c.answer_request.result c.in-Ok.request
    c.in-Ok.ensures.spelt c.answer_request.ensures.records

pub returns-in-Err-NoRequest-clause-records : goal.returns-in-Err-NoRequest-clause-records
returns-in-Err-NoRequest-clause-records g c =
    line_bad (by_memory (shown.catalog c.args.store.now) (side_of g.P.Streams c.args.store.now))
    (Some c.args.line.now) c.args.at c.from.result
    (g.P.Streams.sent (shown.pages c.args.store.now)) c.from.ensures
    (says_text c.args.line.now (grind (arith, common_steps, c.is_empty.ensures, c.if-is_empty.false)))
    (c.in-Err-NoRequest.ensures.none (ap Err c.in-Err-NoRequest.field-0-is))
