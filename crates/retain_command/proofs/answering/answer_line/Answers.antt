use Rattle.series_store.specs.Shown as shown
use Rattle.retain_command.specs.Shown.{IsBadOn}
use Rattle.retain_command.proofs.DoingLemmas.{line_fails, line_of_rule, rule_says}
use Rattle.retain_command.proofs.answering.answer_line.Goals as goal

pub returns-in-Ok-clause-does : goal.returns-in-Ok-clause-does
returns-in-Ok-clause-does g c = λ total book told stands.
    let view = g.P.Pages.view in
    let sent = g.P.Streams.sent in
    let pages = shown.pages c.args.store.now in
    let pages' = shown.pages c.answer_rule.new.store in
    line_of_rule total book c.args.line.now c.args.at (view pages) (view pages') (sent pages)
    (sent pages') c.answer_rule.result c.in-Ok.rule c.in-Ok.ensures.spelt (c.answer_rule.ensures.does total book told stands)

pub returns-in-Ok-clause-says : goal.returns-in-Ok-clause-says
returns-in-Ok-clause-says g c =
    let sent = g.P.Streams.sent in
    rule_says c.answer_rule.result c.args.line.now c.in-Ok.rule (sent (shown.pages c.args.store.now))
    (sent (shown.pages c.answer_rule.new.store)) c.in-Ok.ensures.spelt c.answer_rule.ensures.says

pub returns-in-Ok-clause-fails : goal.returns-in-Ok-clause-fails
returns-in-Ok-clause-fails g c =
    let sent = g.P.Streams.sent in
    line_fails c.answer_rule.result c.args.line.now c.in-Ok.rule c.args.at (IsBadOn c.answer_rule.new.store)
    (shown.catalog c.answer_rule.new.store)
    (sent (shown.pages c.args.store.now)) (sent (shown.pages c.answer_rule.new.store)) c.in-Ok.ensures.spelt c.answer_rule.ensures.fails
