use Rattle.query_rewriter.proofs.Planned.{cut_plan, whole_plan}
use Rattle.query_rewriter.proofs.rewriting.rewrite.Goals as goal

pub returns-in_default-clause-same : goal.returns-in_default-clause-same
returns-in_default-clause-same c = λ slots is values.
    whole_plan c.args.query.now.axis c.args.query.now.grid c.args.query.now.filter c.window_slots-shown.result.0
    c.window_slots-shown.result.1 slots c.in_default.is
    c.window_slots-shown.ensures.from c.window_slots-shown.ensures.end is

pub returns-clause-same : goal.returns-clause-same
returns-clause-same c = λ slots is values.
    cut_plan c.args.query.now.axis c.args.query.now.grid c.args.query.now.filter c.in-Some.filter c.in_ok-left_over.field-0
    c.window_slots-shown.result.0 c.trimmed-slots.result.0 c.trimmed-slots.result.1 c.window_slots-shown.result.1 slots c.in-Some.is
    c.window_slots-shown.ensures.from c.window_slots-shown.ensures.end c.trimmed-slots.ensures.from c.trimmed-slots.ensures.end
    c.trimmed-slots.ensures.front c.trimmed-slots.ensures.back c.in_ok-left_over.ensures is values
