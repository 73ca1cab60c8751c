use Rattle.std.proofs.Common.{Ok, ap, sym, ◌∙◌, arith}
use Rattle.live_view.proofs.LineLemmas.{alone-missing, alone-bad, alone-more, alone-ok}
use Rattle.live_view.proofs.live_lines.session_alone.Goals as goal

pub returns-then-at-line-clause-alone : goal.returns-then-at-line-clause-alone
returns-then-at-line-clause-alone c = alone-missing c.args.line.now c.args.at (omega arith)

pub returns-then-not-allows-clause-alone : goal.returns-then-not-allows-clause-alone
returns-then-not-allows-clause-alone c = alone-bad c.args.line.now c.args.at c.token_at-token.result.now
    (omega arith) c.token_at-token.ensures.token (sym c.allows.ensures ∙ c.if-not-allows.true)

pub returns-then-past-line-clause-alone : goal.returns-then-past-line-clause-alone
returns-then-past-line-clause-alone c = alone-more c.args.line.now c.args.at c.token_at-token.result.now
    (omega arith) c.token_at-token.ensures.token (sym c.allows.ensures ∙ c.if-not-allows.false) (omega arith)

pub returns-clause-alone : goal.returns-clause-alone
returns-clause-alone c = ap Ok c.natural_value.ensures.value
    ∙ alone-ok c.args.line.now c.args.at c.token_at-token.result.now (omega arith) c.token_at-token.ensures.token (sym c.allows.ensures
    ∙ c.if-not-allows.false) (omega arith)
