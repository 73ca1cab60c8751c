use Rattle.std.proofs.Common.{sym, ◌∙◌}
use Rattle.value_filter.proofs.Words.{keyword-spells, spells_none}
use Rattle.value_filter.proofs.tokens.Token.of.Goals as goal

pub returns-in-Some-clause-found : goal.returns-in-Some-clause-found
returns-in-Some-clause-found c = keyword-spells c.args.piece.now c.in-Some.token (sym c.keyword.ensures ∙ c.in-Some.is)

pub returns-in_err-number-clause-none : goal.returns-in_err-number-clause-none
returns-in_err-number-clause-none c =
    rw c.from_residual.ensures
    (spells_none c.args.piece.now (sym c.keyword.ensures ∙ c.in_default.is) c.in_err-number.ensures.none)
