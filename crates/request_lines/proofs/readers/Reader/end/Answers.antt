use Rattle.std.proofs.Common.{◌≡◌, length, Some, sym, ap, ◌∙◌}
use Rattle.request_lines.specs.Tokens.{Cursor}
use Rattle.request_lines.proofs.TokenLemmas.{tokens_left-none, beyond}
use Rattle.request_lines.proofs.GrammarLemmas.{fault-more}
use Rattle.request_lines.proofs.readers.Reader.end.Goals as goal

pub returns-then-has_token-clause-err : goal.returns-then-has_token-clause-err
returns-then-has_token-clause-err c =
    let at : c.self.inside.at ≡ c.args.self.now.at = ap (λ (cursor : Cursor). cursor.at) c.self.view_is in
    fault-more _ c.args.self.now (c.has_token.ensures.0 c.if-has_token.true) ∙ ap Some (sym at)

pub returns-clause-ok : goal.returns-clause-ok
returns-clause-ok c =
    tokens_left-none c.args.self.now (beyond _ c.args.self.now.at (length c.args.self.now.line) c.has_token.ensures.1 c.if-has_token.false)
