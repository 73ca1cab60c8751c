use Rattle.std.proofs.Common.{drop, ap, ◌∙◌}
use Rattle.std.specs.List.{before_first}
use Rattle.std.proofs.lemmas.List.{take_rest}
use Rattle.request_lines.specs.Tokens.{Cursor, is_space, next_token}
use Rattle.request_lines.proofs.readers.Reader.next_token.Goals as goal

pub returns-clause-token : goal.returns-clause-token
unfolding next_token
returns-clause-token c =
    c.first_token.ensures.token
    ∙ ap (before_first is_space) (take_rest c.self.inside.line.now c.self.inside.at)
    ∙ ap (λ (cursor : Cursor). before_first is_space (drop cursor.at cursor.line)) c.self.view_is
