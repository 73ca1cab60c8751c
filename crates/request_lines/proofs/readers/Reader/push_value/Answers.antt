use Rattle.std.proofs.Common.{sym, ap, ◌∙◌}
use Rattle.request_lines.specs.Tokens.{next_token}
use Rattle.request_lines.specs.Grammar.{allows, value_place}
use Rattle.request_lines.proofs.NumberLemmas.{named_place, value_there}
use Rattle.request_lines.proofs.readers.Reader.push_value.Goals as goal

pub named_value-requires : goal.named_value-requires
named_value-requires c =
    named_place c.args.may_miss c.in_ok-token.token.now
    (ap (λ place. allows place c.in_ok-token.token.now) (sym c.value_place.ensures)
    ∙ ap (allows c.value_place.result) c.in_ok-token.ensures.ok.1
    ∙ c.in_ok-token.ensures.ok.0.allowed)

pub returns-clause-there : goal.returns-clause-there
returns-clause-there c all =
    value_there (next_token c.args.self.now)
    (ap (λ place. allows place (next_token c.args.self.now)) (ap value_place (sym all) ∙ sym c.value_place.ensures)
    ∙ c.in_ok-token.ensures.ok.0.allowed)
