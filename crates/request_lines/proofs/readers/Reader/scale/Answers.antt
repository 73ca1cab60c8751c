use Rattle.std.proofs.Common.{ap, ◌∙◌}
use Rattle.request_lines.specs.Grammar.{allows, is_digit_token}
use Rattle.request_lines.proofs.NumberLemmas.{digit_natural}
use Rattle.request_lines.proofs.readers.Reader.scale.Goals as goal

pub natural_value-requires : goal.natural_value-requires
unfolding allows
natural_value-requires c =
    digit_natural c.in_ok-token.token.now (ap is_digit_token c.in_ok-token.ensures.ok.1 ∙ c.in_ok-token.ensures.ok.0.allowed)
