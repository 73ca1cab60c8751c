use Rattle.std.proofs.Common.{sym}
use Rattle.request_lines.specs.Tokens.{tokens}
use Rattle.host_lines.proofs.NamedLemmas.{rule_is}
use Rattle.host_lines.proofs.words.rule_named.Goals as goal

pub returns-in-Ok-clause-asked : goal.returns-in-Ok-clause-asked
returns-in-Ok-clause-asked c = sym (rule_is c.in-Ok.rule (tokens c.args.words.now) c.in-Ok.ensures.spelt)
