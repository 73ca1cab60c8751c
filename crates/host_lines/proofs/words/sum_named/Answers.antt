use Rattle.std.proofs.Common.{◌∙◌, sym, ap}
use Rattle.request_lines.specs.Tokens.{tokens}
use Rattle.host_lines.specs.Grammar.{sum_named}
use Rattle.host_lines.specs.declared.asked.HostLine.TheVariants.{Sum}
use Rattle.host_lines.proofs.NamedLemmas.{sum_is}
use Rattle.host_lines.proofs.words.sum_named.Goals as goal

pub returns-in-Ok-clause-asked : goal.returns-in-Ok-clause-asked
returns-in-Ok-clause-asked c =
    ap (λ n. Sum n c.in-Ok.request) c.session_of-session.ensures.number
    ∙ sym (ap sum_named c.in-Some.ensures.cut ∙ sum_is c.in-Some.session.now c.in-Ok.request
    (tokens c.in-Some.request.now) c.in-Ok.ensures.spelt)
