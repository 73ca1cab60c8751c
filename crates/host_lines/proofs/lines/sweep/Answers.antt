use Rattle.std.proofs.Common.{◌≡◌, ◌∙◌, ◌≤◌, IfOk, length, sym, ap, subst}
use Rattle.request_lines.specs.Tokens.{tokens}
use Rattle.host_lines.specs.Grammar.{left, rule_fault, rule_named, unless}
use Rattle.host_lines.specs.declared.asked.HostLine.{HostLine}
use Rattle.host_lines.proofs.LineLemmas.{rule_there, left_there}
use Rattle.host_lines.proofs.lines.sweep.Goals as goal

pub tail_at-requires : goal.tail_at-requires
tail_at-requires c = let line = c.args.line.now in let at = c.args.at in rule_there line at c.in-None.ensures.fault

pub returns-in-None-clause-asked : goal.returns-in-None-clause-asked
returns-in-None-clause-asked c =
    let line = c.args.line.now in
    let at = c.args.at in
    let there : at ≤ length line = rule_there line at c.in-None.ensures.fault in
    let words : left line at ≡ tokens c.tail_at.result.now = left_there line at there ∙ ap tokens (sym c.tail_at.ensures) in
    let same : rule_named (tokens c.tail_at.result.now) ≡ unless (rule_fault (length line) (left line at) at) (rule_named (left line at)) =
    sym (ap rule_named words) ∙ ap (λ o. unless o (rule_named (left line at))) c.in-None.ensures.fault in
    let P : HostLine → Type 0 = λ x. IfOk c.rule_named.result (λ asked. asked ≡ x) in
    subst P same c.rule_named.ensures.asked
