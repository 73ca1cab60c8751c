use Rattle.std.proofs.Common.{◌≡◌, ◌∙◌, ◌≤◌, ℕ, IfOk, List, length, sym, ap, subst}
use Rattle.request_lines.specs.Tokens.{tokens}
use Rattle.host_lines.specs.Grammar.{Allow, left, places_fault, unless, values_named, values_places}
use Rattle.host_lines.specs.declared.asked.HostLine.{HostLine}
use Rattle.host_lines.proofs.LineLemmas.{fault_there, left_there}
use Rattle.host_lines.proofs.PlaceLemmas.{fault_allow}
use Rattle.host_lines.proofs.lines.values.Goals as goal

pub tail_at-requires : goal.tail_at-requires
tail_at-requires c = let line = c.args.line.now in let at = c.args.at in fault_there line _ _ at c.in-None.ensures.fault

pub values_named-requires : goal.values_named-requires
values_named-requires c =
    let line = c.args.line.now in
    let at = c.args.at in
    let there : at ≤ length line = fault_there line _ _ at c.in-None.ensures.fault in
    let words : left line at ≡ tokens c.tail_at.result.now = left_there line at there ∙ ap tokens (sym c.tail_at.ensures) in
    let A : List (List ℕ) → Type 0 = Allow values_places in
    subst A words (fault_allow (length line) values_places (left line at) at (sym c.in-None.ensures.fault))

pub returns-in-None-clause-asked : goal.returns-in-None-clause-asked
returns-in-None-clause-asked c =
    let line = c.args.line.now in
    let at = c.args.at in
    let there : at ≤ length line = fault_there line _ _ at c.in-None.ensures.fault in
    let words : left line at ≡ tokens c.tail_at.result.now = left_there line at there ∙ ap tokens (sym c.tail_at.ensures) in
    let same : values_named (tokens c.tail_at.result.now) ≡ unless (places_fault (length line) values_places (left line at) at)
    (values_named (left line at)) =
    sym (ap values_named words) ∙ ap (λ o. unless o (values_named (left line at))) c.in-None.ensures.fault in
    let P : HostLine → Type 0 = λ x. IfOk c.values_named.result (λ asked. asked ≡ x) in
    subst P same c.values_named.ensures.asked
