use Rattle.std.proofs.Common.{◌≡◌, ◌∙◌, ◌≤◌, ℕ, IfOk, List, length, sym, ap, subst}
use Rattle.request_lines.specs.Tokens.{tokens}
use Rattle.host_lines.specs.Grammar.{Allow, left, places_fault, sum_named, sum_places, unless}
use Rattle.host_lines.specs.declared.asked.HostLine.{HostLine}
use Rattle.host_lines.proofs.LineLemmas.{fault_there, left_there}
use Rattle.host_lines.proofs.PlaceLemmas.{fault_allow}
use Rattle.host_lines.proofs.lines.sum.Goals as goal

pub tail_at-requires : goal.tail_at-requires
tail_at-requires c = let line = c.args.line.now in let at = c.args.at in fault_there line _ _ at c.in-None.ensures.fault

pub sum_named-requires : goal.sum_named-requires
sum_named-requires c =
    let line = c.args.line.now in
    let at = c.args.at in
    let there : at ≤ length line = fault_there line _ _ at c.in-None.ensures.fault in
    let words : left line at ≡ tokens c.tail_at.result.now = left_there line at there ∙ ap tokens (sym c.tail_at.ensures) in
    let A : List (List ℕ) → Type 0 = Allow sum_places in
    subst A words (fault_allow (length line) sum_places (left line at) at (sym c.in-None.ensures.fault))

pub returns-in-None-clause-asked : goal.returns-in-None-clause-asked
returns-in-None-clause-asked c =
    let line = c.args.line.now in
    let at = c.args.at in
    let there : at ≤ length line = fault_there line _ _ at c.in-None.ensures.fault in
    let words : left line at ≡ tokens c.tail_at.result.now = left_there line at there ∙ ap tokens (sym c.tail_at.ensures) in
    let same : sum_named (tokens c.tail_at.result.now) ≡ unless (places_fault (length line) sum_places (left line at) at)
    (sum_named (left line at)) =
    sym (ap sum_named words) ∙ ap (λ o. unless o (sum_named (left line at))) c.in-None.ensures.fault in
    let P : HostLine → Type 0 = λ x. IfOk c.sum_named.result (λ asked. asked ≡ x) in
    subst P same c.sum_named.ensures.asked
