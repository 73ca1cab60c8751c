use Rattle.std.proofs.Common.{◌+◌, ◌-◌, ◌*◌, ℕ, get_or, ap, ◌∙◌, arith}
use Rattle.node_page.proofs.Deciding.{zero_in}
use Rattle.node_page.proofs.Groups.{blank_children}
use Rattle.node_page.proofs.rules.are_eight_blank.Goals as goal

pub returns : goal.returns
returns c =
    let page = c.args.page.now in
    let at = 2072 + 32 * c.from-2.result in
    λ zero child low high.
    blank_children page c.args.group child
    (ap (λ (k : ℕ). get_or page k 0) (omega arith) ∙ c.if-page-flags-ne0.false)
    (ap (λ (k : ℕ). get_or page k 0) (omega arith) ∙ c.if-page-flags-ne0-2.false)
    (λ k from to. zero_in at (at + 32 - at) page (omega arith) (c.are_zero.ensures.0 zero) k (omega (arith, from)) (omega (arith, to)))
    low high
