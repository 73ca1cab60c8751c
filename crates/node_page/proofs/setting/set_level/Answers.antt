use Rattle.std.proofs.Common.{◌∙◌, set, arith}
use Rattle.std.proofs.lemmas.List.{get_or-set_other}
use Rattle.node_page.proofs.Coefs.{coef_same}
use Rattle.node_page.proofs.Puts.{child_same}
use Rattle.node_page.proofs.setting.set_level.Goals as goal

pub returns-clause-coefs : goal.returns-clause-coefs
returns-clause-coefs c =
    let old = c.args.bytes.now in
    λ n few. coef_same n old (set (set old 0 2) 1 c.args.level) few (λ k from to.
    get_or-set_other (set old 0 2) 1 k c.args.level 0 (λ e. omega (arith, e, from))
    ∙ get_or-set_other old 0 k 2 0 (λ e. omega (arith, e, from)))

pub returns-clause-children : goal.returns-clause-children
returns-clause-children c =
    let old = c.args.bytes.now in
    λ n few. child_same n old (set (set old 0 2) 1 c.args.level) few (λ k from to.
    get_or-set_other (set old 0 2) 1 k c.args.level 0 (λ e. omega (arith, e, from))
    ∙ get_or-set_other old 0 k 2 0 (λ e. omega (arith, e, from)))
