use Rattle.std.proofs.Common.{ℕ, List, sym, ap, subst, ◌∙◌, arith}
use Rattle.store_upgrade.specs.OldStores.{HasOldRecord}
use Rattle.store_upgrade.specs.Upgraded.{with_level}
use Rattle.store_upgrade.proofs.Records.{later_old, one_more, none_set}
use Rattle.store_upgrade.proofs.renewing.renew_page.Goals as goal

pub loop-number-init : goal.loop-number-init
loop-number-init c = sym (none_set c.args.page.now)

pub set_levels-requires-clause-rules : goal.set_levels-requires-clause-rules
set_levels-requires-clause-rules c =
    let n = c.loop-number.number in
    let P : List ℕ → Type 0 = λ page. HasOldRecord page n in
    subst P (sym c.loop-number.invariant) (later_old c.args.page.now n (omega arith) c.requires.rules)

pub loop-number-preserved : goal.loop-number-preserved
loop-number-preserved c =
    let n = c.loop-number.number in
    c.set_levels.ensures.page ∙ ap (λ (page : List ℕ). with_level page n) c.loop-number.invariant ∙ sym (one_more c.args.page.now n)
