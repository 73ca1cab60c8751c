use Rattle.std.proofs.Common.{◌≡◌, ◌∙◌, ◌+◌, ◌-◌, ◌*◌, take, drop, ap, arith}
use Rattle.catalog_page.specs.Fields.{record_bytes}
use Rattle.store_upgrade.proofs.old_pages.record_of.Goals as goal

pub returns-clause-bytes : goal.returns-clause-bytes
unfolding record_bytes
returns-clause-bytes c =
    let page = c.args.page.now in
    let at = 8 + 96 * c.from.result in
    let size : at + 96 - at ≡ 96 = omega arith in
    ap (λ n. take n (drop at page)) size ∙ ap (λ n. take 96 (drop (8 + 96 * n) page)) c.from.ensures
