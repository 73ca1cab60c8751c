use Rattle.std.proofs.Common.{◌∙◌, sym}
use Rattle.gate_pages.specs.Batch.{page_in}
use Rattle.gate_pages.specs.Entries.{entries}
use Rattle.page_space.specs.Copies.{copies_in}
use Rattle.page_space.proofs.Caching.{unheld, not_in, renewed_held, others_stay}
use Rattle.page_space.proofs.page_cache.PageCache.renew_page.Goals as goal

pub returns-then-not-holds-clause-here : goal.returns-then-not-holds-clause-here
returns-then-not-holds-clause-here c =
    unheld (page_in (entries c.args.batch.now) c.args.p)
    (copies_in c.args.self.now c.args.p) c.holds.result c.holds.ensures c.if-not-holds.true

pub returns-in_default-clause-here : goal.returns-in_default-clause-here
returns-in_default-clause-here c = not_in (page_in (entries c.args.batch.now) c.args.p)
    (copies_in c.args.self.now c.args.p) c.in_default.ensures

pub keep-requires : goal.keep-requires
keep-requires c = c.requires c.args.p c.in-Some.bytes.now (sym c.in-Some.ensures)

pub returns-clause-here : goal.returns-clause-here
returns-clause-here c =
    c.keep.ensures c.args.p
    ∙ renewed_held (entries c.args.batch.now) (copies_in c.args.self.now) c.args.p c.in-Some.bytes.now c.holds.result c.holds.ensures
    c.if-not-holds.false c.in-Some.ensures

pub returns-clause-others : goal.returns-clause-others
returns-clause-others c = λ q other.
    let cache = c.args.self.now in
    c.keep.ensures q ∙ others_stay cache.places.items cache.bytes.items c.in-Some.bytes.now c.args.p q c.holds.result c.holds.ensures
    c.if-not-holds.false other
