use Rattle.std.proofs.Common.{◌≡◌}
use Rattle.series_store.proofs.OpenLemmas.{err_so, keeps_of, sound_catalog, read_outside, opened_store}
use Rattle.series_store.proofs.store.Store.open.Goals as goal

pub returns-in-Ok-open-clause-a_store : goal.returns-in-Ok-open-clause-a_store
returns-in-Ok-open-clause-a_store g c = λ total book told within stands.
    let same : stands.superblock ≡ c.in-Ok-open.space.superblock = c.in-Ok-open.ensures.only told stands.superblock
    (keeps_of (g.P.Pages.view c.args.pages).size total (g.P.Pages.view c.args.pages).image book stands within) in
    let store = opened_store (g.P.Pages.told c.args.pages) (g.P.Pages.told c.in-Ok-open.space.pages) (g.P.Pages.view c.args.pages)
    (g.P.Pages.view c.in-Ok-open.space.pages) total book c.in-Ok-open.space.superblock stands c.in-Ok-open.ensures.reads told same in
    err_so _ _ c.with_catalog.result c.with_catalog.ensures.cause
    (λ back cause. read_outside (g.P.Pages.told c.in-Ok-open.space.pages) c.in-Ok-open.space.superblock
    (g.P.Pages.view c.in-Ok-open.space.pages) (g.P.Pages.view back.value) back.cause (c.in-Ok-open.ensures.reads.told told)
    (λ page. sound_catalog (g.P.Pages.view c.in-Ok-open.space.pages).image c.in-Ok-open.space.superblock book page store) cause)
