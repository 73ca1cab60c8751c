use Rattle.std.proofs.Common.{◌≡◌, ◌∙◌, Some, sym, ap, arith}
use Rattle.std.proofs.lemmas.Option.{slice_get_past}
use Rattle.series_store.proofs.AskLemmas.{own_store, kept_as, start_same}
use Rattle.series_store.proofs.BookCountLemmas.{some_at}
use Rattle.series_catalog.specs.declared.stored_series.StoredSeries.{StoredSeries}
use Rattle.series_store.proofs.store.Store.series_at.Goals as goal

pub returns-then-from-len-clause-books : goal.returns-then-from-len-clause-books
returns-then-from-len-clause-books g c = λ total book fit told stands.
    slice_get_past book c.args.id (omega (arith, c.if-from-len.true, c.from.ensures, c.len.ensures.books total book fit told stands))

pub returns-clause-books : goal.returns-clause-books
returns-clause-books g c = λ total book fit told stands.
    let own = own_store (g.P.Pages.view c.args.self.now.space.pages).size total
    (g.P.Pages.view c.args.self.now.space.pages).image book c.args.self.now.space.superblock c.args.self.now.space.rules
    c.args.self.now.small (c.args.self.now.space.spelled fit told) stands in
    let it = some_at book c.args.id (omega (arith, c.if-from-len.false, c.from.ensures, c.len.ensures.books total book fit told stands)) in
    let kept = kept_as (g.P.Pages.view c.args.self.now.space.pages).image c.args.self.now.space.superblock book
    c.args.self.now.catalog.series.items c.args.id c.series.result.now it.0 own.0
    (c.args.self.now.told fit told) c.series.ensures it.1 in
    let info = c.info-info.ensures.info total book it.0 fit told stands it.1 in
    record {
      series = it.0;
      there = it.1;
      name = kept.record_is.name;
      axis = record {
        start = start_same c.info-info.result.start c.info-info.ensures.start ∙ info.start;
        step = info.step;
        slots = info.slots;
      };
      scale = info.scale;
    }

pub returns-clause-stored : goal.returns-clause-stored
returns-clause-stored g c = λ one there.
    let info = c.info-info.ensures.stored one there in
    let both : Some c.series.result.now ≡ Some one = sym c.series.ensures ∙ there in
    let same : c.series.result.now ≡ one = cc in
    record {
      name = ap (λ (s : StoredSeries). s.name) same;
      start = start_same c.info-info.result.start c.info-info.ensures.start ∙ info.start;
      step = info.step;
      slots = info.slots;
      scale = info.scale;
    }
