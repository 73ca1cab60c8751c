use Rattle.std.proofs.Common.{◌≡◌, ℕ, Some, sym, ap, subst, ◌∙◌}
use Rattle.std.specs.List.{slice_get}
use Rattle.series_book.specs.declared.one_series.Series.{Series}
use Rattle.series_store.specs.Asking.{IsInfo, IsNamedAt}
use Rattle.series_store.proofs.AskLemmas.{own_store, same_id, none_so}
use Rattle.series_store.proofs.NameLemmas.{place_named, place_none}
use Rattle.series_store.proofs.store.Store.series.Goals as goal

pub returns-in_err-id-clause-info : goal.returns-in_err-id-clause-info
returns-in_err-id-clause-info g c = λ total book fit told stands.
    let own = own_store (g.P.Pages.view c.args.self.now.space.pages).size total
    (g.P.Pages.view c.args.self.now.space.pages).image book c.args.self.now.space.superblock c.args.self.now.space.rules
    c.args.self.now.small (c.args.self.now.space.spelled fit told) stands in
    let same = same_id (g.P.Pages.view c.args.self.now.space.pages).image c.args.self.now.space.superblock book
    c.args.self.now.catalog.series.items c.args.name.now own.0 c.args.self.now.count (c.args.self.now.told fit told) in
    none_so c.from_residual.result _ _ c.from_residual.ensures (sym same ∙ sym c.in_err-id.ensures.id)

pub returns-clause-info : goal.returns-clause-info
returns-clause-info g c = λ total book fit told stands.
    let own = own_store (g.P.Pages.view c.args.self.now.space.pages).size total
    (g.P.Pages.view c.args.self.now.space.pages).image book c.args.self.now.space.superblock c.args.self.now.space.rules
    c.args.self.now.small (c.args.self.now.space.spelled fit told) stands in
    let same = same_id (g.P.Pages.view c.args.self.now.space.pages).image c.args.self.now.space.superblock book
    c.args.self.now.catalog.series.items c.args.name.now own.0 c.args.self.now.count (c.args.self.now.told fit told) in
    let P : ℕ → Type 0 = λ n. (series : Series) → slice_get book n ≡ Some series → IsInfo series n c.info.result in (
      sym same ∙ sym c.in_ok-id.ensures.id ∙ ap (λ n. Some n) (sym c.info.ensures.id),
      subst P (sym c.info.ensures.id) (λ series there. c.info.ensures.info total book series fit told stands there),
    )

pub returns-in_err-id-clause-named : goal.returns-in_err-id-clause-named
returns-in_err-id-clause-named g c = none_so c.from_residual.result _ _ c.from_residual.ensures
    (place_none c.args.name.now c.args.self.now.catalog.series.items (sym c.in_err-id.ensures.id))

pub returns-clause-named : goal.returns-clause-named
returns-clause-named g c =
    let P : ℕ → Type 0 = λ n. IsNamedAt c.args.self.now.catalog.series.items c.args.name.now n in
    subst P (sym c.info.ensures.id) (place_named c.args.name.now c.args.self.now.catalog.series.items _ (sym c.in_ok-id.ensures.id))
