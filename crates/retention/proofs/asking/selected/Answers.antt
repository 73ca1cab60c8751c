use Rattle.std.proofs.Common.{◌≡◌, ℕ, ◌<◌, length, Some, sym, ap, subst, ◌∙◌, arith}
use Rattle.std.specs.List.{slice_get}
use Rattle.page_space.specs.Shown as spaces
use Rattle.page_space.specs.declared.space.Space.{Space}
use Rattle.series_catalog.specs.Shown.{series_in}
use Rattle.series_catalog.specs.declared.catalog.Catalog.{Catalog}
use Rattle.series_catalog.specs.declared.stored_series.StoredSeries.{StoredSeries}
use Rattle.series_store.proofs.AskLemmas.{start_same}
use Rattle.series_store.proofs.SelectedLemmas.{bad_at, whole_at}
use Rattle.series_store.specs.Asking.{IsTreeAt}
use Rattle.stored_book.specs.Standing.{StandsForBook}
use Rattle.tree_walk.specs.declared.tree.Tree.{Tree}
use Rattle.chart_world.specs.Faults.{faults_of}
use Rattle.retention.proofs.DamageLemmas.{bad_there}
use Rattle.retention.proofs.asking.selected.Goals as goal

-- a catalog that stays has the same series
still_there : {old new : Catalog} {id : ℕ} → new ≡ old → id < length (series_in old) → id < length (series_in new)
still_there same low = omega (arith, low, ap (λ (k : Catalog). length (series_in k)) same)

selects : {old new : Catalog} (id : ℕ) {tree : Tree} → new ≡ old
    → ((one : StoredSeries) → slice_get (series_in old) id ≡ Some one → tree ≡ one.tree) → IsTreeAt (series_in new) id tree
selects id same is = λ one at. is one (ap (λ (k : Catalog). slice_get (series_in k) id) (sym same) ∙ at)

pub returns-clause-axis : goal.returns-clause-axis
returns-clause-axis g c = λ total book series told stands at.
    let info = c.info-info.ensures.info total book series c.requires.sound told stands at in
    let agrees = c.select.ensures.agrees total book series c.requires.sound told stands at in
    record {
      start = start_same c.info-info.result.start c.info-info.ensures.start ∙ info.start;
      step = info.step;
      slots = c.slots.ensures.slots ∙ agrees.slots;
    }

pub returns-clause-agrees : goal.returns-clause-agrees
returns-clause-agrees g c = λ total book series told stands at. c.select.ensures.agrees total book series c.requires.sound told stands at

pub returns-clause-bad : goal.returns-clause-bad
returns-clause-bad g c = λ page is.
    let new = c.select.new.self in
    let S : Space _ _ → Type 0 = λ x. spaces.IsSound x in
    bad_at new c.args.id page (subst S (sym c.select.ensures.space) c.requires.sound)
    (still_there c.select.ensures.catalog c.requires.there) (selects c.args.id c.select.ensures.catalog c.select.ensures.slots) is

pub returns-clause-whole : goal.returns-clause-whole
returns-clause-whole g c = λ total book series told stands at page is.
    let new = c.select.new.self in
    let S : Space _ _ → Type 0 = λ x. spaces.IsSound x in
    let T : Space _ _ → Type 0 = λ x. spaces.IsTold x in
    let B : Space _ _ → Type 0 = λ x. StandsForBook (spaces.image x) total book in
    let same = sym c.select.ensures.space in
    whole_at new c.args.id page (subst S same c.requires.sound) (still_there c.select.ensures.catalog c.requires.there)
    (selects c.args.id c.select.ensures.catalog c.select.ensures.slots) is total book (subst T same told) (subst B same stands)

pub returns-clause-faults : goal.returns-clause-faults
returns-clause-faults g c = ap (λ (x : Space _ _). faults_of (spaces.view x)) c.select.ensures.space

pub returns-clause-bad_at : goal.returns-clause-bad_at
returns-clause-bad_at g c = λ page is.
    let new = c.select.new.self in
    let S : Space _ _ → Type 0 = λ x. spaces.IsSound x in
    bad_there new c.args.id page (subst S (sym c.select.ensures.space) c.requires.sound)
    (still_there c.select.ensures.catalog c.requires.there) (selects c.args.id c.select.ensures.catalog c.select.ensures.slots) is
