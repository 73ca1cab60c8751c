use Rattle.std.proofs.Common.{refl, sym, subst}
use Rattle.series_store.specs.Shown as shown
use Rattle.retention.specs.Sweeps.{LacksNamed, NamesNone}
use Rattle.retention.specs.declared.rule.Rule.{Rule}
use Rattle.retention.proofs.SweepLemmas.{lacks_there, none_there}
use Rattle.retention.proofs.sweeping.names_none.Goals as goal

pub returns-in-Before-clause-none : goal.returns-in-Before-clause-none
returns-in-Before-clause-none g c = λ total book told stands yes.
    let N : Rule → Type 0 = NamesNone book in
    subst N (sym c.in-Before.is) ((none_there c.series.result c.is_none.result c.in-Before.name book c.is_none.ensures
    (c.series.ensures.info total book c.requires.sound told stands)).0 yes)

pub returns-in-Before-clause-some : goal.returns-in-Before-clause-some
returns-in-Before-clause-some g c = λ total book told stands names.
    let N : Rule → Type 0 = NamesNone book in
    (none_there c.series.result c.is_none.result c.in-Before.name book c.is_none.ensures
    (c.series.ensures.info total book c.requires.sound told stands)).1 (subst N c.in-Before.is names)

pub returns-in-Last-clause-none : goal.returns-in-Last-clause-none
returns-in-Last-clause-none g c = λ total book told stands yes.
    let N : Rule → Type 0 = NamesNone book in
    subst N (sym c.in-Last.is) ((none_there c.series-in-Last.result c.is_none-in-Last.result c.in-Last.name book c.is_none-in-Last.ensures
    (c.series-in-Last.ensures.info total book c.requires.sound told stands)).0 yes)

pub returns-in-Last-clause-some : goal.returns-in-Last-clause-some
returns-in-Last-clause-some g c = λ total book told stands names.
    let N : Rule → Type 0 = NamesNone book in
    (none_there c.series-in-Last.result c.is_none-in-Last.result c.in-Last.name book c.is_none-in-Last.ensures
    (c.series-in-Last.ensures.info total book c.requires.sound told stands)).1 (subst N c.in-Last.is names)

pub returns-in-Before-clause-lacks : goal.returns-in-Before-clause-lacks
returns-in-Before-clause-lacks g c = λ yes.
    let N : Rule → Type 0 = LacksNamed (shown.catalog c.args.store.now) in
    subst N (sym c.in-Before.is) (
      c.in-Before.name,
      refl,
      lacks_there c.series.result c.is_none.result _ _ c.is_none.ensures yes c.series.ensures.named,
    )

pub returns-in-Last-clause-lacks : goal.returns-in-Last-clause-lacks
returns-in-Last-clause-lacks g c = λ yes.
    let N : Rule → Type 0 = LacksNamed (shown.catalog c.args.store.now) in
    subst N (sym c.in-Last.is) (
      c.in-Last.name,
      refl,
      lacks_there c.series-in-Last.result c.is_none-in-Last.result _ _ c.is_none-in-Last.ensures yes c.series-in-Last.ensures.named,
    )
