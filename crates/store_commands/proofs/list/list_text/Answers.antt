use Rattle.std.proofs.Common.{◌<◌, ◌≤◌, length, arith, refl}
use Rattle.series_catalog.specs.Catalogs.{entry_of}
use Rattle.series_store.proofs.AskLemmas.{there}
use Rattle.series_store.proofs.NameLemmas.{as_long, entry_there}
use Rattle.series_store.specs.Shown as shown
use Rattle.std.specs.Prelude.{map}
use Rattle.store_commands.proofs.ListEnds.{list_step, list_whole, no_none, records_step, records_whole}
use Rattle.store_commands.proofs.list.list_text.Goals as goal
use Rattle.store_commands.proofs.list.list_text.Goals.{in-Some+in_ok-add_series, in_default}

pub loop-id-preserved : goal.loop-id-preserved
loop-id-preserved g c = record {
  books = λ total book fit told stands.
      let before = c.loop-id.invariant.books total book fit told stands in
      elim c.match-series_at.branch [
        | in-Some+in_ok-add_series w ↦
            let is = w.in-Some.ensures.books total book fit told stands in
            list_step book c.loop-id.id c.loop-id.text.items c.match-series_at.text.items w.in-Some.series.name.now w.in-Some.series.axis
            w.in-Some.series.scale is.series is.there is.name is.axis is.scale before (let added = w.in_ok-add_series.ensures.line in
            let same = w.text-is in cc)
        | in_default w ↦
            let low : c.loop-id.id < length book = omega (
              arith,
              c.loop-id-test.true,
              c.loop-id.auto.id-end,
              c.len-id-end.ensures.books total book fit told stands,
            ) in
            absurd (no_none book c.loop-id.id low (w.in_default.ensures.books total book fit told stands))
      ];
  records =
      let catalog = shown.catalog c.args.store.now in
      elim c.match-series_at.branch [
        | in-Some+in_ok-add_series w ↦
            let one = there catalog c.loop-id.id (w.in-Some.ensures.there.0 refl) in
            let is = w.in-Some.ensures.stored one.0 one.1 in
            records_step (map entry_of catalog) c.loop-id.id c.loop-id.text.items c.match-series_at.text.items w.in-Some.series.name.now
            w.in-Some.series.axis w.in-Some.series.scale (entry_of one.0)
            (entry_there catalog c.loop-id.id one.0 one.1) is.name is.start is.step is.slots is.scale c.loop-id.invariant.records
            (let added = w.in_ok-add_series.ensures.line in let same = w.text-is in cc)
        | in_default w ↦
            let low : c.loop-id.id < length catalog = omega (
              arith,
              c.loop-id-test.true,
              c.loop-id.auto.id-end,
              c.len-id-end.ensures.count,
            ) in
            absurd (cc (w.in_default.ensures.there.1 low))
      ];
}

pub returns-clause-books : goal.returns-clause-books
returns-clause-books g c = λ total book fit told stands.
    let long : length book ≤ c.loop-id.id = omega (
      arith,
      c.loop-id-test.false,
      c.loop-id.auto.id-end,
      c.len-id-end.ensures.books total book fit told stands,
    ) in
    list_whole book c.loop-id.id c.loop-id.text.items long (c.loop-id.invariant.books total book fit told stands)

pub returns-clause-records : goal.returns-clause-records
returns-clause-records g c =
    let catalog = shown.catalog c.args.store.now in
    let long : length (map entry_of catalog) ≤ c.loop-id.id = omega (
      arith,
      c.loop-id-test.false,
      c.loop-id.auto.id-end,
      c.len-id-end.ensures.count,
      as_long catalog,
    ) in
    records_whole (map entry_of catalog) c.loop-id.id c.loop-id.text.items long c.loop-id.invariant.records
