use Rattle.std.proofs.Common.{◌∙◌}
use Rattle.series_pair.proofs.ChartLemmas.{axis_same, record_axis, shift_in, shift_so}
use Rattle.series_store.proofs.AskLemmas.{there}
use Rattle.series_store.proofs.SelectedLemmas.{book_there}
use Rattle.series_store.specs.Shown as shown
use Rattle.series_pair.proofs.shifts.shift_of.Goals as goal

pub returns-clause-shift : goal.returns-clause-shift
returns-clause-shift g c = λ total book sound told stands.
    let store = c.args.store.now in
    let one = book_there store total book c.args.x sound told stands c.requires.first in
    let other = book_there store total book c.args.y sound told stands c.requires.second in
    let first = c.info.ensures.info total book one.0 sound told stands one.1 in
    let second = c.info-2.ensures.info total book other.0 sound told stands other.1 in
    shift_so book c.args.x c.args.y one.0 other.0 c.axis_of.result c.axis_of-2.result c.shift_between.result one.1 other.1
    (c.axis_of.ensures ∙ axis_same _ one.0 first.start first.step first.slots) (c.axis_of-2.ensures
    ∙ axis_same _ other.0 second.start second.step second.slots) c.shift_between.ensures.shift c.shift_between.ensures.none

pub returns-clause-records : goal.returns-clause-records
returns-clause-records g c =
    let catalog = shown.catalog c.args.store.now in
    let one = there catalog c.args.x c.requires.first in
    let other = there catalog c.args.y c.requires.second in
    let first = c.info.ensures.stored one.0 one.1 in
    let second = c.info-2.ensures.stored other.0 other.1 in
    shift_in catalog c.args.x c.args.y one.0 other.0 c.axis_of.result c.axis_of-2.result c.shift_between.result one.1 other.1
    (c.axis_of.ensures ∙ record_axis _ one.0 first.start first.step first.slots) (c.axis_of-2.ensures
    ∙ record_axis _ other.0 second.start second.step second.slots)
    c.shift_between.ensures.shift c.shift_between.ensures.none
