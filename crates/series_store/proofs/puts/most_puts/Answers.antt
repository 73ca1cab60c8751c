use Rattle.std.proofs.Common.{◌≡◌, ◌+◌, ◌<◌, ◌≤◌, ℤ, min, length, to_z, of_z, sym, ap, subst, rules, arith, ◌∙◌}
use Rattle.std.specs.Int.{w128}
use Rattle.series_book.specs.declared.edits.Edit.{Edit}
use Rattle.series_book.specs.declared.limits.TheConstants.{MOST_CLEARED, MOST_SLOTS, MOST_VALUES}
use Rattle.series_book.specs.Edits.{place_of}
use Rattle.series_catalog.specs.Shown.{series_in}
use Rattle.series_catalog.specs.declared.stored_series.StoredSeries.{StoredSeries}
use Rattle.series_store.specs.Staging.{HasRoomFor, HasRoomIn, puts_in, slot_at_time}
use Rattle.series_store.proofs.FindLemmas.{a_series}
use Rattle.series_store.proofs.RoomLemmas.{named_so, slot_as}
use Rattle.series_store.proofs.puts.most_puts.Goals as goal

pub returns-in-Some-axis_of-clause-room : goal.returns-in-Some-axis_of-clause-room
returns-in-Some-axis_of-clause-room c = λ pages few.
    let found = c.in-Some-axis_of.ensures.found in
    let one : StoredSeries = found.one in
    let some = a_series c.in-Some-axis_of.axis in
    let same : to_z w128 (of_z w128 c.in-Set.time) ≡ c.in-Set.time = search rules in
    let values = c.in-Set.values in
    let slot = slot_at_time one c.in-Set.time in
    let at : c.place_of.result ≡ slot =
    c.place_of.ensures some.0 some.1 ∙ ap (λ (t : ℤ). place_of some.0 t) same
    ∙ slot_as c.in-Some-axis_of.axis one some.0 some.1 c.in-Set.time found.start found.step in
    let R : StoredSeries → Type 0 = λ one. length values ≤ MOST_VALUES → slot_at_time one c.in-Set.time + length values ≤ MOST_SLOTS
    → HasRoomIn pages one.tree (slot_at_time one c.in-Set.time) (slot_at_time one c.in-Set.time + length values) in
    let E : Edit → Type 0 = λ edit. HasRoomFor pages (series_in c.args.catalog.now) edit in
    subst E (sym c.in-Set.is)
    (named_so (series_in c.args.catalog.now) c.in-Set.name found.id one R found.named found.there
    (λ short within. omega (
      arith,
      few,
      c.run_puts-in-Some-axis_of.ensures.puts one.tree (sym found.slots) short
          (omega (arith, within, at)),
      ap (λ n. puts_in one.tree n (n + length values)) at,
    )))

pub returns-in-Some-axis_of-2-clause-room : goal.returns-in-Some-axis_of-2-clause-room
returns-in-Some-axis_of-2-clause-room c = λ pages few.
    let found = c.in-Some-axis_of-2.ensures.found in
    let one : StoredSeries = found.one in
    let some = a_series c.in-Some-axis_of-2.axis in
    let same : to_z w128 (of_z w128 c.in-Clear.time) ≡ c.in-Clear.time = search rules in
    let count = c.in-Clear.count in
    let slot = slot_at_time one c.in-Clear.time in
    let slots = c.in-Some-axis_of-2.axis.slots in
    let at : c.place_of-in-Some-axis_of-2.result ≡ slot =
    c.place_of-in-Some-axis_of-2.ensures some.0 some.1 ∙ ap (λ (t : ℤ). place_of some.0 t) same
    ∙ slot_as c.in-Some-axis_of-2.axis one some.0 some.1 c.in-Clear.time found.start found.step in
    let R : StoredSeries → Type 0 = λ one. 0 < count → count ≤ MOST_CLEARED → slot_at_time one c.in-Clear.time < one.tree.slots
    → HasRoomIn pages one.tree (slot_at_time one c.in-Clear.time) (min (slot_at_time one c.in-Clear.time + count) one.tree.slots) in
    let E : Edit → Type 0 = λ edit. HasRoomFor pages (series_in c.args.catalog.now) edit in
    subst E (sym c.in-Clear.is)
    (named_so (series_in c.args.catalog.now) c.in-Clear.name found.id one R found.named found.there
    (λ some short within. omega (
      arith,
      few,
      c.clear_puts.ensures.puts one.tree (sym found.slots) some short (omega (arith, within, at, found.slots)),
      ap (λ n. puts_in one.tree n (min (n + count) slots)) at,
      ap (λ n. puts_in one.tree slot (min (slot + count) n)) found.slots,
    )))
