use Rattle.std.proofs.Common.{◌≡◌, ◌+◌, ◌≤◌, ℕ, ℤ, List, length, Option, Ok, Err, Result, subst, sym, ap, refl, arith, ◌∙◌}
use Rattle.std.specs.Int.{w128}
use Rattle.std.proofs.lemmas.Int.{to_z-of_z}
use Rattle.series_book.specs.declared.edits.Edit.TheVariants.{Set}
use Rattle.series_book.specs.declared.one_series.Series.{Series}
use Rattle.series_book.specs.declared.refusals.Refusal.{Refusal}
use Rattle.series_book.specs.declared.refusals.Refusal.TheVariants.{UnknownSeries}
use Rattle.series_book.specs.Axes.{IsAxisOf}
use Rattle.series_book.specs.Edits.{Edited, apply, id_of, place_of, within, set_at, overwritten}
use Rattle.series_catalog.specs.declared.stored_series.StoredSeries.{StoredSeries}
use Rattle.series_store.specs.declared.errors.StoreError.TheVariants.{Refused}
use Rattle.block_disk.specs.View.{Image}
use Rattle.page_space.specs.Transactions.{held, left_by}
use Rattle.stored_book.specs.Standing.{IsStore}
use Rattle.series_store.specs.Groups.{touch_of, touched_slots}
use Rattle.series_store.specs.Results.{KeepsBook}
use Rattle.series_book.specs.declared.limits.TheConstants.{MOST_SLOTS, MOST_VALUES}
use Rattle.series_store.specs.Staging.{HasRoomIn, IsStagedBy, slot_at_time}
use Rattle.series_store.proofs.RoomLemmas.{for_named, room_at, slot_as}
use Rattle.series_store.proofs.StageLemmas.{staged_error, staged_store}
use Rattle.series_store.proofs.FindLemmas.{IsFound, ends_as, found, touch_found, unknown, is_axis, a_series, change_unknown, set_answer}
use Rattle.series_store.proofs.staging.set.Goals as goal

pub returns-in_default-clause-answered : goal.returns-in_default-clause-answered
returns-in_default-clause-answered g c = λ total book told stands.
    let txn = c.args.txn.now in
    let base : Image = (g.P.Pages.view c.args.space.now.pages).image in
    let items : List StoredSeries = c.args.catalog.now.series.items in
    let store : IsStore (left_by txn base) txn.superblock book = (staged_store txn base total book c.requires.staged.catalog.small stands).0
    in
    let none = unknown (left_by txn base) txn.superblock book items c.args.name.now store c.requires.staged.catalog.count
    (c.requires.staged.catalog.are_told told) c.in_default.ensures.id in
    let change : ℕ → Series → Result Edited Refusal = λ id series. within total book id series
    (set_at series c.args.time c.args.values.now) in
    staged_error (apply book total (Set c.args.name.now c.args.time c.args.values.now))
    (touch_of book (Set c.args.name.now c.args.time c.args.values.now)) total (Err (Refused UnknownSeries))
    (Refused UnknownSeries) txn txn (left_by txn base) refl (change_unknown book (id_of c.args.name.now book) change none) (λ is. refl)

pub set_refusal-requires-clause-slots : goal.set_refusal-requires-clause-slots
set_refusal-requires-clause-slots g c = omega (
  arith,
  c.axis-axis.ensures.slots,
  (c.requires.staged.catalog.fits c.in-Some.id c.series.result.now c.series.ensures).slots,
)

pub set_refusal-requires-clause-step : goal.set_refusal-requires-clause-step
set_refusal-requires-clause-step g c = omega (
  arith,
  c.axis-axis.ensures.step,
  (c.requires.staged.catalog.fits c.in-Some.id c.series.result.now c.series.ensures).step_low,
)

pub place_of-requires : goal.place_of-requires
place_of-requires g c = omega (
  arith,
  c.axis-axis.ensures.step,
  (c.requires.staged.catalog.fits c.in-Some.id c.series.result.now c.series.ensures).step_low,
)

pub overflow_cast-place_of : goal.overflow_cast-place_of
overflow_cast-place_of g c =
    let some = a_series c.axis-axis.result in
    omega (arith, c.in_default-set_refusal.ensures.room some.0 some.1, c.place_of.ensures some.0 some.1)

pub put-requires-clause-within : goal.put-requires-clause-within
put-requires-clause-within g c =
    let some = a_series c.axis-axis.result in
    let long : length c.deref.result.now ≡ length c.args.values.now = ap length (c.deref.ensures.value ∙ c.in_ok-run.ensures.slots) in
    omega (arith, c.in_default-set_refusal.ensures.room some.0 some.1, c.place_of.ensures some.0 some.1, long)

pub put-requires-clause-last : goal.put-requires-clause-last
put-requires-clause-last g c =
    let some = a_series c.axis-axis.result in
    let long : length c.deref.result.now ≡ length c.args.values.now = ap length (c.deref.ensures.value ∙ c.in_ok-run.ensures.slots) in
    ends_as c.args.catalog.now.series.items c.in-Some.id c.series.result.now c.axis-axis.result _
    (c.place_of.result + length c.deref.result.now) c.series.ensures c.axis-axis.ensures.start c.axis-axis.ensures.step
    c.axis-axis.ensures.slots
    (omega (arith, c.place_of.ensures some.0 some.1, long)) (c.in_default-set_refusal.ensures.last some.0 some.1)

pub put-requires-clause-room : goal.put-requires-clause-room
put-requires-clause-room g c =
    let items : List StoredSeries = c.args.catalog.now.series.items in
    let one : StoredSeries = c.series.result.now in
    let pages = length (held c.args.txn.now) in
    let values = c.args.values.now in
    let some = a_series c.axis-axis.result in
    let at : c.place_of.result ≡ slot_at_time one c.args.time =
    c.place_of.ensures some.0 some.1 ∙ ap (λ (t : ℤ). place_of some.0 t) (to_z-of_z w128 c.args.time c.ranges.time)
    ∙ slot_as c.axis-axis.result one some.0 some.1 c.args.time c.axis-axis.ensures.start c.axis-axis.ensures.step in
    let long : length c.deref.result.now ≡ length values = ap length (c.deref.ensures.value ∙ c.in_ok-run.ensures.slots) in
    let slot = slot_at_time one c.args.time in
    let R : StoredSeries → Type 0 = λ one. length values ≤ MOST_VALUES → slot_at_time one c.args.time + length values ≤ MOST_SLOTS
    → HasRoomIn pages one.tree (slot_at_time one c.args.time) (slot_at_time one c.args.time + length values) in
    room_at pages items c.in-Some.id slot (slot + length values) c.place_of.result
    (c.place_of.result + length c.deref.result.now) one c.series.ensures
    (for_named items c.args.name.now c.in-Some.id one R
    (sym c.in-Some.ensures.id) c.series.ensures c.requires.room c.in_default-set_refusal.ensures.few
    (omega (arith, c.in_default-set_refusal.ensures.room some.0 some.1, c.place_of.ensures some.0 some.1, at)))
    at (omega (arith, at, long))

pub returns-in-Some-set_refusal-clause-answered : goal.returns-in-Some-set_refusal-clause-answered
returns-in-Some-set_refusal-clause-answered g c = λ total book told stands.
    let txn = c.args.txn.now in
    let base : Image = (g.P.Pages.view c.args.space.now.pages).image in
    let items : List StoredSeries = c.args.catalog.now.series.items in
    let store : IsStore (left_by txn base) txn.superblock book = (staged_store txn base total book c.requires.staged.catalog.small stands).0
    in
    let one : StoredSeries = c.series.result.now in
    let is : IsFound book c.args.name.now c.in-Some.id one = found
    (left_by txn base) txn.superblock book items c.args.name.now c.in-Some.id one store c.requires.staged.catalog.count
    (c.requires.staged.catalog.are_told told) c.in-Some.ensures.id c.series.ensures in
    let axis : IsAxisOf is.series c.axis-axis.result = is_axis book c.args.name.now c.in-Some.id one c.axis-axis.result is
    c.axis-axis.ensures.start c.axis-axis.ensures.step c.axis-axis.ensures.slots in
    let refusal : Refusal = c.in-Some-set_refusal.refusal in
    let T : ℤ → Type 0 = λ time. set_at is.series time c.args.values.now ≡ Err refusal in
    let says : set_at is.series c.args.time c.args.values.now ≡ Err refusal = subst T (to_z-of_z w128 c.args.time c.ranges.time)
    (c.in-Some-set_refusal.ensures.refusal is.series axis) in
    staged_error (apply book total (Set c.args.name.now c.args.time c.args.values.now))
    (touch_of book (Set c.args.name.now c.args.time c.args.values.now)) total (Err (Refused refusal)) (Refused refusal) txn txn
    (left_by txn base) refl
    (set_answer book total c.args.name.now c.args.time c.args.values.now c.in-Some.id is.series (Err refusal) is.is_id is.there says)
    (λ is. refl)

pub returns-clause-answered : goal.returns-clause-answered
returns-clause-answered g c = λ total book told stands.
    let txn = c.args.txn.now in
    let base : Image = (g.P.Pages.view c.args.space.now.pages).image in
    let items : List StoredSeries = c.args.catalog.now.series.items in
    let store : IsStore (left_by txn base) txn.superblock book = (staged_store txn base total book c.requires.staged.catalog.small stands).0
    in
    let one : StoredSeries = c.series.result.now in
    let is : IsFound book c.args.name.now c.in-Some.id one = found
    (left_by txn base) txn.superblock book items c.args.name.now c.in-Some.id one store c.requires.staged.catalog.count
    (c.requires.staged.catalog.are_told told) c.in-Some.ensures.id c.series.ensures in
    let axis : IsAxisOf is.series c.axis-axis.result = is_axis book c.args.name.now c.in-Some.id one c.axis-axis.result is
    c.axis-axis.ensures.start c.axis-axis.ensures.step c.axis-axis.ensures.slots in
    let T : ℤ → Type 0 = λ time. set_at is.series time c.args.values.now ≡ Ok
    (overwritten is.series.slots (place_of is.series time) c.args.values.now) in
    let says : set_at is.series c.args.time c.args.values.now ≡ Ok
    (overwritten is.series.slots (place_of is.series c.args.time) c.args.values.now) = subst T
    (to_z-of_z w128 c.args.time c.ranges.time) (c.in_default-set_refusal.ensures.refusal is.series axis) in
    let place : c.place_of.result ≡ place_of is.series c.args.time = c.place_of.ensures is.series axis
    ∙ ap (λ (time : ℤ). place_of is.series time) (to_z-of_z w128 c.args.time c.ranges.time) in
    let run : c.deref.result.now ≡ c.args.values.now = c.deref.ensures.value ∙ c.in_ok-run.ensures.slots in
    let same : overwritten is.series.slots c.place_of.result c.deref.result.now ≡ overwritten is.series.slots
    (place_of is.series c.args.time) c.args.values.now =
    ap (λ n. overwritten is.series.slots n c.deref.result.now) place
    ∙ ap (λ values. overwritten is.series.slots (place_of is.series c.args.time) values) run in
    let new = c.put.new in
    let T : ℕ → Type 0 = λ touched. IsStagedBy (apply book total (Set c.args.name.now c.args.time c.args.values.now)) touched total
    c.put.result txn new.txn (left_by new.txn (g.P.Pages.view new.space.pages).image) in
    let A : Result Edited Refusal → Type 0 = λ answer. IsStagedBy answer
    (touched_slots is.series (c.place_of.result) (c.place_of.result + length c.deref.result.now)) total c.put.result txn new.txn
    (left_by new.txn (g.P.Pages.view new.space.pages).image) in
    subst T (ap (λ n. touched_slots is.series n (n + length c.deref.result.now)) place
    ∙ ap (λ (values : List (Option ℤ)). touched_slots is.series (place_of is.series c.args.time)
    (place_of is.series c.args.time + length values)) run
    ∙ sym (touch_found book (id_of c.args.name.now book) c.in-Some.id is.series
    (λ series. touched_slots series (place_of series c.args.time) (place_of series c.args.time + length c.args.values.now)) is.is_id
    is.there))
    (subst A
    (ap (λ (slots : List (Option ℤ)). within total book c.in-Some.id is.series (Ok slots)) same
    ∙ sym (set_answer book total c.args.name.now c.args.time c.args.values.now c.in-Some.id is.series
    (Ok (overwritten is.series.slots (place_of is.series c.args.time) c.args.values.now)) is.is_id is.there says))
    (c.put.ensures.answered total book is.series told stands is.there))

pub returns-clause-kept : goal.returns-clause-kept
returns-clause-kept g c = λ total book told stands keeps.
    let txn = c.args.txn.now in
    let base : Image = (g.P.Pages.view c.args.space.now.pages).image in
    let items : List StoredSeries = c.args.catalog.now.series.items in
    let store : IsStore (left_by txn base) txn.superblock book = (staged_store txn base total book c.requires.staged.catalog.small stands).0
    in
    let one : StoredSeries = c.series.result.now in
    let is : IsFound book c.args.name.now c.in-Some.id one = found
    (left_by txn base) txn.superblock book items c.args.name.now c.in-Some.id one store c.requires.staged.catalog.count
    (c.requires.staged.catalog.are_told told) c.in-Some.ensures.id c.series.ensures in
    let axis : IsAxisOf is.series c.axis-axis.result = is_axis book c.args.name.now c.in-Some.id one c.axis-axis.result is
    c.axis-axis.ensures.start c.axis-axis.ensures.step c.axis-axis.ensures.slots in
    let T : ℤ → Type 0 = λ time. set_at is.series time c.args.values.now ≡ Ok
    (overwritten is.series.slots (place_of is.series time) c.args.values.now) in
    let says : set_at is.series c.args.time c.args.values.now ≡ Ok
    (overwritten is.series.slots (place_of is.series c.args.time) c.args.values.now) = subst T
    (to_z-of_z w128 c.args.time c.ranges.time) (c.in_default-set_refusal.ensures.refusal is.series axis) in
    let place : c.place_of.result ≡ place_of is.series c.args.time = c.place_of.ensures is.series axis
    ∙ ap (λ (time : ℤ). place_of is.series time) (to_z-of_z w128 c.args.time c.ranges.time) in
    let run : c.deref.result.now ≡ c.args.values.now = c.deref.ensures.value ∙ c.in_ok-run.ensures.slots in
    let same : overwritten is.series.slots c.place_of.result c.deref.result.now ≡ overwritten is.series.slots
    (place_of is.series c.args.time) c.args.values.now =
    ap (λ n. overwritten is.series.slots n c.deref.result.now) place
    ∙ ap (λ values. overwritten is.series.slots (place_of is.series c.args.time) values) run in
    let K : Result Edited Refusal → Type 0 = λ answer. KeepsBook book answer in
    c.put.ensures.kept total book is.series told stands is.there
    (subst K (sym (ap (λ (slots : List (Option ℤ)). within total book c.in-Some.id is.series (Ok slots)) same
    ∙ sym (set_answer book total c.args.name.now c.args.time c.args.values.now c.in-Some.id is.series
    (Ok (overwritten is.series.slots (place_of is.series c.args.time) c.args.values.now)) is.is_id is.there says))) keeps)
