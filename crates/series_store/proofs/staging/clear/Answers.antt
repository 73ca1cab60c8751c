use Rattle.std.proofs.Common.{◌≡◌, List, ℕ, ℤ, length, Ok, Err, Result, subst, sym, ap, refl, arith, ◌∙◌, inl, inr, ◌<◌, ◌≤◌, ◌+◌, ◌-◌, ◌⊎◌}
use Rattle.std.proofs.Common.{min}
use Rattle.std.specs.Int.{w128}
use Rattle.std.proofs.lemmas.Int.{to_z-of_z}
use Rattle.series_book.specs.declared.edits.Edit.TheVariants.{Clear}
use Rattle.series_book.specs.declared.one_series.Series.{Series}
use Rattle.series_book.specs.declared.refusals.Refusal.{Refusal}
use Rattle.series_book.specs.declared.refusals.Refusal.TheVariants.{UnknownSeries}
use Rattle.series_book.specs.Axes.{IsAxisOf}
use Rattle.series_book.specs.Edits.{Edited, apply, id_of, place_of, unbounded, cleared_at, cleared}
use Rattle.series_catalog.specs.declared.stored_series.StoredSeries.{StoredSeries}
use Rattle.series_store.specs.declared.errors.StoreError.TheVariants.{Refused}
use Rattle.block_disk.specs.View.{Image}
use Rattle.page_space.specs.Transactions.{held, left_by}
use Rattle.stored_book.specs.Standing.{IsStore}
use Rattle.series_store.specs.Groups.{touch_of, touched_slots}
use Rattle.series_store.specs.Results.{KeepsBook}
use Rattle.series_book.specs.declared.limits.TheConstants.{MOST_CLEARED}
use Rattle.series_store.specs.Staging.{HasRoomIn, IsStagedBy, slot_at_time}
use Rattle.series_store.proofs.RoomLemmas.{for_named, room_at, slot_as}
use Rattle.series_store.proofs.StageLemmas.{staged_error, staged_store, staging_nothing}
use Rattle.series_store.proofs.FindLemmas.{IsFound, a_series, found, touch_found, unknown, is_axis, change_unknown, clear_answer}
use Rattle.series_store.proofs.FindLemmas.{clear_there, clear_none}
use Rattle.series_store.proofs.staging.clear.Goals as goal
use Rattle.series_store.proofs.staging.clear.Goals.{then-place-from-via-then-place-from, then-place-from-via-else-place-from+then-count-eq0}

pub returns-in_default-clause-answered : goal.returns-in_default-clause-answered
returns-in_default-clause-answered g c = λ total book told stands.
    let txn = c.args.txn.now in
    let base : Image = (g.P.Pages.view c.args.space.now.pages).image in
    let items : List StoredSeries = c.args.catalog.now.series.items in
    let store : IsStore (left_by txn base) txn.superblock book = (staged_store txn base total book c.requires.staged.catalog.small stands).0
    in
    let none = unknown (left_by txn base) txn.superblock book items c.args.name.now store c.requires.staged.catalog.count
    (c.requires.staged.catalog.are_told told) c.in_default.ensures.id in
    let change : ℕ → Series → Result Edited Refusal = λ id series. unbounded book id series (cleared_at series c.args.time c.args.count) in
    staged_error (apply book total (Clear c.args.name.now c.args.time c.args.count))
    (touch_of book (Clear c.args.name.now c.args.time c.args.count)) total (Err (Refused UnknownSeries)) (Refused UnknownSeries) txn txn
    (left_by txn base) refl (change_unknown book (id_of c.args.name.now book) change none) (λ is. refl)

pub clear_refusal-requires : goal.clear_refusal-requires
clear_refusal-requires g c = omega (
  arith,
  c.axis-axis.ensures.step,
  (c.requires.staged.catalog.fits c.in-Some.id c.series.result.now c.series.ensures).step_low,
)

pub place_of-place-requires : goal.place_of-place-requires
place_of-place-requires g c = omega (
  arith,
  c.axis-axis.ensures.step,
  (c.requires.staged.catalog.fits c.in-Some.id c.series.result.now c.series.ensures).step_low,
)

pub clear_slots-requires-clause-room : goal.clear_slots-requires-clause-room
clear_slots-requires-clause-room g c =
    let items : List StoredSeries = c.args.catalog.now.series.items in
    let one : StoredSeries = c.series.result.now in
    let pages = length (held c.args.txn.now) in
    let count = c.args.count in
    let some = a_series c.axis-axis.result in
    let at : c.place_of-place.result ≡ slot_at_time one c.args.time =
    c.place_of-place.ensures some.0 some.1 ∙ ap (λ (t : ℤ). place_of some.0 t) (to_z-of_z w128 c.args.time c.ranges.time)
    ∙ slot_as c.axis-axis.result one some.0 some.1 c.args.time c.axis-axis.ensures.start c.axis-axis.ensures.step in
    let slot = slot_at_time one c.args.time in
    let R : StoredSeries → Type 0 = λ one. 0 < count → count ≤ MOST_CLEARED → slot_at_time one c.args.time < one.tree.slots
    → HasRoomIn pages one.tree (slot_at_time one c.args.time) (min (slot_at_time one c.args.time + count) one.tree.slots) in
    let low : c.place_of-place.result < one.tree.slots = omega (arith, c.if-place-from.false, c.from.ensures, c.axis-axis.ensures.slots) in
    room_at pages items c.in-Some.id slot (min (slot + count) one.tree.slots) c.place_of-place.result
    (c.place_of-place.result + (c.min-end.result - c.place_of-place.result)) one c.series.ensures
    (for_named items c.args.name.now c.in-Some.id one R (sym c.in-Some.ensures.id) c.series.ensures c.requires.room
    (omega (arith, c.if-count-eq0.false)) c.in_default-clear_refusal.ensures.few (omega (arith, low, at)))
    at (omega (arith, c.min-end.ensures, at, low, c.axis-axis.ensures.slots))

pub returns-in-Some-clear_refusal-clause-answered : goal.returns-in-Some-clear_refusal-clause-answered
returns-in-Some-clear_refusal-clause-answered g c = λ total book told stands.
    let txn = c.args.txn.now in
    let base : Image = (g.P.Pages.view c.args.space.now.pages).image in
    let items : List StoredSeries = c.args.catalog.now.series.items in
    let store : IsStore (left_by txn base) txn.superblock book = (staged_store txn base total book c.requires.staged.catalog.small stands).0
    in
    let one : StoredSeries = c.series.result.now in
    let is : IsFound book c.args.name.now c.in-Some.id one = found
    (left_by txn base) txn.superblock book items c.args.name.now c.in-Some.id one store c.requires.staged.catalog.count
    (c.requires.staged.catalog.are_told told) c.in-Some.ensures.id c.series.ensures in
    let axis : IsAxisOf is.series c.axis-axis.result = is_axis book c.args.name.now c.in-Some.id one c.axis-axis.result is
    c.axis-axis.ensures.start c.axis-axis.ensures.step c.axis-axis.ensures.slots in
    let refusal : Refusal = c.in-Some-clear_refusal.refusal in
    let T : ℤ → Type 0 = λ time. cleared_at is.series time c.args.count ≡ Err refusal in
    let says : cleared_at is.series c.args.time c.args.count ≡ Err refusal = subst T (to_z-of_z w128 c.args.time c.ranges.time)
    (c.in-Some-clear_refusal.ensures.refusal is.series axis) in
    staged_error (apply book total (Clear c.args.name.now c.args.time c.args.count))
    (touch_of book (Clear c.args.name.now c.args.time c.args.count)) total (Err (Refused refusal)) (Refused refusal) txn txn
    (left_by txn base) refl
    (clear_answer book total c.args.name.now c.args.time c.args.count c.in-Some.id is.series (Err refusal) is.is_id is.there says)
    (λ is. refl)

pub returns-then-place-from-clause-answered : goal.returns-then-place-from-clause-answered
returns-then-place-from-clause-answered g c = λ total book told stands.
    let txn = c.args.txn.now in
    let base : Image = (g.P.Pages.view c.args.space.now.pages).image in
    let items : List StoredSeries = c.args.catalog.now.series.items in
    let store : IsStore (left_by txn base) txn.superblock book = (staged_store txn base total book c.requires.staged.catalog.small stands).0
    in
    let one : StoredSeries = c.series.result.now in
    let is : IsFound book c.args.name.now c.in-Some.id one = found
    (left_by txn base) txn.superblock book items c.args.name.now c.in-Some.id one store c.requires.staged.catalog.count
    (c.requires.staged.catalog.are_told told) c.in-Some.ensures.id c.series.ensures in
    let axis : IsAxisOf is.series c.axis-axis.result = is_axis book c.args.name.now c.in-Some.id one c.axis-axis.result is
    c.axis-axis.ensures.start c.axis-axis.ensures.step c.axis-axis.ensures.slots in
    let T : ℤ → Type 0 = λ time. cleared_at is.series time c.args.count ≡ Ok
    (cleared is.series.slots (place_of is.series time) c.args.count) in
    let says : cleared_at is.series c.args.time c.args.count ≡ Ok
    (cleared is.series.slots (place_of is.series c.args.time) c.args.count) = subst T (to_z-of_z w128 c.args.time c.ranges.time)
    (c.in_default-clear_refusal.ensures.refusal is.series axis) in
    let place : c.place_of-place.result ≡ place_of is.series c.args.time = c.place_of-place.ensures is.series axis
    ∙ ap (λ (time : ℤ). place_of is.series time) (to_z-of_z w128 c.args.time c.ranges.time) in
    let why : (length is.series.slots ≤ place_of is.series c.args.time) ⊎ (c.args.count ≡ 0) =
    elim c.then-place-from.branch [
      | then-place-from-via-then-place-from w ↦ inl (omega (arith, w.if-place-from.true, c.from.ensures, axis.slots, place))
      | then-place-from-via-else-place-from+then-count-eq0 w ↦ inr w.if-count-eq0.true
    ] in
    record {
      done = record {
        edited = record { book = book; slots = length is.series.slots };
        accepted = clear_none book total c.args.name.now c.args.time c.args.count c.in-Some.id is.series is.is_id is.there says why;
        slots = axis.slots;
        stands = stands;
      };
      refused = tt;
      same = tt;
      few = omega arith;
    }

pub returns-then-place-from-clause-carried : goal.returns-then-place-from-clause-carried
returns-then-place-from-clause-carried g c =
    let space = c.args.space.now in
    let txn = c.args.txn.now in
    let items : List StoredSeries = c.args.catalog.now.series.items in
    staging_nothing (g.P.Pages.told space.pages) (g.P.Pages.view space.pages) (g.P.Pages.under space.pages) space.superblock txn items
    (record { slots = c.axis-axis.result.slots }) c.requires.staged.catalog
    (omega (arith, c.axis-axis.ensures.slots, (c.requires.staged.catalog.fits c.in-Some.id c.series.result.now c.series.ensures).slots))

pub overflow_add-place : goal.overflow_add-place
overflow_add-place g c =
    omega (
      arith,
      c.if-place-from.false,
      c.from.ensures,
      c.axis-axis.ensures.slots,
      (c.requires.staged.catalog.fits c.in-Some.id c.series.result.now c.series.ensures).slots,
      c.in_default-clear_refusal.ensures.few,
    )

pub returns-clause-answered : goal.returns-clause-answered
returns-clause-answered g c = λ total book told stands.
    let txn = c.args.txn.now in
    let base : Image = (g.P.Pages.view c.args.space.now.pages).image in
    let items : List StoredSeries = c.args.catalog.now.series.items in
    let store : IsStore (left_by txn base) txn.superblock book = (staged_store txn base total book c.requires.staged.catalog.small stands).0
    in
    let one : StoredSeries = c.series.result.now in
    let is : IsFound book c.args.name.now c.in-Some.id one = found
    (left_by txn base) txn.superblock book items c.args.name.now c.in-Some.id one store c.requires.staged.catalog.count
    (c.requires.staged.catalog.are_told told) c.in-Some.ensures.id c.series.ensures in
    let axis : IsAxisOf is.series c.axis-axis.result = is_axis book c.args.name.now c.in-Some.id one c.axis-axis.result is
    c.axis-axis.ensures.start c.axis-axis.ensures.step c.axis-axis.ensures.slots in
    let T : ℤ → Type 0 = λ time. cleared_at is.series time c.args.count ≡ Ok
    (cleared is.series.slots (place_of is.series time) c.args.count) in
    let says : cleared_at is.series c.args.time c.args.count ≡ Ok
    (cleared is.series.slots (place_of is.series c.args.time) c.args.count) = subst T (to_z-of_z w128 c.args.time c.ranges.time)
    (c.in_default-clear_refusal.ensures.refusal is.series axis) in
    let place : c.place_of-place.result ≡ place_of is.series c.args.time = c.place_of-place.ensures is.series axis
    ∙ ap (λ (time : ℤ). place_of is.series time) (to_z-of_z w128 c.args.time c.ranges.time) in
    let slot : ℕ = c.place_of-place.result in
    let some : ℕ = c.min-end.result - slot in
    let so : some ≡ min (slot + c.args.count) (length is.series.slots) - slot = ap (λ n. n - slot) (c.min-end.ensures
    ∙ ap (λ n. min (slot + c.args.count) n) axis.slots) in
    let ends : slot + some ≡ min (place_of is.series c.args.time + c.args.count) (length is.series.slots) = omega (
      arith,
      c.min-end.ensures,
      place,
      axis.slots,
      c.if-place-from.false,
      c.from.ensures,
    ) in
    let new = c.clear_slots.new in
    let T : ℕ → Type 0 = λ touched. IsStagedBy (apply book total (Clear c.args.name.now c.args.time c.args.count)) touched total
    c.clear_slots.result txn new.txn (left_by new.txn (g.P.Pages.view new.space.pages).image) in
    let A : Result Edited Refusal → Type 0 = λ answer. IsStagedBy answer
    (touched_slots is.series (slot) (slot + some)) total c.clear_slots.result txn new.txn
    (left_by new.txn (g.P.Pages.view new.space.pages).image) in
    subst T (ap (λ n. touched_slots is.series slot n) ends
    ∙ ap (λ n. touched_slots is.series n (min (place_of is.series c.args.time + c.args.count) (length is.series.slots))) place
    ∙ sym (touch_found book (id_of c.args.name.now book) c.in-Some.id is.series
    (λ series. touched_slots series (place_of series c.args.time)
    (min (place_of series c.args.time + c.args.count) (length series.slots))) is.is_id is.there))
    (subst A
    (sym (clear_there book total c.args.name.now c.args.time c.args.count c.in-Some.id slot some is.series is.is_id is.there says place
    (omega (arith, c.if-place-from.false, c.from.ensures, axis.slots)) so))
    (c.clear_slots.ensures.answered total book is.series told stands is.there))

pub returns-clause-none_cleared : goal.returns-clause-none_cleared
returns-clause-none_cleared g c = λ total book told stands none.
    let txn = c.args.txn.now in
    let base : Image = (g.P.Pages.view c.args.space.now.pages).image in
    let items : List StoredSeries = c.args.catalog.now.series.items in
    let store : IsStore (left_by txn base) txn.superblock book = (staged_store txn base total book c.requires.staged.catalog.small stands).0
    in
    let one : StoredSeries = c.series.result.now in
    let is : IsFound book c.args.name.now c.in-Some.id one = found
    (left_by txn base) txn.superblock book items c.args.name.now c.in-Some.id one store c.requires.staged.catalog.count
    (c.requires.staged.catalog.are_told told) c.in-Some.ensures.id c.series.ensures in
    let axis : IsAxisOf is.series c.axis-axis.result = is_axis book c.args.name.now c.in-Some.id one c.axis-axis.result is
    c.axis-axis.ensures.start c.axis-axis.ensures.step c.axis-axis.ensures.slots in
    let place : c.place_of-place.result ≡ place_of is.series c.args.time = c.place_of-place.ensures is.series axis
    ∙ ap (λ (time : ℤ). place_of is.series time) (to_z-of_z w128 c.args.time c.ranges.time) in
    elim (none c.in-Some.id is.series is.is_id is.there) [
      | inl no_count ↦ absurd (c.if-count-eq0.false no_count)
      | inr past ↦ absurd (omega (arith, past, place, axis.slots, c.if-place-from.false, c.from.ensures))
    ]

pub returns-clause-kept : goal.returns-clause-kept
returns-clause-kept g c = λ total book told stands keeps.
    let txn = c.args.txn.now in
    let base : Image = (g.P.Pages.view c.args.space.now.pages).image in
    let items : List StoredSeries = c.args.catalog.now.series.items in
    let store : IsStore (left_by txn base) txn.superblock book = (staged_store txn base total book c.requires.staged.catalog.small stands).0
    in
    let one : StoredSeries = c.series.result.now in
    let is : IsFound book c.args.name.now c.in-Some.id one = found
    (left_by txn base) txn.superblock book items c.args.name.now c.in-Some.id one store c.requires.staged.catalog.count
    (c.requires.staged.catalog.are_told told) c.in-Some.ensures.id c.series.ensures in
    let axis : IsAxisOf is.series c.axis-axis.result = is_axis book c.args.name.now c.in-Some.id one c.axis-axis.result is
    c.axis-axis.ensures.start c.axis-axis.ensures.step c.axis-axis.ensures.slots in
    let T : ℤ → Type 0 = λ time. cleared_at is.series time c.args.count ≡ Ok
    (cleared is.series.slots (place_of is.series time) c.args.count) in
    let says : cleared_at is.series c.args.time c.args.count ≡ Ok
    (cleared is.series.slots (place_of is.series c.args.time) c.args.count) = subst T (to_z-of_z w128 c.args.time c.ranges.time)
    (c.in_default-clear_refusal.ensures.refusal is.series axis) in
    let place : c.place_of-place.result ≡ place_of is.series c.args.time = c.place_of-place.ensures is.series axis
    ∙ ap (λ (time : ℤ). place_of is.series time) (to_z-of_z w128 c.args.time c.ranges.time) in
    let slot : ℕ = c.place_of-place.result in
    let some : ℕ = c.min-end.result - slot in
    let so : some ≡ min (slot + c.args.count) (length is.series.slots) - slot = ap (λ n. n - slot) (c.min-end.ensures
    ∙ ap (λ n. min (slot + c.args.count) n) axis.slots) in
    let K : Result Edited Refusal → Type 0 = λ answer. KeepsBook book answer in
    c.clear_slots.ensures.kept total book is.series told stands is.there
    (subst K (clear_there book total c.args.name.now c.args.time c.args.count c.in-Some.id slot some is.series is.is_id is.there says place
    (omega (arith, c.if-place-from.false, c.from.ensures, axis.slots)) so) keeps)
