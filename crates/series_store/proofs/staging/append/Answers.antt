use Rattle.std.proofs.Common.{◌≡◌, ◌+◌, ◌≤◌, ℕ, ℤ, List, length, Option, Ok, Err, Result, subst, sym, ap, refl, arith, ◌∙◌}
use Rattle.series_book.specs.declared.edits.Edit.TheVariants.{Append}
use Rattle.series_book.specs.declared.one_series.Series.{Series}
use Rattle.series_book.specs.declared.refusals.Refusal.{Refusal}
use Rattle.series_book.specs.declared.refusals.Refusal.TheVariants.{UnknownSeries}
use Rattle.series_book.specs.Axes.{IsAxisOf}
use Rattle.series_book.specs.Edits.{Edited, apply, id_of, within, appended, overwritten}
use Rattle.series_catalog.specs.declared.stored_series.StoredSeries.{StoredSeries}
use Rattle.series_store.specs.declared.errors.StoreError.TheVariants.{Refused}
use Rattle.block_disk.specs.View.{Image}
use Rattle.page_space.specs.Transactions.{held, left_by}
use Rattle.stored_book.specs.Standing.{IsStore}
use Rattle.series_store.specs.Groups.{touch_of, touched_slots}
use Rattle.series_store.specs.Results.{KeepsBook}
use Rattle.series_book.specs.declared.limits.TheConstants.{MOST_SLOTS, MOST_VALUES}
use Rattle.series_store.specs.Staging.{HasRoomIn, IsStagedBy}
use Rattle.series_store.proofs.RoomLemmas.{for_named, room_at}
use Rattle.series_store.proofs.StageLemmas.{staged_error, staged_store}
use Rattle.series_store.proofs.FindLemmas.{IsFound, found, touch_found, unknown, is_axis, change_unknown, append_answer}
use Rattle.series_store.proofs.staging.append.Goals as goal

pub returns-in_default-clause-answered : goal.returns-in_default-clause-answered
returns-in_default-clause-answered g c = λ total book told stands.
    let txn = c.args.txn.now in
    let base : Image = (g.P.Pages.view c.args.space.now.pages).image in
    let items : List StoredSeries = c.args.catalog.now.series.items in
    let store : IsStore (left_by txn base) txn.superblock book = (staged_store txn base total book c.requires.staged.catalog.small stands).0
    in
    let none = unknown (left_by txn base) txn.superblock book items c.args.name.now store c.requires.staged.catalog.count
    (c.requires.staged.catalog.are_told told) c.in_default.ensures.id in
    let change : ℕ → Series → Result Edited Refusal = λ id series. within total book id series (appended series c.args.values.now) in
    staged_error (apply book total (Append c.args.name.now c.args.values.now))
    (touch_of book (Append c.args.name.now c.args.values.now)) total (Err (Refused UnknownSeries)) (Refused UnknownSeries) txn txn
    (left_by txn base) refl (change_unknown book (id_of c.args.name.now book) change none) (λ is. refl)

pub append_refusal-requires : goal.append_refusal-requires
append_refusal-requires g c = record {
  slots = omega (
    arith,
    c.axis-axis.ensures.slots,
    (c.requires.staged.catalog.fits c.in-Some.id c.series.result.now c.series.ensures).slots,
  );
}

pub put-requires-clause-room : goal.put-requires-clause-room
put-requires-clause-room g c =
    let items : List StoredSeries = c.args.catalog.now.series.items in
    let one : StoredSeries = c.series.result.now in
    let pages = length (held c.args.txn.now) in
    let values = c.args.values.now in
    let long : length c.deref.result.now ≡ length values = ap length (c.deref.ensures.value ∙ c.in_ok-run.ensures.slots) in
    let R : StoredSeries → Type 0 = λ one. length values ≤ MOST_VALUES → one.tree.slots + length values ≤ MOST_SLOTS
    → HasRoomIn pages one.tree one.tree.slots (one.tree.slots + length values) in
    room_at pages items c.in-Some.id one.tree.slots (one.tree.slots + length values) c.axis-axis.result.slots
    (c.axis-axis.result.slots + length c.deref.result.now) one c.series.ensures
    (for_named items c.args.name.now c.in-Some.id one R
    (sym c.in-Some.ensures.id) c.series.ensures c.requires.room c.in_default-append_refusal.ensures.few
    (omega (arith, c.in_default-append_refusal.ensures.room, c.axis-axis.ensures.slots)))
    c.axis-axis.ensures.slots (omega (arith, c.axis-axis.ensures.slots, long))

pub returns-in-Some-append_refusal-clause-answered : goal.returns-in-Some-append_refusal-clause-answered
returns-in-Some-append_refusal-clause-answered g c = λ total book told stands.
    let txn = c.args.txn.now in
    let base : Image = (g.P.Pages.view c.args.space.now.pages).image in
    let items : List StoredSeries = c.args.catalog.now.series.items in
    let store : IsStore (left_by txn base) txn.superblock book = (staged_store txn base total book c.requires.staged.catalog.small stands).0
    in
    let one : StoredSeries = c.series.result.now in
    let is : IsFound book c.args.name.now c.in-Some.id one = found
    (left_by txn base) txn.superblock book items c.args.name.now c.in-Some.id one store c.requires.staged.catalog.count
    (c.requires.staged.catalog.are_told told) c.in-Some.ensures.id c.series.ensures in
    let axis : IsAxisOf is.series c.axis-axis.result = is_axis book c.args.name.now c.in-Some.id one c.axis-axis.result is
    c.axis-axis.ensures.start c.axis-axis.ensures.step c.axis-axis.ensures.slots in
    let refusal : Refusal = c.in-Some-append_refusal.refusal in
    let says : appended is.series c.args.values.now ≡ Err refusal = c.in-Some-append_refusal.ensures.refusal is.series axis in
    staged_error (apply book total (Append c.args.name.now c.args.values.now))
    (touch_of book (Append c.args.name.now c.args.values.now)) total (Err (Refused refusal)) (Refused refusal) txn txn
    (left_by txn base) refl
    (append_answer book total c.args.name.now c.args.values.now c.in-Some.id is.series (Err refusal) is.is_id is.there says) (λ is. refl)

pub returns-clause-answered : goal.returns-clause-answered
returns-clause-answered g c = λ total book told stands.
    let txn = c.args.txn.now in
    let base : Image = (g.P.Pages.view c.args.space.now.pages).image in
    let items : List StoredSeries = c.args.catalog.now.series.items in
    let store : IsStore (left_by txn base) txn.superblock book = (staged_store txn base total book c.requires.staged.catalog.small stands).0
    in
    let one : StoredSeries = c.series.result.now in
    let is : IsFound book c.args.name.now c.in-Some.id one = found
    (left_by txn base) txn.superblock book items c.args.name.now c.in-Some.id one store c.requires.staged.catalog.count
    (c.requires.staged.catalog.are_told told) c.in-Some.ensures.id c.series.ensures in
    let axis : IsAxisOf is.series c.axis-axis.result = is_axis book c.args.name.now c.in-Some.id one c.axis-axis.result is
    c.axis-axis.ensures.start c.axis-axis.ensures.step c.axis-axis.ensures.slots in
    let says : appended is.series c.args.values.now ≡ Ok
    (overwritten is.series.slots (length is.series.slots) c.args.values.now) = c.in_default-append_refusal.ensures.refusal is.series
    axis in
    let run : c.deref.result.now ≡ c.args.values.now = c.deref.ensures.value ∙ c.in_ok-run.ensures.slots in
    let same : overwritten is.series.slots c.axis-axis.result.slots c.deref.result.now ≡ overwritten is.series.slots
    (length is.series.slots) c.args.values.now =
    ap (λ n. overwritten is.series.slots n c.deref.result.now) axis.slots
    ∙ ap (λ values. overwritten is.series.slots (length is.series.slots) values) run in
    let new = c.put.new in
    let T : ℕ → Type 0 = λ touched. IsStagedBy (apply book total (Append c.args.name.now c.args.values.now)) touched total c.put.result txn
    new.txn (left_by new.txn (g.P.Pages.view new.space.pages).image) in
    let A : Result Edited Refusal → Type 0 = λ answer. IsStagedBy answer
    (touched_slots is.series (c.axis-axis.result.slots) (c.axis-axis.result.slots + length c.deref.result.now)) total c.put.result txn
    new.txn (left_by new.txn (g.P.Pages.view new.space.pages).image) in
    subst T (ap (λ n. touched_slots is.series n (n + length c.deref.result.now)) axis.slots
    ∙ ap (λ (values : List (Option ℤ)). touched_slots is.series (length is.series.slots) (length is.series.slots + length values)) run
    ∙ sym (touch_found book (id_of c.args.name.now book) c.in-Some.id is.series
    (λ series. touched_slots series (length series.slots) (length series.slots + length c.args.values.now)) is.is_id is.there))
    (subst A
    (ap (λ (slots : List (Option ℤ)). within total book c.in-Some.id is.series (Ok slots)) same
    ∙ sym (append_answer book total c.args.name.now c.args.values.now c.in-Some.id is.series
    (Ok (overwritten is.series.slots (length is.series.slots) c.args.values.now)) is.is_id is.there says))
    (c.put.ensures.answered total book is.series told stands is.there))

pub returns-clause-kept : goal.returns-clause-kept
returns-clause-kept g c = λ total book told stands keeps.
    let txn = c.args.txn.now in
    let base : Image = (g.P.Pages.view c.args.space.now.pages).image in
    let items : List StoredSeries = c.args.catalog.now.series.items in
    let store : IsStore (left_by txn base) txn.superblock book = (staged_store txn base total book c.requires.staged.catalog.small stands).0
    in
    let one : StoredSeries = c.series.result.now in
    let is : IsFound book c.args.name.now c.in-Some.id one = found
    (left_by txn base) txn.superblock book items c.args.name.now c.in-Some.id one store c.requires.staged.catalog.count
    (c.requires.staged.catalog.are_told told) c.in-Some.ensures.id c.series.ensures in
    let axis : IsAxisOf is.series c.axis-axis.result = is_axis book c.args.name.now c.in-Some.id one c.axis-axis.result is
    c.axis-axis.ensures.start c.axis-axis.ensures.step c.axis-axis.ensures.slots in
    let says : appended is.series c.args.values.now ≡ Ok
    (overwritten is.series.slots (length is.series.slots) c.args.values.now) = c.in_default-append_refusal.ensures.refusal is.series
    axis in
    let run : c.deref.result.now ≡ c.args.values.now = c.deref.ensures.value ∙ c.in_ok-run.ensures.slots in
    let same : overwritten is.series.slots c.axis-axis.result.slots c.deref.result.now ≡ overwritten is.series.slots
    (length is.series.slots) c.args.values.now =
    ap (λ n. overwritten is.series.slots n c.deref.result.now) axis.slots
    ∙ ap (λ values. overwritten is.series.slots (length is.series.slots) values) run in
    let K : Result Edited Refusal → Type 0 = λ answer. KeepsBook book answer in
    c.put.ensures.kept total book is.series told stands is.there
    (subst K (sym (ap (λ (slots : List (Option ℤ)). within total book c.in-Some.id is.series (Ok slots)) same
    ∙ sym (append_answer book total c.args.name.now c.args.values.now c.in-Some.id is.series
    (Ok (overwritten is.series.slots (length is.series.slots) c.args.values.now)) is.is_id is.there says))) keeps)
