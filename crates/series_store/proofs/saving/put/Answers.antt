use Rattle.std.proofs.Common.{◌≡◌, ℕ, ℤ, ◌+◌, ◌⊎◌, max, List, length, slice_get, Option, Result, Ok, All, IsSome, OnOk, true, false, refl}
use Rattle.std.proofs.Common.{sym, ap, subst, ◌∙◌, arith}
use Rattle.block_disk.specs.View.{Image}
use Rattle.om3_coeff.specs.Keys.{page_levels}
use Rattle.page_space.specs.Transactions.{held, left_by}
use Rattle.path_repair.specs.Costs.{touch}
use Rattle.path_repair.specs.Edited.{IsEditedTree}
use Rattle.series_book.specs.declared.refusals.Refusal.{Refusal}
use Rattle.series_book.specs.Edits.{Edited, with_slots, within, overwritten}
use Rattle.series_catalog.specs.Catalogs.{entry_of}
use Rattle.series_catalog.specs.declared.stored_series.StoredSeries.{StoredSeries}
use Rattle.stored_book.specs.Changing.{IsTreeChanged}
use Rattle.stored_book.specs.Records.{entry, pages_of_others}
use Rattle.stored_book.specs.Standing.{IsStore, StandsForBook}
use Rattle.path_repair.proofs.EditLemmas.{levels_few}
use Rattle.series_store.specs.Errors.{error_of}
use Rattle.series_store.specs.Groups.{touched_slots}
use Rattle.series_store.specs.Staging.{HasRoomIn, IsPartChanged}
use Rattle.series_store.proofs.AnswerLemmas.{fits_within, tree_refused}
use Rattle.series_store.proofs.CarryLemmas.{names_below}
use Rattle.series_store.proofs.ChangeLemmas.{root_below, own_tree, put_edited}
use Rattle.series_store.proofs.KeptLemmas.{with_same, staging_kept, staged_kept, kept_stands, put_keeps}
use Rattle.series_store.proofs.RecordLemmas.{known_some}
use Rattle.series_store.proofs.SlotLemmas.{are_values}
use Rattle.series_store.proofs.StageLemmas.{full_same, later_staged, run_pages, staged_error, staged_saved, staged_store, staging_error}
use Rattle.series_store.proofs.StageLemmas.{staging_saved}
use Rattle.tree_walk.proofs.StepLemmas.{error_so}
use Rattle.series_store.proofs.saving.put.Goals as goal

pub put_run-requires-clause-root : goal.put_run-requires-clause-root
put_run-requires-clause-root g c =
    let txn = c.args.txn.now in
    omega (
      arith,
      c.requires.staged.total_is,
      root_below txn.superblock.fresh txn.superblock.total (entry_of c.series.result.now)
          (c.requires.staged.catalog.fits c.args.id c.series.result.now c.series.ensures) txn.rules.fresh_high txn.rules.total_low,
    )

pub put_run-requires-clause-proper : goal.put_run-requires-clause-proper
put_run-requires-clause-proper g c = (c.requires.staged.catalog.fits c.args.id c.series.result.now c.series.ensures).span

pub put_run-requires-clause-few : goal.put_run-requires-clause-few
put_run-requires-clause-few g c = omega (arith, (c.requires.staged.catalog.fits c.args.id c.series.result.now c.series.ensures).slots)

pub put_run-requires-clause-values : goal.put_run-requires-clause-values
put_run-requires-clause-values g c = are_values c.args.values.now c.requires.values

pub put_run-requires-clause-room : goal.put_run-requires-clause-room
put_run-requires-clause-room g c =
    let one : StoredSeries = c.series.result.now in
    let R : StoredSeries → Type 0 = λ one. HasRoomIn (length (held c.args.txn.now)) one.tree c.args.slot
    (c.args.slot + length c.args.values.now) in
    omega (arith, known_some (slice_get c.args.catalog.now.series.items c.args.id) one R c.series.ensures c.requires.room)

pub save-requires-clause-staged : goal.save-requires-clause-staged
save-requires-clause-staged g c =
    let told = g.P.Pages.told in
    let view = g.P.Pages.view in
    let under = g.P.Pages.under in
    let old = c.args.space.now in
    let mid = c.put_run.new.space in
    let txn = c.args.txn.now in
    let changed = c.put_run.new.txn in
    let one : StoredSeries = c.series.result.now in
    let tree = one.tree in
    let items : List StoredSeries = c.args.catalog.now.series.items in
    later_staged (told old.pages) (told mid.pages) (view old.pages) (view mid.pages) (under old.pages)
    (under mid.pages) old.superblock mid.superblock txn changed items c.put_run.ensures.moved
    (λ t. c.put_run.ensures.catalog (view old.pages).image (record { are_told = t; are = refl })) c.requires.staged

pub save-requires-clause-room : goal.save-requires-clause-room
save-requires-clause-room g c =
    let one : StoredSeries = c.series.result.now in
    let R : StoredSeries → Type 0 = λ one. HasRoomIn (length (held c.args.txn.now)) one.tree c.args.slot
    (c.args.slot + length c.args.values.now) in
    omega (
      arith,
      c.put_run.ensures.moved.held,
      known_some
          (slice_get c.args.catalog.now.series.items c.args.id) one R c.series.ensures c.requires.room,
    )

pub returns-in_err-tree-clause-carried : goal.returns-in_err-tree-clause-carried
returns-in_err-tree-clause-carried g c =
    let told = g.P.Pages.told in
    let view = g.P.Pages.view in
    let under = g.P.Pages.under in
    let old = c.args.space.now in
    let mid = c.put_run.new.space in
    let txn = c.args.txn.now in
    let changed = c.put_run.new.txn in
    let one : StoredSeries = c.series.result.now in
    let tree = one.tree in
    let items : List StoredSeries = c.args.catalog.now.series.items in
    let long : ℕ = length c.args.values.now in
    let n : ℕ = max tree.slots (c.args.slot + long) in
    let fewer = (c.requires.staged.catalog.fits c.args.id one c.series.ensures).slots in
    let five = levels_few n in
    let puts = run_pages c.args.slot long tree.slots n c.requires.short in
    staging_error (told old.pages) (told mid.pages) (view old.pages) (view mid.pages) (under old.pages)
    (under mid.pages) old.superblock mid.superblock txn changed items c.from_residual.result c.in_err-tree.field-0.0
    (omega (arith, puts, five)) (omega (arith, puts, five)) c.from_residual.ensures.1 c.put_run.ensures.moved
    (λ t. c.put_run.ensures.catalog (view old.pages).image (record { are_told = t; are = refl })) c.requires.staged
    c.in_err-tree.ensures.cause
    (names_below (told old.pages) (view old.pages).image txn c.args.id one c.in_err-tree.field-0.0
    (omega (arith, c.requires.there, c.requires.staged.catalog.count)) c.requires.staged.catalog.small
    (λ t. c.requires.staged.catalog.are_told t c.args.id one c.series.ensures)
    (λ t. c.in_err-tree.ensures.stored (view old.pages).image (record { are_told = t; are = refl })))

pub returns-clause-carried : goal.returns-clause-carried
returns-clause-carried g c =
    let told = g.P.Pages.told in
    let view = g.P.Pages.view in
    let under = g.P.Pages.under in
    let old = c.args.space.now in
    let mid = c.put_run.new.space in
    let txn = c.args.txn.now in
    let changed = c.put_run.new.txn in
    let one : StoredSeries = c.series.result.now in
    let tree = one.tree in
    let items : List StoredSeries = c.args.catalog.now.series.items in
    let long : ℕ = length c.args.values.now in
    let n : ℕ = max tree.slots (c.args.slot + long) in
    let fewer = (c.requires.staged.catalog.fits c.args.id one c.series.ensures).slots in
    let five = levels_few n in
    let puts = run_pages c.args.slot long tree.slots n c.requires.short in
    let new = c.save.new.space in
    staging_saved (told old.pages) (told mid.pages) (told new.pages) (view old.pages) (view mid.pages) (view new.pages) (under old.pages)
    (under mid.pages) (under new.pages) old.superblock mid.superblock new.superblock txn changed c.save.new.txn
    items c.save.new.catalog.series.items c.in_ok-tree.tree.slots c.save.result (omega (arith, puts, five)) (omega (arith, puts, five))
    (omega (arith, c.in_ok-tree.ensures.tree.slots_are, fewer, c.requires.within))
    c.put_run.ensures.moved c.in_ok-tree.ensures.quiet c.save.ensures.reads c.save.ensures.goes_on c.save.ensures.space
    c.save.ensures.superblock c.save.ensures.len c.save.ensures.error c.save.ensures.cause c.save.ensures.kept c.save.ensures.back
    c.save.ensures.staged c.save.ensures.slots

pub returns-in_err-tree-clause-answered : goal.returns-in_err-tree-clause-answered
returns-in_err-tree-clause-answered g c = λ total book series told' stands found.
    let told = g.P.Pages.told in
    let view = g.P.Pages.view in
    let under = g.P.Pages.under in
    let old = c.args.space.now in
    let mid = c.put_run.new.space in
    let txn = c.args.txn.now in
    let changed = c.put_run.new.txn in
    let one : StoredSeries = c.series.result.now in
    let tree = one.tree in
    let items : List StoredSeries = c.args.catalog.now.series.items in
    let fewer = (c.requires.staged.catalog.fits c.args.id one c.series.ensures).slots in
    let run : List (Option ℤ) = c.args.values.now in
    let before : Image = left_by txn (view old.pages).image in
    let store : IsStore before txn.superblock book × (txn.superblock.total ≡ total) = staged_store txn
    (view old.pages).image total book c.requires.staged.catalog.small stands in
    let says : entry before c.args.id ≡ entry_of one = c.requires.staged.catalog.are_told told' c.args.id one c.series.ensures in
    let W : StoredSeries → Type 0 = λ one. (c.args.slot ≡ one.tree.slots) ⊎ All (λ value. IsSome value) run in
    let whole : W one = known_some (slice_get items c.args.id) one W c.series.ensures c.requires.whole in
    let slots : List (Option ℤ) = overwritten series.slots c.args.slot run in
    let edited = put_edited before txn.superblock book c.args.id series one c.args.slot run store.0 found says c.requires.values whole in
    let held_tree = own_tree before txn.superblock book c.args.id series one store.0 found says in
    let answer : Result Edited Refusal = within total book c.args.id series (Ok slots) in
    let error = c.in_err-tree.ensures.errors (view old.pages).image txn.superblock.total series.slots slots
    (pages_of_others before (length book) c.args.id) (record { are_told = told'; are = refl }) held_tree edited in
    staged_error answer (touched_slots series c.args.slot (c.args.slot + length run)) total c.from_residual.result
    (error_of c.in_err-tree.field-0.0) txn changed (left_by changed (view mid.pages).image) c.from_residual.ensures.1
    (tree_refused before txn.superblock total book c.args.id series slots txn changed c.in_err-tree.field-0.0 store.0 store.1 found
    (omega (arith, edited.length_is, fewer, c.requires.within)) refl error)
    (full_same txn changed series.slots slots c.in_err-tree.field-0.0 error)

pub returns-clause-answered : goal.returns-clause-answered
returns-clause-answered g c = λ total book series told' stands found.
    let told = g.P.Pages.told in
    let view = g.P.Pages.view in
    let under = g.P.Pages.under in
    let old = c.args.space.now in
    let mid = c.put_run.new.space in
    let txn = c.args.txn.now in
    let changed = c.put_run.new.txn in
    let one : StoredSeries = c.series.result.now in
    let tree = one.tree in
    let items : List StoredSeries = c.args.catalog.now.series.items in
    let run : List (Option ℤ) = c.args.values.now in
    let before : Image = left_by txn (view old.pages).image in
    let store : IsStore before txn.superblock book × (txn.superblock.total ≡ total) = staged_store txn
    (view old.pages).image total book c.requires.staged.catalog.small stands in
    let says : entry before c.args.id ≡ entry_of one = c.requires.staged.catalog.are_told told' c.args.id one c.series.ensures in
    let W : StoredSeries → Type 0 = λ one. (c.args.slot ≡ one.tree.slots) ⊎ All (λ value. IsSome value) run in
    let whole : W one = known_some (slice_get items c.args.id) one W c.series.ensures c.requires.whole in
    let slots : List (Option ℤ) = overwritten series.slots c.args.slot run in
    let edited = put_edited before txn.superblock book c.args.id series one c.args.slot run store.0 found says c.requires.values whole in
    let held_tree = own_tree before txn.superblock book c.args.id series one store.0 found says in
    let answer : Result Edited Refusal = within total book c.args.id series (Ok slots) in
    let new = c.save.new.space in
    let after : Image = left_by changed (view old.pages).image in
    let now : left_by changed (view mid.pages).image ≡ after = ap (λ (i : Image). left_by changed i)
    (c.put_run.ensures.moved.reads.image told') in
    let T : ℕ → Type 0 = λ n. IsEditedTree n before after changed.superblock c.in_ok-tree.tree slots
    (pages_of_others before (length book) c.args.id) in
    let C : Image → Type 0 = λ i. IsTreeChanged before i (length book) c.args.id changed.superblock c.in_ok-tree.tree slots in
    let part : IsPartChanged (left_by changed (view mid.pages).image) changed.superblock one c.args.id c.in_ok-tree.tree book series
    slots = record {
      before = before;
      numbers = txn.superblock;
      store = store.0;
      there = found;
      says = says;
      later = record {
        total = c.put_run.ensures.moved.total;
        series = c.put_run.ensures.moved.series;
        fresh = c.put_run.ensures.moved.fresh;
      };
      changed = subst C (sym now) (record {
        edited = subst T (sym c.put_run.ensures.moved.total)
            (c.in_ok-tree.ensures.edited (view old.pages).image txn.superblock.total series.slots slots
            (pages_of_others before (length book) c.args.id) (record { are_told = told'; are = refl }) held_tree edited);
        catalog = c.put_run.ensures.catalog (view old.pages).image (record { are_told = told'; are = refl });
      });
    } in
    let B : ℕ → Type 0 = λ n. OnOk c.save.result (StandsForBook (left_by c.save.new.txn (view new.pages).image) n
    (with_slots book c.args.id series slots)) in
    staged_saved answer (record { book = with_slots book c.args.id series slots; slots = length slots })
    (touched_slots series c.args.slot (c.args.slot + length run)) total c.in_ok-tree.tree.slots c.save.result txn c.save.new.txn
    (left_by c.save.new.txn (view new.pages).image)
    (λ now. fits_within total book c.args.id series slots (left_by c.save.new.txn (view new.pages).image) now)
    (part.changed.edited.holds.is_tree.slots)
    c.save.ensures.error (subst B (c.put_run.ensures.moved.total
    ∙ store.1) (c.save.ensures.stands (c.put_run.ensures.moved.reads.told told') one book series slots c.series.ensures part))
    c.save.ensures.slots
    (omega (
      arith,
      c.save.ensures.len,
      c.put_run.ensures.moved.held,
      ap (λ n. touch c.args.slot (c.args.slot + length run) (page_levels n) (page_levels (max n (c.args.slot + length run))) 0)
          held_tree.is_tree.slots,
    ))

pub returns-then-is_kept-clause-carried : goal.returns-then-is_kept-clause-carried
returns-then-is_kept-clause-carried g c =
    let told = g.P.Pages.told in
    let view = g.P.Pages.view in
    let under = g.P.Pages.under in
    let old = c.args.space.now in
    let mid = c.put_run.new.space in
    let txn = c.args.txn.now in
    let changed = c.put_run.new.txn in
    let one : StoredSeries = c.series.result.now in
    let tree = one.tree in
    let items : List StoredSeries = c.args.catalog.now.series.items in
    let long : ℕ = length c.args.values.now in
    let n : ℕ = max tree.slots (c.args.slot + long) in
    let fewer = (c.requires.staged.catalog.fits c.args.id one c.series.ensures).slots in
    let five = levels_few n in
    let puts = run_pages c.args.slot long tree.slots n c.requires.short in
    let kept = c.is_kept.ensures.0 c.if-is_kept.true in
    let same : changed ≡ txn = c.in_ok-tree.ensures.kept kept.0 in
    staging_kept (told old.pages) (told mid.pages) (view old.pages) (view mid.pages) (under old.pages)
    (under mid.pages) old.superblock mid.superblock txn changed items c.nothing.result (omega (arith, puts, five))
    (omega (arith, puts, five))
    c.put_run.ensures.moved (λ t. c.put_run.ensures.catalog (view old.pages).image (record { are_told = t; are = refl })) c.requires.staged
    same c.nothing.ensures.undo (omega (arith, fewer, c.nothing.ensures.slots))

pub returns-then-is_kept-clause-answered : goal.returns-then-is_kept-clause-answered
returns-then-is_kept-clause-answered g c = λ total book series told' stands found.
    let told = g.P.Pages.told in
    let view = g.P.Pages.view in
    let under = g.P.Pages.under in
    let old = c.args.space.now in
    let mid = c.put_run.new.space in
    let txn = c.args.txn.now in
    let changed = c.put_run.new.txn in
    let one : StoredSeries = c.series.result.now in
    let tree = one.tree in
    let items : List StoredSeries = c.args.catalog.now.series.items in
    let run : List (Option ℤ) = c.args.values.now in
    let before : Image = left_by txn (view old.pages).image in
    let store : IsStore before txn.superblock book × (txn.superblock.total ≡ total) = staged_store txn
    (view old.pages).image total book c.requires.staged.catalog.small stands in
    let says : entry before c.args.id ≡ entry_of one = c.requires.staged.catalog.are_told told' c.args.id one c.series.ensures in
    let W : StoredSeries → Type 0 = λ one. (c.args.slot ≡ one.tree.slots) ⊎ All (λ value. IsSome value) run in
    let whole : W one = known_some (slice_get items c.args.id) one W c.series.ensures c.requires.whole in
    let slots : List (Option ℤ) = overwritten series.slots c.args.slot run in
    let edited = put_edited before txn.superblock book c.args.id series one c.args.slot run store.0 found says c.requires.values whole in
    let held_tree = own_tree before txn.superblock book c.args.id series one store.0 found says in
    let answer : Result Edited Refusal = within total book c.args.id series (Ok slots) in
    let kept = c.is_kept.ensures.0 c.if-is_kept.true in
    let still : changed ≡ txn = c.in_ok-tree.ensures.kept kept.0 in
    let same : slots ≡ series.slots = c.in_ok-tree.ensures.same kept.0 (view old.pages).image txn.superblock.total series.slots slots
    (pages_of_others before (length book) c.args.id) (record { are_told = told'; are = refl }) held_tree edited
    (omega (arith, edited.length_is, c.in_ok-tree.ensures.tree.slots_are, kept.1, held_tree.is_tree.slots)) in
    let book_is : with_slots book c.args.id series slots ≡ book = ap (λ l. with_slots book c.args.id series l) same
    ∙ with_same book c.args.id series found in
    let after = kept_stands (view old.pages).image (view mid.pages).image txn changed total book
    (with_slots book c.args.id series slots) book_is (c.put_run.ensures.moved.reads.image told') still stands in
    staged_kept answer (record { book = with_slots book c.args.id series slots; slots = length slots })
    (touched_slots series c.args.slot (c.args.slot + length run)) total c.nothing.result txn changed
    (left_by changed (view mid.pages).image) (λ now. fits_within total book c.args.id series slots
    (left_by changed (view mid.pages).image) now) (c.nothing.ensures.slots ∙ held_tree.is_tree.slots
    ∙ sym (ap (λ l. length l) same)) after still

pub returns-clause-kept : goal.returns-clause-kept
returns-clause-kept g c = λ total book series told' stands found keeps.
    let told = g.P.Pages.told in
    let view = g.P.Pages.view in
    let under = g.P.Pages.under in
    let old = c.args.space.now in
    let mid = c.put_run.new.space in
    let txn = c.args.txn.now in
    let changed = c.put_run.new.txn in
    let one : StoredSeries = c.series.result.now in
    let tree = one.tree in
    let items : List StoredSeries = c.args.catalog.now.series.items in
    let run : List (Option ℤ) = c.args.values.now in
    let before : Image = left_by txn (view old.pages).image in
    let store : IsStore before txn.superblock book × (txn.superblock.total ≡ total) = staged_store txn
    (view old.pages).image total book c.requires.staged.catalog.small stands in
    let says : entry before c.args.id ≡ entry_of one = c.requires.staged.catalog.are_told told' c.args.id one c.series.ensures in
    let W : StoredSeries → Type 0 = λ one. (c.args.slot ≡ one.tree.slots) ⊎ All (λ value. IsSome value) run in
    let whole : W one = known_some (slice_get items c.args.id) one W c.series.ensures c.requires.whole in
    let slots : List (Option ℤ) = overwritten series.slots c.args.slot run in
    let edited = put_edited before txn.superblock book c.args.id series one c.args.slot run store.0 found says c.requires.values whole in
    let held_tree = own_tree before txn.superblock book c.args.id series one store.0 found says in
    let answer : Result Edited Refusal = within total book c.args.id series (Ok slots) in
    let other : slots ≡ series.slots → ⊥ = λ equal.
    let unchanged = c.in_ok-tree.ensures.idle refl (view old.pages).image txn.superblock.total series.slots slots
    (pages_of_others before (length book) c.args.id) (record { are_told = told'; are = refl }) held_tree edited equal in
    let yes : c.is_kept.result ≡ true = c.is_kept.ensures.1 (
      unchanged,
      omega (arith, edited.length_is, c.in_ok-tree.ensures.tree.slots_are, ap (λ l. length l) equal, held_tree.is_tree.slots),
    ) in
    let no_more : c.is_kept.result ≡ false = c.if-is_kept.false in
    cc (yes, no_more) in
    put_keeps total book c.args.id series slots (touched_slots series c.args.slot (c.args.slot + length run)) c.save.result txn
    c.save.new.txn (left_by c.save.new.txn (view c.save.new.space.pages).image) found
    (returns-clause-answered g c total book series told' stands found) keeps other

pub returns-in_err-tree-clause-quiet_err : goal.returns-in_err-tree-clause-quiet_err
returns-in_err-tree-clause-quiet_err g c =
    error_so _ _ c.from_residual.result c.from_residual.ensures.1
    (λ e same other. c.in_err-tree.ensures.quiet_err (λ is. other (same ∙ ap error_of is)))
