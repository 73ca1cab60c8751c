use Rattle.std.proofs.Common.{Err, length, subst, sym}
use Rattle.run_ends.specs.Faults.{end_fault}
use Rattle.series_load.specs.Steps.{BlamesNone, IsSetCause}
use Rattle.run_ends.specs.declared.ending.End.{End}
use Rattle.chart_world.specs.Faults.{CountsFault}
use Rattle.series_load.proofs.CostLemmas.{costs_commit}
use Rattle.series_load.proofs.Counting.{set_counts}
use Rattle.series_load.proofs.GroupLemmas.{counted, counted_blames, counted_cause, counted_faults, counted_most, counted_some}
use Rattle.series_load.proofs.GroupLemmas.{counted_sound, counts_as, edit_cause, err_as, group_failed, set_blames}
use Rattle.series_load.proofs.SetLemmas.{cause_of}
use Rattle.series_store.specs.Shown as shown
use Rattle.series_load.proofs.committing.commit_some.Goals as goal

pub returns-in-Ok-clause-does : goal.returns-in-Ok-clause-does
returns-in-Ok-clause-does g c = λ total name book runs told stands are.
    counted total name book runs c.args.sets.now c.args.ats.now c.in-Ok.answers.items c.to_count.result (shown.view c.args.store.now)
    (shown.view c.edit_until_refused.new.self) are (c.in-Ok.ensures.done total book told stands)
    (c.in-Ok.ensures.last total book told stands) (c.in-Ok.ensures.moments total book told stands) c.in-Ok.ensures.covered.1
    (costs_commit (length c.in-Ok.answers.items) (shown.view c.args.store.now)
    (shown.view c.edit_until_refused.new.self) c.in-Ok.ensures.covered.0
    (c.in-Ok.ensures.few_reads total book told stands) c.edit_until_refused.ensures.moves.syncs
    c.edit_until_refused.ensures.moves.writes)
    (counts_as c.args.ats.now c.in-Ok.answers.items c.as_slice.result.now c.to_count.result c.as_slice.ensures.value c.to_count.ensures)

pub returns-in-Ok-clause-cause : goal.returns-in-Ok-clause-cause
returns-in-Ok-clause-cause g c = counted_cause c.args.ats.now c.in-Ok.answers.items c.to_count.result _ _ _ _
    (counts_as c.args.ats.now c.in-Ok.answers.items c.as_slice.result.now c.to_count.result c.as_slice.ensures.value c.to_count.ensures)

pub returns-in-Ok-clause-faults : goal.returns-in-Ok-clause-faults
returns-in-Ok-clause-faults g c = counted_faults c.args.ats.now c.in-Ok.answers.items c.to_count.result (shown.view c.args.store.now)
    (shown.view c.edit_until_refused.new.self) (counts_as c.args.ats.now c.in-Ok.answers.items c.as_slice.result.now c.to_count.result
    c.as_slice.ensures.value c.to_count.ensures) c.edit_until_refused.ensures.moves.beside c.in-Ok.ensures.quiet

pub returns-in-Ok-clause-sound_for : goal.returns-in-Ok-clause-sound_for
returns-in-Ok-clause-sound_for g c = counted_sound c.args.ats.now c.in-Ok.answers.items c.to_count.result _
    (counts_as c.args.ats.now c.in-Ok.answers.items c.as_slice.result.now c.to_count.result c.as_slice.ensures.value c.to_count.ensures)
    c.in-Ok.ensures.sound

pub returns-in-Ok-clause-most : goal.returns-in-Ok-clause-most
returns-in-Ok-clause-most g c = counted_most c.args.ats.now c.in-Ok.answers.items c.to_count.result _
    (counts_as c.args.ats.now c.in-Ok.answers.items c.as_slice.result.now c.to_count.result c.as_slice.ensures.value c.to_count.ensures)
    c.in-Ok.ensures.covered.1

pub returns-in-Ok-clause-some : goal.returns-in-Ok-clause-some
returns-in-Ok-clause-some g c = counted_some c.args.ats.now c.in-Ok.answers.items c.to_count.result
    (counts_as c.args.ats.now c.in-Ok.answers.items c.as_slice.result.now c.to_count.result c.as_slice.ensures.value c.to_count.ensures)
    c.in-Ok.ensures.covered.0

pub returns-in-Err-clause-does : goal.returns-in-Err-clause-does
returns-in-Err-clause-does g c = λ total name book runs told stands are.
    group_failed total name book runs c.args.sets.now c.args.ats.now _ c.in-Err.error (Err c.end_at.result) (shown.IsTold c.args.store.now)
    (shown.view c.args.store.now) (shown.view c.edit_until_refused.new.self) (err_as c.end_at.result _ c.end_at.ensures) are told stands
    (c.in-Err.ensures.outside total book told stands) c.in-Err.ensures.unchanged (c.edit_until_refused.ensures.whole total book told stands)
    (costs_commit (length c.args.sets.now) (shown.view c.args.store.now) (shown.view c.edit_until_refused.new.self) c.requires.some
    (c.edit_until_refused.ensures.reads total book told stands) c.edit_until_refused.ensures.moves.syncs
    c.edit_until_refused.ensures.moves.writes)

pub returns-in-Err-clause-cause : goal.returns-in-Err-clause-cause
returns-in-Err-clause-cause g c =
    let store = c.args.store.now in
    let new = c.edit_until_refused.new.self in
    let P : End → Type 0 = λ e. IsSetCause e (shown.IsTold new) (shown.total store) (shown.view store) (shown.view new) in
    subst P (sym c.end_at.ensures) (cause_of _ c.in-Err.error (shown.IsTold store) (shown.IsTold new) (shown.numbers store)
    (shown.view store) (shown.view new) c.edit_until_refused.ensures.moves.was_told c.edit_until_refused.ensures.moves.size
    (λ t. record { spelled = store.space.spelled c.requires.sound t; rules = store.space.rules }) c.in-Err.ensures.unchanged
    (edit_cause c.in-Err.error (shown.IsTold store) (shown.numbers store) (shown.view store) (shown.view new) c.in-Err.ensures.cause))

pub returns-in-Err-clause-faults : goal.returns-in-Err-clause-faults
returns-in-Err-clause-faults g c =
    let store = c.args.store.now in
    let new = c.edit_until_refused.new.self in
    let P : End → Type 0 = λ e. CountsFault (end_fault e) (shown.view store) (shown.view new) in
    subst P (sym c.end_at.ensures) (set_counts _ c.in-Err.error (shown.IsTold store) (shown.numbers store) (shown.view store)
    (shown.view new) c.edit_until_refused.ensures.moves.beside c.in-Err.ensures.quiet_err
    (edit_cause c.in-Err.error (shown.IsTold store) (shown.numbers store) (shown.view store) (shown.view new) c.in-Err.ensures.cause))

pub returns-in-Ok-clause-blames : goal.returns-in-Ok-clause-blames
returns-in-Ok-clause-blames g c = counted_blames c.args.ats.now c.in-Ok.answers.items c.to_count.result
    (counts_as c.args.ats.now c.in-Ok.answers.items c.as_slice.result.now c.to_count.result c.as_slice.ensures.value c.to_count.ensures)

pub returns-in-Err-clause-blames : goal.returns-in-Err-clause-blames
returns-in-Err-clause-blames g c =
    let P : End → Type 0 = λ e. BlamesNone e in
    subst P (sym c.end_at.ensures) (set_blames _ c.in-Err.error)
