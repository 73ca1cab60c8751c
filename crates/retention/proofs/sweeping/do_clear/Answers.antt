use Rattle.std.proofs.Common.{sym, subst, arith}
use Rattle.series_store.specs.Shown as shown
use Rattle.retention.specs.Sweeping.{IsReadCause, IsSoundFor}
use Rattle.retention.specs.declared.sweep_error.SweepError.{SweepError}
use Rattle.chart_world.specs.Faults.{CountsFault}
use Rattle.chart_world.specs.FaultLaws.{counts_no_disk}
use Rattle.retention.specs.Faults.{sweep_fault}
use Rattle.retention.proofs.Counting.{clear_counts}
use Rattle.retention.proofs.SweepLemmas.{clear_cause, clear_does, clear_fails, clear_sound}
use Rattle.retention.specs.Damage.{BlamesSo}
use Rattle.stored_book.specs.Damage.{IsBadForEdit}
use Rattle.retention.proofs.DamageLemmas.{edit_blames}
use Rattle.retention.proofs.sweeping.do_clear.Goals as goal

pub returns-in-Ok-clause-done : goal.returns-in-Ok-clause-done
returns-in-Ok-clause-done g c = λ total book told stands after slots accepted.
    clear_does total book after c.args.clear.now slots c.in-Ok.field-0 _ (shown.view c.args.store.now) (shown.view c.edit.new.self) accepted
    (c.in-Ok.ensures.done total book told stands) (c.in-Ok.ensures.moments total book told stands)

pub returns-in-Err-clause-done : goal.returns-in-Err-clause-done
returns-in-Err-clause-done g c = λ total book told stands after slots accepted.
    clear_fails total book after c.args.clear.now slots c.in-Err.cause c.clear_error.result (shown.IsTold c.args.store.now)
    (shown.view c.args.store.now) (shown.view c.edit.new.self) c.clear_error.ensures accepted told stands
    (c.in-Err.ensures.refused total book told stands) c.in-Err.ensures.unchanged (c.in-Err.ensures.moments total book told stands)

pub returns-in-Err-clause-cause : goal.returns-in-Err-clause-cause
returns-in-Err-clause-cause g c =
    let store = c.args.store.now in
    let new = c.edit.new.self in
    let P : SweepError → Type 0 = λ e. IsReadCause e (shown.IsTold new) (shown.total store) (shown.view store) (shown.view new) in
    subst P (sym c.clear_error.ensures) (clear_cause c.in-Err.cause (shown.IsTold store) (shown.IsTold new) (shown.numbers store)
    (shown.view store) (shown.view new) c.edit.ensures.moves.was_told c.edit.ensures.moves.size
    (λ t. record { spelled = store.space.spelled c.requires.sound t; rules = store.space.rules }) c.in-Err.ensures.unchanged
    c.in-Err.ensures.cause)

pub returns-in-Err-clause-sound_for : goal.returns-in-Err-clause-sound_for
returns-in-Err-clause-sound_for g c =
    let P : SweepError → Type 0 = λ e. IsSoundFor e (shown.view c.edit.new.self) in
    subst P (sym c.clear_error.ensures) (clear_sound c.in-Err.cause (shown.IsTold c.args.store.now) (shown.view c.args.store.now)
    (shown.view c.edit.new.self) c.in-Err.ensures.unchanged c.requires.sound)

pub returns-in-Ok-clause-faults : goal.returns-in-Ok-clause-faults
returns-in-Ok-clause-faults g c = counts_no_disk (shown.view c.args.store.now)
    (shown.view c.edit.new.self) c.edit.ensures.moves.beside c.in-Ok.ensures.quiet

pub returns-in-Err-clause-faults : goal.returns-in-Err-clause-faults
returns-in-Err-clause-faults g c =
    let store = c.args.store.now in
    let new = c.edit.new.self in
    let P : SweepError → Type 0 = λ e. CountsFault (sweep_fault e) (shown.view store) (shown.view new) in
    subst P (sym c.clear_error.ensures) (clear_counts c.in-Err.cause (shown.IsTold store) (shown.numbers store) (shown.view store)
    (shown.view new) c.edit.ensures.moves.beside c.in-Err.ensures.quiet_err c.in-Err.ensures.cause)

pub returns-in-Ok-clause-commits : goal.returns-in-Ok-clause-commits
returns-in-Ok-clause-commits g c = record {
  syncs = omega (arith, c.edit.ensures.moves.syncs.high);
  writes = omega (arith, c.edit.ensures.moves.writes.high);
}

pub returns-in-Err-clause-commits : goal.returns-in-Err-clause-commits
returns-in-Err-clause-commits g c = record {
  syncs = omega (arith, c.edit.ensures.moves.syncs.high);
  writes = omega (arith, c.edit.ensures.moves.writes.high);
}

pub returns-in-Err-clause-blames : goal.returns-in-Err-clause-blames
returns-in-Err-clause-blames g c =
    let store = c.args.store.now in
    let new = c.edit.new.self in
    let P : SweepError → Type 0 = λ e. BlamesSo IsBadForEdit e new in
    subst P (sym c.clear_error.ensures) (edit_blames c.in-Err.cause (shown.IsTold store) (shown.IsTold new) (shown.numbers store)
    (shown.view store) (shown.view new) c.edit.ensures.moves.was_told c.edit.ensures.moves.size
    (λ t. record { spelled = store.space.spelled c.requires.sound t; rules = store.space.rules }) c.in-Err.ensures.unchanged
    c.in-Err.ensures.cause)
