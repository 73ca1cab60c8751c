use Rattle.std.proofs.Common.{◌+◌, ◌*◌, ◌≤◌, refl, sym, subst, arith}
use Rattle.om3_coeff.proofs.KeyLemmas.{height_few}
use Rattle.om3_coeff.specs.Keys.{height}
use Rattle.chart_world.specs.Faults.{CountsFault}
use Rattle.chart_world.specs.FaultLaws.{counts_no_disk}
use Rattle.series_store.specs.Shown as shown
use Rattle.retention.specs.Faults.{sweep_fault}
use Rattle.retention.specs.declared.sweep_error.SweepError.{SweepError}
use Rattle.retention.proofs.Counting.{ask_counts}
use Rattle.retention.proofs.asking.first_stored.Goals as goal

pub returns-in-Ok-clause-faults : goal.returns-in-Ok-clause-faults
returns-in-Ok-clause-faults g c = counts_no_disk (shown.view c.args.store.now)
    (shown.view c.first_in.new.nodes) c.first_in.ensures.kept.pages.beside c.in-Ok.ensures.quiet

pub returns-in-Err-clause-faults : goal.returns-in-Err-clause-faults
returns-in-Err-clause-faults g c =
    let old = c.args.store.now in
    let new = c.first_in.new.nodes in
    let P : SweepError → Type 0 = λ e. CountsFault (sweep_fault e) (shown.view old) (shown.view new) in
    subst P (sym c.node_error.ensures) (ask_counts c.in-Err.error (shown.view old) (shown.view new) (shown.nodes old)
    (shown.nodes new) c.first_in.ensures.kept.pages.beside refl refl c.in-Err.ensures.quiet_err c.in-Err.ensures.cause)

pub returns-in-Ok-clause-reads : goal.returns-in-Ok-clause-reads
returns-in-Ok-clause-reads g c =
    let slots = (shown.nodes c.args.store.now).slots in
    let few : (shown.view c.first_in.new.nodes).reads ≤ (shown.view c.args.store.now).reads + 3 * height slots = c.first_in.ensures.reads in
    omega (arith, few, height_few slots)

pub returns-in-Err-clause-reads : goal.returns-in-Err-clause-reads
returns-in-Err-clause-reads g c =
    let slots = (shown.nodes c.args.store.now).slots in
    let few : (shown.view c.first_in.new.nodes).reads ≤ (shown.view c.args.store.now).reads + 3 * height slots = c.first_in.ensures.reads in
    omega (arith, few, height_few slots)
