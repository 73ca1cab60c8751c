use Rattle.std.proofs.Common.{◌⊎◌, ◌≡◌, ap, subst, sym, ◌∙◌}
use Rattle.block_disk.specs.View.{Beside}
use Rattle.chart_world.specs.Faults.{CountsFault}
use Rattle.chart_world.specs.FaultLaws.{counts_no_disk}
use Rattle.run_ends.specs.Statuses.{code_of}
use Rattle.run_ends.specs.declared.ending.End.{End}
use Rattle.run_ends.specs.Faults.{end_fault}
use Rattle.run_ends.specs.declared.ending.End.TheVariants.{Done, NoMemory}
use Rattle.store_commands.proofs.TurnedAway.{away_never}
use Rattle.store_commands.specs.Away.{IsTurnedAway}
use Rattle.chart_program.specs.Ran.{IsInitEnd}
use Rattle.chart_program.proofs.InitEnds.{away_unmade, caused, counts_unmade, unmade_ready}
use Rattle.chart_program.proofs.commands.init.Goals as goal

pub returns-in-Err-clause-ends : goal.returns-in-Err-clause-ends
returns-in-Err-clause-ends g c =
    let old = g.W.Disk.view c.args.world in
    let new = g.W.Disk.view c.in-Err.field-0.value in
    let E : End → Type 0 = λ e. IsInitEnd e old new in
    subst E (sym c.init_end.ensures) (caused old new c.in-Err.field-0.cause c.in-Err.ensures.cause)

pub returns-in-Ok-clause-away : goal.returns-in-Ok-clause-away
returns-in-Ok-clause-away g c = away_never _ _ c.in-Ok.ensures.large

pub returns-in-Err-clause-away : goal.returns-in-Err-clause-away
returns-in-Err-clause-away g c = λ few.
    let view = g.W.Disk.view in
    let left = g.W.Streams.left in
    let sent = g.W.Streams.sent in
    let old = c.args.world in
    let new = c.in-Err.field-0.value in
    let e = c.in-Err.ensures in
    let w = g.met.W.World in
    let E : End → Type 0 = λ x. IsTurnedAway (left old) (left new) (sent old) (sent new) (code_of x) in
    subst E (sym c.init_end.ensures)
    (away_unmade (view old) (view new) (left old) (left new) (sent old) (sent new) c.in-Err.field-0.cause e.cause
    (sym (w.beside_left new) ∙ ap (λ (b : Beside). b.left) e.beside ∙ w.beside_left old)
    (sym (w.beside_sent new) ∙ ap (λ (b : Beside). b.sent) e.beside ∙ w.beside_sent old) few)

pub returns-in-Ok-clause-faults : goal.returns-in-Ok-clause-faults
returns-in-Ok-clause-faults g c = counts_no_disk (g.W.Disk.view c.args.world)
    (g.W.Disk.view c.in-Ok.world) c.in-Ok.ensures.beside c.in-Ok.ensures.quiet

pub returns-in-Err-clause-faults : goal.returns-in-Err-clause-faults
returns-in-Err-clause-faults g c =
    let old = g.W.Disk.view c.args.world in
    let new = g.W.Disk.view c.in-Err.field-0.value in
    let e = c.in-Err.ensures in
    let E : End → Type 0 = λ x. CountsFault (end_fault x) old new in
    subst E (sym c.init_end.ensures) (counts_unmade old new c.in-Err.field-0.cause e.cause e.beside e.quiet_err)

pub returns-in-Err-clause-ready : goal.returns-in-Err-clause-ready
returns-in-Err-clause-ready g c =
    let old = g.W.Disk.view c.args.world in
    let new = g.W.Disk.view c.in-Err.field-0.value in
    let E : End → Type 0 = λ x. (x ≡ Done) ⊎ (x ≡ NoMemory) in
    λ free whole. subst E (sym c.init_end.ensures) (unmade_ready old new c.in-Err.field-0.cause c.in-Err.ensures.cause free whole)

pub returns-in-Ok-clause-honest : goal.returns-in-Ok-clause-honest
returns-in-Ok-clause-honest g c = c.in-Ok.ensures.honest

pub returns-in-Err-clause-honest : goal.returns-in-Err-clause-honest
returns-in-Err-clause-honest g c = c.in-Err.ensures.honest
