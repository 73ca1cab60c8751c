use Rattle.std.proofs.Common.{None, refl}
use Rattle.series_store.specs.Shown as shown
use Rattle.chart_world.specs.FaultLaws.{counts_then}
use Rattle.retention.specs.Faults.{sweep_fault}
use Rattle.retention.proofs.LookLemmas.{ask_outside, looks_then}
use Rattle.retention.proofs.NextLemmas.{kept_none, kept_some, none_first, some_first}
use Rattle.retention.specs.Damage.{IsBadAt}
use Rattle.retention.proofs.DamageLemmas.{ask_blames, bad_on}
use Rattle.retention.proofs.freeing.first_of.Goals as goal

pub returns-in-Err-clause-outside : goal.returns-in-Err-clause-outside
returns-in-Err-clause-outside g c = λ total book series told stands at.
    ask_outside c.in-Err.error (shown.nodes c.selected-axis.new.store) (shown.nodes c.first_stored.new.store)
    (c.selected-axis.ensures.whole total book series told stands at) c.in-Err.ensures.cause

pub returns-in_default-clause-first : goal.returns-in_default-clause-first
returns-in_default-clause-first g c = λ total book series told stands at.
    kept_none c.args.id series
    (none_first series.slots c.selected-axis.result.slots _ c.in-Ok.found
    (c.selected-axis.ensures.axis total book series told stands at).slots c.in_default.is
    (c.in-Ok.ensures.first series.slots (c.selected-axis.ensures.agrees total book series told stands at)))

pub returns-clause-first : goal.returns-clause-first
returns-clause-first g c = λ total book series told stands at.
    let axis = c.selected-axis.ensures.axis total book series told stands at in
    kept_some c.args.id series (c.in-Some.slot, c.in-Some.field-0-1) _
    (some_first series.slots c.selected-axis.result.slots _ c.in-Ok.found (c.in-Some.slot, c.in-Some.field-0-1) axis.slots c.in-Some.is
    (c.in-Ok.ensures.first series.slots (c.selected-axis.ensures.agrees total book series told stands at))) refl axis refl

pub returns-in-Err-clause-faults : goal.returns-in-Err-clause-faults
returns-in-Err-clause-faults g c = counts_then (sweep_fault c.in-Err.error) (shown.view c.args.store.now)
    (shown.view c.selected-axis.new.store) (shown.view c.first_stored.new.store) c.selected-axis.ensures.faults c.in-Err.ensures.faults

pub returns-in_default-clause-faults : goal.returns-in_default-clause-faults
returns-in_default-clause-faults g c = counts_then None (shown.view c.args.store.now) (shown.view c.selected-axis.new.store)
    (shown.view c.first_stored.new.store) c.selected-axis.ensures.faults c.in-Ok.ensures.faults

pub returns-clause-faults : goal.returns-clause-faults
returns-clause-faults g c = counts_then None (shown.view c.args.store.now) (shown.view c.selected-axis.new.store)
    (shown.view c.first_stored.new.store) c.selected-axis.ensures.faults c.in-Ok.ensures.faults

pub returns-in-Err-clause-looks : goal.returns-in-Err-clause-looks
returns-in-Err-clause-looks g c = looks_then _ _ _ _ _ _ _ _ _ _ _ _ _ _ _ c.selected-axis.ensures.looks c.in-Err.ensures.looks

pub returns-in_default-clause-looks : goal.returns-in_default-clause-looks
returns-in_default-clause-looks g c = looks_then _ _ _ _ _ _ _ _ _ _ _ _ _ _ _ c.selected-axis.ensures.looks c.in-Ok.ensures.looks

pub returns-clause-looks : goal.returns-clause-looks
returns-clause-looks g c = looks_then _ _ _ _ _ _ _ _ _ _ _ _ _ _ _ c.selected-axis.ensures.looks c.in-Ok.ensures.looks

pub returns-in-Err-clause-blames : goal.returns-in-Err-clause-blames
returns-in-Err-clause-blames g c =
    let mid = c.selected-axis.new.store in
    let new = c.first_stored.new.store in
    let looks = c.in-Err.ensures.looks in
    ask_blames c.in-Err.error (shown.nodes mid) (shown.nodes new)
    (λ page. shown.IsTold new → IsBadAt c.args.id (shown.view new).size (shown.image new) page)
    (λ page bad told.
    let was = looks.was_told told in
    bad_on (IsBadAt c.args.id) (shown.view mid) (shown.view new) page (looks.image was) looks.size
    (c.selected-axis.ensures.bad_at page bad was))
    c.in-Err.ensures.cause
