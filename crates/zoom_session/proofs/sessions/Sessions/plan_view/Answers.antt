use Rattle.std.proofs.Common.{◌≡◌, ◌≤◌, length, Some, to_z, of_z, w64, rules, get_or}
use Rattle.std.proofs.lemmas.Int.{to_z-of_z}
use Rattle.std.proofs.lemmas.Result.{IfOk-at_ok, IfOk-from_err}
use Rattle.std.specs.Prelude.{IfOk}
use Rattle.needed_nodes.specs.Answers.{AgreesForView, most_needed}
use Rattle.zoom_session.specs.declared.session.Session.{Session}
use Rattle.zoom_session.specs.Places.{IsPlaceOf}
use Rattle.zoom_session.specs.Plans.{AreNeeded, AreWanted}
use Rattle.zoom_session.specs.Sessions.{session_of, fresh_session}
use Rattle.zoom_session.proofs.Planning.{session_found, of_needed, range_at, plans_in, have_entries, walk_stops, keys_stop, counts_needed}
use Rattle.zoom_session.proofs.Planning.{walk_few, keys_few, always_ok, always_err}
use Rattle.zoom_session.proofs.sessions.Sessions.plan_view.Goals as goal

pub returns-in_err-needed-clause-refused : goal.returns-in_err-needed-clause-refused
returns-in_err-needed-clause-refused g c =
    let at : IsPlaceOf c.args.number c.args.self.now c.in-Some.place = search rules in
    let none : Session = fresh_session 0 0 in
    let stop = walk_stops (session_of c.args.number c.args.self.now) (get_or c.args.self.now c.in-Some.place none)
    (g.N.Nodes.view c.args.nodes.now) (g.N.Nodes.view c.needed.new.nodes) c.args.axis c.args.spec.now.grid c.args.lo c.args.hi
    c.in_err-needed.field-0.0 (at.session none) (search rules) in
    search rules

pub returns-in_err-needed-clause-needed : goal.returns-in_err-needed-clause-needed
returns-in_err-needed-clause-needed g c = λ list agrees. IfOk-from_err c.from_residual.result _ c.from_residual.ensures.0

pub returns-in_err-needed-clause-wanted : goal.returns-in_err-needed-clause-wanted
returns-in_err-needed-clause-wanted g c = λ tells. IfOk-from_err c.from_residual.result _ c.from_residual.ensures.0

pub returns-in_err-needed-clause-planned : goal.returns-in_err-needed-clause-planned
returns-in_err-needed-clause-planned g c = IfOk-from_err c.from_residual.result _ c.from_residual.ensures.0

pub returns-in_err-needed-clause-entries : goal.returns-in_err-needed-clause-entries
returns-in_err-needed-clause-entries g c = IfOk-from_err c.from_residual.result _ c.from_residual.ensures.0

pub returns-in_err-needed-clause-bounds : goal.returns-in_err-needed-clause-bounds
returns-in_err-needed-clause-bounds g c = IfOk-from_err c.from_residual.result _ c.from_residual.ensures.0

pub returns-in_err-needed-clause-few : goal.returns-in_err-needed-clause-few
returns-in_err-needed-clause-few g c = IfOk-from_err c.from_residual.result _ c.from_residual.ensures.0

pub returns-in_err-needed-clause-quiet : goal.returns-in_err-needed-clause-quiet
returns-in_err-needed-clause-quiet g c = IfOk-from_err c.from_residual.result _ c.from_residual.ensures.0

pub returns-clause-needed : goal.returns-clause-needed
returns-clause-needed g c =
    let low : to_z w64 (of_z w64 c.args.lo) ≡ c.args.lo = to_z-of_z w64 c.args.lo c.ranges.lo in
    let high : to_z w64 (of_z w64 c.args.hi) ≡ c.args.hi = to_z-of_z w64 c.args.hi c.ranges.hi in
    λ list agrees. of_needed (AreNeeded list c.args.axis c.args.spec.now.grid c.args.lo c.args.hi) c.in_ok-needed.needed c.plan.result
    c.plan.ensures.needed
    (IfOk-at_ok _ c.in_ok-needed.was (range_at (λ lo hi. AgreesForView
    (g.N.Nodes.view c.args.nodes.now) c.args.axis c.args.spec.now.grid lo hi list
    → IfOk c.needed.result (AreNeeded list c.args.axis c.args.spec.now.grid lo hi)) _ _ c.args.lo c.args.hi low high
    (c.needed.ensures.list list) agrees))

pub returns-clause-wanted : goal.returns-clause-wanted
returns-clause-wanted g c =
    let low : to_z w64 (of_z w64 c.args.lo) ≡ c.args.lo = to_z-of_z w64 c.args.lo c.ranges.lo in
    let high : to_z w64 (of_z w64 c.args.hi) ≡ c.args.hi = to_z-of_z w64 c.args.hi c.ranges.hi in
    λ tells. of_needed (AreWanted (g.N.Nodes.view c.args.nodes.now) c.args.axis c.args.spec.now.grid c.args.lo c.args.hi)
    c.in_ok-needed.needed c.plan.result c.plan.ensures.needed
    (IfOk-at_ok _ c.in_ok-needed.was (range_at (λ lo hi. IfOk c.needed.result
    (AreWanted (g.N.Nodes.view c.args.nodes.now) c.args.axis c.args.spec.now.grid lo hi)) _ _ c.args.lo c.args.hi low high
    (c.needed.ensures.told tells)))

pub returns-clause-planned : goal.returns-clause-planned
returns-clause-planned g c =
    let same : session_of c.args.number c.args.self.now ≡ Some c.index.result.now =
    session_found c.args.number c.in-Some.place c.self.inside.sessions.items c.args.self.now c.index.result.now c.in-Some.ensures.place
    c.self.view_is c.index.ensures in
    plans_in _ c.index.result.now c.args.spec.now.series c.plan.result same c.plan.ensures.planned

pub returns-clause-entries : goal.returns-clause-entries
returns-clause-entries g c =
    have_entries c.index.result.now c.args.spec.now.series c.args.axis.slots c.in_ok-needed.needed c.plan.result
    c.in_ok-needed.ensures.order c.in_ok-needed.ensures.entries c.plan.ensures.needed c.plan.ensures.planned

pub returns-clause-few : goal.returns-clause-few
returns-clause-few g c =
    of_needed (λ keys. length keys ≤ most_needed c.args.spec.now.grid.w c.args.axis.slots) c.in_ok-needed.needed c.plan.result
    c.plan.ensures.needed c.in_ok-needed.ensures.few

pub returns-clause-refused : goal.returns-clause-refused
returns-clause-refused g c =
    let same : session_of c.args.number c.args.self.now ≡ Some c.index.result.now =
    session_found c.args.number c.in-Some.place c.self.inside.sessions.items c.args.self.now c.index.result.now c.in-Some.ensures.place
    c.self.view_is c.index.ensures in
    keys_stop _ c.index.result.now (g.N.Nodes.view c.args.nodes.now)
    (g.N.Nodes.view c.needed.new.nodes) c.args.axis c.args.spec.now.grid c.args.lo c.args.hi
    c.in_ok-needed.needed c.plan.result same c.plan.ensures.too_large

pub returns-clause-counted : goal.returns-clause-counted
returns-clause-counted g c =
    let low : to_z w64 (of_z w64 c.args.lo) ≡ c.args.lo = to_z-of_z w64 c.args.lo c.ranges.lo in
    let high : to_z w64 (of_z w64 c.args.hi) ≡ c.args.hi = to_z-of_z w64 c.args.hi c.ranges.hi in
    λ list agrees. counts_needed c.index.result.now list c.args.axis c.args.spec.now.grid c.args.lo c.args.hi c.in_ok-needed.needed
    c.plan.result
    (IfOk-at_ok _ c.in_ok-needed.was (range_at (λ lo hi. AgreesForView
    (g.N.Nodes.view c.args.nodes.now) c.args.axis c.args.spec.now.grid lo hi list
    → IfOk c.needed.result (AreNeeded list c.args.axis c.args.spec.now.grid lo hi)) _ _ c.args.lo c.args.hi low high
    (c.needed.ensures.list list) agrees)) c.plan.ensures.too_large

pub returns-clause-quiet : goal.returns-clause-quiet
returns-clause-quiet g c = always_ok c.plan.result c.in_ok-needed.ensures.quiet

pub returns-clause-quiet_err : goal.returns-clause-quiet_err
returns-clause-quiet_err g c = always_err c.plan.result (λ e other. c.in_ok-needed.ensures.quiet)

pub returns-in_err-needed-clause-large : goal.returns-in_err-needed-clause-large
returns-in_err-needed-clause-large g c =
    let few = walk_few (most_needed c.args.spec.now.grid.w c.args.axis.slots) c.in_err-needed.field-0.0 in
    search rules

pub returns-clause-large : goal.returns-clause-large
returns-clause-large g c =
    keys_few c.index.result.now c.in_ok-needed.needed
    (most_needed c.args.spec.now.grid.w c.args.axis.slots) c.plan.result c.in_ok-needed.ensures.few c.plan.ensures.too_large
