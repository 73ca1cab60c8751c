use Rattle.std.proofs.Common.{◌≡◌, ◌≢◌, ◌∙◌, w64, ap, sym, subst, rules, arith}
use Rattle.std.proofs.lemmas.Int.{to_z-of_z}
use Rattle.om3_coeff.specs.declared.errors.NodeError.TheVariants.{DiskFault}
use Rattle.om3_coeff.specs.View.{NodesView, StaysSame}
use Rattle.om3_coeff.proofs.WalkLemmas.{still_agrees}
use Rattle.needed_nodes.specs.Answers.{most_needed}
use Rattle.tree_walk.proofs.StepLemmas.{error_so}
use Rattle.zoom_session.specs.Plans.{AreNeeded, CountsNeeded, NeedsAtMost}
use Rattle.zoom_session.specs.Sessions.{session_of}
use Rattle.zoom_session.specs.declared.errors.PlanError.{PlanError}
use Rattle.zoom_session.specs.declared.errors.PlanError.TheVariants.{Node}
use Rattle.chart_service.specs.Planning.{RefusesView, CountsOver}
use Rattle.chart_service.proofs.Told.{tells_so}
use Rattle.chart_service.proofs.Ranged.{range_refused, plan_refused, plan_counts, range_at, order_back}
use Rattle.chart_service.proofs.shown.plan.Goals as goal

pub returns-in-Err-clause-refused : goal.returns-in-Err-clause-refused
returns-in-Err-clause-refused g c =
    range_refused c.args.number c.args.sessions.now (g.N.Nodes.view c.args.nodes.now)
    (g.N.Nodes.view c.shown_range.new.nodes) c.in-Err.error c.requires.opened c.in-Err.ensures.cause

pub plan_view-requires-clause-slots : goal.plan_view-requires-clause-slots
plan_view-requires-clause-slots g c =
    let first : StaysSame (g.N.Nodes.view c.args.nodes.now) (g.N.Nodes.view c.shown_range.new.nodes) =
    g.met.N.Nodes.keeps_same c.args.nodes.now c.shown_range.new.nodes c.shown_range.ensures.kept in
    c.requires.slots ∙ sym first.slots

pub plan_view-requires-clause-range : goal.plan_view-requires-clause-range
plan_view-requires-clause-range g c = order_back c.in-Ok.range.lo c.in-Ok.range.hi (search rules)
    (search rules) c.in-Ok.ensures.in_frame.ordered

pub returns-in_err-plan-clause-refused : goal.returns-in_err-plan-clause-refused
returns-in_err-plan-clause-refused g c =
    let old : NodesView = g.N.Nodes.view c.args.nodes.now in
    let mid : NodesView = g.N.Nodes.view c.shown_range.new.nodes in
    let new : NodesView = g.N.Nodes.view c.plan_view.new.nodes in
    let first : StaysSame old mid = g.met.N.Nodes.keeps_same c.args.nodes.now c.shown_range.new.nodes c.shown_range.ensures.kept in
    let P : PlanError → Type 0 = RefusesView (session_of c.args.number c.args.sessions.now) old new in
    error_so (λ (e : PlanError). e ≡ c.in_err-plan.field-0.0) P c.from_residual.result c.from_residual.ensures.1
    (λ e is. subst P (sym is)
    (plan_refused (session_of c.args.number c.args.sessions.now) old mid new c.args.axis c.args.spec.now.grid _ _ c.in_err-plan.field-0.0
    first c.in-Ok.ensures.quiet c.in_err-plan.ensures.refused))

pub returns-in_err-plan-clause-counted : goal.returns-in_err-plan-clause-counted
returns-in_err-plan-clause-counted g c = λ list agrees.
    let old : NodesView = g.N.Nodes.view c.args.nodes.now in
    let mid : NodesView = g.N.Nodes.view c.shown_range.new.nodes in
    let first : StaysSame old mid = g.met.N.Nodes.keeps_same c.args.nodes.now c.shown_range.new.nodes c.shown_range.ensures.kept in
    let P : PlanError → Type 0 = CountsOver list c.args.axis c.args.spec.now in
    error_so (λ (e : PlanError). e ≡ c.in_err-plan.field-0.0) P c.from_residual.result c.from_residual.ensures.1
    (λ e is. subst P (sym is)
    (plan_counts list c.args.axis c.args.spec.now c.in-Ok.range c.in_err-plan.field-0.0 (c.in-Ok.ensures.shown list agrees)
    (range_at (λ lo hi. CountsNeeded list c.args.axis c.args.spec.now.grid lo hi c.in_err-plan.field-0.0) _ _ c.in-Ok.range.lo
    c.in-Ok.range.hi
    (to_z-of_z w64 c.in-Ok.range.lo (search rules)) (to_z-of_z w64 c.in-Ok.range.hi (search rules))
    (c.in_err-plan.ensures.counted list (c.agreeing_nodes_agree_for_views.ensures list c.args.axis c.args.spec.now.grid _ _
    (still_agrees old mid list first agrees))))))

pub returns-in_err-plan-clause-kept : goal.returns-in_err-plan-clause-kept
returns-in_err-plan-clause-kept g c =
    g.met.N.Nodes.keeps_on c.args.nodes.now c.shown_range.new.nodes c.plan_view.new.nodes c.shown_range.ensures.kept
    c.plan_view.ensures.kept

pub returns-clause-kept : goal.returns-clause-kept
returns-clause-kept g c =
    g.met.N.Nodes.keeps_on c.args.nodes.now c.shown_range.new.nodes c.plan_view.new.nodes c.shown_range.ensures.kept
    c.plan_view.ensures.kept

pub returns-clause-needed : goal.returns-clause-needed
returns-clause-needed g c = λ list agrees.
    let old : NodesView = g.N.Nodes.view c.args.nodes.now in
    let mid : NodesView = g.N.Nodes.view c.shown_range.new.nodes in
    let first : StaysSame old mid = g.met.N.Nodes.keeps_same c.args.nodes.now c.shown_range.new.nodes c.shown_range.ensures.kept in
    range_at (λ lo hi. AreNeeded list c.args.axis c.args.spec.now.grid lo hi c.in_ok-plan.plan.needed) _ _ c.in-Ok.range.lo c.in-Ok.range.hi
    (to_z-of_z w64 c.in-Ok.range.lo (search rules)) (to_z-of_z w64 c.in-Ok.range.hi (search rules))
    (c.in_ok-plan.ensures.needed list (c.agreeing_nodes_agree_for_views.ensures list c.args.axis c.args.spec.now.grid _ _
    (still_agrees old mid list first agrees)))

pub returns-clause-told : goal.returns-clause-told
returns-clause-told g c = λ list agrees.
    let all : StaysSame (g.N.Nodes.view c.args.nodes.now) (g.N.Nodes.view c.plan_view.new.nodes) =
    g.met.N.Nodes.keeps_same c.args.nodes.now c.plan_view.new.nodes
    (g.met.N.Nodes.keeps_on c.args.nodes.now c.shown_range.new.nodes c.plan_view.new.nodes c.shown_range.ensures.kept
    c.plan_view.ensures.kept) in
    tells_so c.spans_add_up.ensures.all (g.N.Nodes.view c.args.nodes.now)
    (g.N.Nodes.view c.plan_view.new.nodes) list c.args.axis c.args.spec.now c.root-root.result c.in-Ok.range agrees all
    c.root-root.ensures.root (c.in-Ok.ensures.shown list agrees)

pub returns-in-Err-clause-quiet_err : goal.returns-in-Err-clause-quiet_err
returns-in-Err-clause-quiet_err g c = λ other. c.in-Err.ensures.quiet_err (λ is. other (ap Node is))

pub returns-in-Err-clause-reads : goal.returns-in-Err-clause-reads
returns-in-Err-clause-reads g c = omega (arith, c.shown_range.ensures.reads)

pub returns-in-Err-clause-fit : goal.returns-in-Err-clause-fit
returns-in-Err-clause-fit g c = c.shown_range.ensures.fit

pub returns-in_err-plan-clause-reads : goal.returns-in_err-plan-clause-reads
returns-in_err-plan-clause-reads g c = omega (arith, c.shown_range.ensures.reads, c.plan_view.ensures.reads)

pub returns-in_err-plan-clause-quiet_err : goal.returns-in_err-plan-clause-quiet_err
returns-in_err-plan-clause-quiet_err g c =
    let P : PlanError → Type 0 = λ e. e ≢ Node DiskFault
    → (g.N.Nodes.view c.plan_view.new.nodes).faults ≡ (g.N.Nodes.view c.args.nodes.now).faults in
    error_so (λ (e : PlanError). e ≡ c.in_err-plan.field-0.0) P c.from_residual.result c.from_residual.ensures.1
    (λ e is. subst P (sym is) (λ other. c.in_err-plan.ensures.quiet_err other ∙ c.in-Ok.ensures.quiet))

pub returns-clause-planned : goal.returns-clause-planned
returns-clause-planned g c = c.in_ok-plan.ensures.planned

pub returns-clause-bounds : goal.returns-clause-bounds
returns-clause-bounds g c = c.in_ok-plan.ensures.bounds

pub returns-clause-entries : goal.returns-clause-entries
returns-clause-entries g c = c.in_ok-plan.ensures.entries

pub returns-clause-in_frame : goal.returns-clause-in_frame
returns-clause-in_frame g c = record { root = c.root-root.ensures.proper c.plan_view.ensures.fit; range = c.in-Ok.ensures.in_frame }

pub returns-clause-reads : goal.returns-clause-reads
returns-clause-reads g c = omega (arith, c.shown_range.ensures.reads, c.plan_view.ensures.reads)

pub returns-clause-quiet : goal.returns-clause-quiet
returns-clause-quiet g c = c.in_ok-plan.ensures.quiet ∙ c.in-Ok.ensures.quiet

pub returns-clause-root : goal.returns-clause-root
returns-clause-root g c =
    let all : StaysSame (g.N.Nodes.view c.args.nodes.now) (g.N.Nodes.view c.plan_view.new.nodes) =
    g.met.N.Nodes.keeps_same c.args.nodes.now c.plan_view.new.nodes
    (g.met.N.Nodes.keeps_on c.args.nodes.now c.shown_range.new.nodes c.plan_view.new.nodes c.shown_range.ensures.kept
    c.plan_view.ensures.kept) in
    c.root-root.ensures.root ∙ all.root

pub returns-in_err-plan-clause-large : goal.returns-in_err-plan-clause-large
returns-in_err-plan-clause-large g c =
    let P : PlanError → Type 0 = NeedsAtMost (most_needed c.args.spec.now.grid.w c.args.axis.slots) in
    error_so (λ (e : PlanError). e ≡ c.in_err-plan.field-0.0) P c.from_residual.result c.from_residual.ensures.1
    (λ e is. subst P (sym is) c.in_err-plan.ensures.large)
