use Rattle.std.proofs.Common.{◌≡◌, length, rules, None, Some, Option, List, subst}
use Rattle.om3_coeff.specs.declared.key.Key.{Key}
use Rattle.om3_coeff.specs.declared.coef.Coef.{Coef}
use Rattle.zoom_session.specs.Sessions.{session_of, viewed, without}
use Rattle.chart_frames.specs.declared.frame.Frame.TheVariants.{View}
use Rattle.std.proofs.Common.{Result}
use Rattle.std.specs.Prelude.{IfErr, IsSomeAnd, slice_get}
use Rattle.zoom_session.specs.declared.errors.PlanError.{PlanError}
use Rattle.chart_service.specs.declared.shown.Planned.{Planned}
use Rattle.chart_service.specs.Looking.{IsGoodPlan}
use Rattle.chart_service.specs.Planning.{PlansOrStops}
use Rattle.chart_service.specs.Replies.{AnswersBy}
use Rattle.chart_service.specs.Stepping.{ReadsFor}
use Rattle.chart_service.specs.Shown as shown
use Rattle.chart_service.proofs.Answered.{answered_fits}
use Rattle.chart_service.proofs.Keeping.{views_after_view}
use Rattle.chart_service.proofs.Others.{stays_same, stays_viewed, stays_closed}
use Rattle.chart_service.proofs.PlanLemmas.{replying_too_large, replying_node, replying_want, replying_view, looked_viewed, opens_view}
use Rattle.chart_service.proofs.RoomLemmas.{never_large, room_same, room_viewed}
use Rattle.chart_service.specs.Rooms.{IsShortFor}
use Rattle.chart_service.proofs.LastLemmas.{last_viewed}
use Rattle.std.proofs.Common.{◌∙◌, sym, ap}
use Rattle.chart_frames.specs.declared.frame.ViewFrame.{ViewFrame}
use Rattle.chart_service.proofs.service.Service.answer_coefs.Goals as goal

pub returns-in-Err-TooLarge-clause-replying : goal.returns-in-Err-TooLarge-clause-replying
returns-in-Err-TooLarge-clause-replying g c = λ total book told stands.
    let spec = c.args.spec in
    let ss = c.args.self.now.sessions in
    let R : Result Planned PlanError → Type 0 = λ r. IsSomeAnd (slice_get book spec.series)
    (λ series. PlansOrStops series spec (session_of c.args.number ss) r) in
    replying_too_large book total spec c.args.number c.in-Err-TooLarge.needed c.in-Err-TooLarge.cache ss c.plan.new.self.sessions
    c.refused.result c.in-Err-TooLarge.field-0
    (g.P.Pages.view (shown.pages c.args.self.now)) (g.P.Pages.view (shown.pages c.plan.new.self)) c.plan.ensures.sessions
    c.in-Err-TooLarge.field-0-is
    (subst R c.in-Err-TooLarge.is (c.plan.ensures.planned total book told stands)) c.refused.ensures.frame
    (c.plan.ensures.reads total book told stands)

pub returns-in-Err-Node-clause-replying : goal.returns-in-Err-Node-clause-replying
returns-in-Err-Node-clause-replying g c = λ total book told stands.
    let spec = c.args.spec in
    let ss = c.args.self.now.sessions in
    let R : Result Planned PlanError → Type 0 = λ r. IsSomeAnd (slice_get book spec.series)
    (λ series. PlansOrStops series spec (session_of c.args.number ss) r) in
    replying_node (λ frame old new. IsSomeAnd (slice_get old.book spec.series)
    (λ series. AnswersBy None series spec c.args.number frame old new))
    (ReadsFor spec.grid.w (slice_get book spec.series)) book total spec c.args.number ss c.plan.new.self.sessions c.in-Err-Node.error
    c.in-Err-Node.field-0 c.node_error.result
    (g.P.Pages.view (shown.pages c.args.self.now)) (g.P.Pages.view (shown.pages c.plan.new.self)) c.in-Err-Node.field-0-is
    c.node_error.ensures
    (subst R c.in-Err-Node.is (c.plan.ensures.planned total book told stands)) (c.plan.ensures.reads total book told stands)

pub returns-in-Err-NoMemory-clause-replying : goal.returns-in-Err-NoMemory-clause-replying
returns-in-Err-NoMemory-clause-replying g c = λ total book told stands.
    let spec = c.args.spec in
    replying_want (λ frame old new. IsSomeAnd (slice_get old.book spec.series)
    (λ series. AnswersBy None series spec c.args.number frame old new))
    (ReadsFor spec.grid.w (slice_get book spec.series)) book total c.args.self.now.sessions c.plan.new.self.sessions
    (g.P.Pages.view (shown.pages c.args.self.now)) (g.P.Pages.view (shown.pages c.plan.new.self))
    (c.plan.ensures.reads total book told stands)

pub invariant_of-self : goal.invariant_of-self
invariant_of-self g c =
    let count = length (shown.catalog c.plan.new.self) in
    let needed : Option (List (Key × Coef)) = Some c.in-Ok.planned.plan.needed in
    record {
      views = views_after_view c.apply.result count c.args.number c.args.spec needed c.plan.new.self.sessions c.apply.new.self
          c.apply.ensures.viewed c.apply.ensures.closed (rw c.plan.ensures.looks.catalog_is c.requires.view) c.plan.new.self.views;
    }

pub returns-then-is_err-clause-replying : goal.returns-then-is_err-clause-replying
returns-then-is_err-clause-replying g c = λ total book told stands.
    let spec = c.args.spec in
    replying_want (λ frame old new. IsSomeAnd (slice_get old.book spec.series)
    (λ series. AnswersBy None series spec c.args.number frame old new))
    (ReadsFor spec.grid.w (slice_get book spec.series)) book total c.args.self.now.sessions c.apply.new.self
    (g.P.Pages.view (shown.pages c.args.self.now)) (g.P.Pages.view (shown.pages c.plan.new.self))
    (c.plan.ensures.reads total book told stands)

pub returns-clause-replying : goal.returns-clause-replying
returns-clause-replying g c = λ total book told stands.
    let spec = c.args.spec in
    let ss = c.args.self.now.sessions in
    let needed : Option (List (Key × Coef)) = Some c.in-Ok.planned.plan.needed in
    let kept : c.apply.new.self ≡ viewed c.args.number spec needed c.plan.new.self.sessions = search rules in
    replying_view book total spec c.args.number c.in-Ok.planned c.plan.result c.view_frame.result ss c.plan.new.self.sessions
    c.apply.new.self
    (g.P.Pages.view (shown.pages c.args.self.now)) (g.P.Pages.view (shown.pages c.plan.new.self)) c.in-Ok.is
    (c.plan.ensures.planned total book told stands) c.view_frame.ensures.fields c.plan.ensures.sessions kept
    (c.plan.ensures.reads total book told stands)

pub returns-clause-looked : goal.returns-clause-looked
returns-clause-looked g c =
    let spec = c.args.spec in
    let ss = c.args.self.now.sessions in
    let needed : Option (List (Key × Coef)) = Some c.in-Ok.planned.plan.needed in
    let kept : c.apply.new.self ≡ viewed c.args.number spec needed c.plan.new.self.sessions = search rules in
    let good : IsGoodPlan c.in-Ok.planned = c.in-Ok.ensures.good in
    looked_viewed c.args.number (View c.view_frame.result) ss c.apply.new.self _ _ _ _ _ _ _ _ _ _
    (answered_fits c.args.number spec c.in-Ok.planned c.view_frame.result good c.view_frame.ensures.fields c.requires.number
    (search rules) c.plan.ensures.few spec.grid.window spec.grid.wide spec.grid.high)
    (opens_view c.args.number spec needed c.view_frame.result ss c.plan.new.self.sessions c.apply.new.self c.view_frame.ensures.session
    c.plan.ensures.sessions kept c.requires.opened)
    (λ none. none)
    c.plan.ensures.looks

pub returns-in-Err-TooLarge-clause-stays : goal.returns-in-Err-TooLarge-clause-stays
returns-in-Err-TooLarge-clause-stays g c = stays_same c.args.number _ c.args.self.now.sessions c.plan.new.self.sessions
    c.plan.ensures.sessions

pub returns-in-Err-Node-clause-stays : goal.returns-in-Err-Node-clause-stays
returns-in-Err-Node-clause-stays g c = stays_same c.args.number _ c.args.self.now.sessions c.plan.new.self.sessions c.plan.ensures.sessions

pub returns-in-Err-NoMemory-clause-stays : goal.returns-in-Err-NoMemory-clause-stays
returns-in-Err-NoMemory-clause-stays g c = stays_same c.args.number _ c.args.self.now.sessions c.plan.new.self.sessions
    c.plan.ensures.sessions

pub returns-then-is_err-clause-stays : goal.returns-then-is_err-clause-stays
returns-then-is_err-clause-stays g c =
    let closed : c.apply.new.self ≡ without c.args.number c.plan.new.self.sessions = search rules in
    stays_closed c.args.number _ c.args.self.now.sessions c.plan.new.self.sessions c.apply.new.self closed c.plan.ensures.sessions

pub returns-clause-stays : goal.returns-clause-stays
returns-clause-stays g c =
    let needed : Option (List (Key × Coef)) = (Some c.in-Ok.planned.plan.needed) in
    let kept : c.apply.new.self ≡ viewed c.args.number c.args.spec needed c.plan.new.self.sessions = search rules in
    stays_viewed c.args.number _ c.args.spec needed c.args.self.now.sessions c.plan.new.self.sessions c.apply.new.self kept
    c.plan.ensures.sessions

pub returns-in-Err-TooLarge-clause-tells : goal.returns-in-Err-TooLarge-clause-tells
returns-in-Err-TooLarge-clause-tells g c = λ fits.
    let spec = c.args.spec in
    let ss = c.args.self.now.sessions in
    let R : Result Planned PlanError → Type 0 = λ r. IfErr r (IsShortFor (session_of c.args.number ss) spec.grid.w) in
    absurd (never_large c.args.number spec ss c.in-Err-TooLarge.needed c.in-Err-TooLarge.cache c.in-Err-TooLarge.field-0
    c.requires.unfiltered fits c.in-Err-TooLarge.field-0-is (subst R c.in-Err-TooLarge.is c.plan.ensures.large))

pub returns-in-Err-TooLarge-clause-rooms : goal.returns-in-Err-TooLarge-clause-rooms
returns-in-Err-TooLarge-clause-rooms g c = λ fits has.
    room_same c.args.number c.args.self.now.sessions c.plan.new.self.sessions c.plan.ensures.sessions has

pub returns-clause-tells : goal.returns-clause-tells
returns-clause-tells g c = λ fits. c.view_frame.ensures.session

pub returns-clause-rooms : goal.returns-clause-rooms
returns-clause-rooms g c = λ fits has.
    let needed : Option (List (Key × Coef)) = Some c.in-Ok.planned.plan.needed in
    let kept : c.apply.new.self ≡ viewed c.args.number c.args.spec needed c.plan.new.self.sessions = search rules in
    room_viewed c.args.number c.args.spec needed c.args.self.now.sessions c.plan.new.self.sessions c.apply.new.self kept
    c.plan.ensures.sessions fits has

pub returns-clause-last : goal.returns-clause-last
returns-clause-last g c = λ id last.
    let needed : Option (List (Key × Coef)) = Some c.in-Ok.planned.plan.needed in
    let kept : c.apply.new.self ≡ viewed c.args.number c.args.spec needed c.plan.new.self.sessions = search rules in
    last_viewed c.args.number c.args.spec needed c.args.self.now.sessions c.plan.new.self.sessions c.apply.new.self c.requires.opened
    c.plan.ensures.sessions kept id last
    ∙ sym (ap (λ (v : ViewFrame). v.series) c.view_frame.ensures.fields)
