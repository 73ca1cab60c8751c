use Rattle.std.proofs.Common.{◌≡◌, length, rules, None, Option, List, Result, sym, ap, subst}
use Rattle.om3_coeff.specs.declared.key.Key.{Key}
use Rattle.om3_coeff.specs.declared.coef.Coef.{Coef}
use Rattle.std.specs.Prelude.{IsSomeAnd, slice_get}
use Rattle.chart_frames.specs.declared.frame.Frame.TheVariants.{Rows}
use Rattle.chart_frames.specs.declared.frame.RowsFrame.{RowsFrame}
use Rattle.chart_frames.specs.Frames.{FitsRows}
use Rattle.filter_scan.specs.declared.scan_error.ScanError.{ScanError}
use Rattle.zoom_session.specs.Sessions.{viewed, without}
use Rattle.chart_service.specs.declared.shown_rows.ShownRows.{ShownRows}
use Rattle.chart_service.specs.Planning.{ShowsOrStops, FitInFrame}
use Rattle.chart_service.specs.Stepping.{ReadsRows}
use Rattle.chart_service.specs.Viewing.{AnswersRows}
use Rattle.chart_service.specs.Shown as shown
use Rattle.chart_service.proofs.Filtered.{rows_fit}
use Rattle.chart_service.proofs.Keeping.{views_after_view}
use Rattle.chart_service.proofs.Others.{stays_same, stays_viewed, stays_closed}
use Rattle.chart_service.proofs.PlanLemmas.{replying_scan, replying_rows, replying_want, looked_viewed, opens_rows_of}
use Rattle.chart_service.proofs.RoomLemmas.{room_viewed}
use Rattle.chart_service.proofs.LastLemmas.{last_viewed}
use Rattle.chart_service.proofs.service.Service.answer_rows.Goals as goal

pub returns-in-Err-Node-clause-replying : goal.returns-in-Err-Node-clause-replying
returns-in-Err-Node-clause-replying g c = λ total book told stands.
    let spec = c.args.spec in
    let R : Result ShownRows ScanError → Type 0 = λ r. IsSomeAnd (slice_get book spec.series) (λ series. ShowsOrStops series spec r) in
    replying_scan (λ frame old new. IsSomeAnd (slice_get old.book spec.series)
    (λ series. AnswersRows series spec c.args.number frame old new))
    (ReadsRows spec.grid.t0 spec.grid.t1 (slice_get book spec.series)) book total spec c.args.self.now.sessions c.rows.new.self.sessions
    c.in-Err-Node.error c.in-Err-Node.field-0 c.node_error.result
    (g.P.Pages.view (shown.pages c.args.self.now)) (g.P.Pages.view (shown.pages c.rows.new.self)) c.in-Err-Node.field-0-is
    c.node_error.ensures
    (subst R c.in-Err-Node.is (c.rows.ensures.shown total book told stands)) (c.rows.ensures.reads total book told stands)

pub returns-in-Err-NoMemory-clause-replying : goal.returns-in-Err-NoMemory-clause-replying
returns-in-Err-NoMemory-clause-replying g c = λ total book told stands.
    let spec = c.args.spec in
    replying_want (λ frame old new. IsSomeAnd (slice_get old.book spec.series)
    (λ series. AnswersRows series spec c.args.number frame old new))
    (ReadsRows spec.grid.t0 spec.grid.t1 (slice_get book spec.series)) book total c.args.self.now.sessions c.rows.new.self.sessions
    (g.P.Pages.view (shown.pages c.args.self.now)) (g.P.Pages.view (shown.pages c.rows.new.self))
    (c.rows.ensures.reads total book told stands)

pub returns-then-is_err-clause-replying : goal.returns-then-is_err-clause-replying
returns-then-is_err-clause-replying g c = λ total book told stands.
    let spec = c.args.spec in
    replying_want (λ frame old new. IsSomeAnd (slice_get old.book spec.series)
    (λ series. AnswersRows series spec c.args.number frame old new))
    (ReadsRows spec.grid.t0 spec.grid.t1 (slice_get book spec.series)) book total c.args.self.now.sessions c.apply.new.self
    (g.P.Pages.view (shown.pages c.args.self.now)) (g.P.Pages.view (shown.pages c.rows.new.self))
    (c.rows.ensures.reads total book told stands)

pub invariant_of-self : goal.invariant_of-self
invariant_of-self g c =
    let count = length (shown.catalog c.rows.new.self) in
    record {
      views = views_after_view c.apply.result count c.args.number c.args.spec None c.rows.new.self.sessions c.apply.new.self
          c.apply.ensures.viewed c.apply.ensures.closed (rw c.rows.ensures.looks.catalog_is c.requires.view) c.rows.new.self.views;
    }

pub returns-clause-replying : goal.returns-clause-replying
returns-clause-replying g c = λ total book told stands.
    let spec = c.args.spec in
    let kept : c.apply.new.self ≡ viewed c.args.number spec None c.rows.new.self.sessions = search rules in
    replying_rows book total spec c.args.number c.in-Ok.shown c.rows.result c.rows_frame-frame.result c.args.self.now.sessions
    c.rows.new.self.sessions c.apply.new.self
    (g.P.Pages.view (shown.pages c.args.self.now)) (g.P.Pages.view (shown.pages c.rows.new.self)) c.in-Ok.is
    (c.rows.ensures.shown total book told stands) c.rows_frame-frame.ensures c.rows.ensures.sessions kept c.requires.opened
    (c.rows.ensures.reads total book told stands)

pub returns-clause-looked : goal.returns-clause-looked
returns-clause-looked g c =
    let spec = c.args.spec in
    let ss = c.args.self.now.sessions in
    let kept : c.apply.new.self ≡ viewed c.args.number spec None c.rows.new.self.sessions = search rules in
    let fit : FitInFrame spec.grid.w c.in-Ok.shown = c.in-Ok.ensures.fit in
    looked_viewed c.args.number (Rows c.rows_frame-frame.result) ss c.apply.new.self _ _ _ _ _ _ _ _ _ _
    (subst FitsRows (sym c.rows_frame-frame.ensures)
    (rows_fit c.args.number spec c.in-Ok.shown c.requires.number (search rules) spec.grid.wide spec.grid.high fit))
    (opens_rows_of c.args.number spec c.rows_frame-frame.result ss c.rows.new.self.sessions c.apply.new.self
    (ap (λ (r : RowsFrame). r.session) c.rows_frame-frame.ensures) c.rows.ensures.sessions kept c.requires.opened)
    (λ none. none)
    c.rows.ensures.looks

pub returns-in-Err-Node-clause-stays : goal.returns-in-Err-Node-clause-stays
returns-in-Err-Node-clause-stays g c = stays_same c.args.number _ c.args.self.now.sessions c.rows.new.self.sessions c.rows.ensures.sessions

pub returns-in-Err-NoMemory-clause-stays : goal.returns-in-Err-NoMemory-clause-stays
returns-in-Err-NoMemory-clause-stays g c = stays_same c.args.number _ c.args.self.now.sessions c.rows.new.self.sessions
    c.rows.ensures.sessions

pub returns-then-is_err-clause-stays : goal.returns-then-is_err-clause-stays
returns-then-is_err-clause-stays g c =
    let closed : c.apply.new.self ≡ without c.args.number c.rows.new.self.sessions = search rules in
    stays_closed c.args.number _ c.args.self.now.sessions c.rows.new.self.sessions c.apply.new.self closed c.rows.ensures.sessions

pub returns-clause-stays : goal.returns-clause-stays
returns-clause-stays g c =
    let needed : Option (List (Key × Coef)) = None in
    let kept : c.apply.new.self ≡ viewed c.args.number c.args.spec needed c.rows.new.self.sessions = search rules in
    stays_viewed c.args.number _ c.args.spec needed c.args.self.now.sessions c.rows.new.self.sessions c.apply.new.self kept
    c.rows.ensures.sessions

pub returns-clause-tells : goal.returns-clause-tells
returns-clause-tells g c = λ fits. ap (λ (r : RowsFrame). r.session) c.rows_frame-frame.ensures

pub returns-clause-rooms : goal.returns-clause-rooms
returns-clause-rooms g c = λ fits has.
    let needed : Option (List (Key × Coef)) = None in
    let kept : c.apply.new.self ≡ viewed c.args.number c.args.spec needed c.rows.new.self.sessions = search rules in
    room_viewed c.args.number c.args.spec needed c.args.self.now.sessions c.rows.new.self.sessions c.apply.new.self kept
    c.rows.ensures.sessions fits has

pub returns-clause-last : goal.returns-clause-last
returns-clause-last g c = λ id last.
    let needed : Option (List (Key × Coef)) = None in
    let kept : c.apply.new.self ≡ viewed c.args.number c.args.spec needed c.rows.new.self.sessions = search rules in
    last_viewed c.args.number c.args.spec needed c.args.self.now.sessions c.rows.new.self.sessions c.apply.new.self c.requires.opened
    c.rows.ensures.sessions kept id last
