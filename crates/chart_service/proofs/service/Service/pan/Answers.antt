use Rattle.std.proofs.Common.{◌≡◌, ◌+ℤ◌, ℤ, Ok, Some, FitsSigned, rules, sym, subst}
use Rattle.std.specs.Int.{w128}
use Rattle.std.proofs.lemmas.Int.{to_z-of_z}
use Rattle.zoom_session.specs.declared.view_spec.ViewSpec.{ViewSpec}
use Rattle.zoom_session.specs.Sessions.{session_of, last_of}
use Rattle.chart_service.specs.Planning.{IsMoved, IsLastOf}
use Rattle.chart_service.specs.Replies.{Moves, MovesIn}
use Rattle.chart_service.specs.Stepping.{state_of, IsLastShown, ReadsLast}
use Rattle.chart_service.specs.Shown as shown
use Rattle.series_store.specs.Shown as stored
use Rattle.chart_service.proofs.Answered.{move_answered}
use Rattle.chart_service.proofs.LookLemmas.{causes_so, replying_so}
use Rattle.chart_service.proofs.ViewLemmas.{last_shown, reads_of_last}
use Rattle.chart_service.proofs.RoomLemmas.{fits_last, keep_rooms}
use Rattle.chart_service.proofs.LastLemmas.{of_last, tells_more}
use Rattle.chart_service.specs.LastShown.{IsLastIn}
use Rattle.chart_service.proofs.service.Service.pan.Goals as goal

pub returns-clause-replying : goal.returns-clause-replying
returns-clause-replying g c = λ total book told stands.
    let ss = c.args.self.now.sessions in
    let number = c.args.number in
    let session = session_of number ss in
    let last = c.in_ok-last-in-Ok.last in
    let window : ViewSpec → ℤ × ℤ = (λ last. (last.grid.t0 +ℤ c.args.by, last.grid.t1 +ℤ c.args.by)) in
    let L : ViewSpec → Type 0 = λ l. IsLastOf session (Ok l) in
    let is : IsLastOf session (Ok last) = subst L (sym c.in_ok-last-in-Ok.ensures) c.in-Ok.ensures.last in
    let by : FitsSigned w128 c.args.by = search rules in
    let B : ℤ → Type 0 = λ by. IsMoved last.grid (last.grid.t0 +ℤ by) (last.grid.t1 +ℤ by) c.panned-grid.result in
    let moved : IsMoved last.grid (last.grid.t0 +ℤ c.args.by) (last.grid.t1 +ℤ c.args.by) c.panned-grid.result = subst B
    (to_z-of_z w128 c.args.by by) c.panned-grid.ensures in
    replying_so (λ frame old new. Moves last number (last.grid.t0 +ℤ c.args.by) (last.grid.t1 +ℤ c.args.by) frame old new)
    (λ frame old new. MovesIn (session_of number old.sessions) number window frame old new)
    (ReadsLast book (Some last) window) (ReadsLast book (last_of session) window) c.answer_over.result total book ss
    c.answer_over.new.self.sessions
    (g.P.Pages.view (shown.pages c.args.self.now)) (g.P.Pages.view (shown.pages c.answer_over.new.self))
    (λ frame. move_answered session last number window frame (state_of book total ss)
    (state_of book total c.answer_over.new.self.sessions) is)
    (reads_of_last book session last window _ _ is)
    (c.answer_over.ensures.replying total book (last.grid.t0 +ℤ c.args.by) (last.grid.t1 +ℤ c.args.by) told stands moved)

pub returns-clause-cause : goal.returns-clause-cause
returns-clause-cause g c =
    let ss = c.args.self.now.sessions in
    let session = session_of c.args.number ss in
    let last = c.in_ok-last-in-Ok.last in
    let store = c.args.self.now.store in
    let new = c.answer_over.new.self.store in
    let L : ViewSpec → Type 0 = λ l. IsLastOf session (Ok l) in
    let is : IsLastOf session (Ok last) = subst L (sym c.in_ok-last-in-Ok.ensures) c.in-Ok.ensures.last in
    causes_so (λ id. id ≡ last.series) (IsLastShown (last_of session)) c.answer_over.result (g.P.Pages.told (stored.pages store))
    (stored.catalog store) (stored.total store) (g.P.Pages.view (stored.pages store)) (g.P.Pages.view (stored.pages new))
    (last_shown session last is) c.answer_over.ensures.cause

pub returns-in-Err-clause-rooms : goal.returns-in-Err-clause-rooms
returns-in-Err-clause-rooms g c = λ n has. has

pub returns-clause-rooms : goal.returns-clause-rooms
returns-clause-rooms g c =
    let ss = c.args.self.now.sessions in
    let number = c.args.number in
    let last = c.in_ok-last-in-Ok.last in
    let L : ViewSpec → Type 0 = λ l. IsLastOf (session_of number ss) (Ok l) in
    let is : IsLastOf (session_of number ss) (Ok last) = subst L (sym c.in_ok-last-in-Ok.ensures) c.in-Ok.ensures.last in
    let by : FitsSigned w128 c.args.by = search rules in
    let B : ℤ → Type 0 = λ by. IsMoved last.grid (last.grid.t0 +ℤ by) (last.grid.t1 +ℤ by) c.panned-grid.result in
    let moved : IsMoved last.grid (last.grid.t0 +ℤ c.args.by) (last.grid.t1 +ℤ c.args.by) c.panned-grid.result = subst B
    (to_z-of_z w128 c.args.by by) c.panned-grid.ensures in
    keep_rooms c.answer_over.result number ss c.answer_over.new.self.sessions c.answer_over.ensures.stays.others
    (λ has. c.answer_over.ensures.rooms (last.grid.t0 +ℤ c.args.by) (last.grid.t1 +ℤ c.args.by) moved (fits_last number ss last is has) has)

pub returns-clause-last : goal.returns-clause-last
returns-clause-last g c =
    let ss = c.args.self.now.sessions in
    let number = c.args.number in
    let last = c.in_ok-last-in-Ok.last in
    let L : ViewSpec → Type 0 = λ l. IsLastOf (session_of number ss) (Ok l) in
    let is : IsLastOf (session_of number ss) (Ok last) = subst L (sym c.in_ok-last-in-Ok.ensures) c.in-Ok.ensures.last in
    tells_more c.answer_over.result number (λ id. id ≡ last.series) (IsLastIn ss number) c.answer_over.new.self.sessions
    (of_last number ss last is) c.answer_over.ensures.last
