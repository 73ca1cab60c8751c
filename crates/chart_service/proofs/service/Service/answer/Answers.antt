use Rattle.std.proofs.Common.{◌≡◌, true, false, None, rules}
use Rattle.std.specs.Prelude.{IsSomeAnd, slice_get, is_none}
use Rattle.chart_service.specs.Replies.{AnswersBy, AnswersView}
use Rattle.chart_service.specs.Stepping.{state_of, ReadsBy, ReadsFor, ReadsRows}
use Rattle.chart_service.specs.Viewing.{AnswersRows}
use Rattle.chart_service.specs.Shown as shown
use Rattle.chart_service.proofs.Filtered.{unfiltered, unfiltered_view, filtered_view}
use Rattle.chart_service.proofs.LookLemmas.{replying_so}
use Rattle.chart_service.proofs.PlanLemmas.{reads_unfiltered, reads_filtered}
use Rattle.chart_service.proofs.service.Service.answer.Goals as goal

pub returns-then-is_none-clause-replying : goal.returns-then-is_none-clause-replying
returns-then-is_none-clause-replying g c = λ total book told stands.
    let spec = c.args.spec in
    let number = c.args.number in
    let none : is_none spec.filter ≡ true = search rules in
    let at = slice_get book spec.series in
    replying_so (λ frame old new. IsSomeAnd (slice_get old.book spec.series) (λ series. AnswersBy None series spec number frame old new))
    (λ frame old new. IsSomeAnd (slice_get old.book spec.series) (λ series. AnswersView series spec number frame old new))
    (ReadsFor spec.grid.w at) (ReadsBy spec.filter spec.grid.w spec.grid.t0 spec.grid.t1 at) c.answer_coefs.result total book
    c.args.self.now.sessions c.answer_coefs.new.self.sessions
    (g.P.Pages.view (shown.pages c.args.self.now)) (g.P.Pages.view (shown.pages c.answer_coefs.new.self))
    (λ frame. unfiltered_view at spec number frame (state_of book total c.args.self.now.sessions)
    (state_of book total c.answer_coefs.new.self.sessions) (unfiltered spec.filter none))
    (reads_unfiltered spec.filter spec.grid.w spec.grid.t0 spec.grid.t1 at _ _ (unfiltered spec.filter none))
    (c.answer_coefs.ensures.replying total book told stands)

pub returns-else-is_none-clause-replying : goal.returns-else-is_none-clause-replying
returns-else-is_none-clause-replying g c = λ total book told stands.
    let spec = c.args.spec in
    let number = c.args.number in
    let some : is_none spec.filter ≡ false = search rules in
    let at = slice_get book spec.series in
    replying_so (λ frame old new. IsSomeAnd (slice_get old.book spec.series) (λ series. AnswersRows series spec number frame old new))
    (λ frame old new. IsSomeAnd (slice_get old.book spec.series) (λ series. AnswersView series spec number frame old new))
    (ReadsRows spec.grid.t0 spec.grid.t1 at) (ReadsBy spec.filter spec.grid.w spec.grid.t0 spec.grid.t1 at) c.answer_rows.result total book
    c.args.self.now.sessions c.answer_rows.new.self.sessions
    (g.P.Pages.view (shown.pages c.args.self.now)) (g.P.Pages.view (shown.pages c.answer_rows.new.self))
    (λ frame. filtered_view at spec number frame (state_of book total c.args.self.now.sessions)
    (state_of book total c.answer_rows.new.self.sessions) some)
    (reads_filtered spec.filter spec.grid.w spec.grid.t0 spec.grid.t1 at _ _ some)
    (c.answer_rows.ensures.replying total book told stands)
