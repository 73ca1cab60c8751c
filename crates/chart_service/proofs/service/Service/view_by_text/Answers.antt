use Rattle.std.proofs.Common.{List, Option, Ok}
use Rattle.series_book.specs.Edits.{id_of}
use Rattle.value_filter.specs.declared.steps.Step.{Step}
use Rattle.zoom_session.specs.Sessions.{is_open}
use Rattle.chart_service.specs.Planning.{IsFilterOf}
use Rattle.chart_service.specs.Replies.{RepliesToView, RepliesByText}
use Rattle.chart_service.specs.Stepping.{state_of, series_at, ReadsBy, ReadsByText}
use Rattle.chart_service.specs.Shown as shown
use Rattle.chart_service.proofs.Filtered.{spelled_view}
use Rattle.chart_service.proofs.LookLemmas.{replying_so}
use Rattle.chart_service.proofs.PlanLemmas.{reads_by_text}
use Rattle.chart_service.proofs.service.Service.view_by_text.Goals as goal

pub returns-in-Ok-clause-replying : goal.returns-in-Ok-clause-replying
returns-in-Ok-clause-replying g c = λ total book told stands.
    let ss = c.args.self.now.sessions in
    let ss' = c.view.new.self.sessions in
    let number = c.args.number in
    let name = c.args.name.now in
    let v = c.args.viewport in
    let text = c.args.text.now in
    let filter = c.in-Ok.filter in
    let is : IsFilterOf text (Ok filter) = c.in-Ok.ensures in
    let old = state_of book total ss in
    let new = state_of book total ss' in
    let at = series_at book (id_of name book) in
    replying_so (λ frame old new. RepliesToView (is_open number old.sessions) number name v.w v.h v.t0 v.t1 c.args.word filter frame old
    new) (λ frame old new. RepliesByText text (λ filter. RepliesToView
    (is_open number old.sessions) number name v.w v.h v.t0 v.t1 c.args.word filter frame old new) frame old new)
    (ReadsBy filter v.w v.t0 v.t1 at) (ReadsByText text v.w v.t0 v.t1 at) c.view.result total book ss ss'
    (g.P.Pages.view (shown.pages c.args.self.now)) (g.P.Pages.view (shown.pages c.view.new.self))
    (λ frame reply. spelled_view text filter (λ (f : Option (List Step)). RepliesToView
    (is_open number ss) number name v.w v.h v.t0 v.t1 c.args.word f frame old new) frame old new is reply)
    (reads_by_text text filter v.w v.t0 v.t1 at _ _ is)
    (c.view.ensures.replying total book told stands)
