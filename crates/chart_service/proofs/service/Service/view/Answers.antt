use Rattle.std.proofs.Common.{◌≡◌, ◌<◌, ◌∙◌, ℕ, true, length, None, Some, rules, subst, sym, arith}
use Rattle.std.specs.Prelude.{IsSomeAnd, slice_get}
use Rattle.series_book.specs.Edits.{id_of}
use Rattle.zoom_session.specs.Sessions.{is_open}
use Rattle.chart_service.specs.Planning.{IsSpecFor}
use Rattle.chart_service.specs.Replies.{AnswersView, RepliesToView}
use Rattle.chart_service.specs.Stepping.{state_of, series_at, ReadsBy}
use Rattle.chart_service.specs.Shown as shown
use Rattle.series_store.specs.Shown as stored
use Rattle.series_store.specs.Asking.{IsNamedAt}
use Rattle.chart_service.proofs.Answered.{replies_to_view, views_id, refuses_id}
use Rattle.chart_service.proofs.LookLemmas.{causes_so, replying_so, replying_refused, looked_refused}
use Rattle.chart_service.proofs.ReadLemmas.{reads_by}
use Rattle.chart_service.proofs.ViewLemmas.{replies_unknown, reads_named}
use Rattle.chart_service.proofs.LastLemmas.{tells_more}
use Rattle.chart_service.proofs.service.Service.view.Goals as goal

pub returns-in_default-clause-replying : goal.returns-in_default-clause-replying
returns-in_default-clause-replying g c = λ total book told stands.
    let ss = c.args.self.now.sessions in
    let number = c.args.number in
    let name = c.args.name.now in
    let v = c.args.viewport in
    let filter = c.args.filter in
    let view = g.P.Pages.view (shown.pages c.args.self.now) in
    let there : is_open number ss ≡ true = search rules in
    let none : id_of name book ≡ None = c.in_default.ensures.info total book c.requires.sound told stands in
    replying_refused (λ frame old new. RepliesToView
    (is_open number old.sessions) number name v.w v.h v.t0 v.t1 c.args.word filter frame old new)
    (ReadsBy filter v.w v.t0 v.t1 (series_at book (id_of name book))) c.refused-in_default.result total book ss view
    (replies_unknown number name v c.args.word filter c.refused-in_default.result
    (state_of book total ss) there none c.refused-in_default.ensures.frame)
    (reads_by filter v.w v.t0 v.t1 (series_at book (id_of name book)) view.reads)

pub returns-in-Ok-clause-replying : goal.returns-in-Ok-clause-replying
returns-in-Ok-clause-replying g c = λ total book told stands.
    let ss = c.args.self.now.sessions in
    let ss' = c.answer.new.self.sessions in
    let number = c.args.number in
    let name = c.args.name.now in
    let v = c.args.viewport in
    let filter = c.args.filter in
    let id = c.in-Some.info.id in
    let spec = c.in-Ok.spec in
    let there : is_open number ss ≡ true = search rules in
    let named : id_of name book ≡ Some id = (c.in-Some.ensures.info total book c.requires.sound told stands).0 in
    let is = subst (IsSpecFor id v c.args.word filter) c.in-Ok.is c.spec_of.ensures.spec in
    let old = state_of book total ss in
    let new = state_of book total ss' in
    replying_so (λ frame old new. IsSomeAnd (slice_get old.book spec.series) (λ series. AnswersView series spec number frame old new))
    (λ frame old new. RepliesToView (is_open number old.sessions) number name v.w v.h v.t0 v.t1 c.args.word filter frame old new)
    (ReadsBy spec.filter spec.grid.w spec.grid.t0 spec.grid.t1 (slice_get book spec.series))
    (ReadsBy filter v.w v.t0 v.t1 (series_at book (id_of name book))) c.answer.result total book ss ss'
    (g.P.Pages.view (shown.pages c.args.self.now)) (g.P.Pages.view (shown.pages c.answer.new.self))
    (λ frame answers. replies_to_view number name v c.args.word filter id frame old new there named
    (views_id id number v c.args.word filter spec frame old new is answers))
    (reads_named book name id v c.args.word filter spec _ _ named is)
    (c.answer.ensures.replying total book told stands)

pub returns-in-Err-clause-replying : goal.returns-in-Err-clause-replying
returns-in-Err-clause-replying g c = λ total book told stands.
    let ss = c.args.self.now.sessions in
    let number = c.args.number in
    let name = c.args.name.now in
    let v = c.args.viewport in
    let filter = c.args.filter in
    let id = c.in-Some.info.id in
    let view = g.P.Pages.view (shown.pages c.args.self.now) in
    let old = state_of book total ss in
    let there : is_open number ss ≡ true = search rules in
    let named : id_of name book ≡ Some id = (c.in-Some.ensures.info total book c.requires.sound told stands).0 in
    let why = subst (IsSpecFor id v c.args.word filter) c.in-Err.is c.spec_of.ensures.spec in
    let below : id < length book = omega (
      arith,
      c.in-Some.ensures.there,
      c.len-count.ensures.count,
      c.len-count.ensures.books total book c.requires.sound told stands,
    ) in
    replying_refused (λ frame old new. RepliesToView
    (is_open number old.sessions) number name v.w v.h v.t0 v.t1 c.args.word filter frame old new)
    (ReadsBy filter v.w v.t0 v.t1 (series_at book (id_of name book))) c.refused-in-Err.result total book ss view
    (replies_to_view number name v c.args.word filter id c.refused-in-Err.result old old there named
    (refuses_id id number v c.args.word filter c.in-Err.refusal c.refused-in-Err.result old below why c.refused-in-Err.ensures.frame))
    (reads_by filter v.w v.t0 v.t1 (series_at book (id_of name book)) view.reads)

pub returns-in-Err-clause-looked : goal.returns-in-Err-clause-looked
returns-in-Err-clause-looked g c =
    let store = c.args.self.now.store in
    looked_refused (Some c.args.number) c.refused-in-Err.result c.in-Err.refusal c.args.self.now.sessions
    (g.P.Pages.told (stored.pages store)) (g.P.Pages.view (stored.pages store)) (g.P.Pages.under (stored.pages store))
    (stored.numbers store) (stored.catalog store) c.refused-in-Err.ensures.frame c.refused-in-Err.ensures.fits

pub returns-in-Ok-clause-cause : goal.returns-in-Ok-clause-cause
returns-in-Ok-clause-cause g c =
    let store = c.args.self.now.store in
    let new = c.answer.new.self.store in
    let name = c.args.name.now in
    let spec = c.in-Ok.spec in
    let catalog = stored.catalog store in
    let is = subst (IsSpecFor c.in-Some.info.id c.args.viewport c.args.word c.args.filter) c.in-Ok.is c.spec_of.ensures.spec in
    let named : IsNamedAt catalog name c.in-Some.info.id = c.in-Some.ensures.named in
    let N : ℕ → Type 0 = IsNamedAt catalog name in
    causes_so (λ id. id ≡ spec.series) (IsNamedAt catalog name) c.answer.result (g.P.Pages.told (stored.pages store)) catalog
    (stored.total store) (g.P.Pages.view (stored.pages store)) (g.P.Pages.view (stored.pages new))
    (λ id same. subst N (sym (same ∙ is.of)) named) c.answer.ensures.cause

pub returns-in-Ok-clause-last : goal.returns-in-Ok-clause-last
returns-in-Ok-clause-last g c = tells_more c.answer.result c.args.number (λ id. id ≡ c.in-Ok.spec.series)
    (λ id. Unit {0}) c.answer.new.self.sessions (λ id is. tt) c.answer.ensures.last
