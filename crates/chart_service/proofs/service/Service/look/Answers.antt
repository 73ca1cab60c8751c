use Rattle.std.proofs.Common.{◌≡◌, ℕ, ℤ, IfOk, IfErr, refl, sym, ap, subst, rules, to_z, of_z, ◌∙◌}
use Rattle.std.specs.Int.{w128}
use Rattle.request_lines.specs.declared.requests.Request.{Request}
use Rattle.request_lines.specs.declared.requests.Request.TheVariants.{View, Zoom, Pan}
use Rattle.series_book.specs.Edits.{id_of}
use Rattle.zoom_session.specs.Sessions.{is_open, open_refusal}
use Rattle.chart_service.specs.Kinds.{MayAnswer}
use Rattle.chart_service.specs.Looking.{Replying}
use Rattle.chart_service.specs.Replies.{Opens, Replies, RepliesToView, RepliesByText}
use Rattle.chart_service.specs.Stepping.{state_of, series_at, IsStepCause, ReadsByText, ReadsFew}
use Rattle.chart_service.specs.Shown as shown
use Rattle.series_store.specs.Shown as stored
use Rattle.chart_service.proofs.LookLemmas.{replying_so}
use Rattle.chart_service.proofs.StepLemmas.{on_ok, open_outside, open_cause, view_why, zoom_why, pan_why}
use Rattle.std.specs.Prelude.{OnOk}
use Rattle.chart_service.specs.Rooms.{LeavesOpen}
use Rattle.chart_service.proofs.LastLemmas.{lasts_closed, lasts_opened, lasts_shown}
use Rattle.chart_service.specs.LastShown.{LastsBy, OfRows}
use Rattle.std.proofs.Common.{[]}
use Rattle.request_lines.specs.declared.requests.Request.TheVariants.{Open, Close}
use Rattle.chart_service.proofs.service.Service.look.Goals as goal

pub returns-in-Open-clause-replying : goal.returns-in-Open-clause-replying
returns-in-Open-clause-replying g c = rw c.open.ensures.store (λ total book told stands.
    let ss = c.args.self.now.sessions in
    let ss' = c.open.new.self.sessions in
    let view = g.P.Pages.view (shown.pages c.args.self.now) in
    let E : Request → Type 0 = λ r. Replying (Replies r) (ReadsFew r book ss) c.open.result total book ss ss' view view in
    let K : ℕ → Type 0 = λ cache. IfOk c.open.result
    (λ frame. Opens (open_refusal ss c.in-Open.session cache) c.in-Open.session cache frame (state_of book total ss)
    (state_of book total ss')) in
    subst E (sym c.in-Open.is) (record {
      reply = subst K c.cache_of.ensures (c.open.ensures.reply total book);
      standing = open_outside c.open.result c.open.ensures.error;
      reads = refl;
    }))

pub returns-in-Open-clause-cause : goal.returns-in-Open-clause-cause
returns-in-Open-clause-cause g c =
    let store = c.args.self.now.store in
    let new = c.open.new.self.store in
    let E : Request → Type 0 = λ r. IfErr c.open.result
    (λ error. IsStepCause r error (g.P.Pages.told (stored.pages store)) (stored.catalog store) c.args.self.now.sessions
    (stored.numbers store) (g.P.Pages.view (stored.pages store)) (g.P.Pages.view (stored.pages new))) in
    subst E (sym c.in-Open.is) (open_cause c.open.result c.in-Open.session c.in-Open.cache (g.P.Pages.told (stored.pages store))
    (stored.catalog store) c.args.self.now.sessions (stored.numbers store) (g.P.Pages.view (stored.pages store))
    (g.P.Pages.view (stored.pages new)) c.open.ensures.error)

pub returns-in-View-clause-replying : goal.returns-in-View-clause-replying
returns-in-View-clause-replying g c = λ total book told stands.
    let ss = c.args.self.now.sessions in
    let ss' = c.view_by_text.new.self.sessions in
    let old = g.P.Pages.view (shown.pages c.args.self.now) in
    let new = g.P.Pages.view (shown.pages c.view_by_text.new.self) in
    let number = c.in-View.session in
    let name = c.in-View.name in
    let w = c.in-View.w in
    let h = c.in-View.h in
    let t0 = to_z w128 (of_z w128 c.in-View.t0) in
    let t1 = to_z w128 (of_z w128 c.in-View.t1) in
    let word = c.in-View.range in
    let text = c.in-View.filter in
    let from : t0 ≡ c.in-View.t0 = search rules in
    let to : t1 ≡ c.in-View.t1 = search rules in
    let at : View number name w h t0 t1 word text ≡ c.args.request.now = ap (λ (t : ℤ). View number name w h t t1 word text) from
    ∙ ap (λ (t : ℤ). View number name w h c.in-View.t0 t word text) to ∙ sym c.in-View.is in
    let E : Request → Type 0 = λ r. Replying (Replies r) (ReadsFew r book ss) c.view_by_text.result total book ss ss' old new in
    subst E at (replying_so (λ frame old new. RepliesByText text
    (λ filter. RepliesToView (is_open number old.sessions) number name w h t0 t1 word filter frame old new) frame old new)
    (Replies (View number name w h t0 t1 word text))
    (ReadsByText text w t0 t1 (series_at book (id_of name book)))
    (ReadsFew (View number name w h t0 t1 word text) book ss) c.view_by_text.result total book ss ss' old new
    (λ frame reply. reply) (λ reads. reads)
    (c.view_by_text.ensures.replying total book told stands))

pub returns-in-View-clause-cause : goal.returns-in-View-clause-cause
returns-in-View-clause-cause g c =
    let store = c.args.self.now.store in
    let new = c.view_by_text.new.self.store in
    let E : Request → Type 0 = λ r. IfErr c.view_by_text.result
    (λ error. IsStepCause r error (g.P.Pages.told (stored.pages store)) (stored.catalog store) c.args.self.now.sessions
    (stored.numbers store) (g.P.Pages.view (stored.pages store)) (g.P.Pages.view (stored.pages new))) in
    subst E (sym c.in-View.is) (view_why c.view_by_text.result c.in-View.session c.in-View.name c.in-View.w c.in-View.h c.in-View.t0
    c.in-View.t1 c.in-View.range c.in-View.filter (g.P.Pages.told (stored.pages store)) (stored.catalog store) c.args.self.now.sessions
    (stored.numbers store) (g.P.Pages.view (stored.pages store)) (g.P.Pages.view (stored.pages new)) c.view_by_text.ensures.cause)

pub returns-in-Zoom-clause-replying : goal.returns-in-Zoom-clause-replying
returns-in-Zoom-clause-replying g c = λ total book told stands.
    let ss = c.args.self.now.sessions in
    let ss' = c.zoom.new.self.sessions in
    let old = g.P.Pages.view (shown.pages c.args.self.now) in
    let new = g.P.Pages.view (shown.pages c.zoom.new.self) in
    let number = c.in-Zoom.session in
    let t0 = to_z w128 (of_z w128 c.in-Zoom.t0) in
    let t1 = to_z w128 (of_z w128 c.in-Zoom.t1) in
    let from : t0 ≡ c.in-Zoom.t0 = search rules in
    let to : t1 ≡ c.in-Zoom.t1 = search rules in
    let at : Zoom number t0 t1 ≡ c.args.request.now = ap (λ (t : ℤ). Zoom number t t1) from ∙ ap (λ (t : ℤ). Zoom number c.in-Zoom.t0 t) to
    ∙ sym c.in-Zoom.is in
    let E : Request → Type 0 = λ r. Replying (Replies r) (ReadsFew r book ss) c.zoom.result total book ss ss' old new in
    subst E at (c.zoom.ensures.replying total book told stands)

pub returns-in-Zoom-clause-cause : goal.returns-in-Zoom-clause-cause
returns-in-Zoom-clause-cause g c =
    let store = c.args.self.now.store in
    let new = c.zoom.new.self.store in
    let E : Request → Type 0 = λ r. IfErr c.zoom.result
    (λ error. IsStepCause r error (g.P.Pages.told (stored.pages store)) (stored.catalog store) c.args.self.now.sessions
    (stored.numbers store) (g.P.Pages.view (stored.pages store)) (g.P.Pages.view (stored.pages new))) in
    subst E (sym c.in-Zoom.is) (zoom_why c.zoom.result c.in-Zoom.session c.in-Zoom.t0 c.in-Zoom.t1 (g.P.Pages.told (stored.pages store))
    (stored.catalog store) c.args.self.now.sessions (stored.numbers store) (g.P.Pages.view (stored.pages store))
    (g.P.Pages.view (stored.pages new)) c.zoom.ensures.cause)

pub returns-in-Pan-clause-replying : goal.returns-in-Pan-clause-replying
returns-in-Pan-clause-replying g c = λ total book told stands.
    let ss = c.args.self.now.sessions in
    let ss' = c.pan.new.self.sessions in
    let old = g.P.Pages.view (shown.pages c.args.self.now) in
    let new = g.P.Pages.view (shown.pages c.pan.new.self) in
    let number = c.in-Pan.session in
    let by = to_z w128 (of_z w128 c.in-Pan.by) in
    let same : by ≡ c.in-Pan.by = search rules in
    let at : Pan number by ≡ c.args.request.now = ap (λ (t : ℤ). Pan number t) same ∙ sym c.in-Pan.is in
    let E : Request → Type 0 = λ r. Replying (Replies r) (ReadsFew r book ss) c.pan.result total book ss ss' old new in
    subst E at (c.pan.ensures.replying total book told stands)

pub returns-in-Pan-clause-cause : goal.returns-in-Pan-clause-cause
returns-in-Pan-clause-cause g c =
    let store = c.args.self.now.store in
    let new = c.pan.new.self.store in
    let E : Request → Type 0 = λ r. IfErr c.pan.result
    (λ error. IsStepCause r error (g.P.Pages.told (stored.pages store)) (stored.catalog store) c.args.self.now.sessions
    (stored.numbers store) (g.P.Pages.view (stored.pages store)) (g.P.Pages.view (stored.pages new))) in
    subst E (sym c.in-Pan.is) (pan_why c.pan.result c.in-Pan.session c.in-Pan.by (g.P.Pages.told (stored.pages store))
    (stored.catalog store) c.args.self.now.sessions (stored.numbers store) (g.P.Pages.view (stored.pages store))
    (g.P.Pages.view (stored.pages new)) c.pan.ensures.cause)

pub returns-in-Open-clause-may : goal.returns-in-Open-clause-may
returns-in-Open-clause-may g c =
    let E : Request → Type 0 = λ r. IfOk c.open.result (λ frame. MayAnswer r frame) in
    subst E (sym c.in-Open.is) c.open.ensures.may

pub returns-in-View-clause-may : goal.returns-in-View-clause-may
returns-in-View-clause-may g c =
    let E : Request → Type 0 = λ r. IfOk c.view_by_text.result (λ frame. MayAnswer r frame) in
    subst E (sym c.in-View.is) c.view_by_text.ensures.may

pub returns-in-Zoom-clause-may : goal.returns-in-Zoom-clause-may
returns-in-Zoom-clause-may g c =
    let E : Request → Type 0 = λ r. IfOk c.zoom.result (λ frame. MayAnswer r frame) in
    subst E (sym c.in-Zoom.is) c.zoom.ensures.may

pub returns-in-Pan-clause-may : goal.returns-in-Pan-clause-may
returns-in-Pan-clause-may g c =
    let E : Request → Type 0 = λ r. IfOk c.pan.result (λ frame. MayAnswer r frame) in
    subst E (sym c.in-Pan.is) c.pan.ensures.may

pub returns-in-Close-clause-may : goal.returns-in-Close-clause-may
returns-in-Close-clause-may g c =
    let E : Request → Type 0 = λ r. MayAnswer r c.close.result in
    subst E (sym c.in-Close.is) c.close.ensures.may

pub returns-in-Open-clause-leaves : goal.returns-in-Open-clause-leaves
returns-in-Open-clause-leaves g c =
    let E : Request → Type 0 = λ r. OnOk c.open.result (LeavesOpen r c.args.self.now.sessions c.open.new.self.sessions) in
    subst E (sym c.in-Open.is) c.open.ensures.leaves

pub returns-in-View-clause-leaves : goal.returns-in-View-clause-leaves
returns-in-View-clause-leaves g c =
    let E : Request → Type 0 = λ r. OnOk c.view_by_text.result (LeavesOpen r c.args.self.now.sessions c.view_by_text.new.self.sessions) in
    subst E (sym c.in-View.is) (on_ok c.view_by_text.result _ c.view_by_text.ensures.stays.others)

pub returns-in-Zoom-clause-leaves : goal.returns-in-Zoom-clause-leaves
returns-in-Zoom-clause-leaves g c =
    let E : Request → Type 0 = λ r. OnOk c.zoom.result (LeavesOpen r c.args.self.now.sessions c.zoom.new.self.sessions) in
    subst E (sym c.in-Zoom.is) c.zoom.ensures.rooms

pub returns-in-Pan-clause-leaves : goal.returns-in-Pan-clause-leaves
returns-in-Pan-clause-leaves g c =
    let E : Request → Type 0 = λ r. OnOk c.pan.result (LeavesOpen r c.args.self.now.sessions c.pan.new.self.sessions) in
    subst E (sym c.in-Pan.is) c.pan.ensures.rooms

pub returns-in-Close-clause-leaves : goal.returns-in-Close-clause-leaves
returns-in-Close-clause-leaves g c =
    let E : Request → Type 0 = λ r. LeavesOpen r c.args.self.now.sessions c.close.new.self.sessions in
    subst E (sym c.in-Close.is) c.close.ensures.leaves

pub returns-in-Open-clause-lasts : goal.returns-in-Open-clause-lasts
returns-in-Open-clause-lasts g c =
    let ss = c.args.self.now.sessions in
    let ss' = c.open.new.self.sessions in
    let E : Request → Type 0 = λ r. IfOk c.open.result (λ frame. LastsBy (OfRows r) frame ss ss') in
    subst E (sym c.in-Open.is) (lasts_opened c.open.result
    (open_refusal ss c.in-Open.session c.cache_of.result) c.in-Open.session c.cache_of.result
    (OfRows (Open c.in-Open.session c.in-Open.cache)) (state_of [] 0 ss) (state_of [] 0 ss')
    (c.open.ensures.reply 0 []))

pub returns-in-View-clause-lasts : goal.returns-in-View-clause-lasts
returns-in-View-clause-lasts g c =
    let ss = c.args.self.now.sessions in
    let ss' = c.view_by_text.new.self.sessions in
    let r = c.view_by_text.result in
    let made = c.view_by_text.ensures in
    let E : Request → Type 0 = λ q. IfOk r (λ frame. LastsBy (OfRows q) frame ss ss') in
    subst E (sym c.in-View.is) (lasts_shown r c.in-View.session
    (OfRows (View c.in-View.session c.in-View.name c.in-View.w c.in-View.h c.in-View.t0 c.in-View.t1 c.in-View.range c.in-View.filter))
    ss ss' made.may made.stays.others made.looked.kept made.last)

pub returns-in-Zoom-clause-lasts : goal.returns-in-Zoom-clause-lasts
returns-in-Zoom-clause-lasts g c =
    let ss = c.args.self.now.sessions in
    let ss' = c.zoom.new.self.sessions in
    let made = c.zoom.ensures in
    let E : Request → Type 0 = λ q. IfOk c.zoom.result (λ frame. LastsBy (OfRows q) frame ss ss') in
    subst E (sym c.in-Zoom.is) (lasts_shown c.zoom.result c.in-Zoom.session
    (OfRows (Zoom c.in-Zoom.session c.in-Zoom.t0 c.in-Zoom.t1)) ss ss' made.may made.stays.others made.looked.kept made.last)

pub returns-in-Pan-clause-lasts : goal.returns-in-Pan-clause-lasts
returns-in-Pan-clause-lasts g c =
    let ss = c.args.self.now.sessions in
    let ss' = c.pan.new.self.sessions in
    let made = c.pan.ensures in
    let E : Request → Type 0 = λ q. IfOk c.pan.result (λ frame. LastsBy (OfRows q) frame ss ss') in
    subst E (sym c.in-Pan.is) (lasts_shown c.pan.result c.in-Pan.session
    (OfRows (Pan c.in-Pan.session c.in-Pan.by)) ss ss' made.may made.stays.others made.looked.kept made.last)

pub returns-in-Close-clause-lasts : goal.returns-in-Close-clause-lasts
returns-in-Close-clause-lasts g c =
    let ss = c.args.self.now.sessions in
    let ss' = c.close.new.self.sessions in
    let made = c.close.ensures in
    let E : Request → Type 0 = λ q. LastsBy (OfRows q) c.close.result ss ss' in
    subst E (sym c.in-Close.is) (lasts_closed c.in-Close.session
    (OfRows (Close c.in-Close.session)) c.close.result ss ss' made.may made.leaves made.opens made.stays)
