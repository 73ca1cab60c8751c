use Rattle.std.proofs.Common.{◌≡◌, ◌∙◌, ℤ, Option, Some, IfOk, IfErr, FitsSigned, rules, sym, ap, subst, to_z, of_z}
use Rattle.std.specs.Int.{w128}
use Rattle.std.proofs.lemmas.Int.{to_z-of_z}
use Rattle.std.specs.Prelude.{IfSome}
use Rattle.block_disk.specs.View.{Image}
use Rattle.page_space.specs.declared.superblock.Superblock.{Superblock}
use Rattle.request_lines.specs.declared.requests.Request.{Request}
use Rattle.request_lines.specs.declared.requests.Request.TheVariants.{Zoom}
use Rattle.stored_book.specs.Standing.{StandsForBook}
use Rattle.zoom_session.specs.declared.view_spec.ViewSpec.{ViewSpec}
use Rattle.zoom_session.specs.Sessions.{session_of, last_of}
use Rattle.chart_service.specs.Called.{AnswersSo, IsCause, RequestBlamed}
use Rattle.chart_service.specs.Replies.{own_zoom}
use Rattle.chart_service.specs.Stepping.{IsLastShown, RepliedTo, ReadsFew}
use Rattle.chart_service.specs.Shown as shown
use Rattle.series_store.specs.Shown as stored
use Rattle.chart_service.proofs.Faulting.{counts_step, view_risen}
use Rattle.chart_service.proofs.LastLemmas.{lasts_shown}
use Rattle.chart_service.proofs.Blaming.{request_blamed}
use Rattle.chart_service.proofs.LookLemmas.{unchanged, unchanged_so, steps_so}
use Rattle.chart_service.proofs.StepLemmas.{AreOwn, look_reply, look_bad, on_ok, zoom_why}
use Rattle.chart_grid.specs.Limits.{IsWindow}
use Rattle.chart_service.proofs.service.Service.repeat.Goals as goal

pub returns : goal.returns
returns g c =
    let it = c.args.self.now in
    let store = it.store in
    let new = c.zoom-reply.new.self.store in
    let ss = it.sessions in
    let ss' = c.zoom-reply.new.self.sessions in
    let r = c.zoom-reply.result in
    let number = c.args.session in
    let last : ViewSpec = c.in-Some.last.now in
    let viewed : last_of (session_of number ss) ≡ Some last = search rules in
    let looked = c.zoom-reply.ensures.looked in
    let looks = looked.looks in
    let fit = looks.fit c.requires.sound in
    let t0 = to_z w128 (of_z w128 c.from-t0.result) in
    let t1 = to_z w128 (of_z w128 c.from-t1.result) in
    let from_fits : FitsSigned w128 c.from-t0.result = search rules in
    let to_fits : FitsSigned w128 c.from-t1.result = search rules in
    let from_is : c.from-t0.result ≡ last.grid.t0 = search rules in
    let to_is : c.from-t1.result ≡ last.grid.t1 = search rules in
    let request = Zoom number t0 t1 in
    let at : request ≡ own_zoom number last =
    ap (λ (t : ℤ). Zoom number t t1) (to_z-of_z w128 c.from-t0.result from_fits ∙ from_is)
    ∙ ap (λ (t : ℤ). Zoom number last.grid.t0 t) (to_z-of_z w128 c.from-t1.result to_fits ∙ to_is) in
    let own : AreOwn (g.P.Pages.told (stored.pages store)) (g.P.Pages.view (stored.pages store)) (stored.numbers store)
    (stored.catalog store) = record {
      within = store.space.rules.total_high;
      keeps = λ t. record { spelled = store.space.spelled c.requires.sound t; rules = store.space.rules };
      count = store.count;
      says = λ t. store.told c.requires.sound t;
    } in
    let Asked : Request → Type 0 = λ q. shown.ForBook it
    (λ total book. IfOk r (AnswersSo (RepliedTo q) total book it c.zoom-reply.new.self)) in
    let Bound : Request → Type 0 = λ q. shown.ForBook it
    (λ total book. ReadsFew q book ss (shown.view it).reads (shown.view c.zoom-reply.new.self).reads) in
    let Why : Request → Type 0 = λ q. IfErr r (IsCause q it c.zoom-reply.new.self) in
    let R : Option ViewSpec → Type 0 = λ o. IfSome o
    (λ one. shown.ForBook it (λ total book. IfOk r (AnswersSo (RepliedTo (own_zoom number one)) total book it c.zoom-reply.new.self)))
    in
    let B : Option ViewSpec → Type 0 = λ o. IfSome o
    (λ one. shown.ForBook it (λ total book. ReadsFew (own_zoom number one) book ss (shown.view it).reads
    (shown.view c.zoom-reply.new.self).reads)) in
    let C : Option ViewSpec → Type 0 = λ o. IfSome o (λ one. IfErr r (IsCause (own_zoom number one) it c.zoom-reply.new.self)) in
    let L : Option ViewSpec → Type 0 = λ o. IfSome o (λ one. IfErr r (RequestBlamed (own_zoom number one) it c.zoom-reply.new.self)) in
    let why = subst Why at (zoom_why r number t0 t1 (g.P.Pages.told (stored.pages store)) (stored.catalog store) ss (stored.numbers store)
    (g.P.Pages.view (stored.pages store)) (g.P.Pages.view (stored.pages new)) c.zoom-reply.ensures.cause) in
    record {
      reply = subst R (sym viewed) (subst Asked at (λ total book told stands.
          let S : Image → Type 0 = λ i. StandsForBook i total book in
          let there = subst S (sym (looks.image told)) stands in
          look_reply request (ReadsFew request book ss) r total book ss ss' (g.P.Pages.view (stored.pages store))
          (g.P.Pages.view (stored.pages new)) (g.P.Pages.view (stored.pages new)).image
          (c.zoom-reply.ensures.replying total book told stands) looked.fits
          (c.is_sound.ensures.state total book fit (looks.told told) there) there));
      standing = λ total book told stands. (c.zoom-reply.ensures.replying total book told stands).standing;
      reads = subst B (sym viewed) (subst Bound at (λ total book told stands.
          (c.zoom-reply.ensures.replying total book told stands).reads));
      fits = looked.fits;
      opens = looked.opens;
      sessions = looked.lost;
      kept = looked.kept;
      may = c.zoom-reply.ensures.may;
      tells = λ has.
          let F : ℤ → Type 0 = λ t. IsWindow t last.grid.t1 in
          let T : ℤ → Type 0 = λ t. IsWindow t0 t in
          c.zoom-reply.ensures.tells (subst T (sym (to_z-of_z w128 c.from-t1.result to_fits ∙ to_is))
          (subst F (sym (to_z-of_z w128 c.from-t0.result from_fits ∙ from_is)) last.grid.window)) has;
      rooms = c.zoom-reply.ensures.rooms;
      lasts = lasts_shown r number (λ was. was) ss ss' c.zoom-reply.ensures.may c.zoom-reply.ensures.stays.others looked.kept
          c.zoom-reply.ensures.last;
      stays = c.zoom-reply.ensures.stays;
      moments = looks.time;
      idle = unchanged _ _ _ _ _ _ _ _ _ _ looks;
      cause = subst C (sym viewed) why;
      blames = subst L (sym viewed) (request_blamed r (g.P.Pages.told (stored.pages store)) (g.P.Pages.told (stored.pages new))
          (g.P.Pages.view (stored.pages store)) (g.P.Pages.view (stored.pages new)) (stored.numbers store)
          (stored.catalog store) ss own looks.was_told looks.size
          (own_zoom number last) (unchanged_so r _ _ _ (unchanged _ _ _ _ _ _ _ _ _ _ looks)) why);
      bad = look_bad (IsLastShown (last_of (session_of number ss))) r _ _ _ _ _ _ _ _ _ _ own looks c.zoom-reply.ensures.cause;
      faults =
          let view = g.P.Pages.view in
          counts_step r (view (stored.pages store)) (view (stored.pages new)) looks.beside
          (view_risen (IsLastShown (last_of (session_of number ss))) r (g.P.Pages.told (stored.pages store)) (stored.catalog store)
          (stored.total store) (view (stored.pages store)) (view (stored.pages new)) c.zoom-reply.ensures.cause)
          c.zoom-reply.ensures.quiet c.zoom-reply.ensures.quiet_err;
      steps = steps_so _ _ _ _ _ _ _ _ _ _ looks;
      goes_on = looks.goes_on;
      sound = on_ok r (g.P.Pages.view (stored.pages new)).fit fit;
      total = ap (λ (s : Superblock). s.total) looks.superblock;
    }
