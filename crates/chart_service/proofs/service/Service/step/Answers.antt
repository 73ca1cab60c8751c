use Rattle.std.proofs.Common.{◌≡◌, ◌∷◌, [], All, IfOk, sym, ap, subst}
use Rattle.std.proofs.lemmas.List.Elements.{All-head}
use Rattle.block_disk.specs.View.{Image, Passes}
use Rattle.gate_pages.specs.Pages.{Quiet}
use Rattle.page_space.specs.declared.superblock.Superblock.{Superblock}
use Rattle.request_lines.specs.declared.requests.Request.{Request}
use Rattle.request_lines.specs.declared.requests.Request.TheVariants.{Edit as EditRequest}
use Rattle.series_book.specs.Edits.{apply}
use Rattle.series_store.specs.Results.{KeepsBook}
use Rattle.chart_service.specs.Syncing.{edit_asked}
use Rattle.stored_book.specs.Standing.{StandsForBook}
use Rattle.chart_service.specs.Stepping.{StandsAfter, state_of, RepliedTo, IsBeforeOrAfter, ReadsFew}
use Rattle.chart_service.specs.Kinds.{MayAnswer}
use Rattle.chart_service.specs.Shown as shown
use Rattle.series_store.specs.Shown as stored
use Rattle.chart_service.proofs.Faulting.{counts_step, step_risen}
use Rattle.chart_service.proofs.KindLemmas.{kept_same}
use Rattle.chart_service.proofs.LookLemmas.{unchanged, unchanged_so, steps_so, moments_so}
use Rattle.chart_service.proofs.StepLemmas.{AreOwn, look_reply, request_bad, edit_bad, on_ok}
use Rattle.chart_service.proofs.SyncLemmas.{asks_one}
use Rattle.std.specs.Prelude.{OnOk}
use Rattle.chart_service.specs.Rooms.{LeavesOpen}
use Rattle.chart_service.proofs.LastLemmas.{lasts_edited}
use Rattle.chart_service.specs.LastShown.{OfRows}
use Rattle.chart_service.proofs.service.Service.step.Goals as goal

pub returns-in-Edit-clause-reply : goal.returns-in-Edit-clause-reply
returns-in-Edit-clause-reply g c = λ total book told stands.
    let ss = c.args.self.now.sessions in
    let E : Request → Type 0 = λ r. IfOk c.edit.result
    (λ frame. StandsAfter total (g.P.Pages.view (shown.pages c.edit.new.self)).image c.edit.new.self.sessions
    (λ new. RepliedTo r frame (state_of book total ss) new)) in
    subst E (sym c.in-Edit.is) (c.edit.ensures.reply total book told stands)

pub returns-in-Edit-clause-moments : goal.returns-in-Edit-clause-moments
returns-in-Edit-clause-moments g c = λ total book told stands.
    let ss = c.args.self.now.sessions in
    let old = g.P.Pages.view (shown.pages c.args.self.now) in
    let E : Request → Type 0 = λ r. Passes old (g.P.Pages.view (shown.pages c.edit.new.self)) (IsBeforeOrAfter (RepliedTo r) total book ss)
    (Quiet old) in
    subst E (sym c.in-Edit.is) (c.edit.ensures.moments total book told stands)

pub returns-in-Edit-clause-bad : goal.returns-in-Edit-clause-bad
returns-in-Edit-clause-bad g c =
    let store = c.args.self.now.store in
    let new = c.edit.new.self.store in
    let own : AreOwn (g.P.Pages.told (stored.pages store)) (g.P.Pages.view (stored.pages store)) (stored.numbers store)
    (stored.catalog store) = record {
      within = store.space.rules.total_high;
      keeps = λ t. record { spelled = store.space.spelled c.requires.sound t; rules = store.space.rules };
      count = store.count;
      says = λ t. store.told c.requires.sound t;
    } in
    edit_bad c.edit.result c.in-Edit.edit (g.P.Pages.told (stored.pages store)) (g.P.Pages.told (stored.pages new))
    (stored.catalog store) c.args.self.now.sessions (stored.numbers store) (g.P.Pages.view (stored.pages store))
    (g.P.Pages.view (stored.pages new)) own c.edit.ensures.steps c.edit.ensures.unchanged c.edit.ensures.cause

pub returns-in_default : goal.returns-in_default
returns-in_default g c =
    let store = c.args.self.now.store in
    let new = c.look-reply.new.self.store in
    let ss = c.args.self.now.sessions in
    let ss' = c.look-reply.new.self.sessions in
    let r = c.look-reply.result in
    let request = c.args.request.now in
    let looked = c.look-reply.ensures.looked in
    let looks = looked.looks in
    let fit = looks.fit c.requires.sound in
    let own : AreOwn (g.P.Pages.told (stored.pages store)) (g.P.Pages.view (stored.pages store)) (stored.numbers store)
    (stored.catalog store) = record {
      within = store.space.rules.total_high;
      keeps = λ t. record { spelled = store.space.spelled c.requires.sound t; rules = store.space.rules };
      count = store.count;
      says = λ t. store.told c.requires.sound t;
    } in
    record {
      reply = λ total book told stands.
          let S : Image → Type 0 = λ i. StandsForBook i total book in
          let there = subst S (sym (looks.image told)) stands in
          look_reply request (ReadsFew request book ss) r total book ss ss' (g.P.Pages.view (stored.pages store))
          (g.P.Pages.view (stored.pages new)) (g.P.Pages.view (stored.pages new)).image
          (c.look-reply.ensures.replying total book told stands) looked.fits
          (c.is_sound.ensures.state total book fit (looks.told told) there) there;
      standing = λ total book told stands. (c.look-reply.ensures.replying total book told stands).standing;
      moments = λ total book told stands. moments_so (RepliedTo request) total book ss (g.P.Pages.view (stored.pages store))
          (g.P.Pages.view (stored.pages new)) (g.met.P.Pages.rests (stored.pages store) c.requires.sound) stands looks.time;
      reads = λ total book told stands. (c.look-reply.ensures.replying total book told stands).reads;
      fits = looked.fits;
      opens = looked.opens;
      sessions = looked.lost;
      kept = looked.kept;
      may = c.look-reply.ensures.may;
      leaves = c.look-reply.ensures.leaves;
      lasts = c.look-reply.ensures.lasts;
      unchanged = unchanged_so r (g.P.Pages.told (stored.pages store)) (g.P.Pages.view (stored.pages store))
          (g.P.Pages.view (stored.pages new)) (unchanged _ _ _ _ _ _ _ _ _ _ looks);
      idle = λ none. unchanged _ _ _ _ _ _ _ _ _ _ looks;
      same_book = λ total book told stands keeps. let kept = unchanged _ _ _ _ _ _ _ _ _ _ looks in (kept.syncs, kept.writes);
      cause = c.look-reply.ensures.cause;
      bad = request_bad r request _ _ _ _ _ _ _ _ _ _ ss own looks c.look-reply.ensures.cause;
      faults =
          let view = g.P.Pages.view in
          counts_step r (view (stored.pages store)) (view (stored.pages new)) looks.beside
          (step_risen r request (g.P.Pages.told (stored.pages store)) (stored.catalog store) ss (stored.numbers store)
          (view (stored.pages store)) (view (stored.pages new)) c.look-reply.ensures.cause) c.look-reply.ensures.quiet
          c.look-reply.ensures.quiet_err;
      steps = steps_so _ _ _ _ _ _ _ _ _ _ looks;
      goes_on = looks.goes_on;
      sound = on_ok r (g.P.Pages.view (stored.pages new)).fit fit;
      total = ap (λ (s : Superblock). s.total) looks.superblock;
    }

pub returns-in-Edit-clause-kept : goal.returns-in-Edit-clause-kept
returns-in-Edit-clause-kept g c = kept_same c.edit.result c.args.self.now.sessions c.edit.new.self.sessions c.edit.ensures.sessions

pub returns-in-Edit-clause-may : goal.returns-in-Edit-clause-may
returns-in-Edit-clause-may g c =
    let E : Request → Type 0 = λ r. IfOk c.edit.result (λ frame. MayAnswer r frame) in
    subst E (sym c.in-Edit.is) c.edit.ensures.may

pub returns-in-Edit-clause-idle : goal.returns-in-Edit-clause-idle
returns-in-Edit-clause-idle g c = λ none. absurd (asks_one c.args.request.now c.in-Edit.edit c.in-Edit.is none)

pub returns-in-Edit-clause-same_book : goal.returns-in-Edit-clause-same_book
returns-in-Edit-clause-same_book g c = λ total book told stands keeps.
    let K : Request → Type 0 = λ r. All (λ edit. KeepsBook book (apply book total edit)) (edit_asked r) in
    let is : c.args.request.now ≡ EditRequest c.in-Edit.edit = c.in-Edit.is in
    let kept : All (λ edit. KeepsBook book (apply book total edit)) (c.in-Edit.edit ∷ []) = subst K is keeps in
    c.edit.ensures.same_book total book told stands (All-head (λ edit. KeepsBook book (apply book total edit)) c.in-Edit.edit [] kept)

pub returns-in-Edit-clause-faults : goal.returns-in-Edit-clause-faults
returns-in-Edit-clause-faults g c =
    let store = c.args.self.now.store in
    let old = g.P.Pages.view (stored.pages store) in
    let new = g.P.Pages.view (stored.pages c.edit.new.self.store) in
    counts_step c.edit.result old new c.edit.ensures.steps.beside
    (step_risen c.edit.result (EditRequest c.in-Edit.edit) (g.P.Pages.told (stored.pages store))
    (stored.catalog store) c.args.self.now.sessions (stored.numbers store) old new c.edit.ensures.cause) c.edit.ensures.quiet
    c.edit.ensures.quiet_err

pub returns-in-Edit-clause-leaves : goal.returns-in-Edit-clause-leaves
returns-in-Edit-clause-leaves g c =
    let E : Request → Type 0 = λ r. OnOk c.edit.result (LeavesOpen r c.args.self.now.sessions c.edit.new.self.sessions) in
    subst E (sym c.in-Edit.is) (on_ok c.edit.result _ c.edit.ensures.sessions)

pub returns-in-Edit-clause-lasts : goal.returns-in-Edit-clause-lasts
returns-in-Edit-clause-lasts g c = lasts_edited c.edit.result
    (OfRows c.args.request.now) c.args.self.now.sessions c.edit.new.self.sessions c.edit.ensures.may c.edit.ensures.sessions
