use Rattle.std.proofs.Common.{rules, ◌≡◌, ◌∙◌, ◌∷◌, List, All, length, ap, sym, subst, arith}
use Rattle.std.proofs.lemmas.List.Elements.{All-tail}
use Rattle.chart_world.specs.FaultLaws.{counts_then}
use Rattle.chart_world.specs.Faults.{fault_in}
use Rattle.chart_frames.specs.declared.frame.Frame.{Frame}
use Rattle.chart_frames.specs.Frames.{Fits}
use Rattle.chart_service.specs.EditGroups.{IsEditReply}
use Rattle.chart_service.specs.Faulting.{answer_fault}
use Rattle.chart_service.specs.Knowing.{EndsKnown}
use Rattle.chart_service.specs.Making.{FramesCut, IsReplyEnd}
use Rattle.chart_service.specs.Shown as shown
use Rattle.chart_service.proofs.DiskKept.{risen_since}
use Rattle.chart_service.proofs.Ends.{error_is, on_err}
use Rattle.chart_service.proofs.Faulting.{count_stays, fault_goes}
use Rattle.chart_service.proofs.GroupReplies.{cut_first, cut_later, sent_later, moments_first, moments_told, moments_later}
use Rattle.chart_service.proofs.Known.{known_next, edit_opens, ends_known}
use Rattle.chart_service.proofs.Naming.{edit_known}
use Rattle.chart_service.proofs.PagesKept.{pages_then}
use Rattle.chart_service.proofs.Sending.{error_goes}
use Rattle.chart_service.proofs.answers.+send_replies.Goals as goal

pub returns-in_err-send_reply-in-Some : goal.returns-in_err-send_reply-in-Some
returns-in_err-send_reply-in-Some g t c =
    let pages = shown.pages c.args.service.now in
    let mid = shown.pages c.send_reply.new.service in
    let before = g.P.Streams.sent pages in
    let now = g.P.Streams.sent mid in
    let old = g.P.Pages.view pages in
    let new = g.P.Pages.view mid in
    let kept = c.args.kept.now in
    let kept' = c.send_reply.new.kept in
    let frames = c.args.frames.now in
    let frame = c.in-Some.frame.now in
    let later = c.in-Some.later.now in
    let is : frames ≡ frame ∷ later = c.in-Some.ensures.cases.0 in
    let A : List Frame → Type 0 = λ l. All Fits l in
    let E : List Frame → Type 0 = λ l. All IsEditReply l in
    let made = c.send_reply.ensures in
    let end = c.in_err-send_reply-in-Some.field-0.0 in
    let no = c.in_err-send_reply-in-Some.ensures in
    let result = c.from_residual.result in
    let residual = c.from_residual.ensures.1 in
    record {
      done = on_err result _ _ residual;
      stops = error_goes (FramesCut g.R.Reply.makes frames kept kept' before now) result end residual
          (cut_first g.R.Reply.makes kept kept' frame later frames before now end is no.stops);
      moments = moments_told g.R.Reply.makes kept frames old new before
          (moments_first g.R.Reply.makes kept frame later frames old new is made.moments);
      known = λ knows follows known. on_err result _ _ residual;
      named = λ knows follows known. error_goes (EndsKnown g.R.Reply.makes knows) result end residual
          (ends_known g.R.Reply.makes knows kept kept' frame before now end (subst A is c.requires.fits 0 frame (omega arith))
          (edit_known frame (knows kept) (subst E is c.requires.replies 0 frame (omega arith))) no.stops);
      ends = error_goes IsReplyEnd result end residual no.ends;
      send = λ fault. no.send (sym (error_is result end residual) ∙ fault);
      faults = fault_goes answer_fault result end old new residual no.faults;
      keeps = made.keeps;
      total = made.total;
      sessions = made.sessions;
      left = made.left;
      read_faults = made.read_faults;
      send_faults = made.send_faults;
      pieces = made.pieces;
    }

pub send_replies-requires : goal.send_replies-requires
send_replies-requires g t c κs within =
    let is : c.args.frames.now ≡ c.in-Some.frame.now ∷ c.in-Some.later.now = c.in-Some.ensures.cases.0 in
    let A : List Frame → Type 0 = λ l. All Fits l in
    let E : List Frame → Type 0 = λ l. All IsEditReply l in (
      omega (arith, ap length is),
      (
        search rules,
        (
          search rules,
          (
            search rules,
            (
              search rules,
              (
                All-tail Fits c.in-Some.frame.now c.in-Some.later.now (subst A is c.requires.fits),
                All-tail IsEditReply c.in-Some.frame.now c.in-Some.later.now (subst E is c.requires.replies),
              ),
            ),
          ),
        ),
      ),
    )

pub returns-in_ok-send_reply-in-Some : goal.returns-in_ok-send_reply-in-Some
returns-in_ok-send_reply-in-Some g t c =
    let view = g.P.Pages.view in
    let under = g.P.Pages.under in
    let told = g.P.Pages.told in
    let sent = g.P.Streams.sent in
    let pages = shown.pages c.args.service.now in
    let mid = shown.pages c.send_reply.new.service in
    let new = shown.pages c.send_replies.new.service in
    let kept = c.args.kept.now in
    let kept' = c.send_reply.new.kept in
    let last = c.send_replies.new.kept in
    let frames = c.args.frames.now in
    let frame = c.in-Some.frame.now in
    let later = c.in-Some.later.now in
    let is : frames ≡ frame ∷ later = c.in-Some.ensures.cases.0 in
    let own = c.args.service.now.sessions in
    let own' = c.send_reply.new.service.sessions in
    let A : List Frame → Type 0 = λ l. All Fits l in
    let E : List Frame → Type 0 = λ l. All IsEditReply l in
    let made = c.send_reply.ensures in
    let one = c.in_ok-send_reply-in-Some.ensures.done in
    let rest = c.send_replies.ensures in
    let result = c.send_replies.result in
    let fits = subst A is c.requires.fits 0 frame (omega arith) in
    let opens = edit_opens frame own own' (subst E is c.requires.replies 0 frame (omega arith)) made.sessions in
    record {
      done = sent_later g.R.Reply.makes kept kept' last result frame later frames one.0 (sent pages) (sent mid)
          (sent new) is one.1 one.2 rest.done;
      stops = cut_later g.R.Reply.makes kept kept' last result frame later frames one.0 (sent pages) (sent mid)
          (sent new) is one.1 one.2 rest.stops;
      moments = moments_later g.R.Reply.makes kept kept' frame later frames one.0 (view pages) (view mid) (view new) (sent pages) (sent mid)
          is one.1 one.2 (g.met.P.PageWorld.counts_sent pages) (g.met.P.PageWorld.counts_sent mid) made.moments rest.moments;
      known = λ knows follows known. rest.known knows follows
          (known_next g.R.Reply.makes knows kept kept' frame own own' follows fits known opens one.0 one.1);
      named = λ knows follows known. rest.named knows follows
          (known_next g.R.Reply.makes knows kept kept' frame own own' follows fits known opens one.0 one.1);
      ends = rest.ends;
      send = λ fault. risen_since (g.P.Streams.send_faults pages) (g.P.Streams.send_faults mid) (g.P.Streams.send_faults new)
          (count_stays view (λ counts. counts.send) g.P.Streams.send_faults g.met.P.PageWorld.beside_send_faults pages mid
          c.in_ok-send_reply-in-Some.ensures.faults) (rest.send fault);
      faults = counts_then (fault_in answer_fault result) (view pages) (view mid)
          (view new) c.in_ok-send_reply-in-Some.ensures.faults rest.faults;
      keeps = pages_then (told pages) (told mid) (told new) (view pages) (view mid) (view new) (under pages) (under mid)
          (under new) made.keeps rest.keeps;
      total = rest.total ∙ made.total;
      sessions = rest.sessions ∙ made.sessions;
      left = rest.left ∙ made.left;
      read_faults = rest.read_faults ∙ made.read_faults;
      send_faults = omega (arith, made.send_faults, rest.send_faults);
      pieces = rest.pieces ∙ made.pieces;
    }
