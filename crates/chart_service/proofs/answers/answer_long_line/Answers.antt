use Rattle.std.proofs.Common.{None, refl}
use Rattle.block_disk.specs.View.{sent_now}
use Rattle.series_book.specs.declared.refusals.Refusal.TheVariants.{LineTooLong}
use Rattle.zoom_session.specs.Sessions.{is_open}
use Rattle.chart_service.specs.Knowing.{KnowsOpen, EndsKnown}
use Rattle.chart_service.specs.Making.{FrameSent, FrameStops}
use Rattle.chart_service.specs.Shown as shown
use Rattle.chart_service.specs.Stepping.{state_of}
use Rattle.chart_service.proofs.Known.{known_next, ends_known, same_opens, refused_opens, refused_names}
use Rattle.chart_service.specs.Serving.{unless_empty}
use Rattle.chart_service.proofs.Naming.{answer_gives}
use Rattle.chart_service.proofs.Sending.{ok_so, error_so, answer_done, answer_stops, long_replied, long_after, reply_moments}
use Rattle.std.proofs.Common.{ℕ, List, Option}
use Rattle.chart_service.specs.LastShown.{OfRowsLine}
use Rattle.chart_service.proofs.Blaming.{answer_blames}
use Rattle.chart_service.proofs.LastLemmas.{lasts_refused}
use Rattle.chart_service.proofs.answers.answer_long_line.Goals as goal

pub returns-clause-done : goal.returns-clause-done
returns-clause-done g c = λ total book told stands.
    let pages = shown.pages c.args.service.now in
    let pages' = shown.pages c.send_reply.new.service in
    let own = c.args.service.now.sessions in
    let made = c.send_reply.ensures in
    let frame = c.refused.result in
    answer_done g.R.Reply.makes c.args.kept.now c.send_reply.new.kept c.send_reply.result None frame total (state_of book total own)
    (g.P.Pages.view pages).image (g.P.Pages.view pages').image own c.send_reply.new.service.sessions
    (g.P.Streams.sent pages) (g.P.Streams.sent pages) (g.P.Streams.sent pages') refl
    (long_after frame total book own (g.P.Pages.view pages).image
    (long_replied frame (state_of book total own) c.refused.ensures.frame c.refused.ensures.fits
    (c.is_sound.ensures.state total book c.requires told stands)) stands)
    made.keeps.disk.image made.sessions refl made.done

pub returns-clause-stops : goal.returns-clause-stops
returns-clause-stops g c = λ total book told stands.
    let pages = shown.pages c.args.service.now in
    let pages' = shown.pages c.send_reply.new.service in
    let own = c.args.service.now.sessions in
    let made = c.send_reply.ensures in
    let frame = c.refused.result in
    answer_stops g.R.Reply.makes c.args.kept.now c.send_reply.new.kept c.send_reply.result None frame (state_of book total own)
    (g.P.Pages.view pages).image (g.P.Pages.view pages').image own c.send_reply.new.service.sessions
    (g.P.Streams.sent pages) (g.P.Streams.sent pages) (g.P.Streams.sent pages') refl
    (long_after frame total book own (g.P.Pages.view pages).image
    (long_replied frame (state_of book total own) c.refused.ensures.frame c.refused.ensures.fits
    (c.is_sound.ensures.state total book c.requires told stands)) stands)
    made.keeps.disk.image made.sessions refl made.stops

pub returns-clause-moments : goal.returns-clause-moments
returns-clause-moments g c = λ total book told stands.
    let own = c.args.service.now.sessions in
    let frame = c.refused.result in
    let pages = shown.pages c.args.service.now in
    let new = shown.pages c.send_reply.new.service in
    let replied = long_replied frame (state_of book total own) c.refused.ensures.frame c.refused.ensures.fits
    (c.is_sound.ensures.state total book c.requires told stands) in
    reply_moments g.R.Reply.makes c.args.kept.now None frame (state_of book total own) (state_of book total own)
    (sent_now (g.P.Pages.view pages)) (g.P.Pages.view pages) (g.P.Pages.view new) refl replied
    (g.met.P.Pages.rests pages c.requires) stands refl c.send_reply.ensures.moments

pub returns-clause-known : goal.returns-clause-known
returns-clause-known g c = λ knows follows known.
    let frame = c.refused.result in
    let own = c.args.service.now.sessions in
    let pages = shown.pages c.args.service.now in
    let new = shown.pages c.send_reply.new.service in
    ok_so c.send_reply.result (FrameSent g.R.Reply.makes frame c.args.kept.now c.send_reply.new.kept (g.P.Streams.sent pages)
    (g.P.Streams.sent new)) (KnowsOpen knows c.send_reply.new.kept c.send_reply.new.service.sessions)
    (λ shows. known_next g.R.Reply.makes knows c.args.kept.now c.send_reply.new.kept frame own c.send_reply.new.service.sessions follows
    c.refused.ensures.fits known
    (same_opens own own c.send_reply.new.service.sessions frame (c.send_reply.ensures.sessions)
    (refused_opens frame LineTooLong c.refused.ensures.frame own)) shows.0 shows.1)
    c.send_reply.ensures.done

pub returns-clause-named : goal.returns-clause-named
returns-clause-named g c = λ knows follows known.
    let frame = c.refused.result in
    let pages = shown.pages c.args.service.now in
    let new = shown.pages c.send_reply.new.service in
    error_so c.send_reply.result (FrameStops g.R.Reply.makes frame c.args.kept.now c.send_reply.new.kept (g.P.Streams.sent pages)
    (g.P.Streams.sent new)) (EndsKnown g.R.Reply.makes knows)
    (λ end why. ends_known g.R.Reply.makes knows c.args.kept.now c.send_reply.new.kept frame (g.P.Streams.sent pages)
    (g.P.Streams.sent new) end c.refused.ensures.fits
    (refused_names frame LineTooLong c.refused.ensures.frame (knows c.args.kept.now)) why)
    c.send_reply.ensures.stops

pub returns-clause-gives : goal.returns-clause-gives
returns-clause-gives g c =
    let frame = c.refused.result in
    let own = c.args.service.now.sessions in
    let before = g.P.Streams.sent (shown.pages c.args.service.now) in
    let new = c.send_reply.new.service in
    answer_gives g.R.Reply.makes (unless_empty None) c.args.kept.now c.send_reply.new.kept c.send_reply.result frame own new.sessions before
    before (g.P.Streams.sent (shown.pages new)) c.refused.ensures.fits (
      c.refused.ensures.frame,
      tt,
    ) (refused_names frame LineTooLong c.refused.ensures.frame (λ n. is_open n own))
    (same_opens own own new.sessions frame c.send_reply.ensures.sessions (refused_opens frame LineTooLong c.refused.ensures.frame own)) refl
    c.send_reply.ensures.done c.send_reply.ensures.stops

pub returns-clause-blames : goal.returns-clause-blames
returns-clause-blames g c =
    let frame = c.refused.result in
    let own = c.args.service.now.sessions in
    let before = g.P.Streams.sent (shown.pages c.args.service.now) in
    let new = c.send_reply.new.service in
    let view = g.P.Pages.view (shown.pages new) in
    let none : Option (List ℕ) = None in
    answer_blames g.R.Reply.makes (unless_empty None) c.args.kept.now c.send_reply.new.kept c.send_reply.result frame own own new.sessions
    before before (g.P.Streams.sent (shown.pages new)) (g.P.Pages.told (shown.pages new)) view.size view.image c.refused.ensures.fits
    (c.refused.ensures.frame, tt) (refused_names frame LineTooLong c.refused.ensures.frame (λ n. is_open n own))
    (refused_opens frame LineTooLong c.refused.ensures.frame own)
    (lasts_refused (OfRowsLine none) frame LineTooLong own own c.refused.ensures.frame refl) c.send_reply.ensures.sessions refl
    c.send_reply.ensures.done c.send_reply.ensures.ends
