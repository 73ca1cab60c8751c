use Rattle.hosted_lines.specs.Shown.{pages}
use Rattle.hosted_lines.proofs.SendLemmas.{first_stops, later_error}
use Rattle.hosted_lines.proofs.sending.+send_frames.Goals as goal

pub returns-in-Ok-clause-stops : goal.returns-in-Ok-clause-stops
returns-in-Ok-clause-stops g t c =
    let sent = g.P.Streams.sent in
    later_error c.send_frames.result c.args.frames.now c.in-Some.later.now c.in-Some.frame.now (sent (pages c.args.live.now))
    (sent (pages c.send_frame.new.live)) (sent (pages c.send_frames.new.live)) c.in-Some.ensures.cases.0 c.in-Ok.ensures.whole
    c.send_frames.ensures.stops

pub returns-in-Err-clause-stops : goal.returns-in-Err-clause-stops
returns-in-Err-clause-stops g t c =
    let sent = g.P.Streams.sent in
    first_stops c.args.frames.now c.in-Some.later.now c.in-Some.frame.now (sent (pages c.args.live.now))
    (sent (pages c.send_frame.new.live)) c.in-Err.end c.in-Some.ensures.cases.0 c.in-Err.ensures.stops
