use Rattle.std.proofs.Common.{◌≡◌, ◌+◌, ◌-◌, ◌^◌, ◌≤◌, length, IsTrue, None}
use Rattle.chart_world.specs.Faults.{CountsFault}
use Rattle.chart_world.specs.Fronts.{StandsIn}
use Rattle.chart_world.specs.Reading.{unread, input_length}
use Rattle.live_service.specs.Shown as its
use Rattle.live_view.specs.Live as follows
use Rattle.live_command.proofs.ReadLemmas.{FarRead}
use Rattle.live_command.proofs.SyncLemmas.{FarSynced}
use Rattle.live_command.proofs.AnswerLemmas.{FarAnswered}
use Rattle.chart_service.specs.Shown as shown
use Rattle.live_command.proofs.RunLemmas.{Far, LastsOn}
use Rattle.hosted_lines.specs.Doing.{Goes, held_by, side_of}
use Rattle.hosted_lines.specs.Shown.{pages}
use Rattle.hosted_lines.specs.Answers.{watched}
use Rattle.live_command.proofs.serving.answer_lines.Given as goal

-- the lines given so far are answered, and all pushes behind them made
abbrev pub invariant-lines : goal.invariant-lines
invariant-lines g l =
    let left = g.P.Streams.left in
    let sent = g.P.Streams.sent in
    let first = l.initial.live in
    let live = l.live in
    record {
      usable : IsTrue l.lines.usable;
      counted : l.lines.taken ≡ l.lines.given + length l.lines.pending;
      within : l.lines.given ≤ 2 ^ 32;
      limited : l.lines.limit ≡ 2 ^ 32;
      whole : input_length l.lines.taken (left (pages live)) ≡ input_length 0 (left (pages first));
      stands_in : StandsIn (left (pages first)) l.lines (left (pages live));
      sound : (its.view live).fit;
      idle : follows.IsIdle live;
      goes : Goes (side_of g.P.Streams first) (side_of g.P.Streams live);
      faults : CountsFault None (its.view first) (its.view live);
      far : its.ForBook first (λ total book. Far (left (pages first)) (unread l.lines (left (pages live))) l.lines.given total
          (its.state first total book) (its.view live).image (held_by live) (sent (pages first)) (sent (pages live)));
      read : its.ForBook first (λ total book. FarRead (left (pages first)) (unread l.lines (left (pages live))) l.lines.given total
          (its.state first total book) (its.view live).image (held_by live) (its.view first).reads (its.view live).reads);
      synced : FarSynced (left (pages first)) (unread l.lines (left (pages live))) l.lines.given (its.view first).syncs
          (its.view live).syncs;
      answered : FarAnswered (left (pages first)) (unread l.lines (left (pages live))) l.lines.given (watched first) (watched live)
          (sent (pages first)) (sent (pages live));
      lasts : its.ForBook first (λ total book. LastsOn total (its.state first total book) (left (pages first)) (sent (pages first))
          (its.view first) (its.view live));
    }

abbrev pub decreases-lines : goal.decreases-lines
decreases-lines g l = 2 ^ 32 - l.lines.given
