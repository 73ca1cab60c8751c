use Rattle.std.proofs.Common.{◌≡◌, length}
use Rattle.draw_command.specs.Alone.{StaysAlone}
use Rattle.draw_command.specs.Draws.{DrawsMore}
use Rattle.draw_command.proofs.drawing.draw_frames.Given as goal

-- the frames given so far are drawn
abbrev pub invariant-frames : goal.invariant-frames
invariant-frames g l = record {
  drawn : DrawsMore l.every l.initial.decoder l.decoder l.initial.client l.client (g.S.Streams.sent l.initial.streams)
      (g.S.Streams.sent l.streams);
  send_faults : g.S.Streams.send_faults l.streams ≡ g.S.Streams.send_faults l.initial.streams;
  left : g.S.Streams.left l.streams ≡ g.S.Streams.left l.initial.streams;
  read_faults : g.S.Streams.read_faults l.streams ≡ g.S.Streams.read_faults l.initial.streams;
  disk : StaysAlone (g.S.Disk.view l.initial.streams) (g.S.Disk.view l.streams);
}

abbrev pub decreases-frames : goal.decreases-frames
decreases-frames g l = length l.decoder.rest
