use Rattle.std.proofs.Common.{◌≡◌, ◌+◌, ◌-◌, ◌^◌, ◌≤◌, length}
use Rattle.draw_command.specs.Alone.{StaysAlone}
use Rattle.chart_frames.specs.Stream.{IsPartial}
use Rattle.draw_command.proofs.DrawnFrames.{DrawnOf}
use Rattle.draw_command.proofs.drawing.draw_pieces.Given as goal

-- the frames that end among the bytes taken are drawn
abbrev pub invariant-pieces : goal.invariant-pieces
invariant-pieces g l = record {
  sized : length l.buffer ≡ 16384;
  within : l.taken ≤ 2 ^ 32;
  counted : l.taken ≡ l.decoder.given + length l.decoder.rest;
  unended : IsPartial l.decoder;
  drawn : DrawnOf l.every (g.S.Streams.left l.initial.streams) (g.S.Streams.left l.streams) l.decoder l.client
      (g.S.Streams.sent l.initial.streams) (g.S.Streams.sent l.streams);
  read_faults : g.S.Streams.read_faults l.streams ≡ g.S.Streams.read_faults l.initial.streams;
  send_faults : g.S.Streams.send_faults l.streams ≡ g.S.Streams.send_faults l.initial.streams;
  disk : StaysAlone (g.S.Disk.view l.initial.streams) (g.S.Disk.view l.streams);
}

abbrev pub decreases-pieces : goal.decreases-pieces
decreases-pieces g l = 2 ^ 32 - l.taken
