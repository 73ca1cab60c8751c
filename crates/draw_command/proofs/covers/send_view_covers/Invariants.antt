use Rattle.std.proofs.Common.{◌≡◌, ◌-◌, length}
use Rattle.draw_command.specs.Alone.{StaysAlone}
use Rattle.draw_command.proofs.CoverLemmas.{CoversSoFar}
use Rattle.draw_command.proofs.covers.send_view_covers.Given as goal

-- the covers before the next one that is due were sent
abbrev pub invariant-covers : goal.invariant-covers
invariant-covers g l = record {
  view : l.progress.view ≡ l.view;
  holdings : l.progress.holdings ≡ l.client;
  sent : CoversSoFar l.every l.view l.client l.progress.taken (g.S.Streams.sent l.initial.streams) (g.S.Streams.sent l.streams);
  send_faults : g.S.Streams.send_faults l.streams ≡ g.S.Streams.send_faults l.initial.streams;
  left : g.S.Streams.left l.streams ≡ g.S.Streams.left l.initial.streams;
  read_faults : g.S.Streams.read_faults l.streams ≡ g.S.Streams.read_faults l.initial.streams;
  disk : StaysAlone (g.S.Disk.view l.initial.streams) (g.S.Disk.view l.streams);
}

abbrev pub decreases-covers : goal.decreases-covers
decreases-covers g l = length l.view.coefs - l.progress.taken
