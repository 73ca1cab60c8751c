use Rattle.std.proofs.Common.{◌≡◌, ◌≤◌, ◌⊎◌, ◌+◌, ◌-◌}
use Rattle.block_disk.specs.Counts.{HasGrown}
use Rattle.chart_world.specs.Feed.{pending_of, given_of}
use Rattle.chart_world.specs.Reading.{in_front_of, input_length}
use Rattle.chart_world.proofs.Gathering.{Partway}
use Rattle.chart_world.proofs.feed.Feed.gather.Given as goal

abbrev pub invariant-loop-self : goal.invariant-loop-self
invariant-loop-self g l =
    let streams = g.S.Streams in
    record {
      partway : Partway (in_front_of (pending_of l.fn.self) (streams.left l.fn.from)) l.length l.self.spill.items (pending_of l.self)
          (streams.left l.from);
      given : given_of l.self ≡ given_of l.fn.self + l.length;
      forward : l.fn.self.taken ≤ l.self.taken;
      limit : l.self.limit ≡ l.fn.self.limit;
      total : input_length l.self.taken (streams.left l.from) ≡ input_length l.fn.self.taken (streams.left l.fn.from);
      sent : streams.sent l.from ≡ streams.sent l.fn.from;
      send_faults : streams.send_faults l.from ≡ streams.send_faults l.fn.from;
      read_faults : streams.read_faults l.fn.from ≤ streams.read_faults l.from;
      quiet : streams.read_faults l.from ≡ streams.read_faults l.fn.from;
      pieces : streams.pieces l.fn.from ≤ streams.pieces l.from;
      took : ((l.length ≡ 0) × (pending_of l.self ≡ pending_of l.fn.self)) ⊎ HasGrown (streams.pieces l.fn.from) (streams.pieces l.from);
      beside : streams.takes l.fn.from l.from;
    }

abbrev pub decreases-loop-self : goal.decreases-loop-self
decreases-loop-self g l = l.fn.self.limit + 1048576 - l.self.taken
