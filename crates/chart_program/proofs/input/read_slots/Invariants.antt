use Rattle.std.proofs.Common.{◌≡◌, ◌+◌, ◌-◌, ◌^◌, ◌≤◌, length, vec_len, IsTrue, IfSome, All}
use Rattle.chart_world.specs.Fronts.{StandsIn}
use Rattle.chart_world.specs.Reading.{unread, input_length}
use Rattle.plain_chart.specs.Samples.{IsSlot}
use Rattle.chart_program.specs.Slots.{most_slots}
use Rattle.chart_program.proofs.Progress.{Progress}
use Rattle.chart_program.proofs.input.read_slots.Given as goal

-- the lines given so far spell the slots so far
abbrev pub invariant-lines : goal.invariant-lines
invariant-lines g l = record {
  usable : IsTrue l.lines.usable;
  counted : l.lines.taken ≡ l.lines.given + length l.lines.pending;
  within : l.lines.given ≤ 2 ^ 32;
  limited : l.lines.limit ≡ 2 ^ 32;
  total : input_length l.lines.taken (g.S.Streams.left l.from) ≡ input_length l.initial.lines.taken (g.S.Streams.left l.initial.from);
  stands_in : StandsIn (g.S.Streams.left l.initial.from) l.lines (g.S.Streams.left l.from);
  values : All IsSlot l.slots.items;
  few : vec_len l.slots ≤ most_slots;
  progress : IfSome (g.S.Streams.left l.initial.from)
      (λ input. Progress input (unread l.lines (g.S.Streams.left l.from)) l.lines.given l.slots.items);
  sent : g.S.Streams.sent l.from ≡ g.S.Streams.sent l.initial.from;
  send_faults : g.S.Streams.send_faults l.from ≡ g.S.Streams.send_faults l.initial.from;
  read_faults : g.S.Streams.read_faults l.from ≡ g.S.Streams.read_faults l.initial.from;
  beside : g.S.Streams.takes l.initial.from l.from;
}

abbrev pub decreases-lines : goal.decreases-lines
decreases-lines g l = 2 ^ 32 - l.lines.given
