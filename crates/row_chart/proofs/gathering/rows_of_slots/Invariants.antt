use Rattle.std.proofs.Common.{◌≡◌, take}
use Rattle.plain_chart.specs.Samples.{kept, sample_points}
use Rattle.m4_groups.specs.Gathered.{IsGathered}
use Rattle.row_chart.proofs.gathering.rows_of_slots.Given as goal

-- the samples of the slots so far are gathered
abbrev pub invariant-loop-slot : goal.invariant-loop-slot
invariant-loop-slot l = record {
  grid : l.groups.grid ≡ l.grid;
  gathered : IsGathered (sample_points (kept l.grid l.axis (take l.slot l.slots))) l.groups;
}
