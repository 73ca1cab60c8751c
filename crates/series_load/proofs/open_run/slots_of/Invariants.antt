use Rattle.std.proofs.Common.{◌≡◌, map, take, Some}
use Rattle.series_load.proofs.open_run.slots_of.Given as goal

abbrev pub invariant-loop-value : goal.invariant-loop-value
invariant-loop-value l = l.slots.items ≡ map Some (take l.value-index l.values)
