use Rattle.std.proofs.Common.{◌≡◌, ◌+◌, ◌*◌, ◌≤◌, unsigned_abs}
use Rattle.demo_workload.specs.Draws.{walked, values}
use Rattle.demo_workload.proofs.draws.Walk.values.Given as goal

abbrev pub invariant-loop-drawn : goal.invariant-loop-drawn
invariant-loop-drawn l = record {
  values : l.values.items ≡ values l.drawn l.fn.self;
  walk : l.self ≡ walked l.drawn l.fn.self;
  near : unsigned_abs l.self.value ≤ unsigned_abs l.fn.self.value + 100 * l.drawn;
}
