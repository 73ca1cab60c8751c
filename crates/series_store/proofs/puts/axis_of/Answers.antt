use Rattle.std.proofs.Common.{sym, arith}
use Rattle.series_store.proofs.puts.axis_of.Goals as goal

pub returns-clause-found : goal.returns-clause-found
returns-clause-found c =
    let fit = c.requires.fit c.in-Some.id c.series.result.now c.series.ensures in
    record {
      id = c.in-Some.id;
      one = c.series.result.now;
      named = sym c.in-Some.ensures.id;
      there = c.series.ensures;
      start = c.axis.ensures.start;
      step = c.axis.ensures.step;
      slots = c.axis.ensures.slots;
      few = omega (arith, c.axis.ensures.slots, fit.0);
      some = omega (arith, c.axis.ensures.step, fit.1);
    }
