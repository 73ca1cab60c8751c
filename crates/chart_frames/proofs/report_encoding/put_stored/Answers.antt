use Rattle.std.proofs.Common.{length, ap, arith}
use Rattle.chart_frames.specs.declared.limits.TheConstants.{MOST_SLOTS}
use Rattle.chart_frames.proofs.ReportNumbers.{runs_at_most}
use Rattle.chart_frames.proofs.report_encoding.put_stored.Goals as goal

pub overflow_cast-runs : goal.overflow_cast-runs
overflow_cast-runs c =
    let few = runs_at_most MOST_SLOTS (length c.args.v.now.values) c.args.v.now.runs c.requires.most c.requires.runs in
    omega (arith, few, c.requires.most, ap length c.as_slice.ensures)

pub put_both-requires-clause-runs : goal.put_both-requires-clause-runs
put_both-requires-clause-runs c =
    let few = runs_at_most MOST_SLOTS (length c.args.v.now.values) c.args.v.now.runs c.requires.most c.requires.runs in
    omega (arith, few, c.requires.most, ap length c.as_slice.ensures)
