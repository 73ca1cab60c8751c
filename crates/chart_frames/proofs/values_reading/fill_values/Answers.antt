use Rattle.std.proofs.Common.{length, ap, arith}
use Rattle.chart_frames.proofs.ReportReads.{values_started, values_step, values_failed}
use Rattle.chart_frames.proofs.values_reading.fill_values.Goals as goal

pub loop-init : goal.loop-init
loop-init c = record {
  count = omega (arith, ap length c.requires);
  known = values_started c.args.count c.args.bytes.now c.args.values.now.items c.requires;
}

pub loop-preserved : goal.loop-preserved
loop-preserved c =
    let step = values_step c.args.count c.args.bytes.now c.loop.values.items c.push_value.new.values.items c.loop.rest.now c.in-Ok.after.now
    (omega (arith, c.loop.invariant.count)) c.in-Ok.ensures.ok c.loop.invariant.known in
    record { count = omega (arith, step.1, c.loop.invariant.count); known = step.0 }

pub returns-clause-ok : goal.returns-clause-ok
returns-clause-ok c = (
  omega (arith, c.loop.invariant.count, c.loop.auto.counter-end),
  c.loop.invariant.known.fits,
  c.loop.invariant.known.begins,
)

pub returns-in-Err-clause-err : goal.returns-in-Err-clause-err
returns-in-Err-clause-err c =
    values_failed c.in-Err.stop c.args.count c.args.bytes.now c.loop.values.items c.loop.rest.now
    (omega (arith, c.loop.invariant.count)) c.loop.invariant.known c.in-Err.ensures.err
