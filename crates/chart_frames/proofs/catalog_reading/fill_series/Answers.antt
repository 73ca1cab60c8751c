use Rattle.std.proofs.Common.{length, ap, arith}
use Rattle.chart_frames.proofs.ReportReads.{series_started, series_step, series_failed}
use Rattle.chart_frames.proofs.catalog_reading.fill_series.Goals as goal

pub loop-init : goal.loop-init
loop-init c = record {
  count = omega (arith, ap length c.requires);
  known = series_started c.args.count c.args.bytes.now c.args.series.now.items c.requires;
}

pub loop-preserved : goal.loop-preserved
loop-preserved c =
    let step = series_step c.args.count c.args.bytes.now c.loop.series.items c.push_listed.new.series.items c.loop.rest.now
    c.in-Ok.after.now (omega (arith, c.loop.invariant.count)) c.in-Ok.ensures.ok c.loop.invariant.known in
    record { count = omega (arith, step.1, c.loop.invariant.count); known = step.0 }

pub returns-clause-ok : goal.returns-clause-ok
returns-clause-ok c = (
  omega (arith, c.loop.invariant.count, c.loop.auto.counter-end),
  c.loop.invariant.known.fits,
  c.loop.invariant.known.begins,
)

pub returns-in-Err-clause-err : goal.returns-in-Err-clause-err
returns-in-Err-clause-err c =
    series_failed c.in-Err.stop c.args.count c.args.bytes.now c.loop.series.items c.loop.rest.now
    (omega (arith, c.loop.invariant.count)) c.loop.invariant.known c.in-Err.ensures.err
