use Rattle.std.proofs.Common.{◌≡◌, ◌-◌, length, ap, refl, arith}
use Rattle.chart_frames.proofs.ReportReads.{runs_started, runs_step, runs_failed, runs_fit, runs_on}
use Rattle.chart_frames.proofs.values_reading.fill_runs.Goals as goal

pub loop-k-init : goal.loop-k-init
loop-k-init c = record {
  count = omega (arith, ap length c.requires.empty);
  known = runs_started c.args.values c.args.count c.args.bytes.now _ c.args.runs.now.items c.requires.empty refl c.requires.few
      c.requires.none;
}

pub loop-k-preserved : goal.loop-k-preserved
loop-k-preserved c =
    let step = runs_step c.args.values c.args.count
    (c.args.count - c.loop-k.k - 1) c.args.bytes.now c.loop-k.room c.in-Ok.after c.loop-k.runs.items c.push_run.new.runs.items
    c.loop-k.rest.now c.in-Ok.tail.now
    (omega (arith, c.loop-k.invariant.count)) (omega (arith, c.loop-k.invariant.count)) c.in-Ok.ensures.ok c.loop-k.invariant.known in
    record { count = omega (arith, step.1, c.loop-k.invariant.count); known = step.0 }

pub returns-clause-fits : goal.returns-clause-fits
returns-clause-fits c =
    let whole : length c.loop-k.runs.items ≡ c.args.count = omega (arith, c.loop-k.invariant.count, c.loop-k.auto.k-end) in (
      runs_fit c.args.values c.args.count c.args.bytes.now c.loop-k.room c.loop-k.runs.items c.loop-k.rest.now whole
          c.loop-k.invariant.known,
      whole,
    )

pub returns-clause-takes : goal.returns-clause-takes
returns-clause-takes c = c.loop-k.invariant.known.begins

pub returns-clause-on : goal.returns-clause-on
returns-clause-on c =
    runs_on c.args.values c.args.count c.args.bytes.now c.loop-k.room c.loop-k.runs.items c.loop-k.rest.now
    (omega (arith, c.loop-k.invariant.count, c.loop-k.auto.k-end)) c.loop-k.invariant.known

pub returns-in-Err-clause-err : goal.returns-in-Err-clause-err
returns-in-Err-clause-err c =
    runs_failed c.in-Err.stop c.args.values c.args.count
    (c.args.count - c.loop-k.k - 1) c.args.bytes.now c.loop-k.room c.loop-k.runs.items c.loop-k.rest.now
    (omega (arith, c.loop-k.invariant.count)) (omega (arith, c.loop-k.invariant.count)) c.loop-k.invariant.known c.in-Err.ensures.err
