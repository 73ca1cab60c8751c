use Rattle.std.proofs.Common.{◌≡◌, ◌-◌, sym, ap, ◌∙◌, arith}
use Rattle.chart_frames.specs.declared.item_stop.ItemStop.TheVariants as stops
use Rattle.chart_frames.specs.declared.values_reading.Room.{Room}
use Rattle.chart_frames.specs.Reading.{read}
use Rattle.chart_frames.specs.ReportParts.{runs_in}
use Rattle.chart_frames.proofs.ReportReads.{run_on, run_failed}
use Rattle.chart_frames.proofs.values_reading.push_run.Goals as goal

pub returns-in-Ok-push-clause-ok : goal.returns-in-Ok-push-clause-ok
returns-in-Ok-push-clause-ok c =
    let left_is : c.room_behind.result.left ≡ c.args.room.left - c.in-Ok.run'.count = ap (λ (r : Room). r.left) c.room_behind.ensures in
    record {
      run = c.in-Ok.run';
      fits = c.in-Ok.ensures.fits;
      all_taken = λ e. omega (arith, c.in-Ok.ensures.all e, left_is);
      pushed = c.in-Ok-push.ensures.items;
      behind_is = c.room_behind.ensures;
      begins = c.in-Ok.ensures.takes;
      on = λ next. run_on c.args.room c.args.behind next c.in-Ok.run' c.args.bytes.now c.in-Ok.rest.now c.in-Ok.ensures.reads
          ∙ ap (λ (r : Room). read (runs_in r c.args.behind next) c.in-Ok.rest.now) (sym c.room_behind.ensures);
    }

pub returns-in-Err-clause-err : goal.returns-in-Err-clause-err
returns-in-Err-clause-err c = λ next. run_failed (stops.Stop c.in-Err.stop) c.args.room c.args.behind next c.args.bytes.now
    c.in-Err.ensures.reads
