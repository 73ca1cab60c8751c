use Rattle.std.proofs.Common.{ℤ, [], ◌∷◌, ◌++◌, ap, ◌∙◌}
use Rattle.chart_frames.proofs.Meets.{round, value_small}
use Rattle.chart_frames.proofs.values_reading.push_value.Goals as goal

pub returns-in-Ok-push-clause-ok : goal.returns-in-Ok-push-clause-ok
returns-in-Ok-push-clause-ok c =
    let small = value_small c.in-Ok.value c.in-Ok.ensures.takes.0 in
    record {
      value = c.in-Ok.value;
      fits = c.in-Ok.ensures.takes.0;
      pushed = c.in-Ok-push.ensures.items ∙ ap (λ (z : ℤ). c.args.values.now.items ++ z ∷ []) (round c.in-Ok.value small);
      begins = c.in-Ok.ensures.takes.1;
      on = λ next. c.in-Ok.ensures.reads (λ v. next);
    }
