use Rattle.std.proofs.Common.{List, ap, ◌∙◌, arith}
use Rattle.om3_coeff.specs.declared.key.Key.{Key}
use Rattle.om3_coeff.specs.declared.coef.Coef.{Coef}
use Rattle.chart_frames.specs.Spelled.{coefs_before}
use Rattle.chart_frames.proofs.Items.{coefs_ended}
use Rattle.chart_frames.proofs.coefficients.fill_coefs.Goals as goal

pub returns-in-Err-clause-err : goal.returns-in-Err-clause-err
returns-in-Err-clause-err c = (
  c.loop.rest.now,
  ap (λ (xs : List (Key × Coef)). coefs_before xs c.loop.rest.now) c.in-Err.ensures.unchanged ∙ c.loop.invariant.same,
  coefs_ended c.in-Err.stop c.args.slots c.loop.coefs.items c.push_coef.new.coefs.items c.args.count c.loop.rest.now
      (omega arith) c.in-Err.ensures.unchanged c.in-Err.ensures.err,
)
