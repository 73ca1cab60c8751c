use Rattle.std.proofs.Common.{◌≤◌, length, arith}
use Rattle.chart_frames.specs.Format.{number_in}
use Rattle.chart_frames.proofs.Numbers.{number_taken}
use Rattle.chart_frames.proofs.fields.byte_at.Goals as goal

pub returns-clause-takes : goal.returns-clause-takes
unfolding number_in
returns-clause-takes c = let long : 1 ≤ length c.args.bytes.now = grind arith in
    number_taken 1 _ _ (λ i. omega (arith, c.type_inv.bytes i)) long (omega arith)
