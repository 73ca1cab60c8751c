use Rattle.std.proofs.Common.{◌≡◌, length, ap, ◌∙◌, arith}
use Rattle.demo_workload.proofs.Walking.{length_values}
use Rattle.demo_workload.proofs.requests.appends.Goals as goal

pub returns-clause-in_range : goal.returns-clause-in_range
returns-clause-in_range c =
    let many : length c.from_vec.result ≡ 256 =
    ap length (c.from_vec.ensures ∙ c.in_ok-values.ensures.values) ∙ length_values 256 c.args.walk.now in
    omega arith
