use Rattle.std.proofs.Common.{◌≡◌, []}
use Rattle.demo_workload.specs.Remaining.{remaining}
use Rattle.demo_workload.proofs.Rounds.{none_left}
use Rattle.demo_workload.proofs.plans.Plan.next.Goals as goal

pub returns-in-Append-clause-given : goal.returns-in-Append-clause-given
returns-in-Append-clause-given c =
    let none : remaining c.args.self.now ≡ [] =
    none_left c.args.self.now.stage c.args.self.now.round c.args.self.now.left c.args.self.now.walk c.in-Append.is c.if-self-eq0.true in
    (none, none)
