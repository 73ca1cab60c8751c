use Rattle.demo_workload.proofs.Rounds.{append_given}
use Rattle.demo_workload.proofs.plans.Plan.append.Goals as goal

pub returns-clause-given : goal.returns-clause-given
returns-clause-given c =
    append_given c.args.self.now.stage c.args.self.now.round c.args.self.now.left c.args.self.now.walk c.appends.new.walk
    c.in_ok-request.request _ c.requires.stage
    c.requires.some c.in_ok-request.ensures.request c.in_ok-request.ensures.walk c.behind_append.ensures.remaining
