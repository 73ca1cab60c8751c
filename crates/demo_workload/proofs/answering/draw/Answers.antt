use Rattle.chart_client.specs.declared.errors.ClientError.TheVariants as client
use Rattle.chart_client.specs.Accepting.{Rejects}
use Rattle.demo_workload.proofs.answering.draw.Goals as goal

pub unreachable-requires : goal.unreachable-requires
unreachable-requires c =
    let rejected : Rejects c.args.frame.now (client.UnknownSession c.in-Err-UnknownSession.field-0-0) c.args.client.now =
    rw c.in-Err-UnknownSession.field-0-is at c.in-Err-UnknownSession.ensures.rejected in
    c.requires.named c.in-Err-UnknownSession.field-0-0 rejected.0 rejected.1

pub number-requires : goal.number-requires
number-requires c =
    let rejected : Rejects c.args.frame.now (client.Missing c.in-Err-Missing.key) c.args.client.now = rw c.in-Err-Missing.field-0-is at
    c.in-Err-Missing.ensures.rejected in
    c.frames_have_one_answer.ensures.numbered c.args.frame.now c.args.client.now (client.Missing c.in-Err-Missing.key) rejected

pub returns-in-Err-Missing-clause-rejected : goal.returns-in-Err-Missing-clause-rejected
returns-in-Err-Missing-clause-rejected c =
    let rejected : Rejects c.args.frame.now (client.Missing c.in-Err-Missing.key) c.args.client.now = rw c.in-Err-Missing.field-0-is at
    c.in-Err-Missing.ensures.rejected in
    (c.in-Err-Missing.key, c.number.ensures, rejected)

pub number-requires-in-Err-BadCoefficient : goal.number-requires-in-Err-BadCoefficient
number-requires-in-Err-BadCoefficient c =
    let rejected : Rejects c.args.frame.now (client.BadCoefficient c.in-Err-BadCoefficient.key)
    c.args.client.now = rw c.in-Err-BadCoefficient.field-0-is at c.in-Err-BadCoefficient.ensures.rejected in
    c.frames_have_one_answer.ensures.numbered c.args.frame.now c.args.client.now
    (client.BadCoefficient c.in-Err-BadCoefficient.key) rejected

pub returns-in-Err-BadCoefficient-clause-rejected : goal.returns-in-Err-BadCoefficient-clause-rejected
returns-in-Err-BadCoefficient-clause-rejected c =
    let rejected : Rejects c.args.frame.now (client.BadCoefficient c.in-Err-BadCoefficient.key)
    c.args.client.now = rw c.in-Err-BadCoefficient.field-0-is at c.in-Err-BadCoefficient.ensures.rejected in
    (c.in-Err-BadCoefficient.key, c.number-in-Err-BadCoefficient.ensures, rejected)
