use Rattle.chart_client.proofs.Answered.{accepted_only, rejected_once, key_numbered}
use Rattle.chart_client.proofs.laws.frames_have_one_answer.Goals as goal

pub returns-clause-accepted : goal.returns-clause-accepted
returns-clause-accepted c = λ frame drawing old new e accepts rejects. accepted_only frame drawing old new e accepts rejects

pub returns-clause-rejected : goal.returns-clause-rejected
returns-clause-rejected c = λ frame old d e one other. rejected_once frame old d e one other

pub returns-clause-numbered : goal.returns-clause-numbered
returns-clause-numbered c = λ frame old e rejects. key_numbered frame e old rejects
