use Rattle.csv_load.proofs.OneRow.{one_row, row_or_fault, one_fault}
use Rattle.csv_load.proofs.laws.one_answer.Goals as goal

pub returns-clause-row : goal.returns-clause-row
returns-clause-row c = λ scale line row other one two. one_row scale line row other one two

pub returns-clause-either : goal.returns-clause-either
returns-clause-either c = λ scale line row why says fails. row_or_fault scale line row why says fails

pub returns-clause-cause : goal.returns-clause-cause
returns-clause-cause c = λ scale line why other one two. one_fault scale line why other one two
