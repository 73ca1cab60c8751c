use Rattle.csv_load.proofs.PlainLemmas.{plain_fields, plain_fields_ended, marked_fields}
use Rattle.csv_load.proofs.laws.plain_lines.Goals as goal

pub returns-clause-fields : goal.returns-clause-fields
returns-clause-fields c = λ time value plain_time plain_value other. plain_fields time value plain_time plain_value other

pub returns-clause-carriage_return : goal.returns-clause-carriage_return
returns-clause-carriage_return c = λ time value plain_time plain_value other. plain_fields_ended time value plain_time plain_value other

pub returns-clause-mark : goal.returns-clause-mark
returns-clause-mark c = λ line other. marked_fields line other
