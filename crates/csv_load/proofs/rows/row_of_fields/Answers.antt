use Rattle.std.proofs.Common.{List, ℕ, subst}
use Rattle.csv_load.specs.Fields.{trimmed}
use Rattle.csv_load.specs.Rows.{FieldsFail}
use Rattle.csv_load.proofs.rows.row_of_fields.Goals as goal

pub returns-in-Err-clause-error : goal.returns-in-Err-clause-error
returns-in-Err-clause-error c =
    let T : List ℕ → Type 0 = λ t. FieldsFail c.args.scale (record { time = t; value = c.trimmed-2.result.now }) c.in-Err.cause in
    let V : List ℕ → Type 0 = λ v. FieldsFail c.args.scale (record { time = trimmed c.args.time.now; value = v }) c.in-Err.cause in
    subst V c.trimmed-2.ensures (subst T c.trimmed.ensures c.in-Err.ensures.cause)
