use Rattle.std.proofs.Common.{sym, ◌∙◌}
use Rattle.csv.specs.Records.{fields_of}
use Rattle.csv_load.proofs.RecordLemmas.{first_there, second_there, pair_is}
use Rattle.csv_load.proofs.fields.pair_of.Goals as goal

pub returns-in_err-time : goal.returns-in_err-time
returns-in_err-time c = absurd (first_there (fields_of c.args.row.now) (sym c.len.ensures ∙ c.if-len-ne2.false) c.in_err-time.ensures.value)

pub returns-in_err-value : goal.returns-in_err-value
returns-in_err-value c = absurd (second_there (fields_of c.args.row.now) (sym c.len.ensures
    ∙ c.if-len-ne2.false) c.in_err-value.ensures.value)

pub returns : goal.returns
returns c =
    pair_is (fields_of c.args.row.now) c.in_ok-time.time.now c.in_ok-value.value.now (sym c.len.ensures ∙ c.if-len-ne2.false)
    c.in_ok-time.ensures.value c.in_ok-value.ensures.value
