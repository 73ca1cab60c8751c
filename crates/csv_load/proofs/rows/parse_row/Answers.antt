use Rattle.std.proofs.Common.{option_map, refl, sym, ap, ◌∙◌}
use Rattle.csv.specs.Records.{fields_of}
use Rattle.csv_load.specs.Fields.{trimmed}
use Rattle.csv_load.proofs.PlainLemmas.{plain_line}
use Rattle.csv_load.proofs.RowLemmas.{no_fields, no_pair, fields_are, says_in, refuses_in}
use Rattle.csv_load.proofs.rows.parse_row.Goals as goal

pub returns-in-Some-clause-row : goal.returns-in-Some-clause-row
returns-in-Some-clause-row c =
    let e = c.in-Some.ensures in
    says_in c.args.scale c.args.line.now (record { time = trimmed c.in-Some.time.now; value = trimmed c.in-Some.value.now })
    c.row_of_fields.result (plain_line c.args.line.now c.in-Some.time.now c.in-Some.value.now e.pair e.time e.value e.unmarked)
    c.row_of_fields.ensures.row

pub returns-in-Some-clause-error : goal.returns-in-Some-clause-error
returns-in-Some-clause-error c =
    let e = c.in-Some.ensures in
    refuses_in c.args.scale c.args.line.now (record { time = trimmed c.in-Some.time.now; value = trimmed c.in-Some.value.now })
    c.row_of_fields.result (plain_line c.args.line.now c.in-Some.time.now c.in-Some.value.now e.pair e.time e.value e.unmarked)
    c.row_of_fields.ensures.error

pub returns-in_default-2-clause-error : goal.returns-in_default-2-clause-error
returns-in_default-2-clause-error c =
    no_fields c.args.line.now (sym c.in_ok-record.ensures.ok ∙ ap (option_map fields_of) c.in_default-2.is)

pub returns-in_default-pair_of-clause-error : goal.returns-in_default-pair_of-clause-error
returns-in_default-pair_of-clause-error c =
    no_pair c.args.line.now (fields_of c.in-Some-2.record)
    (sym c.in_ok-record.ensures.ok ∙ ap (option_map fields_of) c.in-Some-2.is)
    (sym c.in_default-pair_of.ensures)

pub returns-clause-row : goal.returns-clause-row
returns-clause-row c =
    says_in c.args.scale c.args.line.now (record { time = trimmed c.in-Some-pair_of.time.now; value = trimmed c.in-Some-pair_of.value.now })
    c.row_of_fields-2.result
    (fields_are c.args.line.now (fields_of c.in-Some-2.record) c.in-Some-pair_of.time.now c.in-Some-pair_of.value.now
    (trimmed c.in-Some-pair_of.time.now) (trimmed c.in-Some-pair_of.value.now)
    (sym c.in_ok-record.ensures.ok ∙ ap (option_map fields_of) c.in-Some-2.is) c.in-Some-pair_of.ensures refl refl)
    c.row_of_fields-2.ensures.row

pub returns-clause-error : goal.returns-clause-error
returns-clause-error c =
    refuses_in c.args.scale c.args.line.now (record {
      time = trimmed c.in-Some-pair_of.time.now;
      value = trimmed c.in-Some-pair_of.value.now;
    }) c.row_of_fields-2.result
    (fields_are c.args.line.now (fields_of c.in-Some-2.record) c.in-Some-pair_of.time.now c.in-Some-pair_of.value.now
    (trimmed c.in-Some-pair_of.time.now) (trimmed c.in-Some-pair_of.value.now)
    (sym c.in_ok-record.ensures.ok ∙ ap (option_map fields_of) c.in-Some-2.is) c.in-Some-pair_of.ensures refl refl)
    c.row_of_fields-2.ensures.error
