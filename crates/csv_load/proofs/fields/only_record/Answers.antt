use Rattle.std.proofs.Common.{◌≡◌, Option, Some, List, ℕ, Bor, sym, rules}
use Rattle.csv.specs.Reading.{Ready, default_config, reader_config, reader_state, reader_trim, strip_bom}
use Rattle.csv.specs.Records.{fields_of}
use Rattle.csv.specs.declared.reader.Trim.TheVariants as trim
use Rattle.csv.specs.declared.parser.State.TheVariants as st
use Rattle.csv_load.proofs.RecordLemmas.{Starts, none_by, one_by, two_by}
use Rattle.csv_load.proofs.fields.only_record.Goals as goal

-- what a slice has left to read
abbrev left : Bor (List ℕ) → Option (List ℕ)
left bytes = Some bytes.now

pub returns-then-not-has_first-clause-ok : goal.returns-then-not-has_first-clause-ok
returns-then-not-has_first-clause-ok c =
    let config : reader_config c.from_reader-reader.result ≡ default_config = search rules in
    let state : reader_state c.from_reader-reader.result ≡ st.StartRecord = search rules in
    let untrimmed : reader_trim c.from_reader-reader.result ≡ trim.None = search rules in
    let ready : Ready c.from_reader-reader.result = search rules in
    let starts : Starts left c.from_reader-reader.result (strip_bom c.args.line.now) =
    record { config = config; state = state; source = c.from_reader-reader.ensures.source } in
    sym (none_by left c.from_reader-reader.result c.read_byte_record.new.self (strip_bom c.args.line.now) c.in-Ok.has_first
    (fields_of c.read_byte_record.new.row)
    starts c.if-not-has_first.true (c.in-Ok.ensures.reads untrimmed ready))

pub returns-then-has_second-clause-ok : goal.returns-then-has_second-clause-ok
returns-then-has_second-clause-ok c =
    let config : reader_config c.from_reader-reader.result ≡ default_config = search rules in
    let state : reader_state c.from_reader-reader.result ≡ st.StartRecord = search rules in
    let untrimmed : reader_trim c.from_reader-reader.result ≡ trim.None = search rules in
    let ready : Ready c.from_reader-reader.result = search rules in
    let starts : Starts left c.from_reader-reader.result (strip_bom c.args.line.now) =
    record { config = config; state = state; source = c.from_reader-reader.ensures.source } in
    let still_untrimmed : reader_trim c.read_byte_record.new.self ≡ trim.None = search rules in
    let still_ready : Ready c.read_byte_record.new.self = search rules in
    sym (two_by left c.from_reader-reader.result c.read_byte_record.new.self c.read_byte_record-2.new.self (strip_bom c.args.line.now)
    c.in-Ok.has_first c.in-Ok-read_byte_record.has_second (fields_of c.read_byte_record.new.row)
    (fields_of c.read_byte_record-2.new.row) starts
    c.if-not-has_first.false (c.in-Ok.ensures.reads untrimmed ready)
    c.if-has_second.true (c.in-Ok-read_byte_record.ensures.reads still_untrimmed still_ready))

pub returns-clause-ok : goal.returns-clause-ok
returns-clause-ok c =
    let config : reader_config c.from_reader-reader.result ≡ default_config = search rules in
    let state : reader_state c.from_reader-reader.result ≡ st.StartRecord = search rules in
    let untrimmed : reader_trim c.from_reader-reader.result ≡ trim.None = search rules in
    let ready : Ready c.from_reader-reader.result = search rules in
    let starts : Starts left c.from_reader-reader.result (strip_bom c.args.line.now) =
    record { config = config; state = state; source = c.from_reader-reader.ensures.source } in
    let still_untrimmed : reader_trim c.read_byte_record.new.self ≡ trim.None = search rules in
    let still_ready : Ready c.read_byte_record.new.self = search rules in
    sym (one_by left c.from_reader-reader.result c.read_byte_record.new.self c.read_byte_record-2.new.self (strip_bom c.args.line.now)
    c.in-Ok.has_first c.in-Ok-read_byte_record.has_second (fields_of c.read_byte_record.new.row)
    (fields_of c.read_byte_record-2.new.row) starts
    c.if-not-has_first.false (c.in-Ok.ensures.reads untrimmed ready)
    c.if-has_second.false (c.in-Ok-read_byte_record.ensures.reads still_untrimmed still_ready))
