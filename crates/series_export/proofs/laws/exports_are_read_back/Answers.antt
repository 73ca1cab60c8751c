use Rattle.series_export.proofs.RowLemmas.{rows_are, some_rows, loaded_back}
use Rattle.series_export.proofs.laws.exports_are_read_back.Goals as goal

pub returns-clause-rows : goal.returns-clause-rows
returns-clause-rows c = rows_are (record {
  bytes = c.lines_are_plain.ensures.bytes;
  short = c.lines_are_plain.ensures.short;
  reading = c.lines_are_read_back.ensures.reading;
  one = c.one_answer.ensures.row;
  either = c.one_answer.ensures.either;
  fields = c.plain_lines.ensures.fields;
})

pub returns-clause-reads : goal.returns-clause-reads
returns-clause-reads c = some_rows (record {
  bytes = c.lines_are_plain.ensures.bytes;
  short = c.lines_are_plain.ensures.short;
  reading = c.lines_are_read_back.ensures.reading;
  one = c.one_answer.ensures.row;
  either = c.one_answer.ensures.either;
  fields = c.plain_lines.ensures.fields;
})

pub returns-clause-loaded : goal.returns-clause-loaded
returns-clause-loaded c = loaded_back (record {
  bytes = c.lines_are_plain.ensures.bytes;
  short = c.lines_are_plain.ensures.short;
  reading = c.lines_are_read_back.ensures.reading;
  one = c.one_answer.ensures.row;
  either = c.one_answer.ensures.either;
  fields = c.plain_lines.ensures.fields;
})
