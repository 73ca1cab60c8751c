use Rattle.series_export.proofs.AcceptLemmas.{accepted, room_needed, loads_back, goes_through}
use Rattle.series_export.proofs.laws.exports_load_where_there_is_room.Goals as goal

pub returns-clause-sets : goal.returns-clause-sets
returns-clause-sets c = accepted

pub returns-clause-needed : goal.returns-clause-needed
returns-clause-needed c = room_needed

pub returns-clause-back : goal.returns-clause-back
returns-clause-back c = loads_back (record {
  bytes = c.lines_are_plain.ensures.bytes;
  short = c.lines_are_plain.ensures.short;
  reading = c.lines_are_read_back.ensures.reading;
  one = c.one_answer.ensures.row;
  either = c.one_answer.ensures.either;
  fields = c.plain_lines.ensures.fields;
}) c.runs_are_one.ensures.some

pub returns-clause-through : goal.returns-clause-through
returns-clause-through c = goes_through (record {
  bytes = c.lines_are_plain.ensures.bytes;
  short = c.lines_are_plain.ensures.short;
  reading = c.lines_are_read_back.ensures.reading;
  one = c.one_answer.ensures.row;
  either = c.one_answer.ensures.either;
  fields = c.plain_lines.ensures.fields;
})
