use Rattle.reading_lines.proofs.ReadBack.{row_bytes, short_line}
use Rattle.reading_lines.proofs.laws.lines_are_plain.Goals as goal

pub returns-clause-bytes : goal.returns-clause-bytes
returns-clause-bytes c = λ scale time value small_time small_value. row_bytes scale time value small_time small_value

pub returns-clause-short : goal.returns-clause-short
returns-clause-short c = λ scale time value few small_time small_value. short_line scale time value few small_time small_value
