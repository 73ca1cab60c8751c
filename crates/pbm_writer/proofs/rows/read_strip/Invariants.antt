use Rattle.pbm_writer.specs.Strip.{IsColumn}
use Rattle.pbm_writer.proofs.rows.read_strip.Given as goal

-- the bytes of the rows below row y are read
abbrev pub invariant-loop-y : goal.invariant-loop-y
invariant-loop-y l = IsColumn l.bitmap l.k l.y l.fn.column l.column
