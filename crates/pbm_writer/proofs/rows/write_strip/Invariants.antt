use Rattle.pbm_writer.specs.Strip.{IsStrip}
use Rattle.pbm_writer.proofs.rows.write_strip.Given as goal

-- byte k of the rows below row y is written
abbrev pub invariant-loop-y : goal.invariant-loop-y
invariant-loop-y l = IsStrip l.bitmap l.k l.y l.fn.rows l.rows
