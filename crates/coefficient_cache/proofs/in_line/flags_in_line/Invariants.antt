use Rattle.coefficient_cache.proofs.InLine.{AreSoFar}
use Rattle.coefficient_cache.proofs.in_line.flags_in_line.Given as goal

-- the needed pairs so far stand in line or are new
abbrev pub invariant-loop-key : goal.invariant-loop-key
invariant-loop-key l = AreSoFar l.puts l.numbers.entries l.start l.series l.needed l.is_new.items l.key-index l.place
