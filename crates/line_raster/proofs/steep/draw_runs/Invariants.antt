use Rattle.line_raster.proofs.RunLemmas.{IsRunning}
use Rattle.line_raster.proofs.steep.draw_runs.Given as goal

-- the pixels of the first k columns are drawn, and the next run ends at end
abbrev pub invariant-loop-k : goal.invariant-loop-k
invariant-loop-k l = IsRunning l.p l.q l.k l.first l.end.rows l.end.error l.fn.bitmap l.bitmap
