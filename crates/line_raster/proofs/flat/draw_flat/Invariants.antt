use Rattle.line_raster.proofs.FlatLemmas.{IsDrawnAcross}
use Rattle.line_raster.proofs.flat.draw_flat.Given as goal

-- the pixels of the first n columns are drawn, and the next is moved so far
abbrev pub invariant-loop-n : goal.invariant-loop-n
invariant-loop-n l = IsDrawnAcross l.p l.q l.n l.moved.rows l.moved.error l.fn.bitmap l.bitmap
