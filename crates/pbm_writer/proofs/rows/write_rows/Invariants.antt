use Rattle.std.specs.Prelude.{◌≡◌, length}
use Rattle.pbm_writer.proofs.StripLemmas.{HasStrips}
use Rattle.pbm_writer.proofs.rows.write_rows.Given as goal

-- bytes 0 to k - 1 of each row are written
abbrev pub invariant-loop-k : goal.invariant-loop-k
invariant-loop-k l = HasStrips l.bitmap l.k l.rows × (length l.column ≡ 4096)
