use Rattle.std.proofs.Common.{◌≡◌, ℕ, List, ◌++◌, take}
use Rattle.chart_frames.specs.Spelled.{coefs_before}
use Rattle.chart_frames.proofs.encoding.put_coefs.Given as goal

abbrev pub invariant-loop-pair : goal.invariant-loop-pair
invariant-loop-pair l = (tail : List ℕ) → l.out.items ++ tail ≡ l.fn.out.items ++ coefs_before (take l.pair-index l.coefs) tail
