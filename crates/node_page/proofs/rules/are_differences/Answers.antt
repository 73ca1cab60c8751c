use Rattle.std.proofs.Common.{◌*◌, inl, inr, arith}
use Rattle.std.proofs.lemmas.Bool.{cases_lt}
use Rattle.node_page.proofs.rules.are_differences.Goals as goal

pub loop-byte-preserved : goal.loop-byte-preserved
loop-byte-preserved c = record {
  so_far = λ n low few. elim (cases_lt n (4 * c.loop-byte.byte)) [
    | inl before ↦ c.loop-byte.invariant.so_far n before few
    | inr here ↦ c.are_four_in_range.ensures.range c.if-not-are_four_in_range.false n here (omega (arith, low)) few
  ];
}
