use Rattle.std.proofs.Common.{arith}
use Rattle.std.proofs.lemmas.Bool.{eqb-true, eq-eqb}
use Rattle.node_page.proofs.byte_fields.are_zero.Goals as goal

pub returns : goal.returns
returns c =
    let loop = c.loop-byte in (
      λ none k low. omega (arith, eqb-true loop.greatest 0 none, loop.invariant.bound k (omega (arith, low, c.loop-byte-test.false))),
      λ all. eq-eqb loop.greatest 0 (loop.invariant.zero (λ k low. all k (omega (arith, low, loop.auto.byte-index-end)))),
    )
