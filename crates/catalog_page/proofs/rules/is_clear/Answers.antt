use Rattle.std.proofs.Common.{◌-◌, arith}
use Rattle.node_page.proofs.Deciding.{zero_in, zero_out}
use Rattle.catalog_page.proofs.rules.is_clear.Goals as goal

pub returns : goal.returns
returns c =
    let from = c.args.from in
    let n = c.args.to - from in (
      λ yes k low high. zero_in from n c.args.bytes.now (omega arith) (c.are_zero.ensures.0 yes) k low (omega (arith, high)),
      λ clear. c.are_zero.ensures.1 (zero_out from n c.args.bytes.now (omega arith) (λ k low high. clear k low (omega (arith, high)))),
    )
