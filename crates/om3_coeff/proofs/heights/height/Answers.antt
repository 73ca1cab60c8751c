use Rattle.std.proofs.Common.{arith, ap, ◌^◌, ◌*◌}
use Rattle.om3_coeff.proofs.KeyLemmas.{height_covers}
use Rattle.om3_coeff.proofs.heights.height.Goals as goal

pub returns-clause-covers : goal.returns-clause-covers
returns-clause-covers c =
    omega (arith, height_covers c.args.slots c.requires, ap (λ k. 2 ^ (7 * k)) c.page_levels.ensures.levels)
