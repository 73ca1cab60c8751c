use Rattle.std.proofs.Common.{◌+◌, max, ap, arith}
use Rattle.om3_coeff.specs.Keys.{page_levels}
use Rattle.path_repair.proofs.EditLemmas.{levels_few}
use Rattle.path_repair.proofs.TouchLemmas.{touch_five}
use Rattle.series_store.proofs.puts.tree_puts.Goals as goal

pub returns : goal.returns
returns c =
    let levels = page_levels (max c.args.slots (c.args.last + 1)) in
    omega (
      arith,
      touch_five c.args.first c.args.last (page_levels c.args.slots) levels (levels_few _),
      ap (λ n. page_levels n) c.max.ensures,
    )
