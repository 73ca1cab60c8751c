use Rattle.std.proofs.Common.{◌≡◌, ◌+◌, ◌-◌, max, ap, arith}
use Rattle.om3_coeff.specs.Keys.{page_levels}
use Rattle.path_repair.specs.Costs.{touch}
use Rattle.series_store.proofs.RoomLemmas.{range_few}
use Rattle.series_store.proofs.puts.range_puts.Goals as goal

pub returns-clause-puts : goal.returns-clause-puts
returns-clause-puts c = λ tree is.
    let end = c.args.first + c.args.count in
    let last : end - 1 + 1 ≡ end = omega (arith, c.requires.some) in
    omega (
      arith,
      range_few tree c.args.first c.args.count c.args.slots is c.requires.short,
      ap (λ e. touch c.args.first e (page_levels c.args.slots) (page_levels (max c.args.slots e)) 0) last,
      ap (λ n. touch c.args.first end (page_levels n) (page_levels (max n end)) 0) is,
    )
