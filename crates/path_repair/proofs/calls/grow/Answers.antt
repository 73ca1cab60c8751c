use Rattle.std.proofs.Common.{◌+◌, ◌*◌, arith}
use Rattle.om3_coeff.specs.Keys.{page_levels}
use Rattle.path_repair.specs.Costs.{touch}
use Rattle.path_repair.proofs.MoveLemmas.{moved_more}
use Rattle.path_repair.proofs.TouchLemmas.{touch_growth}
use Rattle.path_repair.proofs.CallLemmas.{twice}
use Rattle.page_space.specs.Shown as shown
use Rattle.path_repair.proofs.calls.grow.Goals as goal

pub returns-clause-moved : goal.returns-clause-moved
returns-clause-moved g c =
    moved_more (touch 0 0 (page_levels c.args.tree.slots) (page_levels c.args.tree.slots) 0 + touch 0 0 (page_levels c.args.tree.slots)
    (page_levels c.args.slots) 0) (2 * touch 0 0 (page_levels c.args.tree.slots) (page_levels c.args.slots) 0)
    (touch 0 0 (page_levels c.args.tree.slots) (page_levels c.args.slots) 0)
    (touch 0 0 (page_levels c.args.tree.slots) (page_levels c.args.slots) 0) (shown.IsTold c.args.space.now)
    (shown.IsTold c.fill.new.space) (shown.view c.args.space.now) (shown.view c.fill.new.space) (shown.under c.args.space.now)
    (shown.under c.fill.new.space) (shown.numbers c.args.space.now) (shown.numbers c.fill.new.space) c.args.txn.now c.fill.new.txn
    (omega (arith, twice 0 0 c.args.tree.slots c.args.slots c.requires.longer)) (omega arith) c.fill.ensures.moved

pub returns-clause-few_puts : goal.returns-clause-few_puts
returns-clause-few_puts g c =
    omega (arith, c.fill.ensures.moved.held, touch_growth (page_levels c.args.tree.slots) (page_levels c.args.slots))
