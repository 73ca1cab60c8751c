use Rattle.std.proofs.Common.{arith}
use Rattle.needed_nodes.proofs.RankLaws.{rank_order}
use Rattle.needed_nodes.proofs.window.Window.place_of.Goals as goal

pub returns-then-ranks : goal.returns-then-ranks
returns-then-ranks c = λ key ranks. grind (arith, rank_order c.args.self.now key, ranks.first, ranks.last)
