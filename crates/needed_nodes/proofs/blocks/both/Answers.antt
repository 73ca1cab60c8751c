use Rattle.std.proofs.Common.{rules}
use Rattle.needed_nodes.proofs.blocks.both.Goals as goal

pub returns : goal.returns
returns c = search rules
