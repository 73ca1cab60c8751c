use Rattle.std.proofs.Common.{rules}
use Rattle.filter_scan.proofs.table.both.Goals as goal

pub returns : goal.returns
returns c = search rules
