use Rattle.line_raster.proofs.EndLemmas.{on_first, on_last}
use Rattle.line_raster.proofs.ideal.ends.Goals as goal

pub returns-clause-first : goal.returns-clause-first
returns-clause-first c = on_first c.args.p c.args.q

pub returns-clause-last : goal.returns-clause-last
returns-clause-last c = on_last c.args.p c.args.q c.requires
