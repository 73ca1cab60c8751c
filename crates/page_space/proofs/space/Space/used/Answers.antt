-- The pages in use are counted.
use Rattle.std.proofs.Common.{◌∙◌}
use Rattle.page_space.proofs.Spacing.{stands_used}
use Rattle.page_space.proofs.space.Space.used.Goals as goal

pub returns-clause-counts : goal.returns-clause-counts
returns-clause-counts g c = λ count image taken freed stands. c.used.ensures
    ∙ stands_used count image c.args.self.now.superblock taken freed stands
