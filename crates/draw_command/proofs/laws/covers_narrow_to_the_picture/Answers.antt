use Rattle.draw_command.proofs.CoverLaws.{narrow, hold}
use Rattle.draw_command.proofs.laws.covers_narrow_to_the_picture.Goals as goal

pub returns-clause-narrow : goal.returns-clause-narrow
returns-clause-narrow c = narrow c.later_covers_lie_within.ensures

pub returns-clause-hold : goal.returns-clause-hold
returns-clause-hold c = hold c.pictures_lie_within_covers.ensures
