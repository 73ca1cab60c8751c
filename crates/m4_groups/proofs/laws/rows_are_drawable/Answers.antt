use Rattle.m4_groups.proofs.Drawable.{rows-drawable}
use Rattle.m4_groups.proofs.laws.rows_are_drawable.Goals as goal

pub returns-clause-rising : goal.returns-clause-rising
returns-clause-rising _ g points rows own = own.rising

pub returns-clause-drawable : goal.returns-clause-drawable
returns-clause-drawable _ = rows-drawable
