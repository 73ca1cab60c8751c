use Rattle.m4_groups.specs.Points.{pixels}
use Rattle.m4_groups.specs.Heights.{row_heights}
use Rattle.m4_groups.proofs.Whole.{heights_folded, drawn_raster}
use Rattle.m4_groups.proofs.laws.drawn_rows_are_the_raster.Goals as goal

pub returns : goal.returns
returns _ g lo hi points rows order own =
    drawn_raster (pixels g lo hi points) (row_heights lo hi g.h rows) (heights_folded g lo hi points rows order own)
