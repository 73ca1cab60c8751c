use Rattle.std.proofs.Common.{◌+◌, ◌*◌, refl}
use Rattle.line_raster.proofs.CellLemmas.{set_pixel}
use Rattle.line_raster.proofs.storage.Bitmap.blacken_one.Goals as goal

pub returns : goal.returns
returns c =
    set_pixel _ _ c.args.x c.args.y _ c.self.inside.cells.items _ c.args.self.now c.self.view_is c.self.invariant.cells refl
    c.requires.column c.requires.row
    (λ t. c.from.ensures t * c.from-2.ensures t + c.from-3.ensures t)
