use Rattle.line_raster.proofs.CellLemmas.{read_pixel}
use Rattle.line_raster.proofs.storage.Bitmap.get.Goals as goal

pub returns-clause-inside : goal.returns-clause-inside
returns-clause-inside c = λ column row.
    read_pixel _ _ c.args.x c.args.y _ _ _ c.self.inside.cells.items c.args.self.now _ c.self.view_is c.self.invariant.cells column row
    c.from.ensures c.from-2.ensures c.from-3.ensures c.index.ensures
