use Rattle.std.proofs.Common.{count_by, ap, ◌∙◌}
use Rattle.line_raster.proofs.CountLemmas.{black_pixels-stored}
use Rattle.line_raster.proofs.storage.Bitmap.black.Goals as goal

pub returns : goal.returns
returns c = c.black_cells.ensures ∙ ap (λ l. count_by (λ b. b) l) c.deref.ensures.value
    ∙ black_pixels-stored _ _ c.self.inside.cells.items c.args.self.now c.self.view_is c.self.invariant.cells
