use Rattle.std.proofs.Common.{ap, ◌∙◌, ◌≡◌, ◌*◌, replicate, false}
use Rattle.line_raster.proofs.CellLemmas.{blank}
use Rattle.line_raster.proofs.storage.Bitmap.new.Goals as goal

pub returns : goal.returns
returns c =
    let n : c.from.result * c.from-2.result ≡ c.args.width * c.args.height = λ t. c.from.ensures t * c.from-2.ensures t in
    blank c.args.width c.args.height c.in_ok-cells.cells.items (c.in_ok-cells.ensures.items_if_clones_equal (λ y e. e)
    ∙ ap (λ m. replicate m false) n)
