use Rattle.std.proofs.Common.{ap, ◌∙◌, ◌++◌, List, ℕ}
use Rattle.pbm_writer.specs.Picture.{head, rows_below}
use Rattle.pbm_writer.proofs.ShownLemmas.{picture_shows}
use Rattle.pbm_writer.proofs.writer.pbm.Goals as goal

pub returns-clause-shown : goal.returns-clause-shown
returns-clause-shown c =
    picture_shows c.args.bitmap.now _
    (c.in_ok-bytes.ensures
    ∙ ap (λ (l : List ℕ). l ++ rows_below c.args.bitmap.now c.args.bitmap.now.h)
    (c.as_bytes.ensures.value ∙ c.in_ok-head.ensures.ok ∙ (λ t. head (c.width-width.ensures.value t) (c.height-height.ensures.value t))))
