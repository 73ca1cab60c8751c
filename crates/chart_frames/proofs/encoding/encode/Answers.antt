use Rattle.std.proofs.Common.{ℕ, List, [], ◌++◌, sym, ap, ◌∙◌}
use Rattle.std.proofs.lemmas.List.{append-nil}
use Rattle.chart_frames.specs.Frames.{spelling}
use Rattle.chart_frames.specs.Spelled.{frame_before}
use Rattle.chart_frames.proofs.Frames.{spelled}
use Rattle.chart_frames.proofs.encoding.encode.Goals as goal

pub returns-in-Ok : goal.returns-in-Ok
returns-in-Ok c =
    let f = c.args.frame.now in
    sym (append-nil c.put_frame.new.out.items) ∙ c.in-Ok.ensures [] ∙ ap (λ (p : List ℕ). p ++ frame_before f []) c.new-out.ensures.items
    ∙ sym (spelled f [] c.requires) ∙ append-nil (spelling f)
