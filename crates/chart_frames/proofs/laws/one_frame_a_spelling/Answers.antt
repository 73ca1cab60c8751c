use Rattle.chart_frames.proofs.Frames.{same_frame}
use Rattle.chart_frames.proofs.laws.one_frame_a_spelling.Goals as goal

pub returns : goal.returns
returns c = λ f g x y p q e. same_frame f g x y p q e
