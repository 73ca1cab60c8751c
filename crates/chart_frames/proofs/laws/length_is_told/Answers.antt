use Rattle.chart_frames.proofs.Streams.{spelled_length}
use Rattle.chart_frames.proofs.laws.length_is_told.Goals as goal

pub returns : goal.returns
returns c = λ f x fits. spelled_length f x fits
