use Rattle.chart_frames.proofs.Streams.{spelled_good}
use Rattle.chart_frames.proofs.laws.spellings_are_good.Goals as goal

pub returns : goal.returns
returns c = λ f x at fits broken. spelled_good f x at fits broken
