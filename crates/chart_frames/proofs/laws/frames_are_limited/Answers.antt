use Rattle.chart_frames.proofs.Lengths.{spelled_limited, too_long}
use Rattle.chart_frames.proofs.laws.frames_are_limited.Goals as goal

pub returns-clause-most : goal.returns-clause-most
returns-clause-most c = λ f fits. spelled_limited f fits

pub returns-clause-longer : goal.returns-clause-longer
returns-clause-longer c = λ bytes there long. too_long bytes there long
