use Rattle.chart_frames.proofs.FormatLaws.{breaks_stay}
use Rattle.chart_frames.proofs.Streams.{one_break}
use Rattle.chart_frames.specs.Fields.{frame_fields}
use Rattle.chart_frames.proofs.laws.more_bytes_mend_nothing.Goals as goal

pub returns-clause-stays : goal.returns-clause-stays
returns-clause-stays c = λ bytes more at b. breaks_stay frame_fields bytes more at b

pub returns-clause-first : goal.returns-clause-first
returns-clause-first c = λ bytes more at other b d. one_break bytes more at other b d
