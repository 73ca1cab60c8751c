use Rattle.std.proofs.Common.{◌∙◌}
use Rattle.series_store.proofs.AskLemmas.{start_same}
use Rattle.series_pair.proofs.ChartLemmas.{axis_same, first_slots}
use Rattle.series_pair.proofs.drawing.first_axis.Goals as goal

pub returns-clause-axis : goal.returns-clause-axis
returns-clause-axis g c = λ total book series told stands at.
    let old = c.args.pair.now in
    let info = c.info-info.ensures.info total book series c.requires.ready.0 told stands at in
    axis_same _ series (start_same c.info-info.result.start c.info-info.ensures.start ∙ info.start) info.step
    (c.slots.ensures.slots ∙ first_slots old c.turn.new.self total book series c.requires.ready told stands at c.turn.ensures.goes
    c.turn.ensures.turned)
