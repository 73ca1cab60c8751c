use Rattle.progressive_view.proofs.Agreeing.{agreeing-held}
use Rattle.progressive_view.proofs.laws.covers_hold_agreeing_charts.Goals as goal

pub returns : goal.returns
returns c view holdings i stage list fits usable agrees x y is =
    agreeing-held c.covers_hold_the_chart.ensures c.wanted_keys_are_needed.ensures.same view holdings i stage list fits usable agrees x y is
