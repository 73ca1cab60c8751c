use Rattle.chart_client.specs.Accepting.{viewed}
use Rattle.chart_client.proofs.Standing.{others_stay, opening_leaves, closing_leaves, view_leaves}
use Rattle.chart_client.proofs.laws.frames_change_one_session.Goals as goal

pub returns-clause-others : goal.returns-clause-others
returns-clause-others c = λ frame drawing old new number accepts apart. others_stay frame drawing old new number accepts apart

pub returns-clause-opened : goal.returns-clause-opened
returns-clause-opened c = λ number size drawing old new accepts. opening_leaves number size old new accepts.1

pub returns-clause-closed : goal.returns-clause-closed
returns-clause-closed c = λ number drawing old new accepts. closing_leaves number old new accepts.2

pub returns-clause-viewed : goal.returns-clause-viewed
returns-clause-viewed c = λ view holding drawing old new held accepted.
    view_leaves view.session (viewed view holding.cache accepted.wanted) old new holding held accepted.holdings
