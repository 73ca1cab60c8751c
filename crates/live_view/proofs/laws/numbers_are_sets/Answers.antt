use Rattle.live_view.proofs.NumberLemmas.{with-rises, without-rises}
use Rattle.live_view.proofs.SetLemmas.{contains-with, contains-without}
use Rattle.live_view.proofs.laws.numbers_are_sets.Goals as goal

pub returns-clause-more : goal.returns-clause-more
returns-clause-more c = contains-with

pub returns-clause-fewer : goal.returns-clause-fewer
returns-clause-fewer c = contains-without

pub returns-clause-more_rise : goal.returns-clause-more_rise
returns-clause-more_rise c = with-rises

pub returns-clause-fewer_rise : goal.returns-clause-fewer_rise
returns-clause-fewer_rise c = without-rises
