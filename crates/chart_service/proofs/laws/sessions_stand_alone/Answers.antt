use Rattle.chart_service.proofs.Standing.{stands_alone}
use Rattle.chart_service.proofs.OneReply.{Laws, same_alone}
use Rattle.chart_service.proofs.laws.sessions_stand_alone.Goals as goal

-- what the laws below give
laws : goal.After-a_text_is_read_in_one_way → Laws
laws c = record {
  rows = c.rows_are_one.ensures.one;
  filter = c.a_text_is_read_in_one_way.ensures.filter;
  leaves = c.a_text_is_read_in_one_way.ensures.leaves;
  either = c.a_text_is_read_in_one_way.ensures.either;
}

pub returns-clause-alone : goal.returns-clause-alone
returns-clause-alone c = stands_alone

pub returns-clause-same : goal.returns-clause-same
returns-clause-same c = same_alone (laws c)
