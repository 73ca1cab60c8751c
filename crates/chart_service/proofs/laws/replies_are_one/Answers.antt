use Rattle.chart_service.proofs.OneReply.{Laws, line_one, lines_one, request_one}
use Rattle.chart_service.proofs.laws.replies_are_one.Goals as goal

-- what the laws below give
laws : goal.After-a_text_is_read_in_one_way → Laws
laws c = record {
  rows = c.rows_are_one.ensures.one;
  filter = c.a_text_is_read_in_one_way.ensures.filter;
  leaves = c.a_text_is_read_in_one_way.ensures.leaves;
  either = c.a_text_is_read_in_one_way.ensures.either;
}

pub returns-clause-line : goal.returns-clause-line
returns-clause-line c = line_one (laws c)

pub returns-clause-lines : goal.returns-clause-lines
returns-clause-lines c = lines_one (laws c)

pub returns-clause-request : goal.returns-clause-request
returns-clause-request c = request_one (laws c)
