use Rattle.std.proofs.Common.{◌+◌, arith}
use Rattle.m4_groups.specs.Heights.{IsDrawable}
use Rattle.derived_chart.specs.Rows.{IsRowIn}
use Rattle.derived_chart.proofs.FoundLemmas.{passed_row, passed_low, passed_same, row_found}
use Rattle.derived_chart.proofs.column_row.row_of.Goals as goal

pub returns-clause-drawable : goal.returns-clause-drawable
returns-clause-drawable c =
    passed_row (IsDrawable (c.args.column + 1)) c.args.column c.value_of.result c.sum_or-low.result c.at_least.result c.last_or.result
    c.value_of.ensures.value c.sum_or-low.ensures.value c.at_least.ensures.value c.last_or.ensures.value
    (record {
      column = omega arith;
      order = passed_low c.sum_or-low.result c.at_least.result c.sum_or-low.ensures.value
          c.at_least.ensures.order;
      first = c.value_of.ensures.value;
      least = c.sum_or-low.ensures.value;
      greatest = c.at_least.ensures.value;
      last = c.last_or.ensures.value;
    })

pub returns-clause-row : goal.returns-clause-row
returns-clause-row c = λ sums p q found.
    passed_row (IsRowIn sums p q) c.args.column c.value_of.result c.sum_or-low.result c.at_least.result c.last_or.result
    c.value_of.ensures.value c.sum_or-low.ensures.value c.at_least.ensures.value c.last_or.ensures.value
    (row_found sums p q c.args.column c.args.first.now c.args.last.now c.args.least.now c.args.greatest.now c.value_of.result
    c.sum_or-low.result c.sum_or-high.result c.at_least.result c.last_or.result
    c.value_of.ensures.same c.sum_or-low.ensures.same c.sum_or-high.ensures.same
    (passed_same c.sum_or-low.result c.sum_or-high.result c.at_least.result c.sum_or-low.ensures.value c.sum_or-high.ensures.value
    c.at_least.ensures.same) c.last_or.ensures.same found.small found.first_is found.last_is found.least_is found.greatest_is)
