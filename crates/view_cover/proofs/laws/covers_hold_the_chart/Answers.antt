use Rattle.view_cover.proofs.Holding.{holds-chart}
use Rattle.view_cover.proofs.laws.covers_hold_the_chart.Goals as goal

pub returns : goal.returns
returns c list scene of few x y is =
    holds-chart (record {
      heights = c.heights_rise.ensures;
      join = c.split_and_join_undo_each_other.ensures.whole;
      proper = c.split_and_join_undo_each_other.ensures.proper;
      below = c.what_is_known.ensures.below;
      clear = c.what_is_known.ensures.clear;
      first = c.ranges_hold_those_below.ensures.first;
      last = c.ranges_hold_those_below.ensures.end;
    }) (record {
      extremes = c.spans_are_the_extremes.ensures.extremes;
      halves = c.spans_add_up.ensures.halves;
      proper = c.spans_add_up.ensures.proper;
      split = c.split_and_join_undo_each_other.ensures.split;
    }) c.what_is_known.ensures.proper c.columns_rise.ensures.rise list scene x y of few is
