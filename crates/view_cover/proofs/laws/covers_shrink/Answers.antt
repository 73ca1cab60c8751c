use Rattle.view_cover.proofs.Shrinking.{shrinks}
use Rattle.view_cover.proofs.laws.covers_shrink.Goals as goal

pub returns : goal.returns
returns c scene more x y tells is =
    shrinks (record {
      heights = c.heights_rise.ensures;
      join = c.split_and_join_undo_each_other.ensures.whole;
      proper = c.split_and_join_undo_each_other.ensures.proper;
      below = c.what_is_known.ensures.below;
      clear = c.what_is_known.ensures.clear;
      first = c.ranges_hold_those_below.ensures.first;
      last = c.ranges_hold_those_below.ensures.end;
    }) scene more x y tells is
