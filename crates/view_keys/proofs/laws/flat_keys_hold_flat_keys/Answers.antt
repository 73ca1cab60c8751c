use Rattle.view_keys.proofs.Nested.{flat-value, flat-below}
use Rattle.view_keys.proofs.laws.flat_keys_hold_flat_keys.Goals as goal

pub returns-clause-value : goal.returns-clause-value
returns-clause-value c lo hi v h s flat low high = flat-value c.heights_rise.ensures lo hi v h s flat low high

pub returns-clause-below : goal.returns-clause-below
returns-clause-below c root told top w k lo hi h s t high above w_is k_is flat =
    flat-below (record {
      heights = c.heights_rise.ensures;
      join = c.split_and_join_undo_each_other.ensures.whole;
      proper = c.split_and_join_undo_each_other.ensures.proper;
      below = c.what_is_known.ensures.below;
    }) root told top w k lo hi h s t high above w_is k_is flat
