use Rattle.view_keys.proofs.Counting.{few-needed, few-wanted}
use Rattle.view_keys.proofs.laws.keys_of_a_view_are_few.Goals as goal

pub returns-clause-needed : goal.returns-clause-needed
returns-clause-needed c list axis grid lo hi entries order needed =
    let b = c.borders_part_columns.ensures in
    few-needed (record { between = b.between; first = b.first; last = b.last; rise = b.rise }) list axis grid lo hi entries order needed

pub returns-clause-wanted : goal.returns-clause-wanted
returns-clause-wanted c seen axis grid lo hi entries order wanted =
    let b = c.borders_part_columns.ensures in
    few-wanted (record { between = b.between; first = b.first; last = b.last; rise = b.rise })
    c.split_and_join_undo_each_other.ensures.whole c.what_is_known.ensures.below seen axis grid lo hi entries order wanted
