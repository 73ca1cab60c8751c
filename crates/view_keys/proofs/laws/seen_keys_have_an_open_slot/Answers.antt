use Rattle.om3_coeff.specs.Known.{known}
use Rattle.view_keys.proofs.Clearing.{seen-unclear}
use Rattle.view_keys.proofs.laws.seen_keys_have_an_open_slot.Goals as goal

pub returns : goal.returns
returns c root told top k s high is clear =
    seen-unclear c.split_and_join_undo_each_other.ensures.whole (known root told top) told top
    (λ b low. c.what_is_known.ensures.below root told top b low) k s high is clear
