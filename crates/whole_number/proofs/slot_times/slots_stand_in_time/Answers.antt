use Rattle.whole_number.proofs.SlotTimes.{in_time}
use Rattle.whole_number.proofs.slot_times.slots_stand_in_time.Goals as goal

pub returns : goal.returns
returns c = in_time
