use Rattle.served_fronts.proofs.Starts.{begin_sound}
use Rattle.served_fronts.proofs.laws.stores_begin_sound.Goals as goal

pub returns : goal.returns
returns c = begin_sound
