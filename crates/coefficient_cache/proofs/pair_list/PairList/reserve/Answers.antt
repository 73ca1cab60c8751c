use Rattle.coefficient_cache.proofs.Found.{stored-same}
use Rattle.coefficient_cache.proofs.pair_list.PairList.reserve.Goals as goal

pub invariant_of-self-2 : goal.invariant_of-self-2
invariant_of-self-2 c =
    stored-same c.self.inside.puts.items c.reserve.new.self.items c.self.inside.owners.items c.reserve-2.new.self.items
    c.self.inside.places.items c.reserve-3.new.self.items c.self.inside.numbers.entries c.reserve-4.new.self.entries c.self.inside.start
    c.self.inside.capacity
    c.self.invariant c.reserve.ensures.items c.reserve-2.ensures.items c.reserve-3.ensures.items c.reserve-4.ensures.entries.2
    c.reserve-4.ensures.entries.1
