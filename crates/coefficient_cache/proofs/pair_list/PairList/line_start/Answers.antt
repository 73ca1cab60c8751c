use Rattle.coefficient_cache.proofs.Found.{told-seen}
use Rattle.coefficient_cache.proofs.pair_list.PairList.line_start.Goals as goal

pub place_of-requires : goal.place_of-requires
place_of-requires c = told-seen c.self.inside.puts.items c.as_slice-puts.result.now c.self.inside.owners.items c.self.inside.places.items
    c.as_slice-places.result.now c.self.inside.numbers.entries c.self.invariant.found c.as_slice-puts.ensures.value
    c.as_slice-places.ensures.value c.new-key.result
