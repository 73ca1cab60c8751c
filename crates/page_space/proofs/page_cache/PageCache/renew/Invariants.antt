use Rattle.gate_pages.specs.Entries.{entries}
use Rattle.page_space.specs.Copies.{copies_in}
use Rattle.page_space.proofs.Caching.{IsRenewing}
use Rattle.page_space.proofs.page_cache.PageCache.renew.Given as goal

abbrev pub invariant-loop-at : goal.invariant-loop-at
invariant-loop-at l = record { so_far : IsRenewing (entries l.batch) (copies_in l.fn.self) (copies_in l.self) l.at }
