use Rattle.std.proofs.Common.{◌≡◌, ◌<◌, ℕ, get_or, None}
use Rattle.coefficient_cache.proofs.pair_list.first_held.Given as goal

-- none is held before the place
abbrev pub invariant-loop-place : goal.invariant-loop-place
invariant-loop-place l = (i : ℕ) → i < l.place → get_or l.puts i None ≡ None
