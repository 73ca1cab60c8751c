use Rattle.std.proofs.Common.{◌<◌, ◌+◌, ◌*◌, ◌^◌, ℕ}
use Rattle.whole_number.specs.Range.{IsTime}
use Rattle.node_page.specs.Fields.{signed_at}
use Rattle.node_page.proofs.rules.are_all_narrow.Given as goal

abbrev pub invariant-loop-place : goal.invariant-loop-place
invariant-loop-place l = record { so_far : (place : ℕ) → place < l.place → l.all < 2 ^ 57 → IsTime (signed_at l.page (40 + 8 * place)) }
