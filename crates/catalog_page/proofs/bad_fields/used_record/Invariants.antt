use Rattle.std.proofs.Common.{◌≤◌, ◌<◌, ℕ}
use Rattle.catalog_page.specs.Layout.{IsUnused}
use Rattle.catalog_page.proofs.bad_fields.used_record.Given as goal

abbrev pub invariant-loop-number : goal.invariant-loop-number
invariant-loop-number l = record { so_far : (i : ℕ) → l.count ≤ i → i < l.number → IsUnused l.page i }
