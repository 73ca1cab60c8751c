use Rattle.std.proofs.Common.{◌<◌, ℕ}
use Rattle.catalog_page.specs.Layout.{HasRecord}
use Rattle.catalog_page.proofs.bad_fields.bad_record.Given as goal

abbrev pub invariant-loop-number : goal.invariant-loop-number
invariant-loop-number l = record { so_far : (i : ℕ) → i < l.number → HasRecord l.fresh l.page i }
