use Rattle.std.proofs.Common.{ℕ, ◌<◌, get_or}
use Rattle.series_book.specs.declared.edits.Edit.{Edit}
use Rattle.series_book.specs.Books.{IsNamed}
use Rattle.chart_service.proofs.groups.read_names.Given as goal

-- so of those read so far
abbrev pub invariant-loop-edit : goal.invariant-loop-edit
invariant-loop-edit l = (k : ℕ) (d : Edit) → k < l.edit-index → IsNamed (get_or l.edits k d)
