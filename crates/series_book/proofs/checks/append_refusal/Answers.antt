use Rattle.std.proofs.Common.{rules}
use Rattle.series_book.specs.Edits.{appended}
use Rattle.series_book.proofs.SlotLemmas.{overwritten-end}
use Rattle.series_book.proofs.checks.append_refusal.Goals as goal

pub returns-clause-refusal : goal.returns-clause-refusal
unfolding appended
returns-clause-refusal c = λ series is. rw overwritten-end (search rules)
