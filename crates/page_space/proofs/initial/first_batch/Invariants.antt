use Rattle.std.proofs.Common.{◌≡◌, ℕ, length}
use Rattle.gate_pages.specs.Batch.{page_in}
use Rattle.gate_pages.specs.Entries.{entries}
use Rattle.page_space.specs.Firsts.{first_below}
use Rattle.page_space.proofs.initial.first_batch.Given as goal

abbrev pub invariant-loop-p : goal.invariant-loop-p
invariant-loop-p l = record {
  len : length (entries l.batch) ≡ l.p;
  pages : (number : ℕ) → page_in (entries l.batch) number ≡ page_in (first_below l.count l.p) number;
}
