use Rattle.std.proofs.Common.{◌≡◌, ◌≤◌, ◌+◌, ℕ, take, drop}
use Rattle.block_disk.specs.Blocks.{IsBlock}
use Rattle.gate_pages.specs.Batch.{numbers}
use Rattle.gate_pages.specs.Entries.{entries}
use Rattle.gate_pages.specs.Journal.{numbers_in}
use Rattle.gate_pages.proofs.directory.put_numbers.Given as goal

abbrev pub invariant-loop-i : goal.invariant-loop-i
invariant-loop-i l = record {
  whole : IsBlock l.block;
  so_far : numbers_in l.block l.i ≡ take l.i (numbers (entries l.batch));
  front : (at size : ℕ) → at + size ≤ 12 → take size (drop at l.block) ≡ take size (drop at l.fn.block);
}
