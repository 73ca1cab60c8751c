use Rattle.std.proofs.Common.{ℕ, ◌+◌, ◌*◌, length, ap, arith}
use Rattle.std.proofs.lemmas.List.FromFn.{length-map-range_with_len}
use Rattle.gate_pages.specs.Journal.{number_at}
use Rattle.gate_pages.proofs.directory.directory.Goals as goal

pub returns-clause-few : goal.returns-clause-few
returns-clause-few c =
    omega (
      arith,
      ap length c.numbers_from-numbers.ensures.numbers,
      length-map-range_with_len (λ (i : ℕ). number_at c.args.block.now (12 + 4 * i)) 0 c.number_at-many.result,
      c.if-many-gt-MOST.false,
    )
