use Rattle.std.proofs.Common.{◌≡◌, ◌+◌, ℕ, get_or, true, false, ap, sym, ◌∙◌, arith}
use Rattle.node_page.proofs.Differences.{in_range_from, small_of, four_full}
use Rattle.node_page.proofs.Groups.{zero_in_range}
use Rattle.node_page.proofs.rules.are_four_in_range.Goals as goal

pub returns-then-are_eight_zero-clause-range : goal.returns-then-are_eight_zero-clause-range
returns-then-are_eight_zero-clause-range c = λ _. zero_in_range c.args.page.now c.args.byte
    (c.are_eight_zero.ensures c.if-are_eight_zero.true)

pub returns-then-not-are_eight_small-clause-all : goal.returns-then-not-are_eight_small-clause-all
returns-then-not-are_eight_small-clause-all c = λ differences.
    absurd (let yes : c.are_eight_small.result ≡ true = c.are_eight_small.ensures.1
    (small_of c.args.page.now c.min.result (omega arith) differences) in
    let no : c.are_eight_small.result ≡ false = c.if-not-are_eight_small.true in
    cc (no, yes))

pub returns-then-flags-clause-range : goal.returns-then-flags-clause-range
returns-then-flags-clause-range c = λ _.
    in_range_from c.args.page.now c.args.byte c.min.result c.requires.byte (omega arith)
    (c.are_eight_small.ensures.0 c.if-not-are_eight_small.false) (λ n low high few.
    four_full c.args.page.now c.args.byte n (ap (λ (b : ℕ). get_or c.args.page.now (8 + b) 0) (sym c.from.ensures)
    ∙ c.if-flags.true) low high)

pub returns-else-flags-clause-range : goal.returns-else-flags-clause-range
returns-else-flags-clause-range c = λ flat.
    in_range_from c.args.page.now c.args.byte c.min.result c.requires.byte (omega arith)
    (c.are_eight_small.ensures.0 c.if-not-are_eight_small.false) (c.are_four_full_or_flat.ensures.0 flat)
