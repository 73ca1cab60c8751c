use Rattle.std.proofs.Common.{map, arith, sym, ◌∙◌}
use Rattle.program_words.proofs.Commands.{no_side}
use Rattle.program_words.proofs.words.side_at.Goals as goal
use Rattle.program_words.proofs.words.side_at.Goals.{else-number-ge1-via-then-number-ge1+else-number-le4096}
use Rattle.program_words.proofs.words.side_at.Goals.{else-number-ge1-via-else-number-ge1}

pub returns-else-number-ge1-clause-none : goal.returns-else-number-ge1-clause-none
returns-else-number-ge1-clause-none c =
    no_side (map (λ word. word.now) c.args.words.now) c.args.place c.in_ok-number.number c.in_ok-word.word.now c.in_ok-word.ensures
    (sym c.as_bytes.ensures.value ∙ c.in_ok-number.ensures.found.0, c.in_ok-number.ensures.found.1)
    (λ is. elim c.else-number-ge1.branch [
      | else-number-ge1-via-then-number-ge1+else-number-le4096 w ↦ omega (arith, is, w.if-number-le4096.false)
      | else-number-ge1-via-else-number-ge1 w ↦ omega (arith, is, w.if-number-ge1.false)
    ])
