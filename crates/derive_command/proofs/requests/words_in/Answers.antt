use Rattle.std.proofs.Common.{◌∙◌, sym}
use Rattle.store_commands.proofs.TokenLemmas.{of_some}
use Rattle.derive_command.proofs.SpellLemmas.{no_tenth}
use Rattle.derive_command.proofs.requests.words_in.Goals as goal

pub returns-then-is_some-clause-other : goal.returns-then-is_some-clause-other
returns-then-is_some-clause-other c = λ nine.
    of_some c.cut.result _ _ (sym c.is_some.ensures ∙ c.if-is_some.true) c.cut.ensures.cut (λ parts more.
    no_tenth c.args.line.now c.in_ok-t0.range.now c.in_ok-first.first.now c.in_ok-first.second.now c.in_ok-a.a.now c.in_ok-a.b.now
    c.in_ok-w.w.now c.in_ok-w.h.now c.in_ok-t0.t0.now c.in_ok-t0.t1.now parts.0.now parts.1.now c.in_ok-first.factors.now
    c.in_ok-a.sides.now c.in_ok-w.times.now c.in_ok-first.ensures.two c.in_ok-a.ensures.two c.in_ok-w.ensures.two c.in_ok-t0.ensures.two
    more nine)
