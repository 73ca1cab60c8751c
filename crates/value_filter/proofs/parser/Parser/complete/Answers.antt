use Rattle.std.proofs.Common.{refl, sym, ◌∙◌}
use Rattle.value_filter.proofs.Closing.{completed_not, completed_and, completed_none}
use Rattle.value_filter.proofs.parser.Parser.complete.Goals as goal
use Rattle.value_filter.proofs.parser.Parser.complete.Goals.{then-close+in_ok-push-2, else-close}

pub negations-preserved : goal.negations-preserved
negations-preserved c =
    completed_not _ _ _ _ _ (c.negations-test.ensures.closed refl) c.in_ok-push.ensures.items c.negations.invariant

pub returns : goal.returns
returns c =
    elim c.if-close.branch [
      | then-close+in_ok-push-2 w ↦
          rw w.self-inside-is
          (completed_and _ _ _ _ _ (sym (c.negations-test.ensures.kept refl)
          ∙ w.if-close.ensures.closed refl) w.in_ok-push-2.ensures.items c.negations.invariant)
      | else-close w ↦
          rw w.self-inside-is
          (completed_none _ _ _ _ _ (c.negations-test.ensures.kept refl) (w.if-close.ensures.kept refl)
          (c.negations-test.ensures.another refl) (w.if-close.ensures.another refl) c.negations.invariant)
    ]
