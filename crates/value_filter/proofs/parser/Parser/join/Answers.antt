use Rattle.std.proofs.Common.{refl}
use Rattle.value_filter.proofs.Closing.{joined_or, joined_none}
use Rattle.value_filter.proofs.parser.Parser.join.Goals as goal
use Rattle.value_filter.proofs.parser.Parser.join.Goals.{then-close+in_ok-push, else-close}

pub returns : goal.returns
returns c =
    elim c.if-close.branch [
      | then-close+in_ok-push w ↦
          rw w.self-inside-is
          (joined_or _ _ _ _ _ _ c.self.view_is (w.if-close.ensures.closed refl) w.in_ok-push.ensures.items)
      | else-close w ↦
          rw w.self-inside-is
          (joined_none _ _ _ _ _ c.self.view_is (w.if-close.ensures.kept refl) (w.if-close.ensures.another refl))
    ]
