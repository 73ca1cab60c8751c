use Rattle.std.proofs.Common.{◌≡◌, false, sym, ◌∙◌}
use mathlib.Core.Bool.{beq}
use Rattle.node_page.specs.Fields.{coef_at}
use Rattle.node_page.proofs.Groups.{same_if, if_same}
use Rattle.node_page.proofs.rules.is_agreed.Goals as goal

pub returns-then-left-is_set : goal.returns-then-left-is_set
unfolding coef_at
returns-then-left-is_set c = (
  λ yes. (
    sym c.is_stored-left.ensures ∙ same_if _ _ c.if-left-is_set.true ∙ c.is_set.ensures,
    sym c.is_stored-right.ensures ∙ same_if _ _ yes ∙ c.is_set-then-left-is_set.ensures,
  ),
  λ agreed. if_same _ _ (c.is_stored-right.ensures ∙ agreed.1 ∙ sym c.is_set-then-left-is_set.ensures),
)

pub returns-else-left-is_set : goal.returns-else-left-is_set
unfolding coef_at
returns-else-left-is_set c = (
  λ yes. absurd (let no : beq c.is_stored-left.result c.is_set.result ≡ false = c.if-left-is_set.false in cc (no, yes)),
  λ agreed. if_same _ _ (c.is_stored-left.ensures ∙ agreed.0 ∙ sym c.is_set.ensures),
)
