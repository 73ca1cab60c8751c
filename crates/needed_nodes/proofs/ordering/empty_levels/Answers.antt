use Rattle.std.proofs.Common.{◌∙◌, ◌+◌, ℕ, length, ap}
use Rattle.std.proofs.lemmas.List.{length_push}
use Rattle.needed_nodes.specs.Levels.{joined}
use Rattle.needed_nodes.proofs.LevelLaws.{joined_empty}
use Rattle.needed_nodes.proofs.ordering.empty_levels.Goals as goal

pub loop-place-preserved : goal.loop-place-preserved
loop-place-preserved c = record {
  sized = ap length c.in_ok-push.ensures.items ∙ length_push c.loop-place.levels.items c.in_ok-level.level
      ∙ ap (λ (n : ℕ). n + 1) c.loop-place.invariant.sized;
  empty = ap joined c.in_ok-push.ensures.items ∙ joined_empty c.loop-place.levels.items c.in_ok-level.level c.loop-place.invariant.empty
      c.in_ok-level.ensures;
}
