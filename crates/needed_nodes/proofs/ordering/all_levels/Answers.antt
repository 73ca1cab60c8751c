use Rattle.std.proofs.Common.{◌∙◌, ◌++◌, List, get_or, sym, ap, arith}
use Rattle.om3_coeff.specs.declared.key.Key.{Key}
use Rattle.om3_coeff.specs.declared.coef.Coef.{Coef}
use Rattle.needed_nodes.specs.declared.level.Level.{Level}
use Rattle.needed_nodes.proofs.LevelLaws.{joined_more}
use Rattle.needed_nodes.proofs.ordering.all_levels.Goals as goal

pub loop-at-preserved : goal.loop-at-preserved
loop-at-preserved c =
    let levels = c.args.levels.now in
    let level : Level = c.index-levels-at.result in
    record {
      all = c.in_ok-extend_from_slice.ensures.items
          ∙ ap (λ (l : List (Key × Coef)). c.loop-at.keys.items ++ l) c.as_slice.ensures.value
          ∙ ap (λ (l : List (Key × Coef)). l ++ (get_or levels c.loop-at.at level).keys.items) c.loop-at.invariant.all
          ∙ sym (joined_more levels c.loop-at.at level (omega (arith, c.loop-at-test.true)));
    }
