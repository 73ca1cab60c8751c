use Rattle.std.proofs.Common.{◌∙◌, subst, arith}
use Rattle.std.specs.Prelude.{IsPermutation}
use Rattle.std.proofs.lemmas.List.{length-set}
use Rattle.std.proofs.lemmas.List.Sorted.{IsPermutation-trans}
use Rattle.needed_nodes.specs.Levels.{joined}
use Rattle.needed_nodes.specs.declared.level.Level.{Level}
use Rattle.needed_nodes.proofs.LevelLaws.{joined_sorted}
use Rattle.needed_nodes.proofs.ordering.sort_levels.Goals as goal

pub loop-at-preserved : goal.loop-at-preserved
loop-at-preserved c =
    let loop = c.loop-at in
    let levels = loop.levels.items in
    let P : Level → Type 0 = λ x. IsPermutation x.keys.items c.sort.new.self.keys.items in
    record {
      sized = length-set levels loop.at c.sort.new.self ∙ loop.invariant.sized;
      moved = IsPermutation-trans _ (joined levels) _ loop.invariant.moved
          (joined_sorted levels loop.at c.index_mut.result.now c.sort.new.self (omega (arith, c.loop-at-test.true, loop.invariant.sized))
          (subst P c.index_mut.ensures.value c.sort.ensures));
    }
