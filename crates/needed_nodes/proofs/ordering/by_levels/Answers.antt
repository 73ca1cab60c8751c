use Rattle.std.proofs.Common.{◌∙◌, ◌++◌, [], ◌∷◌, pos, false, get_or, ap, arith}
use Rattle.om3_coeff.specs.declared.key.Key.{Key}
use Rattle.om3_coeff.specs.declared.coef.Coef.{Coef}
use Rattle.std.proofs.lemmas.List.{length-set}
use Rattle.needed_nodes.specs.declared.level.Level.{Level}
use Rattle.needed_nodes.proofs.LevelLaws.{levels_more}
use Rattle.needed_nodes.proofs.ordering.by_levels.Goals as goal

pub loop-at-preserved : goal.loop-at-preserved
loop-at-preserved c =
    let loop = c.loop-at in
    let d : Key × Coef = (record { level = 0; index = 0 }, record { left = false; right = false; dmin = pos 0; dmax = pos 0 }) in
    let e : Key × Coef = get_or c.args.keys.now loop.at d in
    record {
      sized = length-set loop.levels.items c.place_of-place.result c.add.new.self ∙ loop.invariant.sized;
      moved = levels_more c.args.keys.now loop.levels.items loop.at c.place_of-place.result d c.index_mut.result.now c.add.new.self
          (omega (arith, c.loop-at-test.true))
          (omega (arith, c.place_of-place.ensures, loop.invariant.sized))
          (c.in_ok-add.ensures ∙ ap (λ (x : Level). x.keys.items ++ e ∷ []) c.index_mut.ensures.value) loop.invariant.moved;
    }
