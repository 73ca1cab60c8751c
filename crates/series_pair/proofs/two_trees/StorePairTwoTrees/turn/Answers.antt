use Rattle.std.proofs.Common.{◌≡◌, length, refl, ap, arith}
use Rattle.series_catalog.specs.Shown.{series_in}
use Rattle.series_catalog.specs.declared.catalog.Catalog.{Catalog}
use Rattle.series_pair.specs.Pairs.{side_of}
use Rattle.series_pair.specs.AskLaws.{selects_side, turns_go}
use Rattle.series_pair.proofs.two_trees.StorePairTwoTrees.turn.Goals as goal

pub returns-clause-goes : goal.returns-clause-goes
returns-clause-goes g c =
    let old = c.args.self.now in
    let was = c.requires.1 in
    let catalog = c.select.ensures.catalog in
    let many : length (series_in c.select.new.self.catalog) ≡ length
    (series_in old.store.now.catalog) = ap (λ (c : Catalog). length (series_in c)) catalog in
    turns_go old _ refl refl refl c.select.ensures.space catalog was (record {
      first = omega (arith, many, was.first);
      second = omega (arith, many, was.second);
      selected = selects_side old.store.now c.select.new.self c.id_of-id.result
          (side_of c.args.second old.x old.y) c.id_of-id.ensures catalog c.select.ensures.slots;
    })
