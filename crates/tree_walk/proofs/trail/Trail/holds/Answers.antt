use Rattle.std.proofs.Common.{◌∙◌, sym, arith}
use Rattle.std.proofs.lemmas.Bool.{eqb-true, eq-eqb}
use Rattle.tree_walk.proofs.TrailLemmas.{number_is}
use Rattle.tree_walk.proofs.trail.Trail.holds.Goals as goal

pub returns-then-depth-self : goal.returns-then-depth-self
returns-then-depth-self c =
    let trail = c.args.self.now in
    let page = c.index.result.now in
    let number = number_is trail.pages.items c.args.depth page
    (omega (arith, trail.room, trail.few, c.if-depth-self.true)) c.index.ensures in (
      λ same. record { long = c.if-depth-self.true; is = number ∙ eqb-true page.number c.args.number same },
      λ hit. eq-eqb page.number c.args.number (sym number ∙ hit.is),
    )
