-- What a view takes.
use Rattle.std.specs.Prelude.{◌≤◌, List, length}
use Rattle.om3_coeff.specs.declared.key.Key.{Key}
use Rattle.om3_coeff.specs.declared.coef.Coef.{Coef}
use Rattle.view_keys.specs.Listed.{AreInOrder}

-- the keys that the view needs, with their present coefficients, and those of them that are sent
pub record Plan : Type 0 where
  pub needed : List (Key × Coef)
  pub send : List (Key × Coef)

-- the needed keys are in order, and neither list has more than the greatest cache
pub record IsInBounds (plan : Plan) : Type 0 where
  pub order : AreInOrder plan.needed
  pub few : length plan.needed ≤ 131072
  pub fewer : length plan.send ≤ 131072
