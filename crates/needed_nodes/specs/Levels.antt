-- Keys by levels.
use Rattle.std.specs.Prelude.{List, [], ◌∷◌, ◌++◌}
use Rattle.om3_coeff.specs.declared.key.Key.{Key}
use Rattle.om3_coeff.specs.declared.coef.Coef.{Coef}
use Rattle.needed_nodes.specs.declared.level.Level.{Level}

-- the keys of one level after another
abbrev pub joined : List Level → List (Key × Coef)
joined [] = []
joined (level ∷ levels) = level.keys.items ++ joined levels
