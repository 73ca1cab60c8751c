-- What is held of a session for a key.
use Rattle.std.specs.Prelude.{ℕ, Option, None, Some}
use Rattle.om3_coeff.specs.declared.key.Key.{Key}
use Rattle.om3_coeff.specs.declared.coef.Coef.{Coef}
use Rattle.coefficient_cache.specs.Pairs.{series_key, coefficient_at}
use Rattle.chart_client.specs.declared.holding.Holding.{Holding}

-- the coefficient that a session's list holds for a key of a series; there is none where it isn't open
abbrev pub held_by : Option Holding → ℕ → Key → Option Coef
held_by None series key = None
held_by (Some holding) series key = coefficient_at holding.cache.pairs (series_key series key)
