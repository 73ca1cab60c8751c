-- The coefficients that count, as they are looked up.
use Rattle.std.specs.Prelude.{ℕ, Bool, ◌&&◌, nat_lt, nat_le, if◌then◌else◌, List, Option, None, Some, slice_get}
use Rattle.om3_coeff.specs.declared.key.Key.{Key}
use Rattle.om3_coeff.specs.declared.coef.Coef.{Coef}
use Rattle.chart_client.specs.declared.holding.Holding.{Holding}
use Rattle.chart_client.specs.Held.{held_by}
use Rattle.view_cover.specs.declared.scope.Scope.{Scope}
use Rattle.view_cover.specs.Across.{is_across}
use Rattle.progressive_view.specs.Places.{place_in, coef_if}

-- by the sent coefficient of a key, the held one, whether the key lies across the end of a column, how many
-- are taken, and the key's place among the sent ones
abbrev pub choice : Option Coef → Option Coef → Bool → ℕ → ℕ → Option Coef
choice (Some c) held across taken place = if nat_lt place taken then Some c else None
choice None held across taken place = if nat_le place taken && across then held else None

abbrev pub told_in : Scope → List (Key × Coef) → Option Holding → ℕ → ℕ → Key → Option Coef
told_in scope sent holding series taken k =
    choice (coef_if (slice_get sent (place_in sent k)) k) (held_by holding series k) (is_across scope k) taken (place_in sent k)
