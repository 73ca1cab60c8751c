-- What is left of a workload.
use Rattle.std.specs.Prelude.{ℕ, ◌+◌, ◌*◌, ◌≤◌, ◌<◌, List, ◌∷◌, ◌++◌, unsigned_abs}
use Rattle.request_lines.specs.declared.requests.Request.{Request}
use Rattle.demo_workload.specs.declared.draws.Walk.{Walk}
use Rattle.demo_workload.specs.declared.plans.Stage.{Stage}
use Rattle.demo_workload.specs.declared.plans.Stage.TheVariants.{Create, Open, Append, Set, View}
use Rattle.demo_workload.specs.declared.plans.Plan.{Plan}
use Rattle.demo_workload.specs.Workload.{creates, opens, sets, views, slots_after, view_in, drawn_twice, rounds}

-- The requests that are left, from this one on: `left` more rounds are to begin, and round i is the next one or, at
-- a set or a view, the one that it belongs to.
abbrev pub from_stage : Stage → ℕ → ℕ → Walk → List Request
from_stage Create i left walk = creates ∷ opens ∷ rounds left i walk
from_stage Open i left walk = opens ∷ rounds left i walk
from_stage Append i left walk = rounds left i walk
from_stage Set i left walk = sets (slots_after i) walk ∷ view_in i ++ rounds left (i + 1) (drawn_twice walk)
from_stage View i left walk = views (slots_after i) ∷ rounds left (i + 1) walk

abbrev pub remaining : Plan → List Request
remaining plan = from_stage plan.stage plan.round plan.left plan.walk

-- there are at most 4,096 rounds
abbrev pub HasRoom : Stage → ℕ → ℕ → Type 0
HasRoom Create i left = i + left ≤ 4096
HasRoom Open i left = i + left ≤ 4096
HasRoom Append i left = i + left ≤ 4096
HasRoom Set i left = i + left < 4096
HasRoom View i left = i + left < 4096

-- What holds of a plan: there are at most 4,096 rounds, each of which moves the last value by at most 25,600.
pub record IsPlan (plan : Plan) : Type 0 where
  pub room : HasRoom plan.stage plan.round plan.left
  pub small : unsigned_abs plan.walk.value + 25600 * plan.left ≤ 104857600
