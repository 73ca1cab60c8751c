-- What a planned view takes, and when there is no plan.
use Rattle.std.specs.Prelude.{ℕ, ℤ, ◌≡◌, ◌<◌, ◌≤◌, List, length, All, Option, None, Some, ⊤}
use Rattle.chart_grid.specs.declared.axis.Axis.{Axis}
use Rattle.chart_grid.specs.declared.grid.Grid.{Grid}
use Rattle.om3_coeff.specs.declared.key.Key.{Key}
use Rattle.om3_coeff.specs.declared.coef.Coef.{Coef}
use Rattle.om3_coeff.specs.Coefs.{coef}
use Rattle.om3_coeff.specs.View.{NodesView}
use Rattle.view_keys.specs.Needed.{IsNeeded}
use Rattle.view_keys.specs.Wanted.{IsWanted}
use Rattle.view_keys.specs.Listed.{AreInOrder, IsListOf}
use Rattle.coefficient_cache.specs.Views.{to_send}
use Rattle.needed_nodes.specs.Answers.{seen_of, IsEntry, IsCauseFor}
use Rattle.needed_nodes.specs.declared.scan_of.ScanOf.{ScanOf}
use Rattle.needed_nodes.specs.declared.scan_of.ScanOf.TheVariants as scan
use Rattle.zoom_session.specs.Planned.{Plan}
use Rattle.zoom_session.specs.declared.session.Session.{Session}
use Rattle.zoom_session.specs.declared.errors.PlanError.{PlanError}
use Rattle.zoom_session.specs.declared.errors.PlanError.TheVariants.{TooLarge, Node, NoMemory}

-- these are the keys that a view of a series over the range lo to hi needs, with their present
-- coefficients, in order
abbrev pub AreNeeded : List (Option ℤ) → Axis → Grid → ℤ → ℤ → List (Key × Coef) → Type 0
AreNeeded list axis grid lo hi needed = IsListOf (IsNeeded list axis grid lo hi) (λ k. Some (coef list k)) needed

-- these are the keys that a view wants by what nodes tell, with the coefficients that they tell, in order
abbrev pub AreWanted : NodesView → Axis → Grid → ℤ → ℤ → List (Key × Coef) → Type 0
AreWanted view axis grid lo hi needed = IsListOf (IsWanted (seen_of view) axis grid lo hi) view.told needed

-- The session's client can keep all that the view needs, and of that is sent what the client lacks or
-- holds with another coefficient.
pub record IsPlan (session : Session) (series : ℕ) (plan : Plan) : Type 0 where
  pub room : length plan.needed ≤ session.cache.capacity
  pub send : plan.send ≡ to_send session.cache.pairs series plan.needed

-- the same, of the session of a number
abbrev pub PlansIn : Option Session → ℕ → Plan → Type 0
PlansIn None series plan = ⊥
PlansIn (Some session) series plan = IsPlan session series plan

-- both lists of a plan are in order, and have keys of a tree over so many slots, each with a coefficient
-- that splits
pub record HasEntries (slots : ℕ) (plan : Plan) : Type 0 where
  pub order : AreInOrder plan.needed
  pub needed : All (IsEntry slots) plan.needed
  pub send_order : AreInOrder plan.send
  pub send : All (IsEntry slots) plan.send

-- so many keys are more than the client of the session keeps
pub record IsTooMany (session : Session) (needed cache : ℕ) : Type 0 where
  pub cache_so : cache ≡ session.cache.capacity
  pub more : cache < needed

-- why keys that a view needs give no plan: they are too many, just as many as the error says
abbrev pub IsTooLarge : Session → List (Key × Coef) → PlanError → Type 0
IsTooLarge session keys (TooLarge needed cache) = IsTooMany session needed cache × (needed ≡ length keys)
IsTooLarge session keys (Node error) = ⊥
IsTooLarge session keys NoMemory = ⊤

-- why a view of a session isn't planned: it needs more keys than the client keeps; or the nodes gave
-- this error, with its cause
abbrev pub StopsPlan : Session → NodesView → NodesView → Axis → Grid → ℤ → ℤ → PlanError → Type 0
StopsPlan session old new axis grid lo hi (TooLarge needed cache) = IsTooMany session needed cache
StopsPlan session old new axis grid lo hi (Node error) = IsCauseFor old new axis grid lo hi (scan.Node error)
StopsPlan session old new axis grid lo hi NoMemory = ⊤

abbrev pub RefusesPlan : Option Session → NodesView → NodesView → Axis → Grid → ℤ → ℤ → PlanError → Type 0
RefusesPlan None old new axis grid lo hi error = ⊥
RefusesPlan (Some session) old new axis grid lo hi error = StopsPlan session old new axis grid lo hi error

-- a view that is too large needs just as many keys as the error says
abbrev pub CountsNeeded : List (Option ℤ) → Axis → Grid → ℤ → ℤ → PlanError → Type 0
CountsNeeded list axis grid lo hi (TooLarge needed cache) = (keys : List (Key × Coef)) × AreNeeded list axis grid lo hi keys
    × (length keys ≡ needed)
CountsNeeded list axis grid lo hi (Node error) = ⊤
CountsNeeded list axis grid lo hi NoMemory = ⊤

-- a view that is too large needs at most so many keys
abbrev pub NeedsAtMost : ℕ → PlanError → Type 0
NeedsAtMost most (TooLarge needed cache) = needed ≤ most
NeedsAtMost most (Node error) = ⊤
NeedsAtMost most NoMemory = ⊤

-- what an error of the walk is for a plan
abbrev pub plan_error_of : ScanOf → PlanError
plan_error_of (scan.Node error) = Node error
plan_error_of scan.NoMemory = NoMemory
