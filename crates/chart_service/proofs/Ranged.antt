-- A plan that is made over the range that was found before it.
use Rattle.std.proofs.Common.{◌≡◌, ℕ, ℤ, ◌≤ℤ◌, FitsSigned, to_z, of_z, w64, List, Option, None, Some, IsTrue, sym, subst}
use Rattle.std.proofs.lemmas.Int.{to_z-of_z}
use Rattle.chart_grid.specs.declared.axis.Axis.{Axis}
use Rattle.chart_grid.specs.declared.grid.Grid.{Grid}
use Rattle.om3_coeff.specs.declared.errors.NodeError.{NodeError}
use Rattle.om3_coeff.specs.View.{NodesView, StaysSame, HasCause}
use Rattle.needed_nodes.proofs.StepLaws.{has_cause_earlier}
use Rattle.plain_chart.specs.declared.value_range.ValueRange.{ValueRange}
use Rattle.plain_chart.specs.Samples.{kept, values_of}
use Rattle.zoom_session.specs.declared.session.Session.{Session}
use Rattle.zoom_session.specs.declared.view_spec.ViewSpec.{ViewSpec}
use Rattle.zoom_session.specs.declared.errors.PlanError.{PlanError}
use Rattle.zoom_session.specs.declared.errors.PlanError.TheVariants.{TooLarge, Node, NoMemory}
use Rattle.zoom_session.specs.Sessions.{is_open, session_of}
use Rattle.zoom_session.specs.Plans.{RefusesPlan, CountsNeeded}
use Rattle.chart_service.specs.Viewing.{ShowsRange}
use Rattle.chart_service.specs.Planning.{RefusesView, CountsOver}
use Rattle.chart_service.proofs.Lasts.{somebody}

-- the nodes gave no range
pub range_refused : (number : ℕ) (sessions : List Session) (old new : NodesView) (e : NodeError) → IsTrue (is_open number sessions)
    → HasCause old new e
    → RefusesView (session_of number sessions) old new (Node e)
range_refused number sessions old new e there cause =
    let found : (s : Session) × (session_of number sessions ≡ Some s) = somebody number sessions there in
    let P : Option Session → Type 0 = λ o. RefusesView o old new (Node e) in
    subst P (sym found.1) cause

-- there was no plan
pub plan_refused : (session : Option Session) (old mid new : NodesView) (axis : Axis) (grid : Grid) (lo hi : ℤ) (e : PlanError)
    → StaysSame old mid → mid.faults ≡ old.faults
    → RefusesPlan session mid new axis grid lo hi e → RefusesView session old new e
plan_refused None old mid new axis grid lo hi e same quiet refuses = absurd refuses
plan_refused (Some s) old mid new axis grid lo hi (TooLarge needed cache) same quiet refuses = refuses
plan_refused (Some s) old mid new axis grid lo hi (Node e) same quiet refuses = has_cause_earlier old mid new e same quiet refuses.0
plan_refused (Some s) old mid new axis grid lo hi NoMemory same quiet refuses = tt

-- it was too large
pub plan_counts : (list : List (Option ℤ)) (axis : Axis) (spec : ViewSpec) (range : ValueRange) (e : PlanError)
    → ShowsRange spec.range (values_of (kept spec.grid axis list)) range
    → CountsNeeded list axis spec.grid range.lo range.hi e → CountsOver list axis spec e
plan_counts list axis spec range (TooLarge needed cache) shown counts = (range, shown, counts)
plan_counts list axis spec range (Node e) shown counts = tt
plan_counts list axis spec range NoMemory shown counts = tt

-- what holds of a range by other names of its ends
pub range_at : (P : ℤ → ℤ → Type 0) (a b lo hi : ℤ) → a ≡ lo → b ≡ hi → P a b → P lo hi
range_at P a b lo hi low high h = subst (λ (x : ℤ). P x hi) low (subst (λ (x : ℤ). P a x) high h)

-- numbers that were read back from 64 bits are in the same order
pub order_back : (lo hi : ℤ) → FitsSigned w64 lo → FitsSigned w64 hi → lo ≤ℤ hi → to_z w64 (of_z w64 lo) ≤ℤ to_z w64 (of_z w64 hi)
order_back lo hi low high order = range_at (λ a b. a ≤ℤ b) lo hi (to_z w64 (of_z w64 lo)) (to_z w64 (of_z w64 hi))
    (sym (to_z-of_z w64 lo low)) (sym (to_z-of_z w64 hi high)) order
