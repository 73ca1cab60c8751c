-- What a plan of the session of a number is, from what the plan of its keys is.
use Rattle.std.proofs.Common.{◌≡◌, ◌≤◌, ℕ, ℤ, List, length, get_or, Option, Some, subst, sym, arith}
use Rattle.std.specs.Prelude.{All, Result, Ok, Err, IfOk, IfErr, OnOk}
use Rattle.chart_grid.specs.declared.axis.Axis.{Axis}
use Rattle.chart_grid.specs.declared.grid.Grid.{Grid}
use Rattle.om3_coeff.specs.declared.key.Key.{Key}
use Rattle.om3_coeff.specs.declared.coef.Coef.{Coef}
use Rattle.om3_coeff.specs.View.{NodesView}
use Rattle.view_keys.specs.Listed.{AreInOrder}
use Rattle.needed_nodes.specs.Answers.{IsEntry, IsCauseFor}
use Rattle.needed_nodes.specs.declared.scan_of.ScanOf.{ScanOf}
use Rattle.needed_nodes.specs.declared.scan_of.ScanOf.TheVariants as scan
use Rattle.zoom_session.specs.Planned.{Plan}
use Rattle.zoom_session.specs.Places.{IsPlaceOf}
use Rattle.zoom_session.specs.Plans.{AreNeeded, IsPlan, PlansIn, HasEntries, IsTooLarge, RefusesPlan, CountsNeeded, NeedsAtMost}
use Rattle.zoom_session.specs.Plans.{plan_error_of}
use Rattle.zoom_session.specs.Sessions.{session_of}
use Rattle.zoom_session.specs.declared.session.Session.{Session}
use Rattle.zoom_session.specs.declared.errors.PlanError.{PlanError}
use Rattle.zoom_session.specs.declared.errors.PlanError.TheVariants.{TooLarge, Node, NoMemory}
use Rattle.zoom_session.proofs.Ordered.{entries_so}

-- the session at the place of the number
pub session_found : (number place : ℕ) (items ss : List Session) (s : Session) → IsPlaceOf number ss place → items ≡ ss
    → s ≡ get_or items place s → session_of number ss ≡ Some s
session_found number place items ss s at same is = let e = at.session s in cc

-- what holds of the keys holds of what the plan needs
pub of_needed : (Q : List (Key × Coef) → Type 0) (keys : List (Key × Coef)) (r : Result Plan PlanError)
    → IfOk r (λ plan. plan.needed ≡ keys) → Q keys → IfOk r (λ plan. Q plan.needed)
of_needed Q keys (Ok plan) same holds = subst Q (sym same) holds
of_needed Q keys (Err error) same holds = tt

-- what holds over a range holds over an equal one
pub range_at : (P : ℤ → ℤ → Type 0) (a b lo hi : ℤ) → a ≡ lo → b ≡ hi → P a b → P lo hi
range_at P a b lo hi low high holds = subst (P lo) high (subst (λ l. P l b) low holds)

-- what holds in any case
pub always_ok : {T E P : Type 0} (r : Result T E) → P → OnOk r P
always_ok (Ok v) holds = holds
always_ok (Err e) holds = tt

pub always_err : {T E : Type 0} {Q : E → Type 0} (r : Result T E) → ((e : E) → Q e) → IfErr r Q
always_err (Ok v) holds = tt
always_err (Err e) holds = holds e

pub plans_in : (o : Option Session) (s : Session) (series : ℕ) (r : Result Plan PlanError) → o ≡ Some s → IfOk r (IsPlan s series)
    → IfOk r (PlansIn o series)
plans_in o s series r same planned = subst (λ o. IfOk r (PlansIn o series)) (sym same) planned

pub have_entries : (s : Session) (series slots : ℕ) (keys : List (Key × Coef)) (r : Result Plan PlanError) → AreInOrder keys
    → All (IsEntry slots) keys → IfOk r (λ plan. plan.needed ≡ keys) → IfOk r (IsPlan s series) → IfOk r (HasEntries slots)
have_entries s series slots keys (Ok plan) order entries needed planned =
    entries_so s series slots plan (subst AreInOrder (sym needed) order) (subst (All (IsEntry slots)) (sym needed) entries) planned
have_entries s series slots keys (Err error) order entries needed planned = tt

-- why the walk gave no keys is why there is no plan
pub walk_stops : (o : Option Session) (s : Session) (old new : NodesView) (axis : Axis) (grid : Grid) (lo hi : ℤ) (error : ScanOf)
    → o ≡ Some s → IsCauseFor old new axis grid lo hi error → RefusesPlan o old new axis grid lo hi (plan_error_of error)
walk_stops o s old new axis grid lo hi (scan.Node error) same cause = subst (λ o. RefusesPlan o old new axis grid lo hi (Node error))
    (sym same) cause
walk_stops o s old new axis grid lo hi scan.NoMemory same cause = subst (λ o. RefusesPlan o old new axis grid lo hi NoMemory) (sym same) tt

-- too many keys are why there is no plan
too_many : (s : Session) (old new : NodesView) (axis : Axis) (grid : Grid) (lo hi : ℤ) (keys : List (Key × Coef)) (error : PlanError)
    → IsTooLarge s keys error → RefusesPlan (Some s) old new axis grid lo hi error
too_many s old new axis grid lo hi keys (TooLarge needed cache) large = large.0
too_many s old new axis grid lo hi keys (Node error) large = absurd large
too_many s old new axis grid lo hi keys NoMemory large = tt

pub keys_stop : (o : Option Session) (s : Session) (old new : NodesView) (axis : Axis) (grid : Grid) (lo hi : ℤ) (keys : List (Key × Coef))
    (r : Result Plan PlanError) → o ≡ Some s → IfErr r (IsTooLarge s keys) → IfErr r (RefusesPlan o old new axis grid lo hi)
keys_stop o s old new axis grid lo hi keys (Ok plan) same large = tt
keys_stop o s old new axis grid lo hi keys (Err error) same large = subst (λ o. RefusesPlan o old new axis grid lo hi error) (sym same)
    (too_many s old new axis grid lo hi keys error large)

counted : (s : Session) (list : List (Option ℤ)) (axis : Axis) (grid : Grid) (lo hi : ℤ) (keys : List (Key × Coef)) (error : PlanError)
    → AreNeeded list axis grid lo hi keys → IsTooLarge s keys error → CountsNeeded list axis grid lo hi error
counted s list axis grid lo hi keys (TooLarge needed cache) each large = (keys, each, sym large.1)
counted s list axis grid lo hi keys (Node error) each large = tt
counted s list axis grid lo hi keys NoMemory each large = tt

pub counts_needed : (s : Session) (list : List (Option ℤ)) (axis : Axis) (grid : Grid) (lo hi : ℤ) (keys : List (Key × Coef))
    (r : Result Plan PlanError) → AreNeeded list axis grid lo hi keys → IfErr r (IsTooLarge s keys)
    → IfErr r (CountsNeeded list axis grid lo hi)
counts_needed s list axis grid lo hi keys (Ok plan) each large = tt
counts_needed s list axis grid lo hi keys (Err error) each large = counted s list axis grid lo hi keys error each large

-- no more keys are needed than there were
pub walk_few : (most : ℕ) (error : ScanOf) → NeedsAtMost most (plan_error_of error)
walk_few most (scan.Node error) = tt
walk_few most scan.NoMemory = tt

few_large : (s : Session) (keys : List (Key × Coef)) (most : ℕ) (error : PlanError) → length keys ≤ most → IsTooLarge s keys error
    → NeedsAtMost most error
few_large s keys most (TooLarge needed cache) few large = omega (arith, few, large.1)
few_large s keys most (Node error) few large = tt
few_large s keys most NoMemory few large = tt

pub keys_few : (s : Session) (keys : List (Key × Coef)) (most : ℕ) (r : Result Plan PlanError) → length keys ≤ most
    → IfErr r (IsTooLarge s keys) → IfErr r (NeedsAtMost most)
keys_few s keys most (Ok plan) few large = tt
keys_few s keys most (Err error) few large = few_large s keys most error few large
