-- The cause of an error stays one of the whole way.
use Rattle.std.proofs.Common.{ℕ, ◌≡◌, sym, subst}
use Rattle.std.specs.Prelude.{Result, Ok, Err, IfErr, IsErrAnd}
use Rattle.om3_coeff.specs.declared.errors.NodeError.{NodeError}
use Rattle.om3_coeff.specs.declared.errors.NodeError.TheVariants.{DiskFault, Damaged, Missing, BadCoefficient}
use Rattle.om3_coeff.specs.View.{NodesView, HasCause, HasRisen, StaysSame}

-- an error that is passed on
pub passed_on : {T : Type 0} (result : Result T NodeError) (e : NodeError) (P : NodeError → Type 0) → IsErrAnd result (λ x. x ≡ e) → P e
    → IfErr result P
passed_on (Ok v) e P is holds = tt
passed_on (Err x) e P is holds = subst P (sym is) holds

-- a cause behind asks is one of these asks, too
pub later_cause : (old between new : NodesView) (e : NodeError) → StaysSame old between → between.faults ≡ old.faults
    → HasCause between new e → HasCause old new e
later_cause old between new DiskFault same quiet risen = let P : ℕ → Type 0 = λ n. HasRisen n new.faults in subst P quiet risen
later_cause old between new (Damaged page) same quiet bad = same.was_bad (Damaged page) bad
later_cause old between new (Missing key) same quiet bad = same.was_bad (Missing key) bad
later_cause old between new (BadCoefficient key) same quiet bad = same.was_bad (BadCoefficient key) bad
