-- One step of the way.
use Rattle.std.proofs.Common.{◌≡◌, ◌≢◌, ℕ, ◌+◌, ◌-◌, ◌<◌, ◌≤◌, ◌⊎◌, List, Ok, Err, refl, sym, ap, ap₂, subst, inl, inr, ◌∙◌, arith}
use Rattle.std.specs.Prelude.{Result, IfErr}
use Rattle.std.specs.Result.{IsErrAnd}
use Rattle.block_disk.specs.View.{View}
use Rattle.om3_coeff.specs.declared.key.Key.{Key}
use Rattle.om3_coeff.specs.declared.errors.NodeError.{NodeError}
use Rattle.om3_coeff.specs.declared.errors.NodeError.TheVariants.{DiskFault, Damaged, Missing, BadCoefficient}
use Rattle.node_page.specs.Fields.{child_at}
use Rattle.tree_walk.specs.declared.trail.Trail.{Trail}
use Rattle.tree_walk.specs.declared.held_page.HeldPage.{HeldPage}
use Rattle.tree_walk.specs.Paths.{path_child}
use Rattle.tree_walk.specs.Trails.{number_at, bytes_at, IsLinked}
use Rattle.tree_walk.specs.Holding.{IsBadPage, IsHoldCause, IsHit, IsSameAbove, next_at, IsStepCause}

-- an error that is passed on
pub error_so : {T E : Type 0} (P Q : E → Type 0) (r : Result T E) → IsErrAnd r P → ((e : E) → P e → Q e) → IfErr r Q
error_so P Q (Ok v) is more = tt
error_so P Q (Err e) is more = more e is

-- the child on the way, as the code reads it
pub next_is : (pages : List HeldPage) (k : Key) (levels depth number child : ℕ) (bytes : List ℕ) → bytes_at pages depth ≡ bytes
    → child ≡ path_child k (levels - depth)
    → number ≡ child_at bytes child → number ≡ next_at pages k levels depth
next_is pages k levels depth number child bytes same way is = is ∙ ap₂ (λ (b : List ℕ) (c : ℕ). child_at b c) (sym same) way

-- there is none
pub step_none : (told : Type 0) (old new : View) (pages : List HeldPage) (k : Key) (levels depth number child total : ℕ) (bytes : List ℕ)
    (e : NodeError)
    → number_at pages depth ≡ number → bytes_at pages depth ≡ bytes → child ≡ path_child k (levels - depth) → total ≡ old.size
    → number_at pages depth < old.size
    → (child_at bytes child ≡ 0) ⊎ (total ≤ child_at bytes child) → e ≡ Damaged number → IsStepCause told old new pages k levels depth e
step_none told old new pages k levels depth number child total bytes e number_same same way size low none is =
    let next : child_at bytes child ≡ next_at pages k levels depth = next_is pages k levels depth
    (child_at bytes child) child bytes same way refl in
    let P : NodeError → Type 0 = λ e. IsStepCause told old new pages k levels depth e in
    let N : ℕ → Type 0 = λ n. (n ≡ 0) ⊎ (old.size ≤ n) in
    let none' : N (child_at bytes child) = elim none [ inl zero_child ↦ inl zero_child | inr past ↦ inr (omega (arith, past, size)) ] in
    let cause : P (Damaged number) = (omega (arith, low, number_same), λ tells. inl (sym number_same, subst N next none')) in
    subst P (sym is) cause

-- it isn't as it has to be
pub step_bad : (told : Type 0) (old new : View) (pages : List HeldPage) (k : Key) (levels depth number : ℕ) (e : NodeError)
    → number ≡ next_at pages k levels depth → number ≢ 0 → number < old.size
    → IsHoldCause told old new number (levels - (depth + 1)) e → IsStepCause told old new pages k levels depth e
step_bad told old new pages k levels depth number DiskFault is there low cause = cause
step_bad told old new pages k levels depth number (Damaged page) is there low cause =
    let P : ℕ → Type 0 = λ n. IsBadPage (old.image n) (levels - (depth + 1)) in
    (omega (arith, low, cause.0), λ tells. inr ((λ none. there (is ∙ none)), cause.0 ∙ is, subst P (sym cause.0) (cause.1 tells)))
step_bad told old new pages k levels depth number (Missing key) is there low cause = cause
step_bad told old new pages k levels depth number (BadCoefficient key) is there low cause = cause

-- a linked page is held already
pub linked_hit : (trail : Trail) (k : Key) (levels depth number : ℕ) → depth + 1 < trail.len → IsLinked trail.pages.items k levels depth
    → number ≡ next_at trail.pages.items k levels depth
    → IsHit trail (depth + 1) number
linked_hit trail k levels depth number long linked is = record { long = long; is = linked.is ∙ sym is }

-- a page that was read is linked
pub hit_linked : (old new : Trail) (k : Key) (levels depth number : ℕ) → IsSameAbove (depth + 1) old.pages.items new.pages.items
    → number ≡ next_at old.pages.items k levels depth → number ≢ 0
    → IsHit new (depth + 1) number → IsLinked new.pages.items k levels depth
hit_linked old new k levels depth number same is there hit = record {
  is = hit.is ∙ is ∙ ap (λ b. child_at b (path_child k (levels - depth))) (sym (same.bytes depth (omega arith)));
  there = λ none. there (sym hit.is ∙ none);
}
