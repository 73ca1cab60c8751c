-- What nodes mean: their slots, the root's span, the coefficients that they tell, and what asks cost.
use Rattle.std.specs.Prelude.{ℕ, ℤ, ◌≡◌, ◌+◌, ◌^◌, ◌≤◌, ◌-◌, ◌⊎◌, List, length, Option, Some, IsSome}
use Rattle.om3_coeff.specs.declared.key.Key.{Key}
use Rattle.om3_coeff.specs.declared.span.Span.{Span}
use Rattle.om3_coeff.specs.declared.coef.Coef.{Coef}
use Rattle.om3_coeff.specs.declared.errors.NodeError.{NodeError}
use Rattle.om3_coeff.specs.declared.errors.NodeError.TheVariants.{DiskFault, Damaged, Missing, BadCoefficient}
use Rattle.om3_coeff.specs.Keys.{height, top_key, IsNode, MayFollow}
use Rattle.om3_coeff.specs.Spans.{AreSlots, span}
use Rattle.om3_coeff.specs.Coefs.{coef}
use Rattle.om3_coeff.specs.Known.{known}

pub record NodesView : Type 1 where
  -- the nodes may be asked
  pub fit : Type 0
  -- the number of slots below them
  pub slots : ℕ
  -- the span of all slots
  pub root : Option Span
  -- they tell their coefficients
  pub tells : Type 0
  -- the coefficient that an Ok gives for a key, where they tell it
  pub told : Key → Option Coef
  -- the key asked last; there is none before the first ask and after one that failed
  pub asked : Option Key
  -- how many blocks were read so far
  pub reads : ℕ
  -- how often the disk failed so far
  pub faults : ℕ
  -- the error is one that an ask of these nodes may answer
  pub bad : NodeError → Type 0

-- what the root and the told coefficients show of a key
abbrev pub known_of : NodesView → Key → Option (Option Span)
known_of view k = known view.root view.told (height view.slots) k

-- a key that has a coefficient
abbrev pub IsNodeOf : NodesView → Key → Type 0
IsNodeOf view k = IsNode (height view.slots) k

-- the ask of a key keeps to tree order
abbrev pub MayAsk : NodesView → Key → Type 0
MayAsk view k = MayFollow (height view.slots) view.asked k

-- a count of 64 bits has risen by one, or stood at its last value and stays there
abbrev pub HasRisen : ℕ → ℕ → Type 0
HasRisen before now = (now ≡ before + 1) ⊎ ((2 ^ 64 - 1 ≤ before) × (now ≡ before))

-- the cause of an error: a fault of the disk was counted between old and new; another error is one
-- that the nodes may answer
abbrev pub HasCause : NodesView → NodesView → NodeError → Type 0
HasCause old new DiskFault = HasRisen old.faults new.faults
HasCause old new (Damaged page) = old.bad (Damaged page)
HasCause old new (Missing key) = old.bad (Missing key)
HasCause old new (BadCoefficient key) = old.bad (BadCoefficient key)

-- an error that names a key names this one
abbrev pub NamesOnly : Key → NodeError → Type 0
NamesOnly k DiskFault = Unit {0}
NamesOnly k (Damaged page) = Unit {0}
NamesOnly k (Missing key) = key ≡ k
NamesOnly k (BadCoefficient key) = key ≡ k

-- what no ask changes
pub record StaysSame (old new : NodesView) : Type 0 where
  pub slots : new.slots ≡ old.slots
  pub root : new.root ≡ old.root
  pub tells : old.tells → new.tells
  pub has_told : new.tells → old.tells
  pub told : old.tells → new.told ≡ old.told
  pub bad : (e : NodeError) → old.bad e → new.bad e
  pub was_bad : (e : NodeError) → new.bad e → old.bad e

-- The nodes agree with a list of slots on the keys of a kind: they tell slots, root and the
-- coefficient of each such key that has a stored value, and all are the list's.
pub record AgreesOn (Concerns : Key → Type 0) (view : NodesView) (list : List (Option ℤ)) : Type 0 where
  pub values : AreSlots list
  pub few : length list ≤ 2 ^ 35
  pub slots : view.slots ≡ length list
  pub root : view.root ≡ span list (top_key (length list))
  pub tells : view.tells
  pub told : (k : Key) → IsNode (height (length list)) k → IsSome (span list k) → Concerns k → view.told k ≡ Some (coef list k)

-- they agree on all keys
abbrev pub Agrees : NodesView → List (Option ℤ) → Type 0
Agrees view list = AgreesOn (λ k. Unit {0}) view list
