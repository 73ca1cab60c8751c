-- Laws of the codes of statuses.
use Rattle.std.proofs.Common.{◌≡◌, ℕ, zero, suc, ◌≤◌, ◌⊎◌, List, [], ◌∷◌, Option, inl, inr, arith}
use Rattle.block_disk.specs.Counts.{HasRisen}
use Rattle.block_disk.specs.Streams.{sent_after}
use Rattle.std.specs.Prelude.{Contains}
use Rattle.disk_store.specs.declared.causes.OpeningCause.TheVariants as opening
use Rattle.disk_store.specs.Openings.{IsOutside}
use Rattle.store_commands.specs.Books.{SendsPartOf}

-- the codes whose place is 0 are at most 6
pub low_code : (code : ℕ) → Contains (0 ∷ 3 ∷ 4 ∷ 5 ∷ 6 ∷ []) code → code ≤ 6
low_code code (zero, inside, is) = omega (arith, is)
low_code code (suc zero, inside, is) = omega (arith, is)
low_code code (suc (suc zero), inside, is) = omega (arith, is)
low_code code (suc (suc (suc zero)), inside, is) = omega (arith, is)
low_code code (suc (suc (suc (suc zero))), inside, is) = omega (arith, is)
low_code code (suc (suc (suc (suc (suc k)))), inside, is) = absurd (omega (arith, inside))

-- how a text was sent, by the code of its end
pub record IsSentAs (text : List ℕ) (before now : Option (List ℕ)) (sends sends_now code place : ℕ) : Type 0 where
  pub codes : (code ≡ 0) ⊎ ((code ≡ 3) ⊎ (code ≡ 5))
  pub place_is : place ≡ 0
  pub whole : code ≡ 0 → now ≡ sent_after text before
  pub none : code ≡ 3 → now ≡ before
  pub send : code ≡ 5 → HasRisen sends sends_now
  pub part : code ≡ 5 → SendsPartOf text before now

-- with another code than 0 and 5 it sent nothing
pub unsent : (code : ℕ) (before now : Option (List ℕ)) → (code ≡ 0) ⊎ ((code ≡ 3) ⊎ (code ≡ 5)) → (code ≡ 3 → now ≡ before) → (code ≡ 0 → ⊥)
    → (code ≡ 5 → ⊥) → now ≡ before
unsent code before now (inl is) none whole part = absurd (whole is)
unsent code before now (inr (inl is)) none whole part = none is
unsent code before now (inr (inr is)) none whole part = absurd (part is)

-- a disk that is too small isn't a cause from outside
pub too_small : (size : ℕ) → IsOutside (opening.TooSmall size) → ⊥
too_small size (inl same) = cc
too_small size (inr same) = cc

-- a damaged block isn't a cause from outside
pub unopened : (block : ℕ) → IsOutside (opening.Damaged block) → ⊥
unopened block (inl same) = cc
unopened block (inr same) = cc
