-- How a command ends whose store isn't opened: nothing was sent.
use Rattle.std.proofs.Common.{◌≡◌, ℕ, List, Option, inl, inr, refl, sym, subst, arith}
use Rattle.std.specs.Prelude.{Contains}
use Rattle.block_disk.specs.View.{View}
use Rattle.disk_store.specs.Openings.{IsOutside}
use Rattle.disk_store.specs.declared.causes.OpeningCause.{OpeningCause}
use Rattle.disk_store.specs.declared.causes.OpeningCause.TheVariants as opening
use Rattle.run_ends.specs.declared.ending.End.TheVariants.{UnknownSeries}
use Rattle.store_commands.specs.Codes.{unopened}
use Rattle.store_commands.specs.Loaded.{unnamed_ends}
use Rattle.store_commands.specs.Status.{opening_end}
use Rattle.store_commands.specs.Unopened.{IsUnopenedEnd}
use Rattle.store_commands.proofs.WorldLemmas.{IsUnopened}

pub unopened_end : (old new : View) (left left' before now : Option (List ℕ)) (cause : OpeningCause)
    → IsUnopened old new left left' before now cause → IsUnopenedEnd (opening_end cause) old new × (now ≡ before)
unopened_end old new left left' before now (opening.TooSmall size) u = (
  (u.prevents.0, omega (arith, u.prevents.0, u.prevents.1)),
  u.sent_is,
)
unopened_end old new left left' before now (opening.Damaged block)
    u = ((u.prevents.1, λ total book holds. unopened block (u.outside total book holds)), u.sent_is)
unopened_end old new left left' before now opening.DiskFault u = (u.prevents, u.sent_is)
unopened_end old new left left' before now opening.NoMemory u = (tt, u.sent_is)

-- an opening knows of no names
pub opening_known : (cause : OpeningCause) → opening_end cause ≡ UnknownSeries → ⊥
opening_known (opening.TooSmall size) is = cc
opening_known (opening.Damaged block) is = cc
opening_known opening.DiskFault is = cc
opening_known opening.NoMemory is = cc

-- a store that holds a book is kept from opening by want of memory or a fault alone
pub outside_ends : (cause : OpeningCause) → IsOutside cause → Contains unnamed_ends (opening_end cause)
outside_ends cause (inl fault) = let P : OpeningCause → Type 0 = λ c. Contains unnamed_ends (opening_end c) in
    subst P (sym fault) (1, omega arith, refl)
outside_ends cause (inr memory) = let P : OpeningCause → Type 0 = λ c. Contains unnamed_ends (opening_end c) in
    subst P (sym memory) (0, omega arith, refl)
