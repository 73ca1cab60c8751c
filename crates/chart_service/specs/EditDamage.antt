-- Which page edits that are done together call damaged.
use Rattle.std.specs.Prelude.{ℕ, ◌<◌, ⊤}
use Rattle.block_disk.specs.View.{Image}
use Rattle.stored_book.specs.Damage.{IsBadForEdit}
use Rattle.chart_service.specs.declared.failure.ServiceError.{ServiceError}
use Rattle.chart_service.specs.declared.failure.ServiceError.TheVariants.{DiskFault, Damaged, NoMemory}

-- the page of an error that names one is one of so many, and is bad for an edit where reads give what the pages are
abbrev pub NamesBadForEdit : Type 0 → ℕ → Image → ServiceError → Type 0
NamesBadForEdit told count image DiskFault = ⊤
NamesBadForEdit told count image (Damaged page) = (page < count) × (told → IsBadForEdit count image page)
NamesBadForEdit told count image NoMemory = ⊤
