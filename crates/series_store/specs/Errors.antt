-- What the errors of a change of a tree are in a store.
use Rattle.path_repair.specs.declared.errors.RepairError.{RepairError}
use Rattle.path_repair.specs.declared.errors.RepairError.TheVariants.{Full, DiskFault, Damaged, NoMemory}
use Rattle.series_book.specs.declared.refusals.Refusal.TheVariants.{Full as FullBook}
use Rattle.series_store.specs.declared.errors.StoreError.{StoreError}
use Rattle.series_store.specs.declared.errors.StoreError.TheVariants.{Refused, DiskFault as AtDisk, Damaged as AtPage, NoMemory as AtMemory}

abbrev pub error_of : RepairError → StoreError
error_of (Full needed have) = Refused (FullBook needed have)
error_of DiskFault = AtDisk
error_of (Damaged page) = AtPage page
error_of NoMemory = AtMemory
