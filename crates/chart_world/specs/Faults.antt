-- Which failed call ended what was done, by the counts of faults.
use Rattle.std.specs.Prelude.{ℕ, ◌≡◌, Option, None, Some, Result, Ok, Err}
use Rattle.block_disk.specs.Counts.{HasRisen}
use Rattle.block_disk.specs.View.{View}

-- a call that failed: of the disk, a take, or a send
pub data Fault : Type 0 where
  OfDisk : Fault
  OfTake : Fault
  OfSend : Fault

-- how often calls of the disk, takes and sends have failed
pub record FaultCounts : Type 0 where
  pub disk : ℕ
  pub take : ℕ
  pub send : ℕ

abbrev pub faults_of : View → FaultCounts
faults_of view = record { disk = view.faults; take = view.beside.read_faults; send = view.beside.send_faults }

-- the count of this fault has risen and the others stayed; with none all stayed
abbrev pub CountsBy : Option Fault → FaultCounts → FaultCounts → Type 0
CountsBy None old new = new ≡ old
CountsBy (Some OfDisk) old new = HasRisen old.disk new.disk × (new.take ≡ old.take) × (new.send ≡ old.send)
CountsBy (Some OfTake) old new = (new.disk ≡ old.disk) × HasRisen old.take new.take × (new.send ≡ old.send)
CountsBy (Some OfSend) old new = (new.disk ≡ old.disk) × (new.take ≡ old.take) × HasRisen old.send new.send

-- the same of the counts of the outside
abbrev pub CountsFault : Option Fault → View → View → Type 0
CountsFault fault old new = CountsBy fault (faults_of old) (faults_of new)

-- the fault that a result tells, by what its error tells
abbrev pub fault_in : {T E : Type 0} → (E → Option Fault) → Result T E → Option Fault
fault_in fault (Ok value) = None
fault_in fault (Err error) = fault error
