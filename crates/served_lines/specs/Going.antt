-- What calls of a service move, and why lines stopped it, whatever its pages are.
use Rattle.std.specs.Prelude.{◌≡◌, ◌≤◌, ℕ, ⊤}
use Rattle.block_disk.specs.Counts.{HasRisen}
use Rattle.block_disk.specs.View.{View}
use Rattle.block_disk.specs.declared.streams.Streams as streams
use Rattle.gate_pages.specs.Pages.{GoesOn}
use Rattle.gate_pages.specs.declared.pages.Pages.{Ghosts}
use Rattle.chart_service.specs.Serving.{Serves}
use Rattle.chart_service.specs.Shown as shown
use Rattle.chart_service.specs.Stepping.{IsBadPage}
use Rattle.chart_service.specs.declared.failure.AnswerEnd.{AnswerEnd}
use Rattle.chart_service.specs.declared.failure.AnswerEnd.TheVariants.{Serve, Reply}
use Rattle.chart_service.specs.declared.failure.ServeEnd.TheVariants.{ReadFault, SendFault, DiskFault, Damaged, InputTooLong, NoMemory}
use Rattle.chart_service.specs.declared.service.Service.{Service}

-- the pages of a service with their streams
pub record Side : Type 1 where
  pub told : Type 0
  pub view : View
  pub under : View
  pub total : ℕ
  pub read_faults : ℕ
  pub send_faults : ℕ

-- what stands beside the pages are the streams
pub record AreBeside (at : View) (read_faults send_faults : ℕ) : Type 0 where
  pub reads_are : at.beside.read_faults ≡ read_faults
  pub sends_are : at.beside.send_faults ≡ send_faults

module _ {P : Type 0} {g : Ghosts P} where
  abbrev pub side_of : streams.Ghosts P → Service P g → Side
  side_of beside it = record {
    told = shown.IsTold it;
    view = shown.view it;
    under = shown.under it;
    total = shown.total it;
    read_faults = beside.read_faults (shown.pages it);
    send_faults = beside.send_faults (shown.pages it);
  }

-- no count falls
pub record Goes (old new : Side) : Type 0 where
  pub serves : Serves old.told new.told old.view new.view
  pub goes_on : GoesOn old.under new.under
  pub total_is : new.total ≡ old.total
  pub reads : old.read_faults ≤ new.read_faults
  pub sends : old.send_faults ≤ new.send_faults

-- why lines weren't answered
abbrev pub IsCause : {F : Type 0} → AnswerEnd F → Side → Side → Type 0
IsCause (Serve ReadFault) old new = ⊥
IsCause (Serve SendFault) old new = HasRisen old.send_faults new.send_faults
IsCause (Serve DiskFault) old new = HasRisen old.view.faults new.view.faults
IsCause (Serve (Damaged page)) old new = IsBadPage new.told new.view.size new.view.image page
IsCause (Serve InputTooLong) old new = ⊥
IsCause (Serve NoMemory) old new = ⊤
IsCause (Reply error) old new = ⊤

-- behind a fault of the disk no line may be given
abbrev pub Harms : {F : Type 0} → AnswerEnd F → Type 0
Harms (Serve ReadFault) = ⊥
Harms (Serve SendFault) = ⊥
Harms (Serve DiskFault) = ⊤
Harms (Serve (Damaged page)) = ⊥
Harms (Serve InputTooLong) = ⊥
Harms (Serve NoMemory) = ⊥
Harms (Reply error) = ⊥
