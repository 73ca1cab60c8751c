-- What calls move, whatever the pages are.
use Rattle.std.proofs.Common.{◌≡◌, ◌∙◌, ℕ, ◌≤◌, List, None, refl, ap, sym, arith}
use Rattle.block_disk.specs.View.{Beside, DiskKept}
use Rattle.chart_world.specs.Faults.{CountsFault}
use Rattle.chart_world.specs.FaultLaws.{disk_stays, sends_stay, takes_stay}
use Rattle.chart_service.specs.Stepping.{Steps}
use Rattle.chart_service.proofs.DiskKept.{risen_since}
use Rattle.gate_pages.specs.GateLaws.{goes_none, goes_then as goes_on_then}
use Rattle.gate_pages.specs.Pages.{GoesOn}
use Rattle.run_ends.specs.declared.ending.End.{End}
use Rattle.run_ends.specs.declared.ending.End.TheVariants.{NoMemory, ReadFault, SendFault, DiskFault, DamagedPage, InputTooLong}
use Rattle.zoom_session.specs.declared.session.Session.{Session}
use Rattle.hosted_lines.specs.Doing.{AreBeside, Goes, Held, IsCause, Side}
use Rattle.hosted_lines.specs.HostCauses.{IsHostCause}

-- what stands beside the pages are the streams
abbrev pub IsBeside : Side → Type 0
IsBeside side = AreBeside side.view side.read_faults side.send_faults

pub goes_nowhere : (at : Side) → Goes at at
goes_nowhere at = record {
  is_told = λ t. t;
  was_told = λ t. t;
  size = refl;
  faults = omega arith;
  goes_on = goes_none at.under;
  reads = omega arith;
  sends = omega arith;
}

pub goes_further : (old mid new : Side) → Goes old mid → Goes mid new → Goes old new
goes_further old mid new first second = record {
  is_told = λ t. second.is_told (first.is_told t);
  was_told = λ t. first.was_told (second.was_told t);
  size = second.size ∙ first.size;
  faults = omega (arith, first.faults, second.faults);
  goes_on = goes_on_then old.under mid.under new.under first.goes_on second.goes_on;
  reads = omega (arith, first.reads, second.reads);
  sends = omega (arith, first.sends, second.sends);
}

-- an answer, and a push
pub goes_step : (old new : Side) → IsBeside old → IsBeside new → Steps old.told new.told old.view new.view → GoesOn old.under new.under
    → Goes old new
goes_step old new was are steps on = record {
  is_told = steps.told;
  was_told = steps.was_told;
  size = steps.size;
  faults = steps.faults;
  goes_on = on;
  reads = omega (arith, sym are.reads_are ∙ ap (λ (b : Beside). b.read_faults) steps.beside ∙ was.reads_are);
  sends = omega (arith, sym are.sends_are ∙ ap (λ (b : Beside). b.send_faults) steps.beside ∙ was.sends_are);
}

-- takes and sends
pub goes_streams : (old new : Side) → DiskKept old.view new.view → (old.told → new.told) → (new.told → old.told)
    → GoesOn old.under new.under → old.read_faults ≤ new.read_faults → old.send_faults ≤ new.send_faults → Goes old new
goes_streams old new kept told was_told on reads sends = record {
  is_told = told;
  was_told = was_told;
  size = kept.size;
  faults = omega (arith, kept.faults);
  goes_on = on;
  reads = reads;
  sends = sends;
}

-- why a later call ended is why all ended
pub cause_later : (old mid new : Side) (end : End) → IsBeside old → IsBeside mid → CountsFault None old.view mid.view → IsCause end mid new
    → IsCause end old new
cause_later old mid new NoMemory was are quiet is = tt
cause_later old mid new ReadFault was are quiet is = risen_since old.read_faults mid.read_faults new.read_faults (sym are.reads_are
    ∙ takes_stay old.view mid.view quiet ∙ was.reads_are) is
cause_later old mid new SendFault was are quiet is = risen_since old.send_faults mid.send_faults new.send_faults (sym are.sends_are
    ∙ sends_stay old.view mid.view quiet ∙ was.sends_are) is
cause_later old mid new DiskFault was are quiet is = risen_since old.view.faults mid.view.faults new.view.faults
    (disk_stays old.view mid.view quiet) is
cause_later old mid new (DamagedPage page) was are quiet is = is
cause_later old mid new InputTooLong was are quiet is = tt
cause_later old mid new end was are quiet is = absurd is

-- so it is with the cause of a host
pub host_cause_later : (old mid new : Side) (end : End) → IsBeside old → IsBeside mid → CountsFault None old.view mid.view
    → IsHostCause end mid new → IsHostCause end old new
host_cause_later old mid new (DamagedPage page) was are quiet is = is
host_cause_later old mid new NoMemory was are quiet is = tt
host_cause_later old mid new ReadFault was are quiet is = cause_later old mid new ReadFault was are quiet is
host_cause_later old mid new SendFault was are quiet is = cause_later old mid new SendFault was are quiet is
host_cause_later old mid new DiskFault was are quiet is = cause_later old mid new DiskFault was are quiet is
host_cause_later old mid new InputTooLong was are quiet is = tt
host_cause_later old mid new end was are quiet is = absurd is

-- and the cause of a live service is one

-- what is held beside the pages
abbrev pub held_of : List Session → List ℕ → List ℕ → Held
held_of sessions followed pending = record { sessions = sessions; followed = followed; pending = pending }

pub held_same : (sessions sessions' : List Session) (followed followed' pending pending' : List ℕ) → sessions' ≡ sessions
    → followed' ≡ followed → pending' ≡ pending → held_of sessions' followed' pending' ≡ held_of sessions followed pending
held_same sessions sessions' followed followed' pending pending' same same_followed same_pending =
    ap (λ s. held_of s followed' pending') same ∙ ap (λ f. held_of sessions f pending') same_followed
    ∙ ap (λ p. held_of sessions followed p) same_pending
