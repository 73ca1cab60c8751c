-- What takes leave of the work of `retain`.
use Rattle.std.proofs.Common.{◌≡◌, ◌∙◌, ℕ, ◌≤◌, true, List, None, refl, ap, sym, subst, inl, inr, arith}
use Rattle.block_disk.specs.View.{Image, View, DiskKept, Now, Only}
use Rattle.chart_service.proofs.DiskKept.{risen_since}
use Rattle.chart_world.specs.FaultLaws.{disk_stays, sends_stay, takes_stay}
use Rattle.chart_world.specs.Faults.{CountsFault}
use Rattle.gate_pages.specs.GateLaws.{goes_none, goes_then as goes_on_then}
use Rattle.gate_pages.specs.Pages.{GoesOn}
use Rattle.line_runs.specs.Given as given
use Rattle.page_space.specs.declared.superblock.Superblock.{Superblock}
use Rattle.run_ends.specs.declared.ending.End.{End}
use Rattle.run_ends.specs.declared.ending.End.TheVariants.{NoMemory, ReadFault, SendFault, DiskFault, DamagedPage, BadInput, InputTooLong}
use Rattle.run_ends.specs.declared.ending.End.TheVariants.{NoSeries}
use Rattle.stored_book.specs.Standing.{StandsForBook}
use Rattle.store_commands.specs.Sides.{Side, AreBeside}
use Rattle.retain_command.specs.Doing.{Goes, IsCause}
use Rattle.retain_command.specs.Working.{Held, IsHeldIfKnown, LineDoes}

pub stands_kept : (told told' : Type 0) (held : Held) (old new : View) → (told → told') → DiskKept old new → IsHeldIfKnown told old held
    → IsHeldIfKnown told' new held
stands_kept told told' held old new more kept stands = λ known.
    let P : Image → Type 0 = λ i. StandsForBook i held.total held.book in
    let is = stands known in (
      more is.0,
      subst P (sym kept.image) is.1,
      record {
        reads = omega (arith, kept.reads, is.2.reads);
        syncs = omega (arith, kept.syncs, is.2.syncs);
        writes = omega (arith, kept.writes, is.2.writes);
      },
    )

-- what is known stays so
pub known_on : (held : Held) (it : given.Given) (text : List ℕ) (behind : Held) → LineDoes held it text behind → held.known ≡ true
    → behind.known ≡ true
known_on held (given.Line at line) text behind (inl (empty, none, same)) known = ap (λ (h : Held). h.known) same ∙ known
known_on held (given.Line at line) text behind (inr does) known = ap (λ (h : Held). h.known) does.behind_is ∙ known
known_on held given.Pause text behind (none, same) known = ap (λ (h : Held). h.known) same ∙ known
known_on held given.End text behind (none, same) known = ap (λ (h : Held). h.known) same ∙ known

pub now_stands : (held : Held) (at : View) → Only at.image (Now at) → StandsForBook at.image held.total held.book → (image : Image)
    → Now at image → StandsForBook image held.total held.book
now_stands held at only stands image left = let P : Image → Type 0 = λ i. StandsForBook i held.total held.book
    in subst P (sym (only image left)) stands

pub same_total : {one other : Superblock} → other ≡ one → other.total ≡ one.total
same_total {one} {other} is = ap (λ (s : Superblock). s.total) is

pub no_less : {one other : ℕ} → other ≡ one → one ≤ other
no_less {one} {other} is = omega (arith, is)

pub besides : {at : View} {reads sends : ℕ} → at.beside.read_faults ≡ reads → at.beside.send_faults ≡ sends → AreBeside at reads sends
besides {at} {reads} {sends} r s = record { reads_are = r; sends_are = s }

-- ---- what calls move

pub goes_nowhere : (at : Side) → Goes at at
goes_nowhere at = record {
  is_told = λ t. t;
  was_told = λ t. t;
  size = refl;
  faults = omega arith;
  goes_on = goes_none at.under;
  total_is = refl;
  reads = omega arith;
  sends = omega arith;
}

pub goes_further : (old mid new : Side) → Goes old mid → Goes mid new → Goes old new
goes_further old mid new first second = record {
  is_told = λ t. second.is_told (first.is_told t);
  was_told = λ t. first.was_told (second.was_told t);
  size = second.size ∙ first.size;
  faults = omega (arith, first.faults, second.faults);
  goes_on = goes_on_then old.under mid.under new.under first.goes_on second.goes_on;
  total_is = second.total_is ∙ first.total_is;
  reads = omega (arith, first.reads, second.reads);
  sends = omega (arith, first.sends, second.sends);
}

-- takes and sends
pub goes_streams : (old new : Side) → DiskKept old.view new.view → (old.told → new.told) → (new.told → old.told)
    → GoesOn old.under new.under → new.total ≡ old.total → old.read_faults ≤ new.read_faults → old.send_faults ≤ new.send_faults
    → Goes old new
goes_streams old new kept told was_told on total_is reads sends = record {
  is_told = told;
  was_told = was_told;
  size = kept.size;
  faults = omega (arith, kept.faults);
  goes_on = on;
  total_is = total_is;
  reads = reads;
  sends = sends;
}

-- why a later call ended is why all ended, where no fault was counted before
module _ (old mid new : Side) (was : AreBeside old.view old.read_faults old.send_faults)
    (are : AreBeside mid.view mid.read_faults mid.send_faults) (quiet : CountsFault None old.view mid.view) where
  pub cause_later : (end : End) → Goes old mid → IsCause end mid new → IsCause end old new
  cause_later NoMemory goes is = tt
  cause_later ReadFault goes is = risen_since old.read_faults mid.read_faults new.read_faults
      (sym are.reads_are ∙ takes_stay old.view mid.view quiet ∙ was.reads_are) is
  cause_later SendFault goes is = risen_since old.send_faults mid.send_faults new.send_faults
      (sym are.sends_are ∙ sends_stay old.view mid.view quiet ∙ was.sends_are) is
  cause_later DiskFault goes is = risen_since old.view.faults mid.view.faults new.view.faults (disk_stays old.view mid.view quiet) is
  cause_later (DamagedPage page) goes is = (omega (arith, is.0, goes.total_is), is.1)
  cause_later (BadInput at) goes is = tt
  cause_later InputTooLong goes is = tt
  cause_later (NoSeries at) goes is = tt
  cause_later end goes is = absurd is
