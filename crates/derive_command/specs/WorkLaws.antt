-- What takes leave of the work of `derive`.
use Rattle.std.proofs.Common.{◌≡◌, ◌∙◌, ℕ, ◌≤◌, List, None, ap, refl, sym, subst, inl, inr, arith}
use Rattle.block_disk.proofs.Passing.{passes_none, passes_weaker, sends_then_sends}
use Rattle.block_disk.specs.View.{Image, View, DiskKept, Now, Passes, sent_now}
use Rattle.chart_service.proofs.DiskKept.{risen_since}
use Rattle.chart_world.specs.FaultLaws.{disk_stays, sends_stay, takes_stay}
use Rattle.chart_world.specs.Faults.{CountsFault}
use Rattle.gate_pages.proofs.Moving.{sent_same}
use Rattle.gate_pages.specs.GateLaws.{goes_none, goes_then as goes_on_then}
use Rattle.gate_pages.specs.Pages.{GoesOn, Quiet}
use Rattle.page_space.specs.declared.superblock.Superblock.{Superblock}
use Rattle.run_ends.specs.declared.ending.End.{End}
use Rattle.run_ends.specs.declared.ending.End.TheVariants.{NoMemory, ReadFault, SendFault, DiskFault, DamagedPage, BadInput, InputTooLong}
use Rattle.run_ends.specs.declared.ending.End.TheVariants.{RefusedLine}
use Rattle.series_book.specs.declared.one_series.Series.{Series}
use Rattle.series_catalog.specs.Shown.{series_in}
use Rattle.series_catalog.specs.declared.catalog.Catalog.{Catalog}
use Rattle.series_catalog.specs.declared.stored_series.StoredSeries.{StoredSeries}
use Rattle.stored_book.specs.Standing.{StandsForBook}
use Rattle.store_commands.specs.Sides.{Side, AreBeside}
use Rattle.derive_command.specs.Doing.{Goes, IsCause}
use Rattle.derive_command.specs.Working.{Known, StandFor, StandsSo}

pub stand_kept : {Told Told' : Type 0} (old new : View) (book : List Series) → (Told → Told') → DiskKept old new
    → StandFor Told old.image book → StandFor Told' new.image book
stand_kept {Told} {Told'} old new book told kept stand =
    let P : Image → Type 0 = λ i. StandsForBook i stand.1.0 book in
    (told stand.0, (stand.1.0, subst P (sym kept.image) stand.1.1))

pub stands_kept : {Told Told' : Type 0} (old new : View) (catalog catalog' : List StoredSeries) (known : Known) → catalog' ≡ catalog
    → (Told → Told')
    → DiskKept old new → StandsSo Told old.image catalog known → StandsSo Told' new.image catalog' known
stands_kept {Told} {Told'} old new catalog catalog' (inl book) same told kept stands = stand_kept old new book told kept stands
stands_kept {Told} {Told'} old new catalog catalog' (inr read) same told kept stands = same ∙ stands

pub same_series : {one other : Catalog} → other ≡ one → series_in other ≡ series_in one
same_series {one} {other} is = ap (λ (c : Catalog). series_in c) is

pub same_total : {one other : Superblock} → other ≡ one → other.total ≡ one.total
same_total {one} {other} is = ap (λ (s : Superblock). s.total) is

pub no_less : {one other : ℕ} → other ≡ one → one ≤ other
no_less {one} {other} is = omega (arith, is)

pub besides : {at : View} {reads sends : ℕ} → at.beside.read_faults ≡ reads → at.beside.send_faults ≡ sends → AreBeside at reads sends
besides {at} {reads} {sends} r s = record { reads_are = r; sends_are = s }

-- ---- what calls move

pub goes_nowhere : (at : Side) → Goes at at
goes_nowhere at = record {
  time = passes_none at.view (Now at.view) (λ count. (sent_now at.view ≤ count) × (count ≤ sent_now at.view));
  is_told = λ t. t;
  was_told = λ t. t;
  image = λ t. refl;
  size = refl;
  fit = λ f. f;
  faults = omega arith;
  syncs = refl;
  writes = refl;
  goes_on = goes_none at.under;
  total_is = refl;
  reads = omega arith;
  sends = omega arith;
}

pub goes_further : (old mid new : Side) → Goes old mid → Goes mid new → Goes old new
goes_further old mid new first second = record {
  time = sends_then_sends old.view mid.view new.view first.time second.time;
  is_told = λ t. second.is_told (first.is_told t);
  was_told = λ t. first.was_told (second.was_told t);
  image = λ t. second.image (first.is_told t) ∙ first.image t;
  size = second.size ∙ first.size;
  fit = λ f. second.fit (first.fit f);
  faults = omega (arith, first.faults, second.faults);
  syncs = second.syncs ∙ first.syncs;
  writes = second.writes ∙ first.writes;
  goes_on = goes_on_then old.under mid.under new.under first.goes_on second.goes_on;
  total_is = second.total_is ∙ first.total_is;
  reads = omega (arith, first.reads, second.reads);
  sends = omega (arith, first.sends, second.sends);
}

-- quiet calls
pub quiet_between : (old new : View) → Passes old new (Now old) (Quiet old)
    → Passes old new (Now old) (λ count. (sent_now old ≤ count) × (count ≤ sent_now new))
quiet_between old new passes =
    let same = sent_same old new (Now old) passes in
    passes_weaker old new (Now old) (Now old) (Quiet old) (λ count. (sent_now old ≤ count)
    × (count ≤ sent_now new)) (λ image left. left) (λ count quiet. (omega (arith, quiet), omega (arith, quiet, same))) passes

-- input is taken
pub goes_takes : (old new : Side) → DiskKept old.view new.view
    → Passes old.view new.view (Now old.view) (λ count. count ≡ sent_now old.view) → (old.told → new.told) → (new.told → old.told)
    → GoesOn old.under new.under → new.total ≡ old.total → old.read_faults ≤ new.read_faults → old.send_faults ≤ new.send_faults
    → Goes old new
goes_takes old new kept passes told was_told on total_is reads sends = record {
  time = quiet_between old.view new.view passes;
  is_told = told;
  was_told = was_told;
  image = λ t. kept.image;
  size = kept.size;
  fit = kept.fit;
  faults = omega (arith, kept.faults);
  syncs = kept.syncs;
  writes = kept.writes;
  goes_on = on;
  total_is = total_is;
  reads = reads;
  sends = sends;
}

-- why a later call ended is why all ended, where no fault was counted before
module _ (old mid new : Side) (was : AreBeside old.view old.read_faults old.send_faults)
    (are : AreBeside mid.view mid.read_faults mid.send_faults) (quiet : CountsFault None old.view mid.view) where
  pub cause_later : (end : End) → Goes old mid → IsCause end mid new → IsCause end old new
  cause_later NoMemory goes is = tt
  cause_later ReadFault goes is = risen_since old.read_faults mid.read_faults new.read_faults (sym are.reads_are
      ∙ takes_stay old.view mid.view quiet ∙ was.reads_are) is
  cause_later SendFault goes is = risen_since old.send_faults mid.send_faults new.send_faults (sym are.sends_are
      ∙ sends_stay old.view mid.view quiet ∙ was.sends_are) is
  cause_later DiskFault goes is = risen_since old.view.faults mid.view.faults new.view.faults (disk_stays old.view mid.view quiet) is
  cause_later (DamagedPage page) goes is = (omega (arith, is.0, goes.total_is), is.1)
  cause_later (BadInput at) goes is = tt
  cause_later InputTooLong goes is = tt
  cause_later (RefusedLine at refusal) goes is = tt
  cause_later end goes is = absurd is
