-- Calls in a row move what each of them moves.
use Rattle.std.proofs.Common.{◌≡◌, ◌≤◌, length, refl, ap, ◌∙◌, arith}
use Rattle.block_disk.specs.View.{DiskKept}
use Rattle.gate_pages.specs.Pages.{GoesOn}
use Rattle.gate_pages.specs.GateLaws.{goes_none, goes_then}
use Rattle.page_space.specs.declared.superblock.Superblock.{Superblock}
use Rattle.series_catalog.specs.Shown.{series_in}
use Rattle.series_catalog.specs.declared.catalog.Catalog.{Catalog}
use Rattle.series_load.specs.Sides.{Side, Goes}

pub goes_nowhere : (at : Side) → Goes at at
goes_nowhere at = record {
  is_told = λ says. says;
  was_told = λ says. says;
  size = refl;
  faults = omega arith;
  goes_on = goes_none at.under;
  total_is = refl;
  more = omega arith;
  sent_is = refl;
  reads = omega arith;
  sends = refl;
  takes = omega arith;
}

pub goes_further : (old mid new : Side) → Goes old mid → Goes mid new → Goes old new
goes_further old mid new first second = record {
  is_told = λ says. second.is_told (first.is_told says);
  was_told = λ says. first.was_told (second.was_told says);
  size = second.size ∙ first.size;
  faults = omega (arith, first.faults, second.faults);
  goes_on = goes_then old.under mid.under new.under first.goes_on second.goes_on;
  total_is = second.total_is ∙ first.total_is;
  more = omega (arith, first.more, second.more);
  sent_is = second.sent_is ∙ first.sent_is;
  reads = omega (arith, first.reads, second.reads);
  sends = second.sends ∙ first.sends;
  takes = omega (arith, first.takes, second.takes);
}

-- takes
pub goes_take : (old new : Side) → DiskKept old.view new.view → (old.told → new.told) → (new.told → old.told)
    → GoesOn old.under new.under → new.total ≡ old.total → new.count ≡ old.count → new.sent ≡ old.sent
    → old.read_faults ≤ new.read_faults → new.send_faults ≡ old.send_faults → old.pieces ≤ new.pieces → Goes old new
goes_take old new kept told was_told on total_is count_is sent_is reads sends takes = record {
  is_told = told;
  was_told = was_told;
  size = kept.size;
  faults = omega (arith, kept.faults);
  goes_on = on;
  total_is = total_is;
  more = omega (arith, count_is);
  sent_is = sent_is;
  reads = reads;
  sends = sends;
  takes = takes;
}

pub same_total : {one other : Superblock} → other ≡ one → other.total ≡ one.total
same_total {one} {other} is = ap (λ (s : Superblock). s.total) is

pub same_count : {one other : Catalog} → other ≡ one → length (series_in other) ≡ length (series_in one)
same_count {one} {other} is = ap (λ (k : Catalog). length (series_in k)) is
