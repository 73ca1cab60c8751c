-- What sends in a row leave of the pages.
use Rattle.std.proofs.Common.{◌∙◌}
use Rattle.block_disk.specs.View.{View, DiskKept}
use Rattle.gate_pages.specs.GateLaws.{goes_none, goes_then}
use Rattle.chart_service.specs.Serving.{KeepsPages}
use Rattle.chart_service.proofs.DiskKept.{kept_none}

disk_then : (old mid new : View) → DiskKept old mid → DiskKept mid new → DiskKept old new
disk_then old mid new first second = record {
  now = λ image left. second.now image (first.now image left);
  size = second.size ∙ first.size;
  image = second.image ∙ first.image;
  faults = second.faults ∙ first.faults;
  reads = second.reads ∙ first.reads;
  syncs = second.syncs ∙ first.syncs;
  writes = second.writes ∙ first.writes;
  fit = λ fit. second.fit (first.fit fit);
}

pub pages_none : (told : Type 0) (at under : View) → KeepsPages told told at at under under
pages_none told at under = record { disk = kept_none at; told = λ is. is; was_told = λ is. is; goes_on = goes_none under }

pub pages_then : (told between told' : Type 0) (old mid new under under' under'' : View) → KeepsPages told between old mid under under'
    → KeepsPages between told' mid new under' under'' → KeepsPages told told' old new under under''
pages_then told between told' old mid new under under' under'' first second = record {
  disk = disk_then old mid new first.disk second.disk;
  told = λ is. second.told (first.told is);
  was_told = λ is. first.was_told (second.was_told is);
  goes_on = goes_then under under' under'' first.goes_on second.goes_on;
}
