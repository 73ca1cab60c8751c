use Rattle.std.proofs.Common.{◌≡◌}
use Rattle.block_disk.specs.Blocks.{IsBlock}
use Rattle.gate_pages.specs.Entries.{entries}
use Rattle.store_upgrade.proofs.Renewed.{AreGathered}
use Rattle.store_upgrade.proofs.upgrading.new_pages.Given as goal

abbrev pub invariant-loop-p : goal.invariant-loop-p
invariant-loop-p g l =
    let view = g.P.Pages.view in
    let told = g.P.Pages.told in
    let under = g.P.Pages.under in
    record {
      whole : IsBlock l.page;
      gathered : AreGathered (told l.fn.pages) (told l.pages) (l.fn.page ≡ (view l.fn.pages).image 0) (view l.fn.pages) (view l.pages)
          (under l.fn.pages) (under l.pages) (entries l.batch) l.p;
      same : (view l.pages).faults ≡ (view l.fn.pages).faults;
    }
