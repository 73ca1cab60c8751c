use Rattle.std.proofs.Common.{◌∙◌, refl, arith}
use Rattle.gate_pages.specs.GateLaws.{goes_none}
use Rattle.tree_walk.proofs.SpaceLemmas.{reads_none}
use Rattle.tree_walk.proofs.TrailLemmas.{number_set}
use Rattle.tree_walk.proofs.HoldLemmas.{same_above, held_above, held_with}
use Rattle.tree_walk.specs.Walk as walk
use Rattle.page_space.specs.Shown as shown
use Rattle.tree_walk.proofs.paths.hold.Goals as goal

pub returns-then-holds-clause-reads : goal.returns-then-holds-clause-reads
returns-then-holds-clause-reads g c = reads_none (shown.IsTold c.args.space.now) (walk.pages c.args.space.now)

pub returns-then-holds-clause-over : goal.returns-then-holds-clause-over
returns-then-holds-clause-over g c = record { superblock = refl; goes_on = goes_none (shown.under c.args.space.now) }

pub returns-then-holds-clause-held : goal.returns-then-holds-clause-held
returns-then-holds-clause-held g c = c.requires.held

pub returns-in_err-read_page-clause-reads : goal.returns-in_err-read_page-clause-reads
returns-in_err-read_page-clause-reads g c = c.read_page.ensures.reads

pub returns-in_err-read_page-clause-over : goal.returns-in_err-read_page-clause-over
returns-in_err-read_page-clause-over g c = c.read_page.ensures.over

pub returns-in_err-read_page-clause-count : goal.returns-in_err-read_page-clause-count
returns-in_err-read_page-clause-count g c = c.read_page.ensures.count

pub returns-clause-reads : goal.returns-clause-reads
returns-clause-reads g c = c.read_page.ensures.reads

pub returns-clause-over : goal.returns-clause-over
returns-clause-over g c = c.read_page.ensures.over

pub returns-clause-count : goal.returns-clause-count
returns-clause-count g c = c.read_page.ensures.count

pub returns-in_err-read_page-clause-held : goal.returns-in_err-read_page-clause-held
returns-in_err-read_page-clause-held g c =
    let trail = c.args.trail.now in
    held_above (shown.IsTold c.args.space.now) (shown.IsTold c.read_page.new.space) (walk.pages c.args.space.now)
    (walk.pages c.read_page.new.space)
    c.args.levels trail.len c.args.depth trail.pages.items c.read_page.new.page c.read_page.ensures.reads c.requires.held c.requires.reached
    (omega (arith, trail.room, c.requires.deep, c.requires.few))

pub returns-in_err-read_page-clause-above : goal.returns-in_err-read_page-clause-above
returns-in_err-read_page-clause-above g c =
    let trail = c.args.trail.now in
    same_above trail.pages.items c.args.depth c.read_page.new.page (omega (arith, trail.room, c.requires.deep, c.requires.few))

pub returns-clause-held : goal.returns-clause-held
returns-clause-held g c =
    let trail = c.args.trail.now in
    held_with (shown.IsTold c.args.space.now) (shown.IsTold c.read_page.new.space) (walk.pages c.args.space.now)
    (walk.pages c.read_page.new.space)
    c.args.levels trail.len c.args.depth trail.pages.items c.read_page.new.page c.read_page.ensures.reads c.requires.held c.requires.reached
    (omega (arith, trail.room, c.requires.deep, c.requires.few))
    c.in_ok-read_page.ensures.held

pub returns-clause-above : goal.returns-clause-above
returns-clause-above g c =
    let trail = c.args.trail.now in
    same_above trail.pages.items c.args.depth c.read_page.new.page (omega (arith, trail.room, c.requires.deep, c.requires.few))

pub returns-clause-reached : goal.returns-clause-reached
returns-clause-reached g c =
    let trail = c.args.trail.now in
    record {
      long = omega arith;
      is = number_set trail.pages.items c.args.depth c.read_page.new.page (omega (arith, trail.room, c.requires.deep, c.requires.few))
          ∙ c.in_ok-read_page.ensures.number;
    }
