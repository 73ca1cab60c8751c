use Rattle.std.proofs.Common.{refl}
use Rattle.gate_pages.specs.GateLaws.{goes_none}
use Rattle.tree_walk.proofs.SpaceLemmas.{reads_none}
use Rattle.tree_walk.proofs.WayLemmas.{read_keeps}
use Rattle.tree_walk.proofs.AskLemmas.{asked_reads}
use Rattle.tree_walk.proofs.NearLemmas.{node_of_any, near_leads_any}
use Rattle.tree_walk.specs.Walk as walk
use Rattle.page_space.specs.Shown as shown
use Rattle.tree_walk.proofs.paths.reach.Goals as goal

pub is_near-requires-clause-last : goal.is_near-requires-clause-last
is_near-requires-clause-last g c = node_of_any c.args.tree c.args.trail.now.pages.items c.args.trail.now.len c.args.last c.requires.leads

pub returns-then-is_near-clause-kept : goal.returns-then-is_near-clause-kept
returns-then-is_near-clause-kept g c =
    let told = shown.IsTold c.args.space.now in
    let pages = walk.pages c.args.space.now in
    read_keeps told told pages pages (reads_none told pages)

pub returns-then-is_near-clause-over : goal.returns-then-is_near-clause-over
returns-then-is_near-clause-over g c = record { superblock = refl; goes_on = goes_none (shown.under c.args.space.now) }

pub returns-then-is_near-clause-held : goal.returns-then-is_near-clause-held
returns-then-is_near-clause-held g c = c.requires.held

pub returns-then-is_near-clause-leads : goal.returns-then-is_near-clause-leads
returns-then-is_near-clause-leads g c =
    let trail = c.args.trail.now in
    near_leads_any c.args.tree trail.pages.items trail.len c.args.key c.args.last c.requires.key
    (c.is_near.ensures c.if-is_near.true) c.requires.leads

pub returns-clause-kept : goal.returns-clause-kept
returns-clause-kept g c = c.descend.ensures.kept

pub returns-clause-over : goal.returns-clause-over
returns-clause-over g c = c.descend.ensures.over

pub returns-clause-count : goal.returns-clause-count
returns-clause-count g c = c.descend.ensures.count

pub returns-clause-held : goal.returns-clause-held
returns-clause-held g c = c.descend.ensures.held

pub returns-clause-one_read : goal.returns-clause-one_read
returns-clause-one_read g c =
    let trail = c.args.trail.now in
    asked_reads c.args.tree trail.pages.items trail.len c.args.last c.args.key (walk.pages c.args.space.now).reads
    (walk.pages c.descend.new.space).reads c.requires.leads c.descend.ensures.one_read c.descend.ensures.top_read

pub returns-clause-reads : goal.returns-clause-reads
returns-clause-reads g c = c.descend.ensures.reads
