use Rattle.std.proofs.Common.{◌<◌, ◌∙◌, List, ℕ, length, refl, subst, arith}
use Rattle.std.proofs.lemmas.Result.{on_ok_weaker, IfErr-weaker}
use Rattle.gate_pages.specs.GateLaws.{goes_none}
use Rattle.node_page.specs.Layout.{KeepsLayout}
use Rattle.tree_walk.proofs.SpaceLemmas.{reads_none}
use Rattle.tree_walk.proofs.TrailLemmas.{number_is, bytes_are}
use Rattle.tree_walk.proofs.StepLemmas.{error_so, next_is, step_none, step_bad, linked_hit, hit_linked}
use Rattle.tree_walk.specs.Walk as walk
use Rattle.page_space.specs.Shown as shown
use Rattle.tree_walk.proofs.paths.step.Goals as goal

pub next_page-requires-clause-keeps : goal.next_page-requires-clause-keeps
next_page-requires-clause-keeps g c =
    let trail = c.args.trail.now in
    let P : List ℕ → Type 0 = λ b. KeepsLayout b in
    subst P (bytes_are trail.pages.items c.args.depth c.index.result.now
    (omega (arith, trail.room, trail.few, c.requires.reached)) c.index.ensures)
    (c.requires.held c.args.depth c.requires.reached).keeps

pub returns-in_err-number-clause-reads : goal.returns-in_err-number-clause-reads
returns-in_err-number-clause-reads g c = reads_none (shown.IsTold c.args.space.now) (walk.pages c.args.space.now)

pub returns-in_err-number-clause-over : goal.returns-in_err-number-clause-over
returns-in_err-number-clause-over g c = record { superblock = refl; goes_on = goes_none (shown.under c.args.space.now) }

pub returns-in_err-number-clause-held : goal.returns-in_err-number-clause-held
returns-in_err-number-clause-held g c = c.requires.held

pub returns-clause-reads : goal.returns-clause-reads
returns-clause-reads g c = c.hold.ensures.reads

pub returns-clause-over : goal.returns-clause-over
returns-clause-over g c = c.hold.ensures.over

pub returns-clause-count : goal.returns-clause-count
returns-clause-count g c = c.hold.ensures.count

pub returns-clause-held : goal.returns-clause-held
returns-clause-held g c = c.hold.ensures.held

pub returns-clause-above : goal.returns-clause-above
returns-clause-above g c = c.hold.ensures.above

pub returns-clause-asked : goal.returns-clause-asked
returns-clause-asked g c = c.hold.ensures.asked

pub returns-in_err-number-clause-cause : goal.returns-in_err-number-clause-cause
returns-in_err-number-clause-cause g c =
    let trail = c.args.trail.now in
    let page = c.index.result.now in
    let within : c.args.depth < length trail.pages.items = omega (arith, trail.room, trail.few, c.requires.reached) in
    error_so _ _ c.from_residual.result c.from_residual.ensures.1
    (λ e is. step_none (shown.IsTold c.args.space.now) (walk.pages c.args.space.now)
    (walk.pages c.args.space.now) trail.pages.items c.args.key c.args.levels c.args.depth
    page.number c.path_child-child.result c.total.result page.bytes.items e
    (number_is trail.pages.items c.args.depth page within c.index.ensures)
    (bytes_are trail.pages.items c.args.depth page within c.index.ensures)
    c.path_child-child.ensures.child c.total.ensures.total
    (c.requires.held c.args.depth c.requires.reached).below c.in_err-number.ensures.missing (is ∙ c.in_err-number.ensures.names))

pub returns-clause-hit : goal.returns-clause-hit
returns-clause-hit g c = λ long linked.
    let trail = c.args.trail.now in
    let page = c.index.result.now in
    let bytes = bytes_are trail.pages.items c.args.depth page (omega (arith, trail.room, trail.few, c.requires.reached)) c.index.ensures in
    let next = next_is trail.pages.items c.args.key c.args.levels c.args.depth c.in_ok-number.number c.path_child-child.result
    page.bytes.items bytes c.path_child-child.ensures.child c.in_ok-number.ensures.number in
    c.hold.ensures.hit (linked_hit trail c.args.key c.args.levels c.args.depth c.in_ok-number.number long linked next)

pub returns-clause-still : goal.returns-clause-still
returns-clause-still g c = λ long linked.
    let trail = c.args.trail.now in
    let page = c.index.result.now in
    let bytes = bytes_are trail.pages.items c.args.depth page (omega (arith, trail.room, trail.few, c.requires.reached)) c.index.ensures in
    let next = next_is trail.pages.items c.args.key c.args.levels c.args.depth c.in_ok-number.number c.path_child-child.result
    page.bytes.items bytes c.path_child-child.ensures.child c.in_ok-number.ensures.number in
    c.hold.ensures.still (linked_hit trail c.args.key c.args.levels c.args.depth c.in_ok-number.number long linked next)

pub returns-clause-linked : goal.returns-clause-linked
returns-clause-linked g c =
    let trail = c.args.trail.now in
    let page = c.index.result.now in
    let bytes = bytes_are trail.pages.items c.args.depth page (omega (arith, trail.room, trail.few, c.requires.reached)) c.index.ensures in
    let next = next_is trail.pages.items c.args.key c.args.levels c.args.depth c.in_ok-number.number c.path_child-child.result
    page.bytes.items bytes c.path_child-child.ensures.child c.in_ok-number.ensures.number in
    on_ok_weaker c.hold.result
    (λ hit. hit_linked trail c.hold.new.trail c.args.key c.args.levels c.args.depth c.in_ok-number.number c.hold.ensures.above next
    c.in_ok-number.ensures.there hit)
    c.hold.ensures.reached

pub returns-clause-cause : goal.returns-clause-cause
returns-clause-cause g c =
    let trail = c.args.trail.now in
    let page = c.index.result.now in
    let bytes = bytes_are trail.pages.items c.args.depth page (omega (arith, trail.room, trail.few, c.requires.reached)) c.index.ensures in
    let next = next_is trail.pages.items c.args.key c.args.levels c.args.depth c.in_ok-number.number c.path_child-child.result
    page.bytes.items bytes c.path_child-child.ensures.child c.in_ok-number.ensures.number in
    IfErr-weaker c.hold.result _ _
    (λ e cause. step_bad (shown.IsTold c.args.space.now) (walk.pages c.args.space.now)
    (walk.pages c.hold.new.space) trail.pages.items c.args.key c.args.levels c.args.depth
    c.in_ok-number.number e next c.in_ok-number.ensures.there (omega (arith, c.in_ok-number.ensures.below, c.total.ensures.total)) cause)
    c.hold.ensures.cause
