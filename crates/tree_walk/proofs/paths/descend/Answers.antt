use Rattle.std.proofs.Common.{◌≡◌, ◌∙◌, ◌-◌, ap, sym, subst, arith}
use Rattle.om3_coeff.specs.Keys.{page_levels}
use Rattle.om3_coeff.specs.declared.errors.NodeError.{NodeError}
use Rattle.node_page.specs.Places.{page_level}
use Rattle.tree_walk.specs.Holding.{IsHoldCause, IsStepCause}
use Rattle.tree_walk.proofs.SpaceLemmas.{stays_then}
use Rattle.tree_walk.proofs.PathLemmas.{level_low, level_few}
use Rattle.tree_walk.proofs.StepLemmas.{error_so}
use Rattle.tree_walk.proofs.WayLemmas.{held_by, read_keeps, keep_on, way_start, way_on, way_leads, order_reads, top_reads}
use Rattle.tree_walk.proofs.WayLemmas.{order_reads_failed, top_reads_failed, root_bad, way_bad}
use Rattle.tree_walk.specs.Walk as walk
use Rattle.page_space.specs.Shown as shown
use Rattle.tree_walk.proofs.paths.descend.Goals as goal

pub overflow_sub-depth : goal.overflow_sub-depth
overflow_sub-depth g c =
    let levels : c.from-levels.result ≡ page_levels c.args.tree.slots = c.from-levels.ensures ∙ c.page_levels.ensures.levels in
    let own : c.from.result ≡ page_level c.args.key.level = c.from.ensures ∙ c.page_level.ensures.level in
    omega (arith, levels, own, level_few c.args.key.level (page_levels c.args.tree.slots) c.requires.key.high)

pub returns-in_err-hold-clause-kept : goal.returns-in_err-hold-clause-kept
returns-in_err-hold-clause-kept g c =
    read_keeps (shown.IsTold c.args.space.now) (shown.IsTold c.hold.new.space) (walk.pages c.args.space.now)
    (walk.pages c.hold.new.space) c.hold.ensures.reads

pub returns-in_err-hold-clause-over : goal.returns-in_err-hold-clause-over
returns-in_err-hold-clause-over g c = c.hold.ensures.over

pub returns-in_err-hold-clause-count : goal.returns-in_err-hold-clause-count
returns-in_err-hold-clause-count g c = c.hold.ensures.count

pub returns-in_err-hold-clause-held : goal.returns-in_err-hold-clause-held
returns-in_err-hold-clause-held g c =
    let levels : c.from-levels.result ≡ page_levels c.args.tree.slots = c.from-levels.ensures ∙ c.page_levels.ensures.levels in
    held_by (shown.IsTold c.hold.new.space) (walk.pages c.hold.new.space).image (walk.pages c.hold.new.space).size c.from-levels.result
    (page_levels c.args.tree.slots) c.hold.new.trail.pages.items c.hold.new.trail.len levels c.hold.ensures.held

pub returns-in_err-hold-clause-one_read : goal.returns-in_err-hold-clause-one_read
returns-in_err-hold-clause-one_read g c = λ last leads follows. c.hold.ensures.reads.reads.high

pub returns-in_err-hold-clause-top_read : goal.returns-in_err-hold-clause-top_read
returns-in_err-hold-clause-top_read g c = λ top. c.hold.ensures.reads.reads.high

pub returns-in_err-hold-clause-reads : goal.returns-in_err-hold-clause-reads
returns-in_err-hold-clause-reads g c =
    let levels : c.from-levels.result ≡ page_levels c.args.tree.slots = c.from-levels.ensures ∙ c.page_levels.ensures.levels in
    omega (arith, levels, c.from-levels.ensures, c.page_levels.ensures.some, c.hold.ensures.reads.reads.high)

pub returns-in_err-step-clause-count : goal.returns-in_err-step-clause-count
returns-in_err-step-clause-count g c = c.step.ensures.count ∙ c.loop-above.invariant.count

pub returns-clause-count : goal.returns-clause-count
returns-clause-count g c = c.loop-above.invariant.count

pub returns-in_err-hold-clause-cause : goal.returns-in_err-hold-clause-cause
returns-in_err-hold-clause-cause g c =
    let levels : c.from-levels.result ≡ page_levels c.args.tree.slots = c.from-levels.ensures ∙ c.page_levels.ensures.levels in
    let C : NodeError → Type 0 = λ e. IsHoldCause (shown.IsTold c.args.space.now) (walk.pages c.args.space.now)
    (walk.pages c.hold.new.space) c.args.tree.root (c.from-levels.result - 0) e in
    error_so _ _ c.from_residual.result c.from_residual.ensures.1
    (λ e is. root_bad (shown.IsTold c.args.space.now) (walk.pages c.args.space.now)
    (walk.pages c.hold.new.space) c.args.tree c.args.key c.from-levels.result e levels c.requires.key c.requires.root
    (subst C (sym is) c.in_err-hold.ensures.cause))

pub loop-above-init : goal.loop-above-init
loop-above-init g c = record {
  way = way_start (shown.IsTold c.args.space.now) (shown.IsTold c.hold.new.space) (walk.pages c.args.space.now)
      (walk.pages c.hold.new.space) c.args.tree c.from-levels.result c.args.trail.now c.hold.new.trail c.args.key
      c.hold.ensures.reads c.hold.ensures.held c.hold.ensures.asked c.in_ok-hold.ensures.reached
      (λ hit. ap (λ p. (shown.view p).reads) (c.hold.ensures.hit hit)) c.hold.ensures.still;
  over = c.hold.ensures.over;
  count = c.hold.ensures.count;
  same = c.in_ok-hold.ensures.quiet;
}

pub step-requires-clause-sound : goal.step-requires-clause-sound
step-requires-clause-sound g c = c.loop-above.invariant.way.kept.fit c.requires.sound

pub step-requires-clause-above : goal.step-requires-clause-above
step-requires-clause-above g c =
    let own : c.from.result ≡ page_level c.args.key.level = c.from.ensures ∙ c.page_level.ensures.level in
    level_low c.args.key.level (c.from-levels.result - c.loop-above.above - 1) (omega (arith, own, c.loop-above-test.true))

pub step-requires-clause-reached : goal.step-requires-clause-reached
step-requires-clause-reached g c = c.loop-above.invariant.way.long

pub step-requires-clause-held : goal.step-requires-clause-held
step-requires-clause-held g c = c.loop-above.invariant.way.held

pub loop-above-preserved : goal.loop-above-preserved
loop-above-preserved g c =
    let levels : c.from-levels.result ≡ page_levels c.args.tree.slots = c.from-levels.ensures ∙ c.page_levels.ensures.levels in
    record {
      way = way_on (shown.IsTold c.args.space.now) (shown.IsTold c.loop-above.space) (shown.IsTold c.step.new.space)
          (walk.pages c.args.space.now) (walk.pages c.loop-above.space)
          (walk.pages c.step.new.space) c.args.tree c.from-levels.result c.args.trail.now c.loop-above.trail c.step.new.trail c.args.key
          c.loop-above.above levels
          c.loop-above.invariant.way c.step.ensures.reads c.step.ensures.held c.step.ensures.asked c.step.ensures.above
          c.in_ok-step.ensures.reached c.in_ok-step.ensures.linked
          (λ long linked. ap (λ p. (shown.view p).reads) (c.step.ensures.hit long linked)) c.step.ensures.still;
      over = stays_then (shown.numbers c.args.space.now) (shown.numbers c.loop-above.space) (shown.numbers c.step.new.space)
          (shown.under c.args.space.now) (shown.under c.loop-above.space) (shown.under c.step.new.space)
          c.loop-above.invariant.over c.step.ensures.over;
      count = c.step.ensures.count ∙ c.loop-above.invariant.count;
      same = c.in_ok-step.ensures.quiet ∙ c.loop-above.invariant.same;
    }

pub returns-in_err-step-clause-kept : goal.returns-in_err-step-clause-kept
returns-in_err-step-clause-kept g c =
    keep_on (shown.IsTold c.args.space.now) (shown.IsTold c.loop-above.space) (shown.IsTold c.step.new.space) (walk.pages c.args.space.now)
    (walk.pages c.loop-above.space) (walk.pages c.step.new.space) c.loop-above.invariant.way.kept
    (read_keeps (shown.IsTold c.loop-above.space) (shown.IsTold c.step.new.space) (walk.pages c.loop-above.space)
    (walk.pages c.step.new.space) c.step.ensures.reads)

pub returns-in_err-step-clause-held : goal.returns-in_err-step-clause-held
returns-in_err-step-clause-held g c =
    let levels : c.from-levels.result ≡ page_levels c.args.tree.slots = c.from-levels.ensures ∙ c.page_levels.ensures.levels in
    held_by (shown.IsTold c.step.new.space) (walk.pages c.step.new.space).image (walk.pages c.step.new.space).size c.from-levels.result
    (page_levels c.args.tree.slots) c.step.new.trail.pages.items c.step.new.trail.len levels c.step.ensures.held

pub returns-in_err-step-clause-asked : goal.returns-in_err-step-clause-asked
returns-in_err-step-clause-asked g c = c.step.ensures.asked ∙ c.loop-above.invariant.way.asked

pub returns-in_err-step-clause-one_read : goal.returns-in_err-step-clause-one_read
returns-in_err-step-clause-one_read g c = λ last leads follows.
    let levels : c.from-levels.result ≡ page_levels c.args.tree.slots = c.from-levels.ensures ∙ c.page_levels.ensures.levels in
    let own : c.from.result ≡ page_level c.args.key.level = c.from.ensures ∙ c.page_level.ensures.level in
    order_reads_failed (shown.IsTold c.args.space.now) (shown.IsTold c.loop-above.space) (walk.pages c.args.space.now)
    (walk.pages c.loop-above.space) (walk.pages c.step.new.space).reads c.args.tree c.from-levels.result c.args.trail.now
    c.loop-above.trail c.args.key last c.loop-above.above levels
    (omega (arith, own, c.loop-above-test.true)) c.loop-above.invariant.way c.step.ensures.reads.reads.high leads follows

pub returns-in_err-step-clause-top_read : goal.returns-in_err-step-clause-top_read
returns-in_err-step-clause-top_read g c = λ top.
    let levels : c.from-levels.result ≡ page_levels c.args.tree.slots = c.from-levels.ensures ∙ c.page_levels.ensures.levels in
    let own : c.from.result ≡ page_level c.args.key.level = c.from.ensures ∙ c.page_level.ensures.level in
    top_reads_failed c.from-levels.result (walk.pages c.step.new.space).reads
    (walk.pages c.args.space.now).reads c.loop-above.above c.args.tree c.args.key levels
    (omega (arith, own, c.loop-above-test.true)) top

pub returns-in_err-step-clause-reads : goal.returns-in_err-step-clause-reads
returns-in_err-step-clause-reads g c =
    let levels : c.from-levels.result ≡ page_levels c.args.tree.slots = c.from-levels.ensures ∙ c.page_levels.ensures.levels in
    omega (
      arith,
      levels,
      c.loop-above-test.true,
      c.page_level.ensures.some,
      c.from.ensures,
      c.loop-above.invariant.way.reads,
      c.step.ensures.reads.reads.high,
    )

pub returns-in_err-step-clause-cause : goal.returns-in_err-step-clause-cause
returns-in_err-step-clause-cause g c =
    let levels : c.from-levels.result ≡ page_levels c.args.tree.slots = c.from-levels.ensures ∙ c.page_levels.ensures.levels in
    let own : c.from.result ≡ page_level c.args.key.level = c.from.ensures ∙ c.page_level.ensures.level in
    let trail = c.loop-above.trail in
    let C : NodeError → Type 0 = λ e. IsStepCause (shown.IsTold c.loop-above.space) (walk.pages c.loop-above.space)
    (walk.pages c.step.new.space) trail.pages.items c.args.key c.from-levels.result c.loop-above.above e in
    error_so _ _ c.from_residual-in_err-step.result c.from_residual-in_err-step.ensures.1
    (λ e is. way_bad (shown.IsTold c.args.space.now) (shown.IsTold c.loop-above.space) (walk.pages c.args.space.now)
    (walk.pages c.loop-above.space) (walk.pages c.step.new.space) c.args.tree c.from-levels.result c.args.trail.now trail c.args.key
    c.loop-above.above e levels
    (omega (arith, own, c.loop-above-test.true)) c.loop-above.invariant.way c.loop-above.invariant.same
    (subst C (sym is) c.in_err-step.ensures.cause))

pub returns-clause-kept : goal.returns-clause-kept
returns-clause-kept g c = c.loop-above.invariant.way.kept

pub returns-clause-held : goal.returns-clause-held
returns-clause-held g c =
    let levels : c.from-levels.result ≡ page_levels c.args.tree.slots = c.from-levels.ensures ∙ c.page_levels.ensures.levels in
    held_by (shown.IsTold c.loop-above.space) (walk.pages c.loop-above.space).image
    (walk.pages c.loop-above.space).size c.from-levels.result
    (page_levels c.args.tree.slots) c.loop-above.trail.pages.items c.loop-above.trail.len levels c.loop-above.invariant.way.held

pub returns-clause-leads : goal.returns-clause-leads
returns-clause-leads g c =
    let levels : c.from-levels.result ≡ page_levels c.args.tree.slots = c.from-levels.ensures ∙ c.page_levels.ensures.levels in
    let own : c.from.result ≡ page_level c.args.key.level = c.from.ensures ∙ c.page_level.ensures.level in
    way_leads (shown.IsTold c.args.space.now) (shown.IsTold c.loop-above.space) (walk.pages c.args.space.now)
    (walk.pages c.loop-above.space) c.args.tree c.from-levels.result c.args.trail.now c.loop-above.trail c.args.key c.loop-above.above
    levels c.requires.key
    (omega (arith, own, c.loop-above-test.false, c.loop-above.auto.above-end)) c.loop-above.invariant.way

pub returns-clause-asked : goal.returns-clause-asked
returns-clause-asked g c = c.loop-above.invariant.way.asked

pub returns-clause-one_read : goal.returns-clause-one_read
returns-clause-one_read g c = λ last leads follows.
    let levels : c.from-levels.result ≡ page_levels c.args.tree.slots = c.from-levels.ensures ∙ c.page_levels.ensures.levels in
    let own : c.from.result ≡ page_level c.args.key.level = c.from.ensures ∙ c.page_level.ensures.level in
    order_reads (shown.IsTold c.args.space.now) (shown.IsTold c.loop-above.space) (walk.pages c.args.space.now)
    (walk.pages c.loop-above.space) c.args.tree c.from-levels.result c.args.trail.now c.loop-above.trail c.args.key last
    c.loop-above.above levels
    (omega (arith, own, c.loop-above-test.false, c.loop-above.auto.above-end)) c.loop-above.invariant.way leads follows

pub returns-clause-top_read : goal.returns-clause-top_read
returns-clause-top_read g c = λ top.
    let levels : c.from-levels.result ≡ page_levels c.args.tree.slots = c.from-levels.ensures ∙ c.page_levels.ensures.levels in
    let own : c.from.result ≡ page_level c.args.key.level = c.from.ensures ∙ c.page_level.ensures.level in
    top_reads (shown.IsTold c.args.space.now) (shown.IsTold c.loop-above.space) (walk.pages c.args.space.now)
    (walk.pages c.loop-above.space) c.args.tree c.from-levels.result c.args.trail.now c.loop-above.trail c.args.key c.loop-above.above
    levels
    (omega (arith, own, c.loop-above-test.false, c.loop-above.auto.above-end)) c.loop-above.invariant.way top

pub returns-clause-reads : goal.returns-clause-reads
returns-clause-reads g c =
    let levels : c.from-levels.result ≡ page_levels c.args.tree.slots = c.from-levels.ensures ∙ c.page_levels.ensures.levels in
    omega (
      arith,
      levels,
      c.loop-above-test.false,
      c.loop-above.auto.above-end,
      c.page_level.ensures.some,
      c.from.ensures,
      c.from-levels.ensures,
      c.page_levels.ensures.some,
      c.loop-above.invariant.way.reads,
    )

pub returns-in_err-step-clause-over : goal.returns-in_err-step-clause-over
returns-in_err-step-clause-over g c =
    stays_then (shown.numbers c.args.space.now) (shown.numbers c.loop-above.space) (shown.numbers c.step.new.space)
    (shown.under c.args.space.now) (shown.under c.loop-above.space) (shown.under c.step.new.space)
    c.loop-above.invariant.over c.step.ensures.over

pub returns-clause-over : goal.returns-clause-over
returns-clause-over g c = c.loop-above.invariant.over
