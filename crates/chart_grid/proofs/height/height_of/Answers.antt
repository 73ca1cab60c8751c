use Rattle.std.proofs.Common.{◌≡◌, ◌*◌, ◌/◌, ◌-◌, ◌∙◌, ap, ◌<ℤ◌, ◌≤ℤ◌, SFits, rules, w64, arith}
use Rattle.std.specs.Int.{w128, div_ceil}
use Rattle.std.proofs.lemmas.Int.{ints, to_z-of_z}
use Rattle.chart_grid.proofs.Heights.{above_is, below_is, height-is_at, height-size_at}
use Rattle.chart_grid.proofs.height.height_of.Goals as goal

pub returns-else-lo-v-clause-value : goal.returns-else-lo-v-clause-value
returns-else-lo-v-clause-value c =
    let vf : SFits w64 c.args.v = c.ranges.v in
    let lf : SFits w64 c.args.lo = c.ranges.lo in
    let hf : SFits w64 c.args.hi = c.ranges.hi in
    let wide : c.args.lo <ℤ c.args.hi = omega (arith, ints) in
    let down : c.args.v ≤ℤ c.args.lo = omega (arith, ints) in
    let n : c.share_up.result ≡ div_ceil (c.gap-else-lo-v.result * (c.args.h - 1)) c.gap-span.result =
    c.share_up.ensures ∙ ap (λ k. div_ceil (c.gap-else-lo-v.result * k) c.gap-span.result) c.saturating_sub-steps.ensures in
    to_z-of_z w128 c.below.result (search rules)
    ∙ below_is c.args.v c.args.lo c.args.hi c.args.h _ _ _ _ wide down (simp to_z-of_z at c.gap-else-lo-v.ensures)
    (simp to_z-of_z at c.gap-span.ensures) n c.below.ensures

pub returns-else-lo-v-clause-floor : goal.returns-else-lo-v-clause-floor
returns-else-lo-v-clause-floor c =
    height-is_at c.args.v c.args.lo c.args.hi c.args.h _ (returns-else-lo-v-clause-value c)

pub returns-else-lo-v-clause-size : goal.returns-else-lo-v-clause-size
returns-else-lo-v-clause-size c = height-size_at c.args.v c.args.lo c.args.hi c.args.h _ (returns-else-lo-v-clause-value c)

pub returns-then-lo-v-clause-value : goal.returns-then-lo-v-clause-value
returns-then-lo-v-clause-value c =
    let vf : SFits w64 c.args.v = c.ranges.v in
    let lf : SFits w64 c.args.lo = c.ranges.lo in
    let hf : SFits w64 c.args.hi = c.ranges.hi in
    let wide : c.args.lo <ℤ c.args.hi = omega (arith, ints) in
    let up : c.args.lo ≤ℤ c.args.v = omega (arith, ints) in
    let n : c.share.result ≡ c.gap.result * (c.args.h - 1) / c.gap-span.result =
    c.share.ensures ∙ ap (λ k. c.gap.result * k / c.gap-span.result) c.saturating_sub-steps.ensures in
    to_z-of_z w128 c.above.result (search rules)
    ∙ above_is c.args.v c.args.lo c.args.hi c.args.h _ _ _ _ wide up (simp to_z-of_z at c.gap.ensures)
    (simp to_z-of_z at c.gap-span.ensures) n c.above.ensures

pub returns-then-lo-v-clause-floor : goal.returns-then-lo-v-clause-floor
returns-then-lo-v-clause-floor c =
    height-is_at c.args.v c.args.lo c.args.hi c.args.h _ (returns-then-lo-v-clause-value c)

pub returns-then-lo-v-clause-size : goal.returns-then-lo-v-clause-size
returns-then-lo-v-clause-size c = height-size_at c.args.v c.args.lo c.args.hi c.args.h _ (returns-then-lo-v-clause-value c)
