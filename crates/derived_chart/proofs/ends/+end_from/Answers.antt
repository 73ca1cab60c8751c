use Rattle.std.proofs.Common.{false, true, rules, ap₂, arith, subst, ◌+◌, ◌-◌, ◌*◌, ◌≡◌, ◌∙◌}
use Rattle.std.proofs.lemmas.Result.{IfOk-weaker, IfErr-weaker}
use Rattle.derived_chart.specs.Bounds.{AreBetween, IsValueOf}
use Rattle.derived_chart.specs.Reads.{levels}
use Rattle.derived_chart.specs.Searches.{IsEndOf}
use Rattle.derived_chart.proofs.SumLemmas.{value_between, passed_on}
use Rattle.derived_chart.proofs.ReadLemmas.{both, halves_len, more}
use Rattle.derived_chart.proofs.EndLemmas.{none_empty, none_clear, none_large, one_end, end_near, end_far}
use Rattle.derived_chart.proofs.ends.+end_from.Goals as goal

pub returns-then-are_in_limits-clause-end : goal.returns-then-are_in_limits-clause-end
returns-then-are_in_limits-clause-end g t c = λ xs ys sums trees are.
    none_large c.args.large sums c.args.p c.args.q c.in-Some.range c.if-large.true (c.are_in_limits.ensures.yes c.if-are_in_limits.true)
    (value_between sums c.args.p c.args.q c.in_ok-range.field-0 c.in-Some.range c.in-Some.is
    (c.in_ok-range.ensures.between xs ys sums trees are))

pub end_from-requires : goal.end_from-requires
end_from-requires g t c κs within =
    let parts = c.halves.ensures.shorter in (
      omega (arith, parts.near_short, parts.near),
      (
        search rules,
        (
          c.in_ok-range.ensures.fit,
          (
            omega (arith, parts.near),
            (
              omega (arith, parts.near_end, c.requires.within, g.met.T.TwoTrees.still_count false _ _ c.in_ok-range.ensures.goes),
              (omega (arith, parts.near_end, c.requires.few), c.requires.small),
            ),
          ),
        ),
      ),
    )

pub end_from-requires-in-None : goal.end_from-requires-in-None
end_from-requires-in-None g t c κs within =
    let parts = c.halves.ensures.shorter in (
      omega (arith, parts.far_short, parts.far),
      (
        search rules,
        (
          c.in_ok-found.ensures.fit,
          (
            omega (arith, parts.far),
            (
              omega (
                arith,
                parts.far_end,
                c.requires.within,
                g.met.T.TwoTrees.still_count false _ _ c.in_ok-range.ensures.goes,
                g.met.T.TwoTrees.still_count false _ _ c.in_ok-found.ensures.goes,
              ),
              (omega (arith, parts.far_end, c.requires.few), c.requires.small),
            ),
          ),
        ),
      ),
    )

pub returns-in-Some-2-clause-end : goal.returns-in-Some-2-clause-end
returns-in-Some-2-clause-end g t c = λ xs ys sums trees are.
    let now = g.met.T.TwoTrees.still_are _ _ xs ys c.in_ok-range.ensures.goes trees in
    end_near c.args.side c.args.large sums c.args.p c.args.q c.halves.result c.in-Some-2.found c.halves.ensures.halves
    (subst (IsEndOf c.args.side c.args.large sums c.halves.result.0.0 c.halves.result.0.1) c.in-Some-2.is
    (c.in_ok-found.ensures.end xs ys sums now are))

pub returns-in-None-clause-end : goal.returns-in-None-clause-end
returns-in-None-clause-end g t c = λ xs ys sums trees are.
    let now = g.met.T.TwoTrees.still_are _ _ xs ys c.in_ok-range.ensures.goes trees in
    IfOk-weaker c.end_from-in-None.result (IsEndOf c.args.side c.args.large sums c.halves.result.1.0 c.halves.result.1.1)
    (IsEndOf c.args.side c.args.large sums c.args.p c.args.q)
    (λ o. end_far c.args.side c.args.large sums c.args.p c.args.q c.halves.result o c.halves.ensures.halves
    (subst (IsEndOf c.args.side c.args.large sums c.halves.result.0.0 c.halves.result.0.1) c.in-None.is
    (c.in_ok-found.ensures.end xs ys sums now are)))
    (c.end_from-in-None.ensures.end xs ys sums (g.met.T.TwoTrees.still_are _ _ xs ys c.in_ok-found.ensures.goes now) are)

pub returns-in_err-found-clause-goes : goal.returns-in_err-found-clause-goes
returns-in_err-found-clause-goes g t c = g.met.T.TwoTrees.goes_on _ _ _ c.in_ok-range.ensures.goes c.in_err-found.ensures.goes

pub returns-in_err-found-clause-cause : goal.returns-in_err-found-clause-cause
returns-in_err-found-clause-cause g t c =
    passed_on c.from_residual-in_err-found.result c.in_err-found.field-0.0
    (g.T.TwoTrees.causes c.args.trees.now c.end_from.new.trees) c.from_residual-in_err-found.ensures.1
    (g.met.T.TwoTrees.causes_behind _ _ _ c.in_err-found.field-0.0 c.in_ok-range.ensures.goes c.in_ok-range.ensures.quiet
    c.in_err-found.ensures.cause)

pub returns-in-Some-2-clause-goes : goal.returns-in-Some-2-clause-goes
returns-in-Some-2-clause-goes g t c = g.met.T.TwoTrees.goes_on _ _ _ c.in_ok-range.ensures.goes c.in_ok-found.ensures.goes

pub returns-in-None-clause-goes : goal.returns-in-None-clause-goes
returns-in-None-clause-goes g t c = g.met.T.TwoTrees.goes_on _ _ _ c.in_ok-range.ensures.goes
    (g.met.T.TwoTrees.goes_on _ _ _ c.in_ok-found.ensures.goes c.end_from-in-None.ensures.goes)

pub returns-in-None-clause-cause : goal.returns-in-None-clause-cause
returns-in-None-clause-cause g t c =
    IfErr-weaker c.end_from-in-None.result (g.T.TwoTrees.causes c.end_from.new.trees c.end_from-in-None.new.trees)
    (g.T.TwoTrees.causes c.args.trees.now c.end_from-in-None.new.trees)
    (λ e. g.met.T.TwoTrees.causes_behind _ _ _ e (g.met.T.TwoTrees.goes_on _ _ _ c.in_ok-range.ensures.goes c.in_ok-found.ensures.goes)
    (c.in_ok-found.ensures.quiet ∙ c.in_ok-range.ensures.quiet)) c.end_from-in-None.ensures.cause

pub returns-then-p-q-clause-end : goal.returns-then-p-q-clause-end
returns-then-p-q-clause-end g t c = λ xs ys sums trees are. none_empty c.args.large sums c.args.p c.args.q c.if-p-q.true

pub returns-in_default-clause-end : goal.returns-in_default-clause-end
returns-in_default-clause-end g t c = λ xs ys sums trees are.
    none_clear c.args.large sums c.args.p c.args.q (subst (AreBetween sums c.args.p c.args.q) c.in_default.is
    (c.in_ok-range.ensures.between xs ys sums trees are))

pub returns-then-q-p-eq1-clause-end : goal.returns-then-q-p-eq1-clause-end
returns-then-q-p-eq1-clause-end g t c = λ xs ys sums trees are.
    let single : c.args.q ≡ c.args.p + 1 = omega arith in
    one_end c.args.side c.args.large sums c.args.p c.args.q c.in-Some.range c.one_found.result single
    (subst (IsValueOf sums c.args.p) c.in-Some.is (c.in_ok-range.ensures.one xs ys sums trees are single)).0 c.one_found.ensures

pub returns-in_err-range-clause-reads : goal.returns-in_err-range-clause-reads
returns-in_err-range-clause-reads g t c =
    more 2 (4 * (c.args.q - c.args.p) - 2) (levels (g.T.TwoTrees.count false c.args.trees.now) (g.T.TwoTrees.count true c.args.trees.now)) _
    _ (omega (arith, c.requires.order, c.if-p-q.false)) c.in_err-range.ensures.reads

pub returns-in_default-clause-reads : goal.returns-in_default-clause-reads
returns-in_default-clause-reads g t c =
    more 2 (4 * (c.args.q - c.args.p) - 2) (levels (g.T.TwoTrees.count false c.args.trees.now) (g.T.TwoTrees.count true c.args.trees.now)) _
    _ (omega (arith, c.requires.order, c.if-p-q.false)) c.in_ok-range.ensures.reads

pub returns-then-are_in_limits-clause-reads : goal.returns-then-are_in_limits-clause-reads
returns-then-are_in_limits-clause-reads g t c =
    more 2 (4 * (c.args.q - c.args.p) - 2) (levels (g.T.TwoTrees.count false c.args.trees.now) (g.T.TwoTrees.count true c.args.trees.now)) _
    _ (omega (arith, c.requires.order, c.if-p-q.false)) c.in_ok-range.ensures.reads

pub returns-then-q-p-eq1-clause-reads : goal.returns-then-q-p-eq1-clause-reads
returns-then-q-p-eq1-clause-reads g t c =
    more 2 (4 * (c.args.q - c.args.p) - 2) (levels (g.T.TwoTrees.count false c.args.trees.now) (g.T.TwoTrees.count true c.args.trees.now)) _
    _ (omega (arith, c.requires.order, c.if-p-q.false)) c.in_ok-range.ensures.reads

pub returns-in_err-found-clause-reads : goal.returns-in_err-found-clause-reads
returns-in_err-found-clause-reads g t c =
    let parts = c.halves.ensures.shorter in
    both 2 (4 * (c.halves.result.0.1 - c.halves.result.0.0) - 2) (4 * (c.args.q - c.args.p) - 2)
    (levels (g.T.TwoTrees.count false c.args.trees.now) (g.T.TwoTrees.count true c.args.trees.now)) _ _ _ _
    (omega (arith, parts.near, parts.near_short))
    (ap₂ levels (g.met.T.TwoTrees.still_count false _ _ c.in_ok-range.ensures.goes)
    (g.met.T.TwoTrees.still_count true _ _ c.in_ok-range.ensures.goes)) c.in_ok-range.ensures.reads c.in_err-found.ensures.reads

pub returns-in-Some-2-clause-reads : goal.returns-in-Some-2-clause-reads
returns-in-Some-2-clause-reads g t c =
    let parts = c.halves.ensures.shorter in
    both 2 (4 * (c.halves.result.0.1 - c.halves.result.0.0) - 2) (4 * (c.args.q - c.args.p) - 2)
    (levels (g.T.TwoTrees.count false c.args.trees.now) (g.T.TwoTrees.count true c.args.trees.now)) _ _ _ _
    (omega (arith, parts.near, parts.near_short))
    (ap₂ levels (g.met.T.TwoTrees.still_count false _ _ c.in_ok-range.ensures.goes)
    (g.met.T.TwoTrees.still_count true _ _ c.in_ok-range.ensures.goes)) c.in_ok-range.ensures.reads c.in_ok-found.ensures.reads

pub returns-in-None-clause-reads : goal.returns-in-None-clause-reads
returns-in-None-clause-reads g t c =
    let parts = c.halves.ensures.shorter in
    both (2 + (4 * (c.halves.result.0.1 - c.halves.result.0.0) - 2)) (4 * (c.halves.result.1.1 - c.halves.result.1.0) - 2)
    (4 * (c.args.q - c.args.p) - 2) (levels (g.T.TwoTrees.count false c.args.trees.now) (g.T.TwoTrees.count true c.args.trees.now)) _ _
    _ _ (omega (arith, parts.near, parts.far, halves_len c.args.side c.args.p c.args.q c.halves.result c.halves.ensures.halves))
    (ap₂ levels (g.met.T.TwoTrees.still_count false _ _
    (g.met.T.TwoTrees.goes_on _ _ _ c.in_ok-range.ensures.goes c.in_ok-found.ensures.goes))
    (g.met.T.TwoTrees.still_count true _ _ (g.met.T.TwoTrees.goes_on _ _ _ c.in_ok-range.ensures.goes c.in_ok-found.ensures.goes)))
    (both 2 (4 * (c.halves.result.0.1 - c.halves.result.0.0) - 2) (2 + (4 * (c.halves.result.0.1 - c.halves.result.0.0) - 2))
    (levels (g.T.TwoTrees.count false c.args.trees.now) (g.T.TwoTrees.count true c.args.trees.now)) _ _ _ _ (omega arith)
    (ap₂ levels (g.met.T.TwoTrees.still_count false _ _ c.in_ok-range.ensures.goes)
    (g.met.T.TwoTrees.still_count true _ _ c.in_ok-range.ensures.goes)) c.in_ok-range.ensures.reads c.in_ok-found.ensures.reads)
    c.end_from-in-None.ensures.reads
