use Rattle.std.proofs.Common.{rules, ap₂, arith, false, true, ◌+◌, ◌-◌, ◌*◌, ◌/◌, ◌∙◌}
use Rattle.std.proofs.lemmas.Result.{IfOk-weaker, IfErr-weaker}
use Rattle.derived_chart.specs.Reads.{levels}
use Rattle.derived_chart.specs.Searches.{IsBestWith}
use Rattle.derived_chart.proofs.BestLemmas.{best_none, best_worse, best_left, best_right}
use Rattle.derived_chart.proofs.ReadLemmas.{both, more}
use Rattle.derived_chart.proofs.SumLemmas.{passed_on}
use Rattle.derived_chart.proofs.searches.+best_from.Goals as goal

pub returns-then-is_no_better-clause-best : goal.returns-then-is_no_better-clause-best
returns-then-is_no_better-clause-best g t c = λ xs ys sums trees are range.
    best_worse c.args.best sums c.args.p c.args.q c.args.found.now c.args.range.now _ c.in-Some.is
    (c.is_no_better.ensures.yes c.if-is_no_better.true) range

pub best_from-requires-then-is_second_better : goal.best_from-requires-then-is_second_better
best_from-requires-then-is_second_better g t c κs within =
    let one = g.met.T.TwoTrees.still_count false _ _ c.in_ok-left.ensures.goes in
    let two = g.met.T.TwoTrees.still_count false _ _ c.in_ok-right.ensures.goes in
    let three = g.met.T.TwoTrees.still_count false _ _ c.in_ok-first.ensures.goes in (
      omega (arith, c.requires.some, c.are_few.ensures.no c.if-are_few.false),
      (
        search rules,
        (
          c.in_ok-first.ensures.fit,
          (
            omega (arith, c.requires.some, c.are_few.ensures.no c.if-are_few.false),
            (
              omega (arith, c.requires.some, c.requires.within, one, two, three),
              (omega (arith, c.requires.some, c.requires.few), c.requires.small),
            ),
          ),
        ),
      ),
    )

pub returns-then-is_second_better-clause-best : goal.returns-then-is_second_better-clause-best
returns-then-is_second_better-clause-best g t c = λ xs ys sums trees are range.
    let middle = c.args.p + (c.args.q - c.args.p) / 2 in
    let one = g.met.T.TwoTrees.still_are _ _ xs ys c.in_ok-left.ensures.goes trees in
    let two = g.met.T.TwoTrees.still_are _ _ xs ys c.in_ok-right.ensures.goes one in
    let three = g.met.T.TwoTrees.still_are _ _ xs ys c.in_ok-first.ensures.goes two in
    IfOk-weaker c.best_from-then-is_second_better.result (IsBestWith c.args.best sums c.args.p middle c.in_ok-first.first)
    (IsBestWith c.args.best sums c.args.p c.args.q c.args.found.now)
    (λ found. best_right c.args.best sums c.args.p middle c.args.q c.args.found.now c.in_ok-first.first found (omega arith)
    (omega (arith, c.requires.some))
    (c.in_ok-first.ensures.best xs ys sums two are (record {
      between = c.in_ok-right.ensures.between xs ys sums one are;
      one = c.in_ok-right.ensures.one xs ys sums one are;
    })))
    (c.best_from-then-is_second_better.ensures.best xs ys sums three are
    (record { between = c.in_ok-left.ensures.between xs ys sums trees are; one = c.in_ok-left.ensures.one xs ys sums trees are }))

pub returns-then-is_second_better-clause-goes : goal.returns-then-is_second_better-clause-goes
returns-then-is_second_better-clause-goes g t c =
    g.met.T.TwoTrees.goes_on _ _ _ c.in_ok-left.ensures.goes
    (g.met.T.TwoTrees.goes_on _ _ _ c.in_ok-right.ensures.goes
    (g.met.T.TwoTrees.goes_on _ _ _ c.in_ok-first.ensures.goes c.best_from-then-is_second_better.ensures.goes))

pub returns-then-is_second_better-clause-cause : goal.returns-then-is_second_better-clause-cause
returns-then-is_second_better-clause-cause g t c =
    IfErr-weaker c.best_from-then-is_second_better.result
    (g.T.TwoTrees.causes c.best_from.new.trees c.best_from-then-is_second_better.new.trees)
    (g.T.TwoTrees.causes c.args.trees.now c.best_from-then-is_second_better.new.trees)
    (λ e. g.met.T.TwoTrees.causes_behind _ _ _ e (g.met.T.TwoTrees.goes_on _ _ _ c.in_ok-left.ensures.goes
    (g.met.T.TwoTrees.goes_on _ _ _ c.in_ok-right.ensures.goes c.in_ok-first.ensures.goes)) (c.in_ok-first.ensures.quiet
    ∙ c.in_ok-right.ensures.quiet ∙ c.in_ok-left.ensures.quiet)) c.best_from-then-is_second_better.ensures.cause

pub best_from-requires-3 : goal.best_from-requires-3
best_from-requires-3 g t c κs within =
    let one = g.met.T.TwoTrees.still_count false _ _ c.in_ok-left.ensures.goes in
    let two = g.met.T.TwoTrees.still_count false _ _ c.in_ok-right.ensures.goes in
    let three = g.met.T.TwoTrees.still_count false _ _ c.in_ok-first-2.ensures.goes in (
      omega (arith, c.requires.some, c.are_few.ensures.no c.if-are_few.false),
      (
        search rules,
        (
          c.in_ok-first-2.ensures.fit,
          (
            omega (arith, c.requires.some, c.are_few.ensures.no c.if-are_few.false),
            (omega (arith, c.requires.within, one, two, three), (c.requires.few, c.requires.small)),
          ),
        ),
      ),
    )

pub returns-clause-best : goal.returns-clause-best
returns-clause-best g t c = λ xs ys sums trees are range.
    let middle = c.args.p + (c.args.q - c.args.p) / 2 in
    let one = g.met.T.TwoTrees.still_are _ _ xs ys c.in_ok-left.ensures.goes trees in
    let two = g.met.T.TwoTrees.still_are _ _ xs ys c.in_ok-right.ensures.goes one in
    let three = g.met.T.TwoTrees.still_are _ _ xs ys c.in_ok-first-2.ensures.goes two in
    IfOk-weaker c.best_from-3.result (IsBestWith c.args.best sums middle c.args.q c.in_ok-first-2.first)
    (IsBestWith c.args.best sums c.args.p c.args.q c.args.found.now)
    (λ found. best_left c.args.best sums c.args.p middle c.args.q c.args.found.now c.in_ok-first-2.first found (omega arith)
    (omega (arith, c.requires.some))
    (c.in_ok-first-2.ensures.best xs ys sums two are
    (record { between = c.in_ok-left.ensures.between xs ys sums trees are; one = c.in_ok-left.ensures.one xs ys sums trees are })))
    (c.best_from-3.ensures.best xs ys sums three are
    (record { between = c.in_ok-right.ensures.between xs ys sums one are; one = c.in_ok-right.ensures.one xs ys sums one are }))

pub returns-clause-goes : goal.returns-clause-goes
returns-clause-goes g t c =
    g.met.T.TwoTrees.goes_on _ _ _ c.in_ok-left.ensures.goes
    (g.met.T.TwoTrees.goes_on _ _ _ c.in_ok-right.ensures.goes
    (g.met.T.TwoTrees.goes_on _ _ _ c.in_ok-first-2.ensures.goes c.best_from-3.ensures.goes))

pub returns-clause-cause : goal.returns-clause-cause
returns-clause-cause g t c =
    IfErr-weaker c.best_from-3.result (g.T.TwoTrees.causes c.best_from-2.new.trees c.best_from-3.new.trees)
    (g.T.TwoTrees.causes c.args.trees.now c.best_from-3.new.trees)
    (λ e. g.met.T.TwoTrees.causes_behind _ _ _ e (g.met.T.TwoTrees.goes_on _ _ _ c.in_ok-left.ensures.goes
    (g.met.T.TwoTrees.goes_on _ _ _ c.in_ok-right.ensures.goes c.in_ok-first-2.ensures.goes)) (c.in_ok-first-2.ensures.quiet
    ∙ c.in_ok-right.ensures.quiet ∙ c.in_ok-left.ensures.quiet)) c.best_from-3.ensures.cause

pub bounds-requires-2-clause-within : goal.bounds-requires-2-clause-within
bounds-requires-2-clause-within g t c = omega (arith, c.requires.within, g.met.T.TwoTrees.still_count false _ _ c.in_ok-left.ensures.goes)

pub returns-in_err-right-clause-goes : goal.returns-in_err-right-clause-goes
returns-in_err-right-clause-goes g t c = g.met.T.TwoTrees.goes_on _ _ _ c.in_ok-left.ensures.goes c.in_err-right.ensures.goes

pub returns-in_err-right-clause-cause : goal.returns-in_err-right-clause-cause
returns-in_err-right-clause-cause g t c =
    passed_on c.from_residual-in_err-right.result c.in_err-right.field-0.0
    (g.T.TwoTrees.causes c.args.trees.now c.bounds-2.new.trees) c.from_residual-in_err-right.ensures.1
    (g.met.T.TwoTrees.causes_behind _ _ _ c.in_err-right.field-0.0 c.in_ok-left.ensures.goes c.in_ok-left.ensures.quiet
    c.in_err-right.ensures.cause)

pub returns-in_err-first-clause-goes : goal.returns-in_err-first-clause-goes
returns-in_err-first-clause-goes g t c = g.met.T.TwoTrees.goes_on _ _ _ c.in_ok-left.ensures.goes
    (g.met.T.TwoTrees.goes_on _ _ _ c.in_ok-right.ensures.goes c.in_err-first.ensures.goes)

pub returns-in_err-first-clause-cause : goal.returns-in_err-first-clause-cause
returns-in_err-first-clause-cause g t c =
    passed_on c.from_residual-in_err-first.result c.in_err-first.field-0.0
    (g.T.TwoTrees.causes c.args.trees.now c.best_from.new.trees) c.from_residual-in_err-first.ensures.1
    (g.met.T.TwoTrees.causes_behind _ _ _ c.in_err-first.field-0.0
    (g.met.T.TwoTrees.goes_on _ _ _ c.in_ok-left.ensures.goes c.in_ok-right.ensures.goes) (c.in_ok-right.ensures.quiet
    ∙ c.in_ok-left.ensures.quiet) c.in_err-first.ensures.cause)

pub returns-in_err-first-2-clause-goes : goal.returns-in_err-first-2-clause-goes
returns-in_err-first-2-clause-goes g t c = g.met.T.TwoTrees.goes_on _ _ _ c.in_ok-left.ensures.goes
    (g.met.T.TwoTrees.goes_on _ _ _ c.in_ok-right.ensures.goes c.in_err-first-2.ensures.goes)

pub returns-in_err-first-2-clause-cause : goal.returns-in_err-first-2-clause-cause
returns-in_err-first-2-clause-cause g t c =
    passed_on c.from_residual-in_err-first-2.result c.in_err-first-2.field-0.0
    (g.T.TwoTrees.causes c.args.trees.now c.best_from-2.new.trees) c.from_residual-in_err-first-2.ensures.1
    (g.met.T.TwoTrees.causes_behind _ _ _ c.in_err-first-2.field-0.0
    (g.met.T.TwoTrees.goes_on _ _ _ c.in_ok-left.ensures.goes c.in_ok-right.ensures.goes) (c.in_ok-right.ensures.quiet
    ∙ c.in_ok-left.ensures.quiet) c.in_err-first-2.ensures.cause)

pub returns-in_default-clause-best : goal.returns-in_default-clause-best
returns-in_default-clause-best g t c = λ xs ys sums trees are range.
    best_none c.args.best sums c.args.p c.args.q c.args.found.now c.args.range.now c.in_default.is range

pub returns-then-are_few-clause-best : goal.returns-then-are_few-clause-best
returns-then-are_few-clause-best g t c = λ xs ys sums trees are range. c.best_of_few.ensures.best xs ys sums trees are

pub best_from-requires : goal.best_from-requires
best_from-requires g t c κs within =
    let one = g.met.T.TwoTrees.still_count false _ _ c.in_ok-left.ensures.goes in
    let two = g.met.T.TwoTrees.still_count false _ _ c.in_ok-right.ensures.goes in (
      omega (arith, c.requires.some, c.are_few.ensures.no c.if-are_few.false),
      (
        search rules,
        (
          c.in_ok-right.ensures.fit,
          (
            omega (arith, c.requires.some, c.are_few.ensures.no c.if-are_few.false),
            (omega (arith, c.requires.within, one, two), (c.requires.few, c.requires.small)),
          ),
        ),
      ),
    )

pub best_from-requires-2 : goal.best_from-requires-2
best_from-requires-2 g t c κs within =
    let one = g.met.T.TwoTrees.still_count false _ _ c.in_ok-left.ensures.goes in
    let two = g.met.T.TwoTrees.still_count false _ _ c.in_ok-right.ensures.goes in (
      omega (arith, c.requires.some, c.are_few.ensures.no c.if-are_few.false),
      (
        search rules,
        (
          c.in_ok-right.ensures.fit,
          (
            omega (arith, c.requires.some, c.are_few.ensures.no c.if-are_few.false),
            (
              omega (arith, c.requires.some, c.requires.within, one, two),
              (omega (arith, c.requires.some, c.requires.few), c.requires.small),
            ),
          ),
        ),
      ),
    )

pub returns-then-are_few-clause-reads : goal.returns-then-are_few-clause-reads
returns-then-are_few-clause-reads g t c =
    more (c.args.q - c.args.p) (5 * (c.args.q - c.args.p) - 4)
    (levels (g.T.TwoTrees.count false c.args.trees.now) (g.T.TwoTrees.count true c.args.trees.now)) _ _
    (omega (arith, c.requires.some)) c.best_of_few.ensures.reads

pub returns-in_err-left-clause-reads : goal.returns-in_err-left-clause-reads
returns-in_err-left-clause-reads g t c =
    more 2 (5 * (c.args.q - c.args.p) - 4) (levels (g.T.TwoTrees.count false c.args.trees.now) (g.T.TwoTrees.count true c.args.trees.now)) _
    _ (omega (arith, c.requires.some, c.are_few.ensures.no c.if-are_few.false)) c.in_err-left.ensures.reads

pub returns-in_err-right-clause-reads : goal.returns-in_err-right-clause-reads
returns-in_err-right-clause-reads g t c =
    both 2 2 (5 * (c.args.q - c.args.p) - 4) (levels (g.T.TwoTrees.count false c.args.trees.now) (g.T.TwoTrees.count true c.args.trees.now))
    _ _ _ _ (omega (arith, c.requires.some, c.are_few.ensures.no c.if-are_few.false))
    (ap₂ levels (g.met.T.TwoTrees.still_count false _ _ c.in_ok-left.ensures.goes)
    (g.met.T.TwoTrees.still_count true _ _ c.in_ok-left.ensures.goes)) c.in_ok-left.ensures.reads c.in_err-right.ensures.reads

pub returns-in_err-first-clause-reads : goal.returns-in_err-first-clause-reads
returns-in_err-first-clause-reads g t c =
    both (2 + 2) (5 * (c.args.q - (c.args.p + (c.args.q - c.args.p) / 2)) - 4) (5 * (c.args.q - c.args.p) - 4)
    (levels (g.T.TwoTrees.count false c.args.trees.now) (g.T.TwoTrees.count true c.args.trees.now)) _ _ _ _
    (omega (arith, c.requires.some, c.are_few.ensures.no c.if-are_few.false))
    (ap₂ levels (g.met.T.TwoTrees.still_count false _ _
    (g.met.T.TwoTrees.goes_on _ _ _ c.in_ok-left.ensures.goes c.in_ok-right.ensures.goes))
    (g.met.T.TwoTrees.still_count true _ _ (g.met.T.TwoTrees.goes_on _ _ _ c.in_ok-left.ensures.goes c.in_ok-right.ensures.goes)))
    (both 2 2 (2 + 2) (levels (g.T.TwoTrees.count false c.args.trees.now) (g.T.TwoTrees.count true c.args.trees.now)) _ _ _ _
    (omega arith) (ap₂ levels (g.met.T.TwoTrees.still_count false _ _ c.in_ok-left.ensures.goes)
    (g.met.T.TwoTrees.still_count true _ _ c.in_ok-left.ensures.goes)) c.in_ok-left.ensures.reads c.in_ok-right.ensures.reads)
    c.in_err-first.ensures.reads

pub returns-then-is_second_better-clause-reads : goal.returns-then-is_second_better-clause-reads
returns-then-is_second_better-clause-reads g t c =
    both ((2 + 2) + (5 * (c.args.q - (c.args.p + (c.args.q - c.args.p) / 2)) - 4))
    (5 * ((c.args.p + (c.args.q - c.args.p) / 2) - c.args.p) - 4) (5 * (c.args.q - c.args.p) - 4)
    (levels (g.T.TwoTrees.count false c.args.trees.now) (g.T.TwoTrees.count true c.args.trees.now)) _ _ _ _
    (omega (arith, c.requires.some, c.are_few.ensures.no c.if-are_few.false))
    (ap₂ levels (g.met.T.TwoTrees.still_count false _ _
    (g.met.T.TwoTrees.goes_on _ _ _ c.in_ok-left.ensures.goes
    (g.met.T.TwoTrees.goes_on _ _ _ c.in_ok-right.ensures.goes c.in_ok-first.ensures.goes)))
    (g.met.T.TwoTrees.still_count true _ _ (g.met.T.TwoTrees.goes_on _ _ _ c.in_ok-left.ensures.goes
    (g.met.T.TwoTrees.goes_on _ _ _ c.in_ok-right.ensures.goes c.in_ok-first.ensures.goes))))
    (both (2 + 2) (5 * (c.args.q - (c.args.p + (c.args.q - c.args.p) / 2)) - 4)
    ((2 + 2) + (5 * (c.args.q - (c.args.p + (c.args.q - c.args.p) / 2)) - 4))
    (levels (g.T.TwoTrees.count false c.args.trees.now) (g.T.TwoTrees.count true c.args.trees.now)) _ _ _ _ (omega arith)
    (ap₂ levels (g.met.T.TwoTrees.still_count false _ _
    (g.met.T.TwoTrees.goes_on _ _ _ c.in_ok-left.ensures.goes c.in_ok-right.ensures.goes))
    (g.met.T.TwoTrees.still_count true _ _ (g.met.T.TwoTrees.goes_on _ _ _ c.in_ok-left.ensures.goes c.in_ok-right.ensures.goes)))
    (both 2 2 (2 + 2) (levels (g.T.TwoTrees.count false c.args.trees.now) (g.T.TwoTrees.count true c.args.trees.now)) _ _ _ _
    (omega arith) (ap₂ levels (g.met.T.TwoTrees.still_count false _ _ c.in_ok-left.ensures.goes)
    (g.met.T.TwoTrees.still_count true _ _ c.in_ok-left.ensures.goes)) c.in_ok-left.ensures.reads c.in_ok-right.ensures.reads)
    c.in_ok-first.ensures.reads) c.best_from-then-is_second_better.ensures.reads

pub returns-in_err-first-2-clause-reads : goal.returns-in_err-first-2-clause-reads
returns-in_err-first-2-clause-reads g t c =
    both (2 + 2) (5 * ((c.args.p + (c.args.q - c.args.p) / 2) - c.args.p) - 4) (5 * (c.args.q - c.args.p) - 4)
    (levels (g.T.TwoTrees.count false c.args.trees.now) (g.T.TwoTrees.count true c.args.trees.now)) _ _ _ _
    (omega (arith, c.requires.some, c.are_few.ensures.no c.if-are_few.false))
    (ap₂ levels (g.met.T.TwoTrees.still_count false _ _
    (g.met.T.TwoTrees.goes_on _ _ _ c.in_ok-left.ensures.goes c.in_ok-right.ensures.goes))
    (g.met.T.TwoTrees.still_count true _ _ (g.met.T.TwoTrees.goes_on _ _ _ c.in_ok-left.ensures.goes c.in_ok-right.ensures.goes)))
    (both 2 2 (2 + 2) (levels (g.T.TwoTrees.count false c.args.trees.now) (g.T.TwoTrees.count true c.args.trees.now)) _ _ _ _
    (omega arith) (ap₂ levels (g.met.T.TwoTrees.still_count false _ _ c.in_ok-left.ensures.goes)
    (g.met.T.TwoTrees.still_count true _ _ c.in_ok-left.ensures.goes)) c.in_ok-left.ensures.reads c.in_ok-right.ensures.reads)
    c.in_err-first-2.ensures.reads

pub returns-clause-reads : goal.returns-clause-reads
returns-clause-reads g t c =
    both ((2 + 2) + (5 * ((c.args.p + (c.args.q - c.args.p) / 2) - c.args.p) - 4))
    (5 * (c.args.q - (c.args.p + (c.args.q - c.args.p) / 2)) - 4) (5 * (c.args.q - c.args.p) - 4)
    (levels (g.T.TwoTrees.count false c.args.trees.now) (g.T.TwoTrees.count true c.args.trees.now)) _ _ _ _
    (omega (arith, c.requires.some, c.are_few.ensures.no c.if-are_few.false))
    (ap₂ levels (g.met.T.TwoTrees.still_count false _ _
    (g.met.T.TwoTrees.goes_on _ _ _ c.in_ok-left.ensures.goes
    (g.met.T.TwoTrees.goes_on _ _ _ c.in_ok-right.ensures.goes c.in_ok-first-2.ensures.goes)))
    (g.met.T.TwoTrees.still_count true _ _ (g.met.T.TwoTrees.goes_on _ _ _ c.in_ok-left.ensures.goes
    (g.met.T.TwoTrees.goes_on _ _ _ c.in_ok-right.ensures.goes c.in_ok-first-2.ensures.goes))))
    (both (2 + 2) (5 * ((c.args.p + (c.args.q - c.args.p) / 2) - c.args.p) - 4)
    ((2 + 2) + (5 * ((c.args.p + (c.args.q - c.args.p) / 2) - c.args.p) - 4))
    (levels (g.T.TwoTrees.count false c.args.trees.now) (g.T.TwoTrees.count true c.args.trees.now)) _ _ _ _ (omega arith)
    (ap₂ levels (g.met.T.TwoTrees.still_count false _ _
    (g.met.T.TwoTrees.goes_on _ _ _ c.in_ok-left.ensures.goes c.in_ok-right.ensures.goes))
    (g.met.T.TwoTrees.still_count true _ _ (g.met.T.TwoTrees.goes_on _ _ _ c.in_ok-left.ensures.goes c.in_ok-right.ensures.goes)))
    (both 2 2 (2 + 2) (levels (g.T.TwoTrees.count false c.args.trees.now) (g.T.TwoTrees.count true c.args.trees.now)) _ _ _ _
    (omega arith) (ap₂ levels (g.met.T.TwoTrees.still_count false _ _ c.in_ok-left.ensures.goes)
    (g.met.T.TwoTrees.still_count true _ _ c.in_ok-left.ensures.goes)) c.in_ok-left.ensures.reads c.in_ok-right.ensures.reads)
    c.in_ok-first-2.ensures.reads) c.best_from-3.ensures.reads
