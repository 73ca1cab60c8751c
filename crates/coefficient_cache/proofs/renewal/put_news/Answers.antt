use Rattle.std.proofs.Common.{false, true, pos, ap, ◌∙◌}
use Rattle.om3_coeff.specs.declared.key.Key.{Key}
use Rattle.om3_coeff.specs.declared.coef.Coef.{Coef}
use Rattle.coefficient_cache.proofs.Steps.{flag-at, new-there, new-step, old-step}
use Rattle.coefficient_cache.proofs.renewal.put_news.Goals as goal
use Rattle.coefficient_cache.proofs.renewal.put_news.Goals.{then-is_new-i+in_ok-put, else-is_new-i}

abbrev none : Key × Coef
none = (record { level = 0; index = 0 }, record { left = false; right = false; dmin = pos 0; dmax = pos 0 })

pub put-requires : goal.put-requires
put-requires c =
    let was = c.loop-i.invariant in
    new-there c.args.series c.args.needed.now c.loop-i.i none c.requires.distinct c.loop-i-test.true c.args.list.now.pairs c.loop-i.list
    c.args.list.now.capacity c.new.result (flag-at c.args.series c.args.needed.now c.loop-i.i none c.requires.distinct
    c.loop-i-test.true c.args.list.now.pairs c.args.is_new.now true false c.requires.news c.if-is_new-i.true) was.topped c.new.ensures

pub loop-i-preserved : goal.loop-i-preserved
loop-i-preserved c = elim c.if-is_new-i.branch [
  | then-is_new-i+in_ok-put w ↦
      let was = c.loop-i.invariant in
      let put = w.in_ok-put.ensures in record {
        topped = ap (λ p. p.pairs) w.list-is ∙ new-step c.args.series c.args.needed.now c.loop-i.i _ c.requires.distinct c.loop-i-test.true
            c.args.list.now.pairs c.loop-i.list c.args.list.now.capacity w.new.result _ c.len-length.ensures.limit.0
            (flag-at c.args.series c.args.needed.now c.loop-i.i _ c.requires.distinct c.loop-i-test.true c.args.list.now.pairs
            c.args.is_new.now true false c.requires.news w.if-is_new-i.true) was.topped was.capacity w.new.ensures put.pairs;
        capacity = ap (λ p. p.capacity) w.list-is ∙ put.capacity ∙ was.capacity;
      }
  | else-is_new-i w ↦
      let was = c.loop-i.invariant in
      record {
        topped = ap (λ p. p.pairs) w.list-is ∙ old-step c.args.series c.args.needed.now c.loop-i.i none c.requires.distinct
            c.loop-i-test.true c.args.list.now.pairs c.loop-i.list.pairs c.args.list.now.capacity
            (flag-at c.args.series c.args.needed.now c.loop-i.i none c.requires.distinct c.loop-i-test.true c.args.list.now.pairs
            c.args.is_new.now false false c.requires.news w.if-is_new-i.false) was.topped;
        capacity = ap (λ p. p.capacity) w.list-is ∙ was.capacity;
      }
]
