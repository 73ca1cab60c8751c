use Rattle.std.proofs.Common.{◌+◌, Bool, List, false, pos, sym, subst}
use Rattle.om3_coeff.specs.declared.key.Key.{Key}
use Rattle.om3_coeff.specs.declared.coef.Coef.{Coef}
use Rattle.coefficient_cache.proofs.InLine.{AreSoFar, line-step}
use Rattle.coefficient_cache.proofs.in_line.flags_in_line.Goals as goal

abbrev none : Key × Coef
none = (record { level = 0; index = 0 }, record { left = false; right = false; dmin = pos 0; dmax = pos 0 })

pub loop-key-preserved : goal.loop-key-preserved
loop-key-preserved c =
    subst (λ (l : List Bool). AreSoFar c.args.puts.now c.args.numbers.now.entries c.args.start c.args.series c.args.needed.now l
    (c.loop-key.key-index + 1) c.in-Some.next) (sym c.in_ok-push.ensures.items)
    (line-step c.args.puts.now c.args.numbers.now.entries c.args.start c.args.series c.args.needed.now c.loop-key.key-index none
    c.loop-key.is_new.items c.loop-key.place c.new.result c.in-Some.is_there c.in-Some.next c.loop-key-test.true c.new.ensures
    c.loop-key.invariant c.in-Some.ensures)
