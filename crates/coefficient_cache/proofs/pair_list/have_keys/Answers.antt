use Rattle.std.proofs.Common.{◌-◌, List, length, pos, false, refl, arith}
use Rattle.om3_coeff.specs.declared.key.Key.{Key}
use Rattle.om3_coeff.specs.declared.coef.Coef.{Coef}
use Rattle.coefficient_cache.proofs.Fronts.{keys-more, keys-all}
use Rattle.coefficient_cache.proofs.pair_list.have_keys.Goals as goal

abbrev none : Key × Coef
none = (record { level = 0; index = 0 }, record { left = false; right = false; dmin = pos 0; dmax = pos 0 })

pub loop-i-preserved : goal.loop-i-preserved
loop-i-preserved c =
    let puts = c.args.puts.now in
    let needed : List (Key × Coef) = c.args.needed.now in
    let held = c.is_of.ensures c.if-not-is_of.false in
    keys-more puts (length puts - length needed) c.args.series needed c.loop-i.i none c.new.result held.0 c.loop-i-test.true held.1
    c.new.ensures c.loop-i.invariant

pub returns : goal.returns
returns c = λ _.
    let puts = c.args.puts.now in
    let needed : List (Key × Coef) = c.args.needed.now in
    keys-all puts (length puts - length needed) c.args.series needed c.loop-i.i refl c.if-puts-needed.false
    (omega (arith, c.loop-i-test.false, c.loop-i.auto.i-end)) c.loop-i.invariant
