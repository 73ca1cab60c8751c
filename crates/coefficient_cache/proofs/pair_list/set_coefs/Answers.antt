use Rattle.std.proofs.Common.{◌≡◌, ◌∙◌, ◌+◌, ◌-◌, ◌++◌, List, Some, length, take, get_or, pos, false, refl, ap, arith}
use Rattle.std.proofs.lemmas.List.{length-set}
use Rattle.om3_coeff.specs.declared.key.Key.{Key}
use Rattle.om3_coeff.specs.declared.coef.Coef.{Coef}
use Rattle.coefficient_cache.specs.Puts.{put_in}
use Rattle.coefficient_cache.proofs.Kept.{with_coef}
use Rattle.coefficient_cache.proofs.Fronts.{set-more, set-first, set-all}
use Rattle.coefficient_cache.proofs.pair_list.set_coefs.Goals as goal

abbrev none : Key × Coef
none = (record { level = 0; index = 0 }, record { left = false; right = false; dmin = pos 0; dmax = pos 0 })

pub loop-i-init : goal.loop-i-init
loop-i-init c = record {
  set = set-first c.args.puts.now.items (c.len.result - length c.args.needed.now) c.args.series c.args.needed.now;
  size = refl;
}

pub loop-i-preserved : goal.loop-i-preserved
loop-i-preserved c =
    let old = c.args.puts.now.items in
    let needed : List (Key × Coef) = c.args.needed.now in
    let long : c.len.result ≡ length old = c.len.ensures ∙ c.args.puts.now.ok.0 in
    let front = c.len.result - length needed in
    let i = c.loop-i.i in
    let coef : Coef = (get_or needed i none).1 in
    record {
      set = set-more old c.loop-i.puts.items front c.args.series needed i none c.new.result coef
          (omega (arith, c.requires, long)) c.loop-i-test.true c.loop-i.invariant.set c.new.ensures refl;
      size = length-set c.loop-i.puts.items (front + i) (Some (with_coef c.new.result coef)) ∙ c.loop-i.invariant.size;
    }

pub returns : goal.returns
returns c =
    let old = c.args.puts.now.items in
    let needed : List (Key × Coef) = c.args.needed.now in
    let long : c.len.result ≡ length old = c.len.ensures ∙ c.args.puts.now.ok.0 in
    set-all old c.loop-i.puts.items (c.len.result - length needed) c.args.series needed c.loop-i.i (omega (arith, c.requires, long))
    (omega (arith, c.loop-i-test.false, c.loop-i.auto.i-end)) c.loop-i.invariant.set
    ∙ ap (λ n. take (n - length needed) old ++ put_in c.args.series needed) long
