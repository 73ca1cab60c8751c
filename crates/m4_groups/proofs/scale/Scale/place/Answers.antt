use Rattle.std.proofs.Common.{ℤ, ◌≤◌, ◌^◌, unsigned_abs, SFits, w64, rules, sym, subst}
use Rattle.std.specs.Int.{w128}
use Rattle.std.proofs.lemmas.Int.{to_z-of_z}
use Rattle.m4_groups.proofs.Sizes.{height-fits}
use Rattle.m4_groups.proofs.scale.Scale.place.Goals as goal

pub returns-clause-reached : goal.returns-clause-reached
returns-clause-reached c =
    let value_fits : SFits w64 c.args.v = c.ranges.v in
    let low_fits : SFits w64 c.args.self.lo = search rules in
    let P : ℤ → Type 0 = λ z. unsigned_abs z ≤ 10 ^ 22 in
    subst P (sym (to_z-of_z w128 c.height_of.result (search rules)))
    (height-fits c.args.v c.args.self.lo c.height_of.result c.args.self.h c.requires c.args.self.low c.args.self.rows
    (simp to_z-of_z at c.height_of.ensures.size))
