use Rattle.std.proofs.Common.{◌++◌, ◌∷◌, [], refl, subst, sym, SFits, w64}
use Rattle.std.proofs.lemmas.Int.{to_z-of_z}
use Rattle.m4_groups.specs.Gathered.{Gathered, IsGathered}
use Rattle.m4_groups.proofs.Gathering.{IsGathered-push}
use Rattle.m4_groups.proofs.groups.Groups.push.Goals as goal

pub returns-then-is_in_last-clause-gathered : goal.returns-then-is_in_last-clause-gathered
returns-then-is_in_last-clause-gathered c points h =
    let time_fits : SFits w64 c.args.t = c.ranges.t in
    let value_fits : SFits w64 c.args.v = c.ranges.v in
    let P : Gathered → Type 0 = λ s. IsGathered (points ++ (c.args.t, c.args.v) ∷ []) s in
    subst P (sym (simp to_z-of_z at c.extend.ensures))
    (IsGathered-push points c.args.self.now c.args.t c.args.v _ c.requires.shown c.requires.later refl h)

pub returns-clause-gathered : goal.returns-clause-gathered
returns-clause-gathered c points h =
    let time_fits : SFits w64 c.args.t = c.ranges.t in
    let value_fits : SFits w64 c.args.v = c.ranges.v in
    let P : Gathered → Type 0 = λ s. IsGathered (points ++ (c.args.t, c.args.v) ∷ []) s in
    subst P (sym (simp to_z-of_z at c.in_ok-begin.ensures.begun))
    (IsGathered-push points c.args.self.now c.args.t c.args.v _ c.requires.shown c.requires.later refl h)
