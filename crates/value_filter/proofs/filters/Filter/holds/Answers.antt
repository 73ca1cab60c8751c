use Rattle.std.proofs.Common.{ℤ, ◌∙◌, subst}
use mir.Val.{to_z, of_z}
use Rattle.std.specs.Int.{w64}
use Rattle.std.proofs.lemmas.Int.{to_z-of_z}
use Rattle.value_filter.specs.Steps.{expression_of}
use Rattle.value_filter.specs.Boxes.{IsAnswer}
use Rattle.value_filter.proofs.Everywhere.{truth}
use Rattle.value_filter.proofs.Alone.{is_all-eq}
use Rattle.value_filter.proofs.filters.Filter.holds.Goals as goal

pub returns : goal.returns
returns c =
    let t' : ℤ = to_z w64 (of_z w64 c.args.t) in
    let v' : ℤ = to_z w64 (of_z w64 c.args.v) in
    let P : ℤ → Type 0 = λ x. IsAnswer (expression_of c.args.self.now) (x, x) (v', v') c.on_box.result in
    let Q : ℤ → Type 0 = λ x. IsAnswer (expression_of c.args.self.now) (c.args.t, c.args.t) (x, x) c.on_box.result in
    c.eq.ensures
    ∙ is_all-eq c.on_box.result
    ∙ truth (expression_of c.args.self.now) c.on_box.result c.args.t c.args.v
    (subst Q (to_z-of_z w64 c.args.v c.ranges.v) (subst P (to_z-of_z w64 c.args.t c.ranges.t) c.on_box.ensures))
