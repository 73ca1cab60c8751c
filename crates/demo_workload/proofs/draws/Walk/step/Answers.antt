use Rattle.std.proofs.Common.{ℤ, ◌≡◌, SFits, to_z, of_z, ap, rules, ◌∙◌}
use Rattle.std.specs.Int.{w64}
use Rattle.std.proofs.lemmas.Int.{to_z-of_z}
use Rattle.demo_workload.specs.declared.draws.Walk.{Walk}
use Rattle.demo_workload.specs.Draws.{moved}
use Rattle.demo_workload.proofs.Walking.{after_draw_is}
use Rattle.demo_workload.proofs.draws.Walk.step.Goals as goal

pub returns-clause-walk : goal.returns-clause-walk
returns-clause-walk c =
    let fits : SFits w64 c.moved-self.result = search rules in
    let was_fit : SFits w64 c.draw-draw.new.self.value = search rules in
    let same : to_z w64 (of_z w64 c.draw-draw.new.self.value) ≡ c.args.self.now.value =
    to_z-of_z w64 c.draw-draw.new.self.value was_fit ∙ ap (λ (w : Walk). w.value) c.draw-draw.ensures.walk in
    after_draw_is c.args.self.now _ _ c.draw-draw.result
    (ap (λ (w : Walk). w.state) c.draw-draw.ensures.walk)
    c.draw-draw.ensures.number
    (to_z-of_z w64 c.moved-self.result fits ∙ c.moved-self.ensures.value ∙ ap (λ (v : ℤ). moved v c.draw-draw.result) same)
