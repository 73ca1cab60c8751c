use Rattle.std.proofs.Common.{◌+◌, ◌∙◌, subst, ℤ, w64, rules}
use Rattle.std.proofs.lemmas.Int.{to_z-of_z}
use Rattle.chart_grid.specs.Slots.{AreSlotsBefore, border}
use Rattle.chart_grid.proofs.Slots.{between-borders, AreSlotsBefore-rising, border-rising}
use Rattle.chart_grid.proofs.grid.Grid.slot_range.Goals as goal

from_is : (c : goal.After-slots_before-to) → AreSlotsBefore c.args.axis (border c.args.self.now c.args.c) c.slots_before-from.result
from_is c =
    let P : ℤ → Type 0 = λ t. AreSlotsBefore c.args.axis t c.slots_before-from.result in
    subst P (to_z-of_z w64 c.border.result (search rules) ∙ c.border.ensures.value) c.slots_before-from.ensures

to_is : (c : goal.After-slots_before-to) → AreSlotsBefore c.args.axis (border c.args.self.now (c.args.c + 1)) c.slots_before-to.result
to_is c =
    let P : ℤ → Type 0 = λ t. AreSlotsBefore c.args.axis t c.slots_before-to.result in
    subst P (to_z-of_z w64 c.border-2.result (search rules) ∙ c.border-2.ensures.value) c.slots_before-to.ensures

pub returns-clause-slots : goal.returns-clause-slots
returns-clause-slots c i =
    between-borders c.args.axis c.args.self.now c.args.c c.slots_before-from.result c.slots_before-to.result
    c.requires.drawn (from_is c) (to_is c) i

pub returns-clause-order : goal.returns-clause-order
returns-clause-order c =
    AreSlotsBefore-rising c.args.axis _ _ _ _ (border-rising c.args.self.now c.args.c) (from_is c) (to_is c)
