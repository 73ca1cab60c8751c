use Rattle.std.proofs.Common.{◌≡◌, ap, ◌∙◌, arith, length, take}
use Rattle.series_book.proofs.SlotLemmas.{undone, whole_written, written_same}
use Rattle.series_book.proofs.slot_list.Slots.take_back.Goals as goal

pub returns-clause-after : goal.returns-clause-after
returns-clause-after c =
    let cut : c.deref_mut.result.now ≡ take c.args.before c.args.self.now =
    c.deref_mut.ensures.value ∙ c.truncate.ensures.items ∙ ap (take c.args.before) c.self.view_is in
    whole_written c.overwrite.new.slots c.truncate.new.self.items c.truncate.new.self.len
    (omega (arith, c.deref_mut.ensures.len, ap length c.deref_mut.ensures.value))
    (omega (arith, c.overwrite.auto.slots, ap length c.deref_mut.ensures.value))
    ∙ c.overwrite.ensures
    ∙ written_same _ _ _ _ _ cut c.min-from.ensures

pub returns-clause-undone : goal.returns-clause-undone
returns-clause-undone c old run put displaced_is before_is =
    whole_written c.overwrite.new.slots c.truncate.new.self.items c.truncate.new.self.len
    (omega (arith, c.deref_mut.ensures.len, ap length c.deref_mut.ensures.value))
    (omega (arith, c.overwrite.auto.slots, ap length c.deref_mut.ensures.value))
    ∙ c.overwrite.ensures
    ∙ undone c.args.self.now run c.args.place old c.args.displaced.now c.deref_mut.result.now c.args.before c.min-from.result
    put displaced_is before_is c.min-from.ensures
    (c.deref_mut.ensures.value ∙ c.truncate.ensures.items ∙ ap (take c.args.before) c.self.view_is)
