use Rattle.std.proofs.Common.{◌≡◌, ap, ◌∙◌, arith, max, length, ◌+◌, vec_len}
use Rattle.series_book.proofs.SlotLemmas.{overwritten_from_resized, whole_written, resized_same}
use Rattle.series_book.proofs.slot_list.Slots.put.Goals as goal

pub returns-clause-ok : goal.returns-clause-ok
returns-clause-ok c =
    let before : vec_len c.self.inside.items ≡ length c.args.self.now = omega (arith, c.self.inside.items.ok, ap length c.self.view_is) in
    let max_is : c.max.result ≡ max (length c.args.self.now) (c.args.place + length c.args.run.now) =
    c.max.ensures ∙ ap (λ n. max n (c.args.place + length c.args.run.now)) (c.len-before.ensures ∙ before) in
    whole_written c.overwrite.new.slots c.resize.new.self.items c.resize.new.self.len
    (omega (arith, c.deref_mut.ensures.len, ap length c.deref_mut.ensures.value))
    (omega (arith, c.overwrite.auto.slots, ap length c.deref_mut.ensures.value))
    ∙ c.overwrite.ensures
    ∙ overwritten_from_resized c.args.self.now c.args.run.now c.deref_mut.result.now c.args.place c.max.result max_is
    (c.deref_mut.ensures.value ∙ c.in_ok-resize.ensures.items ∙ resized_same _ _ _ _ c.self.view_is before)
