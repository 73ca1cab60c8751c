use Rattle.std.proofs.Common.{◌≡◌, ℕ, ◌+◌, ◌<◌, List, [], ◌∷◌, ◌++◌, length, take, get_or, ℤ, Option, None, All, false, sym, ap, ◌∙◌, subst}
use Rattle.std.specs.List.{list_any}
use Rattle.std.proofs.lemmas.List.{take_all, take_more}
use Rattle.series_book.specs.Edits.{is_too_large}
use Rattle.series_book.proofs.SlotLemmas.{none_too_large}
use Rattle.series_book.proofs.value_list.Values.to_slots.Goals as goal

-- the items so far, with the next one at their end
next_pushed : {X : Type 0} (old new items : List X) (i : ℕ) (x d : X) → old ≡ take i items → new ≡ old ++ x ∷ [] → x ≡ get_or items i d
    → i < length items
    → new ≡ take (i + 1) items
next_pushed old new items i x d old_is new_is x_is within = let more = take_more items i d within in cc

pub narrowed-requires : goal.narrowed-requires
narrowed-requires c =
    let same : c.deref-value-items.result.now ≡ c.args.self.now = c.deref-value-items.ensures.value ∙ c.self.view_is in
    none_too_large _ (ap (list_any is_too_large) same ∙ c.requires) _ None c.loop-value-test.true

pub loop-value-preserved : goal.loop-value-preserved
loop-value-preserved c =
    next_pushed _ _ _ _ _ None c.loop-value.invariant c.in_ok-push.ensures.items c.narrowed.ensures c.loop-value-test.true

pub returns-clause-slots : goal.returns-clause-slots
returns-clause-slots c =
    c.loop-value.invariant ∙ take_all _ _ c.loop-value-test.false ∙ c.deref-value-items.ensures.value ∙ c.self.view_is

pub returns-clause-in_range : goal.returns-clause-in_range
returns-clause-in_range c =
    let same : c.loop-value.slots.items ≡ c.args.self.now =
    c.loop-value.invariant ∙ take_all _ _ c.loop-value-test.false ∙ c.deref-value-items.ensures.value ∙ c.self.view_is in
    let P : List (Option ℤ) → Type 0 = λ slots. All (λ value. is_too_large value ≡ false) slots in
    subst P (sym same) (none_too_large _ c.requires)
