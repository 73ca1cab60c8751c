use Rattle.std.proofs.Common.{◌≡◌, ◌∷◌, ◌+◌, ◌*◌, ℕ, ℤ, List, [], Option, Some, max, sym, ap, subst, arith, to_z, of_z, w64, ◌∙◌}
use Rattle.std.proofs.lemmas.Int.{ints}
use Rattle.path_repair.specs.Changes.{IsEdited}
use Rattle.whole_number.specs.Range.{IsValue}
use Rattle.std.proofs.Common.{slice_get}
use Rattle.path_repair.proofs.EditLemmas.{one_value}
use Rattle.om3_coeff.specs.Keys.{page_levels}
use Rattle.path_repair.specs.Costs.{touch}
use Rattle.path_repair.proofs.MoveLemmas.{moved_more}
use Rattle.path_repair.proofs.CallLemmas.{max_first, twice, slot_reads, slot_puts}
use Rattle.page_space.specs.Shown as shown
use Rattle.path_repair.proofs.calls.put_slot.Goals as goal

pub fill-requires-clause-values : goal.fill-requires-clause-values
fill-requires-clause-values g c =
    let is_value : to_z w64 (of_z w64 c.args.value) ≡ c.args.value = omega (arith, ints) in
    let only : c.only.result ≡ Some c.args.value ∷ [] = c.only.ensures ∙ ap (λ (v : ℤ). Some v ∷ []) is_value in
    let P : List (Option ℤ) → Type 0 = λ values. (i : ℕ) (value : ℤ) → slice_get values i ≡ Some (Some value) → IsValue value in
    subst P (sym only) (λ i v is. one_value c.args.value i v c.requires.value is)

pub returns-clause-edited : goal.returns-clause-edited
returns-clause-edited g c = λ base count list list' others told holds edited.
    let is_value : to_z w64 (of_z w64 c.args.value) ≡ c.args.value = omega (arith, ints) in
    let only : c.only.result ≡ Some c.args.value ∷ [] = c.only.ensures ∙ ap (λ (v : ℤ). Some v ∷ []) is_value in
    let most : c.max.result ≡ max c.args.tree.slots (c.args.slot + 1) = c.max.ensures in
    let P : ℕ → Type 0 = λ n. IsEdited c.args.slot (c.args.slot + 1) n (Some c.args.value ∷ []) list list' in
    let V : List (Option ℤ) → Type 0 = λ values. IsEdited c.args.slot (c.args.slot + 1) c.max.result values list list' in
    c.fill.ensures.edited base count list list' others told holds (subst V (sym only) (subst P (sym most) edited))

pub returns-clause-errors : goal.returns-clause-errors
returns-clause-errors g c = λ base count list list' others told holds edited.
    let is_value : to_z w64 (of_z w64 c.args.value) ≡ c.args.value = omega (arith, ints) in
    let only : c.only.result ≡ Some c.args.value ∷ [] = c.only.ensures ∙ ap (λ (v : ℤ). Some v ∷ []) is_value in
    let most : c.max.result ≡ max c.args.tree.slots (c.args.slot + 1) = c.max.ensures in
    let P : ℕ → Type 0 = λ n. IsEdited c.args.slot (c.args.slot + 1) n (Some c.args.value ∷ []) list list' in
    let V : List (Option ℤ) → Type 0 = λ values. IsEdited c.args.slot (c.args.slot + 1) c.max.result values list list' in
    c.fill.ensures.errors base count list list' others told holds (subst V (sym only) (subst P (sym most) edited))

pub returns-clause-moved : goal.returns-clause-moved
returns-clause-moved g c =
    let most : c.max.result ≡ max c.args.tree.slots (c.args.slot + 1) = c.max.ensures in
    let cost : touch c.args.slot (c.args.slot + 1) (page_levels c.args.tree.slots) (page_levels c.max.result) 0 ≡ touch c.args.slot
    (c.args.slot + 1) (page_levels c.args.tree.slots)
    (page_levels (max c.args.tree.slots (c.args.slot + 1)))
    0 = ap (λ n. touch c.args.slot (c.args.slot + 1) (page_levels c.args.tree.slots) (page_levels n) 0) most in
    moved_more (touch c.args.slot (c.args.slot + 1) (page_levels c.args.tree.slots) (page_levels c.args.tree.slots) 0 + touch c.args.slot
    (c.args.slot + 1) (page_levels c.args.tree.slots) (page_levels c.max.result) 0)
    (2 * touch c.args.slot (c.args.slot + 1) (page_levels c.args.tree.slots) (page_levels (max c.args.tree.slots (c.args.slot + 1))) 0)
    (touch c.args.slot (c.args.slot + 1) (page_levels c.args.tree.slots) (page_levels c.max.result) 0)
    (touch c.args.slot (c.args.slot + 1) (page_levels c.args.tree.slots) (page_levels (max c.args.tree.slots (c.args.slot + 1))) 0)
    (shown.IsTold c.args.space.now) (shown.IsTold c.fill.new.space) (shown.view c.args.space.now) (shown.view c.fill.new.space)
    (shown.under c.args.space.now) (shown.under c.fill.new.space) (shown.numbers c.args.space.now)
    (shown.numbers c.fill.new.space) c.args.txn.now c.fill.new.txn
    (omega (
      arith,
      cost,
      twice c.args.slot (c.args.slot + 1) c.args.tree.slots (max c.args.tree.slots (c.args.slot + 1))
          (max_first c.args.tree.slots (c.args.slot + 1)),
    )) (omega (arith, cost)) c.fill.ensures.moved

pub returns-clause-few_reads : goal.returns-clause-few_reads
returns-clause-few_reads g c =
    let most : c.max.result ≡ max c.args.tree.slots (c.args.slot + 1) = c.max.ensures in
    let cost : touch c.args.slot (c.args.slot + 1) (page_levels c.args.tree.slots) (page_levels c.max.result) 0 ≡ touch c.args.slot
    (c.args.slot + 1) (page_levels c.args.tree.slots)
    (page_levels (max c.args.tree.slots (c.args.slot + 1)))
    0 = ap (λ n. touch c.args.slot (c.args.slot + 1) (page_levels c.args.tree.slots) (page_levels n) 0) most in
    omega (arith, c.fill.ensures.moved.reads.reads.high, cost, slot_reads c.args.tree.slots c.args.slot)

pub returns-clause-few_puts : goal.returns-clause-few_puts
returns-clause-few_puts g c =
    let most : c.max.result ≡ max c.args.tree.slots (c.args.slot + 1) = c.max.ensures in
    let cost : touch c.args.slot (c.args.slot + 1) (page_levels c.args.tree.slots) (page_levels c.max.result) 0 ≡ touch c.args.slot
    (c.args.slot + 1) (page_levels c.args.tree.slots)
    (page_levels (max c.args.tree.slots (c.args.slot + 1)))
    0 = ap (λ n. touch c.args.slot (c.args.slot + 1) (page_levels c.args.tree.slots) (page_levels n) 0) most in
    omega (arith, c.fill.ensures.moved.held, cost, slot_puts c.args.tree.slots c.args.slot)
