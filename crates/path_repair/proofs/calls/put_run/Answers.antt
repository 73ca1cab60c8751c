use Rattle.std.proofs.Common.{◌≡◌, ◌+◌, ◌*◌, ℕ, length, max, sym, ap, subst, arith}
use Rattle.path_repair.specs.Changes.{IsEdited}
use Rattle.om3_coeff.specs.Keys.{page_levels}
use Rattle.path_repair.specs.Costs.{touch}
use Rattle.path_repair.proofs.MoveLemmas.{moved_more}
use Rattle.path_repair.proofs.CallLemmas.{max_first, twice, run_puts}
use Rattle.page_space.specs.Shown as shown
use Rattle.path_repair.proofs.calls.put_run.Goals as goal

pub returns-clause-edited : goal.returns-clause-edited
returns-clause-edited g c = λ base count list list' others told holds edited.
    let most : c.max.result ≡ max c.args.tree.slots (c.args.slot + length c.args.values.now) = c.max.ensures in
    let P : ℕ → Type 0 = λ n. IsEdited c.args.slot (c.args.slot + length c.args.values.now) n c.args.values.now list list' in
    c.fill.ensures.edited base count list list' others told holds (subst P (sym most) edited)

pub returns-clause-errors : goal.returns-clause-errors
returns-clause-errors g c = λ base count list list' others told holds edited.
    let most : c.max.result ≡ max c.args.tree.slots (c.args.slot + length c.args.values.now) = c.max.ensures in
    let P : ℕ → Type 0 = λ n. IsEdited c.args.slot (c.args.slot + length c.args.values.now) n c.args.values.now list list' in
    c.fill.ensures.errors base count list list' others told holds (subst P (sym most) edited)

pub returns-clause-moved : goal.returns-clause-moved
returns-clause-moved g c =
    let most : c.max.result ≡ max c.args.tree.slots (c.args.slot + length c.args.values.now) = c.max.ensures in
    let cost : touch c.args.slot (c.args.slot + length c.args.values.now) (page_levels c.args.tree.slots)
    (page_levels c.max.result) 0 ≡ touch c.args.slot (c.args.slot + length c.args.values.now) (page_levels c.args.tree.slots)
    (page_levels (max c.args.tree.slots (c.args.slot + length c.args.values.now)))
    0 = ap (λ n. touch c.args.slot (c.args.slot + length c.args.values.now) (page_levels c.args.tree.slots) (page_levels n) 0) most in
    moved_more (touch c.args.slot (c.args.slot + length c.args.values.now) (page_levels c.args.tree.slots)
    (page_levels c.args.tree.slots) 0 + touch c.args.slot (c.args.slot + length c.args.values.now) (page_levels c.args.tree.slots)
    (page_levels c.max.result) 0) (2 * touch c.args.slot (c.args.slot + length c.args.values.now) (page_levels c.args.tree.slots)
    (page_levels (max c.args.tree.slots (c.args.slot + length c.args.values.now))) 0)
    (touch c.args.slot (c.args.slot + length c.args.values.now) (page_levels c.args.tree.slots) (page_levels c.max.result) 0)
    (touch c.args.slot (c.args.slot + length c.args.values.now) (page_levels c.args.tree.slots)
    (page_levels (max c.args.tree.slots (c.args.slot + length c.args.values.now))) 0) (shown.IsTold c.args.space.now)
    (shown.IsTold c.fill.new.space) (shown.view c.args.space.now) (shown.view c.fill.new.space) (shown.under c.args.space.now)
    (shown.under c.fill.new.space) (shown.numbers c.args.space.now) (shown.numbers c.fill.new.space) c.args.txn.now c.fill.new.txn
    (omega (
      arith,
      cost,
      twice c.args.slot (c.args.slot + length c.args.values.now) c.args.tree.slots
          (max c.args.tree.slots (c.args.slot + length c.args.values.now))
          (max_first c.args.tree.slots (c.args.slot + length c.args.values.now)),
    )) (omega (arith, cost)) c.fill.ensures.moved

pub returns-clause-few_puts : goal.returns-clause-few_puts
returns-clause-few_puts g c = λ few.
    let most : c.max.result ≡ max c.args.tree.slots (c.args.slot + length c.args.values.now) = c.max.ensures in
    let cost : touch c.args.slot (c.args.slot + length c.args.values.now) (page_levels c.args.tree.slots)
    (page_levels c.max.result) 0 ≡ touch c.args.slot (c.args.slot + length c.args.values.now) (page_levels c.args.tree.slots)
    (page_levels (max c.args.tree.slots (c.args.slot + length c.args.values.now)))
    0 = ap (λ n. touch c.args.slot (c.args.slot + length c.args.values.now) (page_levels c.args.tree.slots) (page_levels n) 0) most in
    omega (
      arith,
      c.fill.ensures.moved.held,
      cost,
      run_puts c.args.slot (length c.args.values.now) c.args.tree.slots
          (max c.args.tree.slots (c.args.slot + length c.args.values.now)) few,
    )

pub returns-clause-same : goal.returns-clause-same
returns-clause-same g c = λ unchanged base count list list' others told holds edited.
    let most : c.max.result ≡ max c.args.tree.slots (c.args.slot + length c.args.values.now) = c.max.ensures in
    let P : ℕ → Type 0 = λ n. IsEdited c.args.slot (c.args.slot + length c.args.values.now) n c.args.values.now list list' in
    c.fill.ensures.same unchanged base count list list' others told holds (subst P (sym most) edited)

pub returns-clause-idle : goal.returns-clause-idle
returns-clause-idle g c = λ unchanged base count list list' others told holds edited.
    let most : c.max.result ≡ max c.args.tree.slots (c.args.slot + length c.args.values.now) = c.max.ensures in
    let P : ℕ → Type 0 = λ n. IsEdited c.args.slot (c.args.slot + length c.args.values.now) n c.args.values.now list list' in
    c.fill.ensures.idle unchanged base count list list' others told holds (subst P (sym most) edited)
