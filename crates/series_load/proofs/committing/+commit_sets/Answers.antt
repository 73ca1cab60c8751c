use Rattle.std.proofs.Common.{◌∙◌, arith, drop, length, sym}
use Rattle.std.proofs.lemmas.Bool.{eqb-true}
use Rattle.series_load.proofs.SetLemmas.{as_many, does_none, does_then, err_passes, runs_of_none, sets_behind}
use Rattle.series_store.specs.Shown as shown
use Rattle.series_load.proofs.committing.+commit_sets.Goals as goal

pub returns-then-is_empty-clause-does : goal.returns-then-is_empty-clause-does
returns-then-is_empty-clause-does g t c = λ total name book runs told stands are.
    does_none total name book runs _ (shown.view c.args.store.now)
    (runs_of_none name runs c.args.sets.now c.args.ats.now are
    (eqb-true (length c.args.sets.now) 0 (sym c.is_empty.ensures ∙ c.if-is_empty.true))) stands

pub returns-in_err-count-clause-does : goal.returns-in_err-count-clause-does
returns-in_err-count-clause-does g t c = λ total name book runs told stands are.
    let first = c.in_err-count.ensures.does total name book runs told stands are in
    err_passes total name book runs c.in_err-count.field-0.0 c.from_residual.result (shown.view c.args.store.now)
    (shown.view c.commit_some.new.store) c.from_residual.ensures.1 first.costs first.stops first.moments

pub returns-clause-does : goal.returns-clause-does
returns-clause-does g t c = λ total name book runs told stands are.
    let first = c.in_ok-count.ensures.does total name book runs told stands are in
    does_then total name book runs c.in_ok-count.count c.commit_sets.result (shown.view c.args.store.now)
    (shown.view c.commit_some.new.store) (shown.view c.commit_sets.new.store)
    (omega (arith, c.in_ok-count.ensures.most, as_many name runs c.args.sets.now c.args.ats.now are)) first
    (c.commit_sets.ensures.does total name first.done.new (drop c.in_ok-count.count runs)
    (c.commit_some.ensures.carries.is_told told) first.done.stands
    (sets_behind name c.in_ok-count.count runs c.args.sets.now c.args.ats.now are))
