use Rattle.std.proofs.Common.{◌≡◌, ◌∷◌, [], ◌++◌, List, Result, Ok, Err, subst, arith, ◌∙◌, sym}
use Rattle.std.specs.Result.{IsErrAnd}
use Rattle.page_space.specs.Transactions.{left_by}
use Rattle.series_book.specs.declared.outcomes.Outcome.{Outcome}
use Rattle.series_book.specs.declared.refusals.Refusal.{Refusal}
use Rattle.series_store.specs.declared.errors.StoreError.{StoreError}
use Rattle.series_store.specs.declared.errors.StoreError.TheVariants.{NoMemory}
use Rattle.series_store.proofs.GroupLemmas.{pushed, next_starved, next_error, next_by_error, next_by_ok, next_by_refused}
use Rattle.tree_walk.proofs.StepLemmas.{error_so}
use Rattle.series_store.proofs.groups.stage_next.Goals as goal

pub returns-in_err-reserve-clause-next : goal.returns-in_err-reserve-clause-next
returns-in_err-reserve-clause-next g c =
    let space = c.args.space.now in
    next_starved (g.P.Pages.told space.pages) (g.P.Pages.view space.pages)
    (g.P.Pages.under space.pages) space.superblock c.args.txn.now c.args.catalog.now.series.items c.args.answers.now.items
    c.reserve.new.self.items c.from_residual.result c.from_residual.ensures.1 c.in_err-reserve.ensures.items

pub returns-in_err-reserve-clause-answered : goal.returns-in_err-reserve-clause-answered
returns-in_err-reserve-clause-answered g c = λ total book told stands.
    let base = (g.P.Pages.view c.args.space.now.pages).image in
    next_by_error total book c.args.edit.now c.from_residual.result c.args.txn.now c.args.txn.now
    (left_by c.args.txn.now base) c.args.answers.now.items c.reserve.new.self.items NoMemory c.from_residual.ensures.1
    (λ is. absurd is) tt

pub returns-in-Ok-clause-answered : goal.returns-in-Ok-clause-answered
returns-in-Ok-clause-answered g c = λ total book told stands.
    let staged = c.in-Ok.staged in
    let new = (g.P.Pages.view c.stage.new.space.pages).image in
    let answer : Result Outcome Refusal = Ok staged.outcome in
    let P : List (Result Outcome Refusal) → Type 0 = λ old. c.push-added.new.self.items ≡ old ++ answer ∷ [] in
    let are : P c.args.answers.now.items = subst P c.in_ok-reserve.ensures.items
    (pushed c.push-added.result c.reserve.new.self.items c.push-added.new.self.items answer c.push-added.ensures.items
    (c.push-added.ensures.succeeds (omega (arith, c.in_ok-reserve.ensures.ok)))) in
    next_by_ok total book c.args.edit.now staged c.args.txn.now c.stage.new.txn
    (left_by c.stage.new.txn new) c.args.answers.now.items c.push-added.new.self.items are
    (c.in-Ok.ensures.answered total book told stands)
    (c.in-Ok.ensures.none_cleared total book told stands) (c.in-Ok.ensures.kept total book told stands) c.in-Ok.ensures.carried.nothing

pub returns-in_err-refusal-in-Err-clause-next : goal.returns-in_err-refusal-in-Err-clause-next
returns-in_err-refusal-in-Err-clause-next g c =
    let told = g.P.Pages.told in
    let view = g.P.Pages.view in
    let under = g.P.Pages.under in
    let old = c.args.space.now in
    let new = c.stage.new.space in
    let other = c.in_err-refusal-in-Err.ensures.other in
    let E : StoreError → Type 0 = λ e. IsErrAnd c.from_residual-in_err-refusal-in-Err.result (λ x. x ≡ e) in
    next_error (told old.pages) (told new.pages) (view old.pages) (view new.pages) (under old.pages)
    (under new.pages) old.superblock new.superblock c.args.txn.now c.stage.new.txn c.args.catalog.now.series.items
    c.stage.new.catalog.series.items
    c.args.answers.now.items c.reserve.new.self.items c.from_residual-in_err-refusal-in-Err.result c.in-Err.cause
    (subst E other.0 c.from_residual-in_err-refusal-in-Err.ensures.1) other.1 c.in-Err.ensures.carried c.in_ok-reserve.ensures.items

pub returns-in_err-refusal-in-Err-clause-answered : goal.returns-in_err-refusal-in-Err-clause-answered
returns-in_err-refusal-in-Err-clause-answered g c = λ total book told stands.
    let new = (g.P.Pages.view c.stage.new.space.pages).image in
    let other = c.in_err-refusal-in-Err.ensures.other in
    let E : StoreError → Type 0 = λ e. IsErrAnd c.from_residual-in_err-refusal-in-Err.result (λ x. x ≡ e) in
    next_by_error total book c.args.edit.now c.from_residual-in_err-refusal-in-Err.result c.args.txn.now c.stage.new.txn
    (left_by c.stage.new.txn new) c.args.answers.now.items c.reserve.new.self.items c.in-Err.cause
    (subst E other.0 c.from_residual-in_err-refusal-in-Err.ensures.1) other.1 (c.in-Err.ensures.answered total book told stands).refused

pub returns-in_ok-refusal-in-Err-clause-answered : goal.returns-in_ok-refusal-in-Err-clause-answered
returns-in_ok-refusal-in-Err-clause-answered g c = λ total book told stands.
    let old = c.args.space.now.pages in
    let new = c.stage.new.space.pages in
    let answer : Result Outcome Refusal = Err c.in_ok-refusal-in-Err.refusal in
    let P : List (Result Outcome Refusal) → Type 0 = λ old. c.push-added-in-Err.new.self.items ≡ old ++ answer ∷ [] in
    let are : P c.args.answers.now.items = subst P c.in_ok-reserve.ensures.items
    (pushed c.push-added-in-Err.result c.reserve.new.self.items c.push-added-in-Err.new.self.items answer c.push-added-in-Err.ensures.items
    (c.push-added-in-Err.ensures.succeeds (omega (arith, c.in_ok-reserve.ensures.ok)))) in
    next_by_refused (g.P.Pages.told old) total book c.args.edit.now c.in-Err.cause c.in_ok-refusal-in-Err.refusal c.args.txn.now
    c.stage.new.txn (g.P.Pages.view old) (g.P.Pages.view new) c.args.answers.now.items c.push-added-in-Err.new.self.items
    c.in_ok-refusal-in-Err.ensures.refused are (c.in-Err.ensures.answered total book told stands) told c.stage.ensures.carried.reads.image
    stands

pub returns-in_err-refusal-in-Err-clause-quiet_err : goal.returns-in_err-refusal-in-Err-clause-quiet_err
returns-in_err-refusal-in-Err-clause-quiet_err g c =
    error_so _ _ c.from_residual-in_err-refusal-in-Err.result c.from_residual-in_err-refusal-in-Err.ensures.1
    (λ e same other. c.in-Err.ensures.quiet_err (λ is. other (same ∙ c.in_err-refusal-in-Err.ensures.other.0 ∙ is)))

pub returns-in_ok-refusal-in-Err-clause-quiet : goal.returns-in_ok-refusal-in-Err-clause-quiet
returns-in_ok-refusal-in-Err-clause-quiet g c =
    c.in-Err.ensures.quiet_err (λ is. let no = sym c.in_ok-refusal-in-Err.ensures.refused ∙ is in cc)
