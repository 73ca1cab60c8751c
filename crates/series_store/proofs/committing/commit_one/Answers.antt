use Rattle.std.proofs.Common.{◌≡◌, false, not, Err, refl, sym, ap, subst, ◌∙◌, arith}
use Rattle.block_disk.specs.View.{Image}
use Rattle.page_space.specs.Transactions.{left_by}
use Rattle.series_catalog.specs.Shown.{series_in}
use Rattle.stored_book.specs.Standing.{StandsForBook}
use Rattle.series_store.specs.declared.errors.StoreError.TheVariants.{DiskFault}
use Rattle.series_store.proofs.CarryLemmas.{carried_read}
use Rattle.series_store.proofs.DoneLemmas.{stored_cause, done_moments, done_answered}
use Rattle.series_store.proofs.SaveLemmas.{failed, failed_reading}
use Rattle.series_store.proofs.RoomLemmas.{first_room}
use Rattle.series_store.proofs.StageLemmas.{catalog_as}
use Rattle.tree_walk.proofs.StepLemmas.{error_so}
use Rattle.series_store.proofs.committing.commit_one.Goals as goal

pub stage-requires-clause-room : goal.stage-requires-clause-room
stage-requires-clause-room g c = first_room _ (series_in c.args.catalog.now) c.args.edit.now (omega (arith, c.requires.one))

pub returns-in_err-staged-clause-answered : goal.returns-in_err-staged-clause-answered
returns-in_err-staged-clause-answered g c = λ total book told stands.
    let old = c.args.space.now.pages in
    let S : Image → Type 0 = λ i. StandsForBook i total book in
    let did = c.in_err-staged.ensures.carried in
    failed_reading _ total book c.from_residual.result c.in_err-staged.field-0.0 (g.P.Pages.view old)
    (g.P.Pages.view c.stage.new.space.pages)
    (c.in_err-staged.ensures.answered total book told (subst S (sym (c.requires.clean.1 told)) stands)).refused c.from_residual.ensures.1
    stands (g.met.P.Pages.rests old c.requires.sound) c.stage.ensures.carried.reads.time

pub returns-in_err-staged-clause-carried : goal.returns-in_err-staged-clause-carried
returns-in_err-staged-clause-carried g c =
    let old = c.args.space.now in
    carried_read c.from_residual.result c.in_err-staged.field-0.0
    (omega arith) c.from_residual.ensures.1 c.stage.ensures.carried.reads c.stage.ensures.carried.over.goes_on
    c.stage.ensures.carried.over.superblock
    (stored_cause (g.P.Pages.told old.pages) old.superblock c.args.txn c.in_err-staged.field-0.0 (g.P.Pages.view old.pages)
    (g.P.Pages.view c.stage.new.space.pages) c.requires.clean.0 c.requires.clean.1 c.in_err-staged.ensures.carried.cause)

pub returns-in_err-staged-clause-stored : goal.returns-in_err-staged-clause-stored
returns-in_err-staged-clause-stored g c =
    let old = c.args.space.now in
    let mid = c.stage.new.space in
    let did = c.stage.ensures.carried in
    catalog_as (g.P.Pages.told old.pages) _ (left_by c.args.txn (g.P.Pages.view old.pages).image)
    (g.P.Pages.view mid.pages).image c.args.txn.superblock mid.superblock (series_in c.args.catalog.now) (series_in c.stage.new.catalog)
    (λ now. did.reads.was_told now.1) (λ now. did.reads.image (did.reads.was_told now.1)
    ∙ sym (c.requires.clean.1 (did.reads.was_told now.1))) (did.over.superblock
    ∙ sym c.requires.clean.0) c.in_err-staged.ensures.carried.kept c.requires.staged.catalog

pub returns-in-Ok-clause-answered : goal.returns-in-Ok-clause-answered
returns-in-Ok-clause-answered g c = λ total book told stands.
    let old = c.args.space.now.pages in
    let mid = c.stage.new.space.pages in
    let new = c.finish.new.space.pages in
    let S : Image → Type 0 = λ i. StandsForBook i total book in
    let reads = c.stage.ensures.carried.reads in
    done_answered _ total book c.in_ok-staged.staged.outcome c.stage.new.txn (g.P.Pages.told mid) (g.P.Pages.told new) (g.P.Pages.view old)
    (g.P.Pages.view mid) (g.P.Pages.view new) stands
    (c.in_ok-staged.ensures.answered total book told (subst S (sym (c.requires.clean.1 told)) stands)).done
    (g.met.P.Pages.rests old c.requires.sound) (reads.image told) reads.time c.finish.ensures.commits
    (c.in-Ok.ensures.done (reads.told told))

pub returns-in-Ok-clause-stored : goal.returns-in-Ok-clause-stored
returns-in-Ok-clause-stored g c =
    let mid = c.stage.new.space in
    let new = c.finish.new.space in
    let was = c.finish.ensures.commits.was_told in
    catalog_as (g.P.Pages.told mid.pages) _ (left_by c.stage.new.txn (g.P.Pages.view mid.pages).image)
    (g.P.Pages.view new.pages).image c.stage.new.txn.superblock new.superblock (series_in c.stage.new.catalog)
    (series_in c.stage.new.catalog)
    (λ now. was now.1) (λ now. c.in-Ok.ensures.done (was now.1)) c.in-Ok.ensures.superblock refl (c.in_ok-staged.ensures.carried.stands tt)

pub returns-in-Err-clause-answered : goal.returns-in-Err-clause-answered
returns-in-Err-clause-answered g c = λ total book told stands.
    let old = c.args.space.now.pages in
    let mid = c.stage.new.space.pages in
    let new = c.finish.new.space.pages in
    let S : Image → Type 0 = λ i. StandsForBook i total book in
    let reads = c.stage.ensures.carried.reads in
    failed _ total book (Err DiskFault) DiskFault (g.P.Pages.view old) (g.P.Pages.view new) tt refl
    (done_moments _ total book c.in_ok-staged.staged.outcome c.stage.new.txn (g.P.Pages.told mid) (g.P.Pages.told new) (g.P.Pages.view old)
    (g.P.Pages.view mid) (g.P.Pages.view new) stands
    (c.in_ok-staged.ensures.answered total book told (subst S (sym (c.requires.clean.1 told)) stands)).done
    (g.met.P.Pages.rests old c.requires.sound) (reads.image told) reads.time c.finish.ensures.commits)

pub returns-in-Err-clause-stored : goal.returns-in-Err-clause-stored
returns-in-Err-clause-stored g c =
    let old = c.args.space.now in
    let new = c.finish.new.space in
    catalog_as (g.P.Pages.told old.pages) _ (left_by c.args.txn (g.P.Pages.view old.pages).image)
    (g.P.Pages.view new.pages).image c.args.txn.superblock new.superblock (series_in c.args.catalog.now) (series_in c.apply.new.catalog)
    (λ now. absurd (c.in-Err.ensures.unsound now.0)) (λ now. absurd (c.in-Err.ensures.unsound now.0)) (c.in-Err.ensures.old_superblock
    ∙ c.stage.ensures.carried.over.superblock ∙ sym c.requires.clean.0)
    (c.apply.ensures (series_in c.args.catalog.now) c.in_ok-staged.ensures.carried.back) c.requires.staged.catalog

pub returns-in-Ok-clause-none_cleared : goal.returns-in-Ok-clause-none_cleared
returns-in-Ok-clause-none_cleared g c = λ total book told stands none.
    let S : Image → Type 0 = λ i. StandsForBook i total book in
    let nothing = c.in_ok-staged.ensures.none_cleared total book told (subst S (sym (c.requires.clean.1 told)) stands) none in
    let quiet : not c.is_nothing.result ≡ false = ap not (c.is_nothing.ensures.1 nothing) in
    let same : c.finish.new.space ≡ c.stage.new.space = c.finish.ensures.none quiet in
    rw same (c.stage.ensures.carried.reads.syncs, c.stage.ensures.carried.reads.writes)

pub returns-in-Err-clause-none_cleared : goal.returns-in-Err-clause-none_cleared
returns-in-Err-clause-none_cleared g c = λ total book told stands none.
    let S : Image → Type 0 = λ i. StandsForBook i total book in
    let nothing = c.in_ok-staged.ensures.none_cleared total book told (subst S (sym (c.requires.clean.1 told)) stands) none in
    let quiet : not c.is_nothing.result ≡ false = ap not (c.is_nothing.ensures.1 nothing) in
    let same : c.finish.new.space ≡ c.stage.new.space = c.finish.ensures.none quiet in
    rw same (c.stage.ensures.carried.reads.syncs, c.stage.ensures.carried.reads.writes)

pub returns-in-Ok-clause-kept : goal.returns-in-Ok-clause-kept
returns-in-Ok-clause-kept g c = λ total book told stands keeps.
    let S : Image → Type 0 = λ i. StandsForBook i total book in
    let nothing = c.in_ok-staged.ensures.kept total book told (subst S (sym (c.requires.clean.1 told)) stands) keeps in
    let quiet : not c.is_nothing.result ≡ false = ap not (c.is_nothing.ensures.1 nothing) in
    let same : c.finish.new.space ≡ c.stage.new.space = c.finish.ensures.none quiet in
    rw same (c.stage.ensures.carried.reads.syncs, c.stage.ensures.carried.reads.writes)

pub returns-in-Err-clause-kept : goal.returns-in-Err-clause-kept
returns-in-Err-clause-kept g c = λ total book told stands keeps.
    let S : Image → Type 0 = λ i. StandsForBook i total book in
    let nothing = c.in_ok-staged.ensures.kept total book told (subst S (sym (c.requires.clean.1 told)) stands) keeps in
    let quiet : not c.is_nothing.result ≡ false = ap not (c.is_nothing.ensures.1 nothing) in
    let same : c.finish.new.space ≡ c.stage.new.space = c.finish.ensures.none quiet in
    rw same (c.stage.ensures.carried.reads.syncs, c.stage.ensures.carried.reads.writes)

pub returns-in_err-staged-clause-quiet_err : goal.returns-in_err-staged-clause-quiet_err
returns-in_err-staged-clause-quiet_err g c =
    error_so _ _ c.from_residual.result c.from_residual.ensures.1
    (λ e same other. c.in_err-staged.ensures.quiet_err (λ is. other (same ∙ is)))
