use Rattle.std.proofs.Common.{ℕ, suc, All, List, ◌∷◌, drop, length, Ok, Err, refl, sym, ap, subst, rules, arith, inl, inr, ◌∙◌}
use Rattle.page_space.specs.Transactions.{held, left_by}
use Rattle.series_book.specs.declared.edits.Edit.{Edit}
use Rattle.series_book.specs.Edits.{IsEdit, apply}
use Rattle.series_book.specs.EditLists.{book_behind}
use Rattle.series_catalog.specs.declared.stored_series.StoredSeries.{StoredSeries}
use Rattle.series_store.specs.declared.staged.Undo.{Undo}
use Rattle.series_store.specs.Staging.{HasRoomFor, TakesBack}
use Rattle.series_store.proofs.GroupLemmas.{clean_after, closed, closed_by, failed_next, failed_next_by, none_follow, edits_follow}
use Rattle.series_store.proofs.GroupLemmas.{few_added, few_follow, follow_by, stepped_behind, stepped_by}
use Rattle.series_store.proofs.RoomLemmas.{in_range}
use Rattle.series_store.proofs.StageLemmas.{catalog_as}
use Rattle.tree_walk.proofs.StepLemmas.{error_so}
use Rattle.series_store.proofs.groups.+commit_all.Goals as goal

pub is_full-requires-clause-fit : goal.is_full-requires-clause-fit
is_full-requires-clause-fit g t c = in_range c.args.txn.superblock.fresh c.args.catalog.now.series.items c.requires.staged.catalog.fits

pub stage_next-requires-clause-room : goal.stage_next-requires-clause-room
stage_next-requires-clause-room g t c =
    let R : ℕ → Type 0 = λ n. HasRoomFor n c.args.catalog.now.series.items c.in-Some.edit.now in
    subst R c.len-held.ensures.len (c.is_full.ensures.room c.if-is_full.false)

pub returns-in_default-clause-groups : goal.returns-in_default-clause-groups
returns-in_default-clause-groups g t c =
    let told = g.P.Pages.told in
    let view = g.P.Pages.view in
    let under = g.P.Pages.under in
    let old = c.args.space.now in
    let new = c.close.new.space in
    closed (told old.pages) (told new.pages) (view old.pages) (view new.pages) (under old.pages)
    (under new.pages) old.superblock new.superblock c.args.txn c.args.is_changed c.args.catalog.now.series.items c.args.edits.now
    c.args.answers.now.items c.close.result
    (λ some few. omega (arith, some, c.in_default.ensures.cases))
    (omega (arith, c.len-held.ensures.few, c.len-held.ensures.len)) c.close.ensures.commits c.close.ensures.goes_on c.close.ensures.done
    c.close.ensures.superblock
    (λ none. (ap (λ s. (view (s.pages)).image) (c.close.ensures.none none), ap (λ s. s.superblock) (c.close.ensures.none none)))
    c.close.ensures.old_superblock c.close.ensures.sound c.close.ensures.unsound c.close.ensures.error c.close.ensures.cause
    c.requires.staged c.requires.clean

pub returns-in_default-clause-grouped : goal.returns-in_default-clause-grouped
returns-in_default-clause-grouped g t c = λ total book told stands clean.
    let view = g.P.Pages.view in
    let old = c.args.space.now in
    let new = c.close.new.space in
    closed_by (g.P.Pages.told old.pages) (g.P.Pages.told new.pages) (view old.pages)
    (view new.pages) c.args.txn c.args.ends c.args.is_changed total book c.args.edits.now c.args.answers.now.items c.close.result told
    (inl c.in_default.ensures.cases) c.close.ensures.commits c.close.ensures.done
    (λ none. ap (λ s. view (s.pages)) (c.close.ensures.none none)) clean c.close.ensures.error stands

pub returns-then-is_full-clause-groups : goal.returns-then-is_full-clause-groups
returns-then-is_full-clause-groups g t c =
    let told = g.P.Pages.told in
    let view = g.P.Pages.view in
    let under = g.P.Pages.under in
    let old = c.args.space.now in
    let close = c.close-then-is_full in
    let new = close.new.space in
    closed (told old.pages) (told new.pages) (view old.pages) (view new.pages) (under old.pages)
    (under new.pages) old.superblock new.superblock c.args.txn c.args.is_changed c.args.catalog.now.series.items c.args.edits.now
    c.args.answers.now.items close.result
    (λ some few. omega (arith, few, c.is_full.ensures.full c.if-is_full.true, c.len-held.ensures.len))
    (omega (arith, c.len-held.ensures.few, c.len-held.ensures.len)) close.ensures.commits close.ensures.goes_on close.ensures.done
    close.ensures.superblock
    (λ none. (ap (λ s. (view (s.pages)).image) (close.ensures.none none), ap (λ s. s.superblock) (close.ensures.none none)))
    close.ensures.old_superblock close.ensures.sound close.ensures.unsound close.ensures.error close.ensures.cause
    c.requires.staged c.requires.clean

pub returns-then-is_full-clause-grouped : goal.returns-then-is_full-clause-grouped
returns-then-is_full-clause-grouped g t c = λ total book told stands clean.
    let view = g.P.Pages.view in
    let old = c.args.space.now in
    let close = c.close-then-is_full in
    let new = close.new.space in
    closed_by (g.P.Pages.told old.pages) (g.P.Pages.told new.pages) (view old.pages)
    (view new.pages) c.args.txn c.args.ends c.args.is_changed total book c.args.edits.now c.args.answers.now.items close.result told
    (inr (omega (arith, c.is_full.ensures.full c.if-is_full.true, c.len-held.ensures.len))) close.ensures.commits close.ensures.done
    (λ none. ap (λ s. view (s.pages)) (close.ensures.none none)) clean close.ensures.error stands

pub returns-in_err-undo-clause-groups : goal.returns-in_err-undo-clause-groups
returns-in_err-undo-clause-groups g t c =
    let told = g.P.Pages.told in
    let view = g.P.Pages.view in
    let under = g.P.Pages.under in
    let old = c.args.space.now in
    let next = c.stage_next.new in
    failed_next (told old.pages) (told next.space.pages) (view old.pages) (view next.space.pages) (under old.pages)
    (under next.space.pages) old.superblock next.space.superblock c.args.txn next.txn c.args.catalog.now.series.items
    next.catalog.series.items
    c.args.edits.now c.args.answers.now.items next.answers.items c.from_residual.result c.in_err-undo.field-0.0
    (omega (arith, ap length c.in-Some.ensures.cases.0)) c.from_residual.ensures.1 c.in_err-undo.ensures.next

pub returns-in_err-undo-clause-grouped : goal.returns-in_err-undo-clause-grouped
returns-in_err-undo-clause-grouped g t c = λ total book told stands clean.
    let view = g.P.Pages.view in
    let old = c.args.space.now in
    let next = c.stage_next.new in
    failed_next_by (g.P.Pages.told old.pages) (g.P.Pages.told next.space.pages) (view old.pages) (view next.space.pages) c.args.txn next.txn
    (left_by next.txn (view next.space.pages).image) c.args.ends c.args.is_changed total book c.in-Some.edit.now c.in-Some.rest.now
    c.args.edits.now c.args.answers.now.items next.answers.items
    c.from_residual.result c.in_err-undo.field-0.0 c.in-Some.ensures.cases.0 c.in_err-undo.ensures.next.same c.from_residual.ensures.1
    (g.met.P.Pages.rests old.pages c.requires.sound) c.stage_next.ensures.next.reads
    (c.in_err-undo.ensures.answered total book told stands)

pub commit_all-requires : goal.commit_all-requires
commit_all-requires g t c κs within =
    let old = c.args.space.now.pages in
    let next = c.stage_next.new in
    let did = c.in_ok-undo.ensures.next in
    let items = c.args.catalog.now.series.items in
    let A : List Edit → Type 0 = λ list. All IsEdit list in
    let T : Undo → Type 0 = λ u. TakesBack u next.catalog.series.items items in
    let rest = c.in-Some.rest.now in
    let behind = c.to_follow-rest.result.now in
    let follow = c.to_follow-rest.ensures c.args.answers.now.items did.answer (c.as_slice.ensures.value ∙ did.answers_are) in (
      omega (arith, c.in-Some.ensures.cases.1, few_follow c.args.ends did.answer rest behind follow),
      (
        search rules,
        (
          did.reads.fit c.requires.sound,
          (
            did.staged,
            (
              λ none.
                  let both = c.or_changed-is_changed.ensures.changed none in
                  catalog_as (g.P.Pages.told old) (g.P.Pages.told next.space.pages) (g.P.Pages.view old).image
                  (g.P.Pages.view next.space.pages).image c.args.space.now.superblock next.space.superblock items
                  next.catalog.series.items
                  did.reads.was_told (λ now. did.reads.image (did.reads.was_told now)) did.over.superblock (subst T both.1 did.back)
                  (c.requires.clean both.0),
              edits_follow c.args.ends did.answer rest behind follow
                  (λ k d low. (subst A c.in-Some.ensures.cases.0 c.requires.are_edits) (suc k) d (omega (arith, low))),
            ),
          ),
        ),
      ),
    )

pub returns-in-Ok-clause-groups : goal.returns-in-Ok-clause-groups
returns-in-Ok-clause-groups g t c =
    let told = g.P.Pages.told in
    let view = g.P.Pages.view in
    let under = g.P.Pages.under in
    let old = c.args.space.now in
    let next = c.stage_next.new in
    let new = c.commit_all.new in
    stepped_behind (told old.pages) (told next.space.pages) (told new.space.pages) (view old.pages) (view next.space.pages)
    (view new.space.pages) (under old.pages) (under next.space.pages)
    (under new.space.pages) old.superblock next.space.superblock new.space.superblock c.args.txn next.txn
    c.args.catalog.now.series.items next.catalog.series.items new.catalog.series.items new.catalog.series.items c.args.ends
    c.in-Some.edit.now c.in-Some.rest.now c.to_follow-rest.result.now c.args.edits.now c.in_ok-undo.undo c.args.answers.now.items
    next.answers.items new.answers.items (Ok tt) c.in-Some.ensures.cases.0
    c.in_ok-undo.ensures.next (c.to_follow-rest.ensures c.args.answers.now.items c.in_ok-undo.ensures.next.answer (c.as_slice.ensures.value
    ∙ c.in_ok-undo.ensures.next.answers_are)) c.in_ok-undo.ensures.quiet c.in-Ok.ensures.groups refl tt

pub returns-in-Ok-clause-grouped : goal.returns-in-Ok-clause-grouped
returns-in-Ok-clause-grouped g t c = λ total book told stands clean.
    let view = g.P.Pages.view in
    let old = c.args.space.now in
    let next = c.stage_next.new in
    let new = c.commit_all.new in
    let by = c.in_ok-undo.ensures.answered total book told stands in
    let did = c.in_ok-undo.ensures.next in
    let added = drop (length c.args.answers.now.items) new.answers.items in
    let behind = c.to_follow-rest.result.now in
    follow_by total book (length (held c.args.txn)) c.args.ends c.args.is_changed did.answer c.in-Some.edit.now c.in-Some.rest.now behind
    c.args.edits.now added (Ok tt) (view old.pages) (view new.space.pages) c.in-Some.ensures.cases.0
    (c.to_follow-rest.ensures c.args.answers.now.items c.in_ok-undo.ensures.next.answer (c.as_slice.ensures.value
    ∙ c.in_ok-undo.ensures.next.answers_are))
    (few_added behind c.args.answers.now.items next.answers.items new.answers.items did.answer did.answers_are
    c.in-Ok.ensures.groups.answers_are c.in-Ok.ensures.groups.within)
    (stepped_by (g.P.Pages.told old.pages) (g.P.Pages.told next.space.pages) (view old.pages) (view next.space.pages)
    (view new.space.pages) c.args.txn next.txn (left_by next.txn (view next.space.pages).image) c.args.ends
    c.or_changed-is_changed.result c.args.is_changed total book c.in-Some.edit.now behind (c.in-Some.edit.now ∷ behind)
    c.in_ok-undo.undo c.args.answers.now.items next.answers.items new.answers.items (Ok tt) refl told
    (g.met.P.Pages.rests old.pages c.requires.sound) did.reads c.in-Ok.ensures.groups.answers_are c.or_changed-is_changed.ensures.none
    by
    (none_follow c.args.ends by.answer c.in-Some.rest.now behind
    (c.to_follow-rest.ensures c.args.answers.now.items by.answer (c.as_slice.ensures.value ∙ by.answers_are)))
    (c.in-Ok.ensures.grouped total (book_behind book (apply book total c.in-Some.edit.now)) (did.reads.told told) by.stands
    (λ none.
    let both = c.or_changed-is_changed.ensures.changed none in
    clean_after (g.P.Pages.told old.pages) (view old.pages) (view next.space.pages) c.args.txn next.txn told
    (by.nothing both.1) did.reads.image (clean both.0))))

pub returns-in-Err-clause-groups : goal.returns-in-Err-clause-groups
returns-in-Err-clause-groups g t c =
    let told = g.P.Pages.told in
    let view = g.P.Pages.view in
    let under = g.P.Pages.under in
    let old = c.args.space.now in
    let next = c.stage_next.new in
    let new = c.commit_all.new in
    let items = c.args.catalog.now.series.items in
    let T : List StoredSeries → Type 0 = λ now. TakesBack c.in_ok-undo.undo now items in
    stepped_behind (told old.pages) (told next.space.pages) (told new.space.pages) (view old.pages) (view next.space.pages)
    (view new.space.pages) (under old.pages) (under next.space.pages)
    (under new.space.pages) old.superblock next.space.superblock new.space.superblock c.args.txn next.txn
    items next.catalog.series.items new.catalog.series.items c.apply.new.catalog.series.items c.args.ends c.in-Some.edit.now
    c.in-Some.rest.now c.to_follow-rest.result.now c.args.edits.now c.in_ok-undo.undo c.args.answers.now.items next.answers.items
    new.answers.items (Err c.in-Err.cause) c.in-Some.ensures.cases.0
    c.in_ok-undo.ensures.next (c.to_follow-rest.ensures c.args.answers.now.items c.in_ok-undo.ensures.next.answer (c.as_slice.ensures.value
    ∙ c.in_ok-undo.ensures.next.answers_are)) c.in_ok-undo.ensures.quiet c.in-Err.ensures.groups tt
    (c.apply.ensures items (subst T (sym c.in-Err.ensures.groups.kept) c.in_ok-undo.ensures.next.back))

pub returns-in-Err-clause-grouped : goal.returns-in-Err-clause-grouped
returns-in-Err-clause-grouped g t c = λ total book told stands clean.
    let view = g.P.Pages.view in
    let old = c.args.space.now in
    let next = c.stage_next.new in
    let new = c.commit_all.new in
    let by = c.in_ok-undo.ensures.answered total book told stands in
    let did = c.in_ok-undo.ensures.next in
    let added = drop (length c.args.answers.now.items) new.answers.items in
    let behind = c.to_follow-rest.result.now in
    follow_by total book (length (held c.args.txn)) c.args.ends c.args.is_changed did.answer c.in-Some.edit.now c.in-Some.rest.now behind
    c.args.edits.now added (Err c.in-Err.cause) (view old.pages) (view new.space.pages) c.in-Some.ensures.cases.0
    (c.to_follow-rest.ensures c.args.answers.now.items c.in_ok-undo.ensures.next.answer (c.as_slice.ensures.value
    ∙ c.in_ok-undo.ensures.next.answers_are))
    (few_added behind c.args.answers.now.items next.answers.items new.answers.items did.answer did.answers_are
    c.in-Err.ensures.groups.answers_are c.in-Err.ensures.groups.within)
    (stepped_by (g.P.Pages.told old.pages) (g.P.Pages.told next.space.pages) (view old.pages) (view next.space.pages)
    (view new.space.pages) c.args.txn next.txn (left_by next.txn (view next.space.pages).image) c.args.ends
    c.or_changed-is_changed.result c.args.is_changed total book c.in-Some.edit.now behind (c.in-Some.edit.now ∷ behind)
    c.in_ok-undo.undo c.args.answers.now.items next.answers.items new.answers.items (Err c.in-Err.cause) refl told
    (g.met.P.Pages.rests old.pages c.requires.sound) did.reads c.in-Err.ensures.groups.answers_are c.or_changed-is_changed.ensures.none
    by
    (none_follow c.args.ends by.answer c.in-Some.rest.now behind
    (c.to_follow-rest.ensures c.args.answers.now.items by.answer (c.as_slice.ensures.value ∙ by.answers_are)))
    (c.in-Err.ensures.grouped total (book_behind book (apply book total c.in-Some.edit.now)) (did.reads.told told) by.stands
    (λ none.
    let both = c.or_changed-is_changed.ensures.changed none in
    clean_after (g.P.Pages.told old.pages) (view old.pages) (view next.space.pages) c.args.txn next.txn told
    (by.nothing both.1) did.reads.image (clean both.0))))

pub returns-in_err-undo-clause-quiet_err : goal.returns-in_err-undo-clause-quiet_err
returns-in_err-undo-clause-quiet_err g t c =
    error_so _ _ c.from_residual.result c.from_residual.ensures.1
    (λ e same other. c.in_err-undo.ensures.quiet_err (λ is. other (same ∙ is)))
