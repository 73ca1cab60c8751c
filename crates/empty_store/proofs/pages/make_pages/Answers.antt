use Rattle.std.proofs.Common.{sym, subst}
use Rattle.std.proofs.lemmas.Result.{IfOk-weaker}
use Rattle.page_space.specs.Causes.{Unopened}
use Rattle.page_space.specs.Layout.{HasMagic}
use Rattle.page_space.specs.Shown as shown
use Rattle.page_space.specs.declared.errors.SpaceError.{SpaceError}
use Rattle.store_upgrade.proofs.Magics.{magic_current}
use Rattle.empty_store.specs.Causes.{given}
use Rattle.empty_store.proofs.DisksMade.{marked}
use Rattle.empty_store.proofs.PagesMade.{lacks_both, stays_then}
use Rattle.empty_store.proofs.pages.make_pages.Goals as goal

pub returns-in-Ok-clause-cause : goal.returns-in-Ok-clause-cause
returns-in-Ok-clause-cause g c = λ told.
    magic_current (g.P.Pages.view c.args.pages).image
    (subst HasMagic (sym (c.in-Ok.ensures.superblock told).spelled) (marked (shown.numbers c.in-Ok.space)))

-- page 0 lacks the magic of version 2
pub returns-in-NotAStore-clause-fresh : goal.returns-in-NotAStore-clause-fresh
returns-in-NotAStore-clause-fresh g c =
    let view = g.P.Pages.view in
    let told = g.P.Pages.told in
    let e = c.in-Err.ensures in
    let old = c.args.pages in
    let mid = c.in-Err.field-0.value in
    let U : SpaceError → Type 0 = λ cause. Unopened cause (told old) (view old) (view mid) in
    IfOk-weaker c.make_new.result _ _ (λ made fresh is magic.
    fresh (e.reads.told is) (lacks_both (told old) (told mid) (view old) (view mid) e.reads (subst U c.in-NotAStore.is e.cause) is magic))
    c.make_new.ensures.fresh

pub returns-in-NotAStore-clause-kept : goal.returns-in-NotAStore-clause-kept
returns-in-NotAStore-clause-kept g c = λ is magic.
    let view = g.P.Pages.view in
    let told = g.P.Pages.told in
    let e = c.in-Err.ensures in
    let old = c.args.pages in
    let mid = c.in-Err.field-0.value in
    let U : SpaceError → Type 0 = λ cause. Unopened cause (told old) (view old) (view mid) in
    stays_then (told old) (told mid) (view old) (view mid) (view (given c.make_new.result)) is
    (g.met.P.Pages.rests old c.requires.sound) e.reads
    (c.make_new.ensures.kept (e.reads.told is) (lacks_both (told old) (told mid) (view old) (view mid) e.reads
    (subst U c.in-NotAStore.is e.cause) is magic))

pub returns-in-Damaged-clause-cause : goal.returns-in-Damaged-clause-cause
returns-in-Damaged-clause-cause g c = λ is.
    let view = g.P.Pages.view in
    let old = c.args.pages in
    let U : SpaceError → Type 0 = λ cause. Unopened cause (g.P.Pages.told old) (view old) (view c.in-Err.field-0.value) in
    magic_current (view old).image ((subst U c.in-Damaged.is c.in-Err.ensures.cause).1 is).0
