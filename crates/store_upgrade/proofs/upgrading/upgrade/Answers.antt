use Rattle.std.proofs.Common.{◌≡◌, [], sym, ap, ◌∙◌, arith}
use Rattle.gate_pages.specs.Entries.{entries}
use Rattle.gate_pages.specs.GateLaws.{goes_none, goes_then}
use Rattle.store_upgrade.proofs.Committed.{risen_on, read_old, read_new, upgrades_looked, looks_17, looked, old_store, upgrades_committed}
use Rattle.store_upgrade.proofs.Committed.{committed_current, prevents, stops, places}
use Rattle.store_upgrade.proofs.Looking.{looks_none, looks_more}
use Rattle.store_upgrade.proofs.Magics.{current_same}
use Rattle.store_upgrade.proofs.upgrading.upgrade.Goals as goal

pub returns-in_err-block-clause-upgrades : goal.returns-in_err-block-clause-upgrades
returns-in_err-block-clause-upgrades g c =
    let view = g.P.Pages.view c.args.pages.now in
    let told = g.P.Pages.told c.args.pages.now in
    upgrades_looked told told view view (g.met.P.Pages.rests c.args.pages.now c.requires.sound)
    (looks_more 0 17 told told view view (omega arith) (looks_none told view))

pub returns-in_err-block-clause-goes_on : goal.returns-in_err-block-clause-goes_on
returns-in_err-block-clause-goes_on g c = goes_none (g.P.Pages.under c.args.pages.now)

pub returns-in_default-clause-goes_on : goal.returns-in_default-clause-goes_on
returns-in_default-clause-goes_on g c = c.read_first.ensures.goes_on

pub returns-in_default-clause-unwritten : goal.returns-in_default-clause-unwritten
returns-in_default-clause-unwritten g c = λ t lacks. c.read_first.ensures.reads

pub returns-then-not-is_old-clause-goes_on : goal.returns-then-not-is_old-clause-goes_on
returns-then-not-is_old-clause-goes_on g c = c.read_first.ensures.goes_on

pub returns-then-not-is_old-clause-unwritten : goal.returns-then-not-is_old-clause-unwritten
returns-then-not-is_old-clause-unwritten g c = λ t lacks. c.read_first.ensures.reads

pub returns-then-not-is_old-clause-sound : goal.returns-then-not-is_old-clause-sound
returns-then-not-is_old-clause-sound g c = c.read_first.ensures.reads.fit c.requires.sound

pub returns-in-Ok-commit-clause-sound : goal.returns-in-Ok-commit-clause-sound
returns-in-Ok-commit-clause-sound g c = c.in-Ok-commit.ensures.sound

pub returns-in-Ok-new_pages-clause-stops : goal.returns-in-Ok-new_pages-clause-stops
returns-in-Ok-new_pages-clause-stops g c = λ fit. absurd (c.in-Err-commit.ensures.unsound fit)

pub returns-in_default-clause-upgrades : goal.returns-in_default-clause-upgrades
returns-in_default-clause-upgrades g c =
    let view = g.P.Pages.view in
    let told = g.P.Pages.told in
    let old = c.args.pages.now in
    let mid = c.read_first.new.pages in
    upgrades_looked (told old) (told mid) (view old) (view mid) (g.met.P.Pages.rests old c.requires.sound)
    (looks_17 (told old) (told mid) (view old) (view mid) c.read_first.ensures.reads)

pub returns-in_default-clause-stops : goal.returns-in_default-clause-stops
returns-in_default-clause-stops g c =
    let view = g.P.Pages.view in
    let told = g.P.Pages.told in
    let old = c.args.pages.now in
    let mid = c.read_first.new.pages in
    λ fit. looks_17 (told old) (told mid) (view old) (view mid) c.read_first.ensures.reads

-- page 0 has another magic
pub returns-then-not-is_old-clause-upgrades : goal.returns-then-not-is_old-clause-upgrades
returns-then-not-is_old-clause-upgrades g c =
    let view = g.P.Pages.view in
    let told = g.P.Pages.told in
    let old = c.args.pages.now in
    let mid = c.read_first.new.pages in
    upgrades_looked (told old) (told mid) (view old) (view mid) (g.met.P.Pages.rests old c.requires.sound)
    (looks_17 (told old) (told mid) (view old) (view mid) c.read_first.ensures.reads)

pub returns-then-not-is_old-clause-done : goal.returns-then-not-is_old-clause-done
returns-then-not-is_old-clause-done g c = λ t.
    let old = c.args.pages.now in
    let image = (g.P.Pages.view old).image in
    c.read_first.ensures.reads.image t
    ∙ sym (current_same image (read_new (g.P.Pages.told old) c.read_first.new.page image c.in-Ok.is_old c.in-Ok.ensures.page
    c.in-Ok.ensures.old c.if-not-is_old.true t))

pub returns-then-not-is_old-clause-kept : goal.returns-then-not-is_old-clause-kept
returns-then-not-is_old-clause-kept g c = λ t has.
    let old = c.args.pages.now in
    let image = (g.P.Pages.view old).image in
    absurd (read_new (g.P.Pages.told old) c.read_first.new.page image c.in-Ok.is_old c.in-Ok.ensures.page c.in-Ok.ensures.old
    c.if-not-is_old.true t has)

-- the batch was committed
pub returns-in-Ok-commit-clause-upgrades : goal.returns-in-Ok-commit-clause-upgrades
returns-in-Ok-commit-clause-upgrades g c =
    let view = g.P.Pages.view in
    let told = g.P.Pages.told in
    let old = c.args.pages.now in
    let mid = c.read_first.new.pages in
    let near = c.new_pages.new.pages in
    let new = c.commit.new.self in
    let read = c.read_first.ensures in
    let e = c.in-Ok-new_pages.ensures in
    let magic = read_old (told old) c.read_first.new.page
    (view old).image c.in-Ok.is_old c.in-Ok.ensures.page c.in-Ok.ensures.old c.if-not-is_old.false in
    let here : told mid → c.read_first.new.page ≡ (view mid).image 0 = λ t. let was = read.reads.was_told t in
    c.in-Ok.ensures.page was ∙ sym (ap (λ i. i 0) (read.reads.image was)) in
    upgrades_committed (told old) (told mid) (told near) (view old) (view mid) (view near)
    (entries c.in-Ok-new_pages.batch) magic read.reads e.looks (told new) (view new)
    (g.met.P.Pages.rests old c.requires.sound) e.few e.below e.kept (λ t. e.pages t (here t)) c.commit.ensures.commits

pub returns-in-Ok-commit-clause-goes_on : goal.returns-in-Ok-commit-clause-goes_on
returns-in-Ok-commit-clause-goes_on g c =
    let under = g.P.Pages.under in
    let old = under c.args.pages.now in
    let near = under c.new_pages.new.pages in
    goes_then old near (under c.commit.new.self) (goes_then old
    (under c.read_first.new.pages) near c.read_first.ensures.goes_on c.new_pages.ensures.goes_on) c.commit.ensures.goes_on

pub returns-in-Ok-commit-clause-done : goal.returns-in-Ok-commit-clause-done
returns-in-Ok-commit-clause-done g c =
    let view = g.P.Pages.view in
    let told = g.P.Pages.told in
    let old = c.args.pages.now in
    let mid = c.read_first.new.pages in
    let near = c.new_pages.new.pages in
    let read = c.read_first.ensures in
    let e = c.in-Ok-new_pages.ensures in
    let magic = read_old (told old) c.read_first.new.page
    (view old).image c.in-Ok.is_old c.in-Ok.ensures.page c.in-Ok.ensures.old c.if-not-is_old.false in
    let here : told mid → c.read_first.new.page ≡ (view mid).image 0 = λ t. let was = read.reads.was_told t in
    c.in-Ok.ensures.page was ∙ sym (ap (λ i. i 0) (read.reads.image was)) in
    committed_current (told old) (told mid) (told near) (view old) (view mid) (view near)
    (entries c.in-Ok-new_pages.batch) magic read.reads e.looks (view c.commit.new.self).image e.below
    (λ t. e.pages t (here t)) c.in-Ok-commit.ensures.done

pub returns-in-Ok-commit-clause-kept : goal.returns-in-Ok-commit-clause-kept
returns-in-Ok-commit-clause-kept g c = λ t has.
    let view = g.P.Pages.view in
    let told = g.P.Pages.told in
    let old = c.args.pages.now in
    let mid = c.read_first.new.pages in
    let near = c.new_pages.new.pages in
    let e = c.in-Ok-new_pages.ensures in
    old_store (told old) (told mid) (told near) (view old) (view mid) (view near) (entries c.in-Ok-new_pages.batch)
    (λ is. has) c.read_first.ensures.reads e.looks e.kept t

pub returns-in-Ok-commit-clause-unwritten : goal.returns-in-Ok-commit-clause-unwritten
returns-in-Ok-commit-clause-unwritten g c = λ t lacks.
    absurd (lacks (read_old (g.P.Pages.told c.args.pages.now) c.read_first.new.page
    (g.P.Pages.view c.args.pages.now).image c.in-Ok.is_old c.in-Ok.ensures.page c.in-Ok.ensures.old c.if-not-is_old.false t))

-- the commit failed
pub returns-in-Ok-new_pages-clause-cause : goal.returns-in-Ok-new_pages-clause-cause
returns-in-Ok-new_pages-clause-cause g c =
    let view = g.P.Pages.view in
    let old = (view c.args.pages.now).faults in
    let mid = (view c.read_first.new.pages).faults in
    let near = (view c.new_pages.new.pages).faults in
    let new = (view c.commit.new.self).faults in
    risen_on old mid new c.in-Ok.ensures.quiet (risen_on mid near new c.in-Ok-new_pages.ensures.quiet c.in-Err-commit.ensures.cause)

pub returns-in-Ok-new_pages-clause-upgrades : goal.returns-in-Ok-new_pages-clause-upgrades
returns-in-Ok-new_pages-clause-upgrades g c =
    let view = g.P.Pages.view in
    let told = g.P.Pages.told in
    let old = c.args.pages.now in
    let mid = c.read_first.new.pages in
    let near = c.new_pages.new.pages in
    let new = c.commit.new.self in
    let read = c.read_first.ensures in
    let e = c.in-Ok-new_pages.ensures in
    let magic = read_old (told old) c.read_first.new.page
    (view old).image c.in-Ok.is_old c.in-Ok.ensures.page c.in-Ok.ensures.old c.if-not-is_old.false in
    let here : told mid → c.read_first.new.page ≡ (view mid).image 0 = λ t. let was = read.reads.was_told t in
    c.in-Ok.ensures.page was ∙ sym (ap (λ i. i 0) (read.reads.image was)) in
    upgrades_committed (told old) (told mid) (told near) (view old) (view mid) (view near)
    (entries c.in-Ok-new_pages.batch) magic read.reads e.looks (told new) (view new)
    (g.met.P.Pages.rests old c.requires.sound) e.few e.below e.kept (λ t. e.pages t (here t)) c.commit.ensures.commits

pub returns-in-Ok-new_pages-clause-goes_on : goal.returns-in-Ok-new_pages-clause-goes_on
returns-in-Ok-new_pages-clause-goes_on g c =
    let under = g.P.Pages.under in
    let old = under c.args.pages.now in
    let near = under c.new_pages.new.pages in
    goes_then old near (under c.commit.new.self) (goes_then old
    (under c.read_first.new.pages) near c.read_first.ensures.goes_on c.new_pages.ensures.goes_on) c.commit.ensures.goes_on

pub returns-in-Ok-new_pages-clause-unwritten : goal.returns-in-Ok-new_pages-clause-unwritten
returns-in-Ok-new_pages-clause-unwritten g c = λ t lacks.
    absurd (lacks (read_old (g.P.Pages.told c.args.pages.now) c.read_first.new.page
    (g.P.Pages.view c.args.pages.now).image c.in-Ok.is_old c.in-Ok.ensures.page c.in-Ok.ensures.old c.if-not-is_old.false t))

-- the catalog wasn't brought to version 2
pub returns-clause-cause : goal.returns-clause-cause
returns-clause-cause g c =
    let view = g.P.Pages.view in
    let told = g.P.Pages.told in
    let old = c.args.pages.now in
    let mid = c.read_first.new.pages in
    let near = c.new_pages.new.pages in
    let magic = read_old (told old) c.read_first.new.page
    (view old).image c.in-Ok.is_old c.in-Ok.ensures.page c.in-Ok.ensures.old c.if-not-is_old.false in
    prevents (told old) (told mid) (told near) (view old) (view mid)
    (view near) [] magic c.read_first.ensures.reads c.new_pages.ensures.looks c.in-Ok.ensures.quiet c.in-Err.cause
    c.in-Err.ensures.cause

pub returns-clause-place : goal.returns-clause-place
returns-clause-place g c =
    places c.in-Err.cause (g.P.Pages.told c.read_first.new.pages) (g.P.Pages.view c.read_first.new.pages)
    (g.P.Pages.view c.new_pages.new.pages) c.in-Err.ensures.cause

pub returns-clause-upgrades : goal.returns-clause-upgrades
returns-clause-upgrades g c =
    let view = g.P.Pages.view in
    let told = g.P.Pages.told in
    let old = c.args.pages.now in
    let mid = c.read_first.new.pages in
    let near = c.new_pages.new.pages in
    let magic = read_old (told old) c.read_first.new.page
    (view old).image c.in-Ok.is_old c.in-Ok.ensures.page c.in-Ok.ensures.old c.if-not-is_old.false in
    upgrades_looked (told old) (told near) (view old) (view near) (g.met.P.Pages.rests old c.requires.sound)
    (looked (told old) (told mid) (told near) (view old) (view mid)
    (view near) [] magic c.read_first.ensures.reads c.new_pages.ensures.looks)

pub returns-clause-goes_on : goal.returns-clause-goes_on
returns-clause-goes_on g c =
    let under = g.P.Pages.under in
    goes_then (under c.args.pages.now) (under c.read_first.new.pages)
    (under c.new_pages.new.pages) c.read_first.ensures.goes_on c.new_pages.ensures.goes_on

pub returns-clause-stops : goal.returns-clause-stops
returns-clause-stops g c =
    let view = g.P.Pages.view in
    let told = g.P.Pages.told in
    let old = c.args.pages.now in
    let mid = c.read_first.new.pages in
    let near = c.new_pages.new.pages in
    let magic = read_old (told old) c.read_first.new.page
    (view old).image c.in-Ok.is_old c.in-Ok.ensures.page c.in-Ok.ensures.old c.if-not-is_old.false in
    stops (told old) (told mid) (told near) (view old) (view mid)
    (view near) [] magic c.read_first.ensures.reads c.new_pages.ensures.looks c.in-Err.cause

pub returns-clause-unwritten : goal.returns-clause-unwritten
returns-clause-unwritten g c = λ t lacks.
    absurd (lacks (read_old (g.P.Pages.told c.args.pages.now) c.read_first.new.page
    (g.P.Pages.view c.args.pages.now).image c.in-Ok.is_old c.in-Ok.ensures.page c.in-Ok.ensures.old c.if-not-is_old.false t))
