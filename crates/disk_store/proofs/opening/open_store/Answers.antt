use Rattle.std.proofs.Common.{ℕ, refl, sym, ap, subst, ◌∙◌}
use Rattle.block_disk.specs.View.{Image}
use Rattle.gate_pages.specs.Journal.{page_count}
use Rattle.stored_book.specs.Standing.{StandsForBook, RecoversTo}
use Rattle.series_store.specs.Shown as shown
use Rattle.disk_store.specs.Shown.{disk_below}
use Rattle.disk_store.specs.Openings.{Opens, Prevents, IsOpeningPlace, IsOutside, cause_of, upgrade_cause_of, store_cause_of}
use Rattle.disk_store.specs.declared.causes.OpeningCause.{OpeningCause}
use Rattle.disk_store.proofs.Opened.{opens_pages, opens_upgraded, same_near, opens_read, holds_moments, holds_on, upgrade_prevents}
use Rattle.disk_store.proofs.Opened.{upgrade_outside, store_prevents, store_outside, pages_place, upgrade_place, store_place}
use Rattle.disk_store.proofs.opening.open_store.Goals as goal

-- what was opened, brought to version 2 and read
opened : goal.returns-in-Ok-open-clause-opens
opened g c =
    let view = g.D.Disk.view in
    let old = view c.args.disk in
    let pages = c.in-Ok.pages in
    let e = c.in-Ok.ensures in
    let near = c.upgrade.new.pages in
    let u = c.in-Ok-upgrade.ensures in
    let read = shown.pages c.in-Ok-open.store in
    opens_read (page_count old.size) pages.count near.count pages.sound near.sound old (view pages.disk)
    (view near.disk) e.count e.moments e.moves e.pages c.upgrade.ensures.upgrades c.upgrade.ensures.goes_on e.unwritten
    c.upgrade.ensures.unwritten u.done u.kept (near.at_rest u.sound)
    read.count read.sound (view read.disk) c.in-Ok-open.ensures.reads c.in-Ok-open.ensures.goes_on

pub returns-in-Ok-open-clause-opens : goal.returns-in-Ok-open-clause-opens
returns-in-Ok-open-clause-opens g c = opened g c

pub returns-in-Ok-open-clause-holds : goal.returns-in-Ok-open-clause-holds
returns-in-Ok-open-clause-holds g c = λ total book holds.
    let view = g.D.Disk.view in
    let old = view c.args.disk in
    holds_on (page_count old.size) total book old (view (disk_below c.in-Ok-open.store)) holds (opened g c)

pub returns-in-Ok-open-clause-moments : goal.returns-in-Ok-open-clause-moments
returns-in-Ok-open-clause-moments g c = λ total book holds.
    let view = g.D.Disk.view in
    let old = view c.args.disk in
    holds_moments (page_count old.size) total book old (view (disk_below c.in-Ok-open.store)) holds (opened g c)

-- what was brought to version 2 and not read
unread : goal.returns-in-Err-open-clause-opens
unread g c =
    let view = g.D.Disk.view in
    let old = view c.args.disk in
    let pages = c.in-Ok.pages in
    let e = c.in-Ok.ensures in
    let near = c.upgrade.new.pages in
    let u = c.in-Ok-upgrade.ensures in
    let back = c.in-Err-open.field-0.value in
    let P : g.row.D.Denot → Type 0 = λ disk. Opens (page_count old.size) old (view disk) in
    subst P (sym c.into_disk.ensures.disk)
    (opens_read (page_count old.size) pages.count near.count pages.sound near.sound old (view pages.disk)
    (view near.disk) e.count e.moments e.moves e.pages c.upgrade.ensures.upgrades c.upgrade.ensures.goes_on e.unwritten
    c.upgrade.ensures.unwritten u.done u.kept (near.at_rest u.sound)
    back.count back.sound (view back.disk) c.in-Err-open.ensures.reads c.in-Err-open.ensures.goes_on)

pub returns-in-Err-open-clause-opens : goal.returns-in-Err-open-clause-opens
returns-in-Err-open-clause-opens g c = unread g c

pub returns-in-Err-open-clause-holds : goal.returns-in-Err-open-clause-holds
returns-in-Err-open-clause-holds g c = λ total book holds.
    let view = g.D.Disk.view in
    let old = view c.args.disk in
    holds_on (page_count old.size) total book old (view c.into_disk.result) holds (unread g c)

pub returns-in-Err-open-clause-moments : goal.returns-in-Err-open-clause-moments
returns-in-Err-open-clause-moments g c = λ total book holds.
    let view = g.D.Disk.view in
    let old = view c.args.disk in
    holds_moments (page_count old.size) total book old (view c.into_disk.result) holds (unread g c)

pub returns-in-Err-open-clause-cause : goal.returns-in-Err-open-clause-cause
returns-in-Err-open-clause-cause g c =
    let view = g.D.Disk.view in
    let old = view c.args.disk in
    let pages = c.in-Ok.pages in
    let e = c.in-Ok.ensures in
    let near = c.upgrade.new.pages in
    let u = c.upgrade.ensures.upgrades in
    let back = c.in-Err-open.field-0.value in
    let P : g.row.D.Denot → Type 0 = λ disk. Prevents c.store_cause.result old (view disk) in
    let Q : OpeningCause → Type 0 = λ cause. Prevents cause old (view back.disk) in
    let so_far = opens_upgraded (page_count old.size) pages.count near.count pages.sound near.sound old (view pages.disk)
    (view near.disk) e.count e.moments e.moves e.pages u c.upgrade.ensures.goes_on e.unwritten c.upgrade.ensures.unwritten in
    subst P (sym c.into_disk.ensures.disk) (subst Q (sym c.store_cause.ensures)
    (store_prevents c.in-Err-open.field-0.cause (page_count old.size) near.count back.count near.sound back.sound old (view near.disk)
    (view back.disk) (u.size ∙ e.count) refl e.large so_far.honest
    (same_near (page_count old.size) pages.count near.count pages.sound near.sound old (view pages.disk)
    (view near.disk) e.count e.moments e.moves e.pages u c.upgrade.ensures.goes_on e.unwritten c.upgrade.ensures.unwritten
    c.in-Ok-upgrade.ensures.done)
    (c.in-Ok-upgrade.ensures.quiet ∙ e.quiet) c.in-Err-open.ensures.place c.in-Err-open.ensures.cause))

pub returns-in-Err-open-clause-a_store : goal.returns-in-Err-open-clause-a_store
returns-in-Err-open-clause-a_store g c = λ total book honest recovers.
    let view = g.D.Disk.view in
    let old = view c.args.disk in
    let pages = c.in-Ok.pages in
    let e = c.in-Ok.ensures in
    let near = c.upgrade.new.pages in
    let u = c.upgrade.ensures.upgrades in
    let N : ℕ → Type 0 = λ n. RecoversTo n old.image total book in
    let here = subst N (sym (u.size ∙ e.count)) recovers in
    let I : Image → Type 0 = λ image. StandsForBook image total book in
    let same = same_near (page_count old.size) pages.count near.count pages.sound near.sound old (view pages.disk)
    (view near.disk) e.count e.moments e.moves e.pages u c.upgrade.ensures.goes_on e.unwritten c.upgrade.ensures.unwritten
    c.in-Ok-upgrade.ensures.done in
    subst IsOutside (sym c.store_cause.ensures)
    (store_outside c.in-Err-open.field-0.cause (c.in-Err-open.ensures.a_store total book (u.told (e.moves.honest honest)) here.within
    (subst I (sym (same honest)) here.stands)))

pub returns-in-Err-open-clause-place : goal.returns-in-Err-open-clause-place
returns-in-Err-open-clause-place g c = subst IsOpeningPlace (sym c.store_cause.ensures)
    (store_place c.in-Err-open.field-0.cause c.in-Err-open.ensures.place)

-- what wasn't brought to version 2
stopped : goal.returns-in-Err-upgrade-clause-opens
stopped g c =
    let view = g.D.Disk.view in
    let old = view c.args.disk in
    let pages = c.in-Ok.pages in
    let e = c.in-Ok.ensures in
    let near = c.upgrade.new.pages in
    let P : g.row.D.Denot → Type 0 = λ disk. Opens (page_count old.size) old (view disk) in
    subst P (sym c.into_disk-in-Err-upgrade.ensures.disk)
    (opens_upgraded (page_count old.size) pages.count near.count pages.sound near.sound old (view pages.disk)
    (view near.disk) e.count e.moments e.moves e.pages c.upgrade.ensures.upgrades c.upgrade.ensures.goes_on e.unwritten
    c.upgrade.ensures.unwritten)

pub returns-in-Err-upgrade-clause-opens : goal.returns-in-Err-upgrade-clause-opens
returns-in-Err-upgrade-clause-opens g c = stopped g c

pub returns-in-Err-upgrade-clause-holds : goal.returns-in-Err-upgrade-clause-holds
returns-in-Err-upgrade-clause-holds g c = λ total book holds.
    let view = g.D.Disk.view in
    let old = view c.args.disk in
    holds_on (page_count old.size) total book old (view c.into_disk-in-Err-upgrade.result) holds (stopped g c)

pub returns-in-Err-upgrade-clause-moments : goal.returns-in-Err-upgrade-clause-moments
returns-in-Err-upgrade-clause-moments g c = λ total book holds.
    let view = g.D.Disk.view in
    let old = view c.args.disk in
    holds_moments (page_count old.size) total book old (view c.into_disk-in-Err-upgrade.result) holds (stopped g c)

pub returns-in-Err-upgrade-clause-cause : goal.returns-in-Err-upgrade-clause-cause
returns-in-Err-upgrade-clause-cause g c =
    let view = g.D.Disk.view in
    let old = view c.args.disk in
    let pages = c.in-Ok.pages in
    let e = c.in-Ok.ensures in
    let near = c.upgrade.new.pages in
    let P : g.row.D.Denot → Type 0 = λ disk. Prevents c.upgrade_cause.result old (view disk) in
    let Q : OpeningCause → Type 0 = λ cause. Prevents cause old (view near.disk) in
    subst P (sym c.into_disk-in-Err-upgrade.ensures.disk) (subst Q (sym c.upgrade_cause.ensures)
    (upgrade_prevents c.in-Err-upgrade.cause (page_count old.size) pages.count near.count pages.sound near.sound old (view pages.disk)
    (view near.disk) e.count refl e.large e.moves.honest e.pages e.quiet c.in-Err-upgrade.ensures.place c.in-Err-upgrade.ensures.cause))

pub returns-in-Err-upgrade-clause-a_store : goal.returns-in-Err-upgrade-clause-a_store
returns-in-Err-upgrade-clause-a_store g c = λ total book honest recovers.
    let view = g.D.Disk.view in
    let old = view c.args.disk in
    let pages = c.in-Ok.pages in
    let e = c.in-Ok.ensures in
    let near = c.upgrade.new.pages in
    let N : ℕ → Type 0 = λ n. RecoversTo n old.image total book in
    subst IsOutside (sym c.upgrade_cause.ensures)
    (upgrade_outside c.in-Err-upgrade.cause pages.count near.count total book pages.sound near.sound old (view pages.disk) (view near.disk)
    (e.moves.honest honest) (e.pages honest) (subst N (sym e.count) recovers) c.in-Err-upgrade.ensures.cause)

pub returns-in-Err-upgrade-clause-place : goal.returns-in-Err-upgrade-clause-place
returns-in-Err-upgrade-clause-place g c = subst IsOpeningPlace (sym c.upgrade_cause.ensures)
    (upgrade_place c.in-Err-upgrade.cause c.in-Err-upgrade.ensures.place)

-- what wasn't opened
unopened : goal.returns-in-Err-clause-opens
unopened g c =
    let view = g.D.Disk.view in
    let old = view c.args.disk in
    let e = c.in-Err.ensures in
    opens_pages (page_count old.size) old (view c.in-Err.field-0.value) e.moments e.moves e.unwritten

pub returns-in-Err-clause-opens : goal.returns-in-Err-clause-opens
returns-in-Err-clause-opens g c = unopened g c

pub returns-in-Err-clause-holds : goal.returns-in-Err-clause-holds
returns-in-Err-clause-holds g c = λ total book holds.
    let view = g.D.Disk.view in
    let old = view c.args.disk in
    holds_on (page_count old.size) total book old (view c.in-Err.field-0.value) holds (unopened g c)

pub returns-in-Err-clause-moments : goal.returns-in-Err-clause-moments
returns-in-Err-clause-moments g c = λ total book holds.
    let view = g.D.Disk.view in
    let old = view c.args.disk in
    holds_moments (page_count old.size) total book old (view c.in-Err.field-0.value) holds (unopened g c)

pub returns-in-Err-clause-place : goal.returns-in-Err-clause-place
returns-in-Err-clause-place g c = subst IsOpeningPlace (sym c.pages_cause.ensures) (pages_place c.in-Err.field-0.cause)

pub returns-in-Ok-open-clause-quiet : goal.returns-in-Ok-open-clause-quiet
returns-in-Ok-open-clause-quiet g c = c.in-Ok-open.ensures.quiet ∙ c.in-Ok-upgrade.ensures.quiet ∙ c.in-Ok.ensures.quiet

pub returns-in-Err-open-clause-quiet_err : goal.returns-in-Err-open-clause-quiet_err
returns-in-Err-open-clause-quiet_err g c = λ other.
    ap (λ disk. (g.D.Disk.view disk).faults) c.into_disk.ensures.disk
    ∙ c.in-Err-open.ensures.quiet_err (λ is. other (c.store_cause.ensures ∙ ap store_cause_of is)) ∙ c.in-Ok-upgrade.ensures.quiet
    ∙ c.in-Ok.ensures.quiet

pub returns-in-Err-upgrade-clause-quiet_err : goal.returns-in-Err-upgrade-clause-quiet_err
returns-in-Err-upgrade-clause-quiet_err g c = λ other.
    ap (λ disk. (g.D.Disk.view disk).faults) c.into_disk-in-Err-upgrade.ensures.disk
    ∙ c.in-Err-upgrade.ensures.quiet_err (λ is. other (c.upgrade_cause.ensures ∙ ap upgrade_cause_of is)) ∙ c.in-Ok.ensures.quiet

pub returns-in-Err-clause-quiet_err : goal.returns-in-Err-clause-quiet_err
returns-in-Err-clause-quiet_err g c = λ other. c.in-Err.ensures.quiet_err (λ is. other (c.pages_cause.ensures ∙ ap cause_of is))
