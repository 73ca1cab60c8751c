use Rattle.std.proofs.Common.{◌∙◌, sym, subst}
use Rattle.block_disk.specs.View.{Honest}
use Rattle.gate_pages.specs.Journal.{page_count}
use Rattle.empty_store.specs.Causes.{given}
use Rattle.empty_store.specs.Stores.{LeavesNew}
use Rattle.empty_store.proofs.DisksMade.{leaves_made, broken_home}
use Rattle.empty_store.proofs.Lowered.{given_of, kept_lowered, memory_kept}
use Rattle.empty_store.proofs.making.make_anew.Goals as goal

pub returns-in-Ok-clause-moments : goal.returns-in-Ok-clause-moments
returns-in-Ok-clause-moments g c = λ honest.
    let view = g.D.Disk.view in
    let old = view c.args.disk in
    let opened = c.in-Ok.ensures in
    let mid = c.in-Ok.pages in
    let made = given c.write_pages.result in
    let Q : g.row.D.Denot → Type 0 = λ disk. LeavesNew (page_count old.size) old (view disk) in
    subst Q (given_of c.write_pages.result c.on_disk.result c.on_disk.ensures.disk)
    (leaves_made (page_count old.size) mid.count made.count mid.sound made.sound old (view mid.disk)
    (view made.disk) opened.count c.write_pages.ensures.size honest (opened.moments c.requires.broken)
    (opened.pages honest ∙ sym (broken_home mid.count (page_count old.size) old.image opened.count (c.requires.broken old.image honest)))
    c.write_pages.ensures.makes c.write_pages.ensures.goes_on)

pub returns-in-Ok-clause-no_memory : goal.returns-in-Ok-clause-no_memory
returns-in-Ok-clause-no_memory g c =
    let view = g.D.Disk.view in
    let old = view c.args.disk in
    let opened = c.in-Ok.ensures in
    let mid = c.in-Ok.pages in
    kept_lowered old mid c.write_pages.result c.on_disk.result c.on_disk.ensures.disk opened.count c.write_pages.ensures.size
    opened.moves.honest
    (λ honest. opened.pages honest ∙ sym (broken_home mid.count (page_count old.size) old.image opened.count
    (c.requires.broken old.image honest)))
    (memory_kept mid c.write_pages.result c.write_pages.ensures.no_memory)

pub returns-in-Ok-clause-honest : goal.returns-in-Ok-clause-honest
returns-in-Ok-clause-honest g c = λ honest.
    let Q : g.row.D.Denot → Type 0 = λ disk. Honest (g.D.Disk.view disk) in
    subst Q (given_of c.write_pages.result c.on_disk.result c.on_disk.ensures.disk)
    (c.write_pages.ensures.told (c.in-Ok.ensures.moves.honest honest))
