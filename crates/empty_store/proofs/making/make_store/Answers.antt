use Rattle.std.proofs.Common.{arith, ℕ, subst, sym}
use Rattle.std.proofs.lemmas.Result.{IfErr-weaker}
use Rattle.block_disk.specs.View.{Image, Honest}
use Rattle.gate_pages.specs.Journal.{page_count, pages_of}
use Rattle.page_space.specs.Layout.{HasMagic}
use Rattle.store_upgrade.specs.Upgraded.{current}
use Rattle.empty_store.specs.Kept.{LeavesOld}
use Rattle.gate_pages.specs.Openings.{Explains, Leaves, LeftBroken}
use Rattle.gate_pages.specs.declared.errors.OpenCause.{OpenCause}
use Rattle.empty_store.specs.Causes.{given}
use Rattle.empty_store.specs.Stores.{LeavesNew}
use Rattle.empty_store.proofs.DisksMade.{leaves_made, leaves_back, kept_made}
use Rattle.empty_store.proofs.Lowered.{given_of, kept_back, kept_lowered}
use Rattle.empty_store.proofs.making.make_store.Goals as goal

pub returns-in-Ok-clause-moments : goal.returns-in-Ok-clause-moments
returns-in-Ok-clause-moments g c = λ honest.
    let view = g.D.Disk.view in
    let old = view c.args.disk in
    let opened = c.in-Ok.ensures in
    let mid = c.in-Ok.pages in
    let made = given c.make_pages.result in
    let Q : g.row.D.Denot → Type 0 = λ disk. LeavesNew (page_count old.size) old (view disk) in
    subst Q (given_of c.make_pages.result c.on_disk.result c.on_disk.ensures.disk)
    (leaves_made (page_count old.size) mid.count made.count mid.sound made.sound old (view mid.disk)
    (view made.disk) opened.count c.make_pages.ensures.size honest opened.moments (opened.pages honest)
    (c.make_pages.ensures.makes (opened.moves.honest honest)) c.make_pages.ensures.goes_on)

pub returns-in-BadDirectory-clause-moments : goal.returns-in-BadDirectory-clause-moments
returns-in-BadDirectory-clause-moments g c = λ honest.
    let view = g.D.Disk.view in
    let old = view c.args.disk in
    let mid = view c.in-Err.field-0.value in
    let new = view (given c.make_anew.result) in
    let L : OpenCause → Type 0 = λ cause. Leaves cause old mid in
    let left : LeftBroken old mid = subst L c.in-BadDirectory.is c.in-Err.ensures.left in
    let N : ℕ → Type 0 = λ n. LeavesNew (page_count n) mid new in
    leaves_back (page_count old.size) 2 1 0 old mid left.moves new
    (subst N left.moves.size (c.make_anew.ensures.moments (left.moves.honest honest)))

pub returns-in-Ok-clause-no_memory : goal.returns-in-Ok-clause-no_memory
returns-in-Ok-clause-no_memory g c =
    let old = g.D.Disk.view c.args.disk in
    let opened = c.in-Ok.ensures in
    kept_lowered old c.in-Ok.pages c.make_pages.result c.on_disk.result c.on_disk.ensures.disk opened.count c.make_pages.ensures.size
    opened.moves.honest opened.pages c.make_pages.ensures.no_memory

pub returns-in-BadDirectory-clause-no_memory : goal.returns-in-BadDirectory-clause-no_memory
returns-in-BadDirectory-clause-no_memory g c =
    let view = g.D.Disk.view in
    let old = view c.args.disk in
    let mid = view c.in-Err.field-0.value in
    let L : OpenCause → Type 0 = λ cause. Leaves cause old mid in
    let left : LeftBroken old mid = subst L c.in-BadDirectory.is c.in-Err.ensures.left in
    IfErr-weaker c.make_anew.result _ _ (λ back kept none. kept_back 2 1 0 old mid (view back.value) left.moves (kept none))
    c.make_anew.ensures.no_memory

pub returns-in-Ok-clause-kept : goal.returns-in-Ok-clause-kept
returns-in-Ok-clause-kept g c = λ honest there.
    let view = g.D.Disk.view in
    let old = view c.args.disk in
    let opened = c.in-Ok.ensures in
    let mid = c.in-Ok.pages in
    let made = given c.make_pages.result in
    let Q : g.row.D.Denot → Type 0 = λ disk. LeavesOld (page_count old.size) old (view disk) in
    let M : ℕ → Type 0 = λ n. HasMagic (current (pages_of n old.image) 0) in
    let I : Image → Type 0 = λ pages. HasMagic (current pages 0) in
    let magic = subst I (sym (opened.pages honest)) (subst M (sym opened.count) there.magic) in
    subst Q (given_of c.make_pages.result c.on_disk.result c.on_disk.ensures.disk)
    (kept_made (page_count old.size) mid.count made.count mid.sound made.sound old (view mid.disk)
    (view made.disk) opened.count c.make_pages.ensures.size honest opened.moments (opened.pages honest)
    (c.make_pages.ensures.kept (opened.moves.honest honest) magic) c.make_pages.ensures.goes_on)

pub returns-in-BadDirectory-clause-kept : goal.returns-in-BadDirectory-clause-kept
returns-in-BadDirectory-clause-kept g c = λ honest there.
    let view = g.D.Disk.view in
    let E : OpenCause → Type 0 = λ cause. Explains cause (view c.args.disk) (view c.in-Err.field-0.value) in
    absurd (there.readable ((subst E c.in-BadDirectory.is c.in-Err.ensures.cause).1 honest))

pub returns-in-Ok-clause-honest : goal.returns-in-Ok-clause-honest
returns-in-Ok-clause-honest g c = λ honest.
    let Q : g.row.D.Denot → Type 0 = λ disk. Honest (g.D.Disk.view disk) in
    subst Q (given_of c.make_pages.result c.on_disk.result c.on_disk.ensures.disk)
    (c.make_pages.ensures.told (c.in-Ok.ensures.moves.honest honest))

pub returns-in-TooSmall : goal.returns-in-TooSmall
returns-in-TooSmall g c = grind arith

pub returns-in-DiskFault : goal.returns-in-DiskFault
returns-in-DiskFault g c = grind arith

pub returns-in-NoMemory : goal.returns-in-NoMemory
returns-in-NoMemory g c = grind arith

pub returns-in-Ok-clause-cause : goal.returns-in-Ok-clause-cause
returns-in-Ok-clause-cause g c = grind arith

pub returns-in-Ok-clause-large : goal.returns-in-Ok-clause-large
returns-in-Ok-clause-large g c = grind arith

pub returns-in-Ok-clause-fresh : goal.returns-in-Ok-clause-fresh
returns-in-Ok-clause-fresh g c = grind arith

pub returns-in-Ok-clause-store : goal.returns-in-Ok-clause-store
returns-in-Ok-clause-store g c = grind arith

pub returns-in-Ok-clause-rests : goal.returns-in-Ok-clause-rests
returns-in-Ok-clause-rests g c = grind arith

pub returns-in-Ok-clause-beside : goal.returns-in-Ok-clause-beside
returns-in-Ok-clause-beside g c = grind arith

pub returns-in-BadDirectory-clause-cause : goal.returns-in-BadDirectory-clause-cause
returns-in-BadDirectory-clause-cause g c = grind arith

pub returns-in-BadDirectory-clause-large : goal.returns-in-BadDirectory-clause-large
returns-in-BadDirectory-clause-large g c = grind arith

pub returns-in-BadDirectory-clause-fresh : goal.returns-in-BadDirectory-clause-fresh
returns-in-BadDirectory-clause-fresh g c = grind arith

pub returns-in-BadDirectory-clause-store : goal.returns-in-BadDirectory-clause-store
returns-in-BadDirectory-clause-store g c = grind arith

pub returns-in-BadDirectory-clause-rests : goal.returns-in-BadDirectory-clause-rests
returns-in-BadDirectory-clause-rests g c = grind arith

pub returns-in-BadDirectory-clause-honest : goal.returns-in-BadDirectory-clause-honest
returns-in-BadDirectory-clause-honest g c = grind arith

pub returns-in-BadDirectory-clause-beside : goal.returns-in-BadDirectory-clause-beside
returns-in-BadDirectory-clause-beside g c = grind arith
