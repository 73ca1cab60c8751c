use Rattle.std.proofs.Common.{◌≡◌, ◌+◌, ◌≤◌, sym, subst, ap, ◌∙◌, arith}
use Rattle.block_disk.specs.View.{Image, Beside}
use Rattle.chart_world.specs.Faults.{CountsFault}
use Rattle.chart_world.specs.FaultLaws.{counts_no_disk, counts_then}
use Rattle.gate_pages.specs.Journal.{pages_of}
use Rattle.page_space.specs.Layout.{superblock_page}
use Rattle.series_store.proofs.AskLemmas.{own_store}
use Rattle.series_store.specs.Counting.{AreSound}
use Rattle.stored_book.specs.Standing.{AreCatalog}
use Rattle.store_commands.specs.Books.{OfBook}
use Rattle.store_commands.specs.Checked.{counts_text}
use Rattle.series_store.specs.Shown as shown
use Rattle.run_ends.specs.Faults.{end_fault}
use Rattle.run_ends.specs.declared.ending.End.{End}
use Rattle.store_commands.specs.Checking.{ChecksStore}
use Rattle.store_commands.proofs.FaultLemmas.{counts_unchecked}
use Rattle.store_commands.specs.Sending.{SendsText}
use Rattle.store_commands.proofs.Held.{rests_new, stands_held}
use Rattle.store_commands.proofs.CheckLooks.{checks_sent, checks_not}
use Rattle.store_commands.proofs.check.check_opened.Goals as goal

pub returns-in-Ok-clause-checks : goal.returns-in-Ok-clause-checks
returns-in-Ok-clause-checks g c =
    let view = g.W.Disk.view in
    let sent = g.W.Streams.sent in
    let sends = g.W.Streams.send_faults in
    let pages = shown.pages c.args.store in
    let read = shown.pages c.check-counted.new.self in
    let e = c.check-counted.ensures in
    let old = pages.disk in
    let mid = read.disk in
    let world = c.disk_of-world.result in
    let new = c.send_text.result.1 in
    let counts = c.in-Ok.counts in
    let w = g.met.W.World in
    let beside = e.looks.kept.beside in
    let closed = read.at_rest (e.looks.kept.fit c.requires) in
    let rests = rests_new pages.count (view old) (shown.numbers c.args.store) (pages.at_rest c.requires)
    (c.args.store.space.spelled c.requires) in
    let s = shown.numbers c.args.store in
    let few : OfBook pages.count (view old) (λ total book. (view mid).reads ≤ (view old).reads + total) = λ total book holds.
    let stands = stands_held pages.count total book (view old) rests holds in
    let numbers = own_store pages.count total (pages_of pages.count (view old).image) book s c.args.store.space.rules c.args.store.small
    (c.args.store.space.spelled c.requires holds.honest) stands in
    omega (arith, e.reads total book holds.honest stands, c.args.store.space.rules.fresh_high, numbers.1) in
    let P : g.row.W.Denot → Type 0 = λ d. SendsText (counts_text counts) (view d) (view new) (sent d) (sent new) (sends d)
    (sends new) c.send_text.result.0 in
    checks_sent pages.count read.count pages.sound read.sound (view old) (view mid) e.looks.kept e.looks.over.goes_on rests closed few
    (view new) counts (sent old) (sent mid) (sent new) (sends old) (sends mid) (sends new) c.send_text.result.0
    (sym (w.beside_sent mid) ∙ ap (λ (b : Beside). b.sent) beside ∙ w.beside_sent old)
    (sym (w.beside_send_faults mid) ∙ ap (λ (b : Beside). b.send_faults) beside ∙ w.beside_send_faults old)
    (λ total book holds. c.in-Ok.ensures.counts total book holds.honest (stands_held pages.count total book (view old) rests holds))
    (record {
      superblock = (shown.numbers c.args.store);
      numbers = c.in-Ok.ensures.numbers;
      rules = c.args.store.space.rules;
      spelled = λ honest. let P : Image → Type 0 = λ i. i 0 ≡ superblock_page s in
          subst P (sym (rests.current honest)) (c.args.store.space.spelled c.requires honest);
      catalog = λ honest. let P : Image → Type 0 = λ i. AreCatalog i s.fresh s.series in
          subst P (sym (rests.current honest)) (c.args.store.whole c.requires honest);
      sound = λ honest. let P : Image → Type 0 = λ i. AreSound i s in subst P (sym (rests.current honest)) (c.in-Ok.ensures.whole honest);
    })
    (subst P c.disk_of-world.ensures.disk (c.send_text.ensures.sends (counts_text counts) c.counts_text.ensures))

pub returns-in-Err-clause-checks : goal.returns-in-Err-clause-checks
returns-in-Err-clause-checks g c =
    let view = g.W.Disk.view in
    let sent = g.W.Streams.sent in
    let sends = g.W.Streams.send_faults in
    let pages = shown.pages c.args.store in
    let read = shown.pages c.check-counted.new.self in
    let e = c.check-counted.ensures in
    let old = pages.disk in
    let mid = read.disk in
    let world = c.disk_of-world.result in
    let w = g.met.W.World in
    let beside = e.looks.kept.beside in
    let closed = read.at_rest (e.looks.kept.fit c.requires) in
    let rests = rests_new pages.count (view old) (shown.numbers c.args.store) (pages.at_rest c.requires)
    (c.args.store.space.spelled c.requires) in
    let s = shown.numbers c.args.store in
    let few : OfBook pages.count (view old) (λ total book. (view mid).reads ≤ (view old).reads + total) = λ total book holds.
    let stands = stands_held pages.count total book (view old) rests holds in
    let numbers = own_store pages.count total (pages_of pages.count (view old).image) book s c.args.store.space.rules c.args.store.small
    (c.args.store.space.spelled c.requires holds.honest) stands in
    omega (arith, e.reads total book holds.honest stands, c.args.store.space.rules.fresh_high, numbers.1) in
    let P : g.row.W.Denot → Type 0 = λ d. ChecksStore pages.count (view old) (view d) (sent old) (sent d) (sends old)
    (sends d) c.check_end.result in
    subst P (sym c.disk_of-world.ensures.disk)
    (checks_not pages.count read.count pages.sound read.sound (view old) (view mid) e.looks.kept e.looks.over.goes_on rests closed few
    (shown.numbers c.args.store) (sent old) (sent mid) (sends old) (sends mid) c.in-Err.error c.check_end.result c.check_end.ensures
    (sym (w.beside_sent mid) ∙ ap (λ (b : Beside). b.sent) beside ∙ w.beside_sent old)
    (λ honest. record { spelled = c.args.store.space.spelled c.requires honest; rules = c.args.store.space.rules })
    c.args.store.space.rules.total_high c.in-Err.ensures.within
    c.in-Err.ensures.cause
    (λ total book holds. c.in-Err.ensures.a_store total book holds.honest (stands_held pages.count total book (view old) rests holds)))

pub returns-in-Ok-clause-untaken : goal.returns-in-Ok-clause-untaken
returns-in-Ok-clause-untaken g c =
    let left = g.W.Streams.left in
    let old = (shown.pages c.args.store).disk in
    let mid = (shown.pages c.check-counted.new.self).disk in
    let w = g.met.W.World in
    c.send_text.ensures.left ∙ ap left c.disk_of-world.ensures.disk ∙ sym (w.beside_left mid)
    ∙ ap (λ (b : Beside). b.left) c.check-counted.ensures.looks.kept.beside ∙ w.beside_left old

pub returns-in-Err-clause-untaken : goal.returns-in-Err-clause-untaken
returns-in-Err-clause-untaken g c =
    let left = g.W.Streams.left in
    let old = (shown.pages c.args.store).disk in
    let mid = (shown.pages c.check-counted.new.self).disk in
    let w = g.met.W.World in
    ap left c.disk_of-world.ensures.disk ∙ sym (w.beside_left mid) ∙ ap (λ (b : Beside). b.left) c.check-counted.ensures.looks.kept.beside
    ∙ w.beside_left old

pub returns-in-Ok-clause-faults : goal.returns-in-Ok-clause-faults
returns-in-Ok-clause-faults g c =
    let view = g.W.Disk.view in
    let old = view (shown.pages c.args.store).disk in
    let mid = (shown.pages c.check-counted.new.self).disk in
    let new = view c.send_text.result.1 in
    let fault = end_fault c.send_text.result.0 in
    let P : g.row.W.Denot → Type 0 = λ d. CountsFault fault (view d) new in
    counts_then fault old (view mid) new (counts_no_disk old (view mid) c.check-counted.ensures.looks.kept.beside c.in-Ok.ensures.quiet)
    (subst P c.disk_of-world.ensures.disk c.send_text.ensures.faults)

pub returns-in-Err-clause-faults : goal.returns-in-Err-clause-faults
returns-in-Err-clause-faults g c =
    let view = g.W.Disk.view in
    let old = view (shown.pages c.args.store).disk in
    let mid = (shown.pages c.check-counted.new.self).disk in
    let error = c.in-Err.error in
    let P : g.row.W.Denot → Type 0 = λ d. CountsFault (end_fault c.check_end.result) old (view d) in
    let E : End → Type 0 = λ e. CountsFault (end_fault e) old (view mid) in
    subst P (sym c.disk_of-world.ensures.disk)
    (subst E (sym c.check_end.ensures)
    (counts_unchecked error (shown.IsTold c.args.store) (shown.numbers c.args.store) (shown.view c.args.store)
    (shown.view c.check-counted.new.self) c.check-counted.ensures.looks.kept.beside c.in-Err.ensures.cause c.in-Err.ensures.quiet_err))
