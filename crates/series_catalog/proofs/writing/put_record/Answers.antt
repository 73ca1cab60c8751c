use Rattle.series_catalog.specs.Catalogs.{entry_of}
use Rattle.catalog_page.specs.Places.{number_of}
use Rattle.catalog_page.specs.Entries.{entry_of as entry_of_record}
use Rattle.catalog_page.specs.Layout.{KeepsLayout}
use Rattle.page_space.specs.Transactions.{left_by}
use Rattle.std.proofs.Common.{◌<◌, ◌+◌, ℕ, sym, subst}
use Rattle.series_catalog.proofs.PutLemmas.{name_short, put_keeps, none_freed}
use Rattle.page_space.specs.Shown as shown
use Rattle.series_catalog.proofs.writing.put_record.Goals as goal

pub set_record-requires-clause-named : goal.set_record-requires-clause-named
set_record-requires-clause-named g c = name_short c.record_with.result.name.now c.record_with.ensures.named

pub returns-clause-kept : goal.returns-clause-kept
returns-clause-kept g c = λ told fresh is count below few kept.
    put_keeps c.args.txn.now c.put.new.txn (shown.image c.args.space.now) c.args.id c.record_page-page.result count count fresh
    c.read.new.out c.set_record.new.bytes
    (entry_of_record c.record_with.result) (entry_of (record c.args.series.now { tree = c.args.tree })) c.record_page-page.ensures.page
    (c.in_ok-read.ensures.page told) (c.put.ensures.page c.record_page-page.result) c.record_with.ensures.entry
    (λ fits was. c.set_record.ensures.kept count fresh (subst (λ n. n < count) (sym c.record_number.ensures.number) below) few fits was) is
    kept

pub returns-clause-added : goal.returns-clause-added
returns-clause-added g c = λ told fresh is kept.
    let A : ℕ → Type 0 = λ n. KeepsLayout n fresh c.read.new.out → KeepsLayout (n + 1) fresh c.set_record.new.bytes in
    put_keeps c.args.txn.now c.put.new.txn (shown.image c.args.space.now) c.args.id c.record_page-page.result (number_of c.args.id)
    (number_of c.args.id + 1) fresh c.read.new.out c.set_record.new.bytes
    (entry_of_record c.record_with.result) (entry_of (record c.args.series.now { tree = c.args.tree })) c.record_page-page.ensures.page
    (c.in_ok-read.ensures.page told) (c.put.ensures.page c.record_page-page.result) c.record_with.ensures.entry
    (λ fits. subst A c.record_number.ensures.number (c.set_record.ensures.added fresh fits)) is kept

pub returns-clause-stands : goal.returns-clause-stands
returns-clause-stands g c = λ count image taken freed stands.
    c.put.ensures.stands count image taken freed stands
    (none_freed count (left_by c.args.txn.now image) c.args.txn.now.superblock taken freed c.record_page-page.result
    c.record_page-page.ensures.few stands)
