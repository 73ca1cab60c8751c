use Rattle.std.proofs.Common.{◌≡◌, List, slice_get, sym, ap, refl, subst, ◌∙◌}
use Rattle.std.proofs.lemmas.Option.{same_Some}
use Rattle.block_disk.specs.View.{Image}
use Rattle.page_space.specs.Transactions.{left_by}
use Rattle.page_space.specs.declared.superblock.Superblock.{Superblock}
use Rattle.catalog_page.specs.Entries.{IsEntry}
use Rattle.series_book.specs.Edits.{with_slots}
use Rattle.series_catalog.specs.Catalogs.{entry_of, with_tree}
use Rattle.series_catalog.specs.declared.stored_series.StoredSeries.{StoredSeries}
use Rattle.stored_book.specs.Changing.{IsRecordSet, KeepsRecords}
use Rattle.stored_book.specs.Standing.{StandsForBook}
use Rattle.series_store.proofs.RecordLemmas.{saved_book, known_some}
use Rattle.series_store.proofs.StageLemmas.{catalog_as, saved_catalog}
use Rattle.series_store.proofs.saving.save.Goals as goal

pub returns-clause-staged : goal.returns-clause-staged
returns-clause-staged g c =
    let old = c.args.space.now in
    let new = c.put_record.new.space in
    let one : StoredSeries = c.series.result.now in
    let items : List StoredSeries = c.args.catalog.now.series.items in
    let before : Image = (g.P.Pages.view old.pages).image in
    let s : Superblock = c.args.txn.now.superblock in
    let E : StoredSeries → Type 0 = λ one. IsEntry s.fresh (entry_of (record one { tree = c.args.tree })) in
    let is : E one = known_some (slice_get items c.args.id) one E c.series.ensures c.requires.entry in
    let I : StoredSeries → Type 0 = λ one. c.set_tree.new.self.series.items ≡ with_tree items c.args.id one c.args.tree in
    record {
      total_is = ap (λ (s : Superblock). s.total) c.put_record.ensures.superblock ∙ c.requires.staged.total_is
          ∙ ap (λ (s : Superblock). s.total) (sym c.put_record.ensures.space);
      catalog = catalog_as (g.P.Pages.told old.pages) (g.P.Pages.told new.pages) (left_by c.put_record.new.txn before)
          (left_by c.put_record.new.txn (g.P.Pages.view new.pages).image) s c.put_record.new.txn.superblock
          c.set_tree.new.self.series.items c.set_tree.new.self.series.items c.put_record.ensures.reads.was_told
          (λ now. ap (λ (i : Image). left_by c.put_record.new.txn i)
          (c.put_record.ensures.reads.image (c.put_record.ensures.reads.was_told now))) c.put_record.ensures.superblock refl
          (saved_catalog (g.P.Pages.told old.pages) (left_by c.args.txn.now before)
          (left_by c.put_record.new.txn before) s items c.set_tree.new.self.series.items c.args.id one c.args.tree
          c.args.catalog.now.few c.series.ensures is
          (known_some (slice_get items c.args.id) one I c.series.ensures c.set_tree.ensures.set) c.set_tree.ensures.len
          c.in_ok-put_record.ensures.set (λ now. c.in_ok-put_record.ensures.kept now s.fresh is) c.requires.staged.catalog);
    }

pub returns-clause-stands : goal.returns-clause-stands
returns-clause-stands g c = λ told one book series slots there part.
    let new = c.put_record.new.space in
    let before : Image = (g.P.Pages.view c.args.space.now.pages).image in
    let s : Superblock = c.args.txn.now.superblock in
    let items : List StoredSeries = c.args.catalog.now.series.items in
    let E : StoredSeries → Type 0 = λ one. IsEntry s.fresh (entry_of (record one { tree = c.args.tree })) in
    let is : E one = known_some (slice_get items c.args.id) one E there c.requires.entry in
    let same : c.series.result.now ≡ one = same_Some c.series.result.now one (sym c.series.ensures ∙ there) in
    let P : Image → Type 0 = λ i. StandsForBook (left_by c.put_record.new.txn i) s.total (with_slots book c.args.id series slots) in
    let S : StoredSeries → Type 0 = λ x. IsRecordSet (left_by c.args.txn.now before) (left_by c.put_record.new.txn before) c.args.id
    (entry_of (record x { tree = c.args.tree })) in
    let K : StoredSeries → Type 0 = λ x. IsEntry s.fresh (entry_of (record x { tree = c.args.tree }))
    → KeepsRecords (left_by c.args.txn.now before) (left_by c.put_record.new.txn before) c.args.id s.fresh in
    subst P (sym (c.put_record.ensures.reads.image told))
    (saved_book part.before (left_by c.args.txn.now before)
    (left_by c.put_record.new.txn before) part.numbers s s.total book c.args.id series slots one c.args.tree part.store
    (sym part.later.total) part.there part.says part.later part.changed is
    (subst S same (c.in_ok-put_record.ensures.set told)) (subst K same (c.in_ok-put_record.ensures.kept told s.fresh) is))
