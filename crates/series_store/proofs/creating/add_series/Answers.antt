use Rattle.std.proofs.Common.{◌++◌, ◌∷◌, [], ◌+◌, List, refl, sym, ap, subst, ◌∙◌, arith}
use Rattle.block_disk.specs.View.{Image}
use Rattle.page_space.specs.Layout.{with_series}
use Rattle.page_space.specs.Transactions.{left_by}
use Rattle.page_space.specs.declared.superblock.Superblock.{Superblock}
use Rattle.series_catalog.specs.Catalogs.{entry_of}
use Rattle.series_catalog.specs.declared.stored_series.StoredSeries.{StoredSeries}
use Rattle.stored_book.specs.Standing.{StandsForBook}
use Rattle.tree_walk.specs.declared.tree.Tree.{Tree}
use Rattle.series_store.specs.Changing.{with_added}
use Rattle.series_store.proofs.CommitLemmas.{one_read}
use Rattle.series_store.proofs.CreateLemmas.{added_stands, pushed_catalog, record_added}
use Rattle.series_store.proofs.StageLemmas.{catalog_as, first_page, last_changes}
use Rattle.series_catalog.proofs.ReadLemmas.{reads_more}
use Rattle.series_store.proofs.creating.add_series.Goals as goal

pub returns-clause-carried : goal.returns-clause-carried
returns-clause-carried g c =
    let told = g.P.Pages.told in
    let view = g.P.Pages.view in
    let old = c.args.space.now in
    let new = c.put_record.new.space in
    let txn = c.args.txn.now in
    let base : Image = (view old.pages).image in
    let items : List StoredSeries = c.args.catalog.now.series.items in
    let one : StoredSeries = c.args.series in
    let numbers = c.put_record.ensures.superblock ∙ c.set_series.ensures.superblock in
    record {
      reads = reads_more 1 96 (told old.pages) (told new.pages) (view old.pages) (view new.pages) (omega arith)
          (one_read (told old.pages) (told new.pages) (view old.pages) (view new.pages) c.put_record.ensures.reads);
      over = record { superblock = c.put_record.ensures.space; goes_on = c.put_record.ensures.goes_on };
      total = ap (λ (s : Superblock). s.total) numbers;
      cause = tt;
      kept = tt;
      back = record { last = one; now_are = c.in_ok-add.ensures.ok };
      nothing = λ none. absurd (last_changes none);
      stands = λ answer. catalog_as (told old.pages) (told new.pages) (left_by c.put_record.new.txn base)
          (left_by c.put_record.new.txn (view new.pages).image)
          (with_series txn.superblock (c.len-count.result + 1)) c.put_record.new.txn.superblock
          (items ++ one ∷ []) c.add.new.self.series.items c.put_record.ensures.reads.was_told
          (λ now. ap (λ (i : Image). left_by c.put_record.new.txn i)
          (c.put_record.ensures.reads.image (c.put_record.ensures.reads.was_told now))) numbers c.in_ok-add.ensures.ok
          (pushed_catalog (told old.pages) (left_by txn base)
          (left_by c.put_record.new.txn base) txn.superblock c.len-count.result items one c.len-count.ensures.count c.requires.entry
          (λ t. record_added txn c.set_series.new.txn c.put_record.new.txn base c.len-count.result one _ c.set_series.ensures.superblock
          c.set_series.ensures.pages c.requires.empty c.requires.entry (c.in_ok-put_record.ensures.set t)
          (c.in_ok-put_record.ensures.added t)) c.requires.staged.catalog);
      few = omega (arith, c.put_record.ensures.len, c.set_series.ensures.pages.len);
      slots = omega arith;
    }

pub returns-clause-answered : goal.returns-clause-answered
returns-clause-answered g c = λ total book is stands book_is.
    let old = c.args.space.now in
    let new = c.put_record.new.space in
    let txn = c.args.txn.now in
    let after = c.put_record.new.txn in
    let base : Image = (g.P.Pages.view old.pages).image in
    let one : StoredSeries = c.args.series in
    let are = c.requires.staged.catalog in
    let B : Image → Type 0 = λ i. StandsForBook (left_by after i) total (with_added book one).book in
    record {
      done = record {
        edited = with_added book one;
        accepted = refl;
        slots = refl;
        stands = subst B (sym (c.put_record.ensures.reads.image is))
            (added_stands txn.superblock.total txn.superblock (left_by txn base) (left_by after base) c.len-count.result
            (entry_of one) total book are.small txn.rules (first_page txn base)
            (c.len-count.ensures.count ∙ are.count) (omega (arith, c.len-count.ensures.count, c.requires.room))
            (ap (λ (t : Tree). t.slots) c.requires.empty) (ap (λ (t : Tree). t.root) c.requires.empty)
            (ap (λ (t : Tree). t.span) c.requires.empty)
            (record_added txn c.set_series.new.txn after base c.len-count.result one _ c.set_series.ensures.superblock
            c.set_series.ensures.pages c.requires.empty c.requires.entry (c.in_ok-put_record.ensures.set is)
            (c.in_ok-put_record.ensures.added is))
            stands book_is);
      };
      refused = tt;
      same = tt;
      few = omega (arith, c.put_record.ensures.len, c.set_series.ensures.pages.len);
    }
