use Rattle.filter_scan.proofs.TableLaws.{entries_more}
use Rattle.filter_scan.proofs.table.rows_in.Goals as goal

pub loop-entry-preserved : goal.loop-entry-preserved
loop-entry-preserved c =
    entries_more c.args.table.now c.loop-entry.entry-index _ c.loop-entry.rows.items c.push_entry.new.rows.items c.loop-entry-test.true
    c.loop-entry.invariant c.in_ok-push_entry.ensures
