use Rattle.store_commands.proofs.CopyLemmas.{fits_into}
use Rattle.store_commands.proofs.laws.copies_fit_where_there_is_room.Goals as goal

pub returns : goal.returns
returns g c = λ name copy source_count bytes t end.
    fits_into c.exports_are_read_back.ensures.loaded c.exports_load_where_there_is_room.ensures.through name copy source_count
    (g.W.Disk.view c.args.source.now) (g.W.Disk.view c.args.old.now) (g.W.Disk.view c.args.new.now) bytes t end
