use Rattle.store_commands.proofs.CopyLemmas.{copied, exported_same}
use Rattle.store_commands.proofs.laws.copies_hold_the_same.Goals as goal

pub returns-clause-copied : goal.returns-clause-copied
returns-clause-copied g c = λ name copy source_count count bytes before now.
    copied c.exports_are_read_back.ensures.loaded name copy source_count count (g.W.Disk.view c.args.source.now)
    (g.W.Disk.view c.args.old.now) (g.W.Disk.view c.args.new.now) bytes before now

pub returns-clause-same : goal.returns-clause-same
returns-clause-same g c = λ copy count total series window before now.
    exported_same c.loads_hold_the_same.ensures.text copy count total series window (g.W.Disk.view c.args.new.now) before now
