use Rattle.std.proofs.Common.{arith, rules}
use Rattle.gate_pages.proofs.Moving.{moves_among, moves_synced}
use Rattle.gate_pages.proofs.journal.stage.Goals as goal

pub returns-in_err-write_journal-clause-moves : goal.returns-in_err-write_journal-clause-moves
returns-in_err-write_journal-clause-moves g c =
    moves_among (λ number is. is) (omega arith) (omega arith) (omega arith) c.write_journal.ensures.moves

pub returns-clause-moves : goal.returns-clause-moves
returns-clause-moves g c = moves_synced c.write_journal.ensures.moves (search rules)
