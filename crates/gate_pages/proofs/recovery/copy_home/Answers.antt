use Rattle.std.proofs.Common.{arith, rules}
use Rattle.gate_pages.proofs.Moving.{moves_among, moves_synced}
use Rattle.gate_pages.proofs.recovery.copy_home.Goals as goal

pub returns-in_err-copy_images-clause-moves : goal.returns-in_err-copy_images-clause-moves
returns-in_err-copy_images-clause-moves g c =
    moves_among (λ number is. is) (omega arith) (omega arith) (omega arith) c.copy_images.ensures.moves

pub returns-clause-moves : goal.returns-clause-moves
returns-clause-moves g c = moves_synced c.copy_images.ensures.moves (search rules)
