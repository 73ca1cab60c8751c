use Rattle.store_commands.proofs.SalvageLemmas.{has_each, held_fit}
use Rattle.store_commands.proofs.laws.books_have_their_series.Goals as goal

pub returns-clause-each : goal.returns-clause-each
returns-clause-each g c = λ count total book id series holds there.
    has_each c.books_hold_their_series.ensures.each count total book id series (g.W.Disk.view c.args.world.now) holds there

pub returns-clause-fit : goal.returns-clause-fit
returns-clause-fit g c = λ count name series has. held_fit count (g.W.Disk.view c.args.world.now) name series has
