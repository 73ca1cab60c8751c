use Rattle.series_store.specs.Shown as shown
use Rattle.store_commands.specs.Sides.{side_of}
use Rattle.derive_command.proofs.WorkLemmas.{long_stops}
use Rattle.derive_command.proofs.request_work.RequestWorkLineWorkStoreEnd.long_line.Goals as goal

pub returns-clause-stops : goal.returns-clause-stops
returns-clause-stops g c = λ known stands. long_stops known c.args.at (side_of g.P.Streams c.args.from.now)
    (g.P.Streams.sent (shown.pages c.args.from.now))
