-- The lines of a store's streams, in the words of the store.
use Rattle.std.specs.Prelude.{IfSome}
use Rattle.block_disk.specs.declared.streams.Streams as streams
use Rattle.gate_pages.specs.declared.pages.Pages.{Ghosts}
use Rattle.run_ends.specs.declared.ending.End.{End}
use Rattle.series_store.specs.Shown as shown
use Rattle.series_store.specs.declared.store.Store.{Store}
use Rattle.derive_command.specs.Answers.{Answering}
use Rattle.derive_command.specs.Lines.{EndsSo}

-- what was sent, by how the run ended, where lines are answered so
abbrev pub EndsOn : {P : Type 0} {g : Ghosts P} → streams.Ghosts P → Answering → Store P g → Store P g → End → Type 0
EndsOn {P} {g} beside by old new end = IfSome (beside.left (shown.pages old)) (λ input.
    EndsSo by input (beside.left (shown.pages new)) (beside.sent (shown.pages old)) (beside.sent (shown.pages new)) end)
