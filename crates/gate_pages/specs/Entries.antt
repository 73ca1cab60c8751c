-- What a batch means.
use Rattle.std.specs.Prelude.{List}
use Rattle.gate_pages.specs.Batch.{Entry}
use Rattle.gate_pages.specs.Batches.{entries_of}
use Rattle.gate_pages.specs.declared.batch.Batch.{Batch}

abbrev pub entries : Batch → List Entry
entries batch = entries_of batch.len batch.pages.items
