-- The pages of a batch, as a list.
use Rattle.std.specs.Prelude.{ℕ, List, map, take}
use Rattle.gate_pages.specs.Batch.{Entry}
use Rattle.gate_pages.specs.declared.page.Page.{Page}

abbrev pub entry_of : Page → Entry
entry_of page = (page.number, page.bytes.items)

-- the first so many pages
abbrev pub entries_of : ℕ → List Page → List Entry
entries_of len pages = map entry_of (take len pages)
