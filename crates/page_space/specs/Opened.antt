-- The pages in what an opening gives.
use Rattle.std.specs.Prelude.{Result, Ok, Err}
use Rattle.block_disk.specs.declared.back.Back.{Back}
use Rattle.gate_pages.specs.declared.pages.Pages.{Ghosts}
use Rattle.page_space.specs.declared.errors.SpaceError.{SpaceError}
use Rattle.page_space.specs.declared.space.Space.{Space}

-- the pages, within a space or handed back
abbrev pub pages_in : {P : Type 0} {pages : Ghosts P} → Result (Space P pages) (Back P SpaceError) → P
pages_in (Ok space) = space.pages
pages_in (Err back) = back.value
