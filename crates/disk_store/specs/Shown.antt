-- The disk of a store, and the books that it holds.
use Rattle.std.specs.Prelude.{ℕ, List}
use Rattle.block_disk.specs.View.{View, Honest, Passes}
use Rattle.block_disk.specs.declared.disk.Disk.{Ghosts}
use Rattle.gate_pages.specs.Journal.{page_count}
use Rattle.gate_pages.specs.Pages.{Quiet}
use Rattle.gate_pages.specs.Shown as gate
use Rattle.gate_pages.specs.declared.gate_pages.GatePages.{GatePages}
use Rattle.gate_pages.specs.declared.pages.Pages as pages_trait
use Rattle.series_book.specs.declared.one_series.Series.{Series}
use Rattle.series_store.specs.Shown as shown
use Rattle.series_store.specs.declared.store.Store.{Store}
use Rattle.stored_book.specs.Standing.{RecoversTo}
use Rattle.disk_store.specs.Held.{HoldsBook}

-- the disk that the pages of a store lie on
abbrev pub disk_below : {D : Type 0} {disk : Ghosts D} {pages : pages_trait.Ghosts (GatePages D disk)} → Store (GatePages D disk) pages → D
disk_below store = gate.disk (shown.pages store)

-- so of each book for which the image of a disk stands
abbrev pub ForRecovered : View → (ℕ → List Series → Type 0) → Type 0
ForRecovered disk IsSo = (total : ℕ) (book : List Series) → Honest disk → RecoversTo (page_count disk.size) disk.image total book
    → IsSo total book

-- so of each book that it holds
abbrev pub ForHeld : View → (ℕ → List Series → Type 0) → Type 0
ForHeld disk IsSo = (total : ℕ) (book : List Series) → HoldsBook (page_count disk.size) total book disk → IsSo total book

-- at each moment a crash leaves an image that stands for the book, and no byte is sent
abbrev pub RecoversOn : ℕ → List Series → View → View → Type 0
RecoversOn total book old new = Passes old new (λ image. RecoversTo (page_count old.size) image total book) (Quiet old)
