-- An example of what is promised: the lines of two runs with a crash between them, and what the law on all runs says of these.
use Rattle.std.specs.Prelude.{◌≡◌, ℕ, ℤ, pos, ◌≤◌, ◌^◌, ◌⊎◌, List, [], ◌∷◌, ◌++◌, length, Option, Some, codes}
use Rattle.series_book.specs.declared.one_series.Series.{Series}
use Rattle.block_disk.specs.View.{Image}
use Rattle.block_disk.specs.Streams.{sent_after}
use Rattle.gate_pages.specs.Journal.{page_count}
use Rattle.stored_book.specs.Standing.{RecoversTo}
use Rattle.served_fronts.specs.Fronts.{Draws}
use Rattle.served_fronts.specs.Answers.{whole_in}
use Rattle.served_fronts.specs.Headline.{Run, serves, LeavesBook, AreRuns}

-- The first run makes a series and appends two values to it, and then one more.
abbrev pub first_input : List ℕ
first_input = codes "create A 0 4 0\nappend A 0 3\nappend A 1\n"

-- The second one is asked for the times of the first two values.
abbrev pub second_input : List ℕ
second_input = codes "open 1\nview 1 A 8 4 0 8 0..3\n"

-- the book with the first two values, and with these behind them
abbrev pub book_with : List (Option ℤ) → List Series
book_with values =
    record { name = codes "A"; start = pos 0; step = 4; scale = 0; slots = Some (pos 0) ∷ Some (pos 3) ∷ values } ∷ []

-- What is drawn: a line from the lowest pixel of the first column to the highest one of the fifth. Each number is a row of eight.
abbrev pub bitmap : List ℕ
bitmap = codes "P4\n8 4\n" ++ 8 ∷ 48 ∷ 64 ∷ 128 ∷ []

-- The crash left a book. Where the answers to the first two lines stood whole in the bytes sent by then, it has the two values,
-- without the one that was ahead or with it. Either way, where the second run came to the end of its lines, `draw` makes this
-- bitmap of the bytes that it sent, and sends nothing else.
pub record IsDrawnAfter (total : ℕ) (first second : Run) : Type 0 where
  pub book : List Series
  pub leaves : LeavesBook total [] first book
  pub held : 2 ≤ length (whole_in first.by_then leaves.answers) → (book ≡ book_with []) ⊎ (book ≡ book_with (Some (pos 1) ∷ []))
  pub drawn : 2 ≤ length (whole_in first.by_then leaves.answers) → second.status ≡ 0 → length second.sent ≤ 2 ^ 32
      → (left before now : Option (List ℕ)) → Draws second.sent left before now → now ≡ sent_after bitmap before

-- So it is of any two such runs over a disk of any size, which stood for a book without a series at first.
abbrev pub TheExampleIsDrawn : Type 0
TheExampleIsDrawn =
    (size : ℕ) (image : Image) (first second : Run)
    → 128 ≤ size → RecoversTo (page_count size) image (page_count size) [] → AreRuns (page_count size) image (first ∷ second ∷ [])
    → first.task ≡ serves → first.input ≡ first_input → second.task ≡ serves → second.input ≡ second_input
    → IsDrawnAfter (page_count size) first second
