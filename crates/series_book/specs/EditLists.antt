-- What a list of edits gives, done one after the other. One that is refused leaves the book.
use Rattle.std.specs.Prelude.{ℕ, List, [], ◌∷◌, Result, Ok, Err}
use Rattle.series_book.specs.declared.one_series.Series.{Series}
use Rattle.series_book.specs.declared.edits.Edit.{Edit}
use Rattle.series_book.specs.declared.refusals.Refusal.{Refusal}
use Rattle.series_book.specs.Edits.{Edited, apply}

-- the book behind an edit that gave this
abbrev pub book_behind : List Series → Result Edited Refusal → List Series
book_behind book (Ok edited) = edited.book
book_behind book (Err refusal) = book

-- how many slots the edited series has then, or the refusal
abbrev pub slots_behind : Result Edited Refusal → Result ℕ Refusal
slots_behind (Ok edited) = Ok edited.slots
slots_behind (Err refusal) = Err refusal

-- the book behind all of the edits
abbrev pub after_edits : ℕ → List Series → List Edit → List Series
after_edits total book [] = book
after_edits total book (edit ∷ edits) = after_edits total (book_behind book (apply book total edit)) edits

-- and what each of them gives
abbrev pub edits_give : ℕ → List Series → List Edit → List (Result ℕ Refusal)
edits_give total book [] = []
edits_give total book (edit ∷ edits) = slots_behind (apply book total edit) ∷ edits_give total
    (book_behind book (apply book total edit)) edits
