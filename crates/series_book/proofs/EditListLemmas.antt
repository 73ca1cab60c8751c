use Rattle.std.proofs.Common.{◌≡◌, ℕ, List, [], ◌∷◌, ◌++◌, Result, refl, ap}
use Rattle.series_book.specs.declared.one_series.Series.{Series}
use Rattle.series_book.specs.declared.edits.Edit.{Edit}
use Rattle.series_book.specs.declared.refusals.Refusal.{Refusal}
use Rattle.series_book.specs.Edits.{apply}
use Rattle.series_book.specs.EditLists.{book_behind, slots_behind, after_edits, edits_give}

pub after_append : (total : ℕ) (book : List Series) (first later : List Edit)
    → after_edits total book (first ++ later) ≡ after_edits total (after_edits total book first) later
after_append total book [] later = refl
after_append total book (edit ∷ edits) later = after_append total (book_behind book (apply book total edit)) edits later

pub give_append : (total : ℕ) (book : List Series) (first later : List Edit)
    → edits_give total book (first ++ later) ≡ edits_give total book first ++ edits_give total (after_edits total book first) later
give_append total book [] later = refl
give_append total book (edit ∷ edits) later =
    ap (λ (given : List (Result ℕ Refusal)). slots_behind (apply book total edit) ∷ given)
    (give_append total (book_behind book (apply book total edit)) edits later)
