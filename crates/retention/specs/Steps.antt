-- One clear of a rule after the other.
use Rattle.std.specs.Prelude.{ℕ, ◌≡◌, ◌<◌, List, ◌∷◌, Ok}
use Rattle.series_book.specs.declared.one_series.Series.{Series}
use Rattle.series_book.specs.declared.edits.Edit.{Edit}
use Rattle.series_book.specs.Books.{IsBook}
use Rattle.series_book.specs.Edits.{apply}
use Rattle.retention.specs.declared.rule.Rule.{Rule}
use Rattle.retention.specs.Sweeps.{sweeps, values_of}

-- The first clear of a rule is accepted and makes of the book this one, of which the rule makes the other clears. It
-- takes a value away.
pub record IsNext (total : ℕ) (book : List Series) (rule : Rule) (clear : Edit) : Type 0 where
  pub after : List Series
  pub slots : ℕ
  pub accepted : apply book total clear ≡ Ok (record { book = after; slots = slots })
  pub first : sweeps total book rule ≡ clear ∷ sweeps total after rule
  pub fewer : values_of after < values_of book
  pub is_book : IsBook after
