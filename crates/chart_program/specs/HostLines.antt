-- What the lines of `host` leave of a book.
use Rattle.std.specs.Prelude.{◌≡◌, ℕ, Bool, true, false, List, [], ◌∷◌, ◌++◌, take, None, Some}
use Rattle.chart_service.specs.Serving.{told}
use Rattle.host_lines.specs.Grammar.{host_line}
use Rattle.host_lines.specs.declared.asked.HostLine.{HostLine}
use Rattle.host_lines.specs.declared.asked.HostLine.TheVariants.{List as ListLine, Values, Sum, Sweep, Bad, Other}
use Rattle.hosted_lines.specs.Hosts.{clears_asked}
use Rattle.series_book.specs.declared.edits.Edit.{Edit}
use Rattle.series_book.specs.declared.one_series.Series.{Series}
use Rattle.series_book.specs.EditLists.{after_edits}
use Rattle.served_fronts.specs.Books.{Line, after_line}
use Rattle.store_commands.specs.Books.{begun}

-- it is a sweep that is asked for
abbrev pub is_sweep : HostLine → Bool
is_sweep ListLine = false
is_sweep (Values name t0 t1) = false
is_sweep (Sum session request) = false
is_sweep (Sweep rule) = true
is_sweep (Bad at) = false
is_sweep Other = false

-- the line asks for a step of a sweep
abbrev pub asks_sweep : Line → Bool
asks_sweep None = false
asks_sweep (Some text) = is_sweep (host_line text)

-- the clears that the line asks for over a book: those of the step of a sweep
abbrev pub clears_of : ℕ → List Series → Line → List Edit
clears_of total book None = []
clears_of total book (Some text) = clears_asked (host_line text) (begun total book)

-- the book after a line, which says a request, asks for clears, or neither
abbrev pub after_hosted : ℕ → List Series → Line → List Series
after_hosted total book line = after_edits total (after_line total book line) (clears_of total book line)

-- the book after lines
abbrev pub after_all_hosted : ℕ → List Series → List Line → List Series
after_all_hosted total book [] = book
after_all_hosted total book (line ∷ later) = after_all_hosted total (after_hosted total book line) later

-- the clears that the first of these lines asks for
abbrev pub first_clears : ℕ → List Series → List Line → List Edit
first_clears total book [] = []
first_clears total book (line ∷ later) = clears_of total book line

-- The next book is that after some first lines, and after some first of the clears that the line behind them asks for.
pub record LeavesHostLines (total : ℕ) (book : List Series) (input : List ℕ) (next : List Series) : Type 0 where
  pub lines : List Line
  pub later : List Line
  pub split : told input ≡ lines ++ later
  pub between : List Series
  pub between_is : between ≡ after_all_hosted total book lines
  pub done : ℕ
  pub next_is : next ≡ after_edits total between (take done (first_clears total between later))
