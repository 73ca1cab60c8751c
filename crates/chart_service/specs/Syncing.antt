-- How often edits sync the disk that are committed together, and the lines of an input that spell them.
use Rattle.std.specs.Prelude.{ℕ, ◌≡◌, ◌+◌, ◌*◌, ◌/◌, ◌≤◌, List, [], ◌∷◌, ◌++◌, length, Option, None, Some, Result, Ok, Err}
use Rattle.chart_world.specs.Fronts.{BeginsWith}
use Rattle.chart_world.specs.Lines.{lines}
use Rattle.request_lines.specs.declared.requests.Request.{Request}
use Rattle.request_lines.specs.declared.requests.Request.TheVariants.{Edit as EditRequest, Open, View, Zoom, Pan, Close}
use Rattle.request_lines.specs.Requests.{read_line}
use Rattle.series_book.specs.declared.edits.Edit.{Edit}
use Rattle.series_book.specs.declared.one_series.Series.{Series}
use Rattle.series_store.specs.Groups.{weight}

-- How often edits may sync that are done together, from this book on: four times, and four times more for each 22 of their
-- weight, the sum of 1 and the pages touched over the accepted ones.
abbrev pub group_syncs : ℕ → List Series → List Edit → ℕ
group_syncs total book edits = 4 * (1 + weight total book edits / 22)

-- the edit that a request asks for; none where it asks for none
abbrev pub edit_asked : Request → List Edit
edit_asked (EditRequest edit) = edit ∷ []
edit_asked (Open number cache) = []
edit_asked (View number name w h t0 t1 word text) = []
edit_asked (Zoom number t0 t1) = []
edit_asked (Pan number by) = []
edit_asked (Close number) = []

-- the same of what a line is read as, and of a line
abbrev pub edit_read : Result Request ℕ → List Edit
edit_read (Err at) = []
edit_read (Ok request) = edit_asked request

abbrev pub edit_of : Option (List ℕ) → List Edit
edit_of None = []
edit_of (Some text) = edit_read (read_line text)

-- the edits that lines spell, in order
abbrev pub edits_of : List (Option (List ℕ)) → List Edit
edits_of [] = []
edits_of (line ∷ later) = edit_of line ++ edits_of later

-- How often lines may sync from this book on, of which these are edits and so many others, while so many pieces are taken:
-- four times for each other line, for each piece, for each 64 edits and for each 22 of their weight, and eight times more.
abbrev pub most_syncs : ℕ → List Series → List Edit → ℕ → ℕ → ℕ
most_syncs total book edits others pieces = 4 * (others + pieces + 2 + length edits / 64 + weight total book edits / 22)

-- Some first lines of the input sync no more often than they may, while so many pieces are taken; other lines are those that
-- spell no edit, empty ones too.
pub record SyncsLines (input : List ℕ) (total : ℕ) (book : List Series) (pieces from to : ℕ) : Type 0 where
  pub front : List ℕ
  pub rest : List ℕ
  pub begins : BeginsWith input front rest
  pub others : ℕ
  pub counted : length (lines front) ≡ others + length (edits_of (lines front))
  pub few : to ≤ from + most_syncs total book (edits_of (lines front)) others pieces

-- what some first lines of an input may sync, the whole input may
abbrev pub FirstLinesSyncLess : Type 0
FirstLinesSyncLess =
    (input : List ℕ) (total : ℕ) (book : List Series) (pieces from to others : ℕ) → SyncsLines input total book pieces from to
    → length (lines input) ≡ others + length (edits_of (lines input))
    → to ≤ from + most_syncs total book (edits_of (lines input)) others pieces
