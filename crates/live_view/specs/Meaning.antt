-- What a line that the stepper answers means for those that follow.
use Rattle.std.specs.Prelude.{ℕ, nat_lt, if◌then◌else◌, List, length, Result, Ok, Err}
use Rattle.series_book.specs.declared.edits.Edit.{Edit}
use Rattle.series_book.specs.declared.edits.Edit.TheVariants.{Create, Append, Set, Clear}
use Rattle.request_lines.specs.declared.requests.Request.{Request}
use Rattle.request_lines.specs.declared.requests.Request.TheVariants.{Edit as EditRequest, Open, View as ViewRequest, Zoom, Pan, Close}
use Rattle.request_lines.specs.Requests.{read_line}
use Rattle.live_view.specs.declared.meaning.Meaning.{Meaning}
use Rattle.live_view.specs.declared.meaning.Meaning.TheVariants.{View, Edit as EditOf, Other}

-- the name of the series that an edit changes
abbrev pub name_of : Edit → List ℕ
name_of (Create name start step scale) = name
name_of (Append name values) = name
name_of (Set name time values) = name
name_of (Clear name time count) = name

-- what a line means by what it is read as
abbrev pub meaning_in : Result Request ℕ → Meaning
meaning_in (Ok (EditRequest edit)) = EditOf (name_of edit)
meaning_in (Ok (ViewRequest session name w h t0 t1 range filter)) = View
meaning_in (Ok (Open session cache)) = Other
meaning_in (Ok (Zoom session t0 t1)) = Other
meaning_in (Ok (Pan session by)) = Other
meaning_in (Ok (Close session)) = Other
meaning_in (Err at) = Other

-- what a line means; one of more than 8,192 bytes spells nothing
unfoldable pub meaning_of : List ℕ → Meaning
meaning_of line = if nat_lt 8192 (length line) then Other else meaning_in (read_line line)
