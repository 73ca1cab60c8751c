-- What lines say, and the book after that.
use Rattle.std.specs.Prelude.{⊤, ◌≡◌, ℕ, List, [], ◌∷◌, map, Option, None, Some, Result, Ok, Err}
use Rattle.series_book.specs.declared.one_series.Series.{Series}
use Rattle.series_book.specs.declared.refusals.Refusal.{Refusal}
use Rattle.series_book.specs.Edits.{Edited, apply}
use Rattle.request_lines.specs.declared.requests.Request.{Request}
use Rattle.request_lines.specs.declared.requests.Request.TheVariants.{Edit}
use Rattle.request_lines.specs.Spelling.{Spells}
use Rattle.request_lines.specs.Requests.{read_line}

-- a line of the input, or nothing where it is too long
abbrev pub Line : Type 0
Line = Option (List ℕ)

-- a line says the request that it spells, or nothing, where it is too long or spells none
abbrev pub IsSaid : Line → Option Request → Type 0
IsSaid None request = request ≡ None
IsSaid (Some text) None = (request : Request) → Spells request text → ⊥
IsSaid (Some text) (Some request) = Spells request text

-- each of the lines says this
abbrev pub AreSaid : List Line → List (Option Request) → Type 0
AreSaid [] [] = ⊤
AreSaid [] (request ∷ later) = ⊥
AreSaid (line ∷ lines) [] = ⊥
AreSaid (line ∷ lines) (request ∷ later) = IsSaid line request × AreSaid lines later

-- the book that an edit of a book gives, or the same where the edit is refused
abbrev pub or_same : List Series → Result Edited Refusal → List Series
or_same book (Ok edited) = edited.book
or_same book (Err refusal) = book

-- the book after a request, where it may take so many pages: only an edit changes it
abbrev pub after_request : ℕ → List Series → Option Request → List Series
after_request total book (Some (Edit edit)) = or_same book (apply book total edit)
after_request total book other = book

-- the book after requests
abbrev pub after_requests : ℕ → List Series → List (Option Request) → List Series
after_requests total book [] = book
after_requests total book (request ∷ later) = after_requests total (after_request total book request) later

-- ---- by reading

-- the request that was read, if one was
abbrev pub ok_of : Result Request ℕ → Option Request
ok_of (Ok request) = Some request
ok_of (Err at) = None

-- what a line is read as
abbrev pub said_by : Line → Option Request
said_by None = None
said_by (Some text) = ok_of (read_line text)

-- the book after a line
abbrev pub after_line : ℕ → List Series → Line → List Series
after_line total book line = after_request total book (said_by line)

-- the book after lines
abbrev pub after_lines : ℕ → List Series → List Line → List Series
after_lines total book lines = after_requests total book (map said_by lines)
