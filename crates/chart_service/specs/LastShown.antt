-- Which series the client of a session was shown last, by the lines and the frames that answered them.
use Rattle.std.specs.Prelude.{ℕ, ◌≡◌, ◌≢◌, ◌⊎◌, List, [], ◌∷◌, Option, None, Some, Result, Ok, Err, ⊤}
use Rattle.chart_frames.specs.declared.frame.Frame.{Frame}
use Rattle.chart_frames.specs.declared.frame.Frame.TheVariants.{Done, Refused, Opened, Closed, View as ViewOf, Rows, Live, Report}
use Rattle.request_lines.specs.declared.requests.Request.{Request}
use Rattle.request_lines.specs.declared.requests.Request.TheVariants.{Edit as EditRequest, Open, View as ViewRequest, Zoom, Pan, Close}
use Rattle.request_lines.specs.Requests.{read_line}
use Rattle.zoom_session.specs.declared.session.Session.{Session}
use Rattle.zoom_session.specs.Sessions.{session_of, last_of}
use Rattle.chart_service.specs.Stepping.{IsLastShown}

-- the series of this id is that of the last view of the session n
abbrev pub IsLastIn : List Session → ℕ → ℕ → Type 0
IsLastIn sessions n id = IsLastShown (last_of (session_of n sessions)) id

-- Of which series a session's last view may be after a frame, by what was so before it. A view tells its series, and rows don't:
-- theirs are these. Where a session was closed there is none.
abbrev pub ShownBy : (ℕ → Type 0) → Frame → ℕ → (ℕ → Type 0) → ℕ → Type 0
ShownBy IsOfRows (Done slots) n was id = was id
ShownBy IsOfRows (Refused number a b) n was id = was id
ShownBy IsOfRows (Opened session cache) n was id = was id
ShownBy IsOfRows (Closed session) n was id = (session ≢ n) × was id
ShownBy IsOfRows (ViewOf view) n was id = ((view.session ≡ n) × (id ≡ view.series)) ⊎ ((view.session ≢ n) × was id)
ShownBy IsOfRows (Rows rows) n was id = ((rows.session ≡ n) × IsOfRows id) ⊎ ((rows.session ≢ n) × was id)
ShownBy IsOfRows (Live session on) n was id = was id
ShownBy IsOfRows (Report report) n was id = was id

-- rows that answer a view may be of any series, and those that answer a zoom or a pan are of one from before
abbrev pub OfRows : Request → (ℕ → Type 0) → ℕ → Type 0
OfRows (EditRequest edit) was id = was id
OfRows (Open number cache) was id = was id
OfRows (ViewRequest number name w h t0 t1 word text) was id = ⊤
OfRows (Zoom number t0 t1) was id = was id
OfRows (Pan number by) was id = was id
OfRows (Close number) was id = was id

-- the same of what a line is read as, and of a line
abbrev pub OfRowsRead : Result Request ℕ → (ℕ → Type 0) → ℕ → Type 0
OfRowsRead (Err at) was id = was id
OfRowsRead (Ok request) was id = OfRows request was id

abbrev pub OfRowsLine : Option (List ℕ) → (ℕ → Type 0) → ℕ → Type 0
OfRowsLine None was id = was id
OfRowsLine (Some text) was id = OfRowsRead (read_line text) was id

-- Of which series the last view of the session n may be behind these lines and the frames that answered them, one a line, by
-- what was so before them.
abbrev pub LastShown : (ℕ → ℕ → Type 0) → List (Option (List ℕ)) → List Frame → ℕ → ℕ → Type 0
LastShown was [] frames n id = was n id
LastShown was (line ∷ lines) [] n id = was n id
LastShown was (line ∷ lines) (frame ∷ frames) n id =
    LastShown (λ m other. ShownBy (OfRowsLine line (was m)) frame m (was m) other) lines frames n id

-- the last views of the open sessions are so after a frame
abbrev pub LastsBy : ((ℕ → Type 0) → ℕ → Type 0) → Frame → List Session → List Session → Type 0
LastsBy IsOfRows frame old new =
    (n id : ℕ) → IsLastIn new n id → ShownBy (IsOfRows (IsLastIn old n)) frame n (IsLastIn old n) id

-- and behind lines
abbrev pub LastsBehind : List (Option (List ℕ)) → List Frame → List Session → List Session → Type 0
LastsBehind lines frames old new = (n id : ℕ) → IsLastIn new n id → LastShown (IsLastIn old) lines frames n id

-- the last view of a session is of the series that a frame tells, and of these behind rows
abbrev pub TellsSeries : ℕ → (ℕ → Type 0) → List Session → Frame → Type 0
TellsSeries number IsOfRows sessions (ViewOf view) = (id : ℕ) → IsLastIn sessions number id → id ≡ view.series
TellsSeries number IsOfRows sessions (Rows rows) = (id : ℕ) → IsLastIn sessions number id → IsOfRows id
TellsSeries number IsOfRows sessions frame = ⊤
