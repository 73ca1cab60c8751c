-- Which frames may answer a request, and which sessions they may leave open, whatever the pages are.
use Rattle.std.specs.Prelude.{ℕ, ◌≡◌, ◌≢◌, List, [], ◌∷◌, Option, None, Some, Result, Ok, Err, MatchResult, ⊤}
use Rattle.chart_frames.specs.declared.frame.Frame.{Frame}
use Rattle.chart_frames.specs.declared.frame.Frame.TheVariants.{Refused, Opened, Closed, View as ViewOf, Rows}
use Rattle.request_lines.specs.declared.requests.Request.{Request}
use Rattle.request_lines.specs.declared.requests.Request.TheVariants.{Edit as EditRequest, Open, View as ViewRequest, Zoom, Pan, Close}
use Rattle.request_lines.specs.Requests.{read_line}
use Rattle.series_book.specs.declared.refusals.Refusal.TheVariants.{LineTooLong, BadLine}
use Rattle.zoom_session.specs.declared.session.Session.{Session}
use Rattle.chart_service.specs.EditGroups.{IsEditReply}
use Rattle.chart_service.specs.Replies.{refused}
use Rattle.chart_service.specs.declared.failure.ServiceError.{ServiceError}
use Rattle.chart_service.specs.declared.failure.ServiceError.TheVariants.{NoMemory}

-- ---- sessions

abbrev pub IsRefusal : Frame → Type 0
IsRefusal (Refused number a b) = ⊤
IsRefusal frame = ⊥

-- a refusal leaves all sessions with their lists and last views, and so does each error but want of memory
abbrev pub KeepsSessions : Result Frame ServiceError → List Session → List Session → Type 0
KeepsSessions result old new = MatchResult result (λ frame. IsRefusal frame → new ≡ old) (λ error. error ≢ NoMemory → new ≡ old)

-- ---- kinds

-- the frame refuses, or opens the session
abbrev pub MayOpen : ℕ → Frame → Type 0
MayOpen session (Refused number a b) = ⊤
MayOpen session (Opened number cache) = number ≡ session
MayOpen session frame = ⊥

-- it refuses, or closes it
abbrev pub MayClose : ℕ → Frame → Type 0
MayClose session (Refused number a b) = ⊤
MayClose session (Closed number) = number ≡ session
MayClose session frame = ⊥

-- it refuses, or tells a view in it
abbrev pub MayShow : ℕ → Frame → Type 0
MayShow session (Refused number a b) = ⊤
MayShow session (ViewOf view) = view.session ≡ session
MayShow session (Rows rows) = rows.session ≡ session
MayShow session frame = ⊥

-- it may answer the request, whatever the book is: by its kind, and in the session that the request names
abbrev pub MayAnswer : Request → Frame → Type 0
MayAnswer (EditRequest edit) frame = IsEditReply frame
MayAnswer (Open number cache) frame = MayOpen number frame
MayAnswer (ViewRequest number name w h t0 t1 word text) frame = MayShow number frame
MayAnswer (Zoom number t0 t1) frame = MayShow number frame
MayAnswer (Pan number by) frame = MayShow number frame
MayAnswer (Close number) frame = MayClose number frame

-- the same of what a line is read as: one that says no request is refused at its place
abbrev pub MayAnswerRead : Result Request ℕ → Frame → Type 0
MayAnswerRead (Err at) frame = frame ≡ refused (BadLine at)
MayAnswerRead (Ok request) frame = MayAnswer request frame

-- and of a line: one that is too long is refused as that
abbrev pub MayAnswerLine : Option (List ℕ) → Frame → Type 0
MayAnswerLine None frame = frame ≡ refused LineTooLong
MayAnswerLine (Some text) frame = MayAnswerRead (read_line text) frame

-- there are as many frames as lines, and each of them may answer its line
abbrev pub MayAnswerAll : List (Option (List ℕ)) → List Frame → Type 0
MayAnswerAll [] [] = ⊤
MayAnswerAll [] (frame ∷ frames) = ⊥
MayAnswerAll (line ∷ lines) [] = ⊥
MayAnswerAll (line ∷ lines) (frame ∷ frames) = MayAnswerLine line frame × MayAnswerAll lines frames
