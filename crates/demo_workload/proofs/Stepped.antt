-- One request of a workload.
use Rattle.std.proofs.Common.{ℕ, ◌≡◌, inl, inr, List, [], ◌∷◌, ◌++◌, Option, refl, ap}
use Rattle.block_disk.specs.View.{Image}
use Rattle.line_raster.specs.Canvas.{Canvas}
use Rattle.series_book.specs.declared.one_series.Series.{Series}
use Rattle.request_lines.specs.declared.requests.Request.{Request}
use Rattle.chart_frames.specs.declared.frame.Frame.{Frame}
use Rattle.zoom_session.specs.declared.session.Session.{Session}
use Rattle.chart_client.specs.declared.holding.Holding.{Holding}
use Rattle.chart_client.specs.declared.errors.ClientError.TheVariants as client
use Rattle.chart_client.specs.Accepting.{Accepts}
use Rattle.chart_service.specs.State.{State, IsSound}
use Rattle.chart_service.specs.Replies.{Replies}
use Rattle.chart_service.specs.declared.failure.ServiceError.{ServiceError}
use Rattle.chart_service.specs.Stepping.{StandsAfter, state_of, RepliedTo, IsBeforeOrAfter, IsOutside as IsStepOutside}
use Rattle.drawn_replies.specs.Mirrors.{Mirrors, DrawsTheBook, OnlyLacksMemory}
use Rattle.demo_workload.specs.declared.summaries.Summary.{Summary}
use Rattle.run_ends.specs.declared.ending.End.{End}
use Rattle.run_ends.specs.declared.ending.End.TheVariants.{NoMemory, Missing, BadCoefficient}
use Rattle.demo_workload.specs.Summaries.{summary_of}
use Rattle.demo_workload.specs.Ending.{end_of_step, IsOutside}
use Rattle.demo_workload.specs.Answering.{AnswersOne, RejectsAs}

-- how a client draws the frames of requests
abbrev pub Draws : Type 0
Draws = (request : Request) (frame : Frame) (old new : State) (holdings : List Holding) → IsSound old → Replies request frame old new
    → Mirrors old.sessions holdings → DrawsTheBook frame old new holdings

abbrev pub Accepted : Type 0
Accepted = (request : Request) (frame : Frame) (old new : State) (holdings : List Holding) → IsSound old → Replies request frame old new
    → Mirrors old.sessions holdings → OnlyLacksMemory frame holdings

-- a reply, its picture and one more reply in the summary
pub answered_one : Draws → (request : Request) (frame : Frame) (picture : Option Canvas) (total : ℕ) (book : List Series) (image : Image)
    (sessions sessions' : List Session) (holdings holdings' : List Holding) (before now : Summary) → IsSound (state_of book total sessions)
    → Mirrors sessions holdings → StandsAfter total image sessions' (λ new. RepliedTo request frame (state_of book total sessions) new)
    → Accepts frame picture holdings holdings'
    → ((frames : List Frame) (pictures : List (Option Canvas)) → before ≡ summary_of frames pictures
    → now ≡ summary_of (frames ++ frame ∷ []) (pictures ++ picture ∷ []))
    → StandsAfter total image sessions' (λ new. AnswersOne request (state_of book total sessions) new holdings' before now)
answered_one draws request frame picture total book image sessions sessions' holdings holdings' before now sound mirrors reply accepted
    sums =
    let drawn = draws request frame (state_of book total sessions)
    (state_of reply.book total sessions') holdings sound reply.so.0 mirrors picture holdings' accepted in
    record {
      book = reply.book;
      stands = reply.stands;
      so = record { frame = frame; picture = picture; replied = reply.so; pictured = drawn.1; mirrors = drawn.0; sums = sums };
    }

-- where pages stand for a book the client rejects nothing
pub outside_frame : Accepted → (request : Request) (frame : Frame) (total : ℕ) (book : List Series) (image : Image)
    (sessions sessions' : List Session)
    (holdings : List Holding) (end : End) → IsSound (state_of book total sessions) → Mirrors sessions holdings
    → StandsAfter total image sessions' (λ new. RepliedTo request frame (state_of book total sessions) new) → RejectsAs frame holdings end
    → IsOutside end
outside_frame lacks request frame total book image sessions sessions' holdings NoMemory sound mirrors reply rejected = inr refl
outside_frame lacks request frame total book image sessions sessions' holdings (Missing number) sound mirrors reply rejected =
    let never : client.Missing rejected.0 ≡ client.NoMemory =
    lacks request frame (state_of book total sessions) (state_of reply.book total sessions') holdings sound reply.so.0 mirrors
    (client.Missing rejected.0) rejected.2 in
    cc
outside_frame lacks request frame total book image sessions sessions' holdings (BadCoefficient number) sound mirrors reply rejected =
    let never : client.BadCoefficient rejected.0 ≡ client.NoMemory =
    lacks request frame (state_of book total sessions) (state_of reply.book total sessions') holdings sound reply.so.0 mirrors
    (client.BadCoefficient rejected.0) rejected.2 in
    cc
outside_frame lacks request frame total book image sessions sessions' holdings end sound mirrors reply rejected = absurd rejected

pub outside_step : (error : ServiceError) → IsStepOutside error → IsOutside (end_of_step error)
outside_step error (inl is) = inl (ap end_of_step is)
outside_step error (inr is) = inr (ap end_of_step is)

-- the pages after an error behind a step
pub left_behind : (request : Request) (frame : Frame) (total : ℕ) (book : List Series) (sessions sessions' : List Session) (image : Image)
    → StandsAfter total image sessions' (λ new. RepliedTo request frame (state_of book total sessions) new)
    → IsBeforeOrAfter (RepliedTo request) total book sessions image
left_behind request frame total book sessions sessions' image reply = inr (record { frame = frame; left = sessions'; after = reply })
