-- A run gives frames to `show` that name sessions which are open.
use Rattle.std.proofs.Common.{◌≡◌, ◌+◌, ℕ, Bool, List, [], ◌∷◌, ◌++◌, length, take, Option, Result, Ok, Err, IfErr, refl, ap, sym, ◌∙◌}
use Rattle.std.proofs.Common.{arith, length-append}
use Rattle.std.proofs.Math.Seq.{take-append-add, take-length}
use Rattle.std.proofs.lemmas.List.Elements.{All-append, All-cons, All-nil}
use Rattle.block_disk.specs.Streams.{sent_after, PartSent}
use Rattle.chart_frames.specs.declared.frame.Frame.{Frame}
use Rattle.chart_frames.specs.Frames.{Fits}
use Rattle.zoom_session.specs.declared.session.Session.{Session}
use Rattle.zoom_session.specs.Sessions.{is_open}
use Rattle.chart_service.specs.Knowing.{NamesKnown}
use Rattle.chart_service.specs.Naming.{opens_all, Gives as GivesFrames, GivesFirst, GivesBy}
use Rattle.block_disk.specs.SentLaws.{sent_more}
use Rattle.chart_service.specs.declared.failure.AnswerEnd.{AnswerEnd}
use Rattle.chart_service.specs.declared.failure.AnswerEnd.TheVariants as answers
use Rattle.chart_service.specs.declared.failure.ServeEnd.TheVariants.{ReadFault, SendFault, DiskFault, Damaged, InputTooLong, NoMemory}
use Rattle.chart_service.proofs.Made.{made_joined}
use Rattle.chart_service.proofs.Naming.{known_alike, name_joined}
use Rattle.chart_service.proofs.Sending.{made_one}
use Rattle.chart_program.specs.Known.{ShowsNamed, ShowsBy}
use Rattle.chart_program.specs.Runs.{Gives, MakesText, run_answer}
use Rattle.chart_program.specs.declared.run_end.RunEnd.{RunEnd}
use Rattle.chart_program.specs.declared.run_end.RunEnd.TheVariants.{Serve, Show}
use Rattle.chart_program.proofs.Running.{made_shown}

module _ {V : Type 0} (gives : Gives V) (v w : V) (sessions : List Session) (before now : Option (List ℕ)) where
  abbrev own : ℕ → Bool
  own n = is_open n sessions

  -- all texts were sent
  whole_shown : (lines : List (Option (List ℕ))) (u : V) (b : ℕ → Bool) (later : Option (List ℕ))
      → GivesFrames (MakesText gives) lines v u own b before later → now ≡ later → ShowsNamed gives v u sessions before now
  whole_shown lines u b later g same = record {
    frames = g.frames;
    fits = g.fits;
    named = g.named;
    text = g.text;
    shown = made_shown gives v u [] g.frames g.text g.made;
    count = length g.text;
    within = omega arith;
    sent = same ∙ g.sent ∙ ap (λ t. sent_after t before) (sym (take-length g.text));
  }

  -- and a first part of one more
  part_shown : (lines : List (Option (List ℕ))) (u : V) (b : ℕ → Bool) (sent : Option (List ℕ)) (frame : Frame) (piece : List ℕ)
      → GivesFrames (MakesText gives) lines v u own b before sent → Fits frame → NamesKnown frame b → MakesText gives u frame (Ok piece) w
      → PartSent piece sent now → ShowsNamed gives v w sessions before now
  part_shown lines u b sent frame piece g fits known made part = record {
    frames = g.frames ++ frame ∷ [];
    fits = All-append Fits g.frames (frame ∷ []) g.fits (All-cons Fits frame [] fits (All-nil Fits));
    named = name_joined g.frames (frame ∷ []) own g.named (known_alike frame b (λ n. opens_all g.frames n (own n)) g.open_now known, tt);
    text = g.text ++ piece;
    shown = made_shown gives v w [] (g.frames ++ frame ∷ []) (g.text ++ piece)
        (made_joined (MakesText gives) v u w [] [] [] g.frames (frame ∷ []) g.text piece
        (made_one (MakesText gives) u w [] frame piece made) g.made);
    count = length g.text + part.count;
    within = omega (arith, part.within, length-append g.text piece);
    sent = sent_more g.text (take part.count piece) before sent now g.sent part.sent
        ∙ ap (λ t. sent_after t before) (sym (take-append-add g.text piece part.count));
  }

  -- none is shown for an error
  stops_shown : (end : RunEnd) → GivesFirst (MakesText gives) v w own before now (answers.Reply end)
      → ShowsBy {T = Unit {0}} gives v w sessions before now (Err end)
  unfolding whole_shown
  stops_shown (Serve end) g = (g.last, whole_shown g.lines g.last g.now_open g.sent g.given g.stops.3.0)
  stops_shown (Show e) g = record {
    last = g.last;
    given = whole_shown g.lines g.last g.now_open g.sent g.given g.stops.3.0;
    whole = refl;
    frame = g.stops.0;
    fits = g.stops.1;
    named = known_alike g.stops.0 g.now_open (λ n. opens_all g.given.frames n (own n)) g.given.open_now g.stops.2;
    fails = g.stops.3.1;
  }

  pub named_shown : (lines : List (Option (List ℕ))) (sessions' : List Session) (r : Result (Unit {0}) (AnswerEnd RunEnd))
      → GivesBy (MakesText gives) lines v w sessions sessions' before now r → ShowsBy gives v w sessions before now (run_answer r)
  named_shown lines sessions' (Ok done) g = whole_shown lines w (λ n. is_open n sessions') now g refl
  named_shown lines sessions' (Err (answers.Serve ReadFault)) g = (g.last, whole_shown g.lines g.last g.now_open g.sent g.given g.stops.1)
  named_shown lines sessions' (Err (answers.Serve SendFault)) g = (
    w,
    part_shown g.lines g.last g.now_open g.sent g.stops.0 g.stops.3.0 g.given g.stops.1 g.stops.2 g.stops.3.1 g.stops.3.2,
  )
  named_shown lines sessions' (Err (answers.Serve DiskFault)) g = (g.last, whole_shown g.lines g.last g.now_open g.sent g.given g.stops.1)
  named_shown lines sessions' (Err (answers.Serve (Damaged page))) g = (
    g.last,
    whole_shown g.lines g.last g.now_open g.sent g.given g.stops.1,
  )
  named_shown lines sessions' (Err (answers.Serve InputTooLong)) g = (
    g.last,
    whole_shown g.lines g.last g.now_open g.sent g.given g.stops.1,
  )
  named_shown lines sessions' (Err (answers.Serve NoMemory)) g = (g.last, whole_shown g.lines g.last g.now_open g.sent g.given g.stops.1)
  named_shown lines sessions' (Err (answers.Reply end)) g = stops_shown end g

-- of an error
pub stopped_shown : {T V : Type 0} (gives : Gives V) (v w : V) (sessions : List Session) (before now : Option (List ℕ))
    (r : Result T RunEnd) → ShowsBy gives v w sessions before now r
    → IfErr r (λ end. ShowsBy {T = Unit {0}} gives v w sessions before now (Err end))
stopped_shown gives v w sessions before now (Ok done) shows = tt
stopped_shown gives v w sessions before now (Err (Serve end)) shows = shows
stopped_shown gives v w sessions before now (Err (Show e)) shows = shows
