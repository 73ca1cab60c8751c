-- Frames that are sent one after the other.
use Rattle.std.proofs.Common.{◌≡◌, ◌∙◌, ℕ, List, [], ◌∷◌, Option, Result, Ok, Err, refl, ap, sym}
use Rattle.std.specs.Prelude.{OnOk, IfErr}
use Rattle.block_disk.specs.Streams.{sent_after}
use Rattle.block_disk.specs.SentLaws.{sent_none}
use Rattle.chart_frames.specs.declared.frame.Frame.{Frame}
use Rattle.chart_frames.specs.Frames.{spelling}
use Rattle.run_ends.specs.declared.ending.End.{End}
use Rattle.run_ends.specs.declared.ending.End.TheVariants.{NoMemory, SendFault}
use Rattle.hosted_lines.specs.Doing.{FrameStops}
use Rattle.hosted_lines.specs.Hosting.{FramesStop}
use Rattle.hosted_lines.specs.Lives.{spelled}
use Rattle.hosted_lines.proofs.EventLemmas.{sent_then, spelled_one}

-- the first of the frames wasn't sent
pub first_stops : (frames later : List Frame) (frame : Frame) (before now : Option (List ℕ)) (end : End) → frames ≡ frame ∷ later
    → FrameStops frame before now end → FramesStop frames before now end
first_stops frames later frame before now NoMemory is stops = record {
  shown = [];
  later = frames;
  frames_are = refl;
  sent = stops ∙ sent_none before;
}
first_stops frames later frame before now SendFault is stops =
    record { shown = []; last = frame; later = later; frames_are = is; between = before; whole = sent_none before; part = stops }
first_stops frames later frame before now end is stops = absurd stops

one_sent : (frame : Frame) (before between : Option (List ℕ)) → between ≡ sent_after (spelling frame) before
    → between ≡ sent_after (spelled (frame ∷ [])) before
one_sent frame before between sent = sent ∙ ap (λ t. sent_after t before) (sym (spelled_one frame))

-- a later one wasn't
pub later_stops : (frames later : List Frame) (frame : Frame) (before between now : Option (List ℕ)) (end : End) → frames ≡ frame ∷ later
    → between ≡ sent_after (spelling frame) before → FramesStop later between now end → FramesStop frames before now end
later_stops frames later frame before between now NoMemory is sent s = record {
  shown = frame ∷ s.shown;
  later = s.later;
  frames_are = is ∙ ap (λ l. frame ∷ l) s.frames_are;
  sent = sent_then (frame ∷ []) s.shown before between now (one_sent frame before between sent) s.sent;
}
later_stops frames later frame before between now SendFault is sent s = record {
  shown = frame ∷ s.shown;
  last = s.last;
  later = s.later;
  frames_are = is ∙ ap (λ l. frame ∷ l) s.frames_are;
  between = s.between;
  whole = sent_then (frame ∷ []) s.shown before between s.between (one_sent frame before between sent) s.whole;
  part = s.part;
}
later_stops frames later frame before between now end is sent s = absurd s

pub later_error : {T : Type 0} (result : Result T End) (frames later : List Frame) (frame : Frame) (before between now : Option (List ℕ))
    → frames ≡ frame ∷ later → between ≡ sent_after (spelling frame) before → IfErr result (FramesStop later between now)
    → IfErr result (FramesStop frames before now)
later_error {T} (Ok v) frames later frame before between now is sent s = tt
later_error {T} (Err end) frames later frame before between now is sent s = later_stops frames later frame before between now end is sent s

-- all of them were
pub none_whole : (frames : List Frame) (before : Option (List ℕ)) → frames ≡ [] → before ≡ sent_after (spelled frames) before
none_whole frames before none = sent_none before ∙ ap (λ l. sent_after (spelled l) before) (sym none)

-- ---- one frame
pub one_stops : {T : Type 0} (result : Result T End) (frame : Frame) (before now : Option (List ℕ))
    → IfErr result (FrameStops frame before now) → IfErr result (FramesStop (frame ∷ []) before now)
one_stops {T} (Ok v) frame before now stops = tt
one_stops {T} (Err end) frame before now stops = first_stops (frame ∷ []) [] frame before now end refl stops

pub one_whole : {T : Type 0} (result : Result T End) (frame : Frame) (before now : Option (List ℕ))
    → OnOk result (now ≡ sent_after (spelling frame) before) → OnOk result (now ≡ sent_after (spelled (frame ∷ [])) before)
one_whole {T} (Ok v) frame before now whole = whole ∙ ap (λ t. sent_after t before) (sym (spelled_one frame))
one_whole {T} (Err end) frame before now whole = tt
