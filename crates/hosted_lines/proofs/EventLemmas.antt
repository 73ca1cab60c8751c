-- Events in a row, their lines and their frames.
use Rattle.std.proofs.Common.{◌≡◌, ◌∙◌, ℕ, ◌+◌, List, [], ◌∷◌, ◌++◌, length, Option, None, Some, refl, ap, sym, subst, length-append}
use Rattle.std.proofs.lemmas.Grind.{flat_map-append}
use Rattle.std.proofs.lemmas.List.{append-nil}
use Rattle.block_disk.specs.Streams.{sent_after}
use Rattle.block_disk.specs.SentLaws.{sent_more}
use Rattle.chart_frames.specs.declared.frame.Frame.{Frame}
use Rattle.chart_frames.specs.Frames.{Fits, spelling}
use Rattle.chart_service.specs.ReadingBlocks.{ReadsLine}
use Rattle.chart_service.specs.Replies.{refused}
use Rattle.chart_service.specs.State.{State, IsSound}
use Rattle.live_service.specs.LiveReplies.{LiveState, LiveReplied, Pushed, ReadsPush, RepliesTo}
use Rattle.live_view.specs.Lines.{live_line}
use Rattle.live_view.specs.declared.live_lines.LiveLine.{LiveLine}
use Rattle.live_view.specs.declared.live_lines.LiveLine.TheVariants.{Follow, Unfollow, Bad, Other}
use Rattle.series_book.specs.declared.refusals.Refusal.TheVariants.{LineTooLong}
use Rattle.hosted_lines.specs.Lives.{Event, answer, push, Lives, LivesBy, lines_in, spelled}
use Rattle.hosted_lines.specs.Reads.{ReadsBy, ReadsInTurn}

-- events behind others do what both do
lives_more : (old mid new : LiveState) (first later : List Event) (frames more : List Frame) → Lives old first frames mid
    → Lives mid later more new → Lives old (first ++ later) (frames ++ more) new
lives_more old mid new [] later [] more one two = let P : LiveState → Type 0 = λ s. Lives s later more new in subst P one two
lives_more old mid new [] later (f ∷ fs) more one two = absurd one
lives_more old mid new (answer line ∷ es) later [] more one two = absurd one
lives_more old mid new (push ∷ es) later [] more one two = absurd one
lives_more old mid new (answer line ∷ es) later (f ∷ fs) more one two = (
  one.0,
  one.1,
  one.2,
  lives_more one.0 mid new es later fs more one.3 two,
)
lives_more old mid new (push ∷ es) later (f ∷ fs) more one two = (one.0, one.1, lives_more one.0 mid new es later fs more one.2 two)

pub lines_more : (first later : List Event) → lines_in (first ++ later) ≡ lines_in first ++ lines_in later
lines_more [] later = refl
lines_more (answer line ∷ es) later = ap (λ l. line ∷ l) (lines_more es later)
lines_more (push ∷ es) later = lines_more es later

pub by_more : (lines others : List (Option (List ℕ))) (frames more : List Frame) (old mid new : LiveState) → LivesBy lines frames old mid
    → LivesBy others more mid new → LivesBy (lines ++ others) (frames ++ more) old new
by_more lines others frames more old mid new one two = record {
  events = one.events ++ two.events;
  lines_are = lines_more one.events two.events ∙ ap (λ l. l ++ lines_in two.events) one.lines_are ∙ ap (λ l. lines ++ l) two.lines_are;
  lived = lives_more old mid new one.events two.events frames more one.lived two.lived;
}

pub by_none : (at : LiveState) → LivesBy [] [] at at
by_none at = record { events = []; lines_are = refl; lived = refl }

pub by_answer : (line : Option (List ℕ)) (frame : Frame) (old new : LiveState) → old.pending ≡ [] → LiveReplied line frame old new
    → LivesBy (line ∷ []) (frame ∷ []) old new
by_answer line frame old new idle replied = record { events = answer line ∷ []; lines_are = refl; lived = (new, idle, replied, refl) }

pub by_push : (frame : Frame) (old new : LiveState) → Pushed frame old new → LivesBy [] (frame ∷ []) old new
by_push frame old new pushed = record { events = push ∷ []; lines_are = refl; lived = (new, pushed, refl) }

-- ---- what they read

reads_in_row : (old mid new : LiveState) (first later : List Event) (frames more : List Frame) (from between to : ℕ)
    → ReadsInTurn old first frames mid from between → ReadsInTurn mid later more new between to
    → ReadsInTurn old (first ++ later) (frames ++ more) new from to
reads_in_row old mid new [] later [] more from between to one two =
    let P : LiveState → Type 0 = λ s. ReadsInTurn s later more new from to in
    let Q : ℕ → Type 0 = λ n. ReadsInTurn mid later more new n to in
    subst P one.0 (subst Q one.1 two)
reads_in_row old mid new [] later (f ∷ fs) more from between to one two = absurd one
reads_in_row old mid new (answer line ∷ es) later [] more from between to one two = absurd one
reads_in_row old mid new (push ∷ es) later [] more from between to one two = absurd one
reads_in_row old mid new (answer line ∷ es) later (f ∷ fs) more from between to one two = (
  one.0,
  one.1,
  one.2,
  one.3,
  one.4,
  reads_in_row one.0 mid new es later fs more one.1 between to one.5 two,
)
reads_in_row old mid new (push ∷ es) later (f ∷ fs) more from between to one two = (
  one.0,
  one.1,
  one.2,
  one.3,
  reads_in_row one.0 mid new es later fs more one.1 between to one.4 two,
)

pub reads_more : (lines others : List (Option (List ℕ))) (frames more : List Frame) (old mid new : LiveState) (from between to : ℕ)
    → ReadsBy lines frames old mid from between → ReadsBy others more mid new between to
    → ReadsBy (lines ++ others) (frames ++ more) old new from to
reads_more lines others frames more old mid new from between to one two = record {
  events = one.events ++ two.events;
  lines_are = lines_more one.events two.events ∙ ap (λ l. l ++ lines_in two.events) one.lines_are ∙ ap (λ l. lines ++ l) two.lines_are;
  reads = reads_in_row old mid new one.events two.events frames more from between to one.reads two.reads;
}

pub reads_none : (at : LiveState) (count : ℕ) → ReadsBy [] [] at at count count
reads_none at count = record { events = []; lines_are = refl; reads = (refl, refl) }

pub reads_answer : (line : Option (List ℕ)) (frame : Frame) (old new : LiveState) (from to : ℕ) → old.pending ≡ []
    → LiveReplied line frame old new → ReadsLine line old.state from to → ReadsBy (line ∷ []) (frame ∷ []) old new from to
reads_answer line frame old new from to idle replied reads = record {
  events = answer line ∷ [];
  lines_are = refl;
  reads = (new, to, idle, replied, reads, (refl, refl));
}

pub reads_push : (frame : Frame) (old new : LiveState) (from to : ℕ) → Pushed frame old new → ReadsPush old.pending old.state from to
    → ReadsBy [] (frame ∷ []) old new from to
reads_push frame old new from to pushed reads = record {
  events = push ∷ [];
  lines_are = refl;
  reads = (new, to, pushed, reads, (refl, refl));
}

-- ---- what holds of the state

sound_same : (old new : State) → new ≡ old → IsSound old → IsSound new
sound_same old new same sound = let P : State → Type 0 = IsSound in subst P (sym same) sound

sound_to : (asked : LiveLine) (text : List ℕ) (frame : Frame) (old new : LiveState) → RepliesTo asked text frame old new → IsSound old.state
    → IsSound new.state
sound_to (Follow n) text frame old new replied sound = sound_same old.state new.state replied.state sound
sound_to (Unfollow n) text frame old new replied sound = sound_same old.state new.state replied.state sound
sound_to (Bad at) text frame old new replied sound = sound_same old.state new.state replied.state sound
sound_to Other text frame old new replied sound = replied.replied.2

pub sound_replied : (line : Option (List ℕ)) (frame : Frame) (old new : LiveState) → IsSound old.state → LiveReplied line frame old new
    → IsSound new.state
sound_replied None frame old new sound replied = replied.replied.2
sound_replied (Some text) frame old new sound replied = sound_to (live_line text) text frame old new replied sound

pub sound_pushed : (frame : Frame) (old new : LiveState) → IsSound old.state → Pushed frame old new → IsSound new.state
sound_pushed frame old new sound pushed = pushed.replied.2

-- a line that is too long is refused
pub long_replied : (frame : Frame) (at : LiveState) → frame ≡ refused LineTooLong → Fits frame → IsSound at.state → at.pending ≡ []
    → LiveReplied None frame at at
long_replied frame at is fits sound idle = record {
  replied = (record { reply = is; state = refl }, fits, sound);
  followed_same = refl;
  idle = idle;
}

-- ---- spellings

pub spelled_more : (frames more : List Frame) → spelled (frames ++ more) ≡ spelled frames ++ spelled more
spelled_more frames more = flat_map-append spelling frames more

pub spelled_one : (frame : Frame) → spelled (frame ∷ []) ≡ spelling frame
spelled_one frame = append-nil (spelling frame)

pub length_more : (frames more : List Frame) → length (spelled (frames ++ more)) ≡ length (spelled frames) + length (spelled more)
length_more frames more = ap length (spelled_more frames more) ∙ length-append (spelled frames) (spelled more)

pub length_one : (frame : Frame) → length (spelled (frame ∷ [])) ≡ length (spelling frame)
length_one frame = ap length (spelled_one frame)

pub sent_then : (frames more : List Frame) (before between now : Option (List ℕ)) → between ≡ sent_after (spelled frames) before
    → now ≡ sent_after (spelled more) between → now ≡ sent_after (spelled (frames ++ more)) before
sent_then frames more before between now first second =
    sent_more (spelled frames) (spelled more) before between now first second
    ∙ ap (λ t. sent_after t before) (sym (spelled_more frames more))
