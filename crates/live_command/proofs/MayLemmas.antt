-- What a run by a book sends may be sent whatever the book is.
use Rattle.std.proofs.Common.{ℕ, List, [], ◌∷◌, Option, subst, sym, inl}
use Rattle.chart_frames.specs.declared.frame.Frame.{Frame}
use Rattle.chart_service.specs.Serving.{told}
use Rattle.hosted_lines.proofs.AnswersLemmas.{push_first}
use Rattle.hosted_lines.specs.Lives.{Event, answer, push, Lives, LivesBy, lines_in}
use Rattle.live_service.proofs.FollowLemmas.{AreShort, Following, answered_well, are_short, first_well}
use Rattle.live_service.proofs.KindLemmas.{shows_push}
use Rattle.live_service.specs.Following.{FollowsWell}
use Rattle.live_service.specs.Kinds.{AnswerWithPushes, MayAnswerLive}
use Rattle.live_service.specs.LiveReplies.{LiveState, LiveReplied}
use Rattle.live_service.specs.Showing.{IsFirst}

module _ (own : (line : Option (List ℕ)) (frame : Frame) (old new : LiveState) → LiveReplied line frame old new
    → MayAnswerLive line frame) (f : Following) where
  all_may : (events : List Event) (frames : List Frame) (old new : LiveState) → AreShort (lines_in events) → FollowsWell old
      → Lives old events frames new → AnswerWithPushes MayAnswerLive (lines_in events) frames
  all_may [] [] old new short well lived = tt
  all_may [] (x ∷ xs) old new short well lived = absurd lived
  all_may (answer line ∷ es) [] old new short well lived = absurd lived
  all_may (push ∷ es) [] old new short well lived = absurd lived
  all_may (answer line ∷ es) (x ∷ xs) old new short well lived =
      inl (
        own line x old lived.0 lived.2,
        all_may es xs lived.0 new short.1
            (answered_well f line x old lived.0 short.0 well lived.2) lived.3,
      )
  all_may (push ∷ es) (x ∷ xs) old new short well lived =
      push_first MayAnswerLive (lines_in es) x xs (shows_push x (f.push_shows x old lived.0 well lived.1))
      (all_may es xs lived.0 new short (f.push_well x old lived.0 well lived.1) lived.2)

  pub runs_may : (input : List ℕ) (frames : List Frame) (old new : LiveState) → IsFirst old → LivesBy (told input) frames old new
      → AnswerWithPushes MayAnswerLive (told input) frames
  runs_may input frames old new first by =
      let A : List (Option (List ℕ)) → Type 0 = λ l. AreShort l in
      let W : List (Option (List ℕ)) → Type 0 = λ l. AnswerWithPushes MayAnswerLive l frames in
      subst W by.lines_are (all_may by.events frames old new (subst A (sym by.lines_are) (are_short input)) (first_well old first) by.lived)
