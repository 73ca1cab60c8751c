-- What a crash leaves while lines are answered.
use Rattle.std.proofs.Common.{◌≡◌, ◌≤◌, ℕ, ◌+◌, ◌⊎◌, List, [], ◌∷◌, ◌++◌, length, Option, refl, ap, subst, inl, inr, sym, ◌∙◌, arith}
use Rattle.std.proofs.Common.{length-append}
use Rattle.block_disk.specs.View.{Image}
use Rattle.chart_world.specs.Reading.{Reading, unread}
use Rattle.chart_frames.specs.declared.frame.Frame.{Frame}
use Rattle.stored_book.specs.Standing.{StandsForBook}
use Rattle.chart_service.specs.Making.{Makes, AreMade, AreMadeFrom, RepliesSent, LinesNext, LinesMoments}
use Rattle.chart_service.specs.Moments.{IsAhead, SendsReply}
use Rattle.chart_service.specs.Serving.{told, most_ahead, RepliesToAll, Answers}
use Rattle.chart_service.specs.State.{State}
use Rattle.chart_service.proofs.Made.{made_joined}
use Rattle.chart_service.proofs.Progress.{Progress, PassesLines, next_at, none_or_some}

-- no lines do nothing, and nothing is sent for them
no_frames : (front later : List Frame) → [] ≡ front ++ later → front ≡ []
no_frames [] later is = refl
no_frames (f ∷ fs) later is = absurd (cc (is))

none_made : {S F : Type 0} (makes : Makes S F) (v w : S) (lines : List (Option (List ℕ))) (frames : List Frame) (text : List ℕ)
    → frames ≡ [] → AreMade makes v w lines frames text → text ≡ []
none_made makes v w lines [] text none made = made.0
none_made makes v w lines (f ∷ fs) text none made = cc (none)

none_sent : {S F : Type 0} (makes : Makes S F) (w : S) (state : State) (lines : List (Option (List ℕ))) (from count : ℕ)
    → RepliesSent makes w state lines [] from count → count ≡ from
none_sent makes w state lines from count (inl same) = same
none_sent makes w state lines from count (inr some) =
    let first = some.0 in
    let nothing = none_made makes w some.2 first.front first.shown some.1 (no_frames first.shown first.later first.frames_are) some.3 in
    omega (arith, some.4, some.5, ap length nothing)

none_next : {S F : Type 0} (makes : Makes S F) (w : S) (state after : State) (total from : ℕ) (image : Image) (count : ℕ)
    (front : List (Option (List ℕ))) (frames : List Frame) → front ≡ [] → RepliesToAll state front frames after
    → StandsForBook image total after.book → RepliesSent makes w state front frames from count
    → StandsForBook image total state.book × (count ≡ from)
none_next makes w state after total from image count [] [] none replied stands sent =
    let B : State → Type 0 = λ s. StandsForBook image total s.book in
    (subst B replied stands, none_sent makes w state [] from count sent)
none_next makes w state after total from image count [] (f ∷ fs) none replied stands sent = absurd replied
none_next makes w state after total from image count (l ∷ ls) frames none replied stands sent = cc (none)

-- ---- how far the lines are answered

module _ {S F : Type 0} (makes : Makes S F) (v w : S) (input : List ℕ) (bytes : Option (List ℕ)) (given total from : ℕ) (old state : State)
    (before now : Option (List ℕ)) (p : Progress (AreMade makes v w) input bytes given old state before now)
    (total_is : state.total ≡ total) where
  any_answers : Answers (AreMadeFrom makes v) p.front p.text old state
  any_answers = record { frames = p.answers.frames; replied = p.answers.replied; texts = (w, p.answers.texts) }

  -- the pages stand for the book that the lines so far have left
  pub at_rest : (image : Image) (count : ℕ) → StandsForBook image total state.book → count ≡ from + length p.text
      → IsAhead (AreMadeFrom makes v) input total old from image count
  at_rest image count stands sent = record {
    front = p.front;
    rest = p.rest;
    begins = p.begins;
    between = state;
    text = p.text;
    answers = any_answers;
    total_is = total_is;
    state = inl (stands, sent);
  }

module _ {S F : Type 0} (makes : Makes S F) (v w : S) (input : List ℕ) (r r' : Reading) (left left' : Option (List ℕ)) (total from : ℕ)
    (old state : State) (before now : Option (List ℕ)) (p : Progress (AreMade makes v w) input (unread r left) r.given old state before now)
    (total_is : state.total ≡ total)
    (all : List (Option (List ℕ))) (given : PassesLines r r' left left' all) (few : length all ≤ most_ahead) where
  reply_so : (ahead : List (Option (List ℕ))) (answers : List Frame) (count : ℕ)
      → RepliesSent makes w state ahead answers (from + length p.text) count
      → (count ≡ from + length p.text) ⊎ SendsReply (AreMadeFrom makes v)
      (told p.front) p.answers.frames p.text state ahead answers from count
  reply_so ahead answers count (inl none) = inl none
  reply_so ahead answers count (inr some) = inr (record {
    first = some.0;
    reply = some.1;
    texts = (
      some.2,
      made_joined makes v w some.2 (told p.front) some.0.front
          (told p.front ++ some.0.front) p.answers.frames some.0.shown p.text some.1 some.3 p.answers.texts,
    );
    low = some.4;
    high = some.5;
  })

  -- and for the book after some of the next lines
  at_next : (image : Image) (count : ℕ) (next : LinesNext makes w all state (from + length p.text) image count) → 1 ≤ length next.front
      → IsAhead (AreMadeFrom makes v) input total old from image count
  at_next image count next some =
      let q = given input p.front p.rest p.told_rest p.counted p.begins in
      let ahead = next_at (length p.front) p.rest q.piece q.later next.front next.rest next.frames state next.after q.here (q.told_piece
      ∙ next.lines_are) (omega (arith, q.early, q.counted, length-append p.front q.piece))
      (omega (arith, few, ap length next.lines_are, length-append next.front next.rest)) some next.replied in
      let P : ℕ → Type 0 = λ n. StandsForBook image n next.after.book in
      let R : List (Option (List ℕ)) → Type 0 = λ l. (count ≡ from + length p.text)
      ⊎ SendsReply (AreMadeFrom makes v) (told p.front) p.answers.frames p.text state l next.frames from count in
      let Q : List Frame → Type 0 = λ f. (count ≡ from + length p.text)
      ⊎ SendsReply (AreMadeFrom makes v) (told p.front) p.answers.frames p.text state (told ahead.0.front) f from count in
      record {
        front = p.front;
        rest = p.rest;
        begins = p.begins;
        between = state;
        text = p.text;
        answers = record { frames = p.answers.frames; replied = p.answers.replied; texts = (w, p.answers.texts) };
        total_is = total_is;
        state = inr (record {
          after = next.after;
          next = ahead.0;
          stands = subst P total_is next.stands;
          sent = subst Q (sym ahead.2) (subst R (sym ahead.1) (reply_so next.front next.frames count next.sent));
        });
      }

  pub at_line : (image : Image) (count at : ℕ) → at ≡ from + length p.text → LinesMoments makes w all state at image count
      → IsAhead (AreMadeFrom makes v) input total old from image count
  at_line image count at same (inl before_it) =
      let P : ℕ → Type 0 = λ n. StandsForBook image n state.book in
      at_rest makes v w input (unread r left) r.given total from old state before now p total_is image count (subst P total_is before_it.0)
      (before_it.1 ∙ same)
  at_line image count at same (inr next) =
      let P : ℕ → Type 0 = λ n. LinesNext makes w all state n image count in
      let here = subst P same next in
      elim (none_or_some here.front) [
        | inl none ↦
            let rests = none_next makes w state here.after state.total
            (from + length p.text) image count here.front here.frames none here.replied here.stands here.sent in
            let N : ℕ → Type 0 = λ n. StandsForBook image n state.book in
            at_rest makes v w input (unread r left) r.given total from old state before now p total_is image count
            (subst N total_is rests.0) rests.1
        | inr some ↦ at_next image count here some
      ]
