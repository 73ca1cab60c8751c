-- Runs of texts are exact.
use Rattle.std.proofs.Common.{◌≡◌, ℕ, ◌+◌, ◌-◌, ◌≤◌, inl, inr, List, [], ◌++◌, length, map, take, drop, Option, refl, ap}
use Rattle.std.proofs.Common.{sym, subst, ◌∙◌, arith, append_assoc, append-nil, length-append}
use Rattle.std.proofs.lemmas.List.{length-map, map-append, take-append-drop, take-append-le}
use Rattle.request_lines.specs.declared.requests.Request.{Request}
use Rattle.block_disk.specs.View.{Image}
use Rattle.series_book.specs.declared.one_series.Series.{Series}
use Rattle.stored_book.specs.Standing.{StandsForBook}
use Rattle.view_keys.specs.Laws.{NeededKeysAreFew}
use Rattle.line_raster.specs.Canvas.{Canvas}
use Rattle.chart_frames.specs.declared.frame.Frame.{Frame}
use Rattle.chart_service.specs.State.{State}
use Rattle.chart_service.specs.Serving.{told, RepliesToAll}
use Rattle.chart_service.specs.Moments.{IsAhead, DoesNext, SendsReply}
use Rattle.chart_service.specs.Stepping.{state_of}
use Rattle.chart_service.specs.Telling.{replies_joined}
use Rattle.drawn_replies.specs.Pictures.{ArePictured}
use Rattle.served_fronts.specs.Books.{Line, AreSaid, said_by, after_requests, after_lines}
use Rattle.served_fronts.specs.Answers.{Answer, whole_in}
use Rattle.served_fronts.specs.Texts.{texts_of, AreTexts, AreTexted}
use Rattle.served_fronts.specs.Headline.{Run, Says, LeavesAhead}
use Rattle.served_fronts.specs.Laws.{ChartsHaveOnePicture}
use Rattle.served_fronts.specs.Servings.{SendsFirstBytes, TextsAreExact}
use Rattle.served_fronts.proofs.Agreeing.{OneReply}
use Rattle.served_fronts.proofs.Books.{books_follow}
use Rattle.served_fronts.proofs.Reading.{Spelling, are_said}
use Rattle.served_fronts.proofs.Exact.{taken_few, taken_some, taken_again}
use Rattle.served_fronts.proofs.Keeping.{told_join}
use Rattle.served_fronts.proofs.Saying.{OneReading}
use Rattle.served_fronts.proofs.Texting.{all_in, answers_many, texts_agree, texted, texted_bytes, texted_fit, texted_are, whole_front}

module _ (spelling_law : Spelling) (one : OneReply) (pictures : ChartsHaveOnePicture) (either : OneReading) (bound : NeededKeysAreFew) where
  abbrev texts : (lines : List Line) (frames : List Frame) (drawings : List (Option Canvas)) (old new : State)
      → RepliesToAll old lines frames new → List Answer
  texts lines frames drawings old new replied = texted one pictures either bound lines frames drawings old new replied

  -- Some first lines are answered, and so many bytes of their texts were sent; lines behind them may be done, whose texts weren't
  -- begun. The image stands for the book after all these.
  record Ahead (total : ℕ) (book : List Series) (input : List ℕ) (image : Image) (n : ℕ) (next : List Series) : Type 0 where
    lines : List Line
    ahead : List Line
    behind : List Line
    later : List Line
    split : told input ≡ lines ++ later
    begins : later ≡ ahead ++ behind
    frames : List Frame
    new : State
    replied : RepliesToAll (state_of book total []) lines frames new
    drawings : List (Option Canvas)
    state : State
    pictured : ArePictured (state_of book total []) lines frames drawings state
    within : n ≤ length (texts_of frames drawings)
    few : length (lines ++ ahead) ≤ length (whole_in n (texts lines frames drawings (state_of book total []) new replied)) + 64
    next_is : next ≡ after_lines total book (lines ++ ahead)
    stands : StandsForBook image total next

  module _ (total : ℕ) (book : List Series) (input : List ℕ) (image : Image) (from count : ℕ)
      (a : IsAhead (AreTexts (state_of book total [])) input total (state_of book total []) from image count) where
    abbrev start : State
    start = state_of book total []

    abbrev first : List Line
    first = told a.front

    -- where all that was answered was sent, all these answers stand whole
    all_whole : (n : ℕ) → length a.text ≤ n
        → length first ≤ length (whole_in n (texts first a.answers.frames a.answers.texts.drawings start a.between a.answers.replied))
    all_whole n low =
        let t = a.answers.texts in
        let answers = texts first a.answers.frames t.drawings start a.between a.answers.replied in
        let bytes = texted_bytes one pictures either bound first a.answers.frames t.drawings start a.between a.answers.replied in
        let fit = texted_fit one pictures either bound first a.answers.frames t.drawings start a.between t.state a.answers.replied
        t.pictured in
        omega (
          arith,
          answers_many total book [] (map said_by first) answers fit,
          length-map first said_by,
          all_in n answers (omega (arith, low, ap length bytes, ap length t.texts)),
        )

    -- nothing is ahead
    none_ahead : StandsForBook image total a.between.book → count ≡ from + length a.text
        → Ahead total book input image (count - from) a.between.book
    none_ahead stands is =
        let t = a.answers.texts in
        let follow = books_follow first a.answers.frames start a.between a.answers.replied in
        record {
          lines = first;
          ahead = [];
          behind = told a.rest;
          later = told a.rest;
          split = told_join input a.front a.rest a.begins;
          begins = refl;
          frames = a.answers.frames;
          new = a.between;
          replied = a.answers.replied;
          drawings = t.drawings;
          state = t.state;
          pictured = t.pictured;
          within = omega (arith, is, ap length t.texts);
          few = omega (arith, all_whole (count - from) (omega (arith, is)), ap length (append-nil first));
          next_is = follow.0 ∙ ap (after_lines total book) (sym (append-nil first));
          stands = stands;
        }

    module _ (d : DoesNext (AreTexts (state_of book total [])) (length a.front)
        (told a.front) a.answers.frames a.text a.rest total a.between
        from image count) where
      abbrev more : List Line
      more = told d.next.front

      follow : d.after.book ≡ after_lines total book (first ++ more)
      follow =
          let all = replies_joined start a.between d.after first more a.answers.frames d.next.frames a.answers.replied d.next.replied in
          (books_follow (first ++ more) (a.answers.frames ++ d.next.frames) start d.after all).0

      -- lines are, of whose texts nothing was sent
      all_ahead : count ≡ from + length a.text → Ahead total book input image (count - from) d.after.book
      all_ahead is =
          let t = a.answers.texts in
          record {
            lines = first;
            ahead = more;
            behind = told d.next.rest;
            later = told a.rest;
            split = told_join input a.front a.rest a.begins;
            begins = told_join a.rest d.next.front d.next.rest d.next.begins;
            frames = a.answers.frames;
            new = a.between;
            replied = a.answers.replied;
            drawings = t.drawings;
            state = t.state;
            pictured = t.pictured;
            within = omega (arith, is, ap length t.texts);
            few = omega (arith, all_whole (count - from) (omega (arith, is)), length-append first more, d.next.few);
            next_is = follow;
            stands = d.stands;
          }

      -- and those of some first of them were begun
      some_ahead : SendsReply (AreTexts (state_of book total [])) (told a.front) a.answers.frames a.text a.between (told d.next.front)
          d.next.frames from count → Ahead total book input image (count - from) d.after.book
      some_ahead r =
          let t = a.answers.texts in
          let part = r.first.front in
          let rest = r.first.rest in
          let last = told d.next.rest in
          let replied = replies_joined start a.between r.first.state first part a.answers.frames r.first.shown a.answers.replied
          r.first.replied in
          let behind : told a.rest ≡ part ++ (rest ++ last) =
          told_join a.rest d.next.front d.next.rest d.next.begins ∙ ap (λ l. l ++ last) r.first.lines_are ∙ append_assoc part rest last in
          let whole = whole_front one pictures either bound first part a.answers.frames r.first.shown r.texts.drawings t.drawings start
          r.first.state r.texts.state t.state (count - from) replied r.texts.pictured t.pictured
          (omega (arith, r.low, ap length t.texts)) in
          record {
            lines = first ++ part;
            ahead = rest;
            behind = last;
            later = rest ++ last;
            split = told_join input a.front a.rest a.begins ∙ ap (λ l. first ++ l) behind ∙ sym (append_assoc first part (rest ++ last));
            begins = refl;
            frames = a.answers.frames ++ r.first.shown;
            new = r.first.state;
            replied = replied;
            drawings = r.texts.drawings;
            state = r.texts.state;
            pictured = r.texts.pictured;
            within = omega (arith, r.high, ap length r.texts.texts, length-append a.text r.reply);
            few = omega (
              arith,
              whole,
              length-append (first ++ part) rest,
              length-append first part,
              ap length r.first.lines_are,
              length-append part rest,
              d.next.few,
            );
            next_is = follow ∙ ap (after_lines total book)
                (ap (λ l. first ++ l) r.first.lines_are ∙ sym (append_assoc first part rest));
            stands = d.stands;
          }

    ahead_by : (next : List Series) × Ahead total book input image (count - from) next
    ahead_by = (elim a.state as (λ _. (next : List Series) × Ahead total book input image (count - from) next) [
      | inl is ↦ (a.between.book, none_ahead is.0 is.1)
      | inr d ↦ (
        d.after.book,
        (elim d.sent as (λ _. Ahead total book input image (count - from) d.after.book) [
          | inl is ↦ all_ahead d is
          | inr reply ↦ some_ahead d reply
        ]),
      )
    ])

  -- ---- one run

  said : (total : ℕ) (book : List Series) (run : Run)
      → SendsFirstBytes (AreTexts (state_of book total [])) (state_of book total []) run.input run.status run.sent
      → Says AreTexted total book run
  said total book run s =
      let t = s.texts in
      let old = state_of book total [] in
      record {
        requests = map said_by s.lines;
        answers = texts s.lines s.frames t.drawings old s.new s.replied;
        first = record {
          lines = s.lines;
          said = are_said spelling_law s.lines;
          later = s.later;
          split = s.split;
          fit = texted_fit one pictures either bound s.lines s.frames t.drawings old s.new t.state s.replied t.pictured;
        };
        are = texted_are one pictures either bound s.lines s.frames t.drawings old s.new t.state s.replied t.pictured;
        unsent = s.unsent;
        bytes = texted_bytes one pictures either bound s.lines s.frames t.drawings old s.new s.replied ∙ sym t.texts ∙ s.bytes;
        all = s.all;
      }

  kept : (total : ℕ) (book : List Series) (run : Run) (pages : Image) (n : ℕ) (next : List Series) → run.by_then ≡ n
      → SendsFirstBytes (AreTexts (state_of book total [])) (state_of book total []) run.input run.status run.sent
      → Ahead total book run.input pages n next → LeavesAhead total book run next
  kept total book run pages n next by_then s d =
      let old = state_of book total [] in
      let t = s.texts in
      let all = texts_of d.frames d.drawings in
      let m = length (take n run.sent) in
      let rest = drop m all in
      let size = ap length s.bytes ∙ length-append run.sent s.unsent in
      let most = taken_some n run.sent in
      let same = texts_agree one pictures s.lines d.lines s.later d.later s.frames d.frames t.drawings d.drawings old t.state d.state m
      t.pictured d.pictured (sym s.split ∙ d.split) (omega (arith, size, most, ap length t.texts))
      (omega (arith, taken_few n run.sent, d.within)) in
      let begins : take m all ≡ take n run.sent =
      sym same ∙ ap (λ l. take m l) (sym t.texts ∙ s.bytes) ∙ take-append-le m run.sent s.unsent most ∙ taken_again n run.sent in
      let answers = texts d.lines d.frames d.drawings old d.new d.replied in
      let both = map-append said_by d.lines d.ahead in
      let S : List (Option Request) → Type 0 = λ l. AreSaid (d.lines ++ d.ahead) l in
      let F : ℕ → Type 0 = λ k. length (d.lines ++ d.ahead) ≤ length (whole_in k answers) + 64 in
      record {
        requests = map said_by d.lines;
        ahead = map said_by d.ahead;
        texts = answers;
        lines = d.lines ++ d.ahead;
        later = d.behind;
        split = d.split ∙ ap (λ l. d.lines ++ l) d.begins ∙ sym (append_assoc d.lines d.ahead d.behind);
        said = subst S both (are_said spelling_law (d.lines ++ d.ahead));
        fit = texted_fit one pictures either bound d.lines d.frames d.drawings old d.new d.state d.replied d.pictured;
        are = texted_are one pictures either bound d.lines d.frames d.drawings old d.new d.state d.replied d.pictured;
        unsent = rest;
        bytes = texted_bytes one pictures either bound d.lines d.frames d.drawings old d.new d.replied ∙ sym (take-append-drop m all)
            ∙ ap (λ l. l ++ rest) begins ∙ ap (λ k. take k run.sent ++ rest) (sym by_then);
        few = subst F (sym by_then) d.few;
        next_is = d.next_is ∙ ap (after_requests total book) both;
      }

  pub texts_exact : TextsAreExact
  texts_exact total book run pages from count s ahead by_then =
      let d = ahead_by total book run.input pages from count ahead in
      (d.0, (said total book run s, kept total book run pages (count - from) d.0 by_then s d.1), d.1.stands)
