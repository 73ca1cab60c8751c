-- Runs are exact.
use Rattle.std.proofs.Common.{◌≡◌, ℕ, zero, suc, ◌+◌, ◌-◌, ◌≤◌, List, [], ◌∷◌, ◌++◌, length, map, take, drop, refl, ap}
use Rattle.std.proofs.Common.{sym, subst, ◌∙◌, arith, length-append}
use Rattle.std.specs.Prelude.{flat_map}
use Rattle.std.proofs.lemmas.List.{take-append-drop, take-append-le}
use Rattle.block_disk.specs.View.{Image}
use Rattle.series_book.specs.declared.one_series.Series.{Series}
use Rattle.stored_book.specs.Standing.{StandsForBook, RecoversTo}
use Rattle.chart_frames.specs.Frames.{spelling}
use Rattle.chart_service.specs.State.{State, IsSound}
use Rattle.chart_service.specs.Stepping.{state_of}
use Rattle.served_fronts.specs.Books.{said_by, after_lines}
use Rattle.chart_service.specs.Serving.{AreSpelled}
use Rattle.served_fronts.specs.Answers.{whole_in, AreFrames}
use Rattle.served_fronts.specs.Laws.{FirstBytesAgree, LinesAreAnswered}
use Rattle.served_fronts.specs.Headline.{Run, Says, LeavesBook, ChartsAreExact}
use Rattle.served_fronts.specs.Servings.{SendsFirstBytes, ServingsAreExact}
use Rattle.served_fronts.proofs.Books.{books_follow}
use Rattle.served_fronts.proofs.Reading.{Spelling, are_said}
use Rattle.served_fronts.proofs.Keeping.{Done, done_by, all_bytes, all_whole, as_many, whole_many}

-- ---- fronts of bytes

pub taken_few : (n : ℕ) (xs : List ℕ) → length (take n xs) ≤ n
taken_few zero xs = omega arith
taken_few (suc n) [] = omega arith
taken_few (suc n) (x ∷ xs) = omega (arith, taken_few n xs)

pub taken_some : (n : ℕ) (xs : List ℕ) → length (take n xs) ≤ length xs
taken_some zero xs = omega arith
taken_some (suc n) [] = omega arith
taken_some (suc n) (x ∷ xs) = omega (arith, taken_some n xs)

pub taken_again : (n : ℕ) (xs : List ℕ) → take (length (take n xs)) xs ≡ take n xs
taken_again zero xs = refl
taken_again (suc n) [] = refl
taken_again (suc n) (x ∷ xs) = ap (λ l. x ∷ l) (taken_again n xs)

-- ---- one run

module _ (spelling_law : Spelling) (agree : FirstBytesAgree) (answered : LinesAreAnswered) where
  -- what the run said
  said : (total : ℕ) (book : List Series) (run : Run) → IsSound (state_of book total [])
      → SendsFirstBytes AreSpelled (state_of book total []) run.input run.status run.sent → Says AreFrames total book run
  said total book run sound s =
      let has = answered s.lines s.frames (state_of book total []) s.new sound refl s.replied in
      record {
        requests = map said_by s.lines;
        answers = has.answers;
        first = record { lines = s.lines; later = s.later; split = s.split; said = are_said spelling_law s.lines; fit = has.fit };
        are = has.are;
        unsent = s.unsent;
        bytes = all_bytes has.answers s.frames has.spelled ∙ sym s.texts ∙ s.bytes;
        all = s.all;
      }

  -- what was sent by then begins what answers the lines that are done
  begun_by : (old : State) (input : List ℕ) (status : ℕ) (sent : List ℕ) (pages : Image) (total n : ℕ)
      → (s : SendsFirstBytes AreSpelled old input status sent) → (d : Done pages total old input n)
      → flat_map spelling (d.acknowledged ++ d.ahead) ≡ take n sent
      ++ drop (length (take n sent)) (flat_map spelling (d.acknowledged ++ d.ahead))
  begun_by old input status sent pages total n s d =
      let bytes = flat_map spelling (d.acknowledged ++ d.ahead) in
      let m = length (take n sent) in
      let whole : flat_map spelling s.frames ≡ sent ++ s.unsent = sym s.texts ∙ s.bytes in
      let size = ap length whole ∙ length-append sent s.unsent in
      let most = taken_some n sent in
      let few = taken_few n sent in
      let same = agree s.lines d.first s.later d.later s.frames (d.acknowledged ++ d.ahead) old s.new d.new m s.replied d.replied
      (sym s.split ∙ d.lines) (omega (arith, size, most)) (omega (arith, few, d.within)) in
      let begins : take m bytes ≡ take n sent =
      sym same ∙ ap (λ l. take m l) whole ∙ take-append-le m sent s.unsent most ∙ taken_again n sent in
      sym (take-append-drop m bytes) ∙ ap (λ l. l ++ drop m bytes) begins

  -- the book that the crash left
  kept : (total : ℕ) (book : List Series) (run : Run) (pages : Image) (n : ℕ) → IsSound (state_of book total []) → run.by_then ≡ n
      → SendsFirstBytes AreSpelled (state_of book total []) run.input run.status run.sent
      → (d : Done pages total (state_of book total []) run.input n)
      → LeavesBook total book run (after_lines total book d.first)
  kept total book run pages n sound by_then s d =
      let old = state_of book total [] in
      let frames = d.acknowledged ++ d.ahead in
      let has = answered d.first frames old d.new sound refl d.replied in
      let rest = drop (length (take n run.sent)) (flat_map spelling frames) in
      let few : length has.answers ≤ length (whole_in n has.answers) + 64 =
      omega (
        arith,
        all_whole n d.acknowledged d.ahead d.sent,
        d.few,
        as_many has.answers frames has.spelled,
        whole_many n has.answers frames has.spelled,
        length-append d.acknowledged d.ahead,
      ) in
      let F : ℕ → Type 0 = λ k. length has.answers ≤ length (whole_in k has.answers) + 64 in
      record {
        requests = map said_by d.first;
        answers = has.answers;
        first = record { lines = d.first; later = d.later; split = d.lines; said = are_said spelling_law d.first; fit = has.fit };
        are = has.are;
        unsent = rest;
        bytes = all_bytes has.answers frames has.spelled ∙ begun_by old run.input run.status run.sent pages total n s d
            ∙ ap (λ k. take k run.sent ++ rest) (sym by_then);
        few = subst F (sym by_then) few;
        next_is = refl;
      }

  pub servings_exact : ServingsAreExact
  servings_exact total book run pages from count sound s ahead by_then =
      let old = state_of book total [] in
      let d = done_by pages total old run.input from count ahead in
      let B : List Series → Type 0 = λ b. StandsForBook pages total b in (
        after_lines total book d.first,
        (said total book run sound s, kept total book run pages (count - from) sound by_then s d),
        subst B (books_follow d.first (d.acknowledged ++ d.ahead) old d.new d.replied).0 d.stands,
      )

-- ---- many runs

pub exact : ChartsAreExact
exact count total book image [] recovers are = tt
exact count total book image (run ∷ later) recovers are =
    let R : Image → Type 0 = λ i. RecoversTo count i total book in
    let step = are.1 total book (subst R (sym are.0) recovers) in
    (step.0, step.1, exact count total step.0 run.left later step.2 are.2)
