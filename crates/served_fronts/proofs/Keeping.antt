-- What a crash leaves, in the words of lines and answers.
use Rattle.std.proofs.Common.{◌≡◌, ℕ, suc, ◌+◌, ◌-◌, ◌≤◌, inl, inr, true, false, List, [], ◌∷◌, ◌++◌, length, map, refl, ap}
use Rattle.std.proofs.Common.{sym, subst, ◌∙◌, arith}
use Rattle.std.proofs.Common.{append_assoc, append-nil, length-append}
use Rattle.std.specs.Prelude.{flat_map, nat_le, if◌then◌else◌, filter}
use Rattle.std.proofs.lemmas.Grind.{flat_map-append}
use Rattle.block_disk.specs.View.{Image}
use Rattle.series_book.specs.declared.one_series.Series.{Series}
use Rattle.chart_world.specs.Fronts.{says, BeginsWith}
use Rattle.chart_world.specs.LineLaws.{lines_none, told_behind}
use Rattle.stored_book.specs.Standing.{StandsForBook}
use Rattle.chart_frames.specs.declared.frame.Frame.{Frame}
use Rattle.chart_frames.specs.Frames.{spelling}
use Rattle.chart_service.specs.State.{State, IsSound}
use Rattle.chart_service.specs.Serving.{told, RepliesToAll, AreSpelled}
use Rattle.chart_service.specs.Moments.{IsAhead, DoesNext}
use Rattle.chart_service.specs.Telling.{replies_joined}
use Rattle.served_fronts.specs.Books.{Line, said_by, after_lines}
use Rattle.served_fronts.specs.Fronts.{whole_frames}
use Rattle.served_fronts.specs.Answers.{Answer, AreAnswers, bytes_of, whole_in}
use Rattle.served_fronts.specs.Crashes.{KeepsLines}
use Rattle.served_fronts.specs.Laws.{LinesAreAnswered, CrashesKeepTheLines}
use Rattle.served_fronts.proofs.Agreeing.{OneReply, first_frames}
use Rattle.served_fronts.proofs.Books.{books_follow}
use Rattle.served_fronts.proofs.Fronts.{high_of}

pub told_join : (input front rest : List ℕ) → BeginsWith input front rest → told input ≡ told front ++ told rest
told_join input front rest begins = (elim begins.whole as (λ _. told input ≡ told front ++ told rest) [
  | inl whole ↦ ap told begins.split ∙ told_behind front rest whole
  | inr none ↦
      let empty : told rest ≡ [] = ap told none ∙ ap (filter says) lines_none in
      ap told (begins.split ∙ ap (λ l. front ++ l) none ∙ append-nil front) ∙ sym (append-nil (told front))
      ∙ ap (λ l. told front ++ l) (sym empty)
])

-- ---- how many answers stand whole

counted : (lines : List Line) (frames : List Frame) (old new : State) → RepliesToAll old lines frames new → length frames ≡ length lines
counted [] [] old new replied = refl
counted [] (f ∷ fs) old new replied = absurd replied
counted (l ∷ ls) [] old new replied = absurd replied
counted (l ∷ ls) (f ∷ fs) old new replied = ap suc (counted ls fs replied.0 new replied.2)

abbrev pub texts : List Answer → List (List ℕ)
texts answers = map (λ answer. answer.bytes) answers

first_text : (x y : List ℕ) (xs ys : List (List ℕ)) → x ∷ xs ≡ y ∷ ys → x ≡ y
first_text x y xs ys is = cc

later_texts : (x y : List ℕ) (xs ys : List (List ℕ)) → x ∷ xs ≡ y ∷ ys → xs ≡ ys
later_texts x y xs ys is = cc

some_text : (x : List ℕ) (xs : List (List ℕ)) → x ∷ xs ≡ [] → ⊥
some_text x xs is = cc

pub all_bytes : (answers : List Answer) (frames : List Frame) → texts answers ≡ map spelling frames
    → bytes_of answers ≡ flat_map spelling frames
all_bytes [] [] same = refl
all_bytes [] (f ∷ fs) same = absurd (some_text (spelling f) (map spelling fs) (sym same))
all_bytes (a ∷ as') [] same = absurd (some_text a.bytes (texts as') same)
all_bytes (a ∷ as') (f ∷ fs) same =
    ap (λ x. x ++ bytes_of as') (first_text a.bytes (spelling f) (texts as') (map spelling fs) same)
    ∙ ap (λ l. spelling f ++ l) (all_bytes as' fs (later_texts a.bytes (spelling f) (texts as') (map spelling fs) same))

pub as_many : (answers : List Answer) (frames : List Frame) → texts answers ≡ map spelling frames → length answers ≡ length frames
as_many [] [] same = refl
as_many [] (f ∷ fs) same = absurd (some_text (spelling f) (map spelling fs) (sym same))
as_many (a ∷ as') [] same = absurd (some_text a.bytes (texts as') same)
as_many (a ∷ as') (f ∷ fs) same = ap suc (as_many as' fs (later_texts a.bytes (spelling f) (texts as') (map spelling fs) same))

-- the answers that stand whole are as many as the frames
pub whole_many : (n : ℕ) (answers : List Answer) (frames : List Frame) → texts answers ≡ map spelling frames
    → length (whole_in n answers) ≡ length (whole_frames n frames)
whole_many n [] [] same = refl
whole_many n [] (f ∷ fs) same = absurd (some_text (spelling f) (map spelling fs) (sym same))
whole_many n (a ∷ as') [] same = absurd (some_text a.bytes (texts as') same)
whole_many n (a ∷ as') (f ∷ fs) same =
    let first = first_text a.bytes (spelling f) (texts as') (map spelling fs) same in
    let k = n - length (spelling f) in
    let later = whole_many k as' fs (later_texts a.bytes (spelling f) (texts as') (map spelling fs) same) in
    let P : List ℕ → Type 0 = λ x. length (if nat_le (length x) n then a ∷ whole_in (n - length x) as' else [])
    ≡ length (if nat_le (length (spelling f)) n then f ∷ whole_frames k fs else []) in
    subst P (sym first) ((elim (nat_le (length (spelling f)) n) as (λ b. length (if b then a ∷ whole_in k as' else [])
    ≡ length (if b then f ∷ whole_frames k fs else [])) [
      | true ↦ ap suc later
      | false ↦ refl
    ]))

-- frames of which all bytes are there stand whole
pub all_whole : (n : ℕ) (frames more : List Frame) → length (flat_map spelling frames) ≤ n
    → length frames ≤ length (whole_frames n (frames ++ more))
all_whole n [] more low = omega arith
all_whole n (f ∷ fs) more low =
    let size = length-append (spelling f) (flat_map spelling fs) in
    let k = n - length (spelling f) in
    let later = all_whole k fs more (omega (arith, low, size)) in
    (elim (nat_le (length (spelling f)) n) as (λ b. nat_le (length (spelling f)) n ≡ b
    → suc (length fs) ≤ length (if b then f ∷ whole_frames k (fs ++ more) else [])) [
      | true ↦ λ test. omega (arith, later)
      | false ↦ λ test. absurd (omega (arith, high_of (length (spelling f)) n test, low, size))
    ]) refl

-- ---- the lines that are done

-- some first lines of the input are done, and so many bytes of what answers them were sent: all of the first frames
pub record Done (image : Image) (total : ℕ) (old : State) (input : List ℕ) (n : ℕ) : Type 0 where
  pub first : List Line
  pub later : List Line
  pub lines : told input ≡ first ++ later
  pub acknowledged : List Frame
  pub ahead : List Frame
  pub new : State
  pub replied : RepliesToAll old first (acknowledged ++ ahead) new
  pub sent : length (flat_map spelling acknowledged) ≤ n
  pub within : n ≤ length (flat_map spelling (acknowledged ++ ahead))
  pub few : length ahead ≤ 64
  pub stands : StandsForBook image total new.book

keeps : OneReply → LinesAreAnswered → (image : Image) (total : ℕ) (old : State) (input : List ℕ) (n : ℕ) → IsSound old → old.sessions ≡ []
    → old.total ≡ total
    → Done image total old input n → KeepsLines image total old input n
keeps one answered image total old input n sound alone same d =
    let frames = d.acknowledged ++ d.ahead in
    let has = answered d.first frames old d.new sound alone d.replied in
    let A : ℕ → Type 0 = λ t. AreAnswers t old.book [] (map said_by d.first) has.answers in
    let book = (books_follow d.first frames old d.new d.replied).0 in
    let B : List Series → Type 0 = λ b. StandsForBook image total b in
    let most = all_whole n d.acknowledged d.ahead d.sent in
    let bytes = all_bytes has.answers frames has.spelled in
    record {
      first = d.first;
      later = d.later;
      lines = d.lines;
      answers = has.answers;
      fit = subst A same has.fit;
      within = omega (arith, d.within, ap length bytes);
      begins = λ all after replied.
          let R : List Line → Type 0 = λ l. RepliesToAll old l all after in
          let rest = first_frames one d.first d.later all frames old after d.new (subst R d.lines replied) d.replied in (
            flat_map spelling rest.0,
            ap (λ fs. flat_map spelling fs) rest.1 ∙ flat_map-append spelling frames rest.0
                ∙ ap (λ l. l ++ flat_map spelling rest.0) (sym bytes),
          );
      few = omega (
        arith,
        most,
        d.few,
        as_many has.answers frames has.spelled,
        whole_many n has.answers frames has.spelled,
        length-append d.acknowledged d.ahead,
      );
      stands = subst B (book ∙ ap (λ t. after_lines t old.book d.first) same) d.stands;
      are = has.are;
    }

-- the first lines are done, and all their bytes were sent
done_all : (image : Image) (total : ℕ) (old : State) (input : List ℕ) (from count : ℕ)
    → (a : IsAhead AreSpelled input total old from image count)
    → StandsForBook image total a.between.book → count ≡ from + length a.text → Done image total old input (count - from)
done_all image total old input from count a stands is =
    let text = ap length a.answers.texts in
    let none = append-nil a.answers.frames in
    let R : List Frame → Type 0 = λ fs. RepliesToAll old (told a.front) fs a.between in
    record {
      first = told a.front;
      later = told a.rest;
      lines = told_join input a.front a.rest a.begins;
      acknowledged = a.answers.frames;
      ahead = [];
      new = a.between;
      replied = subst R (sym none) a.answers.replied;
      sent = omega (arith, text, is);
      within = omega (arith, text, is, ap (λ fs. length (flat_map spelling fs)) none);
      few = omega arith;
      stands = stands;
    }

done_ahead : (image : Image) (total : ℕ) (old : State) (input : List ℕ) (from count : ℕ)
    → (a : IsAhead AreSpelled input total old from image count)
    → (d : DoesNext AreSpelled (length a.front) (told a.front) a.answers.frames a.text a.rest total a.between from image count)
    → Done image total old input (count - from)
done_ahead image total old input from count a d =
    let next = d.next in
    let text = ap length a.answers.texts in
    let all = ap length (flat_map-append spelling a.answers.frames next.frames) in
    let joined = length-append (flat_map spelling a.answers.frames) (flat_map spelling next.frames) in
    let many = counted (told next.front) next.frames a.between d.after next.replied in
    let low : length (flat_map spelling a.answers.frames) ≤ count - from =
    (elim d.sent as (λ _. length (flat_map spelling a.answers.frames) ≤ count - from) [
      | inl is ↦ omega (arith, text, is)
      | inr reply ↦ omega (arith, text, reply.low)
    ]) in
    let high : count - from ≤ length (flat_map spelling (a.answers.frames ++ next.frames)) =
    (elim d.sent as (λ _. count - from ≤ length (flat_map spelling (a.answers.frames ++ next.frames))) [
      | inl is ↦ omega (arith, text, is, all, joined)
      | inr reply ↦
          let shown = reply.first.shown in
          let told_all = ap length reply.texts in
          let split = ap length (flat_map-append spelling a.answers.frames shown) in
          let first = length-append (flat_map spelling a.answers.frames) (flat_map spelling shown) in
          let both = length-append a.text reply.reply in
          let part = ap (λ fs. length (flat_map spelling fs)) reply.first.frames_are in
          let rest = ap length (flat_map-append spelling shown reply.first.later) in
          let more = length-append (flat_map spelling shown) (flat_map spelling reply.first.later) in
          omega (arith, text, reply.high, all, joined, told_all, split, first, both, part, rest, more)
    ]) in
    record {
      first = told a.front ++ told next.front;
      later = told next.rest;
      lines = told_join input a.front a.rest a.begins ∙ ap (λ l. told a.front ++ l) (told_join a.rest next.front next.rest next.begins)
          ∙ sym (append_assoc (told a.front) (told next.front) (told next.rest));
      acknowledged = a.answers.frames;
      ahead = next.frames;
      new = d.after;
      replied = replies_joined old a.between d.after (told a.front)
          (told next.front) a.answers.frames next.frames a.answers.replied next.replied;
      sent = low;
      within = high;
      few = omega (arith, many, next.few);
      stands = d.stands;
    }

-- what a crash left, by how far it is ahead
pub done_by : (image : Image) (total : ℕ) (old : State) (input : List ℕ) (from count : ℕ)
    → IsAhead AreSpelled input total old from image count → Done image total old input (count - from)
done_by image total old input from count a = (elim a.state as (λ _. Done image total old input (count - from)) [
  | inl is ↦ done_all image total old input from count a is.0 is.1
  | inr next ↦ done_ahead image total old input from count a next
])

pub crashes_keep : OneReply → LinesAreAnswered → CrashesKeepTheLines
crashes_keep one answered image total old input from count sound alone same a =
    (elim a.state as (λ _. (from ≤ count) × KeepsLines image total old input (count - from)) [
      | inl is ↦ (
        omega (arith, is.1),
        keeps one answered image total old input (count - from) sound alone same (done_all image total old input from count a is.0 is.1),
      )
      | inr next ↦ (
        (elim next.sent as (λ _. from ≤ count) [ inl is ↦ omega (arith, is) | inr reply ↦ omega (arith, reply.low) ]),
        keeps one answered image total old input (count - from) sound alone same (done_ahead image total old input from count a next),
      )
    ])
