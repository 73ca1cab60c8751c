-- What is drawn of a front of one session's answers.
use Rattle.std.proofs.Common.{◌≡◌, ℕ, ◌-◌, ◌≤◌, ◌^◌, inl, inr, Bool, true, false, List, [], ◌∷◌, ◌++◌, length, take, map, Option, refl}
use Rattle.std.proofs.Common.{ap, sym, subst, ◌∙◌}
use Rattle.std.specs.Prelude.{flat_map, nat_le, if◌then◌else◌, filter}
use Rattle.view_keys.specs.Laws.{NeededKeysAreFew}
use Rattle.line_raster.specs.Canvas.{Canvas}
use Rattle.chart_frames.specs.declared.frame.Frame.{Frame}
use Rattle.chart_frames.specs.Frames.{spelling}
use Rattle.std.proofs.lemmas.Bool.{eq-eqb}
use Rattle.std.specs.Prelude.{◌==◌, ◌||◌}
use Rattle.zoom_session.specs.declared.session.Session.{Session}
use Rattle.zoom_session.specs.Sessions.{is_open}
use Rattle.chart_service.specs.State.{State, IsSound}
use Rattle.chart_service.specs.Serving.{RepliesToAll}
use Rattle.chart_service.specs.Replies.{RepliesToLine}
use Rattle.chart_service.specs.Alone.{only}
use Rattle.drawn_replies.specs.Pictures.{AreOwnPictured, IsOwnPicture, names}
use Rattle.draw_command.specs.Covers.{picture_bytes}
use Rattle.served_fronts.specs.Books.{Line, said_by}
use Rattle.served_fronts.specs.Fronts.{whole_frames, Draws}
use Rattle.served_fronts.specs.Answers.{OpenSession, Answer, AreAnswers, bytes_of, whole_in, ArePictures, says_in, said_in, SendsPictures}
use Rattle.served_fronts.specs.Answers.{FrontsAreDrawn, FrontsAreCovered}
use Rattle.served_fronts.specs.Laws.{DrawnFrontsAreTheBook, DrawnOwnFrontsAreTheBook, LinesAreAnswered}
use Rattle.served_fronts.specs.Answers.Reply.{opened}
use Rattle.served_fronts.proofs.Agreeing.{OneReply}
use Rattle.served_fronts.proofs.Fronts.{Told}
use Rattle.served_fronts.proofs.Saying.{OneReading, seen, line_said, picture_of}
use Rattle.served_fronts.proofs.Showing.{answers_of, spelled, each, frames_are, fit, drawn as drawn_all}

some_frame : {A : Type 0} (x : A) (xs : List A) → x ∷ xs ≡ [] → ⊥
some_frame x xs is = cc

first_of : {A : Type 0} (x y : A) (xs ys : List A) → x ∷ xs ≡ y ∷ ys → x ≡ y
first_of x y xs ys is = cc

rest_of : {A : Type 0} (x y : A) (xs ys : List A) → x ∷ xs ≡ y ∷ ys → xs ≡ ys
rest_of x y xs ys is = cc

none_only : (n : ℕ) (ss : List Session) → is_open n ss ≡ false → only n ss ≡ []
none_only n [] none = refl
none_only n (s ∷ ss) none =
    (elim (s.number == n) as (λ b. (b || is_open n ss) ≡ false → (if b then s ∷ only n ss else only n ss) ≡ []) [
      | true ↦ λ h. cc
      | false ↦ λ h. none_only n ss h
    ]) none

module _ (either : OneReading) (bound : NeededKeysAreFew) (told : Told) (one : OneReply) where
  abbrev pub all_of : (lines : List Line) (frames : List Frame) (old new : State) → RepliesToAll old lines frames new → List Answer
  all_of lines frames old new replied = answers_of either bound told one lines frames old new replied

  abbrev own : ℕ → List Frame → List Frame
  own m frames = filter (names m) frames

  -- where no frame of the session stands whole, no answer does
  none_whole : (m n : ℕ) (lines : List Line) (frames : List Frame) (old new : State) → (replied : RepliesToAll old lines frames new)
      → whole_frames n (own m frames) ≡ [] → whole_in n (said_in m (all_of lines frames old new replied)) ≡ []
  none_whole m n [] [] old new replied none = refl
  none_whole m n [] (f ∷ fs) old new replied none = absurd replied
  none_whole m n (l ∷ ls) [] old new replied none = absurd replied
  none_whole m n (l ∷ ls) (f ∷ fs) old new replied none =
      let said = line_said either bound l old replied.0 f replied.1.0 in
      let answer : Answer = record { bytes = spelling f; reply = said.reply } in
      let mine = said_in m (all_of ls fs replied.0 new replied.2) in
      let k = n - length (spelling f) in
      let N : Bool → Type 0 = λ b. whole_frames n (if b then f ∷ own m fs else own m fs) ≡ [] in
      (elim (says_in m said.reply) as (λ b. whole_frames n (if b then f ∷ own m fs else own m fs) ≡ []
      → whole_in n (if b then answer ∷ mine else mine) ≡ []) [
        | true ↦ λ h. (elim (nat_le (length (spelling f)) n) as (λ c. (if c then f ∷ whole_frames k (own m fs) else []) ≡ []
            → (if c then answer ∷ whole_in k mine else []) ≡ []) [
              | true ↦ λ e. absurd (some_frame f (whole_frames k (own m fs)) e)
              | false ↦ λ e. refl
            ]) h
        | false ↦ λ h. none_whole m n ls fs replied.0 new replied.2 h
      ]) (subst N (said.named m) none)

  -- The drawings of the session's frames among those that answer some first lines are pictures of its answers, where these frames are
  -- those that stand whole.
  drawn : (m n : ℕ) (lines : List Line) (frames : List Frame) (old new : State) → (replied : RepliesToAll old lines frames new)
      → (front behind : List Line) (shown : List Frame) (drawings : List (Option Canvas)) (state : State) → lines ≡ front ++ behind
      → own m shown ≡ whole_frames n (own m frames) → AreOwnPictured m old front shown drawings state
      → ArePictures (whole_in n (said_in m (all_of lines frames old new replied))) (flat_map picture_bytes drawings)
  drawn m n lines frames old new replied [] behind shown drawings state split is pictured =
      let none = ap (own m) pictured.0 in
      let P : List Answer → Type 0 = λ answers. ArePictures answers (flat_map picture_bytes drawings) in
      subst P (sym (none_whole m n lines frames old new replied (sym is ∙ none))) (ap (λ ds. flat_map picture_bytes ds) pictured.1)
  drawn m n [] frames old new replied (x ∷ xs) behind shown drawings state split is pictured = absurd
      (some_frame x (xs ++ behind) (sym split))
  drawn m n (l ∷ ls) [] old new replied (x ∷ xs) behind shown drawings state split is pictured = absurd replied
  drawn m n (l ∷ ls) (f ∷ fs) old new replied (x ∷ xs) behind [] drawings state split is pictured = absurd pictured
  drawn m n (l ∷ ls) (f ∷ fs) old new replied (x ∷ xs) behind (g ∷ gs) drawings state split is pictured =
      let first = first_of l x ls (xs ++ behind) split in
      let L : Line → Type 0 = λ line. RepliesToLine line g old pictured.0 in
      let same = one l f g old replied.0 pictured.0 replied.1.0 (subst L (sym first) pictured.1) in
      let said = line_said either bound l old replied.0 f replied.1.0 in
      let answer : Answer = record { bytes = spelling f; reply = said.reply } in
      let mine = said_in m (all_of ls fs replied.0 new replied.2) in
      let k = n - length (spelling f) in
      let S : State → Type 0 = λ s. AreOwnPictured m s xs gs pictured.3 state in
      let later = subst S (sym same.1) pictured.6 in
      let I : Frame → Type 0 = λ h. IsOwnPicture (names m h) old pictured.0 h pictured.2 in
      let J : State → Type 0 = λ s. IsOwnPicture (names m f) old s f pictured.2 in
      let K : Bool → Type 0 = λ b. IsOwnPicture b old replied.0 f pictured.2 in
      let here = subst K (said.named m) (subst J (sym same.1) (subst I (sym same.0) pictured.5)) in
      let O : Frame → Type 0 = λ h. (if names m h then h ∷ own m gs else own m gs) ≡ whole_frames n
      (if names m f then f ∷ own m fs else own m fs) in
      let F : Bool → Type 0 = λ b. (if b then f ∷ own m gs else own m gs) ≡ whole_frames n (if b then f ∷ own m fs else own m fs) in
      let whole = subst F (said.named m) (subst O (sym same.0) is) in
      let D : List (Option Canvas)
      → Type 0 = λ ds. ArePictures (whole_in n (if says_in m said.reply then answer ∷ mine else mine)) (flat_map picture_bytes ds) in
      subst D (sym pictured.4) ((elim (says_in m said.reply) as (λ b. IsOwnPicture b old replied.0 f pictured.2
      → (if b then f ∷ own m gs else own m gs) ≡ whole_frames n (if b then f ∷ own m fs else own m fs)
      → ArePictures (whole_in n (if b then answer ∷ mine else mine)) (flat_map picture_bytes (pictured.2 ++ pictured.3))) [
        | true ↦ λ p w. let E : List (Option Canvas)
            → Type 0 = λ ds. ArePictures (whole_in n (answer ∷ mine)) (flat_map picture_bytes (ds ++ pictured.3)) in
            subst E (sym p.1) ((elim (nat_le (length (spelling f)) n) as
            (λ c. f ∷ own m gs ≡ (if c then f ∷ whole_frames k (own m fs) else [])
            → ArePictures (if c then answer ∷ whole_in k mine else []) (flat_map picture_bytes (p.0 ∷ pictured.3))) [
              | true ↦ λ e. (
                picture_bytes p.0,
                flat_map picture_bytes pictured.3,
                picture_of said.reply p.0 (said.shows p.0 p.2),
                drawn m k ls fs replied.0 new replied.2 xs behind gs pictured.3 state (rest_of l x ls (xs ++ behind) split)
                    (rest_of f f (own m gs) (whole_frames k (own m fs)) e) later,
                refl,
              )
              | false ↦ λ e. absurd (some_frame f (own m gs) e)
            ]) w)
        | false ↦ λ p w. let E : List (Option Canvas)
            → Type 0 = λ ds. ArePictures (whole_in n mine) (flat_map picture_bytes (ds ++ pictured.3)) in
            subst E (sym p) (drawn m n ls fs replied.0 new replied.2 xs behind gs pictured.3 state
            (rest_of l x ls (xs ++ behind) split) w later)
      ]) here whole)

  pub own_spelled : (m : ℕ) (lines : List Line) (frames : List Frame) (old new : State) → (replied : RepliesToAll old lines frames new)
      → bytes_of (said_in m (all_of lines frames old new replied)) ≡ flat_map spelling (own m frames)
  own_spelled m [] [] old new replied = refl
  own_spelled m [] (f ∷ fs) old new replied = absurd replied
  own_spelled m (l ∷ ls) [] old new replied = absurd replied
  own_spelled m (l ∷ ls) (f ∷ fs) old new replied =
      let said = line_said either bound l old replied.0 f replied.1.0 in
      let answer : Answer = record { bytes = spelling f; reply = said.reply } in
      let mine = said_in m (all_of ls fs replied.0 new replied.2) in
      let later = own_spelled m ls fs replied.0 new replied.2 in
      let B : Bool → Type 0 = λ b. bytes_of (if says_in m said.reply then answer ∷ mine else mine) ≡ flat_map spelling
      (if b then f ∷ own m fs else own m fs) in
      subst B (sym (said.named m)) ((elim (says_in m said.reply) as (λ b. bytes_of (if b then answer ∷ mine else mine)
      ≡ flat_map spelling (if b then f ∷ own m fs else own m fs)) [
        | true ↦ ap (λ bytes. spelling f ++ bytes) later
        | false ↦ later
      ]))

  -- the lines from an opening on
  pub record From (new : State) (opening : Answer) (behind : List Answer) : Type 0 where
    pub lines : List Line
    pub frames : List Frame
    pub old : State
    pub sound : IsSound old
    pub replied : RepliesToAll old lines frames new
    pub same : all_of lines frames old new replied ≡ opening ∷ behind

  pub from : (lines : List Line) (frames : List Frame) (old new : State) → (replied : RepliesToAll old lines frames new) → IsSound old
      → (before : List Answer) (opening : Answer) (behind : List Answer) → all_of lines frames old new replied ≡ before ++ opening ∷ behind
      → From new opening behind
  from lines frames old new replied sound [] opening behind is =
      record { lines = lines; frames = frames; old = old; sound = sound; replied = replied; same = is }
  from [] [] old new replied sound (b ∷ bs) opening behind is = absurd (some_frame b (bs ++ opening ∷ behind) (sym is))
  from [] (f ∷ fs) old new replied sound (b ∷ bs) opening behind is = absurd replied
  from (l ∷ ls) [] old new replied sound (b ∷ bs) opening behind is = absurd replied
  from (l ∷ ls) (f ∷ fs) old new replied sound (b ∷ bs) opening behind is =
      from ls fs replied.0 new replied.2 replied.1.2 bs opening behind
      (rest_of _ b (all_of ls fs replied.0 new replied.2) (bs ++ opening ∷ behind) is)

  pub closed_at : (m cache : ℕ) (lines : List Line) (frames : List Frame) (old new : State) → (replied : RepliesToAll old lines frames new)
      → (opening : Answer) (behind : List Answer) → all_of lines frames old new replied ≡ opening ∷ behind → opening.reply ≡ opened m cache
      → only m old.sessions ≡ []
  closed_at m cache [] [] old new replied opening behind is reply = absurd (some_frame opening behind (sym is))
  closed_at m cache [] (f ∷ fs) old new replied opening behind is reply = absurd replied
  closed_at m cache (l ∷ ls) [] old new replied opening behind is reply = absurd replied
  closed_at m cache (l ∷ ls) (f ∷ fs) old new replied opening behind is reply =
      let said = line_said either bound l old replied.0 f replied.1.0 in
      let answer : Answer = record { bytes = spelling f; reply = said.reply } in
      let first = first_of answer opening (all_of ls fs replied.0 new replied.2) behind is in
      none_only m old.sessions (said.absent m cache (ap (λ a. a.reply) first ∙ reply))

  abbrev Sends : ℕ → Option (List ℕ) → Option (List ℕ) → List Answer → Type 0
  Sends n before now got = SendsPictures (whole_in n got) before now

  module _ (lines : List Line) (frames : List Frame) (old new : State) (replied : RepliesToAll old lines frames new)
      (sound : IsSound old) where
    -- from an opening on
    from_opening : DrawnOwnFrontsAreTheBook → (m cache : ℕ) (before_it : List Answer) (opening : Answer) (behind : List Answer)
        → opening.reply ≡ opened m cache → all_of lines frames old new replied ≡ before_it ++ opening ∷ behind
        → (n : ℕ) (left before now : Option (List ℕ)) → n ≤ 2 ^ 32 → Draws (take n (bytes_of (opening ∷ said_in m behind))) left before now
        → SendsPictures (whole_in n (opening ∷ said_in m behind)) before now
    from_opening draws m cache before_it opening behind reply split n left before now few drew =
        let f = from lines frames old new replied sound before_it opening behind split in
        let none = closed_at m cache f.lines f.frames f.old new f.replied opening behind f.same reply in
        let mine = said_in m (all_of f.lines f.frames f.old new f.replied) in
        let named : says_in m opening.reply ≡ true = ap (says_in m) reply ∙ eq-eqb m m refl in
        let got : mine ≡ opening ∷ said_in m behind =
        ap (said_in m) f.same ∙ ap (λ b. if b then opening ∷ said_in m behind else said_in m behind) named in
        let bytes : bytes_of (opening ∷ said_in m behind) ≡ flat_map spelling (own m f.frames) =
        ap bytes_of (sym got) ∙ own_spelled m f.lines f.frames f.old new f.replied in
        let D : List ℕ → Type 0 = λ l. Draws (take n l) left before now in
        let first = draws m f.lines f.frames f.old new n left before now f.sound none f.replied few (subst D bytes drew) in
        let are = drawn m n f.lines f.frames f.old new f.replied first.front first.behind first.frames first.drawings first.state
        first.split first.own_is first.pictured in
        subst (Sends n before now) got (record { pictures = flat_map picture_bytes first.drawings; are = are; sent = first.sent })

    -- all, or from an opening on
    reached : DrawnFrontsAreTheBook → DrawnOwnFrontsAreTheBook → old.sessions ≡ [] → FrontsAreDrawn (all_of lines frames old new replied)
    reached draws own_draws alone got n left before now (inl same) few drew =
        let bytes = ap bytes_of same ∙ spelled either bound told one lines frames old new replied in
        let D : List ℕ → Type 0 = λ l. Draws (take n l) left before now in
        let first = draws lines frames old new n left before now sound alone replied few (subst D bytes drew) in
        let are = drawn_all either bound told one n lines frames old new replied first.front first.behind first.drawings first.state
        first.split first.pictured in
        subst (Sends n before now) (sym same) (record { pictures = flat_map picture_bytes first.drawings; are = are; sent = first.sent })
    reached draws own_draws alone got n left before now (inr own_got) few drew =
        let m = own_got.0 in
        let got_is = own_got.7 in
        let D : List Answer → Type 0 = λ l. Draws (take n (bytes_of l)) left before now in
        subst (Sends n before now) (sym got_is)
        (from_opening own_draws m own_got.1 own_got.2 own_got.3 own_got.4 own_got.5 own_got.6 n left before now few
        (subst D got_is drew))

  abbrev pub AllCovered : Type 0
  AllCovered =
      (lines : List Line) (frames : List Frame) (old new : State) (replied : RepliesToAll old lines frames new)
      → IsSound old → old.sessions ≡ [] → FrontsAreCovered (all_of lines frames old new replied)

  pub answered : DrawnFrontsAreTheBook → DrawnOwnFrontsAreTheBook → AllCovered → LinesAreAnswered
  answered draws own_draws covered lines frames old new sound alone replied =
      let O : List OpenSession → Type 0 = λ o. AreAnswers old.total old.book o (map said_by lines) (all_of lines frames old new replied) in
      record {
        answers = all_of lines frames old new replied;
        fit = subst O (ap (λ ss. map seen ss) alone) (fit either bound told one lines frames old new replied);
        spelled = each either bound told one lines frames old new replied;
        are = record {
          each = frames_are either bound told one lines frames old new replied;
          drawn = reached lines frames old new replied sound draws own_draws alone;
          covered = covered lines frames old new replied sound alone;
        };
      }
