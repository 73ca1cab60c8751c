-- What `run` sends, in the words of replies.
use Rattle.std.specs.Prelude.{slice_get, is_some, codes, nat_le, if◌then◌else◌}
use Rattle.std.specs.Fmt.{decimal}
use Rattle.std.proofs.Common.{◌≡◌, ℕ, suc, ◌-◌, ◌≤◌, true, false, List, [], ◌∷◌, ◌++◌, length, map, take, Option, None, Some, refl, ap, sym}
use Rattle.std.proofs.Common.{subst, ◌∙◌, arith, length-append}
use Rattle.std.proofs.lemmas.List.Elements.{All-nil, All-cons}
use Rattle.series_book.specs.declared.one_series.Series.{Series}
use Rattle.request_lines.specs.declared.requests.Request.{Request}
use Rattle.value_filter.specs.declared.steps.Step.{Step}
use Rattle.view_keys.specs.Laws.{NeededKeysAreFew}
use Rattle.view_keys.proofs.Grids.{grid_same}
use Rattle.zoom_session.specs.declared.view_spec.ViewSpec.{ViewSpec}
use Rattle.zoom_session.specs.Sessions.{session_of, last_of}
use Rattle.chart_grid.specs.declared.grid.Grid.{Grid}
use Rattle.plain_chart.specs.Samples.{kept}
use Rattle.plain_chart.specs.Chart.{IsChart}
use Rattle.line_raster.specs.Canvas.{Canvas}
use Rattle.pbm_writer.specs.Picture.{picture}
use Rattle.chart_frames.specs.declared.frame.Frame.{Frame}
use Rattle.chart_frames.specs.declared.frame.Frame.TheVariants as frame
use Rattle.chart_frames.specs.declared.frame.ViewFrame.{ViewFrame}
use Rattle.chart_frames.specs.declared.frame.RowsFrame.{RowsFrame}
use Rattle.chart_frames.specs.Frames.{spelling}
use Rattle.chart_service.specs.State.{State}
use Rattle.chart_service.specs.Serving.{RepliesToAll}
use Rattle.chart_service.specs.Replies.{RepliesToLine}
use Rattle.chart_service.specs.Viewing.{axis_of, kept_by, ShowsView}
use Rattle.drawn_replies.specs.Mirrors.{IsPictureOf, ShowsAnswered}
use Rattle.drawn_replies.specs.Pictures.{ArePictured}
use Rattle.draw_command.specs.Covers.{picture_bytes}
use Rattle.served_fronts.specs.Books.{Line, said_by, after_request, after_line}
use Rattle.served_fronts.specs.Answers.{OpenSession, Reply, after_reply, Answer, AreAnswers, bytes_of, whole_in}
use Rattle.served_fronts.specs.Answers.Reply.{applied, opened, closed, shown, refused}
use Rattle.served_fronts.specs.Laws.{ChartsHaveOnePicture}
use Rattle.served_fronts.specs.Texts.{view_line, line_of, text_of, texts_of, IsLineOf, IsText, AreTexted}
use Rattle.served_fronts.proofs.Agreeing.{OneReply, take_zero, joined}
use Rattle.served_fronts.proofs.Books.{by_line}
use Rattle.served_fronts.proofs.Fronts.{high_of}
use Rattle.served_fronts.proofs.Saying.{OneReading, Shows, Tells, open_in, line_said, picture_of}

-- ---- the line of a reply

shown_line : (n size : ℕ) (o : Option (List Step)) (f : Frame) → Shows n (is_some o) f
    → line_of f size ≡ codes "view " ++ (decimal n ++ (codes " sent " ++ (decimal size ++ codes "\n")))
unfolding line_of
shown_line n size None f is = ap (λ g. line_of g size) is.1 ∙ ap (λ k. view_line k size) is.2
shown_line n size (Some steps) f is = ap (λ g. line_of g size) is.1 ∙ ap (λ k. view_line k size) is.2

told_line : (reply : Reply) (f : Frame) (size : ℕ) → Tells reply f → IsLineOf reply (line_of f size)
unfolding line_of
told_line applied f size is = (is.0, ap (λ g. line_of g size) is.1)
told_line (opened n cache) f size is = ap (λ g. line_of g size) is
told_line (closed n) f size is = ap (λ g. line_of g size) is
told_line (shown n view samples) f size is = (size, shown_line n size view.filter f is)
told_line refused f size is = (is.0, is.1, is.2, ap (λ g. line_of g size) is.3)

some_one : {A : Type 0} (a b : A) (o : Option A) → o ≡ Some a → o ≡ Some b → a ≡ b
some_one a b o is other = cc

-- the bytes of the answers stand whole where all are there
pub all_in : (n : ℕ) (answers : List Answer) → length (bytes_of answers) ≤ n → length answers ≤ length (whole_in n answers)
all_in n [] low = omega arith
all_in n (a ∷ l) low =
    let size = length-append a.bytes (bytes_of l) in
    let k = n - length a.bytes in
    let later = all_in k l (omega (arith, low, size)) in
    (elim (nat_le (length a.bytes) n) as
    (λ b. nat_le (length a.bytes) n ≡ b → suc (length l) ≤ length (if b then a ∷ whole_in k l else [])) [
      | true ↦ λ test. omega (arith, later)
      | false ↦ λ test. absurd (omega (arith, high_of (length a.bytes) n test, low, size))
    ]) refl

pub answers_many : (total : ℕ) (book : List Series) (sessions : List OpenSession) (requests : List (Option Request)) (answers : List Answer)
    → AreAnswers total book sessions requests answers → length answers ≡ length requests
answers_many total book sessions [] [] fit = refl
answers_many total book sessions [] (a ∷ l) fit = absurd fit
answers_many total book sessions (x ∷ xs) [] fit = absurd fit
answers_many total book sessions (x ∷ xs) (a ∷ l) fit = ap suc
    (answers_many total (after_request total book x) (after_reply sessions a.reply) xs l fit.1)

module _ (one : OneReply) (pictures : ChartsHaveOnePicture) where
  -- ---- a frame has one picture

  views_one : (series other : Series) (view : ViewFrame) (c d : Canvas) → series ≡ other → ShowsView series view c
      → ShowsView other view d → picture c ≡ picture d
  views_one series other view c d same p q =
      let grids = grid_same q.grid p.grid (q.from ∙ sym p.from) (q.to ∙ sym p.to) (q.columns ∙ sym p.columns) (q.rows ∙ sym p.rows) in
      let G : Grid → Type 0 = λ g. IsChart g (record { lo = view.lo; hi = view.hi }) (kept g (axis_of other) other.slots) d in
      let S : Series → Type 0 = λ s. IsChart p.grid (record { lo = view.lo; hi = view.hi }) (kept p.grid (axis_of s) s.slots) d in
      pictures p.grid (record { lo = view.lo; hi = view.hi }) (kept p.grid (axis_of series) series.slots) c d p.chart
      (subst S (sym same) (subst G grids q.chart))

  rows_one : (rows : RowsFrame) (old new : State) (c d : Canvas) → ShowsAnswered old new rows c → ShowsAnswered old new rows d
      → picture c ≡ picture d
  rows_one rows old new c d p q =
      let specs = some_one p.spec q.spec (last_of (session_of rows.session new.sessions)) p.answered q.answered in
      let V : ViewSpec → Type 0 = λ v. slice_get old.book v.series ≡ Some q.series in
      let there : slice_get old.book p.spec.series ≡ Some q.series = subst V (sym specs) q.stored in
      let same = some_one p.series q.series (slice_get old.book p.spec.series) p.stored there in
      let C : ViewSpec → Type 0 = λ v. IsChart v.grid (record { lo = rows.lo; hi = rows.hi }) (kept_by v q.series) d in
      let S : Series → Type 0 = λ s. IsChart p.spec.grid (record { lo = rows.lo; hi = rows.hi }) (kept_by p.spec s) d in
      pictures p.spec.grid (record { lo = rows.lo; hi = rows.hi }) (kept_by p.spec p.series) c d p.shows.chart
      (subst S (sym same) (subst C (sym specs) q.shows.chart))

  same_drawing : (f : Frame) (old new : State) (d e : Option Canvas) → IsPictureOf old new f d → IsPictureOf old new f e
      → picture_bytes d ≡ picture_bytes e
  same_drawing (frame.Done slots) old new d e p q = ap picture_bytes (p ∙ sym q)
  same_drawing (frame.Refused number a b) old new d e p q = ap picture_bytes (p ∙ sym q)
  same_drawing (frame.Opened number size) old new d e p q = ap picture_bytes (p ∙ sym q)
  same_drawing (frame.Closed number) old new d e p q = ap picture_bytes (p ∙ sym q)
  same_drawing (frame.Live number on) old new d e p q = ap picture_bytes (p ∙ sym q)
  same_drawing (frame.Report report) old new d e p q = ap picture_bytes (p ∙ sym q)
  same_drawing (frame.View view) old new None e p q = absurd p
  same_drawing (frame.View view) old new (Some c) None p q = absurd q
  same_drawing (frame.View view) old new (Some c) (Some d) p q =
      views_one p.0 q.0 view c d (some_one p.0 q.0 (slice_get old.book view.series) p.1 q.1) p.2 q.2
  same_drawing (frame.Rows rows) old new None e p q = absurd p
  same_drawing (frame.Rows rows) old new (Some c) None p q = absurd q
  same_drawing (frame.Rows rows) old new (Some c) (Some d) p q = rows_one rows old new c d p q

  -- ---- lines have one text

  pub texts_agree : (lines others behind more : List Line) (fs gs : List Frame) (ds es : List (Option Canvas)) (old s t : State) (n : ℕ)
      → ArePictured old lines fs ds s → ArePictured old others gs es t → lines ++ behind ≡ others ++ more
      → n ≤ length (texts_of fs ds) → n ≤ length (texts_of gs es) → take n (texts_of fs ds) ≡ take n (texts_of gs es)
  texts_agree [] others behind more fs gs ds es old s t n p q same few low =
      let none : texts_of fs ds ≡ [] = ap (λ l. texts_of l ds) p.0 in
      take_zero n (texts_of fs ds) (texts_of gs es) (omega (arith, few, ap length none))
  texts_agree (l ∷ ls) others behind more [] gs ds es old s t n p q same few low = absurd p
  texts_agree (l ∷ ls) others behind more (f ∷ fs) gs [] es old s t n p q same few low = absurd p
  texts_agree (l ∷ ls) [] behind more (f ∷ fs) gs (d ∷ ds) es old s t n p q same few low =
      let none : texts_of gs es ≡ [] = ap (λ l. texts_of l es) q.0 in
      take_zero n (texts_of (f ∷ fs) (d ∷ ds)) (texts_of gs es) (omega (arith, low, ap length none))
  texts_agree (l ∷ ls) (m ∷ ms) behind more (f ∷ fs) [] (d ∷ ds) es old s t n p q same few low = absurd q
  texts_agree (l ∷ ls) (m ∷ ms) behind more (f ∷ fs) (g ∷ gs) (d ∷ ds) [] old s t n p q same few low = absurd q
  texts_agree (l ∷ ls) (m ∷ ms) behind more (f ∷ fs) (g ∷ gs) (d ∷ ds) (e ∷ es) old s t n p q same few low =
      let first : l ≡ m = cc in
      let rest : ls ++ behind ≡ ms ++ more = cc in
      let L : Line → Type 0 = λ line. RepliesToLine line g old q.0 in
      let is = one l f g old p.0 q.0 p.1 (subst L (sym first) q.1) in
      let P : Frame → Type 0 = λ h. IsPictureOf old q.0 h e in
      let Q : State → Type 0 = λ x. IsPictureOf old x f e in
      let drawn = same_drawing f old p.0 d e p.2 (subst Q (sym is.1) (subst P (sym is.0) q.2)) in
      let x = text_of f d (length (spelling f)) in
      let y = text_of g e (length (spelling g)) in
      let text : x ≡ y = ap (λ b. line_of f (length (spelling f)) ++ b) drawn ∙ ap (λ h. text_of h e (length (spelling h))) is.0 in
      let S : State → Type 0 = λ z. ArePictured z ms gs es t in
      joined x (texts_of fs ds) (texts_of gs es) n
      (λ low'. texts_agree ls ms behind more fs gs ds es p.0 s t (n - length x) p.3 (subst S (sym is.1) q.3) rest
      (omega (arith, few, low', length-append x (texts_of fs ds)))
      (omega (arith, low, low', ap length text, length-append y (texts_of gs es))))
      ∙ ap (λ b. take n (b ++ texts_of gs es)) text

  -- ---- the answers

  module _ (either : OneReading) (bound : NeededKeysAreFew) where
    abbrev pub texted : (lines : List Line) (frames : List Frame) (drawings : List (Option Canvas)) (old new : State)
        → RepliesToAll old lines frames new → List Answer
    texted [] [] drawings old new replied = []
    texted [] (f ∷ fs) drawings old new replied = []
    texted (l ∷ ls) [] drawings old new replied = []
    texted (l ∷ ls) (f ∷ fs) [] old new replied = []
    texted (l ∷ ls) (f ∷ fs) (d ∷ ds) old new replied =
        record {
          bytes = text_of f d (length (spelling f));
          reply = (line_said either bound l old replied.0 f replied.1.0).reply;
        } ∷ texted ls fs ds replied.0 new replied.2

    pub texted_bytes : (lines : List Line) (frames : List Frame) (drawings : List (Option Canvas)) (old new : State)
        → (replied : RepliesToAll old lines frames new)
        → bytes_of (texted lines frames drawings old new replied) ≡ texts_of frames drawings
    texted_bytes [] [] drawings old new replied = refl
    texted_bytes [] (f ∷ fs) drawings old new replied = absurd replied
    texted_bytes (l ∷ ls) [] drawings old new replied = absurd replied
    texted_bytes (l ∷ ls) (f ∷ fs) [] old new replied = refl
    texted_bytes (l ∷ ls) (f ∷ fs) (d ∷ ds) old new replied =
        ap (λ bytes. text_of f d (length (spelling f)) ++ bytes) (texted_bytes ls fs ds replied.0 new replied.2)

    -- the pictures of the later ones, from the state behind the first reply
    behind_it : (l : Line) (ls : List Line) (f : Frame) (fs : List Frame) (ds : List (Option Canvas)) (old between other s : State)
        → RepliesToLine l f old between → RepliesToLine l f old other → ArePictured other ls fs ds s → ArePictured between ls fs ds s
    behind_it l ls f fs ds old between other s is also pictured =
        let A : State → Type 0 = λ y. ArePictured y ls fs ds s in
        subst A (one l f f old other between also is).1 pictured

    pub texted_fit : (lines : List Line) (frames : List Frame) (drawings : List (Option Canvas)) (old new s : State)
        → (replied : RepliesToAll old lines frames new) → ArePictured old lines frames drawings s
        → AreAnswers old.total old.book (open_in old) (map said_by lines) (texted lines frames drawings old new replied)
    texted_fit [] [] drawings old new s replied p = tt
    texted_fit [] (f ∷ fs) drawings old new s replied p = absurd replied
    texted_fit (l ∷ ls) [] drawings old new s replied p = absurd replied
    texted_fit (l ∷ ls) (f ∷ fs) [] old new s replied p = absurd p
    texted_fit (l ∷ ls) (f ∷ fs) (d ∷ ds) old new s replied p =
        let said = line_said either bound l old replied.0 f replied.1.0 in
        let later = texted ls fs ds replied.0 new replied.2 in
        let book = by_line old replied.0 f l replied.1.0 in
        let T : ℕ → Type 0 = λ total. AreAnswers total replied.0.book (open_in replied.0) (map said_by ls) later in
        let B : List Series → Type 0 = λ b. AreAnswers old.total b (open_in replied.0) (map said_by ls) later in
        let O : List OpenSession → Type 0 = λ o. AreAnswers old.total (after_line old.total old.book l) o (map said_by ls) later in
        let next = texted_fit ls fs ds replied.0 new s replied.2 (behind_it l ls f fs ds old replied.0 p.0 s replied.1.0 p.1 p.3) in
        (said.fits, subst O said.open_is (subst B book.0 (subst T book.1 next)))

    pub texted_are : (lines : List Line) (frames : List Frame) (drawings : List (Option Canvas)) (old new s : State)
        → (replied : RepliesToAll old lines frames new) → ArePictured old lines frames drawings s
        → AreTexted (texted lines frames drawings old new replied)
    texted_are [] [] drawings old new s replied p = All-nil (λ answer. IsText answer.reply answer.bytes)
    texted_are [] (f ∷ fs) drawings old new s replied p = absurd replied
    texted_are (l ∷ ls) [] drawings old new s replied p = absurd replied
    texted_are (l ∷ ls) (f ∷ fs) [] old new s replied p = absurd p
    texted_are (l ∷ ls) (f ∷ fs) (d ∷ ds) old new s replied p =
        let said = line_said either bound l old replied.0 f replied.1.0 in
        let k = length (spelling f) in
        let Q : State → Type 0 = λ y. IsPictureOf old y f d in
        let here = subst Q (one l f f old p.0 replied.0 p.1 replied.1.0).1 p.2 in
        let answer : Answer = record { bytes = text_of f d k; reply = said.reply } in
        let is : IsText said.reply (text_of f d k) = record {
          line = line_of f k;
          picture = picture_bytes d;
          says = told_line said.reply f k said.tells;
          shows = picture_of said.reply d (said.shows d here);
          are = refl;
        } in
        All-cons (λ a. IsText a.reply a.bytes) answer (texted ls fs ds replied.0 new replied.2) is
        (texted_are ls fs ds replied.0 new s replied.2 (behind_it l ls f fs ds old replied.0 p.0 s replied.1.0 p.1 p.3))

    -- the answers to some first lines stand whole where all bytes of their texts are there
    pub whole_front : (lines more : List Line) (fs gs : List Frame) (ds es : List (Option Canvas)) (old new s t : State) (n : ℕ)
        → (replied : RepliesToAll old (lines ++ more) (fs ++ gs) new) → ArePictured old (lines ++ more) (fs ++ gs) ds s
        → ArePictured old lines fs es t → length (texts_of fs es) ≤ n
        → length lines ≤ length (whole_in n (texted (lines ++ more) (fs ++ gs) ds old new replied))
    whole_front [] more fs gs ds es old new s t n replied p q low = omega arith
    whole_front (l ∷ ls) more [] gs ds es old new s t n replied p q low = absurd q
    whole_front (l ∷ ls) more (f ∷ fs) gs ds [] old new s t n replied p q low = absurd q
    whole_front (l ∷ ls) more (f ∷ fs) gs [] (e ∷ es) old new s t n replied p q low = absurd p
    whole_front (l ∷ ls) more (f ∷ fs) gs (d ∷ ds) (e ∷ es) old new s t n replied p q low =
        let Q : State → Type 0 = λ y. IsPictureOf old y f e in
        let drawn = same_drawing f old p.0 d e p.2 (subst Q (one l f f old q.0 p.0 q.1 p.1).1 q.2) in
        let k = length (spelling f) in
        let x = text_of f d k in
        let y = text_of f e k in
        let text : x ≡ y = ap (λ b. line_of f k ++ b) drawn in
        let size = length-append y (texts_of fs es) in
        let rest = texted (ls ++ more) (fs ++ gs) ds replied.0 new replied.2 in
        let answer : Answer = record { bytes = x; reply = (line_said either bound l old replied.0 f replied.1.0).reply } in
        let later = whole_front ls more fs gs ds es replied.0 new s t (n - length x) replied.2
        (behind_it l (ls ++ more) f (fs ++ gs) ds old replied.0 p.0 s replied.1.0 p.1 p.3)
        (behind_it l ls f fs es old replied.0 q.0 t replied.1.0 q.1 q.3) (omega (arith, low, size, ap length text)) in
        (elim (nat_le (length x) n) as
        (λ b. nat_le (length x) n ≡ b → suc (length ls) ≤ length (if b then answer ∷ whole_in (n - length x) rest else [])) [
          | true ↦ λ test. omega (arith, later)
          | false ↦ λ test. absurd (omega (arith, high_of (length x) n test, low, size, ap length text))
        ]) refl
