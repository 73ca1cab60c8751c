-- The frames that were drawn of a front are those that stand whole in it.
use Rattle.std.proofs.Common.{◌≡◌, ℕ, zero, suc, ◌+◌, ◌-◌, ◌<◌, ◌≤◌, inl, inr, true, false, List, [], ◌∷◌, ◌++◌, length, take}
use Rattle.std.proofs.Common.{drop, map, Option, None, refl, ap, sym, subst, ◌∙◌, arith, append_assoc, append-nil, length-append}
use Rattle.std.proofs.lemmas.Bool.Decides.{nat_tests}
use Rattle.std.specs.Prelude.{flat_map, All, nat_le, if◌then◌else◌}
use Rattle.std.proofs.lemmas.List.{length-take-le, take-append-drop, take-append-le}
use Rattle.std.proofs.lemmas.List.Elements.{All-nil, All-cons, All-head, All-tail, All-filter}
use Rattle.std.specs.List.{filter}
use Rattle.block_disk.specs.Streams.{sent_after}
use Rattle.chart_frames.specs.declared.frame.Frame.{Frame}
use Rattle.chart_frames.specs.Format.{number_in}
use Rattle.chart_frames.specs.Frames.{Fits, spelling}
use Rattle.chart_client.specs.declared.holding.Holding.{Holding}
use Rattle.chart_service.specs.State.{State}
use Rattle.chart_service.specs.Serving.{RepliesToAll}
use Rattle.line_raster.specs.Canvas.{Canvas}
use Rattle.drawn_replies.specs.Mirrors.{mirrored}
use Rattle.drawn_replies.specs.Laws.{RepliesDrawTheBook, OwnRepliesDrawTheBook}
use Rattle.drawn_replies.specs.Pictures.{AcceptsAll, names}
use Rattle.pbm_writer.specs.Picture.{picture}
use Rattle.draw_command.specs.Covers.{picture_bytes, SendsFrames}
use Rattle.draw_command.specs.Draws.{IsFront}
use Rattle.served_fronts.specs.Books.{Line}
use Rattle.served_fronts.specs.Fronts.{whole_frames}
use Rattle.served_fronts.specs.Laws.{FrontsDrawTheBook, OwnFrontsDrawTheBook}

abbrev pub OneFrame : Type 0
OneFrame = (f g : Frame) (x y : List ℕ) → Fits f → Fits g → spelling f ++ x ≡ spelling g ++ y → (f ≡ g) × (x ≡ y)

abbrev pub Told : Type 0
Told = (f : Frame) (x : List ℕ) → Fits f → length (spelling f) ≡ 4 + number_in 4 (spelling f ++ x)

-- no frame stands whole at its front
abbrev pub NoneWhole : List ℕ → Type 0
NoneWhole rest = (f : Frame) (y : List ℕ) → Fits f → rest ≡ spelling f ++ y → ⊥

pub some_bytes : Told → (f : Frame) (x : List ℕ) → Fits f → spelling f ++ x ≡ [] → ⊥
some_bytes told f x fits none = omega (arith, told f x fits, ap length none, length-append (spelling f) x)

pub few_bytes : (rest all : List ℕ) → rest ≡ all → length rest < 4 + number_in 4 rest → length rest < 4 + number_in 4 all
few_bytes rest all same few = let P : List ℕ → Type 0 = λ l. length rest < 4 + number_in 4 l in subst P same few

pub none_whole : Told → (rest : List ℕ) → IsFront rest → NoneWhole rest
none_whole told rest front f y fits same = (elim front.few as (λ _. ⊥) [
  | inl few ↦ omega (arith, few, told f y fits, ap length same, length-append (spelling f) y)
  | inr few ↦ omega (arith, few_bytes rest (spelling f ++ y) same few, told f y fits, ap length same, length-append (spelling f) y)
])

-- the first bytes of a frame, if they aren't all, aren't a frame with more behind it
pub cut_frame : OneFrame → (n : ℕ) (f g : Frame) (r s : List ℕ) → Fits f → Fits g → n < length (spelling f)
    → take n (spelling f ++ s) ≡ spelling g ++ r → ⊥
cut_frame one n f g r s fits fits_g few same =
    let low : n ≤ length (spelling f) = omega (arith, few) in
    let cut = sym (take-append-le n (spelling f) s low) ∙ same in
    let whole = append-nil (spelling f) ∙ sym (take-append-drop n (spelling f)) ∙ ap (λ l. l ++ drop n (spelling f)) cut
    ∙ append_assoc (spelling g) r (drop n (spelling f)) in
    let is = one f g [] (r ++ drop n (spelling f)) fits fits_g whole in
    omega (arith, few, ap length cut, length-append (spelling g) r, length-take-le n (spelling f) low, ap (λ h. length (spelling h)) is.0)

pub take_add : (xs ys : List ℕ) (n : ℕ) → take (length xs + n) (xs ++ ys) ≡ xs ++ take n ys
take_add [] ys n = let e : 0 + n ≡ n = omega arith in ap (λ k. take k ys) e
take_add (x ∷ xs) ys n = let e : suc (length xs) + n ≡ suc (length xs + n) = omega arith in ap (λ k. take k (x ∷ (xs ++ ys))) e
    ∙ ap (λ l. x ∷ l) (take_add xs ys n)

pub take_behind : (xs ys : List ℕ) (n : ℕ) → length xs ≤ n → take n (xs ++ ys) ≡ xs ++ take (n - length xs) ys
take_behind xs ys n low = let e : n ≡ length xs + (n - length xs) = omega (arith, low) in ap (λ k. take k (xs ++ ys)) e
    ∙ take_add xs ys (n - length xs)

pub take_none : (n : ℕ) → ◌≡◌ {A = List ℕ} (take n []) []
take_none zero = refl
take_none (suc n) = refl

pub low_of : (a n : ℕ) → nat_le a n ≡ true → a ≤ n
low_of a n test = grind (arith, nat_tests, test)

pub high_of : (a n : ℕ) → nat_le a n ≡ false → n < a
high_of a n test = grind (arith, nat_tests, test)

module _ (one : OneFrame) (told : Told) where
  pub whole : (frames drawn : List Frame) (n : ℕ) (rest : List ℕ) → All Fits frames → All Fits drawn
      → take n (flat_map spelling frames) ≡ flat_map spelling drawn ++ rest → NoneWhole rest → drawn ≡ whole_frames n frames
  whole [] [] n rest fit fit_drawn same none = refl
  whole [] (g ∷ gs) n rest fit fit_drawn same none =
      absurd (some_bytes told g (flat_map spelling gs ++ rest) (All-head Fits g gs fit_drawn)
      (sym (append_assoc (spelling g) (flat_map spelling gs) rest) ∙ sym same ∙ take_none n))
  whole (f ∷ fs) [] n rest fit fit_drawn same none =
      (elim (nat_le (length (spelling f)) n) as
      (λ b. nat_le (length (spelling f)) n ≡ b → [] ≡ (if b then f ∷ whole_frames (n - length (spelling f)) fs else [])) [
        | true ↦ λ test. absurd
            (none f (take (n - length (spelling f)) (flat_map spelling fs)) (All-head Fits f fs fit)
            (sym same ∙ take_behind (spelling f) (flat_map spelling fs) n (low_of (length (spelling f)) n test)))
        | false ↦ λ test. refl
      ]) refl
  whole (f ∷ fs) (g ∷ gs) n rest fit fit_drawn same none =
      (elim (nat_le (length (spelling f)) n) as
      (λ b. nat_le (length (spelling f)) n ≡ b → g ∷ gs ≡ (if b then f ∷ whole_frames (n - length (spelling f)) fs else [])) [
        | true ↦ λ test.
            let next = one f g (take (n - length (spelling f)) (flat_map spelling fs)) (flat_map spelling gs ++ rest)
            (All-head Fits f fs fit)
            (All-head Fits g gs fit_drawn)
            (sym (take_behind (spelling f) (flat_map spelling fs) n (low_of (length (spelling f)) n test)) ∙ same
            ∙ append_assoc (spelling g) (flat_map spelling gs) rest) in
            ap (λ h. h ∷ gs) (sym next.0)
            ∙ ap (λ l. f ∷ l) (whole fs gs (n - length (spelling f)) rest (All-tail Fits f fs fit)
            (All-tail Fits g gs fit_drawn) next.1 none)
        | false ↦ λ test. absurd
            (cut_frame one n f g (flat_map spelling gs ++ rest) (flat_map spelling fs) (All-head Fits f fs fit)
            (All-head Fits g gs fit_drawn)
            (high_of (length (spelling f)) n test)
            (same ∙ append_assoc (spelling g) (flat_map spelling gs) rest))
      ]) refl

-- ---- the lines that are answered so

pub replies_fit : (lines : List Line) (frames : List Frame) (old new : State) → RepliesToAll old lines frames new → All Fits frames
replies_fit [] [] old new replied = All-nil Fits
replies_fit [] (f ∷ fs) old new replied = absurd replied
replies_fit (l ∷ ls) [] old new replied = absurd replied
replies_fit (l ∷ ls) (f ∷ fs) old new replied = All-cons Fits f fs replied.1.1 (replies_fit ls fs replied.0 new replied.2)

pub record FirstLines (old : State) (lines : List Line) (frames : List Frame) : Type 0 where
  pub front : List Line
  pub behind : List Line
  pub split : lines ≡ front ++ behind
  pub state : State
  pub replied : RepliesToAll old front frames state

pub first_lines : (n : ℕ) (lines : List Line) (frames : List Frame) (old new : State) → RepliesToAll old lines frames new
    → FirstLines old lines (whole_frames n frames)
first_lines n [] [] old new replied = record { front = []; behind = []; split = refl; state = old; replied = refl }
first_lines n [] (f ∷ fs) old new replied = absurd replied
first_lines n (l ∷ ls) [] old new replied = absurd replied
first_lines n (l ∷ ls) (f ∷ fs) old new replied =
    (elim (nat_le (length (spelling f)) n) as
    (λ b. FirstLines old (l ∷ ls) (if b then f ∷ whole_frames (n - length (spelling f)) fs else [])) [
      | true ↦
          let later = first_lines (n - length (spelling f)) ls fs replied.0 new replied.2 in
          record {
            front = l ∷ later.front;
            behind = later.behind;
            split = ap (λ ls. l ∷ ls) later.split;
            state = later.state;
            replied =
                (replied.0, replied.1, later.replied);
          }
      | false ↦ record { front = []; behind = l ∷ ls; split = refl; state = old; replied = refl }
    ])

-- ---- what was sent

pub accepted_by : (every : Option ℕ) (frames : List Frame) (drawings : List (Option Canvas)) (h h' : List Holding) (bytes : List ℕ)
    → SendsFrames every frames drawings h h' bytes → AcceptsAll h frames drawings h'
accepted_by every [] [] h h' bytes all = all.0
accepted_by every [] (d ∷ ds) h h' bytes all = absurd all
accepted_by every (f ∷ fs) [] h h' bytes all = absurd all
accepted_by every (f ∷ fs) (d ∷ ds) h h' bytes all = (all.0, all.3.accepted, accepted_by every fs ds all.0 h' all.2 all.4)

pub pictured_by : (frames : List Frame) (drawings : List (Option Canvas)) (h h' : List Holding) (bytes : List ℕ)
    → SendsFrames None frames drawings h h' bytes → bytes ≡ flat_map picture_bytes drawings
pictured_by [] [] h h' bytes all = all.1
pictured_by [] (d ∷ ds) h h' bytes all = absurd all
pictured_by (f ∷ fs) [] h h' bytes all = absurd all
pictured_by (f ∷ fs) (d ∷ ds) h h' bytes all =
    let bare : all.1 ≡ picture_bytes d = all.3.bytes_are ∙ ap (λ cs. flat_map picture cs ++ picture_bytes d) all.3.covered in
    all.5 ∙ ap (λ l. l ++ all.2) bare ∙ ap (λ l. picture_bytes d ++ l) (pictured_by fs ds all.0 h' all.2 all.4)

pub fronts_draw : OneFrame → Told → RepliesDrawTheBook → FrontsDrawTheBook
fronts_draw one told draws lines frames old new n rest holdings before now sound alone replied drawn front =
    let fit = replies_fit lines frames old new replied in
    let is = whole one told frames drawn.frames n rest.rest fit drawn.fit drawn.split (none_whole told rest.rest front) in
    let first = first_lines n lines frames old new replied in
    let own = whole_frames n frames in
    let S : List Frame → Type 0 = λ fs. SendsFrames None fs drawn.drawings [] holdings drawn.bytes in
    let sends = subst S is drawn.sends in
    let mirrors = ap (λ ss. map mirrored ss) (sym alone) in
    let accepts = accepted_by None own drawn.drawings [] holdings drawn.bytes sends in
    record {
      front = first.front;
      behind = first.behind;
      split = first.split;
      state = first.state;
      drawings = drawn.drawings;
      pictured = (draws first.front own drawn.drawings old first.state [] holdings sound first.replied mirrors accepts).0;
      sent = drawn.sent ∙ ap (λ l. sent_after l before) (pictured_by own drawn.drawings [] holdings drawn.bytes sends);
    }

-- ---- one session

pub record OwnFirst (m : ℕ) (old : State) (lines : List Line) (own : List Frame) : Type 0 where
  pub front : List Line
  pub behind : List Line
  pub split : lines ≡ front ++ behind
  pub frames : List Frame
  pub own_is : filter (names m) frames ≡ own
  pub state : State
  pub replied : RepliesToAll old front frames state

pub own_first : (m n : ℕ) (lines : List Line) (frames : List Frame) (old new : State) → RepliesToAll old lines frames new
    → OwnFirst m old lines (whole_frames n (filter (names m) frames))
own_first m n [] [] old new replied =
    record { front = []; behind = []; split = refl; frames = []; own_is = refl; state = old; replied = refl }
own_first m n [] (f ∷ fs) old new replied = absurd replied
own_first m n (l ∷ ls) [] old new replied = absurd replied
own_first m n (l ∷ ls) (f ∷ fs) old new replied =
    (elim (names m f) as (λ b. names m f ≡ b
    → OwnFirst m old (l ∷ ls) (whole_frames n (if b then f ∷ filter (names m) fs else filter (names m) fs))) [
      | true ↦ λ named. (elim (nat_le (length (spelling f)) n) as
          (λ c. OwnFirst m old (l ∷ ls) (if c then f ∷ whole_frames (n - length (spelling f)) (filter (names m) fs) else [])) [
            | true ↦
                let later = own_first m (n - length (spelling f)) ls fs replied.0 new replied.2 in
                record {
                  front = l ∷ later.front;
                  behind = later.behind;
                  split = ap (λ ls. l ∷ ls) later.split;
                  frames = f ∷ later.frames;
                  own_is = ap (λ b. if b then f ∷ filter (names m) later.frames else filter (names m) later.frames) named
                      ∙ ap (λ fs. f ∷ fs) later.own_is;
                  state = later.state;
                  replied = (replied.0, replied.1, later.replied);
                }
            | false ↦ record { front = []; behind = l ∷ ls; split = refl; frames = []; own_is = refl; state = old; replied = refl }
          ])
      | false ↦ λ other.
          let later = own_first m n ls fs replied.0 new replied.2 in
          record {
            front = l ∷ later.front;
            behind = later.behind;
            split = ap (λ ls. l ∷ ls) later.split;
            frames = f ∷ later.frames;
            own_is = ap (λ b. if b then f ∷ filter (names m) later.frames else filter (names m) later.frames) other ∙ later.own_is;
            state = later.state;
            replied = (replied.0, replied.1, later.replied);
          }
    ]) refl

pub own_fronts_draw : OneFrame → Told → OwnRepliesDrawTheBook → OwnFrontsDrawTheBook
own_fronts_draw one told draws m lines frames old new n rest holdings before now sound closed replied drawn front =
    let all = filter (names m) frames in
    let fit = All-filter (names m) Fits frames (replies_fit lines frames old new replied) in
    let is = whole one told all drawn.frames n rest.rest fit drawn.fit drawn.split (none_whole told rest.rest front) in
    let first = own_first m n lines frames old new replied in
    let own = filter (names m) first.frames in
    let S : List Frame → Type 0 = λ fs. SendsFrames None fs drawn.drawings [] holdings drawn.bytes in
    let sends = subst S (is ∙ sym first.own_is) drawn.sends in
    let mirrors = ap (λ ss. map mirrored ss) (sym closed) in
    let accepts = accepted_by None own drawn.drawings [] holdings drawn.bytes sends in
    record {
      front = first.front;
      behind = first.behind;
      split = first.split;
      frames = first.frames;
      own_is = first.own_is;
      state = first.state;
      drawings = drawn.drawings;
      pictured = (draws m first.front first.frames drawn.drawings old first.state [] holdings sound first.replied mirrors accepts).0;
      sent = drawn.sent ∙ ap (λ l. sent_after l before) (pictured_by own drawn.drawings [] holdings drawn.bytes sends);
    }
