-- How far the lines of an input are answered, whatever text stands for their frames.
use Rattle.std.proofs.Common.{◌≡◌, ◌≤◌, ℕ, ◌+◌, ◌-◌, ◌^◌, ◌<◌, ◌⊎◌, List, [], ◌∷◌, ◌++◌, length, take, drop, Option, Some, None, IfSome}
use Rattle.std.proofs.Common.{refl, ap, subst, inl, inr, sym, ◌∙◌, arith, append_assoc, length-append}
use Rattle.std.specs.List.{filter}
use Rattle.std.proofs.lemmas.List.{take-append-drop, append-nil}
use Rattle.block_disk.specs.Streams.{sent_after, left_after}
use Rattle.block_disk.specs.SentLaws.{sent_none, sent_more}
use Rattle.chart_world.specs.Lines.{lines, NoLineFeed}
use Rattle.chart_world.specs.StandsLaws.{whole_given}
use Rattle.chart_world.specs.Reading.{Reading, unread_input, unread, told_lines, input_length, NoLineIn}
use Rattle.chart_world.specs.LineLaws.{lines_none, told_behind, no_rest}
use Rattle.chart_world.specs.Fronts.{says, IsWhole, BeginsWith}
use Rattle.chart_world.specs.FrontLaws.{told_split, whole_joined}
use Rattle.chart_frames.specs.declared.frame.Frame.{Frame}
use Rattle.chart_service.specs.Answering.{Telling}
use Rattle.chart_service.specs.State.{State}
use Rattle.chart_service.specs.Telling.{replies_joined, told_none}
use Rattle.chart_service.specs.Serving.{told, unless_empty, most_ahead, RepliesToAll, Answers, AnswersNext, SendsText, SendsFirst}
use Rattle.chart_service.specs.Serving.{SendsTaken, SendsWithin, SendsSome, KeepsBook}

-- with these lines more and their frames the text is as much longer
abbrev pub Grows : Telling → Telling → List (Option (List ℕ)) → List Frame → List ℕ → Type 0
Grows T T' more answers reply = (lines : List (Option (List ℕ))) (frames : List Frame) (text : List ℕ) → T lines frames text
    → T' (lines ++ more) (frames ++ answers) (text ++ reply)

-- some first lines of what is left, and what stands behind them
pub record PassedLines (input front rest : List ℕ) (bytes : Option (List ℕ)) (given : ℕ) (all : List (Option (List ℕ))) : Type 0 where
  pub piece : List ℕ
  pub later : List ℕ
  pub whole : IsWhole front
  pub told_piece : told piece ≡ all
  pub told_all : told (front ++ piece) ≡ told front ++ all
  pub here : BeginsWith rest piece later
  pub told_rest : bytes ≡ Some later
  pub begins : BeginsWith input (front ++ piece) later
  pub counted : given ≡ length (front ++ piece)
  pub early : given ≤ 2 ^ 32

-- steps of the reader pass lines of which these say something
abbrev pub PassesLines : Reading → Reading → Option (List ℕ) → Option (List ℕ) → List (Option (List ℕ)) → Type 0
PassesLines r r' left left' all =
    (input front rest : List ℕ) → unread r left ≡ Some rest → r.given ≡ length front → BeginsWith input front rest
    → PassedLines input front rest (unread r' left') r'.given all

nothing_behind : (front piece : List ℕ) → front ++ piece ≡ [] → piece ≡ []
nothing_behind [] piece none = none
nothing_behind (b ∷ bs) piece none = absurd (cc (none))

-- what ends as whole lines do ends so from any place on
whole_behind : (front piece : List ℕ) → IsWhole (front ++ piece) → IsWhole piece
whole_behind [] piece whole = whole
whole_behind (b ∷ bs) piece (inl none) = absurd (cc (none))
whole_behind (b ∷ bs) piece (inr ([], is)) = inl (nothing_behind bs piece (cc (is)))
whole_behind (b ∷ bs) piece (inr (x ∷ xs, is)) = whole_behind bs piece (inr (xs, cc (is)))

-- the first of the lines passed, and the others behind them
pub record SplitLines (input front : List ℕ) (first later : List (Option (List ℕ))) : Type 0 where
  pub piece : List ℕ
  pub rest : List ℕ
  pub told_all : told (front ++ piece) ≡ told front ++ first
  pub begins : BeginsWith input (front ++ piece) rest
  pub early : length (front ++ piece) ≤ 2 ^ 32
  pub next : List ℕ
  pub behind : List ℕ
  pub here : BeginsWith rest next behind
  pub told_next : told next ≡ later
  pub early_next : length (front ++ piece) + length next ≤ 2 ^ 32

pub split_lines : (input front rest : List ℕ) (bytes : Option (List ℕ)) (given : ℕ) (all first later : List (Option (List ℕ)))
    → all ≡ first ++ later → PassedLines input front rest bytes given all → SplitLines input front first later
split_lines input front rest bytes given all first later is q =
    let f = told_split (length q.piece) q.piece first later (omega arith) (q.told_piece ∙ is) in
    let parts : q.piece ≡ f.front ++ f.rest = f.begins.split in
    let both : front ++ q.piece ≡ (front ++ f.front) ++ f.rest = ap (λ l. front ++ l) parts ∙ sym (append_assoc front f.front f.rest) in
    record {
      piece = f.front;
      rest = f.rest ++ q.later;
      told_all = told_behind front f.front q.whole ∙ ap (λ l. told front ++ l) f.first_are;
      begins = record {
        split = q.begins.split ∙ ap (λ l. l ++ q.later) both ∙ append_assoc (front ++ f.front) f.rest q.later;
        whole = elim f.begins.whole [
          | inl whole ↦ inl (whole_joined front f.front q.whole whole)
          | inr none ↦ elim q.begins.whole [
            | inl whole ↦ inl (subst IsWhole (both ∙ ap (λ l. (front ++ f.front) ++ l) none ∙ append-nil (front ++ f.front)) whole)
            | inr end ↦ inr (ap (λ l. l ++ q.later) none ∙ end)
          ]
        ];
      };
      early = omega (arith, q.early, q.counted, ap length both, length-append (front ++ f.front) f.rest);
      next = f.rest;
      behind = q.later;
      here = record {
        split = refl;
        whole = elim q.here.whole [
          | inl whole ↦ inl (whole_behind f.front f.rest (subst IsWhole parts whole))
          | inr end ↦ inr end
        ];
      };
      told_next = f.later_are;
      early_next = omega (arith, q.early, q.counted, ap length both, length-append (front ++ f.front) f.rest);
    }

-- more lines are answered, or passed over
pub answers_more : (T T' : Telling) (front piece text reply : List ℕ) (old state new : State) (all : List (Option (List ℕ)))
    (answers : List Frame) → told (front ++ piece) ≡ told front ++ all → Answers T front text old state → RepliesToAll state all answers new
    → Grows T T' all answers reply → Answers T' (front ++ piece) (text ++ reply) old new
answers_more T T' front piece text reply old state new all answers told_is a next grows =
    let P : List (Option (List ℕ)) → Type 0 = λ l. RepliesToAll old l (a.frames ++ answers) new in
    let Q : List (Option (List ℕ)) → Type 0 = λ l. T' l (a.frames ++ answers) (text ++ reply) in
    record {
      frames = a.frames ++ answers;
      replied = subst P (sym told_is) (replies_joined old state new (told front) all a.frames answers a.replied next);
      texts = subst Q (sym told_is) (grows (told front) a.frames text a.texts);
    }

-- how far the lines are answered
pub record Progress (T : Telling) (input : List ℕ) (bytes : Option (List ℕ)) (given : ℕ) (old state : State)
    (before now : Option (List ℕ)) : Type 0 where
  pub rest : List ℕ
  pub told_rest : bytes ≡ Some rest
  pub front : List ℕ
  pub begins : BeginsWith input front rest
  pub counted : given ≡ length front
  pub early : given ≤ 2 ^ 32
  pub text : List ℕ
  pub answers : Answers T front text old state
  pub sent : now ≡ sent_after text before

-- nothing is answered yet
no_answers : (T : Telling) (old : State) → T [] [] [] → Answers T [] [] old old
no_answers T old none =
    let P : List (Option (List ℕ)) → Type 0 = λ l. T (filter says l) [] [] in
    record { frames = []; replied = told_none old; texts = subst P (sym lines_none) none }

start_at : (T : Telling) (input : List ℕ) (old : State) (before : Option (List ℕ)) → T [] [] []
    → Progress T input (Some ([] ++ input)) 0 old old before before
start_at T input old before none = record {
  rest = input;
  told_rest = refl;
  front = [];
  begins = record { split = refl; whole = inl (inl refl) };
  counted = refl;
  early = omega arith;
  text = [];
  answers = no_answers T old none;
  sent = sent_none before;
}

pub start_told : (T : Telling) (o before : Option (List ℕ)) (old : State) → T [] [] []
    → IfSome o (λ input. Progress T input (unread unread_input o) 0 old old before before)
start_told T None before old none = tt
start_told T (Some input) before old none = start_at T input old before none

-- before the first line
pub starts : (T : Telling) (o before : Option (List ℕ)) (r : Reading) (old : State) → T [] [] [] → r ≡ unread_input
    → IfSome o (λ input. Progress T input (unread r o) r.given old old before before)
starts T o before r old none fresh =
    let P : Reading → Type 0 = λ x. IfSome o (λ input. Progress T input (unread x o) x.given old old before before) in
    subst P (sym fresh) (start_told T o before old none)

-- a line is one at most
pub few_lines : (line : Option (List ℕ)) → length (unless_empty line) ≤ most_ahead
few_lines None = omega arith
few_lines (Some []) = omega arith
few_lines (Some (byte ∷ bytes)) = omega arith

-- lines are none, or some
pub none_or_some : (all : List (Option (List ℕ))) → (all ≡ []) ⊎ (1 ≤ length all)
none_or_some [] = inl refl
none_or_some (line ∷ lines) = inr (omega arith)

-- what some first of the next lines do, done ahead
pub next_at : (given : ℕ) (rest piece later : List ℕ) (front behind : List (Option (List ℕ))) (answers : List Frame) (state new : State)
    → BeginsWith rest piece later → told piece ≡ front ++ behind → given + length piece ≤ 2 ^ 32 → length front ≤ most_ahead
    → 1 ≤ length front → RepliesToAll state front answers new
    → (next : AnswersNext given rest state new) × (told next.front ≡ front) × (next.frames ≡ answers)
next_at given rest piece later front behind answers state new begins told_is early few some next =
    let f = told_split (length piece) piece front behind (omega arith) told_is in
    let P : List (Option (List ℕ)) → Type 0 = λ l. RepliesToAll state l answers new in (
      record {
        front = f.front;
        rest = f.rest ++ later;
        begins = record {
          split = begins.split ∙ ap (λ l. l ++ later) f.begins.split ∙ append_assoc f.front f.rest later;
          whole = elim f.begins.whole [
            | inl whole ↦ inl whole
            | inr none ↦ elim begins.whole [
              | inl whole ↦ inl (subst IsWhole (f.begins.split ∙ ap (λ l. f.front ++ l) none ∙ append-nil f.front) whole)
              | inr end ↦ inr (ap (λ l. l ++ later) none ∙ end)
            ]
          ];
        };
        early = omega (arith, early, ap length f.begins.split, length-append f.front f.rest);
        some = omega (arith, ap length f.first_are, some);
        few = omega (arith, ap length f.first_are, few);
        frames = answers;
        replied = subst P (sym f.first_are) next;
      },
      f.first_are,
      refl,
    )

-- lines of the input are given, which do this from state to new
module _ (T T' : Telling) (input : List ℕ) (r r' : Reading) (left left' : Option (List ℕ)) (old state new : State)
    (before now later : Option (List ℕ)) (all : List (Option (List ℕ))) (answers : List Frame) (reply : List ℕ)
    (given : PassesLines r r' left left' all) (next : RepliesToAll state all answers new) (grows : Grows T T' all answers reply)
    (p : Progress T input (unread r left) r.given old state before now) where
  -- its text was sent
  pub answered_at : later ≡ sent_after reply now → Progress T' input (unread r' left') r'.given old new before later
  answered_at sends =
      let q = given input p.front p.rest p.told_rest p.counted p.begins in
      record {
        rest = q.later;
        told_rest = q.told_rest;
        front = p.front ++ q.piece;
        begins = q.begins;
        counted = q.counted;
        early = q.early;
        text = p.text ++ reply;
        answers = answers_more T T' p.front q.piece p.text reply old state new all answers q.told_all p.answers next grows;
        sent = sent_more p.text reply before now later p.sent sends;
      }

module _ (T : Telling) (input : List ℕ) (old state : State) (before now : Option (List ℕ)) where
  -- where no line is left, all of the input is answered
  pub end_at : (bytes : Option (List ℕ)) (given : ℕ) → IfSome (told_lines bytes) (λ all. all ≡ [])
      → Progress T input bytes given old state before now → SendsText T input old state before now
  end_at bytes given none p =
      let P : Option (List ℕ) → Type 0 = λ b. IfSome (told_lines b) (λ all. all ≡ []) in
      let rest_none : p.rest ≡ [] = no_rest p.rest (subst P p.told_rest none) in
      let all : p.front ≡ input = sym (p.begins.split ∙ ap (λ l. p.front ++ l) rest_none ∙ append-nil p.front) in
      let Q : List ℕ → Type 0 = λ i. Answers T i p.text old state in
      record { text = p.text; answers = subst Q all p.answers; sent = p.sent }

  abbrev pub first_at : (bytes : Option (List ℕ)) (given : ℕ) → (p : Progress T input bytes given old state before now)
      → SendsFirst T input p.rest old state before now
  first_at bytes given p = record {
    front = p.front;
    begins = p.begins;
    early = omega (arith, p.early, p.counted);
    text = p.text;
    answers = p.answers;
    sent = p.sent;
  }

  -- at a take that failed
  pub taken_at : (bytes left : Option (List ℕ)) (given n : ℕ) → IsWhole (take given input) → NoLineIn n bytes → left ≡ left_after n bytes
      → Progress T input bytes given old state before now → IfSome left (λ l. SendsTaken T input l old state before now)
  taken_at bytes left given n whole none after p =
      let P : Option (List ℕ) → Type 0 = NoLineIn n in
      let Q : Option (List ℕ) → Type 0 = λ l. IfSome l (λ k. SendsTaken T input k old state before now) in
      let here : left ≡ Some (drop n p.rest) = after ∙ ap (left_after n) p.told_rest in
      subst Q (sym here) (record {
        rest = p.rest;
        first = first_at bytes given p;
        whole = whole_given input p.front p.rest given p.begins.split p.counted whole;
        partial = take n p.rest;
        taken = sym (take-append-drop n p.rest);
        unended = subst P p.told_rest none;
      })

  -- at a byte past 2^32
  pub within_at : (r r' : Reading) (left left' : Option (List ℕ)) → r.given ≤ 2 ^ 32 → NoLineIn (2 ^ 32 - r.given) (unread r left)
      → 2 ^ 32 < r'.taken → r.taken ≡ r.given + length r.pending → input_length r'.taken left' ≡ input_length r.taken left
      → Progress T input (unread r left) r.given old state before now → SendsWithin T input old state before now
  within_at r r' None left' few none past counted total p = let told_rest = p.told_rest in cc
  within_at r r' (Some l) None few none past counted total p = cc
  within_at r r' (Some l) (Some l') few none past counted total p =
      let P : Option (List ℕ) → Type 0 = NoLineIn (2 ^ 32 - r.given) in
      let N : ℕ → Type 0 = λ n. NoLineFeed (take (2 ^ 32 - n) p.rest) in
      let sum : r'.taken + length l' ≡ r.taken + length l = cc in
      let told_rest = p.told_rest in
      let here : r.pending ++ l ≡ p.rest = cc in
      record {
        rest = p.rest;
        first = record {
          front = p.front;
          begins = p.begins;
          early = omega (arith, p.early, p.counted);
          text = p.text;
          answers = p.answers;
          sent = p.sent;
        };
        few = omega (arith, few, p.counted);
        unended = subst N p.counted (subst P p.told_rest none);
        past = omega (
          arith,
          past,
          sum,
          counted,
          ap length here,
          length-append r.pending l,
          ap length p.begins.split,
          length-append p.front p.rest,
          p.counted,
        );
      }

  -- want of memory, where nothing more was sent: the line isn't answered
  pub kept_at : (new : State) (bytes : Option (List ℕ)) (given : ℕ) → KeepsBook state new
      → Progress T input bytes given old state before now → SendsSome T input old new before now
  kept_at new bytes given kept p = record { rest = p.rest; between = state; first = first_at bytes given p; state = inl kept }
