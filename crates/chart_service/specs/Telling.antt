-- The same answers, told otherwise.
use Rattle.std.proofs.Common.{◌≡◌, ℕ, List, [], ◌∷◌, ◌++◌, Option, refl, subst, sym, inl, inr}
use Rattle.std.specs.List.{filter}
use Rattle.block_disk.specs.View.{Image}
use Rattle.chart_world.specs.Fronts.{says}
use Rattle.chart_world.specs.LineLaws.{lines_none}
use Rattle.chart_frames.specs.declared.frame.Frame.{Frame}
use Rattle.chart_service.specs.Answering.{Telling}
use Rattle.chart_service.specs.Moments.{IsAhead}
use Rattle.chart_service.specs.Replies.{Replied}
use Rattle.chart_service.specs.Serving.{told, RepliesToAll, Answers, SendsText, SendsFirst, SendsFrontOf, SendsTaken, SendsWithin}
use Rattle.chart_service.specs.Serving.{SendsSome, SendsLines}
use Rattle.chart_service.specs.State.{State}

-- lines behind others do what both do
pub replies_joined : (old between new : State) (lines more : List (Option (List ℕ))) (frames answers : List Frame)
    → RepliesToAll old lines frames between → RepliesToAll between more answers new
    → RepliesToAll old (lines ++ more) (frames ++ answers) new
replies_joined old between new [] more [] answers all next = let P : State → Type 0 = λ s. RepliesToAll s more answers new in
    subst P all next
replies_joined old between new [] more (r ∷ rs) answers all next = absurd all
replies_joined old between new (l ∷ ls) more [] answers all next = absurd all
replies_joined old between new (l ∷ ls) more (r ∷ rs) answers all next = (
  all.0,
  all.1,
  replies_joined all.0 between new ls more rs answers all.2 next,
)

-- one line does what its reply says
pub replied_one : (old new : State) (line : Option (List ℕ)) (frame : Frame) → Replied line frame old new
    → RepliesToAll old (line ∷ []) (frame ∷ []) new
replied_one old new line frame replied = (new, replied, refl)

-- the first frame is the reply to the first line
pub record RepliesFirst (old : State) (frame : Frame) : Type 0 where
  pub line : Option (List ℕ)
  pub between : State
  pub replied : Replied line frame old between

pub first_replied : (old new : State) (lines : List (Option (List ℕ))) (frames : List Frame) (frame : Frame) (later : List Frame)
    → frames ≡ frame ∷ later → RepliesToAll old lines frames new → RepliesFirst old frame
first_replied old new [] [] frame later is all = absurd (cc (is))
first_replied old new [] (f ∷ fs) frame later is all = absurd all
first_replied old new (line ∷ lines) [] frame later is all = absurd all
first_replied old new (line ∷ lines) (f ∷ fs) frame later is all =
    let same : f ≡ frame = cc in
    let P : Frame → Type 0 = λ g. Replied line g old all.0 in
    record { line = line; between = all.0; replied = subst P same all.1 }

-- no line is answered yet
pub told_none : (old : State) → RepliesToAll old (told []) [] old
told_none old = let P : List (Option (List ℕ)) → Type 0 = λ l. RepliesToAll old (filter says l) [] old in subst P (sym lines_none) refl

-- what tells a text tells it otherwise too, where lines are answered from the state old on
abbrev pub Tells : State → Telling → Telling → Type 0
Tells old T U = (lines : List (Option (List ℕ))) (frames : List Frame) (text : List ℕ) (new : State) → RepliesToAll old lines frames new
    → T lines frames text → U lines frames text

pub answers_told : (T U : Telling) (bytes text : List ℕ) (old new : State) → Tells old T U → Answers T bytes text old new
    → Answers U bytes text old new
answers_told T U bytes text old new tells a = record {
  frames = a.frames;
  replied = a.replied;
  texts = tells (told bytes) a.frames text new a.replied a.texts;
}

pub text_told : (T U : Telling) (input : List ℕ) (old new : State) (before now : Option (List ℕ)) → Tells old T U
    → SendsText T input old new before now → SendsText U input old new before now
text_told T U input old new before now tells s = record {
  text = s.text;
  answers = answers_told T U input s.text old new tells s.answers;
  sent = s.sent;
}

abbrev pub first_told : (T U : Telling) (input rest : List ℕ) (old new : State) (before now : Option (List ℕ)) → Tells old T U
    → SendsFirst T input rest old new before now → SendsFirst U input rest old new before now
first_told T U input rest old new before now tells s =
    record {
      front = s.front;
      begins = s.begins;
      early = s.early;
      text = s.text;
      answers = answers_told T U s.front s.text old new tells s.answers;
      sent = s.sent;
    }

pub front_told : (T U : Telling) (input : List ℕ) (old new : State) (before now : Option (List ℕ)) → Tells old T U
    → SendsFrontOf T input old new before now → SendsFrontOf U input old new before now
front_told T U input old new before now tells s = record {
  front = s.front;
  rest = s.rest;
  begins = s.begins;
  early = s.early;
  text = s.text;
  between = s.between;
  answers = answers_told T U s.front s.text old s.between tells s.answers;
  count = s.count;
  within = s.within;
  sent = s.sent;
  state = s.state;
}

pub taken_told : (T U : Telling) (input bytes : List ℕ) (old new : State) (before now : Option (List ℕ)) → Tells old T U
    → SendsTaken T input bytes old new before now → SendsTaken U input bytes old new before now
taken_told T U input bytes old new before now tells s =
    record {
      rest = s.rest;
      first = first_told T U input s.rest old new before now tells s.first;
      whole = s.whole;
      partial = s.partial;
      taken = s.taken;
      unended = s.unended;
    }

pub within_told : (T U : Telling) (input : List ℕ) (old new : State) (before now : Option (List ℕ)) → Tells old T U
    → SendsWithin T input old new before now → SendsWithin U input old new before now
within_told T U input old new before now tells s =
    record {
      rest = s.rest;
      first = first_told T U input s.rest old new before now tells s.first;
      few = s.few;
      unended = s.unended;
      past = s.past;
    }

pub some_told : (T U : Telling) (input : List ℕ) (old new : State) (before now : Option (List ℕ)) → Tells old T U
    → SendsSome T input old new before now → SendsSome U input old new before now
some_told T U input old new before now tells s =
    record {
      rest = s.rest;
      between = s.between;
      first = first_told T U input s.rest old s.between before now tells s.first;
      state = s.state;
    }

pub lines_told : (T U : Telling) (input : List ℕ) (old : State) (before now : Option (List ℕ)) → Tells old T U
    → SendsLines T input old before now → SendsLines U input old before now
lines_told T U input old before now tells s =
    record { rest = s.rest; between = s.between; first = first_told T U input s.rest old s.between before now tells s.first }

pub ahead_told : (T U : Telling) (input : List ℕ) (total : ℕ) (start : State) (from : ℕ) (image : Image) (count : ℕ) → Tells start T U
    → IsAhead T input total start from image count → IsAhead U input total start from image count
unfolding answers_told
ahead_told T U input total start from image count tells a = record {
  front = a.front;
  rest = a.rest;
  begins = a.begins;
  between = a.between;
  text = a.text;
  answers = answers_told T U a.front a.text start a.between tells a.answers;
  total_is = a.total_is;
  state = elim a.state [
    | inl is ↦ inl is
    | inr next ↦ inr (record {
      after = next.after;
      next = next.next;
      stands = next.stands;
      sent = elim next.sent [
        | inl none ↦ inl none
        | inr some ↦ inr (record {
          first = some.first;
          reply = some.reply;
          texts = tells (told a.front ++ some.first.front) (a.answers.frames ++ some.first.shown) (a.text ++ some.reply) some.first.state
              (replies_joined start a.between some.first.state
              (told a.front) some.first.front a.answers.frames some.first.shown a.answers.replied some.first.replied) some.texts;
          low = some.low;
          high = some.high;
        })
      ];
    })
  ];
}
