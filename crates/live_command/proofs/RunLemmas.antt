-- What was done of an input, by what was done of its next line; and what a crash leaves meanwhile.
use Rattle.std.proofs.Common.{◌≡◌, ◌∙◌, ℕ, ◌+◌, ◌-◌, ◌<◌, ◌≤◌, ◌^◌, List, [], ◌∷◌, ◌++◌, length, take, drop, Option, Some, None, Result, Ok}
use Rattle.std.proofs.Common.{Err, IfSome, refl, ap, sym, subst, arith, inl, inr, append_assoc, length-append}
use Rattle.std.specs.List.{filter, after_first}
use Rattle.std.proofs.lemmas.List.{take-append-drop, append-nil}
use Rattle.block_disk.specs.Streams.{sent_after, left_after}
use Rattle.block_disk.specs.View.{Image, View, Now, Only, Passes, sent_now}
use Rattle.block_disk.specs.SentLaws.{sent_none, sent_is}
use Rattle.chart_frames.specs.declared.frame.Frame.{Frame}
use Rattle.chart_service.specs.MomentLaws.{since_none, since_then, through_by, through_so}
use Rattle.chart_service.specs.Moments.{Since, Through}
use Rattle.chart_service.specs.Serving.{told, unless_empty}
use Rattle.chart_service.specs.State.{IsSound}
use Rattle.chart_service.specs.Stepping.{state_of}
use Rattle.chart_world.specs.FrontLaws.{Passed, passes}
use Rattle.chart_world.specs.Fronts.{says, Gives, IsWhole, first_piece}
use Rattle.chart_world.specs.LineLaws.{lines_none, piece_line, told_more, no_rest}
use Rattle.chart_world.specs.StandsLaws.{whole_given}
use Rattle.chart_world.specs.Lines.{is_line_feed, NoLineFeed}
use Rattle.chart_world.specs.Reading.{Reading, unread, unread_input, told_lines, input_length, NoLineIn}
use Rattle.chart_world.specs.declared.line_answer.LineFault.{LineFault}
use Rattle.chart_world.specs.declared.line_answer.LineFault.TheVariants as fault
use Rattle.live_service.specs.LiveReplies.{LiveState}
use Rattle.run_ends.specs.Faults.{input_end}
use Rattle.run_ends.specs.declared.ending.End.{End}
use Rattle.run_ends.specs.declared.ending.End.TheVariants.{NoMemory, SendFault, DiskFault}
use Rattle.series_book.specs.declared.one_series.Series.{Series}
use Rattle.stored_book.specs.Standing.{StandsForBook}
use Rattle.store_commands.specs.Sides.{CountsSent}
use Rattle.store_commands.specs.Books.{Stands}
use Rattle.hosted_lines.specs.Doing.{AreFirst, DoesLines, Held, LinesDone, LinesMoment, LinesStop, held_with}
use Rattle.hosted_lines.specs.Lives.{LivesBy, spelled}
use Rattle.live_command.specs.Running.{EndsSo, FirstLines, IsAhead, SendsAll, SendsFirst, SendsTaken}
use Rattle.hosted_lines.proofs.EventLemmas.{by_more, by_none, length_more, sent_then}

-- the lines so far are answered, all pushes behind them made, and their frames sent
pub record Going (input : List ℕ) (bytes : Option (List ℕ)) (given total : ℕ) (old : LiveState) (image : Image) (held : Held)
    (before now : Option (List ℕ)) : Type 0 where
  pub frames : List Frame
  pub book : List Series
  pub first : FirstLines input frames old (held_with total book held)
  pub stands : StandsForBook image total book
  pub sound : IsSound (state_of book total held.sessions)
  pub told_rest : bytes ≡ Some first.rest
  pub counted : given ≡ length first.front
  pub sent : now ≡ sent_after (spelled frames) before

-- ---- before the first line

pub none_told : (at : LiveState) → LivesBy (told []) [] at at
none_told at = let P : List (Option (List ℕ)) → Type 0 = λ l. LivesBy (filter says l) [] at at in subst P (sym lines_none) (by_none at)

abbrev pub no_lines : (input : List ℕ) (at : LiveState) → FirstLines input [] at at
no_lines input at = record {
  front = [];
  rest = input;
  begins = record { split = refl; whole = inl (inl refl) };
  early = omega arith;
  lives = none_told at;
}

pub goes_first : (input : List ℕ) (r : Reading) (total : ℕ) (book : List Series) (image : Image) (held : Held) (before : Option (List ℕ))
    → r ≡ unread_input → StandsForBook image total book → IsSound (state_of book total held.sessions)
    → Going input (unread r (Some input)) r.given total (held_with total book held) image held before before
goes_first input r total book image held before fresh stands sound =
    let P : Reading → Type 0 = λ x. Going input (unread x (Some input)) x.given total
    (held_with total book held) image held before before in
    subst P (sym fresh) (record {
      frames = [];
      book = book;
      first = no_lines input (held_with total book held);
      stands = stands;
      sound = sound;
      told_rest = refl;
      counted = refl;
      sent = sent_none before;
    })

-- where nothing but the image and the streams are told otherwise
pub goes_kept : (input : List ℕ) (bytes : Option (List ℕ)) (given total : ℕ) (old : LiveState) (image image' : Image) (held held' : Held)
    (before now now' : Option (List ℕ)) → image' ≡ image → held' ≡ held → now' ≡ now
    → Going input bytes given total old image held before now → Going input bytes given total old image' held' before now'
goes_kept input bytes given total old image image' held held' before now now' same same_held same_sent g =
    let H : Held → Type 0 = λ h. Going input bytes given total old image' h before now' in
    let I : Image → Type 0 = λ i. Going input bytes given total old i held before now' in
    let N : Option (List ℕ) → Type 0 = λ n. Going input bytes given total old image held before n in
    subst H (sym same_held) (subst I (sym same) (subst N (sym same_sent) g))

-- ---- the next line, of which the reader gives the text, or that it is too long

module _ (input : List ℕ) (r r' : Reading) (left left' line : Option (List ℕ)) (gives : Gives r r' left left' line)
    (early : r'.given ≤ 2 ^ 32) (total : ℕ) (old : LiveState) (image image' : Image) (held : Held) (before now later : Option (List ℕ))
    (g : Going input (unread r left) r.given total old image held before now) where
  abbrev reached : LiveState
  reached = held_with total g.book held

  it_passes : Passed input g.first.front g.first.rest (unread r' left') r'.given line
  it_passes = passes input g.first.front g.first.rest r r' left left' line g.told_rest g.counted g.first.begins gives

  told_all : told (g.first.front ++ first_piece g.first.rest) ≡ told g.first.front ++ unless_empty line
  told_all = told_more g.first.front (first_piece g.first.rest) line it_passes.whole (piece_line g.first.rest line it_passes.lines_are)

  -- with the line
  abbrev line_first : (frames : List Frame) (new : LiveState) → LivesBy (unless_empty line) frames reached new
      → FirstLines input (g.frames ++ frames) old new
  line_first frames new lives =
      let P : List (Option (List ℕ)) → Type 0 = λ l. LivesBy l (g.frames ++ frames) old new in
      record {
        front = g.first.front ++ first_piece g.first.rest;
        rest = after_first is_line_feed g.first.rest;
        begins = it_passes.begins;
        early = omega (arith, early, it_passes.counted);
        lives = subst P (sym told_all) (by_more (told g.first.front)
            (unless_empty line) g.frames frames old reached new g.first.lives lives);
      }

  -- without it
  still_first : (frames : List Frame) (new : LiveState) → LivesBy [] frames reached new → FirstLines input (g.frames ++ frames) old new
  still_first frames new lives =
      let P : List (Option (List ℕ)) → Type 0 = λ l. LivesBy l (g.frames ++ frames) old new in
      record {
        front = g.first.front;
        rest = g.first.rest;
        begins = g.first.begins;
        early = g.first.early;
        lives = subst P (append-nil (told g.first.front))
            (by_more (told g.first.front) [] g.frames frames old reached new g.first.lives lives);
      }

  some_first : (first : List (Option (List ℕ))) (frames : List Frame) (new : LiveState) → AreFirst (unless_empty line) first
      → LivesBy first frames reached new → FirstLines input (g.frames ++ frames) old new
  some_first first frames new (inl none) lives = let P : List (Option (List ℕ)) → Type 0 = λ l. LivesBy l frames reached new in
      still_first frames new (subst P none lives)
  some_first first frames new (inr all) lives = let P : List (Option (List ℕ)) → Type 0 = λ l. LivesBy l frames reached new in
      line_first frames new (subst P all lives)

  in_row : (shown more : List Frame) (new : LiveState) → FirstLines input (g.frames ++ (shown ++ more)) old new
      → FirstLines input ((g.frames ++ shown) ++ more) old new
  in_row shown more new first = let P : List Frame → Type 0 = λ l. FirstLines input l old new in
      subst P (sym (append_assoc g.frames shown more)) first

  -- it was answered, and the pushes behind it were made
  pub goes_line : (held' : Held) (from to : ℕ) → LinesDone (unless_empty line) total reached image' held' from to now later
      → Going input (unread r' left') r'.given total old image' held' before later
  goes_line held' from to d = record {
    frames = g.frames ++ d.frames;
    book = d.book;
    first = line_first d.frames (held_with total d.book held') d.lives;
    stands = d.stands;
    sound = d.sound;
    told_rest = it_passes.told_rest;
    counted = it_passes.counted;
    sent = sent_then g.frames d.frames before now later g.sent d.sent;
  }

  -- or wasn't
  pub line_ends : (end : End) (rest : Option (List ℕ)) → LinesStop (unless_empty line) total reached image' now later end
      → EndsSo (Stands total image') input old rest before later end
  line_ends SendFault rest s = record {
    shown = g.frames ++ s.shown;
    last = s.last;
    state = s.state;
    first = in_row s.shown (s.last ∷ []) s.state (some_first s.first (s.shown ++ s.last ∷ []) s.state s.are_first s.lives);
    there = s.stands;
    between = s.between;
    whole = sent_then g.frames s.shown before now s.between g.sent s.whole;
    part = s.part;
  }
  line_ends DiskFault rest s = record {
    frames = g.frames ++ s.frames;
    state = s.state;
    first = some_first s.first s.frames s.state s.are_first s.lives;
    sent = sent_then g.frames s.frames before now later g.sent s.sent;
  }
  line_ends NoMemory rest s = record {
    shown = g.frames ++ s.shown;
    more = s.more;
    few = s.few;
    state = s.state;
    first = in_row s.shown s.more s.state (some_first s.first (s.shown ++ s.more) s.state s.are_first s.lives);
    there = s.stands;
    sent = sent_then g.frames s.shown before now later g.sent s.sent;
  }
  line_ends end rest s = absurd s

  -- what a crash leaves meanwhile
  pub line_ahead : (from from' : ℕ) (at : Image) (count : ℕ) → from' ≡ from + length (spelled g.frames)
      → LinesMoment (unless_empty line) total reached from' at count → IsAhead (λ after. StandsForBook at total after) input old from count
  line_ahead from from' at count counted m = record {
    shown = g.frames ++ m.shown;
    more = m.more;
    few = m.few;
    state = m.state;
    first = in_row m.shown m.more m.state (some_first m.first (m.shown ++ m.more) m.state m.are_first m.lives);
    there = m.stands;
    low = omega (arith, m.low, counted, length_more g.frames m.shown);
    high = omega (
      arith,
      m.high,
      counted,
      length_more g.frames (m.shown ++ m.more),
      ap (λ l. length (spelled l)) (append_assoc g.frames m.shown m.more),
    );
  }

-- ---- the ends of the input

module _ (input : List ℕ) (total : ℕ) (old : LiveState) (image : Image) (held : Held) (before now : Option (List ℕ))
    (idle : held.pending ≡ []) where
  sends_first : (bytes : Option (List ℕ)) (given : ℕ) → Going input bytes given total old image held before now
      → SendsFirst (Stands total image) input old before now
  sends_first bytes given g = record {
    frames = g.frames;
    state = held_with total g.book held;
    first = g.first;
    idle = idle;
    there = g.stands;
    sent = g.sent;
  }

  -- where no line is left, all are answered
  pub all_answered : (bytes : Option (List ℕ)) (given : ℕ) → IfSome (told_lines bytes) (λ all. all ≡ [])
      → Going input bytes given total old image held before now → SendsAll (Stands total image) input old before now
  all_answered bytes given none g =
      let P : Option (List ℕ) → Type 0 = λ b. IfSome (told_lines b) (λ all. all ≡ []) in
      let rest_none : g.first.rest ≡ [] = no_rest g.first.rest (subst P g.told_rest none) in
      let all : g.first.front ≡ input = sym (g.first.begins.split ∙ ap (λ l. g.first.front ++ l) rest_none ∙ append-nil g.first.front) in
      let Q : List ℕ → Type 0 = λ i. LivesBy (told i) g.frames old (held_with total g.book held) in
      record {
        frames = g.frames;
        state = held_with total g.book held;
        lives = subst Q all g.first.lives;
        idle = idle;
        there = g.stands;
        sent = g.sent;
      }

  -- at a fault of the input
  pub fault_ends : (r r' : Reading) (left left' : Option (List ℕ)) (f : LineFault) → r.given ≤ 2 ^ 32
      → (f ≡ fault.ReadFault → IsWhole (take r.given input)) → (f ≡ fault.ReadFault → NoLineIn (r'.taken - r.given) (unread r left))
      → (f ≡ fault.InputTooLong → NoLineIn (2 ^ 32 - r.given) (unread r left)) → (f ≡ fault.InputTooLong → 2 ^ 32 < r'.taken)
      → left' ≡ left_after (r'.taken - r.given) (unread r left) → r.taken ≡ r.given + length r.pending
      → input_length r'.taken left' ≡ input_length r.taken left → Going input (unread r left) r.given total old image held before now
      → EndsSo (Stands total image) input old left' before now (input_end f)
  fault_ends r r' left left' fault.ReadFault few whole none_read none_past past after counted sum g =
      let n = r'.taken - r.given in
      let N : Option (List ℕ) → Type 0 = NoLineIn n in
      let Q : Option (List ℕ) → Type 0 = λ l. SendsTaken (Stands total image) input old before now l in
      let here : left' ≡ Some (drop n g.first.rest) = after ∙ ap (left_after n) g.told_rest in
      subst Q (sym here) (record {
        sends = record {
          frames = g.frames;
          state = held_with total g.book held;
          first = g.first;
          idle = idle;
          there = g.stands;
          sent = g.sent;
        };
        whole = whole_given input g.first.front g.first.rest r.given g.first.begins.split g.counted (whole refl);
        behind = record {
          partial = take n g.first.rest;
          taken = sym (take-append-drop n g.first.rest);
          unended = subst N g.told_rest (none_read refl);
        };
      })
  fault_ends r r' None left' fault.InputTooLong few whole none_read none_past past after counted sum g = let told_rest = g.told_rest in cc
  fault_ends r r' (Some l) None fault.InputTooLong few whole none_read none_past past after counted sum g = cc
  fault_ends r r' (Some l) (Some l') fault.InputTooLong few whole none_read none_past past after counted sum g =
      let N : Option (List ℕ) → Type 0 = NoLineIn (2 ^ 32 - r.given) in
      let M : ℕ → Type 0 = λ n. NoLineFeed (take (2 ^ 32 - n) g.first.rest) in
      let total_is : r'.taken + length l' ≡ r.taken + length l = cc in
      let told_rest = g.told_rest in
      let here : r.pending ++ l ≡ g.first.rest = cc in
      record {
        sends = record {
          frames = g.frames;
          state = held_with total g.book held;
          first = g.first;
          idle = idle;
          there = g.stands;
          sent = g.sent;
        };
        unended = subst M g.counted (subst N g.told_rest (none_past refl));
        past = omega (
          arith,
          past refl,
          total_is,
          counted,
          ap length here,
          length-append r.pending l,
          ap length g.first.begins.split,
          length-append g.first.front g.first.rest,
          g.counted,
        );
      }

-- there was no memory for the first step
pub no_memory_first : (input : List ℕ) (total : ℕ) (book : List Series) (held : Held) (left before : Option (List ℕ)) (image : Image)
    → StandsForBook image total book → EndsSo (Stands total image) input (held_with total book held) left before before NoMemory
no_memory_first input total book held left before image stands = record {
  shown = [];
  more = [];
  few = omega arith;
  state = held_with total book held;
  first = no_lines input (held_with total book held);
  there = stands;
  sent = sent_none before;
}

-- ---- what a crash leaves

-- at each moment since the start a crash leaves a book that is ahead of it
abbrev pub AheadOf : List ℕ → ℕ → LiveState → ℕ → Image → ℕ → Type 0
AheadOf input total old from image sent = IsAhead (λ after. StandsForBook image total after) input old from sent

abbrev pub Lasts : List ℕ → ℕ → LiveState → View → View → Type 0
Lasts input total old start at = Since start at (AheadOf input total old (sent_now start))

-- all frames so far were sent
here_ahead : (input : List ℕ) (bytes : Option (List ℕ)) (given total : ℕ) (old : LiveState) (image : Image) (held : Held)
    (before now : Option (List ℕ)) (g : Going input bytes given total old image held before now) (at : Image) (from count : ℕ) → at ≡ image
    → count ≡ from + length (spelled g.frames) → AheadOf input total old from at count
here_ahead input bytes given total old image held before now g at from count same counted =
    let S : Image → Type 0 = λ i. StandsForBook i total g.book in
    let F : List Frame → Type 0 = λ l. FirstLines input l old (held_with total g.book held) in
    record {
      shown = g.frames;
      more = [];
      few = omega arith;
      state = held_with total g.book held;
      first = subst F (sym (append-nil g.frames)) g.first;
      there = subst S (sym same) g.stands;
      low = omega (arith, counted);
      high = omega (arith, counted, ap (λ l. length (spelled l)) (append-nil g.frames));
    }

-- before the first line
pub none_ahead : (IsThere : List Series → Type 0) (input : List ℕ) (at : LiveState) (from : ℕ) → IsThere at.state.book
    → IsAhead IsThere input at from from
none_ahead IsThere input at from there = record {
  shown = [];
  more = [];
  few = omega arith;
  state = at;
  first = no_lines input at;
  there = there;
  low = omega arith;
  high = omega arith;
}

lasts_first : (input : List ℕ) (total : ℕ) (book : List Series) (held : Held) (at : View) → Only at.image (Now at)
    → StandsForBook at.image total book → Lasts input total (held_with total book held) at at
lasts_first input total book held at only stands =
    let S : Image → Type 0 = λ i. StandsForBook i total book in
    since_none at (AheadOf input total (held_with total book held) (sent_now at))
    (λ image left. none_ahead (λ after. StandsForBook image total after) input (held_with total book held) (sent_now at)
    (subst S (sym (only image left)) stands))

-- while a piece of the input is taken
lasts_take : (input : List ℕ) (bytes : Option (List ℕ)) (given total : ℕ) (old : LiveState) (held : Held) (before now : Option (List ℕ))
    (start mid taken : View) → Only mid.image (Now mid) → Passes mid taken (Now mid) (λ count. count ≡ sent_now mid)
    → (g : Going input bytes given total old mid.image held before now) → sent_now mid ≡ sent_now start + length (spelled g.frames)
    → Lasts input total old start mid → Lasts input total old start taken
lasts_take input bytes given total old held before now start mid taken only passes g counted since =
    since_then start mid taken (AheadOf input total old (sent_now start)) since
    (through_by mid taken (Now mid) (λ count. count ≡ sent_now mid) (AheadOf input total old (sent_now start)) passes
    (λ image count left same. here_ahead input bytes given total old mid.image held before now g image (sent_now start) count
    (only image left) (same ∙ counted)))

-- while the next line is answered, and the pushes behind it are made
lasts_line : (input : List ℕ) (r r' : Reading) (left left' line : Option (List ℕ)) → Gives r r' left left' line → r'.given ≤ 2 ^ 32
    → (total : ℕ) (old : LiveState) (held : Held) (before now : Option (List ℕ)) (start mid new : View)
    (g : Going input (unread r left) r.given total old mid.image held before now)
    → sent_now mid ≡ sent_now start + length (spelled g.frames)
    → Through mid new (LinesMoment (unless_empty line) total (held_with total g.book held) (sent_now mid))
    → Lasts input total old start mid → Lasts input total old start new
lasts_line input r r' left left' line gives early total old held before now start mid new g counted through since =
    since_then start mid new (AheadOf input total old (sent_now start)) since
    (through_so mid new (LinesMoment (unless_empty line) total (held_with total g.book held) (sent_now mid))
    (AheadOf input total old (sent_now start))
    (λ image count m. line_ahead input r r' left left' line gives early total old mid.image image held before now now g (sent_now start)
    (sent_now mid) image count counted m) through)

-- ---- where the input and what was sent are told

-- how far the lines are answered, of an input that is told
abbrev pub Far : Option (List ℕ) → Option (List ℕ) → ℕ → ℕ → LiveState → Image → Held → Option (List ℕ) → Option (List ℕ) → Type 0
Far o bytes given total old image held before now = IfSome o (λ input. Going input bytes given total old image held before now)

abbrev pub LastsOn : ℕ → LiveState → Option (List ℕ) → Option (List ℕ) → View → View → Type 0
LastsOn total old o before start at = IfSome o (λ input. IfSome before (λ bytes. Lasts input total old start at))

pub far_first : (o : Option (List ℕ)) (r : Reading) (total : ℕ) (book : List Series) (image : Image) (held : Held)
    (before : Option (List ℕ)) → r ≡ unread_input → StandsForBook image total book → IsSound (state_of book total held.sessions)
    → Far o (unread r o) r.given total (held_with total book held) image held before before
far_first None r total book image held before fresh stands sound = tt
far_first (Some input) r total book image held before fresh stands sound = goes_first input r total book image held before fresh stands
    sound

pub lasts_on_first : (total : ℕ) (book : List Series) (held : Held) (o before : Option (List ℕ)) (at : View) → Only at.image (Now at)
    → StandsForBook at.image total book → LastsOn total (held_with total book held) o before at at
lasts_on_first total book held None before at only stands = tt
lasts_on_first total book held (Some input) None at only stands = tt
lasts_on_first total book held (Some input) (Some bytes) at only stands = lasts_first input total book held at only stands

pub far_kept : (o bytes : Option (List ℕ)) (given total : ℕ) (old : LiveState) (image image' : Image) (held held' : Held)
    (before now now' : Option (List ℕ)) → image' ≡ image → held' ≡ held → now' ≡ now → Far o bytes given total old image held before now
    → Far o bytes given total old image' held' before now'
far_kept None bytes given total old image image' held held' before now now' same same_held same_sent far = tt
far_kept (Some input) bytes given total old image image' held held' before now now' same same_held same_sent far = goes_kept input bytes
    given total old image image' held held' before now now' same same_held same_sent far

pub lasts_on_take : (o bytes : Option (List ℕ)) (given total : ℕ) (old : LiveState) (held : Held) (before now : Option (List ℕ))
    (start mid taken : View) → CountsSent before start → CountsSent now mid → Only mid.image (Now mid)
    → Passes mid taken (Now mid) (λ count. count ≡ sent_now mid)
    → Far o bytes given total old mid.image held before now → LastsOn total old o before start mid → LastsOn total old o before start taken
lasts_on_take None bytes given total old held before now start mid taken begins counts only passes far lasts = tt
lasts_on_take (Some input) bytes given total old held None now start mid taken begins counts only passes far lasts = tt
lasts_on_take (Some input) bytes given total old held (Some sent) now start mid taken begins counts only passes far lasts =
    lasts_take input bytes given total old held (Some sent) now start mid taken only passes far
    (sent_is sent _ now (sent_now start) (sent_now mid) begins far.sent counts) lasts

-- the moments of the next line, where what was sent is told
line_moments : (input : List ℕ) (r r' : Reading) (left left' line : Option (List ℕ)) → Gives r r' left left' line → r'.given ≤ 2 ^ 32
    → (total : ℕ) (old : LiveState) (held : Held) (start mid new : View) (before now : Option (List ℕ)) → CountsSent before start
    → CountsSent now mid → (g : Going input (unread r left) r.given total old mid.image held before now)
    → IfSome now (λ bytes. Through mid new (LinesMoment (unless_empty line) total (held_with total g.book held) (sent_now mid)))
    → IfSome before (λ bytes. Lasts input total old start mid) → IfSome before (λ bytes. Lasts input total old start new)
line_moments input r r' left left' line gives early total old held start mid new None now begins counts g through lasts = tt
line_moments input r r' left left' line gives early total old held start mid new
    (Some sent) None begins counts g through lasts = let no = g.sent in cc
line_moments input r r' left left' line gives early total old held start mid new (Some sent) (Some all) begins counts g through lasts =
    lasts_line input r r' left left' line gives early total old held (Some sent) (Some all) start mid new g
    (sent_is sent _ (Some all) (sent_now start) (sent_now mid) begins g.sent counts) through lasts

-- the next line, which a call answers from the state on that the lines before it left
module _ (r r' : Reading) (left left' line : Option (List ℕ)) (gives : Gives r r' left left' line) (early : r'.given ≤ 2 ^ 32) (total : ℕ)
    (old : LiveState) (held held' : Held) (mid new : View) (before now later : Option (List ℕ)) where
  abbrev pub DoesIt : {T : Type 0} → Result T End → Type 0
  DoesIt result = (between : List Series) → StandsForBook mid.image total between → IsSound (state_of between total held.sessions)
      → DoesLines (unless_empty line) total (held_with total between held) result mid new held' now later

  pub far_line : {T : Type 0} (v : T) (o : Option (List ℕ)) → DoesIt (Ok v)
      → Far o (unread r left) r.given total old mid.image held before now
      → Far o (unread r' left') r'.given total old new.image held' before later
  far_line {T} v None does far = tt
  far_line {T} v (Some input) does far = goes_line input r r' left left' line gives early total old mid.image new.image held before now
      later far held' mid.reads new.reads (does far.book far.stands far.sound).done

  pub line_stops : {T : Type 0} (end : End) (o rest : Option (List ℕ)) → DoesIt {T = T} (Err end)
      → Far o (unread r left) r.given total old mid.image held before now
      → IfSome o (λ input. EndsSo (Stands total new.image) input old rest before later end)
  line_stops {T} end None rest does far = tt
  line_stops {T} end (Some input) rest does far = line_ends input r r' left left' line gives early total old mid.image new.image held before
      now later far end rest (does far.book far.stands far.sound).stops

  pub lasts_on_line : {T : Type 0} (result : Result T End) (o : Option (List ℕ)) (start : View) → CountsSent before start
      → CountsSent now mid → DoesIt result → Far o (unread r left) r.given total old mid.image held before now
      → LastsOn total old o before start mid → LastsOn total old o before start new
  lasts_on_line {T} result None start begins counts does far lasts = tt
  lasts_on_line {T} result (Some input) start begins counts does far lasts =
      line_moments input r r' left left' line gives early total old held start mid new before now begins counts far
      (does far.book far.stands far.sound).moments lasts

-- the other ends, of an input that is told
pub all_on : (o bytes : Option (List ℕ)) (given total : ℕ) (old : LiveState) (image : Image) (held : Held) (before now : Option (List ℕ))
    → held.pending ≡ [] → IfSome (told_lines bytes) (λ all. all ≡ []) → Far o bytes given total old image held before now
    → IfSome o (λ input. SendsAll (Stands total image) input old before now)
all_on None bytes given total old image held before now idle none far = tt
all_on (Some input) bytes given total old image held before now idle none far = all_answered input total old image held before now idle
    bytes given none far

pub fault_on : (o : Option (List ℕ)) (total : ℕ) (old : LiveState) (image : Image) (held : Held) (before now : Option (List ℕ))
    → held.pending ≡ [] → (r r' : Reading) (left left' : Option (List ℕ)) (f : LineFault) → r.given ≤ 2 ^ 32
    → (f ≡ fault.ReadFault → IfSome o (λ input. IsWhole (take r.given input)))
    → (f ≡ fault.ReadFault → NoLineIn (r'.taken - r.given) (unread r left))
    → (f ≡ fault.InputTooLong → NoLineIn (2 ^ 32 - r.given) (unread r left)) → (f ≡ fault.InputTooLong → 2 ^ 32 < r'.taken)
    → left' ≡ left_after (r'.taken - r.given) (unread r left) → r.taken ≡ r.given + length r.pending
    → input_length r'.taken left' ≡ input_length r.taken left → Far o (unread r left) r.given total old image held before now
    → IfSome o (λ input. EndsSo (Stands total image) input old left' before now (input_end f))
fault_on None total old image held before now idle r r' left left' f few whole none_read none_past past after counted sum far = tt
fault_on (Some input) total old image held before now idle r r' left left' f few whole none_read none_past past after counted sum
    far = fault_ends input total old image held before now idle r r' left left' f few whole none_read none_past past after counted sum far

pub no_memory_on : (total : ℕ) (book : List Series) (held : Held) (o left before : Option (List ℕ)) (image : Image)
    → StandsForBook image total book → IfSome o (λ input. EndsSo (Stands total image) input
    (held_with total book held) left before before NoMemory)
no_memory_on total book held None left before image stands = tt
no_memory_on total book held (Some input) left before image stands = no_memory_first input total book held left before image stands
