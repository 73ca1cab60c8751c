-- How many blocks the lines so far have read, and the pushes behind them.
use Rattle.std.proofs.Common.{◌≡◌, ◌∙◌, ℕ, Bool, true, false, cond, List, length, [], ◌∷◌, ◌++◌, Option, Some, None, Result, Ok, IfSome}
use Rattle.std.proofs.Common.{refl, ap, sym, subst, inl, inr}
use Rattle.std.specs.List.{filter, after_first}
use Rattle.std.proofs.lemmas.List.{append-nil}
use Rattle.block_disk.specs.View.{Image, View}
use Rattle.chart_frames.specs.declared.frame.Frame.{Frame}
use Rattle.chart_service.specs.Serving.{told, unless_empty}
use Rattle.chart_service.specs.State.{IsSound}
use Rattle.chart_service.specs.Stepping.{state_of}
use Rattle.chart_world.specs.FrontLaws.{Passed, passes}
use Rattle.chart_world.specs.Fronts.{says, BeginsWith, Gives, first_piece}
use Rattle.chart_world.specs.LineLaws.{lines_none, piece_line, said, told_more}
use Rattle.chart_world.specs.Lines.{is_line_feed, lines}
use Rattle.chart_world.specs.Reading.{Reading, unread, unread_input}
use Rattle.live_service.specs.LiveReplies.{LiveState}
use Rattle.run_ends.specs.declared.ending.End.{End}
use Rattle.series_book.specs.declared.one_series.Series.{Series}
use Rattle.stored_book.specs.Standing.{StandsForBook}
use Rattle.hosted_lines.specs.Doing.{DoesLines, Held, LinesDone, LinesRead, held_with}
use Rattle.hosted_lines.specs.Reads.{ReadsBy, ReadsLines}
use Rattle.hosted_lines.proofs.EventLemmas.{reads_more, reads_none}

-- the lines so far have read so many blocks, from one number to another
pub record Read (input : List ℕ) (bytes : Option (List ℕ)) (given total : ℕ) (old : LiveState) (image : Image) (held : Held)
    (from to : ℕ) : Type 0 where
  pub frames : List Frame
  pub book : List Series
  pub stands : StandsForBook image total book
  pub sound : IsSound (state_of book total held.sessions)
  pub front : List ℕ
  pub rest : List ℕ
  pub begins : BeginsWith input front rest
  pub told_rest : bytes ≡ Some rest
  pub counted : given ≡ length front
  pub reads : ReadsBy (told front) frames old (held_with total book held) from to

none_told : (at : LiveState) (count : ℕ) → ReadsBy (told []) [] at at count count
none_told at count = let P : List (Option (List ℕ)) → Type 0 = λ l. ReadsBy (filter says l) [] at at count count in
    subst P (sym lines_none) (reads_none at count)

-- no line yet
pub none_read : (input : List ℕ) (at : LiveState) (count : ℕ) → ReadsLines input at count count
none_read input at count = record {
  front = [];
  rest = input;
  begins = record { split = refl; whole = inl (inl refl) };
  frames = [];
  state = at;
  count = count;
  answered = none_told at count;
  last = inl refl;
}

pub read_first : (input : List ℕ) (r : Reading) (total : ℕ) (book : List Series) (image : Image) (held : Held) (count : ℕ)
    → r ≡ unread_input → StandsForBook image total book → IsSound (state_of book total held.sessions)
    → Read input (unread r (Some input)) r.given total (held_with total book held) image held count count
read_first input r total book image held count fresh stands sound =
    let P : Reading → Type 0 = λ x. Read input (unread x (Some input)) x.given total (held_with total book held) image held count count in
    subst P (sym fresh) (record {
      frames = [];
      book = book;
      stands = stands;
      sound = sound;
      front = [];
      rest = input;
      begins = record { split = refl; whole = inl (inl refl) };
      told_rest = refl;
      counted = refl;
      reads = none_told (held_with total book held) count;
    })

pub read_kept : (input : List ℕ) (bytes : Option (List ℕ)) (given total : ℕ) (old : LiveState) (image image' : Image) (held held' : Held)
    (from to to' : ℕ) → image' ≡ image → held' ≡ held → to' ≡ to → Read input bytes given total old image held from to
    → Read input bytes given total old image' held' from to'
read_kept input bytes given total old image image' held held' from to to' same same_held same_count g =
    let H : Held → Type 0 = λ h. Read input bytes given total old image' h from to' in
    let I : Image → Type 0 = λ i. Read input bytes given total old i held from to' in
    let N : ℕ → Type 0 = λ n. Read input bytes given total old image held from n in
    subst H (sym same_held) (subst I (sym same) (subst N (sym same_count) g))

-- what they have read they have read
pub read_lines : (input : List ℕ) (bytes : Option (List ℕ)) (given total : ℕ) (old : LiveState) (image : Image) (held : Held) (from to : ℕ)
    → Read input bytes given total old image held from to → ReadsLines input old from to
read_lines input bytes given total old image held from to g = record {
  front = g.front;
  rest = g.rest;
  begins = g.begins;
  frames = g.frames;
  state = held_with total g.book held;
  count = to;
  answered = g.reads;
  last = inl refl;
}

-- the next line
module _ (input : List ℕ) (r r' : Reading) (left left' line : Option (List ℕ)) (gives : Gives r r' left left' line) (total : ℕ)
    (old : LiveState) (image image' : Image) (held : Held) (from between to : ℕ) (before now : Option (List ℕ))
    (g : Read input (unread r left) r.given total old image held from between) where
  abbrev here : LiveState
  here = held_with total g.book held

  it_passes : Passed input g.front g.rest (unread r' left') r'.given line
  it_passes = passes input g.front g.rest r r' left left' line g.told_rest g.counted g.begins gives

  told_all : told (g.front ++ first_piece g.rest) ≡ told g.front ++ unless_empty line
  told_all = told_more g.front (first_piece g.rest) line it_passes.whole (piece_line g.rest line it_passes.lines_are)

  with_line : (frames : List Frame) (new : LiveState) (count : ℕ) → ReadsBy (unless_empty line) frames here new between count
      → ReadsBy (told (g.front ++ first_piece g.rest)) (g.frames ++ frames) old new from count
  with_line frames new count reads =
      let P : List (Option (List ℕ)) → Type 0 = λ l. ReadsBy l (g.frames ++ frames) old new from count in
      subst P (sym told_all) (reads_more (told g.front) (unless_empty line) g.frames frames old here new from between count g.reads reads)

  without_line : (frames : List Frame) (new : LiveState) (count : ℕ) → ReadsBy [] frames here new between count
      → ReadsBy (told g.front) (g.frames ++ frames) old new from count
  without_line frames new count reads =
      let P : List (Option (List ℕ)) → Type 0 = λ l. ReadsBy l (g.frames ++ frames) old new from count in
      subst P (append-nil (told g.front)) (reads_more (told g.front) [] g.frames frames old here new from between count g.reads reads)

  pub read_line : (held' : Held) → LinesDone (unless_empty line) total here image' held' between to before now
      → Read input (unread r' left') r'.given total old image' held' from to
  read_line held' d = record {
    frames = g.frames ++ d.frames;
    book = d.book;
    stands = d.stands;
    sound = d.sound;
    front = g.front ++ first_piece g.rest;
    rest = after_first is_line_feed g.rest;
    begins = it_passes.begins;
    told_rest = it_passes.told_rest;
    counted = it_passes.counted;
    reads = with_line d.frames (held_with total d.book held') to d.reads;
  }

  -- the line isn't empty, so it is the next one
  the_next : (other : Option (List ℕ)) → unless_empty line ≡ other ∷ [] → line ≡ other
  the_next other is = by (says line) refl
    where
      by : (v : Bool) → says line ≡ v → line ≡ other
      by true some = let one : line ∷ [] ≡ other ∷ [] = sym (said line some) ∙ is in cc
      by false none = let no : [] ≡ other ∷ [] = sym (ap (λ b. cond b (line ∷ []) []) none) ∙ is in cc

  pub read_some : LinesRead (unless_empty line) here between to → ReadsLines input old from to
  read_some s = elim s.are_first [
    | inl none ↦
        let P : List (Option (List ℕ)) → Type 0 = λ l. ReadsBy l s.frames here s.state between s.count in
        record {
          front = g.front;
          rest = g.rest;
          begins = g.begins;
          frames = g.frames ++ s.frames;
          state = s.state;
          count = s.count;
          answered = without_line s.frames s.state s.count (subst P none s.answered);
          last = elim s.last [
            | inl same ↦ inl same
            | inr more ↦ elim more [
              | inl one ↦ inr (inl (
                one.0,
                lines (after_first is_line_feed g.rest),
                it_passes.lines_are ∙ ap (λ l. l ∷ lines (after_first is_line_feed g.rest)) (the_next one.0 one.2),
                one.3,
              ))
              | inr push ↦ inr (inr push)
            ]
          ];
        }
    | inr all ↦
        let P : List (Option (List ℕ)) → Type 0 = λ l. ReadsBy l s.frames here s.state between s.count in
        record {
          front = g.front ++ first_piece g.rest;
          rest = after_first is_line_feed g.rest;
          begins = it_passes.begins;
          frames = g.frames ++ s.frames;
          state = s.state;
          count = s.count;
          answered = with_line s.frames s.state s.count (subst P all s.answered);
          last = elim s.last [
            | inl same ↦ inl same
            | inr more ↦ elim more [
              | inl one ↦ let no : [] ≡ one.0 ∷ [] = sym one.1 ∙ all ∙ one.2 in cc
              | inr push ↦ inr (inr push)
            ]
          ];
        }
  ]

-- ---- where the input is told

abbrev pub FarRead : Option (List ℕ) → Option (List ℕ) → ℕ → ℕ → LiveState → Image → Held → ℕ → ℕ → Type 0
FarRead o bytes given total old image held from to = IfSome o (λ input. Read input bytes given total old image held from to)

pub far_read_first : (o : Option (List ℕ)) (r : Reading) (total : ℕ) (book : List Series) (image : Image) (held : Held) (count : ℕ)
    → r ≡ unread_input → StandsForBook image total book → IsSound (state_of book total held.sessions)
    → FarRead o (unread r o) r.given total (held_with total book held) image held count count
far_read_first None r total book image held count fresh stands sound = tt
far_read_first (Some input) r total book image held count fresh stands sound = read_first input r total book image held count fresh stands
    sound

pub far_read_kept : (o bytes : Option (List ℕ)) (given total : ℕ) (old : LiveState) (image image' : Image) (held held' : Held)
    (from to to' : ℕ) → image' ≡ image → held' ≡ held → to' ≡ to → FarRead o bytes given total old image held from to
    → FarRead o bytes given total old image' held' from to'
far_read_kept None bytes given total old image image' held held' from to to' same same_held same_count far = tt
far_read_kept (Some input) bytes given total old image image' held held' from to to' same same_held same_count far = read_kept input bytes
    given total old image image' held held' from to to' same same_held same_count far

pub reads_far : (o bytes : Option (List ℕ)) (given total : ℕ) (old : LiveState) (image : Image) (held : Held) (from to : ℕ)
    → FarRead o bytes given total old image held from to → IfSome o (λ input. ReadsLines input old from to)
reads_far None bytes given total old image held from to far = tt
reads_far (Some input) bytes given total old image held from to far = read_lines input bytes given total old image held from to far

pub reads_nothing : (o : Option (List ℕ)) (at : LiveState) (count : ℕ) → IfSome o (λ input. ReadsLines input at count count)
reads_nothing None at count = tt
reads_nothing (Some input) at count = none_read input at count

module _ (r r' : Reading) (left left' line : Option (List ℕ)) (gives : Gives r r' left left' line) (total : ℕ) (old : LiveState)
    (held held' : Held) (mid new : View) (from : ℕ) (now later : Option (List ℕ)) where
  abbrev pub DoesIt : {T : Type 0} → Result T End → Type 0
  DoesIt result = (between : List Series) → StandsForBook mid.image total between → IsSound (state_of between total held.sessions)
      → DoesLines (unless_empty line) total (held_with total between held) result mid new held' now later

  pub far_read_line : {T : Type 0} (v : T) (o : Option (List ℕ)) → DoesIt (Ok v)
      → FarRead o (unread r left) r.given total old mid.image held from mid.reads
      → FarRead o (unread r' left') r'.given total old new.image held' from new.reads
  far_read_line {T} v None does far = tt
  far_read_line {T} v (Some input) does far = read_line input r r' left left' line gives total old mid.image new.image held from mid.reads
      new.reads now later far held' (does far.book far.stands far.sound).done

  pub reads_stopped : {T : Type 0} (result : Result T End) (o : Option (List ℕ)) → DoesIt result
      → FarRead o (unread r left) r.given total old mid.image held from mid.reads → IfSome o (λ input. ReadsLines input old from new.reads)
  reads_stopped {T} result None does far = tt
  reads_stopped {T} result (Some input) does far = read_some input r r' left left' line gives total old mid.image new.image held from
      mid.reads new.reads now later far (does far.book far.stands far.sound).reads
