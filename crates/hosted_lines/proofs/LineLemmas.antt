-- A line is answered and its frame is sent, or a push is made; and what comes of several of them.
use Rattle.std.proofs.Common.{◌≡◌, ◌∙◌, ℕ, ◌+◌, ◌<◌, ◌≤◌, List, [], ◌∷◌, ◌++◌, length, Option, Some, None, Result, Ok, Err, IfSome, refl}
use Rattle.std.proofs.Common.{ap, sym, subst, arith, inl, inr, append_assoc}
use Rattle.std.specs.Prelude.{OnOk, IfErr}
use Rattle.std.proofs.lemmas.List.{append-nil}
use Rattle.block_disk.specs.Streams.{sent_after}
use Rattle.block_disk.specs.View.{Image, View, DiskKept, Now, Only, Passes, sent_now}
use Rattle.block_disk.specs.SentLaws.{sent_none, sent_is}
use Rattle.chart_frames.specs.declared.frame.Frame.{Frame}
use Rattle.chart_frames.specs.Frames.{spelling}
use Rattle.chart_service.specs.MomentLaws.{through_none, through_by, through_so, through_then}
use Rattle.chart_service.specs.Moments.{Through}
use Rattle.chart_service.specs.ReadingBlocks.{ReadsLine}
use Rattle.chart_service.specs.Serving.{unless_empty}
use Rattle.chart_world.specs.LineLaws.{said, says_text}
use Rattle.chart_service.specs.State.{IsSound}
use Rattle.chart_service.specs.Stepping.{IsOutside, IsUnchangedFor, state_of}
use Rattle.chart_service.specs.declared.failure.ServiceError.{ServiceError}
use Rattle.chart_service.specs.declared.failure.ServiceError.TheVariants as step
use Rattle.gate_pages.specs.Pages.{Quiet}
use Rattle.live_service.specs.LiveReplies.{LiveState, ReadsPush}
use Rattle.live_service.specs.Shown.{IsBeforeOrAfter}
use Rattle.run_ends.specs.declared.ending.End.{End}
use Rattle.run_ends.specs.declared.ending.End.TheVariants.{NoMemory, SendFault, DiskFault}
use Rattle.series_book.specs.declared.one_series.Series.{Series}
use Rattle.stored_book.specs.Standing.{StandsForBook}
use Rattle.hosted_lines.specs.Doing.{CountsSent}
use Rattle.hosted_lines.proofs.FaultLemmas.{told_any}
use Rattle.hosted_lines.specs.Doing.{AreFirst, DoesLines, FrameStops, Held, LinesDone, LinesMoment, LinesRead, LinesStop, held_with}
use Rattle.hosted_lines.specs.Doing.{step_end}
use Rattle.hosted_lines.specs.Lives.{LivesBy, spelled}
use Rattle.hosted_lines.specs.Reads.{ReadsBy}
use Rattle.hosted_lines.proofs.EventLemmas.{by_more, by_none, length_more, length_one, reads_more, reads_none, sent_then, spelled_one}

pub of_frame : (some : Option Frame) (frame : Frame) (IsSo : Frame → Type 0) → some ≡ Some frame → IfSome some IsSo → IsSo frame
of_frame some frame IsSo is all = let P : Option Frame → Type 0 = λ o. IfSome o IsSo in subst P is all

-- ---- nothing is done yet

-- the image stands for the book from before, and no byte was sent
pub none_moment : (lines : List (Option (List ℕ))) (total : ℕ) (old : LiveState) (from : ℕ) (image : Image) (sent : ℕ)
    → StandsForBook image total old.state.book → sent ≡ from → LinesMoment lines total old from image sent
none_moment lines total old from image sent stands same = record {
  first = [];
  are_first = inl refl;
  shown = [];
  more = [];
  few = omega arith;
  state = old;
  lives = by_none old;
  stands = stands;
  low = omega (arith, same);
  high = omega (arith, same);
}

-- ---- what was read

one_read : (lines : List (Option (List ℕ))) (old new : LiveState) (frame : Frame) (from to : ℕ) → ReadsBy lines (frame ∷ []) old new from to
    → LinesRead lines old from to
one_read lines old new frame from to read = record {
  first = lines;
  are_first = inr refl;
  frames = frame ∷ [];
  state = new;
  count = to;
  answered = read;
  last = inl refl;
}

-- a line, or a push, that failed
pub line_read : (line : Option (List ℕ)) (old : LiveState) (from to : ℕ) → ReadsLine line old.state from to
    → LinesRead (line ∷ []) old from to
line_read line old from to read = record {
  first = [];
  are_first = inl refl;
  frames = [];
  state = old;
  count = from;
  answered = reads_none old from;
  last = inr (inl (line, refl, refl, read));
}

pub push_read : (old : LiveState) (from to : ℕ) → ReadsPush old.pending old.state from to → LinesRead [] old from to
push_read old from to read = record {
  first = [];
  are_first = inl refl;
  frames = [];
  state = old;
  count = from;
  answered = reads_none old from;
  last = inr (inr read);
}

-- ---- one frame

-- a frame that is so leads from one state to others, and these are the lines that it answers
module _ (lines : List (Option (List ℕ))) (total : ℕ) (old : LiveState) (Reply : Frame → LiveState → LiveState
    → Type 0) (one : (frame : Frame) (new : LiveState) → Reply frame old new → LivesBy lines (frame ∷ []) old new) where
  one_moment : (frame : Frame) (new : LiveState) (from : ℕ) (image : Image) (sent : ℕ) → Reply frame old new
      → StandsForBook image total new.state.book → from ≤ sent → sent ≤ from + length (spelling frame)
      → LinesMoment lines total old from image sent
  one_moment frame new from image sent replied stands low high = record {
    first = lines;
    are_first = inr refl;
    shown = [];
    more = frame ∷ [];
    few = omega arith;
    state = new;
    lives = one frame new replied;
    stands = stands;
    low = omega (arith, low);
    high = omega (arith, high, length_one frame);
  }

  -- while it is made
  pub made_moments : (view view' : View) → Passes view view' (IsBeforeOrAfter Reply total old) (Quiet view)
      → Through view view' (LinesMoment lines total old (sent_now view))
  made_moments view view' passes = through_by view view' (IsBeforeOrAfter Reply total old) (Quiet view)
      (LinesMoment lines total old (sent_now view)) passes
      (λ image count left quiet. elim left [
        | inl before ↦ none_moment lines total old (sent_now view) image count before quiet
        | inr after ↦ one_moment after.frame after.after (sent_now view) image count after.replied after.stands (omega (arith, quiet))
            (omega (arith, quiet))
      ])

  -- while it is sent
  sent_moments : (frame : Frame) (new : LiveState) (from : ℕ) (mid view : View) → Reply frame old new
      → StandsForBook mid.image total new.state.book → from ≡ sent_now mid → Only mid.image (Now mid)
      → Passes mid view (Now mid) (λ count. (sent_now mid ≤ count) × (count ≤ sent_now view))
      → sent_now view ≤ sent_now mid + length (spelling frame) → Through mid view (LinesMoment lines total old from)
  sent_moments frame new from mid view replied stands same only sends most =
      let S : Image → Type 0 = λ i. StandsForBook i total new.state.book in
      through_by mid view (Now mid) (λ count. (sent_now mid ≤ count) × (count ≤ sent_now view)) (LinesMoment lines total old from) sends
      (λ image count left sent. one_moment frame new from image count replied (subst S (sym (only image left)) stands)
      (omega (arith, sent.0, same)) (omega (arith, sent.1, most, same)))

  -- it was made, and sent or not
  module _ (frame : Frame) (held : Held) (book : List Series) (replied : Reply frame old (held_with total book held))
      (sound : IsSound (state_of book total held.sessions)) (image : Image) (stands : StandsForBook image total book) (from to : ℕ)
      (read : ReadsBy lines (frame ∷ []) old (held_with total book held) from to) (before now : Option (List ℕ)) where
    frame_done : now ≡ sent_after (spelling frame) before → LinesDone lines total old image held from to before now
    frame_done sent = record {
      frames = frame ∷ [];
      book = book;
      stands = stands;
      sound = sound;
      lives = one frame (held_with total book held) replied;
      reads = read;
      sent = sent ∙ ap (λ t. sent_after t before) (sym (spelled_one frame));
    }

    frame_stops : (end : End) → FrameStops frame before now end → LinesStop lines total old image before now end
    frame_stops SendFault stops = record {
      first = lines;
      are_first = inr refl;
      shown = [];
      last = frame;
      state = held_with total book held;
      lives = one frame (held_with total book held) replied;
      stands = stands;
      between = before;
      whole = sent_none before;
      part = stops;
    }
    frame_stops NoMemory stops = record {
      first = lines;
      are_first = inr refl;
      shown = [];
      more = frame ∷ [];
      few = omega arith;
      state = held_with total book held;
      lives = one frame (held_with total book held) replied;
      stands = stands;
      sent = stops ∙ sent_none before;
    }
    frame_stops end stops = absurd stops

  -- a frame is made by one call, which sends nothing, and sent by another, which leaves all but the streams
  pub frame_does : {T : Type 0} (frame : Frame) (held held' : Held) → held' ≡ held → (book : List Series)
      → Reply frame old (held_with total book held) → IsSound (state_of book total held.sessions)
      → (view mid new : View) (before between now : Option (List ℕ)) → StandsForBook mid.image total book
      → Through view mid (LinesMoment lines total old (sent_now view)) → sent_now mid ≡ sent_now view → between ≡ before
      → ReadsBy lines (frame ∷ []) old (held_with total book held) view.reads mid.reads → DiskKept mid new
      → (result : Result T End) → OnOk result (now ≡ sent_after (spelling frame) between) → IfErr result (FrameStops frame between now)
      → Only mid.image (Now mid) → Passes mid new (Now mid) (λ count. (sent_now mid ≤ count) × (count ≤ sent_now new))
      → sent_now new ≤ sent_now mid + length (spelling frame) → DoesLines lines total old result view new held' before now
  frame_does {T} frame held held' same book replied sound view mid new before between now stands made quiet unsent read kept result whole
      stops only sends most =
      let S : Image → Type 0 = λ i. StandsForBook i total book in
      let H : Held → Type 0 = λ h. DoesLines lines total old result view new h before now in
      let there : StandsForBook new.image total book = subst S (sym kept.image) stands in
      let R : ℕ → Type 0 = λ n. ReadsBy lines (frame ∷ []) old (held_with total book held) view.reads n in
      let reads : ReadsBy lines (frame ∷ []) old (held_with total book held) view.reads new.reads = subst R (sym kept.reads) read in
      let moments = told_any (through_then view mid new (LinesMoment lines total old (sent_now view)) made
      (sent_moments frame (held_with total book held) (sent_now view) mid new replied stands (sym quiet) only sends most)) before in
      subst H (sym same) (by result whole stops there moments reads)
    where
      by : (r : Result T End) → OnOk r (now ≡ sent_after (spelling frame) between) → IfErr r (FrameStops frame between now)
          → StandsForBook new.image total book → IfSome before (λ bytes. Through view new (LinesMoment lines total old (sent_now view)))
          → ReadsBy lines (frame ∷ []) old (held_with total book held) view.reads new.reads
          → DoesLines lines total old r view new held before now
      by (Ok v) whole stops there moments reads = record {
        done = frame_done frame held book replied sound new.image there view.reads
            new.reads reads before now (whole ∙ ap (sent_after (spelling frame)) unsent);
        stops = tt;
        moments = moments;
        reads = one_read lines old (held_with total book held) frame view.reads new.reads reads;
      }
      by (Err end) whole stops there moments reads =
          let P : Option (List ℕ) → Type 0 = λ b. FrameStops frame b now end in
          record {
            done = tt;
            stops = frame_stops frame held book replied sound new.image there view.reads new.reads reads before now end
                (subst P unsent stops);
            moments = moments;
            reads = one_read lines old (held_with total book held) frame view.reads new.reads reads;
          }

-- ---- a frame that wasn't made

abbrev pub NothingWith : ServiceError → Image → ℕ → List Series → Type 0
NothingWith step.DiskFault image total book = Unit {0}
NothingWith (step.Damaged page) image total book = Unit {0}
NothingWith step.NoMemory image total book = StandsForBook image total book

module _ (lines : List (Option (List ℕ))) (total : ℕ) (old : LiveState) (image : Image) (before now : Option (List ℕ))
    (unsent : now ≡ before) where
  unmade_so : (error : ServiceError) → IsOutside error → NothingWith error image total old.state.book
      → LinesStop lines total old image before now (step_end error)
  unmade_so step.DiskFault outside stands = record {
    first = [];
    are_first = inl refl;
    frames = [];
    state = old;
    lives = by_none old;
    sent = unsent ∙ sent_none before;
  }
  unmade_so (step.Damaged page) outside stands = elim outside [
    | inl fault ↦ absurd (cc (fault))
    | inr none ↦ absurd (cc (none))
  ]
  unmade_so step.NoMemory outside stands = record {
    first = [];
    are_first = inl refl;
    shown = [];
    more = [];
    few = omega arith;
    state = old;
    lives = by_none old;
    stands = stands;
    sent = unsent ∙ sent_none before;
  }

pub unmade_does : {T : Type 0} (lines : List (Option (List ℕ))) (total : ℕ) (old : LiveState) (held : Held) (view view' : View)
    (before now : Option (List ℕ)) (error : ServiceError) (end : End) → end ≡ step_end error → IsOutside error
    → NothingWith error view'.image total old.state.book → now ≡ before → Through view view' (LinesMoment lines total old (sent_now view))
    → LinesRead lines old view.reads view'.reads → DoesLines {T = T} lines total old (Err end) view view' held before now
unmade_does {T} lines total old held view view' before now error end is outside stands unsent moments reads =
    let P : End → Type 0 = λ e. LinesStop lines total old view'.image before now e in
    record {
      done = tt;
      stops = subst P (sym is) (unmade_so lines total old view'.image before now unsent error outside stands);
      moments = told_any moments before;
      reads = reads;
    }

-- with an error that is no fault of the disk nothing was committed
pub nothing_with : (error : ServiceError) (told : Type 0) (old new : View) (total : ℕ) (book : List Series) → told
    → IsUnchangedFor error told old new → StandsForBook old.image total book → NothingWith error new.image total book
nothing_with step.DiskFault told old new total book is same stands = tt
nothing_with (step.Damaged page) told old new total book is same stands = tt
nothing_with step.NoMemory told old new total book is same stands = let S : Image → Type 0 = λ i. StandsForBook i total book in
    subst S (sym (same.image is)) stands

pub nothing_pushed : (error : ServiceError) (image : Image) (total : ℕ) (book : List Series) → StandsForBook image total book
    → NothingWith error image total book
nothing_pushed step.DiskFault image total book stands = tt
nothing_pushed (step.Damaged page) image total book stands = tt
nothing_pushed step.NoMemory image total book stands = stands

-- while a push is made a crash leaves what it might have left before
pub push_moments : (lines : List (Option (List ℕ))) (total : ℕ) (old : LiveState) (view view' : View) → Only view.image (Now view)
    → StandsForBook view.image total old.state.book → Passes view view' (Now view) (Quiet view)
    → Through view view' (LinesMoment lines total old (sent_now view))
push_moments lines total old view view' only stands passes =
    let S : Image → Type 0 = λ i. StandsForBook i total old.state.book in
    through_by view view' (Now view) (Quiet view) (LinesMoment lines total old (sent_now view)) passes
    (λ image count left quiet. none_moment lines total old (sent_now view) image count (subst S (sym (only image left)) stands) quiet)

-- ---- pushes behind a line

-- These lines were answered, and pushes are made from there on.
module _ (lines : List (Option (List ℕ))) (total : ℕ) (old : LiveState) (image : Image) (held : Held) (from reached_by : ℕ)
    (before between : Option (List ℕ)) (d : LinesDone lines total old image held from reached_by before between) where
  abbrev reached : LiveState
  reached = held_with total d.book held

  all_lines : (first : List (Option (List ℕ))) (frames : List Frame) (new : LiveState) → AreFirst [] first
      → LivesBy first frames reached new → LivesBy lines (d.frames ++ frames) old new
  all_lines first frames new are_first lives =
      let none : first ≡ [] = elim are_first [ inl is ↦ is | inr is ↦ is ] in
      let P : List (Option (List ℕ)) → Type 0 = λ l. LivesBy l (d.frames ++ frames) old new in
      subst P (ap (λ l. lines ++ l) none ∙ append-nil lines) (by_more lines first d.frames frames old reached new d.lives lives)

  in_row : (shown more : List Frame) (new : LiveState) → LivesBy lines (d.frames ++ (shown ++ more)) old new
      → LivesBy lines ((d.frames ++ shown) ++ more) old new
  in_row shown more new lives = let P : List Frame → Type 0 = λ l. LivesBy lines l old new in
      subst P (sym (append_assoc d.frames shown more)) lives

  all_reads : (first : List (Option (List ℕ))) (frames : List Frame) (new : LiveState) (to : ℕ) → AreFirst [] first
      → ReadsBy first frames reached new reached_by to → ReadsBy lines (d.frames ++ frames) old new from to
  all_reads first frames new to are_first reads =
      let none : first ≡ [] = elim are_first [ inl is ↦ is | inr is ↦ is ] in
      let P : List (Option (List ℕ)) → Type 0 = λ l. ReadsBy l (d.frames ++ frames) old new from to in
      subst P (ap (λ l. lines ++ l) none ∙ append-nil lines)
      (reads_more lines first d.frames frames old reached new from reached_by to d.reads reads)

  then_read : (to : ℕ) → LinesRead [] reached reached_by to → LinesRead lines old from to
  then_read to r = record {
    first = lines;
    are_first = inr refl;
    frames = d.frames ++ r.frames;
    state = r.state;
    count = r.count;
    answered = all_reads r.first r.frames r.state r.count r.are_first r.answered;
    last = elim r.last [
      | inl same ↦ inl same
      | inr more ↦ elim more [
        | inl line ↦ let no : [] ≡ line.0 ∷ [] = line.2 in cc
        | inr push ↦ inr (inr push)
      ]
    ];
  }

  then_done : (image' : Image) (held' : Held) (to : ℕ) (now : Option (List ℕ))
      → LinesDone [] total reached image' held' reached_by to between now → LinesDone lines total old image' held' from to before now
  then_done image' held' to now e = record {
    frames = d.frames ++ e.frames;
    book = e.book;
    stands = e.stands;
    sound = e.sound;
    lives = all_lines [] e.frames (held_with total e.book held') (inl refl) e.lives;
    reads = all_reads [] e.frames (held_with total e.book held') to (inl refl) e.reads;
    sent = sent_then d.frames e.frames before between now d.sent e.sent;
  }

  then_stops : (image' : Image) (now : Option (List ℕ)) (end : End) → LinesStop [] total reached image' between now end
      → LinesStop lines total old image' before now end
  then_stops image' now SendFault s = record {
    first = lines;
    are_first = inr refl;
    shown = d.frames ++ s.shown;
    last = s.last;
    state = s.state;
    lives = in_row s.shown (s.last ∷ []) s.state (all_lines s.first (s.shown ++ s.last ∷ []) s.state s.are_first s.lives);
    stands = s.stands;
    between = s.between;
    whole = sent_then d.frames s.shown before between s.between d.sent s.whole;
    part = s.part;
  }
  then_stops image' now DiskFault s = record {
    first = lines;
    are_first = inr refl;
    frames = d.frames ++ s.frames;
    state = s.state;
    lives = all_lines s.first s.frames s.state s.are_first s.lives;
    sent = sent_then d.frames s.frames before between now d.sent s.sent;
  }
  then_stops image' now NoMemory s = record {
    first = lines;
    are_first = inr refl;
    shown = d.frames ++ s.shown;
    more = s.more;
    few = s.few;
    state = s.state;
    lives = in_row s.shown s.more s.state (all_lines s.first (s.shown ++ s.more) s.state s.are_first s.lives);
    stands = s.stands;
    sent = sent_then d.frames s.shown before between now d.sent s.sent;
  }
  then_stops image' now end s = absurd s

  then_moment : (sent sent' : ℕ) (image' : Image) (count : ℕ) → sent' ≡ sent + length (spelled d.frames)
      → LinesMoment [] total reached sent' image' count → LinesMoment lines total old sent image' count
  then_moment sent sent' image' count counted m = record {
    first = lines;
    are_first = inr refl;
    shown = d.frames ++ m.shown;
    more = m.more;
    few = m.few;
    state = m.state;
    lives = in_row m.shown m.more m.state (all_lines m.first (m.shown ++ m.more) m.state m.are_first m.lives);
    stands = m.stands;
    low = omega (arith, m.low, counted, length_more d.frames m.shown);
    high = omega (
      arith,
      m.high,
      counted,
      length_more d.frames (m.shown ++ m.more),
      ap (λ l. length (spelled l)) (append_assoc d.frames m.shown m.more),
    );
  }

then_moments : (lines : List (Option (List ℕ))) (total : ℕ) (old : LiveState) (held : Held) (view mid new : View)
    (before between : Option (List ℕ)) (d : LinesDone lines total old mid.image held view.reads mid.reads before between)
    → CountsSent before view → CountsSent between mid
    → IfSome before (λ bytes. Through view mid (LinesMoment lines total old (sent_now view)))
    → IfSome between (λ bytes. Through mid new (LinesMoment [] total (held_with total d.book held) (sent_now mid)))
    → IfSome before (λ bytes. Through view new (LinesMoment lines total old (sent_now view)))
then_moments lines total old held view mid new None between d begins counts first second = tt
then_moments lines total old held view mid new (Some sent) None d begins counts first second = let no = d.sent in cc
then_moments lines total old held view mid new (Some sent) (Some all) d begins counts first second =
    let counted = sent_is sent (spelled d.frames) (Some all) (sent_now view) (sent_now mid) begins d.sent counts in
    through_then view mid new (LinesMoment lines total old (sent_now view)) first
    (through_so mid new (LinesMoment [] total (held_with total d.book held) (sent_now mid)) (LinesMoment lines total old (sent_now view))
    (λ image count m. then_moment lines total old mid.image held view.reads mid.reads (Some sent) (Some all) d (sent_now view)
    (sent_now mid) image count counted m) second)

pub then_does : {T : Type 0} (lines : List (Option (List ℕ))) (total : ℕ) (old : LiveState) (held held' : Held) (view mid new : View)
    (before between now : Option (List ℕ)) (d : LinesDone lines total old mid.image held view.reads mid.reads before between)
    → CountsSent before view → CountsSent between mid
    → IfSome before (λ bytes. Through view mid (LinesMoment lines total old (sent_now view)))
    → (result : Result T End) → DoesLines [] total (held_with total d.book held) result mid new held' between now
    → DoesLines lines total old result view new held' before now
then_does {T} lines total old held held' view mid new before between now d begins counts first (Ok v) second = record {
  done = then_done lines total old mid.image held view.reads mid.reads before between d new.image held' new.reads now second.done;
  stops = tt;
  moments = then_moments lines total old held view mid new before between d begins counts first second.moments;
  reads = then_read lines total old mid.image held view.reads mid.reads before between d new.reads second.reads;
}
then_does {T} lines total old held held' view mid new before between now d begins counts first (Err end) second = record {
  done = tt;
  stops = then_stops lines total old mid.image held view.reads mid.reads before between d new.image now end second.stops;
  moments = then_moments lines total old held view mid new before between d begins counts first second.moments;
  reads = then_read lines total old mid.image held view.reads mid.reads before between d new.reads second.reads;
}

-- nothing is done
none_does : {T : Type 0} (v : T) (total : ℕ) (book : List Series) (held : Held) (at : View) (before : Option (List ℕ))
    → StandsForBook at.image total book → IsSound (state_of book total held.sessions)
    → DoesLines {T = T} [] total (held_with total book held) (Ok v) at at held before before
none_does {T} v total book held at before stands sound = record {
  done = record {
    frames = [];
    book = book;
    stands = stands;
    sound = sound;
    lives = by_none (held_with total book held);
    reads = reads_none (held_with total book held) at.reads;
    sent = sent_none before;
  };
  stops = tt;
  moments = told_any (through_none at (LinesMoment [] total (held_with total book held) (sent_now at))) before;
  reads = record {
    first = [];
    are_first = inl refl;
    frames = [];
    state = held_with total book held;
    count = at.reads;
    answered = reads_none (held_with total book held) at.reads;
    last = inl refl;
  };
}

pub still_does : {T : Type 0} (v : T) (total : ℕ) (book : List Series) (held held' : Held) (at new : View) (before now : Option (List ℕ))
    → held' ≡ held → new ≡ at → now ≡ before → StandsForBook at.image total book → IsSound (state_of book total held.sessions)
    → DoesLines {T = T} [] total (held_with total book held) (Ok v) at new held' before now
still_does {T} v total book held held' at new before now same_held same same_sent stands sound =
    let V : View → Type 0 = λ x. DoesLines {T = T} [] total (held_with total book held) (Ok v) at x held' before now in
    let H : Held → Type 0 = λ x. DoesLines {T = T} [] total (held_with total book held) (Ok v) at at x before now in
    let N : Option (List ℕ) → Type 0 = λ x. DoesLines {T = T} [] total (held_with total book held) (Ok v) at at held before x in
    subst V (sym same) (subst H (sym same_held) (subst N (sym same_sent) (none_does v total book held at before stands sound)))

-- ---- a line that may be empty

pub line_empty : {T : Type 0} (v : T) (text : List ℕ) (total : ℕ) (book : List Series) (held : Held) (at : View) (before : Option (List ℕ))
    → length text ≡ 0 → StandsForBook at.image total book → IsSound (state_of book total held.sessions)
    → DoesLines {T = T} (unless_empty (Some text)) total (held_with total book held) (Ok v) at at held before before
line_empty {T} v [] total book held at before none stands sound = none_does v total book held at before stands sound
line_empty {T} v (byte ∷ bytes) total book held at before none stands sound = absurd (omega (arith, none))

pub line_some : {T : Type 0} (text : List ℕ) (total : ℕ) (old : LiveState) (result : Result T End) (view view' : View) (held : Held)
    (before now : Option (List ℕ)) → 0 < length text → DoesLines (Some text ∷ []) total old result view view' held before now
    → DoesLines (unless_empty (Some text)) total old result view view' held before now
line_some {T} text total old result view view' held before now some does =
    let P : List (Option (List ℕ)) → Type 0 = λ l. DoesLines l total old result view view' held before now in
    subst P (sym (said (Some text) (says_text text some))) does
