-- What a load has done, by what a run of lines says.
use Rattle.std.proofs.Common.{◌≡◌, ◌≢◌, ◌∙◌, ℕ, ◌+◌, ◌^◌, ◌<◌, ◌≤◌, Bool, true, false, IsTrue, List, [], ◌∷◌, ◌++◌, length, Option, None}
use Rattle.std.proofs.Common.{Some, IfSome, refl, ap, sym, subst, inl, inr, arith, append_assoc, length-append}
use Rattle.std.specs.List.{filter, after_first}
use Rattle.std.proofs.lemmas.List.{append-nil}
use Rattle.std.proofs.lemmas.List.Elements.{filter-append}
use Rattle.block_disk.specs.View.{Image, View, Passes, sent_now}
use Rattle.chart_world.specs.FrontLaws.{begins_more, some_left, whole_front}
use Rattle.chart_world.specs.Fronts.{BeginsWith, IsWhole, first_piece, says}
use Rattle.chart_world.specs.LineLaws.{lines_first, piece_line, told_so}
use Rattle.chart_world.specs.Lines.{is_line_feed, lines, split_lines, text_of}
use Rattle.chart_world.specs.declared.line_answer.LineFault.TheVariants as fault
use Rattle.gate_pages.specs.Pages.{Quiet}
use Rattle.line_runs.specs.Carried.{Carries, Done}
use Rattle.line_runs.specs.CarriedLaws.{carries_both}
use Rattle.line_runs.specs.Ends.{stop_end}
use Rattle.line_runs.specs.Given.{AreBefore, Given, Line, Pause, given_from, given_lines, unpaused}
use Rattle.line_runs.specs.Given as lines_given
use Rattle.line_runs.specs.Moments.{Since}
use Rattle.line_runs.specs.Runs as runs
use Rattle.line_runs.specs.declared.lines_stop.LinesStop.{LinesStop}
use Rattle.line_runs.specs.declared.lines_stop.LinesStop.TheVariants as stop
use Rattle.series_book.specs.declared.one_series.Series.{Series}
use Rattle.series_book.specs.declared.refusals.Refusal.{Refusal}
use Rattle.stored_book.specs.Standing.{StandsForBook}
use Rattle.series_load.specs.Costs.{Costs, Spent, spent_by}
use Rattle.series_load.specs.Ends.{CostsFirst, EndsLoad, Finished, IsAtBad, IsAtRefusal, IsLoaded, KeepsSome, Stopped}
use Rattle.series_load.specs.Fronts.{PlacedLine, placed_from, told}
use Rattle.series_load.specs.Loading.{BadBy, Held, LoadDoes, LoadLeaves, LoadStops, NoneSent, RunsBy, StandsSo, moved}
use Rattle.series_load.specs.Rows.{AreTable, BadEarly, Stops}
use Rattle.series_load.specs.Runs.{AllRuns, AreFirst, Run, nothing}
use Rattle.series_load.specs.Sets.{AreFirstOf, IsAfter, IsAfterSome, IsPartDone, IsRefusedIn, Loads}
use Rattle.series_load.specs.Steps.{LineAdds, Read, SaysSo, StopsSo, closed, if_told}
use Rattle.run_ends.specs.declared.ending.End.{End}
use Rattle.run_ends.specs.declared.ending.End.TheVariants.{NoMemory, ReadFault, DiskFault, BadInput, InputTooLong, Refused}
use Rattle.series_load.specs.declared.loader.Loader.{Loader}
use Rattle.series_load.specs.declared.said.Said.TheVariants.{Bad}
use Rattle.series_load.proofs.CostLemmas.{costs_none}
use Rattle.series_load.proofs.FirstLemmas.{first_of}
use Rattle.series_load.proofs.Joined.{told_joined}
use Rattle.series_load.proofs.LineLemmas.{is_bad}
use Rattle.series_load.proofs.RunLemmas.{adds_gap}
use Rattle.series_load.proofs.SetLemmas.{after_then, loads_then}

-- ---- the lines that were given

-- those that say something, at their places
abbrev pub told_of : List Given → List PlacedLine
told_of [] = []
told_of (Line at line ∷ later) = if_told at line ++ told_of later
told_of (Pause ∷ later) = told_of later
told_of (lines_given.End ∷ later) = told_of later

abbrev pub AreLines : List Given → Type 0
AreLines [] = Unit {0}
AreLines (Line at line ∷ later) = AreLines later
AreLines (Pause ∷ later) = AreLines later
AreLines (lines_given.End ∷ later) = ⊥

told_from : (at : ℕ) (parts : List (List ℕ)) → told_of (given_from at parts) ≡ filter (λ (line : PlacedLine). says line.text)
    (placed_from at parts)
told_from at [] = refl
told_from at (part ∷ parts) =
    let test = λ (line : PlacedLine). says line.text in
    let here : PlacedLine = record { at = at; text = text_of part } in
    let later = placed_from (at + length part + 1) parts in
    ap (λ l. filter test (here ∷ []) ++ l) (told_from (at + length part + 1) parts) ∙ sym (filter-append test (here ∷ []) later)

lines_from : (at : ℕ) (parts : List (List ℕ)) → AreLines (given_from at parts)
lines_from at [] = tt
lines_from at (part ∷ parts) = lines_from (at + length part + 1) parts

pub told_given : (front : List ℕ) → told_of (given_lines front) ≡ told front
unfolding told given_lines
told_given front = told_from 0 (split_lines front)

pub only_lines : (front : List ℕ) → AreLines (given_lines front)
unfolding given_lines
only_lines front = lines_from 0 (split_lines front)

-- pauses say nothing
pub told_unpaused : (given : List Given) → told_of given ≡ told_of (unpaused given)
told_unpaused [] = refl
told_unpaused (Line at line ∷ later) = ap (λ l. if_told at line ++ l) (told_unpaused later)
told_unpaused (Pause ∷ later) = told_unpaused later
told_unpaused (lines_given.End ∷ later) = told_unpaused later

pub lines_unpaused : (given : List Given) → AreLines (unpaused given) → AreLines given
lines_unpaused [] only = tt
lines_unpaused (Line at line ∷ later) only = lines_unpaused later only
lines_unpaused (Pause ∷ later) only = lines_unpaused later only
lines_unpaused (lines_given.End ∷ later) only = only

-- ---- what was done of them

-- runs ended, the sets of the first were done, and the others wait
pub record Reached (held : Held) (given : List Given) (behind : Held) : Type 0 where
  pub runs : List Run
  pub done : List Run
  pub book : List Series
  pub waiting : List Run
  pub first : Bool
  pub open_run : Option Run
  pub points : ℕ
  pub asked : ℕ
  pub asked_is : asked ≡ held.asked + length done
  pub split : held.waiting ++ runs ≡ done ++ waiting
  pub loads : Loads held.total held.name held.book done book
  pub reads : AreLines given → (before : List PlacedLine) (others : List Run) → Read held.scale held.step before others held.first
      held.open_run held.points → Read held.scale held.step (before ++ told_of given) (others ++ runs) first open_run points
  pub behind_is : behind ≡ moved held book waiting first open_run points asked

-- runs end, and then others
split_then : (was ends runs done waiting done' waiting' : List Run) → was ++ ends ≡ done ++ waiting → waiting ++ runs ≡ done' ++ waiting'
    → was ++ (ends ++ runs) ≡ (done ++ done') ++ waiting'
split_then was ends runs done waiting done' waiting' first second =
    sym (append_assoc was ends runs) ∙ ap (λ l. l ++ runs) first ∙ append_assoc done waiting runs ∙ ap (λ l. done ++ l) second
    ∙ sym (append_assoc done done' waiting')

reached : (given : List Given) (held : Held) (text : List ℕ) (behind : Held) → Carries LoadDoes held given text behind
    → Reached held given behind
reached [] held text behind (none, same) = record {
  runs = [];
  done = [];
  book = held.book;
  waiting = held.waiting;
  first = held.first;
  open_run = held.open_run;
  points = held.points;
  asked = held.asked;
  asked_is = omega arith;
  split = append-nil held.waiting;
  loads = refl;
  reads = λ only before others read.
      let P : List PlacedLine → Type 0 = λ l. Read held.scale held.step l (others ++ []) held.first held.open_run held.points in
      let Q : List Run → Type 0 = λ r. Read held.scale held.step before r held.first held.open_run held.points in
      subst P (sym (append-nil before)) (subst Q (sym (append-nil others)) read);
  behind_is = same;
}
reached (Line at None ∷ later) held text behind follows = absurd follows.does
reached (Line at (Some line) ∷ later) held text behind follows =
    let did = follows.does in
    let P : Held → Type 0 = λ h. Reached h later behind in
    let rest : Reached (moved held did.book did.waiting did.first did.open_run did.points (held.asked + length did.done)) later
    behind = subst P did.behind_is
    (reached later follows.between follows.more behind follows.others) in
    let asked_is : rest.asked ≡ (held.asked + length did.done) + length rest.done = rest.asked_is in
    record {
      runs = did.ends ++ rest.runs;
      done = did.done ++ rest.done;
      book = rest.book;
      waiting = rest.waiting;
      first = rest.first;
      open_run = rest.open_run;
      points = rest.points;
      asked = rest.asked;
      asked_is = omega (arith, asked_is, length-append did.done rest.done);
      split = split_then held.waiting did.ends rest.runs did.done did.waiting rest.done rest.waiting did.split rest.split;
      loads = loads_then held.total held.name held.book did.book rest.book did.done rest.done did.loads rest.loads;
      reads = λ only before others read.
          let L : List PlacedLine → Type 0 = λ l. Read held.scale held.step l (others ++ (did.ends ++ rest.runs)) rest.first
          rest.open_run rest.points in
          let R : List Run → Type 0 = λ r. Read held.scale held.step ((before ++ if_told at (Some line)) ++ told_of later) r rest.first
          rest.open_run rest.points in
          subst L (append_assoc before (if_told at (Some line)) (told_of later)) (subst R (append_assoc others did.ends rest.runs)
          (rest.reads only (before ++ if_told at (Some line)) (others ++ did.ends) (did.adds before others read)));
      behind_is = rest.behind_is;
    }
reached (Pause ∷ later) held text behind follows =
    let did = follows.does in
    let P : Held → Type 0 = λ h. Reached h later behind in
    let rest : Reached (moved held did.book [] held.first held.open_run held.points (held.asked + length held.waiting)) later
    behind = subst P did.behind_is
    (reached later follows.between follows.more behind follows.others) in
    let asked_is : rest.asked ≡ (held.asked + length held.waiting) + length rest.done = rest.asked_is in
    record {
      runs = rest.runs;
      done = held.waiting ++ rest.done;
      book = rest.book;
      waiting = rest.waiting;
      first = rest.first;
      open_run = rest.open_run;
      points = rest.points;
      asked = rest.asked;
      asked_is = omega (arith, asked_is, length-append held.waiting rest.done);
      split = ap (λ l. held.waiting ++ l) rest.split ∙ sym (append_assoc held.waiting rest.done rest.waiting);
      loads = loads_then held.total held.name held.book did.book rest.book held.waiting rest.done did.loads rest.loads;
      reads = rest.reads;
      behind_is = rest.behind_is;
    }
reached (lines_given.End ∷ later) held text behind follows =
    let did = follows.does in
    let P : Held → Type 0 = λ h. Reached h later behind in
    let rest : Reached (moved held did.book [] held.first None held.points (held.asked + length (held.waiting ++ closed held.open_run)))
    later behind = subst P did.behind_is
    (reached later follows.between follows.more behind follows.others) in
    let asked_is : rest.asked ≡ (held.asked + length (held.waiting ++ closed held.open_run)) + length rest.done = rest.asked_is in
    record {
      runs = closed held.open_run ++ rest.runs;
      done = (held.waiting ++ closed held.open_run) ++ rest.done;
      book = rest.book;
      waiting = rest.waiting;
      first = rest.first;
      open_run = rest.open_run;
      points = rest.points;
      asked = rest.asked;
      asked_is = omega (arith, asked_is, length-append (held.waiting ++ closed held.open_run) rest.done);
      split = split_then held.waiting (closed held.open_run) rest.runs (held.waiting ++ closed held.open_run) [] rest.done rest.waiting
          (sym (append-nil (held.waiting ++ closed held.open_run))) rest.split;
      loads = loads_then held.total held.name held.book did.book rest.book
          (held.waiting ++ closed held.open_run) rest.done did.loads rest.loads;
      reads = λ only. absurd only;
      behind_is = rest.behind_is;
    }

-- ---- the first lines of an input

some_text : (text : List ℕ) → 0 < length text → IsTrue (says (Some text))
some_text [] some = absurd (omega (arith, some))
some_text (byte ∷ bytes) some = refl

-- what was read of the input
pub record Heard (scale step : ℕ) (input : List ℕ) (ended : List Run) (first : Bool) (open_run : Option Run) (points : ℕ) : Type 0 where
  pub front : List ℕ
  pub rest : List ℕ
  pub begins : BeginsWith input front rest
  pub early : length front ≤ 2 ^ 32
  pub read : Read scale step (told front) ended first open_run points

-- the next line of it
pub record NextOf (front rest : List ℕ) (line : Option (List ℕ)) : Type 0 where
  pub whole : IsWhole front
  pub some : rest ≢ []
  pub lines_are : lines rest ≡ line ∷ lines (after_first is_line_feed rest)
  pub early : length (front ++ first_piece rest) ≤ 2 ^ 32

pub next_of : (input front rest : List ℕ) (line : Option (List ℕ)) → BeginsWith input front rest
    → lines_given.NextLine (length front) rest line → NextOf front rest line
next_of input front rest line begins next =
    let some = some_left rest line next.later next.lines_are in
    let all = lines_first rest some in
    let both : text_of (Rattle.std.specs.List.before_first is_line_feed rest) ∷ lines (after_first is_line_feed rest) ≡ line
    ∷ next.later = sym all ∙ next.lines_are in
    let same : text_of (Rattle.std.specs.List.before_first is_line_feed rest) ≡ line = cc in
    record {
      whole = whole_front front rest begins.whole some;
      some = some;
      lines_are = all ∙ ap (λ l. l ∷ lines (after_first is_line_feed rest)) same;
      early = omega (arith, next.early, length-append front (first_piece rest));
    }

-- it is bad
pub long_early : (scale : ℕ) (front rest : List ℕ) → NextOf front rest None → BadEarly scale front rest
long_early scale front rest next = record {
  bad = record { line = None; later = lines (after_first is_line_feed rest); lines_are = next.lines_are; some = refl; bad = tt };
  early = next.early;
}

pub text_early : (scale : ℕ) (front rest text : List ℕ) (first : Bool) → (first ≡ false → 0 < length (told front))
    → NextOf front rest (Some text) → 0 < length text → SaysSo scale first text Bad → BadEarly scale front rest
text_early scale front rest text first some_yet next some says = record {
  bad = record {
    line = Some text;
    later = lines (after_first is_line_feed rest);
    lines_are = next.lines_are;
    some = some_text text some;
    bad = is_bad scale text first (told front) some_yet says;
  };
  early = next.early;
}

module _ (scale step : ℕ) (input : List ℕ) (ended : List Run) (first : Bool) (open_run : Option Run) (points : ℕ)
    (h : Heard scale step input ended first open_run points) where
  all_runs : AllRuns step h.read.rows (ended ++ closed open_run)
  all_runs = (None, adds_gap step open_run h.read.rows ended h.read.cut)

  -- the runs that have ended are the first of the input
  heard_first : AreFirst scale step input ended
  heard_first = record {
    front = h.front;
    rest = h.rest;
    early = h.early;
    rows = h.read.rows;
    reads = record { begins = h.begins; table = h.read.table };
    ended = inl (open_run, h.read.cut);
  }

  -- and so is that which stands open where the input stops
  stop_first : Stops scale h.front h.rest → AreFirst scale step input (ended ++ closed open_run)
  stop_first stops = record {
    front = h.front;
    rest = h.rest;
    early = h.early;
    rows = h.read.rows;
    reads = record { begins = h.begins; table = h.read.table };
    ended = inr (stops, all_runs);
  }

  bad_long : NextOf h.front h.rest None → BadEarly scale h.front h.rest
  bad_long next = long_early scale h.front h.rest next

  bad_text : (text : List ℕ) → NextOf h.front h.rest (Some text) → 0 < length text → SaysSo scale first text Bad
      → BadEarly scale h.front h.rest
  bad_text text next some says = text_early scale h.front h.rest text first h.read.some_yet next some says

  -- those that end with the next line
  line_first : (at : ℕ) (text : List ℕ) (ends : List Run) (first' : Bool) (new : Option Run) (points' : ℕ) → at ≡ length h.front
      → NextOf h.front h.rest (Some text)
      → LineAdds scale step at text first open_run points ends first' new points' → AreFirst scale step input (ended ++ ends)
  line_first at text ends first' new points' at_is next adds =
      let A : ℕ → Type 0 = λ a. LineAdds scale step a text first open_run points ends first' new points' in
      let e = (subst A at_is adds) (told h.front) ended h.read in
      let P : List PlacedLine → Type 0 = λ l. AreTable scale l e.rows in
      record {
        front = h.front ++ first_piece h.rest;
        rest = after_first is_line_feed h.rest;
        early = next.early;
        rows = e.rows;
        reads = record {
          begins = begins_more input h.front h.rest h.begins next.some;
          table = subst P (sym
              (told_joined h.front (first_piece h.rest) (Some text) next.whole (piece_line h.rest (Some text) next.lines_are))) e.table;
        };
        ended = inl (new, e.cut);
      }

-- ---- a load

module _ (total : ℕ) (name : List ℕ) (book : List Series) (series : Series) (since count : ℕ) (spent : Spent) where
  abbrev pub start : Held
  start = record {
    total = total;
    name = name;
    scale = series.scale;
    step = series.step;
    book = book;
    waiting = [];
    first = true;
    open_run = None;
    points = 0;
    since = since;
    count = count;
    before = spent;
    asked = 0;
  }

  module _ (done : Done LoadDoes start) where
    abbrev r : Reached start done.given done.behind
    r = reached done.given start done.text done.behind done.carries

    abbrev there : Held
    there = moved start r.book r.waiting r.first r.open_run r.points r.asked

    abbrev HeardOf : List ℕ → Type 0
    HeardOf input = Heard series.scale series.step input r.runs r.first r.open_run r.points

    read_start : Read series.scale series.step [] [] true None 0
    read_start = record { rows = []; table = inl tt; cut = nothing; counted = refl; none_yet = λ is. refl; some_yet = λ is. cc }

    read_of : (input : List ℕ) → (f : lines_given.AreFirst input done.given) → Read series.scale series.step (told f.front) r.runs
        r.first r.open_run r.points
    read_of input f =
        let only = lines_unpaused done.given (subst AreLines (sym f.given_are) (only_lines f.front)) in
        let P : List PlacedLine → Type 0 = λ l. Read series.scale series.step l r.runs r.first r.open_run r.points in
        subst P (told_unpaused done.given ∙ ap told_of f.given_are ∙ told_given f.front) (r.reads only [] [] read_start)

    abbrev heard : (input : List ℕ) → lines_given.AreFirst input done.given → HeardOf input
    heard input f = record { front = f.front; rest = f.rest; begins = f.begins; early = f.early; read = read_of input f }

    -- what ended is what was done and what waits
    ended_is : (more : List Run) → r.runs ++ more ≡ r.done ++ (r.waiting ++ more)
    ended_is more = ap (λ l. l ++ more) r.split ∙ append_assoc r.done r.waiting more

    some_first : (o : Option (List ℕ)) (runs later : List Run) → AreFirstOf series.scale series.step o (runs ++ later)
        → AreFirstOf series.scale series.step o runs
    some_first None runs later first = tt
    some_first (Some input) runs later first = first_of series.scale series.step input runs later first

    ended_first : (o : Option (List ℕ)) → IfSome o (λ input. lines_given.AreFirst input done.given)
        → AreFirstOf series.scale series.step o r.runs
    ended_first None are = tt
    ended_first (Some input) are = heard_first series.scale series.step input r.runs r.first r.open_run r.points (heard input are)

    firsts_of : (o : Option (List ℕ)) → IfSome o (λ input. lines_given.AreFirst input done.given)
        → AreFirstOf series.scale series.step o r.done
    firsts_of o are =
        let P : List Run → Type 0 = AreFirstOf series.scale series.step o in
        some_first o r.done r.waiting (subst P r.split (ended_first o are))

    as_waiting : (input : List ℕ) (runs : List Run) → runs ≡ r.waiting → AreFirst series.scale series.step input r.runs
        → AreFirst series.scale series.step input (r.done ++ runs)
    as_waiting input runs waits first =
        let P : List Run → Type 0 = AreFirst series.scale series.step input in
        subst P (r.split ∙ ap (λ l. r.done ++ l) (sym waits)) first

    with_open : (input : List ℕ) (runs : List Run) → runs ≡ r.waiting ++ closed r.open_run
        → AreFirst series.scale series.step input (r.runs ++ closed r.open_run) → AreFirst series.scale series.step input (r.done ++ runs)
    with_open input runs are first =
        let P : List Run → Type 0 = AreFirst series.scale series.step input in
        subst P (ended_is (closed r.open_run) ∙ ap (λ l. r.done ++ l) (sym are)) first

    next_first : (it : Given) (input : List ℕ) → AreBefore input done.given it → (runs : List Run)
        → RunsBy there it runs → AreFirst series.scale series.step input (r.done ++ runs)
    next_first (Line at None) input b runs are =
        let h = heard input b.first in
        let next = next_of input h.front h.rest None h.begins b.next_is.1 in
        with_open input runs are (stop_first series.scale series.step input r.runs r.first r.open_run r.points h
        (inr (bad_long series.scale series.step input r.runs r.first r.open_run r.points h next)))
    next_first (Line at (Some text)) input b runs are =
        let h = heard input b.first in
        let next = next_of input h.front h.rest (Some text) h.begins b.next_is.1 in
        elim are [
          | inl waits ↦ as_waiting input runs waits (heard_first series.scale series.step input r.runs r.first r.open_run r.points h)
          | inr either ↦ elim either [
            | inl line ↦
                let P : List Run → Type 0 = AreFirst series.scale series.step input in
                subst P (ended_is line.ends ∙ ap (λ l. r.done ++ l) (sym line.runs_are))
                (line_first series.scale series.step input r.runs r.first r.open_run r.points h at text line.ends line.first' line.new
                line.points' b.next_is.0 next line.adds)
            | inr bad ↦ with_open input runs bad.runs_are (stop_first series.scale series.step input r.runs r.first r.open_run r.points h
                (inr (bad_text series.scale series.step input r.runs r.first r.open_run r.points h text next bad.some bad.bad)))
          ]
        ]
    next_first Pause input b runs are = as_waiting input runs are
        (heard_first series.scale series.step input r.runs r.first r.open_run r.points (heard input b.first))
    next_first lines_given.End input b runs are =
        let h = heard input b.first in
        with_open input runs are (stop_first series.scale series.step input r.runs r.first r.open_run r.points h (inl b.next_is))

    next_firsts : (it : Given) (o : Option (List ℕ)) → IfSome o (λ input. AreBefore input done.given it)
        → (runs : List Run) → RunsBy there it runs → AreFirstOf series.scale series.step o (r.done ++ runs)
    next_firsts it None are runs so = tt
    next_firsts it (Some input) are runs so = next_first it input are runs so

    -- what stands behind the lines
    some_so : (o : Option (List ℕ)) (image : Image) → AreFirstOf series.scale series.step o r.done → StandsForBook image total r.book
        → IsAfterSome total name book series o image
    some_so o image first stands = record
        { runs = r.done; first = first; after = record { new = r.book; loads = r.loads; stands = stands } }

    ended_so : (o : Option (List ℕ)) (image : Image) (runs : List Run) → AreFirstOf series.scale series.step o (r.done ++ runs)
        → IsAfter total name r.book runs image → IsAfterSome total name book series o image
    ended_so o image runs first after = record
        { runs = r.done ++ runs; first = first; after = after_then total name book r.book r.done runs image r.loads after }

    -- what the sets cost that were done, and those that were tried behind them
    first_costs : (o : Option (List ℕ)) (old new : View) → spent ≡ spent_by old → AreFirstOf series.scale series.step o r.done
        → Costs r.asked spent new
        → CostsFirst series o old new
    first_costs o old new same first costs =
        let asked_is : r.asked ≡ length r.done = omega (arith, r.asked_is) in
        let S : Spent → Type 0 = λ s. Costs (length r.done) s new in
        let N : ℕ → Type 0 = λ n. Costs n spent new in
        record { runs = r.done; first = first; costs = subst S same (subst N asked_is costs) }

    next_costs : (o : Option (List ℕ)) (runs : List Run) (old new : View) → spent ≡ spent_by old
        → AreFirstOf series.scale series.step o (r.done ++ runs)
        → Costs (r.asked + length runs) spent new → CostsFirst series o old new
    next_costs o runs old new same first costs =
        let asked_is : r.asked + length runs ≡ length (r.done ++ runs) = omega (arith, r.asked_is, length-append r.done runs) in
        let S : Spent → Type 0 = λ s. Costs (length (r.done ++ runs)) s new in
        let N : ℕ → Type 0 = λ n. Costs n spent new in
        record { runs = r.done ++ runs; first = first; costs = subst S same (subst N asked_is costs) }

    part_so : (o : Option (List ℕ)) (image : Image) (runs : List Run) → AreFirstOf series.scale series.step o (r.done ++ runs)
        → IsPartDone total name r.book runs image → IsAfterSome total name book series o image
    part_so o image runs first part =
        let P : List Run → Type 0 = AreFirstOf series.scale series.step o in
        ended_so o image part.done (some_first o (r.done ++ part.done) part.later
        (subst P (ap (λ l. r.done ++ l) part.split ∙ sym (append_assoc r.done part.done part.later)) first)) part.after

    before_first : (it : Given) (o : Option (List ℕ)) → IfSome o (λ input. AreBefore input done.given it)
        → AreFirstOf series.scale series.step o r.done
    before_first it None are = tt
    before_first it (Some input) are = firsts_of (Some input) are.first

    -- a bad line
    bad_at : (input : List ℕ) (place : ℕ) (image : Image) (h : HeardOf input) → place ≡ length h.front
        → BadEarly series.scale h.front h.rest → IsAfter total name r.book (r.waiting ++ closed r.open_run) image
        → IsAtBad total name book series input place image
    bad_at input place image h at_is bad after =
        let P : List Run → Type 0 = λ l. IsAfter total name book l image in
        record {
          line = record {
            front = h.front;
            rest = h.rest;
            rows = h.read.rows;
            reads = record { begins = h.begins; table = h.read.table };
            bad = bad.bad;
            early = bad.early;
            at_is = at_is;
          };
          runs = r.runs ++ closed r.open_run;
          all = all_runs series.scale series.step input r.runs r.first r.open_run r.points h;
          after = subst P (sym (ended_is (closed r.open_run)))
              (after_then total name book r.book r.done (r.waiting ++ closed r.open_run) image r.loads after);
        }

    next_bad : (it : Given) (input : List ℕ) (place : ℕ) (image : Image) → AreBefore input done.given it → BadBy there it image place
        → IsAtBad total name book series input place image
    next_bad (Line at None) input place image b bad =
        let h = heard input b.first in
        let next = next_of input h.front h.rest None h.begins b.next_is.1 in
        bad_at input place image h (bad.at_is ∙ b.next_is.0)
        (bad_long series.scale series.step input r.runs r.first r.open_run r.points h next) bad.after
    next_bad (Line at (Some text)) input place image b bad =
        let h = heard input b.first in
        let next = next_of input h.front h.rest (Some text) h.begins b.next_is.1 in
        bad_at input place image h (bad.at_line.at_is ∙ b.next_is.0)
        (bad_text series.scale series.step input r.runs r.first r.open_run r.points h text next bad.some bad.bad) bad.at_line.after
    next_bad Pause input place image b bad = absurd bad
    next_bad lines_given.End input place image b bad = absurd bad

    bad_some : (it : Given) (o : Option (List ℕ)) (place : ℕ) (image : Image) → IfSome o (λ input. AreBefore input done.given it)
        → BadBy there it image place → IsAfterSome total name book series o image
    bad_some (Line at None) o place image are bad = ended_so o image (r.waiting ++ closed r.open_run)
        (next_firsts (Line at None) o are (r.waiting ++ closed r.open_run) refl) bad.after
    bad_some (Line at (Some text)) o place image are bad =
        ended_so o image (r.waiting ++ closed r.open_run) (next_firsts (Line at (Some text)) o are (r.waiting ++ closed r.open_run)
        (inr (inr (record { some = bad.some; bad = bad.bad; runs_are = refl })))) bad.at_line.after
    bad_some Pause o place image are bad = absurd bad
    bad_some lines_given.End o place image are bad = absurd bad

    -- the set of a run was refused
    refused_so : (it : Given) (input : List ℕ) (runs : List Run) (at : ℕ) (refusal : Refusal) (image : Image)
        → AreBefore input done.given it → RunsBy there it runs
        → IsRefusedIn total name r.book runs at refusal image → IsAtRefusal total name book series input at refusal image
    refused_so it input runs at refusal image are by why =
        let P : List Run → Type 0 = AreFirst series.scale series.step input in
        record {
          runs = r.done ++ why.done;
          run = why.run;
          first = first_of series.scale series.step input ((r.done ++ why.done) ++ why.run ∷ []) why.later
              (subst P (ap (λ l. r.done ++ l) why.split ∙ sym (append_assoc r.done why.done (why.run ∷ why.later))
              ∙ sym (append_assoc (r.done ++ why.done) (why.run ∷ []) why.later))
              (next_first it input are runs by));
          at_is = why.at_is;
          new = why.new;
          loads = loads_then total name book r.book why.new r.done why.done r.loads why.loads;
          refused = why.refused;
          stands = why.stands;
        }

    -- where the work stopped
    keeps_so : (it : Given) (o : Option (List ℕ)) (runs : List Run) (image : Image) (end : End)
        → IfSome o (λ input. AreBefore input done.given it)
        → RunsBy there it runs → StopsSo (BadBy there it image) total name r.book runs image end
        → KeepsSome total name book series o image end
    keeps_so it o runs image NoMemory are by why = part_so o image runs (next_firsts it o are runs by) why
    keeps_so it o runs image DiskFault are by why = tt
    keeps_so it o runs image (BadInput at) are by why = bad_some it o at image are why
    keeps_so it o runs image (Refused at number) are by why =
        let it_is = why.so in
        part_so o image runs (next_firsts it o are runs by)
        (record {
          done = it_is.done;
          later = it_is.run ∷ it_is.later;
          split = it_is.split;
          after = record { new = it_is.new; loads = it_is.loads; stands = it_is.stands };
        })
    keeps_so it o runs image end are by why = absurd why

    ends_so : (it : Given) (input : List ℕ) (left : Option (List ℕ)) (runs : List Run) (image : Image) (end : End)
        → AreBefore input done.given it
        → RunsBy there it runs → StopsSo (BadBy there it image) total name r.book runs image end
        → EndsLoad total name book series input left image
        end
    ends_so it input left runs image NoMemory are by why = tt
    ends_so it input left runs image DiskFault are by why = tt
    ends_so it input left runs image (BadInput at) are by why = next_bad it input at image are why
    ends_so it input left runs image (Refused at number) are by why = record {
      refusal = why.refusal;
      number_is = why.number_is;
      so = refused_so it input runs at why.refusal image are by why.so;
    }
    ends_so it input left runs image end are by why = absurd why

    -- behind a pause no run waits
    none_waits : lines_given.EndsPaused done.given → r.runs ≡ r.done
    none_waits paused =
        let P : List Given → Type 0 = λ l. Carries LoadDoes start l done.text done.behind in
        let both = carries_both LoadDoes paused.earlier (Pause ∷ []) start done.text done.behind (subst P paused.given_are done.carries) in
        let did = both.others.does in
        let none : r.waiting ≡ [] = ap (λ (h : Held). h.waiting) (sym r.behind_is ∙ both.others.others.1 ∙ did.behind_is) in
        r.split ∙ ap (λ l. r.done ++ l) none ∙ append-nil r.done

    -- at a fault of the input
    taken_so : (input : List ℕ) (left : Option (List ℕ)) (pieces pieces' : ℕ) (image : Image) → StandsForBook image total r.book
        → runs.AreTaken pieces pieces' left input done.given → EndsLoad total name book series input left image ReadFault
    taken_so input None pieces pieces' image stands t = tt
    taken_so input (Some l) pieces pieces' image stands t =
        let h = heard input t.first in
        let A : List Run → Type 0 = λ l. IsAfter total name book l image in
        let R : List ℕ → Type 0 = λ rest. Rattle.series_load.specs.Rows.ReadsRows series.scale input h.front rest h.read.rows in
        record {
          front = h.front;
          partial = t.behind.partial;
          rows = h.read.rows;
          reads = subst R t.behind.taken (record { begins = h.begins; table = h.read.table });
          whole = t.whole;
          unended = t.behind.unended;
          runs = r.runs;
          ended = (r.open_run, h.read.cut);
          after = subst A (sym (none_waits t.paused)) (record { new = r.book; loads = r.loads; stands = stands });
        }

    within_so : (input : List ℕ) (left : Option (List ℕ)) (pieces pieces' : ℕ) (image : Image) → StandsForBook image total r.book
        → runs.AreWithin pieces pieces' input done.given → EndsLoad total name book series input left image InputTooLong
    within_so input left pieces pieces' image stands w =
        let h = heard input w.first in
        let A : List Run → Type 0 = λ l. IsAfter total name book l image in
        record {
          front = h.front;
          rest = h.rest;
          rows = h.read.rows;
          reads = record { begins = h.begins; table = h.read.table };
          within = h.early;
          unended = w.unended;
          past = w.past;
          runs = r.runs;
          ended = (r.open_run, h.read.cut);
          after = subst A (sym (none_waits w.paused)) (record { new = r.book; loads = r.loads; stands = stands });
        }

  -- ---- by what a run of lines says

  -- what stands behind lines, in the words of what was reached
  transport : (done : Done LoadDoes start) (P : Held → Type 0) → P done.behind → P (there done)
  transport done P is = subst P (r done).behind_is is

  ahead_so : (o before : Option (List ℕ)) (image : Image) (sent : ℕ)
      → runs.IsAhead LoadDoes (λ held i. StandsForBook i held.total held.book) LoadLeaves start o before count image sent
      → IsAfterSome total name book series o image
  ahead_so o before image sent ahead = elim ahead.is [
    | inl rests ↦ some_so ahead.done o image (firsts_of ahead.done o rests.are)
        (transport ahead.done (λ h. StandsForBook image h.total h.book) rests.rests_so)
    | inr amid ↦
        let leaves = transport ahead.done (λ h. LoadLeaves h amid.next amid.begun image sent) amid.leaves_so in
        part_so ahead.done o image leaves.runs (next_firsts ahead.done amid.next o amid.are leaves.runs leaves.are) leaves.part
  ]

  moments_so : (o before : Option (List ℕ)) (old new : View) → since ≡ old.clock → count ≡ sent_now old → NoneSent since count new
      → Since old new (runs.IsAhead LoadDoes (λ held i. StandsForBook i held.total held.book) LoadLeaves start o before (sent_now old))
      → Passes old new (IsAfterSome total name book series o) (Quiet old)
  moments_so o before old new since_is count_is quiet lasts =
      let A : ℕ → Type 0 = λ n. Since old new
      (runs.IsAhead LoadDoes (λ held i. StandsForBook i held.total held.book) LoadLeaves start o before n) in
      let all = subst A (sym count_is) lasts in
      record {
        later = all.goes.later;
        past = all.goes.past;
        kept = all.goes.kept;
        here = λ at image low high left. ahead_so o before image (new.sent_by at) (all.here at image (omega (arith, low)) high left);
        sent_past = all.goes.sent_past;
        sent_here = λ at low high. quiet.here at (omega (arith, low, since_is)) high ∙ count_is;
      }

  -- the input was read to its end
  module _ (IsNow : Held → Type 0) (old new : View) (same : spent ≡ spent_by old) (points : ℕ)
      (stands : (held : Held) → IsNow held → StandsForBook new.image held.total held.book × (held.points ≡ points)
      × Costs held.asked held.before new)
      (before now : Option (List ℕ)) (pieces pieces' : ℕ) where
    abbrev All : Option (List ℕ) → Type 0
    All o = runs.Runs LoadDoes start (runs.AreAll pieces pieces') IsNow o before now

    loaded_both : (input : List ℕ) → length input ≤ 2 ^ 32 → All (Some input) → IsLoaded total name book series input points new.image ×
        IsAfterSome total name book series (Some input) new.image × CostsFirst series (Some input) old new
    loaded_both input within all =
        let P : List Given → Type 0 = λ l. Carries LoadDoes start l all.done.text all.done.behind in
        let are = all.are in
        let both = carries_both LoadDoes are.earlier (lines_given.End ∷ []) start all.done.text all.done.behind
        (subst P are.given_are all.done.carries) in
        let done : Done LoadDoes start = record
        { given = are.earlier; text = both.begin; behind = both.between; carries = both.begins } in
        let f : lines_given.AreFirst input are.earlier = record {
          front = input;
          rest = [];
          begins = record { split = sym (append-nil input); whole = inr refl };
          early = within;
          given_are = are.lines_are;
        } in
        let h = heard done input f in
        let at = r done in
        let E : Held → Type 0 = λ b. Carries LoadDoes b (lines_given.End ∷ []) both.more all.done.behind in
        let last = subst E at.behind_is both.others in
        let did = last.does in
        let S : Held → Type 0 = λ b. StandsForBook new.image b.total b.book × (b.points ≡ points) × Costs b.asked b.before new in
        let is = subst S (last.others.1 ∙ did.behind_is) (stands all.done.behind all.stands) in
        let after : IsAfter total name at.book (at.waiting ++ closed at.open_run) new.image = record {
          new = did.book;
          loads = did.loads;
          stands = is.0;
        } in
        let first = with_open done input (at.waiting ++ closed at.open_run) refl
        (stop_first series.scale series.step input at.runs at.first at.open_run at.points h (inl refl)) in
        let A : List Run → Type 0 = λ l. IsAfter total name book l new.image in (
          record {
            rows = h.read.rows;
            reads = record { begins = f.begins; table = h.read.table };
            runs = at.runs ++ closed at.open_run;
            all = all_runs series.scale series.step input at.runs at.first at.open_run at.points h;
            after = subst A (sym (ended_is done (closed at.open_run)))
                (after_then total name book at.book at.done (at.waiting ++ closed at.open_run) new.image at.loads after);
            counted = sym is.1 ∙ h.read.counted;
          },
          ended_so done (Some input) new.image (at.waiting ++ closed at.open_run) first after,
          next_costs done (Some input) (at.waiting ++ closed at.open_run) old new same first is.2,
        )

    pub loaded_so : (o : Option (List ℕ)) → IfSome o (λ input. length input ≤ 2 ^ 32) → All o
        → IfSome o (λ input. IsLoaded total name book series input points new.image) × IsAfterSome total name book series o new.image
        × CostsFirst series o old new
    loaded_so None within all = (
      tt,
      some_so all.done None new.image tt
          (transport all.done (λ h. StandsForBook new.image h.total h.book) (stands all.done.behind all.stands).0),
      first_costs all.done None old new same tt (transport all.done (λ h. Costs h.asked h.before new)
          (stands all.done.behind all.stands).2),
    )
    loaded_so (Some input) within all = loaded_both input within all

  pub finished_so : (told : Type 0) (loader : Loader) (o before now : Option (List ℕ)) (pieces pieces' : ℕ) (old new : View)
      → spent ≡ spent_by old → since ≡ old.clock
      → count ≡ sent_now old → IfSome o (λ input. length input ≤ 2 ^ 32) → runs.Runs LoadDoes start
      (runs.AreAll pieces pieces') (StandsSo told new loader) o before now
      → Since old new (runs.IsAhead LoadDoes (λ held i. StandsForBook i held.total held.book) LoadLeaves start o before (sent_now old))
      → Finished total name book series o loader.points old new
  finished_so told loader o before now pieces pieces' old new spent_is since_is count_is within all lasts =
      let quiet = transport all.done (λ h. NoneSent h.since h.count new) all.stands.quiet in
      let both = loaded_so (StandsSo told new loader) old new spent_is loader.points
      (λ held s. (s.stands, ap (λ (h : Held). h.points) s.seen_is, s.costs)) before now pieces pieces' o within all in
      record { costs = both.2; done = both.0; some = both.1; moments = moments_so o before old new since_is count_is quiet lasts }

  -- not all of it was
  pub stopped_so : (told : Type 0) (loader : Loader) (o left before now : Option (List ℕ)) (pieces pieces' : ℕ) (old new : View)
      (stop : LinesStop End) → spent ≡ spent_by old → since ≡ old.clock → count ≡ sent_now old
      → runs.StopsSo LoadDoes (λ held it end was. LoadStops held it new end) (StandsSo told new loader) start o
      left before now pieces pieces' stop
      → Since old new
      (runs.IsAhead LoadDoes (λ held i. StandsForBook i held.total held.book) LoadLeaves start o before (sent_now old))
      → Stopped total name book series o left (stop_end stop) old new
  stopped_so told loader o left before now pieces pieces' old new (stop.Fault fault.ReadFault) spent_is since_is count_is is lasts =
      let stands = transport is.done (λ h. StandsForBook new.image h.total h.book) is.stands.stands in
      let quiet = transport is.done (λ h. NoneSent h.since h.count new) is.stands.quiet in
      let first = firsts_of is.done o
      (told_so (λ input. runs.AreTaken pieces pieces' left input is.done.given) (λ input. lines_given.AreFirst input is.done.given) o
      (λ input t. t.first) is.are) in
      record {
        costs = first_costs is.done o old new spent_is first (transport is.done (λ h. Costs h.asked h.before new) is.stands.costs);
        ends = told_so (λ input. runs.AreTaken pieces pieces' left input is.done.given)
            (λ input. EndsLoad total name book series input left new.image ReadFault) o
            (λ input t. taken_so is.done input left pieces pieces' new.image stands t) is.are;
        some = some_so is.done o new.image first stands;
        moments = moments_so o before old new since_is count_is quiet lasts;
      }
  stopped_so told loader o left before now pieces pieces' old new (stop.Fault fault.InputTooLong) spent_is since_is count_is is lasts =
      let stands = transport is.done (λ h. StandsForBook new.image h.total h.book) is.stands.stands in
      let quiet = transport is.done (λ h. NoneSent h.since h.count new) is.stands.quiet in
      let first = firsts_of is.done o
      (told_so (λ input. runs.AreWithin pieces pieces' input is.done.given) (λ input. lines_given.AreFirst input is.done.given) o
      (λ input t. t.first) is.are) in
      record {
        costs = first_costs is.done o old new spent_is first (transport is.done (λ h. Costs h.asked h.before new) is.stands.costs);
        ends = told_so (λ input. runs.AreWithin pieces pieces' input is.done.given)
            (λ input. EndsLoad total name book series input left new.image InputTooLong) o
            (λ input t. within_so is.done input left pieces pieces' new.image stands t) is.are;
        some = some_so is.done o new.image first stands;
        moments = moments_so o before old new since_is count_is quiet lasts;
      }
  stopped_so told loader o left before now pieces pieces' old new (stop.Work end) spent_is since_is count_is is lasts =
      let stops = transport is.done (λ h. LoadStops h is.next new end) is.why in
      record {
        costs = next_costs is.done o stops.runs old new spent_is (next_firsts is.done is.next o is.are stops.runs stops.are) stops.costs;
        ends = told_so (λ input. AreBefore input is.done.given is.next)
            (λ input. EndsLoad total name book series input left new.image end) o
            (λ input b. ends_so is.done is.next input left stops.runs new.image end b stops.are stops.why) is.are;
        some = keeps_so is.done is.next o stops.runs new.image end is.are stops.are stops.why;
        moments = moments_so o before old new since_is count_is stops.quiet lasts;
      }

-- before the first line
pub start_stands : (told : Type 0) (total : ℕ) (book : List Series) (series : Series) (loader : Loader) (at : View) → told
    → StandsForBook at.image total book → loader.run.values.items ≡ [] → loader.kept.sets.items ≡ [] → loader.kept.ats.items ≡ []
    → loader.first ≡ true → loader.points ≡ 0
    → loader.step ≡ series.step → loader.scale ≡ series.scale
    → StandsSo told at loader (start total loader.name book series at.clock (sent_now at) (spent_by at))
start_stands told total book series loader at is stands none sets ats first points step scale = record {
  is_told = is;
  stands = stands;
  keeps = record { sets = record { sets_are = sets; ats_are = ats }; still = none };
  quiet = record {
    later = omega arith;
    here = λ time low high. let same : time ≡ at.clock = omega (arith, low, high)
        in ap at.sent_by same;
  };
  costs = costs_none 0 at;
  seen_is = (λ i. record {
    total = total;
    name = loader.name;
    scale = sym scale i;
    step = sym step i;
    book = book;
    waiting = [];
    first = sym first i;
    open_run = None;
    points = sym points i;
    since = at.clock;
    count = sent_now at;
    before = spent_by at;
    asked = 0;
  });
}
