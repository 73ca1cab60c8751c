-- How far lines were read, whatever the pages are.
use Rattle.std.proofs.Common.{◌≡◌, ◌∙◌, ℕ, ◌<◌, Bool, true, false, List, [], ◌∷◌, ◌++◌, length, Option, None, Some, IfSome, refl, ap, sym}
use Rattle.std.proofs.Common.{subst, inl, inr, append_assoc, arith}
use Rattle.std.specs.Prelude.{count_by, is_some}
use Rattle.std.proofs.lemmas.List.{append-nil}
use Rattle.block_disk.specs.View.{View}
use Rattle.chart_world.specs.declared.line_answer.LineFault.TheVariants as fault
use Rattle.line_runs.specs.Carried.{Carries, Done}
use Rattle.line_runs.specs.CarriedLaws.{carries_both}
use Rattle.line_runs.specs.Ends.{stop_end}
use Rattle.line_runs.specs.Given.{AreFirst, Given, IsNext, Line, Pause}
use Rattle.line_runs.specs.Given as lines_given
use Rattle.line_runs.specs.Runs as runs
use Rattle.line_runs.specs.declared.lines_stop.LinesStop.{LinesStop}
use Rattle.line_runs.specs.declared.lines_stop.LinesStop.TheVariants as stop
use Rattle.run_ends.specs.declared.ending.End.{End}
use Rattle.run_ends.specs.declared.ending.End.TheVariants.{BadInput}
use Rattle.series_load.specs.Ends.{EndsAtBad, IsBadLine, IsRead}
use Rattle.series_load.specs.Fronts.{PlacedLine, told}
use Rattle.series_load.specs.Loading.{IsScanned, Loading, LoadingDoes, LoadingStops, Booked, Scan, ScanDoes, ScanStops, Scanned, StandsFor}
use Rattle.series_load.specs.Loading.{further, scan_of}
use Rattle.series_load.specs.Rows.{AreTable, BadEarly, Reading}
use Rattle.series_load.specs.Steps.{BlamesLine, BlamesNone, BlamesText, LineReads, SaysSo, if_told, points_with}
use Rattle.series_load.specs.declared.loader.Loader.{Loader}
use Rattle.series_load.specs.declared.said.Said.{Said}
use Rattle.series_load.specs.declared.said.Said.TheVariants.{Header, Point, Gap, Bad}
use Rattle.series_load.proofs.LineLemmas.{counted_more, none_behind, placed, some_behind, told_none, told_one}
use Rattle.series_load.proofs.Reached.{AreLines, NextOf, lines_unpaused, long_early, next_of, only_lines, text_early, told_given, told_of}
use Rattle.series_load.proofs.Reached.{told_unpaused}
use Rattle.series_load.proofs.RowLemmas.{no_rows, table_header, table_more}

-- the lines are rows, it is known whether there is one, and so many of them have a reading
pub record Skimmed (scale : ℕ) (lines : List PlacedLine) (first : Bool) (points : ℕ) : Type 0 where
  pub rows : List (Option Reading)
  pub table : AreTable scale lines rows
  pub counted : points ≡ count_by is_some rows
  pub none_yet : first ≡ true → lines ≡ []
  pub some_yet : first ≡ false → 0 < length lines

skim_none : (scale : ℕ) → Skimmed scale [] true 0
skim_none scale = record { rows = []; table = inl tt; counted = refl; none_yet = λ is. refl; some_yet = λ is. cc }

-- a line more, that isn't empty
said_skims : (scale at : ℕ) (text : List ℕ) (first : Bool) (points : ℕ) (lines : List PlacedLine) → Skimmed scale lines first points
    → (said : Said) → (said ≡ Bad → ⊥) → SaysSo scale first text said
    → Skimmed scale (lines ++ placed at text ∷ []) false (points_with points said)
said_skims scale at text first points lines skim Header good says =
    let none = skim.none_yet says.0 in
    let no_row = no_rows scale lines skim.rows none skim.table in
    let L : List PlacedLine → Type 0 = λ l. AreTable scale (l ++ placed at text ∷ []) skim.rows in
    let R : List (Option Reading) → Type 0 = λ r. AreTable scale (placed at text ∷ []) r in
    record {
      rows = skim.rows;
      table = subst L (sym none) (subst R (sym no_row) (table_header scale (placed at text) says.1));
      counted = skim.counted;
      none_yet = none_behind lines (placed at text);
      some_yet = λ no. some_behind lines (placed at text);
    }
said_skims scale at text first points lines skim (Point reading) good says =
    let row : Option Reading = Some (record { at = at; time = reading.time; value = reading.value }) in
    record {
      rows = skim.rows ++ row ∷ [];
      table = table_more scale lines skim.rows (placed at text) row skim.table (refl, says);
      counted = omega (arith, skim.counted, counted_more skim.rows row);
      none_yet = none_behind lines (placed at text);
      some_yet = λ no. some_behind lines (placed at text);
    }
said_skims scale at text first points lines skim Gap good says = record {
  rows = skim.rows ++ None ∷ [];
  table = table_more scale lines skim.rows (placed at text) None skim.table says;
  counted = omega (arith, skim.counted, counted_more skim.rows None);
  none_yet = none_behind lines (placed at text);
  some_yet = λ no. some_behind lines (placed at text);
}
said_skims scale at text first points lines skim Bad good says = absurd (good refl)

line_skims : (scale at : ℕ) (text : List ℕ) (first first' : Bool) (points points' : ℕ) (lines : List PlacedLine)
    → LineReads scale first points text first' points' → Skimmed scale lines first points
    → Skimmed scale (lines ++ if_told at (Some text)) first' points'
line_skims scale at text first first' points points' lines (inl (none, same, no_more)) skim =
    let P : List PlacedLine → Type 0 = λ l. Skimmed scale l first' points' in
    let F : Bool → Type 0 = λ b. Skimmed scale lines b points' in
    let N : ℕ → Type 0 = λ n. Skimmed scale lines first n in
    subst P (sym (ap (λ l. lines ++ l) (told_none at text none) ∙ append-nil lines)) (subst F (sym same) (subst N (sym no_more) skim))
line_skims scale at text first first' points points' lines (inr (good, same)) skim =
    let P : List PlacedLine → Type 0 = λ l. Skimmed scale (lines ++ l) first' points' in
    let F : Bool → Type 0 = λ b. Skimmed scale (lines ++ placed at text ∷ []) b points' in
    let N : ℕ → Type 0 = λ n. Skimmed scale (lines ++ placed at text ∷ []) false n in
    subst P (sym (told_one at text good.some))
    (subst F (sym same) (subst N (sym good.counted) (said_skims scale at text first points lines skim good.said good.good good.says_it)))

-- ---- what was done of lines

scanned_of : (P : Scan → Type 0) (loading : Loading) → IsScanned P loading → (scan : Scan) × (loading ≡ Scanned scan) × P scan
scanned_of P (Booked held) is = absurd is
scanned_of P (Scanned scan) is = (scan, refl, is)

record ReadOn (scan : Scan) (given : List Given) (behind : Loading) : Type 0 where
  pub first : Bool
  pub points : ℕ
  pub behind_is : behind ≡ Scanned (further scan first points)
  pub reads : AreLines given → (before : List PlacedLine) → Skimmed scan.scale before scan.first scan.points
      → Skimmed scan.scale (before ++ told_of given) first points

-- at a pause and at the end nothing is read
read_idle : (scan : Scan) (later : List Given) (behind : Loading) → ReadOn scan later behind → ReadOn scan (Pause ∷ later) behind
read_idle scan later behind on = record { first = on.first; points = on.points; behind_is = on.behind_is; reads = on.reads }

read_on : (given : List Given) (scan : Scan) (text : List ℕ) (behind : Loading) → Carries LoadingDoes (Scanned scan) given text behind
    → ReadOn scan given behind
read_on [] scan text behind all = record {
  first = scan.first;
  points = scan.points;
  behind_is = all.1;
  reads = λ only before skim.
      let P : List PlacedLine → Type 0 = λ l. Skimmed scan.scale l scan.first scan.points in
      subst P (sym (append-nil before)) skim;
}
read_on (Line at None ∷ later) scan text behind all =
    absurd ((scanned_of (λ next. ScanDoes scan (Line at None) next) all.between all.does.1).2)
read_on (Line at (Some line) ∷ later) scan text behind all =
    let one = scanned_of (λ next. ScanDoes scan (Line at (Some line)) next) all.between all.does.1 in
    let P : Loading → Type 0 = λ l. Carries LoadingDoes l later all.more behind in
    let S : Scan → Type 0 = λ s. Carries LoadingDoes (Scanned s) later all.more behind in
    let next = further scan one.2.first one.2.points in
    let rest : ReadOn next later behind = read_on later next all.more behind (subst S one.2.behind_is (subst P one.1 all.others)) in
    record {
      first = rest.first;
      points = rest.points;
      behind_is = rest.behind_is;
      reads = λ only before skim.
          let L : List PlacedLine → Type 0 = λ l. Skimmed scan.scale l rest.first rest.points in
          subst L (append_assoc before (if_told at (Some line)) (told_of later))
          (rest.reads only (before ++ if_told at (Some line))
          (line_skims scan.scale at line scan.first one.2.first scan.points one.2.points before one.2.reads skim));
    }
read_on (Pause ∷ later) scan text behind all =
    let one = scanned_of (λ next. ScanDoes scan Pause next) all.between all.does.1 in
    let P : Loading → Type 0 = λ l. Carries LoadingDoes l later all.more behind in
    let S : Scan → Type 0 = λ s. Carries LoadingDoes (Scanned s) later all.more behind in
    read_idle scan later behind (read_on later scan all.more behind (subst S one.2 (subst P one.1 all.others)))
read_on (lines_given.End ∷ later) scan text behind all =
    let one = scanned_of (λ next. ScanDoes scan lines_given.End next) all.between all.does.1 in
    let P : Loading → Type 0 = λ l. Carries LoadingDoes l later all.more behind in
    let S : Scan → Type 0 = λ s. Carries LoadingDoes (Scanned s) later all.more behind in
    let rest = read_on later scan all.more behind (subst S one.2 (subst P one.1 all.others)) in
    record { first = rest.first; points = rest.points; behind_is = rest.behind_is; reads = λ only. absurd only }

-- ---- the line that stopped a load

module _ (scale : ℕ) where
  -- no line was read
  abbrev pub unread : Scan
  unread = record { scale = scale; first = true; points = 0 }

  module _ (input : List ℕ) where
    module _ (given : List Given) (f : AreFirst input given) (first : Bool) (points : ℕ)
        (skim : Skimmed scale (told f.front) first points) where
      bad_line : (place : ℕ) → place ≡ length f.front → BadEarly scale f.front f.rest → IsBadLine scale input place
      bad_line place at_is bad = record {
        front = f.front;
        rest = f.rest;
        rows = skim.rows;
        reads = record { begins = f.begins; table = skim.table };
        bad = bad.bad;
        early = bad.early;
        at_is = at_is;
      }

      long_bad : (at : ℕ) → at ≡ length f.front → NextOf f.front f.rest None → (end : End) → BlamesLine at end → EndsAtBad scale input end
      long_bad at at_is next (BadInput place) is = bad_line place (is ∙ at_is) (long_early scale f.front f.rest next)
      long_bad at at_is next end is = tt

      text_bad : (at : ℕ) → at ≡ length f.front → (text : List ℕ) → NextOf f.front f.rest (Some text) → (end : End)
          → BlamesText scale at first text end → EndsAtBad scale input end
      text_bad at at_is text next (BadInput place) is =
          bad_line place (is.0 ∙ at_is) (text_early scale f.front f.rest text first skim.some_yet next is.1 is.2)
      text_bad at at_is text next end is = tt

      none_bad : (end : End) → BlamesNone end → EndsAtBad scale input end
      none_bad (BadInput place) none = absurd none
      none_bad end none = tt

      next_bad : (next : Given) → IsNext (length f.front) f.rest next → (end : End) → ScanStops (further unread first points) next end
          → EndsAtBad scale input end
      next_bad (Line at None) (at_is, next) end stops = long_bad at at_is (next_of input f.front f.rest None f.begins next) end stops
      next_bad (Line at (Some text)) (at_is, next) end stops =
          text_bad at at_is text (next_of input f.front f.rest (Some text) f.begins next) end stops
      next_bad Pause any end stops = none_bad end stops
      next_bad lines_given.End none end stops = none_bad end stops

    -- the lines that were done are rows
    skim_of : (done : Done LoadingDoes (Scanned unread)) (f : AreFirst input done.given) (on : ReadOn unread done.given done.behind)
        → Skimmed scale (told f.front) on.first on.points
    skim_of done f on =
        let only = lines_unpaused done.given (subst AreLines (sym f.given_are) (only_lines f.front)) in
        let P : List PlacedLine → Type 0 = λ l. Skimmed scale l on.first on.points in
        subst P (told_unpaused done.given ∙ ap told_of f.given_are ∙ told_given f.front) (on.reads only [] (skim_none scale))

  abbrev Stops : View → Loading → Given → End → Option (List ℕ) → Type 0
  Stops view loading it end was = LoadingStops loading it view end

  pub line_told : (view : View) (IsNow : Loading → Type 0) (o left before now : Option (List ℕ)) (pieces pieces' : ℕ) (why : LinesStop End)
      → runs.StopsSo LoadingDoes (Stops view) IsNow (Scanned unread) o left before now pieces pieces' why
      → IfSome o (λ input. EndsAtBad scale input (stop_end why))
  line_told view IsNow None left before now pieces pieces' why is = tt
  line_told view IsNow (Some input) left before now pieces pieces' (stop.Fault fault.ReadFault) is = tt
  line_told view IsNow (Some input) left before now pieces pieces' (stop.Fault fault.InputTooLong) is = tt
  line_told view IsNow (Some input) left before now pieces pieces' (stop.Work end) is =
      let on = read_on is.done.given unread is.done.text is.done.behind is.done.carries in
      let S : Loading → Type 0 = λ l. LoadingStops l is.next view end in
      next_bad input is.done.given is.are.first on.first on.points (skim_of input is.done is.are.first on) is.next is.are.next_is end
      (subst S on.behind_is is.why)

  -- ---- all lines were read

  -- at the end none is
  end_idle : (scan : Scan) (more : List ℕ) (behind : Loading) → Carries LoadingDoes (Scanned scan) (lines_given.End ∷ []) more behind
      → behind ≡ Scanned scan
  end_idle scan more behind f =
      let one = scanned_of (λ next. ScanDoes scan lines_given.End next) f.between f.does.1 in
      f.others.1 ∙ one.1 ∙ ap (λ s. Scanned s) one.2

  -- the loader counted the rows that have a reading
  counted_so : (told : Type 0) (view : View) (loader : Loader) (behind : Loading) (first : Bool) (points : ℕ)
      → behind ≡ Scanned (further unread first points) → StandsFor told view loader behind → points ≡ loader.points
  counted_so told view loader behind first points same stands =
      let S : Loading → Type 0 = λ l. StandsFor told view loader l in
      let is : further unread first points ≡ scan_of loader = subst S same stands in
      ap (λ (s : Scan). s.points) is

  all_read : (told' : Type 0) (view : View) (loader : Loader) (input : List ℕ) (before now : Option (List ℕ)) (pieces pieces' : ℕ)
      → runs.Runs LoadingDoes (Scanned unread) (runs.AreAll pieces pieces') (StandsFor told' view loader) (Some input) before now
      → IsRead scale input loader.points
  all_read told' view loader input before now pieces pieces' all =
      let are = all.are in
      let P : List Given → Type 0 = λ l. Carries LoadingDoes (Scanned unread) l all.done.text all.done.behind in
      let both = carries_both LoadingDoes are.earlier (lines_given.End ∷ []) (Scanned unread) all.done.text all.done.behind
      (subst P are.given_are all.done.carries) in
      let on = read_on are.earlier unread both.begin both.between both.begins in
      let E : Loading → Type 0 = λ l. Carries LoadingDoes l (lines_given.End ∷ []) both.more all.done.behind in
      let ended = end_idle (further unread on.first on.points) both.more all.done.behind (subst E on.behind_is both.others) in
      let only = lines_unpaused are.earlier (subst AreLines (sym are.lines_are) (only_lines input)) in
      let L : List PlacedLine → Type 0 = λ l. Skimmed scale l on.first on.points in
      let skim = subst L (told_unpaused are.earlier ∙ ap told_of are.lines_are ∙ told_given input) (on.reads only [] (skim_none scale)) in
      record {
        rows = skim.rows;
        reads = record { begins = record { split = sym (append-nil input); whole = inr refl }; table = skim.table };
        counted = sym (counted_so told' view loader all.done.behind on.first on.points ended all.stands) ∙ skim.counted;
      }

  pub read_told : (told' : Type 0) (view : View) (loader : Loader) (o before now : Option (List ℕ)) (pieces pieces' : ℕ)
      → runs.Runs LoadingDoes (Scanned unread) (runs.AreAll pieces pieces') (StandsFor told' view loader) o before now
      → IfSome o (λ input. IsRead scale input loader.points)
  read_told told' view loader None before now pieces pieces' all = tt
  read_told told' view loader (Some input) before now pieces pieces' all = all_read told' view loader input before now pieces pieces' all
