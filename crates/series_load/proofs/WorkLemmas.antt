-- What is done of a line, as a work of lines says it.
use Rattle.std.proofs.Common.{◌≡◌, ◌∙◌, ℕ, ◌+◌, List, [], ◌++◌, length, Option, None, Some, Result, Ok, Err, refl, sym, subst}
use Rattle.std.specs.Prelude.{OnOk, IfErr}
use Rattle.block_disk.specs.SentLaws.{sent_none}
use Rattle.block_disk.specs.View.{View, sent_now}
use Rattle.gate_pages.specs.Pages.{Quiet}
use Rattle.line_runs.specs.Carried.{DoesOne}
use Rattle.line_runs.specs.Given as given
use Rattle.line_runs.specs.Given.{Given, Line, Pause}
use Rattle.line_runs.specs.MomentLaws.{through_by}
use Rattle.line_runs.specs.Moments.{Through}
use Rattle.series_load.specs.Loading.{BadBy, Booked, Held, Lasts, LoadDoes, LoadLeaves, LoadStops, Loading, LoadingDoes, LoadingLeaves}
use Rattle.series_load.specs.Loading.{LoadingStops, RunsBy, Scan, ScanDoes, ScanStops, Scanned, StandsFor, StandsSo, further, moved}
use Rattle.series_load.specs.Loading.{scan_of, seen}
use Rattle.series_load.specs.LoadingLaws.{none_sent}
use Rattle.series_load.specs.Runs.{Run}
use Rattle.series_load.specs.Sets.{IsPartDone}
use Rattle.series_load.specs.Steps.{BlamesText, Does, DoesLine, KeepsRuns, LineLeaves, LineReads, closed}
use Rattle.series_load.specs.declared.kept_sets.KeptSets.{KeptSets}
use Rattle.series_load.proofs.CostLemmas.{costs_then}
use Rattle.run_ends.specs.declared.ending.End.{End}
use Rattle.series_load.specs.declared.loader.Loader.{Loader}
use Rattle.series_load.specs.declared.open_run.OpenRun.{OpenRun}

-- the loader keeps what it was made with
pub record SameLoader (loader loader' : Loader) : Type 0 where
  pub name_is : loader'.name ≡ loader.name
  pub scale_is : loader'.scale ≡ loader.scale
  pub step_is : loader'.step ≡ loader.step

pub keeps_named : {T : Type 0} (name name' : List ℕ) (result : Result T End) (open_run : Option Run) (kept : KeptSets) (run : OpenRun)
    → name' ≡ name → OnOk result (KeepsRuns name' [] open_run kept run) → OnOk result (KeepsRuns name [] open_run kept run)
keeps_named {T} name name' (Ok v) open_run kept run same keeps = let K : List ℕ → Type 0 = λ n. KeepsRuns n [] open_run kept run in
    subst K same keeps
keeps_named {T} name name' (Err e) open_run kept run same keeps = tt

module _ (told told' : Type 0) (held : Held) (loader loader' : Loader) (old new : View) (s : StandsSo told old loader held) (is : told')
  where
    abbrev Now : Held → Type 0
    Now h = StandsSo told' new loader' h

    abbrev here : Held
    here = seen held loader

    -- ---- a line

    abbrev Lined : {T : Type 0} → ℕ → List ℕ → Result T End → Type 0
    Lined {T} at text result = DoesLine loader.scale loader.step at text loader.first loader.points held.total loader.name held.book
        held.waiting held.open_run result loader'.first loader'.points loader'.kept loader'.run old new

    line_one : {T : Type 0} (at : ℕ) (text : List ℕ) (before now : Option (List ℕ)) (result : Result T End) → SameLoader loader loader'
        → now ≡ before → Lined at text result
        → OnOk result (DoesOne LoadDoes Now here (Line at (Some text)) before now)
    line_one {T} at text before now (Ok v) same unsent does =
        let took = does.took in
        let K : List ℕ → Type 0 = λ n. KeepsRuns n took.later took.still loader'.kept loader'.run in
        record {
          text = [];
          behind = moved here took.after.new took.later loader'.first took.still loader'.points (held.asked + length took.done);
          done = record {
            ends = took.ends;
            done = took.done;
            book = took.after.new;
            waiting = took.later;
            first = loader'.first;
            open_run = took.still;
            points = loader'.points;
            adds = took.adds;
            split = took.split;
            loads = took.after.loads;
            behind_is = refl;
            unsent = refl;
          };
          stands = record {
            is_told = is;
            stands = took.after.stands;
            keeps = subst K (sym same.name_is) took.keeps;
            quiet = none_sent held.since held.count old new
                (LineLeaves loader.scale loader.step at text loader.first loader.points held.total loader.name held.book held.waiting
                held.open_run) does.moments s.quiet;
            costs = costs_then held.asked (length took.done) held.before old new s.costs took.costs;
            seen_is = (λ i. record {
              total = held.total;
              name = sym same.name_is i;
              scale = sym same.scale_is i;
              step = sym same.step_is i;
              book = took.after.new;
              waiting = took.later;
              first = loader'.first;
              open_run = took.still;
              points = loader'.points;
              since = held.since;
              count = held.count;
              before = held.before;
              asked = held.asked + length took.done;
            });
          };
          sent = unsent ∙ sent_none before;
        }
    line_one {T} at text before now (Err e) same unsent does = tt

    pub line_done : {T : Type 0} (at : ℕ) (text : List ℕ) (before now : Option (List ℕ)) (result : Result T End) → SameLoader loader loader'
        → now ≡ before → Lined at text result
        → OnOk result (DoesOne LoadDoes Now held (Line at (Some text)) before now)
    line_done {T} at text before now result same unsent does =
        let P : Held → Type 0 = λ h. OnOk result (DoesOne LoadDoes Now h (Line at (Some text)) before now) in
        subst P (sym s.seen_is) (line_one at text before now result same unsent does)

    line_stop : {T : Type 0} (at : ℕ) (text : List ℕ) (result : Result T End) → Lined at text result
        → IfErr result (LoadStops here (Line at (Some text)) new)
    line_stop {T} at text (Ok v) does = tt
    line_stop {T} at text (Err e) does = record {
      runs = does.stops.runs;
      are = does.stops.are;
      why = does.stops.why;
      costs = costs_then held.asked (length does.stops.runs) held.before old new s.costs does.stops.costs;
      quiet = none_sent held.since held.count old new
          (LineLeaves loader.scale loader.step at text loader.first loader.points held.total loader.name held.book held.waiting
          held.open_run) does.moments s.quiet;
    }

    pub line_stops : {T : Type 0} (at : ℕ) (text : List ℕ) (result : Result T End) → Lined at text result
        → IfErr result (LoadStops held (Line at (Some text)) new)
    line_stops {T} at text result does =
        let P : Held → Type 0 = λ h. IfErr result (LoadStops h (Line at (Some text)) new) in
        subst P (sym s.seen_is) (line_stop at text result does)

    pub line_leaves : {T : Type 0} (at : ℕ) (text : List ℕ) (result : Result T End) → Lined at text result
        → Through old new (LoadLeaves held (Line at (Some text)) (sent_now old))
    line_leaves {T} at text result does =
        let P : Held → Type 0 = λ h. Through old new (LoadLeaves h (Line at (Some text)) (sent_now old)) in
        subst P (sym s.seen_is) (through_by old new
        (LineLeaves loader.scale loader.step at text loader.first loader.points held.total loader.name held.book held.waiting
        held.open_run) (Quiet old)
        (LoadLeaves here (Line at (Some text)) (sent_now old)) does.moments
        (λ image count leaves quiet. record { runs = leaves.runs; are = leaves.are; part = leaves.part }))

    -- ---- a pause, the end, and a line that is too long

    abbrev Ran : {T : Type 0} → (ℕ → Type 0) → List Run → Result T End → Type 0
    Ran {T} B runs result = Does B held.total loader.name held.book runs result old new

    pause_one : {T : Type 0} (B : ℕ → Type 0) (before now : Option (List ℕ)) (result : Result T End) → SameLoader loader loader'
        → loader'.first ≡ loader.first → loader'.points ≡ loader.points → now ≡ before → Ran B held.waiting result
        → OnOk result (KeepsRuns loader.name [] held.open_run loader'.kept loader'.run)
        → OnOk result (DoesOne LoadDoes Now here Pause before now)
    pause_one {T} B before now (Ok v) same first points unsent does keeps =
        let K : List ℕ → Type 0 = λ n. KeepsRuns n [] held.open_run loader'.kept loader'.run in
        record {
          text = [];
          behind = moved here does.done.new [] loader.first held.open_run loader.points (held.asked + length held.waiting);
          done = record { book = does.done.new; loads = does.done.loads; behind_is = refl; unsent = refl };
          stands = record {
            is_told = is;
            stands = does.done.stands;
            keeps = subst K (sym same.name_is) keeps;
            quiet = none_sent held.since held.count old new (IsPartDone held.total loader.name held.book held.waiting) does.moments s.quiet;
            costs = costs_then held.asked (length held.waiting) held.before old new s.costs does.costs;
            seen_is = (λ i. record {
              total = held.total;
              name = sym same.name_is i;
              scale = sym same.scale_is i;
              step = sym same.step_is i;
              book = does.done.new;
              waiting = [];
              first = sym first i;
              open_run = held.open_run;
              points = sym points i;
              since = held.since;
              count = held.count;
              before = held.before;
              asked = held.asked + length held.waiting;
            });
          };
          sent = unsent ∙ sent_none before;
        }
    pause_one {T} B before now (Err e) same first points unsent does keeps = tt

    pub pause_done : {T : Type 0} (B : ℕ → Type 0) (before now : Option (List ℕ)) (result : Result T End) → SameLoader loader loader'
        → loader'.first ≡ loader.first → loader'.points ≡ loader.points → now ≡ before → Ran B held.waiting result
        → OnOk result (KeepsRuns loader.name [] held.open_run loader'.kept loader'.run)
        → OnOk result (DoesOne LoadDoes Now held Pause before now)
    pause_done {T} B before now result same first points unsent does keeps =
        let P : Held → Type 0 = λ h. OnOk result (DoesOne LoadDoes Now h Pause before now) in
        subst P (sym s.seen_is) (pause_one B before now result same first points unsent does keeps)

    end_one : {T : Type 0} (B : ℕ → Type 0) (before now : Option (List ℕ)) (result : Result T End) → SameLoader loader loader'
        → loader'.first ≡ loader.first → loader'.points ≡ loader.points → now ≡ before → Ran B (held.waiting ++ closed held.open_run) result
        → OnOk result (KeepsRuns loader.name [] None loader'.kept loader'.run)
        → OnOk result (DoesOne LoadDoes Now here given.End before now)
    end_one {T} B before now (Ok v) same first points unsent does keeps =
        let K : List ℕ → Type 0 = λ n. KeepsRuns n [] None loader'.kept loader'.run in
        record {
          text = [];
          behind = moved here does.done.new [] loader.first None loader.points (held.asked + length (held.waiting ++ closed held.open_run));
          done = record { book = does.done.new; loads = does.done.loads; behind_is = refl; unsent = refl };
          stands = record {
            is_told = is;
            stands = does.done.stands;
            keeps = subst K (sym same.name_is) keeps;
            quiet = none_sent held.since held.count old new
                (IsPartDone held.total loader.name held.book (held.waiting ++ closed held.open_run)) does.moments s.quiet;
            costs = costs_then held.asked (length (held.waiting ++ closed held.open_run)) held.before old new s.costs does.costs;
            seen_is = (λ i. record {
              total = held.total;
              name = sym same.name_is i;
              scale = sym same.scale_is i;
              step = sym same.step_is i;
              book = does.done.new;
              waiting = [];
              first = sym first i;
              open_run = None;
              points = sym points i;
              since = held.since;
              count = held.count;
              before = held.before;
              asked = held.asked + length (held.waiting ++ closed held.open_run);
            });
          };
          sent = unsent ∙ sent_none before;
        }
    end_one {T} B before now (Err e) same first points unsent does keeps = tt

    pub end_done : {T : Type 0} (B : ℕ → Type 0) (before now : Option (List ℕ)) (result : Result T End) → SameLoader loader loader'
        → loader'.first ≡ loader.first → loader'.points ≡ loader.points → now ≡ before → Ran B (held.waiting ++ closed held.open_run) result
        → OnOk result (KeepsRuns loader.name [] None loader'.kept loader'.run)
        → OnOk result (DoesOne LoadDoes Now held given.End before now)
    end_done {T} B before now result same first points unsent does keeps =
        let P : Held → Type 0 = λ h. OnOk result (DoesOne LoadDoes Now h given.End before now) in
        subst P (sym s.seen_is) (end_one B before now result same first points unsent does keeps)

    runs_stop : {T : Type 0} (it : Given) (runs : List Run) (result : Result T End) → RunsBy here it runs
        → Ran (BadBy here it new.image) runs result → IfErr result (LoadStops here it new)
    runs_stop {T} it runs (Ok v) are does = tt
    runs_stop {T} it runs (Err e) are does = record {
      runs = runs;
      are = are;
      why = does.stops;
      costs = costs_then held.asked (length runs) held.before old new s.costs does.costs;
      quiet = none_sent held.since held.count old new (IsPartDone held.total loader.name held.book runs) does.moments s.quiet;
    }

    pub runs_stops : {T : Type 0} (it : Given) (runs : List Run) (result : Result T End) → RunsBy here it runs
        → Ran (BadBy here it new.image) runs result → IfErr result (LoadStops held it new)
    runs_stops {T} it runs result are does =
        let P : Held → Type 0 = λ h. IfErr result (LoadStops h it new) in
        subst P (sym s.seen_is) (runs_stop it runs result are does)

    pub runs_leave : {T : Type 0} (it : Given) (B : ℕ → Type 0) (runs : List Run) (result : Result T End) → RunsBy here it runs
        → Ran B runs result → Through old new (LoadLeaves held it (sent_now old))
    runs_leave {T} it B runs result are does =
        let P : Held → Type 0 = λ h. Through old new (LoadLeaves h it (sent_now old)) in
        subst P (sym s.seen_is) (through_by old new (IsPartDone held.total loader.name held.book runs) (Quiet old)
        (LoadLeaves here it (sent_now old)) does.moments (λ image count part quiet. record { runs = runs; are = are; part = part }))

-- ---- whether or not it is known what the load holds

module _ (told told' : Type 0) (loader loader' : Loader) (old new : View) (more : told → told') where
  abbrev Next : Loading → Type 0
  Next loading = StandsFor told' new loader' loading

  as_booked : {T : Type 0} (held : Held) (it : Given) (before now : Option (List ℕ)) (result : Result T End)
      → OnOk result (DoesOne LoadDoes (StandsSo told' new loader') held it before now)
      → OnOk result (DoesOne LoadingDoes Next (Booked held) it before now)
  as_booked {T} held it before now (Ok v) did = record {
    text = did.text;
    behind = Booked did.behind;
    done = did.done;
    stands = did.stands;
    sent = did.sent;
  }
  as_booked {T} held it before now (Err e) did = tt

  -- no line was read
  scan_idle : {T : Type 0} (scan : Scan) (it : Given) (before now : Option (List ℕ)) (result : Result T End) → loader'.scale ≡ loader.scale
      → loader'.first ≡ loader.first → loader'.points ≡ loader.points → now ≡ before → ScanDoes scan it scan → scan ≡ scan_of loader
      → OnOk result (DoesOne LoadingDoes Next (Scanned scan) it before now)
  scan_idle {T} scan it before now (Ok v) scale first points unsent idle is =
      let F : Scan → Type 0 = λ s. s ≡ scan_of loader' in
      record {
        text = [];
        behind = Scanned scan;
        done = (refl, idle);
        stands = subst F (sym is) (λ i. record { scale = sym scale i; first = sym first i; points = sym points i });
        sent = unsent ∙ sent_none before;
      }
  scan_idle {T} scan it before now (Err e) scale first points unsent idle is = tt

  -- ---- a line

  abbrev LineOf : {T : Type 0} → ℕ → List ℕ → Result T End → Held → Type 0
  LineOf {T} at text result held = DoesLine loader.scale loader.step at text loader.first loader.points held.total loader.name held.book
      held.waiting held.open_run result loader'.first loader'.points loader'.kept loader'.run old new

  scan_line : {T : Type 0} (scan : Scan) (at : ℕ) (text : List ℕ) (before now : Option (List ℕ)) (result : Result T End)
      → loader'.scale ≡ loader.scale
      → now ≡ before → OnOk result (LineReads loader.scale loader.first loader.points text loader'.first loader'.points)
      → scan ≡ scan_of loader
      → OnOk result (DoesOne LoadingDoes Next (Scanned scan) (Line at (Some text)) before now)
  scan_line {T} scan at text before now (Ok v) scale unsent reads is =
      let R : Scan → Type 0 = λ s. LineReads s.scale s.first s.points text loader'.first loader'.points in
      let F : Scan → Type 0 = λ s. further s loader'.first loader'.points ≡ scan_of loader' in
      record {
        text = [];
        behind = Scanned (further scan loader'.first loader'.points);
        done = (refl, record { first = loader'.first; points = loader'.points; reads = subst R (sym is) reads; behind_is = refl });
        stands = subst F (sym is) (λ i. record { scale = sym scale i; first = loader'.first; points = loader'.points });
        sent = unsent ∙ sent_none before;
      }
  scan_line {T} scan at text before now (Err e) scale unsent reads is = tt

  pub any_line_done : {T : Type 0} (loading : Loading) (at : ℕ) (text : List ℕ) (before now : Option (List ℕ)) (result : Result T End)
      → SameLoader loader loader' → now ≡ before → ((held : Held) → StandsSo told old loader held → LineOf at text result held)
      → OnOk result (LineReads loader.scale loader.first loader.points text loader'.first loader'.points)
      → StandsFor told old loader loading
      → OnOk result (DoesOne LoadingDoes Next loading (Line at (Some text)) before now)
  any_line_done {T} (Booked held) at text before now result same unsent did reads s =
      as_booked held (Line at (Some text)) before now result
      (line_done told told' held loader loader' old new s (more s.is_told) at text before now result same unsent (did held s))
  any_line_done {T} (Scanned scan) at text before now result same unsent did reads is =
      scan_line scan at text before now result same.scale_is unsent reads is

  pub any_line_stops : {T : Type 0} (loading : Loading) (at : ℕ) (text : List ℕ) (result : Result T End)
      → ((held : Held) → StandsSo told old loader held → LineOf at text result held)
      → IfErr result (λ end. BlamesText loader.scale at loader.first text end) → StandsFor told old loader loading
      → IfErr result (λ end. LoadingStops loading (Line at (Some text)) new end)
  any_line_stops {T} (Booked held) at text result did blames s =
      line_stops told told' held loader loader' old new s (more s.is_told) at text result (did held s)
  any_line_stops {T} (Scanned scan) at text result did blames is =
      let B : Scan → Type 0 = λ s. IfErr result (λ end. BlamesText s.scale at s.first text end) in
      subst B (sym is) blames

  pub any_line_leaves : {T : Type 0} (loading : Loading) (at : ℕ) (text : List ℕ) (result : Result T End)
      → ((held : Held) → StandsSo told old loader held → LineOf at text result held) → StandsFor told old loader loading → Lasts loading
      → Through old new (LoadingLeaves loading (Line at (Some text)) (sent_now old))
  any_line_leaves {T} (Booked held) at text result did s lasts =
      line_leaves told told' held loader loader' old new s (more s.is_told) at text result (did held s)
  any_line_leaves {T} (Scanned scan) at text result did is lasts = absurd lasts

  -- ---- a pause, the end, and a line that is too long

  abbrev RanOf : {T : Type 0} → (ℕ → Type 0) → (Held → List Run) → Result T End → Held → Type 0
  RanOf {T} B runs result held = Does B held.total loader.name held.book (runs held) result old new

  pub any_pause_done : {T : Type 0} (loading : Loading) (B : ℕ → Type 0) (before now : Option (List ℕ)) (result : Result T End)
      → SameLoader loader loader'
      → loader'.first ≡ loader.first → loader'.points ≡ loader.points → now ≡ before
      → ((held : Held) → StandsSo told old loader held → RanOf B (λ h. h.waiting) result held)
      → ((held : Held) → StandsSo told old loader held → OnOk result (KeepsRuns loader.name [] held.open_run loader'.kept loader'.run))
      → StandsFor told old loader loading → OnOk result (DoesOne LoadingDoes Next loading Pause before now)
  any_pause_done {T} (Booked held) B before now result same first points unsent did keeps s =
      as_booked held Pause before now result
      (pause_done told told' held loader loader' old new s (more s.is_told) B before now result same first points unsent (did held s)
      (keeps held s))
  any_pause_done {T} (Scanned scan) B before now result same first points unsent did keeps is =
      scan_idle scan Pause before now result same.scale_is first points unsent refl is

  pub any_end_done : {T : Type 0} (loading : Loading) (B : ℕ → Type 0) (before now : Option (List ℕ)) (result : Result T End)
      → SameLoader loader loader'
      → loader'.first ≡ loader.first → loader'.points ≡ loader.points → now ≡ before
      → ((held : Held) → StandsSo told old loader held → RanOf B (λ h. h.waiting ++ closed h.open_run) result held)
      → ((held : Held) → StandsSo told old loader held → OnOk result (KeepsRuns loader.name [] None loader'.kept loader'.run))
      → StandsFor told old loader loading → OnOk result (DoesOne LoadingDoes Next loading given.End before now)
  any_end_done {T} (Booked held) B before now result same first points unsent did keeps s =
      as_booked held given.End before now result
      (end_done told told' held loader loader' old new s (more s.is_told) B before now result same first points unsent (did held s)
      (keeps held s))
  any_end_done {T} (Scanned scan) B before now result same first points unsent did keeps is =
      scan_idle scan given.End before now result same.scale_is first points unsent refl is

  pub any_runs_stop : {T : Type 0} (loading : Loading) (it : Given) (runs : Held → List Run) (result : Result T End)
      → ((held : Held) → RunsBy (seen held loader) it (runs held))
      → ((held : Held) → StandsSo told old loader held → RanOf (BadBy (seen held loader) it new.image) runs result held)
      → IfErr result (λ end. ScanStops (scan_of loader) it end) → StandsFor told old loader loading
      → IfErr result (λ end. LoadingStops loading it new end)
  any_runs_stop {T} (Booked held) it runs result are did stops s =
      runs_stops told told' held loader loader' old new s (more s.is_told) it (runs held) result (are held) (did held s)
  any_runs_stop {T} (Scanned scan) it runs result are did stops is =
      let B : Scan → Type 0 = λ s. IfErr result (λ end. ScanStops s it end) in
      subst B (sym is) stops

  pub any_runs_leave : {T : Type 0} (loading : Loading) (it : Given) (B : Held → ℕ → Type 0) (runs : Held
      → List Run) (result : Result T End)
      → ((held : Held) → RunsBy (seen held loader) it (runs held))
      → ((held : Held) → StandsSo told old loader held → RanOf (B held) runs result held) → StandsFor told old loader loading
      → Lasts loading
      → Through old new (LoadingLeaves loading it (sent_now old))
  any_runs_leave {T} (Booked held) it B runs result are did s lasts =
      runs_leave told told' held loader loader' old new s (more s.is_told) it (B held) (runs held) result (are held) (did held s)
  any_runs_leave {T} (Scanned scan) it B runs result are did is lasts = absurd lasts
