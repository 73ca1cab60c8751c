-- What a line more does to what was read.
use Rattle.std.proofs.Common.{◌≡◌, ℕ, ℤ, ◌+◌, ◌<◌, ◌^◌, Bool, true, false, cond, List, [], ◌∷◌, ◌++◌, length, Option, None, Some, Result}
use Rattle.std.proofs.Common.{Ok, Err, IsSomeAnd, refl, ap, subst, inl, inr, sym, ◌∙◌, arith, unsigned_abs}
use Rattle.std.proofs.lemmas.List.{append-nil}
use Rattle.std.specs.Prelude.{count_by, is_some, IsErrAnd, OnOk, ◌==◌}
use Rattle.std.proofs.lemmas.Bool.{eqb-true}
use Rattle.std.proofs.lemmas.List.Sums.{sum_by-append}
use Rattle.block_disk.specs.View.{View, Passes}
use Rattle.block_disk.proofs.Passing.{passes_none, passes_weaker}
use Rattle.gate_pages.specs.Pages.{Quiet}
use Rattle.series_book.specs.declared.one_series.Series.{Series}
use Rattle.stored_book.specs.Standing.{StandsForBook}
use Rattle.csv_load.specs.Fields.{Fields, fields_of_line}
use Rattle.csv_load.specs.Rows.{Says, FieldsSay}
use Rattle.csv_load.specs.declared.row.Row.TheVariants as row
use Rattle.series_load.specs.Fronts.{PlacedLine}
use Rattle.series_load.specs.Rows.{Reading, IsRow, AreTable, IsBad}
use Rattle.series_load.specs.Runs.{Run, Cut}
use Rattle.series_load.specs.Steps.{Adds, Does, DoesLine, IsAtLine, IsAtText, KeepsRuns, LineAdds, LineLeaves, LineRuns, NoBad, Read}
use Rattle.series_load.specs.Steps.{SaysSo, StopsSo, Took, closed, if_told}
use Rattle.run_ends.specs.declared.ending.End.{End}
use Rattle.series_load.specs.Sets.{AreSets, IsPartDone}
use Rattle.run_ends.specs.declared.ending.End.TheVariants.{NoMemory, BadInput}
use Rattle.series_load.specs.declared.kept_sets.KeptSets.{KeptSets}
use Rattle.series_load.specs.declared.open_run.OpenRun.{OpenRun}
use Rattle.series_load.specs.declared.open_run.Reading.{Reading as Kept}
use Rattle.series_load.specs.declared.said.Said.{Said}
use Rattle.series_load.specs.declared.said.Said.TheVariants.{Header, Point, Gap, Bad}
use Rattle.series_load.proofs.RunLemmas.{adds_gap}
use Rattle.series_load.proofs.CostLemmas.{costs_none}
use Rattle.series_load.proofs.SetLemmas.{after_none, part_none, stops_more}
use Rattle.series_load.proofs.RowLemmas.{table_more, no_rows, table_header}

-- one for a row with a reading
abbrev pub one_if : Option Reading → ℕ
one_if row = cond (is_some row) 1 0

pub counted_more : (rows : List (Option Reading)) (row : Option Reading)
    → count_by is_some (rows ++ row ∷ []) ≡ count_by is_some rows + one_if row
counted_more rows row = sum_by-append (λ r. cond (is_some r) 1 0) rows (row ∷ []) ∙ omega arith

abbrev pub placed : ℕ → List ℕ → PlacedLine
placed at text = record { at = at; text = Some text }

pub told_one : (at : ℕ) (text : List ℕ) → 0 < length text → if_told at (Some text) ≡ placed at text ∷ []
told_one at [] some = absurd (omega (arith, some))
told_one at (byte ∷ bytes) some = refl

pub told_none : (at : ℕ) (text : List ℕ) → text ≡ [] → if_told at (Some text) ≡ []
told_none at [] none = refl
told_none at (byte ∷ bytes) none = cc

pub some_behind : (lines : List PlacedLine) (line : PlacedLine) → 0 < length (lines ++ line ∷ [])
some_behind [] line = omega arith
some_behind (l ∷ ls) line = omega (arith, some_behind ls line)

pub none_behind : (lines : List PlacedLine) (line : PlacedLine) → false ≡ true → lines ++ line ∷ [] ≡ []
none_behind lines line is = cc

read_row : (scale step at : ℕ) (text : List ℕ) (first : Bool) (old : Option Run) (points : ℕ) (row : Option Reading) (ends : List Run)
    (new : Option Run) (lines : List PlacedLine) (runs : List Run) → IsRow scale (placed at text) row → Adds step old row ends new
    → Read scale step lines runs first old points → Read scale step (lines ++ placed at text ∷ []) (runs ++ ends) false new
    (points + one_if row)
read_row scale step at text first old points row ends new lines runs is adds read = record {
  rows = read.rows ++ row ∷ [];
  table = table_more scale lines read.rows (placed at text) row read.table is;
  cut = adds read.rows runs read.cut;
  counted = ap (λ n. n + one_if row) read.counted ∙ sym (counted_more read.rows row);
  none_yet = none_behind lines (placed at text);
  some_yet = λ no. some_behind lines (placed at text);
}

-- a row is read
pub adds_row : (scale step at : ℕ) (text : List ℕ) (first : Bool) (old : Option Run) (points : ℕ) (row : Option Reading) (ends : List Run)
    (new : Option Run) → 0 < length text → IsRow scale (placed at text) row → Adds step old row ends new
    → LineAdds scale step at text first old points ends false new (points + one_if row)
adds_row scale step at text first old points row ends new some is adds = λ lines runs read.
    let P : List PlacedLine → Type 0 = λ l. Read scale step (lines ++ l) (runs ++ ends) false new (points + one_if row) in
    subst P (sym (told_one at text some)) (read_row scale step at text first old points row ends new lines runs is adds read)

-- the header is read
pub adds_header : (scale step at : ℕ) (text : List ℕ) (first : Bool) (old : Option Run) (points : ℕ) → 0 < length text
    → SaysSo scale first text Header → LineAdds scale step at text first old points [] false old points
adds_header scale step at text first old points some says = λ lines runs read.
    let none = read.none_yet says.0 in
    let no_row = no_rows scale lines read.rows none read.table in
    let L : List PlacedLine → Type 0 = λ l. AreTable scale (l ++ placed at text ∷ []) read.rows in
    let R : List (Option Reading) → Type 0 = λ r. AreTable scale (placed at text ∷ []) r in
    let P : List PlacedLine → Type 0 = λ l. Read scale step (lines ++ l) (runs ++ []) false old points in
    let Q : List Run → Type 0 = λ r. Cut step read.rows r old in
    subst P (sym (told_one at text some)) (record {
      rows = read.rows;
      table = subst L (sym none) (subst R (sym no_row) (table_header scale (placed at text) says.1));
      cut = subst Q (sym (append-nil runs)) read.cut;
      counted = read.counted;
      none_yet = none_behind lines (placed at text);
      some_yet = λ no. some_behind lines (placed at text);
    })

-- an empty line is passed over
pub adds_empty : (scale step at : ℕ) (text : List ℕ) (first : Bool) (old : Option Run) (points : ℕ) → text ≡ []
    → LineAdds scale step at text first old points [] first old points
adds_empty scale step at text first old points none = λ lines runs read.
    let P : List PlacedLine → Type 0 = λ l. Read scale step l (runs ++ []) first old points in
    let Q : List Run → Type 0 = λ r. Read scale step lines r first old points in
    subst P (sym (ap (λ l. lines ++ l) (told_none at text none) ∙ append-nil lines)) (subst Q (sym (append-nil runs)) read)

pub is_bad : (scale : ℕ) (text : List ℕ) (first : Bool) (lines : List PlacedLine) → (first ≡ false → 0 < length lines)
    → SaysSo scale first text Bad → IsBad scale lines (Some text)
is_bad scale text first lines some (inl fails) = inl fails
is_bad scale text first lines some (inr late) = inr (some late.0, late.1)

near_of : (scale : ℕ) (fields : Option Fields) (time value : ℤ) → IsSomeAnd fields (λ f. FieldsSay scale f (row.Point time value))
    → unsigned_abs time < 10 ^ 19
near_of scale None time value says = absurd says
near_of scale (Some f) time value says = says.0.1

-- a row's time has at most 19 digits
pub near_time : (scale : ℕ) (text : List ℕ) (time value : ℤ) → Says scale text (row.Point time value) → unsigned_abs time < 10 ^ 19
near_time scale text time value says = near_of scale (fields_of_line text) time value says

pub near_said : (scale : ℕ) (first : Bool) (text : List ℕ) (said : Said) (reading : Kept) → SaysSo scale first text said
    → said ≡ Point reading → unsigned_abs reading.time < 10 ^ 19
near_said scale first text said reading says is =
    let P : Said → Type 0 = λ s. SaysSo scale first text s in
    near_time scale text reading.time reading.value (subst P is says)

pub empty_text : (b : Bool) (text : List ℕ) → b ≡ (length text == 0) → b ≡ true → text ≡ []
empty_text b [] tests is = refl
empty_text b (byte ∷ bytes) tests is = let none : length (byte ∷ bytes) ≡ 0 = eqb-true (length (byte ∷ bytes)) 0 (sym tests ∙ is) in
    absurd (omega (arith, none))

pub some_text_of : (b : Bool) (text : List ℕ) → b ≡ (length text == 0) → b ≡ false → 0 < length text
some_text_of b [] tests is = let other : b ≡ true = tests in cc
some_text_of b (byte ∷ bytes) tests is = omega arith

-- what a line adds, in the words of a call
abbrev pub adds_at : ℕ → ℕ → ℕ → List ℕ → Bool → Option Run → ℕ → Bool → ℕ → List Run → Option Run → Type 0
adds_at scale step at text first old points first' points' ends new = LineAdds scale step at text first old points ends first' new points'

-- no run ends
pub took_nothing : (G : List Run → Option Run → Type 0) (name : List ℕ) (waiting : List Run) (old : Option Run) (kept : KeptSets)
    (run : OpenRun) → G [] old → KeepsRuns name waiting old kept run → Took G name waiting kept run
took_nothing G name waiting old kept run gives keeps =
    let P : List Run → Type 0 = λ l. AreSets name l kept.sets.items kept.ats.items in
    record {
      ends = [];
      new = old;
      gives = gives;
      keeps = record {
        sets = subst P (sym (append-nil waiting)) keeps.sets;
        still = keeps.still;
      };
    }

-- a row of either kind was taken
row_took : {T : Type 0} (scale step at : ℕ) (text : List ℕ) (first first' : Bool) (points points' : ℕ) (row : Option Reading)
    (name : List ℕ) (waiting : List Run) (old : Option Run) (result : Result T End) (kept : KeptSets) (run : OpenRun) → 0 < length text
    → IsRow scale (placed at text) row → first' ≡ false → points' ≡ points + one_if row
    → OnOk result (Took (Adds step old row) name waiting kept run)
    → OnOk result (Took (adds_at scale step at text first old points first' points') name waiting kept run)
row_took {T} scale step at text first first' points points' row name waiting old (Ok v) kept run some is named count took =
    let N : ℕ → Type 0 = λ n. LineAdds scale step at text first old points took.ends false took.new n in
    let F : Bool → Type 0 = λ b. LineAdds scale step at text first old points took.ends b took.new points' in
    record {
      ends = took.ends;
      new = took.new;
      gives = subst F (sym named)
          (subst N (sym count) (adds_row scale step at text first old points row took.ends took.new some is took.gives));
      keeps = took.keeps;
    }
row_took {T} scale step at text first first' points points' row name waiting old (Err e) kept run some is named count took = tt

pub point_took : {T : Type 0} (scale step at : ℕ) (text : List ℕ) (first first' : Bool) (points points' : ℕ) (time value : ℤ)
    (name : List ℕ) (waiting : List Run) (old : Option Run) (result : Result T End) (kept : KeptSets) (run : OpenRun) → 0 < length text
    → Says scale text (row.Point time value) → first' ≡ false → points' ≡ points + 1
    → OnOk result (Took (Adds step old (Some (record { at = at; time = time; value = value }))) name waiting kept run)
    → OnOk result (Took (adds_at scale step at text first old points first' points') name waiting kept run)
point_took scale step at text first first' points points' time value name waiting old result kept run some says is count took =
    row_took scale step at text first first' points points'
    (Some (record { at = at; time = time; value = value })) name waiting old result kept run some (refl, says) is count took

gap_row : (scale at : ℕ) (text : List ℕ) → ((time : ℤ) × Says scale text (row.Skip time)) → IsRow scale (placed at text) None
gap_row scale at text says = says

pub gap_took : {T : Type 0} (scale step at : ℕ) (text : List ℕ) (first first' : Bool) (points points' : ℕ) (name : List ℕ)
    (waiting : List Run) (old : Option Run) (result : Result T End) (kept : KeptSets) (run : OpenRun) → 0 < length text
    → SaysSo scale first text Gap → first' ≡ false → points' ≡ points
    → OnOk result (KeepsRuns name (waiting ++ closed old) None kept run)
    → OnOk result (Took (adds_at scale step at text first old points first' points') name waiting kept run)
gap_took {T} scale step at text first first' points points' name waiting old (Ok v) kept run some says is count ended =
    row_took {T = T} scale step at text first first' points points' None name waiting old (Ok v) kept run some
    (gap_row scale at text says) is (count ∙ omega arith)
    (record { ends = closed old; new = None; gives = adds_gap step old; keeps = ended })
gap_took {T} scale step at text first first' points points' name waiting old (Err e) kept run some says is count ended = tt

-- ---- with the store

module _ (scale step at : ℕ) (text : List ℕ) (first : Bool) (points total : ℕ) (name : List ℕ) (book : List Series) (waiting : List Run)
    (open_run : Option Run) where
  abbrev Line : {T : Type 0} → Result T End → Bool → ℕ → KeptSets → OpenRun → View → View → Type 0
  Line {T} result first' points' kept run old new = DoesLine scale step at text first points total name book waiting open_run result first'
      points' kept run old new

  -- nothing was stored
  pub line_kept : {T : Type 0} (v : T) (first' : Bool) (points' : ℕ) (kept : KeptSets) (run : OpenRun) (now : View)
      → StandsForBook now.image total book → Took (adds_at scale step at text first open_run points first' points') name waiting kept run
      → Line (Ok v) first' points' kept run now now
  line_kept {T} v first' points' kept run now stands took = record {
    took = record {
      ends = took.ends;
      still = took.new;
      adds = took.gives;
      costs = costs_none 0 now;
      done = [];
      later = waiting ++ took.ends;
      split = refl;
      after = after_none total name book now.image stands;
      keeps = took.keeps;
    };
    stops = tt;
    moments = passes_none now (LineLeaves scale step at text first points total name book waiting open_run) (Quiet now);
  }

  pub line_starved : {T : Type 0} (e : End) (result : Result T End) (first' : Bool) (points' : ℕ) (kept : KeptSets) (run : OpenRun)
      (now : View) → IsErrAnd result (λ x. x ≡ e) → e ≡ NoMemory → StandsForBook now.image total book
      → Line result first' points' kept run now now
  line_starved {T} e (Ok v) first' points' kept run now is none stands = absurd is
  line_starved {T} e (Err x) first' points' kept run now is none stands =
      let P : End → Type 0 = λ y. StopsSo (IsAtText scale at text first total name book (waiting ++ closed open_run) now.image) total name
      book waiting now.image y in
      record {
        took = tt;
        stops = record {
          runs = waiting;
          are = inl refl;
          costs = costs_none (length waiting) now;
          why = subst P (sym (is ∙ none)) (part_none total name book waiting now.image stands);
        };
        moments = passes_none now (LineLeaves scale step at text first points total name book waiting open_run) (Quiet now);
      }

  -- the sets that were kept were done
  pub line_committed : (result : Result (Unit {0}) End) (first' : Bool) (points' : ℕ) (kept kept' : KeptSets) (run run' : OpenRun)
      (old new : View) → (took : Took (adds_at scale step at text first open_run points first' points') name waiting kept run) → run' ≡ run
      → Does NoBad total name book (waiting ++ took.ends) result old new → OnOk result (KeepsRuns name [] took.new kept' run')
      → Line result first' points' kept' run' old new
  line_committed result first' points' kept kept' run run' old new took same does keeps =
      let runs = waiting ++ took.ends in
      let are : LineRuns scale step at text first points waiting open_run runs = inr
      (inl (record { ends = took.ends; first' = first'; new = took.new; points' = points'; adds = took.gives; runs_are = refl })) in
      by result does keeps (passes_weaker old new (IsPartDone total name book runs)
      (LineLeaves scale step at text first points total name book waiting open_run) (Quiet old) (Quiet old)
      (λ image part. record { runs = runs; are = are; part = part }) (λ count quiet. quiet) does.moments) are
    where
      by : (r : Result (Unit {0}) End) → Does NoBad total name book (waiting ++ took.ends) r old new
          → OnOk r (KeepsRuns name [] took.new kept' run')
          → Passes old new (LineLeaves scale step at text first points total name book waiting open_run) (Quiet old)
          → LineRuns scale step at text first points waiting open_run (waiting ++ took.ends) → Line r first' points' kept' run' old new
      by (Ok v) does keeps time are = record {
        took = record {
          ends = took.ends;
          still = took.new;
          adds = took.gives;
          costs = does.costs;
          done = waiting ++ took.ends;
          later = [];
          split = sym (append-nil (waiting ++ took.ends));
          after = does.done;
          keeps = keeps;
        };
        stops = tt;
        moments = time;
      }
      by (Err e) does keeps time are = record {
        took = tt;
        stops = record {
          runs = waiting ++ took.ends;
          are = are;
          costs = does.costs;
          why = stops_more (IsAtText scale at text first total name book (waiting ++ closed open_run) new.image) total name book
              (waiting ++ took.ends) new.image e does.stops;
        };
        moments = time;
      }

  -- at a bad line
  pub line_stopped : {T U : Type 0} (e : End) (first' : Bool) (points' : ℕ) (kept : KeptSets) (run : OpenRun) (old new : View)
      → 0 < length text → SaysSo scale first text Bad
      → Does {T = U} (IsAtLine at total name book (waiting ++ closed open_run) new.image) total name book (waiting ++ closed open_run)
      (Err e) old new → Line {T = T} (Err e) first' points' kept run old new
  line_stopped {T} {U} e first' points' kept run old new some bad does =
      let runs = waiting ++ closed open_run in
      let are : LineRuns scale step at text first points waiting open_run runs = inr
      (inr (record { some = some; bad = bad; runs_are = refl })) in
      record {
        took = tt;
        stops = record { runs = runs; are = are; costs = does.costs; why = at_text e does.stops };
        moments = passes_weaker old new (IsPartDone total name book runs)
            (LineLeaves scale step at text first points total name book waiting open_run) (Quiet old) (Quiet old)
            (λ image part. record { runs = runs; are = are; part = part }) (λ count quiet. quiet) does.moments;
      }
    where
      at_text : (e : End) → StopsSo (IsAtLine at total name book (waiting ++ closed open_run) new.image) total name book
          (waiting ++ closed open_run) new.image e
          → StopsSo (IsAtText scale at text first total name book (waiting ++ closed open_run) new.image) total name book
          (waiting ++ closed open_run) new.image e
      at_text (BadInput place) why = record { at_line = why; some = some; bad = bad }
      at_text end why = why
