-- Some first of the first runs of an input are first runs of it too.
use Rattle.std.proofs.Common.{◌≡◌, ◌⊎◌, ◌∙◌, ℕ, ◌+◌, ◌^◌, ◌≤◌, Bool, true, false, cond, List, [], ◌∷◌, ◌++◌, length, map, Option, None}
use Rattle.std.proofs.Common.{Some, refl, ap, ap₂, sym, subst, inl, inr, arith, append_assoc, length-append}
use Rattle.std.specs.List.{filter}
use Rattle.std.proofs.lemmas.List.{append-nil, length-map, map-append}
use Rattle.chart_world.specs.FrontLaws.{told_split}
use Rattle.chart_world.specs.Fronts.{BeginsWith, IsWhole, says}
use Rattle.chart_world.specs.Lines.{lines, split_lines, text_of}
use Rattle.series_load.specs.Fronts.{PlacedLine, placed_from, told}
use Rattle.series_load.specs.Rows.{AreRows, AreTable, ReadsRows, Reading, Stops}
use Rattle.series_load.specs.Runs.{AreFirst, Breaks, Cut, Ended, EndsAt, IsRun, Rows, Run, gap, nothing, rows_of, still, whole}
use Rattle.series_load.proofs.Joined.{told_begins}
use Rattle.series_load.proofs.OneCut.{one_cut}
use Rattle.series_load.proofs.RunLemmas.{one_is_run, one_run}

-- ---- runs that ended within some first rows

record FirstRows (step : ℕ) (rows : Rows) (runs : List Run) : Type 0 where
  pub first : Rows
  pub behind : Rows
  pub split : rows ≡ first ++ behind
  pub ended : Ended step first runs

none_first : (step : ℕ) (rows : Rows) → FirstRows step rows []
none_first step rows = record { first = []; behind = rows; split = refl; ended = (None, nothing) }

alone_first : (step : ℕ) (run : Run) (rows : Rows) → IsRun step run → Breaks step run rows → FirstRows step (rows_of run ++ rows) (run ∷ [])
alone_first step run [] is breaks = absurd breaks
alone_first step run (None ∷ later) is breaks = record {
  first = rows_of run ++ None ∷ [];
  behind = later;
  split = sym (append_assoc (rows_of run) (None ∷ []) later);
  ended = (None, whole run (None ∷ []) [] None is (inr tt) (gap [] [] None nothing));
}
alone_first step run (Some next ∷ later) is breaks = record {
  first = rows_of run ++ Some next ∷ [];
  behind = later;
  split = sym (append_assoc (rows_of run) (Some next ∷ []) later);
  ended = (
    Some (one_run next),
    whole run (Some next ∷ []) [] (Some (one_run next)) is (inr breaks)
        (still (one_run next) (one_is_run step next) (omega arith)),
  );
}

breaks_front : (step : ℕ) (run : Run) (row : Option Reading) (first behind : Rows) → Breaks step run (row ∷ (first ++ behind))
    → Breaks step run (row ∷ first)
breaks_front step run None first behind breaks = tt
breaks_front step run (Some next) first behind breaks = breaks

run_first : (step : ℕ) (run : Run) (rows : Rows) (runs : List Run) → IsRun step run → EndsAt step run rows → FirstRows step rows runs
    → FirstRows step (rows_of run ++ rows) (run ∷ runs)
run_first step run rows runs is (inl full) f = record {
  first = rows_of run ++ f.first;
  behind = f.behind;
  split = ap (λ r. rows_of run ++ r) f.split ∙ sym (append_assoc (rows_of run) f.first f.behind);
  ended = (f.ended.0, whole run f.first runs f.ended.0 is (inl full) f.ended.1);
}
run_first step run rows runs is (inr breaks) f = by f.first f.split f.ended
  where
    by : (first : Rows) → rows ≡ first ++ f.behind → Ended step first runs → FirstRows step (rows_of run ++ rows) (run ∷ runs)
    by [] split ended =
        let none : runs ≡ [] = (one_cut step [] runs [] ended.0 None ended.1 nothing).0 in
        let P : List Run → Type 0 = λ r. FirstRows step (rows_of run ++ rows) (run ∷ r) in
        subst P (sym none) (alone_first step run rows is breaks)
    by (row ∷ first) split ended =
        let P : Rows → Type 0 = λ r. Breaks step run r in
        record {
          first = rows_of run ++ row ∷ first;
          behind = f.behind;
          split = ap (λ r. rows_of run ++ r) split ∙ sym (append_assoc (rows_of run) (row ∷ first) f.behind);
          ended = (
            ended.0,
            whole run (row ∷ first) runs ended.0 is
                (inr (breaks_front step run row first f.behind (subst P split breaks))) ended.1,
          );
        }

first_rows : {step : ℕ} {rows : Rows} {all : List Run} {open_run : Option Run} → Cut step rows all open_run → (runs later : List Run)
    → all ≡ runs ++ later → FirstRows step rows runs
first_rows {step} {rows} nothing [] later is = none_first step []
first_rows {step} nothing (run ∷ runs) later is = cc
first_rows {step} (still run is_run few) [] later is = none_first step (rows_of run)
first_rows {step} (still run is_run few) (other ∷ runs) later is = cc
first_rows {step} (gap rows all open_run cut) runs later is =
    let f = first_rows cut runs later is in
    record {
      first = None ∷ f.first;
      behind = f.behind;
      split = ap (λ r. None ∷ r) f.split;
      ended = (f.ended.0, gap f.first runs f.ended.0 f.ended.1);
    }
first_rows {step} (whole run rows all open_run is_run ended cut) [] later is = none_first step (rows_of run ++ rows)
first_rows {step} (whole run rows all open_run is_run ended cut) (other ∷ runs) later is =
    let same : run ≡ other = cc in
    let others : all ≡ runs ++ later = cc in
    let P : Run → Type 0 = λ r. FirstRows step (rows_of run ++ rows) (r ∷ runs) in
    subst P same (run_first step run rows runs is_run ended (first_rows cut runs later others))

-- ---- the lines of these rows

record FirstLines (scale : ℕ) (lines : List PlacedLine) (rows : Rows) : Type 0 where
  pub first : List PlacedLine
  pub behind : List PlacedLine
  pub split : lines ≡ first ++ behind
  pub table : AreTable scale first rows

rows_split : (scale : ℕ) (lines : List PlacedLine) (first behind : Rows) → AreRows scale lines (first ++ behind)
    → (front : List PlacedLine) × (back : List PlacedLine) × (lines ≡ front ++ back) × AreRows scale front first
rows_split scale lines [] behind are = ([], lines, refl, tt)
rows_split scale [] (row ∷ first) behind are = absurd are
rows_split scale (line ∷ lines) (row ∷ first) behind are =
    let rest = rows_split scale lines first behind are.1 in
    (line ∷ rest.0, rest.1, ap (λ l. line ∷ l) rest.2, (are.0, rest.3))

table_split : (scale : ℕ) (lines : List PlacedLine) (first behind : Rows) → AreTable scale lines (first ++ behind)
    → FirstLines scale lines first
table_split scale lines first behind (inl are) =
    let s = rows_split scale lines first behind are in
    record { first = s.0; behind = s.1; split = s.2; table = inl s.3 }
table_split scale lines first behind (inr has) =
    let s = rows_split scale has.later first behind has.rows_are in
    record {
      first = has.header ∷ s.0;
      behind = s.1;
      split = has.split ∙ ap (λ l. has.header ∷ l) s.2;
      table = inr (record { header = has.header; later = s.0; split = refl; is_header = has.is_header; rows_are = s.3 });
    }

-- ---- the bytes of these lines

abbrev texts : List PlacedLine → List (Option (List ℕ))
texts placed = map (λ line. line.text) placed

texts_from : (at : ℕ) (parts : List (List ℕ)) → texts (filter (λ (line : PlacedLine). says line.text) (placed_from at parts)) ≡ filter says
    (map text_of parts)
texts_from at [] = refl
texts_from at (part ∷ parts) = by (says (text_of part)) refl (texts_from (at + length part + 1) parts)
  where
    here : PlacedLine
    here = record { at = at; text = text_of part }

    by : (b : Bool) → says (text_of part) ≡ b → texts
        (filter (λ (line : PlacedLine). says line.text) (placed_from (at + length part + 1) parts)) ≡ filter says (map text_of parts)
        → texts (filter (λ (line : PlacedLine). says line.text) (here ∷ placed_from (at + length part + 1) parts)) ≡ filter says
        (text_of part ∷ map text_of parts)
    by true is rest =
        let later = filter (λ (line : PlacedLine). says line.text) (placed_from (at + length part + 1) parts) in
        let others = filter says (map text_of parts) in
        ap (λ b. texts (cond b (here ∷ later) later)) is ∙ ap (λ l. text_of part ∷ l) rest
        ∙ sym (ap (λ b. cond b (text_of part ∷ others) others) is)
    by false is rest =
        let later = filter (λ (line : PlacedLine). says line.text) (placed_from (at + length part + 1) parts) in
        let others = filter says (map text_of parts) in
        ap (λ b. texts (cond b (here ∷ later) later)) is ∙ rest ∙ sym (ap (λ b. cond b (text_of part ∷ others) others) is)

texts_told : (bytes : List ℕ) → texts (told bytes) ≡ filter says (lines bytes)
unfolding told lines
texts_told bytes = texts_from 0 (split_lines bytes)

same_front : {X : Type 0} (xs ys us bs : List X) → xs ++ ys ≡ us ++ bs → length xs ≡ length us → xs ≡ us
same_front {X} [] ys [] bs is count = refl
same_front {X} [] ys (a ∷ us) bs is count = cc
same_front {X} (x ∷ xs) ys [] bs is count = cc
same_front {X} (x ∷ xs) ys (a ∷ us) bs is count =
    let first : x ≡ a = cc in
    let others : xs ++ ys ≡ us ++ bs = cc in
    ap₂ (λ h t. h ∷ t) first (same_front xs ys us bs others (omega (arith, count)))

record FirstBytes (input front rest : List ℕ) (first : List PlacedLine) : Type 0 where
  pub begun : List ℕ
  pub behind : List ℕ
  pub begins : BeginsWith input begun behind
  pub less : length begun ≤ length front
  pub told_is : told begun ≡ first

first_bytes : (input front rest : List ℕ) (first later : List PlacedLine) → BeginsWith input front rest → told front ≡ first ++ later
    → FirstBytes input front rest first
first_bytes input front rest first later begins split =
    let f = told_split (length front) front (texts first) (texts later) (omega arith) (sym (texts_told front) ∙ ap texts split
    ∙ map-append (λ (line : PlacedLine). line.text) first later) in
    let count : length (told f.front) ≡ length first = omega (
      arith,
      length-map (told f.front) (λ (line : PlacedLine). line.text),
      length-map first (λ (line : PlacedLine). line.text),
      ap length (texts_told f.front ∙ f.first_are),
    ) in
    record {
      begun = f.front;
      behind = f.rest ++ rest;
      begins = record {
        split = begins.split ∙ ap (λ l. l ++ rest) f.begins.split ∙ append_assoc f.front f.rest rest;
        whole = by f.front f.rest f.begins.split f.begins.whole begins.whole;
      };
      less = omega (arith, ap length f.begins.split, length-append f.front f.rest);
      told_is = same_front (told f.front) _ first later (sym (told_begins front f.front f.rest f.begins) ∙ split) count;
    }
  where
    by : (begun behind : List ℕ) → front ≡ begun ++ behind → IsWhole begun ⊎ (behind ≡ []) → IsWhole front ⊎ (rest ≡ [])
        → IsWhole begun ⊎ (behind ++ rest ≡ [])
    by begun behind split (inl is_whole) either = inl is_whole
    by begun behind split (inr none) (inl is_whole) =
        let P : List ℕ → Type 0 = IsWhole in
        inl (subst P (split ∙ ap (λ l. begun ++ l) none ∙ append-nil begun) is_whole)
    by begun behind split (inr none) (inr no_rest) = inr (ap (λ l. l ++ rest) none ∙ no_rest)

-- ---- both

within_rows : (scale step : ℕ) (input front rest : List ℕ) (rows : Rows) (runs : List Run) → length front ≤ 2 ^ 32
    → ReadsRows scale input front rest rows → (first behind : Rows) → rows ≡ first ++ behind → Ended step first runs
    → AreFirst scale step input runs
within_rows scale step input front rest rows runs early reads first behind split ended =
    let P : Rows → Type 0 = λ r. AreTable scale (told front) r in
    let t = table_split scale (told front) first behind (subst P split reads.table) in
    let b = first_bytes input front rest t.first t.behind reads.begins t.split in
    let Q : List PlacedLine → Type 0 = λ l. AreTable scale l first in
    record {
      front = b.begun;
      rest = b.behind;
      early = omega (arith, b.less, early);
      rows = first;
      reads = record { begins = b.begins; table = subst Q (sym b.told_is) t.table };
      ended = inl ended;
    }

-- all but the last one of them
record Without {X : Type 0} (xs us : List X) : Type 0 where
  pub others : List X
  pub split : xs ≡ us ++ others

without_last : {X : Type 0} (xs : List X) (x : X) (us : List X) (b : X) (bs : List X) → xs ++ x ∷ [] ≡ us ++ b ∷ bs → Without xs us
without_last {X} xs x [] b bs is = record { others = xs; split = refl }
without_last {X} [] x (a ∷ []) b bs is = cc
without_last {X} [] x (a ∷ (next ∷ us)) b bs is = cc
without_last {X} (y ∷ xs) x (a ∷ us) b bs is =
    let first : y ≡ a = cc in
    let later : xs ++ x ∷ [] ≡ us ++ b ∷ bs = cc in
    let w = without_last xs x us b bs later in
    record { others = w.others; split = ap₂ (λ h t. h ∷ t) first w.split }

pub first_of : (scale step : ℕ) (input : List ℕ) (runs later : List Run) → AreFirst scale step input (runs ++ later)
    → AreFirst scale step input runs
first_of scale step input runs later are = elim are.ended [
  | inl ended ↦
      let f = first_rows ended.1 runs later refl in
      within_rows scale step input are.front are.rest are.rows runs are.early are.reads f.first f.behind f.split f.ended
  | inr stops ↦ by stops.0 (first_rows stops.1.1 runs later refl)
]
  where
    by : Stops scale are.front are.rest → FirstRows step (are.rows ++ None ∷ []) runs → AreFirst scale step input runs
    by stops f = cases f.behind f.split
      where
        cases : (behind : Rows) → are.rows ++ None ∷ [] ≡ f.first ++ behind → AreFirst scale step input runs
        cases [] split =
            let P : Rows → Type 0 = λ r. Ended step r runs in
            record {
              front = are.front;
              rest = are.rest;
              early = are.early;
              rows = are.rows;
              reads = are.reads;
              ended = inr (stops, subst P (sym (split ∙ append-nil f.first)) f.ended);
            }
        cases (row ∷ behind) split =
            let w = without_last are.rows None f.first row behind split in
            within_rows scale step input are.front are.rest are.rows runs are.early are.reads f.first w.others w.split f.ended
