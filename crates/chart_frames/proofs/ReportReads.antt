-- Reports that were read, part by part.
use Rattle.std.proofs.Common.{◌≡◌, ℕ, ℤ, zero, suc, ◌+◌, ◌-◌, ◌*◌, ◌<◌, ◌≤◌, inl, inr, Bool, true, false, cond, leb, eqb, List, [], ◌∷◌}
use Rattle.std.proofs.Common.{◌++◌, length, take, drop, Result, Err, refl, sym, ap, ◌∙◌, subst, arith, append_assoc, length-append}
use Rattle.std.specs.Prelude.{All}
use Rattle.std.specs.Bool.{IsTrue}
use Rattle.std.specs.List.{list_all}
use Rattle.std.proofs.lemmas.Bool.{and_parts, or_cases, leb-true, eqb-true}
use Rattle.std.proofs.lemmas.List.{take-append-drop, length-take-le, append-nil}
use Rattle.std.proofs.lemmas.List.Elements.{All-push}
use Rattle.series_book.specs.Names.{is_name}
use Rattle.whole_number.specs.Range.{IsValue}
use Rattle.chart_frames.specs.declared.limits.TheConstants.{MOST_SLOTS}
use Rattle.chart_frames.specs.declared.fields.Stop.{Stop}
use Rattle.chart_frames.specs.declared.fields.Stop.TheVariants.{More, Bad}
use Rattle.chart_frames.specs.declared.item_stop.ItemStop.{ItemStop}
use Rattle.chart_frames.specs.declared.item_stop.ItemStop.TheVariants as stops
use Rattle.chart_frames.specs.declared.reports.ListedSeries.{ListedSeries}
use Rattle.chart_frames.specs.declared.reports.Run.{Run}
use Rattle.chart_frames.specs.declared.values_reading.Room.{Room}
use Rattle.chart_frames.specs.Format.{Format, number_bytes}
use Rattle.chart_frames.specs.Reading.{read}
use Rattle.chart_frames.specs.Fields.{is_blank, is_padded, padded_field, listed_fields, series_list, are_counts, lesser, run_fields}
use Rattle.chart_frames.specs.Fields.{runs_fields, value_field, values_list}
use Rattle.chart_frames.specs.Frames.{number_of_flag, name_number, FitsListed, FitRuns}
use Rattle.chart_frames.specs.Spelled.{signed_bytes, listed_before, series_before, run_before, runs_before, values_before}
use Rattle.chart_frames.specs.Items.{Fails}
use Rattle.chart_frames.specs.ReportParts.{PushesListed, room_behind, runs_in, PushesRun, PushesValue}
use Rattle.chart_frames.proofs.Numbers.{IsBytes, number_bytes_at}
use Rattle.chart_frames.proofs.Names.{padded_spelled}
use Rattle.chart_frames.proofs.FormatLaws.{read_there, read_short}
use Rattle.chart_frames.proofs.ReportNumbers.{lesser_within}

-- reading all is reading what follows, so it ends for the same cause
pub fails_on : (e : ItemStop) (r s : Result (List ℕ) Stop) → r ≡ s → Fails e s → Fails e r
fails_on (stops.Stop e) r s same h = same ∙ h
fails_on stops.NoMemory r s same h = tt

-- ---- names

-- what the field's test says of the bytes
pub padded_read : (size : ℕ) (next : Format) (bytes : List ℕ) → IsBytes bytes → 31 ≤ length bytes
    → read (padded_field size next) bytes ≡ cond (is_padded size (take 31 bytes)) (read next (drop 31 bytes)) (Err (Bad (length bytes)))
unfolding padded_field
padded_read size next bytes fits long =
    read_there 31 (λ n. is_padded size (number_bytes 31 n)) (λ n. next) bytes long
    ∙ ap (λ (p : List ℕ). cond (is_padded size p) (read next (drop 31 bytes)) (Err (Bad (length bytes))))
    (number_bytes_at 31 bytes fits long)

pub padded_short : (size : ℕ) (next : Format) (bytes : List ℕ) → length bytes < 31 → read (padded_field size next) bytes ≡ Err More
unfolding padded_field
padded_short size next bytes short = read_short 31 (λ n. is_padded size (number_bytes 31 n)) (λ n. next) bytes short

pub padded_bad : (size : ℕ) (next : Format) (bytes front : List ℕ) → IsBytes bytes → 31 ≤ length bytes → front ≡ take 31 bytes
    → false ≡ is_padded size front
    → read (padded_field size next) bytes ≡ Err (Bad (length bytes))
padded_bad size next bytes front fits long is bad =
    padded_read size next bytes fits long
    ∙ ap (λ (b : Bool). cond b (read next (drop 31 bytes)) (Err (Bad (length bytes)))) (sym (bad ∙ ap (is_padded size) is))

pub padded_good : (size : ℕ) (next : Format) (bytes front rest : List ℕ) → IsBytes bytes → 31 ≤ length bytes → front ≡ take 31 bytes
    → rest ≡ drop 31 bytes → true ≡ is_padded size front
    → read (padded_field size next) bytes ≡ read next rest
padded_good size next bytes front rest fits long is rest_is good =
    padded_read size next bytes fits long
    ∙ ap (λ (b : Bool). cond b (read next (drop 31 bytes)) (Err (Bad (length bytes)))) (sym (good ∙ ap (is_padded size) is))
    ∙ ap (read next) (sym rest_is)

pub padded_taken : (size : ℕ) (bytes front rest name : List ℕ) → size ≤ 31 → 31 ≤ length bytes → front ≡ take 31 bytes
    → rest ≡ drop 31 bytes → name ≡ take size front → true ≡ is_padded size front
    → IsTrue (is_name name) × (length name ≡ size) × (bytes ≡ number_bytes 31 (name_number name) ++ rest)
padded_taken size bytes front rest name few long is rest_is name_is good =
    let parts = and_parts (is_name (take size front)) (list_all is_blank (drop size front)) (sym good) in
    let named : IsTrue (is_name name) = ap is_name name_is ∙ parts.0 in
    let whole : length front ≡ 31 = ap length is ∙ length-take-le 31 bytes long in
    let split : front ≡ name ++ drop size front = sym (take-append-drop size front)
    ∙ ap (λ (p : List ℕ). p ++ drop size front) (sym name_is) in (
      named,
      ap length name_is ∙ length-take-le size front (omega (arith, few, whole)),
      sym (take-append-drop 31 bytes) ∙ ap (λ (p : List ℕ). p ++ drop 31 bytes) (sym is) ∙ ap (λ (p : List ℕ). front ++ p) (sym rest_is)
          ∙ ap (λ (p : List ℕ). p ++ rest) (sym (padded_spelled front name (drop size front) whole split named parts.1)),
    )

-- ---- series

series_next : (k count : ℕ) → k < count → series_list (count - k) ≡ listed_fields (series_list (count - suc k))
unfolding series_list
series_next k count below = let e : count - k ≡ suc (count - suc k) = omega arith in rw e refl

pub series_before-push : (xs : List ListedSeries) (s : ListedSeries) (tail : List ℕ)
    → series_before (xs ++ s ∷ []) tail ≡ series_before xs (listed_before s tail)
series_before-push [] s tail = refl
series_before-push (x ∷ xs) s tail = ap (listed_before x) (series_before-push xs s tail)

-- what is known behind some series of so many
pub record SeriesRead (count : ℕ) (all : List ℕ) (series : List ListedSeries) (rest : List ℕ) : Type 0 where
  pub fits : All FitsListed series
  pub begins : all ≡ series_before series rest
  pub on : read (series_list count) all ≡ read (series_list (count - length series)) rest

pub series_started : (count : ℕ) (all : List ℕ) (series : List ListedSeries) → series ≡ [] → SeriesRead count all series all
series_started count all series none =
    let same : count ≡ count - 0 = omega arith in
    subst (λ (xs : List ListedSeries). SeriesRead count all xs all) (sym none) (record {
      fits = λ k d lt. absurd (omega (arith, lt));
      begins = refl;
      on = ap (λ (n : ℕ). read (series_list n) all) same;
    })

pushed_length : {X : Type 0} (old new : List X) (x : X) → new ≡ old ++ x ∷ [] → length new ≡ suc (length old)
pushed_length old new x e = omega (arith, ap length e, length-append old (x ∷ []))

pub series_step : (count : ℕ) (all : List ℕ) (old new : List ListedSeries) (bytes rest : List ℕ) → length old < count
    → PushesListed old new bytes rest → SeriesRead count all old bytes
    → SeriesRead count all new rest × (length new ≡ suc (length old))
series_step count all old new bytes rest below p h =
    let more : length new ≡ suc (length old) = pushed_length old new p.listed p.pushed in (
      record {
        fits = subst (All FitsListed) (sym p.pushed) (All-push FitsListed old p.listed h.fits p.fits);
        begins = h.begins ∙ ap (series_before old) p.begins ∙ sym (series_before-push old p.listed rest)
            ∙ ap (λ (xs : List ListedSeries). series_before xs rest) (sym p.pushed);
        on = h.on ∙ ap (λ (f : Format). read f bytes) (series_next (length old) count below) ∙ p.on (series_list (count - suc (length old)))
            ∙ ap (λ (n : ℕ). read (series_list (count - n)) rest) (sym more);
      },
      more,
    )

pub series_failed : (e : ItemStop) (count : ℕ) (all : List ℕ) (series : List ListedSeries) (rest : List ℕ) → length series < count
    → SeriesRead count all series rest
    → ((next : Format) → Fails e (read (listed_fields next) rest)) → Fails e (read (series_list count) all)
series_failed e count all series rest below h fails =
    fails_on e (read (series_list count) all) (read (listed_fields (series_list (count - suc (length series)))) rest)
    (h.on ∙ ap (λ (f : Format). read f rest) (series_next (length series) count below)) (fails (series_list (count - suc (length series))))

-- ---- runs

pub runs_before-push : (xs : List Run) (r : Run) (tail : List ℕ) → runs_before (xs ++ r ∷ []) tail ≡ runs_before xs (run_before r tail)
runs_before-push [] r tail = refl
runs_before-push (x ∷ xs) r tail = ap (run_before x) (runs_before-push xs r tail)

-- what is known behind some runs of so many, over so many values
pub record RunsRead (values count : ℕ) (all : List ℕ) (room : Room) (runs : List Run) (rest : List ℕ) : Type 0 where
  pub slots : room.limit ≤ MOST_SLOTS
  pub few : room.left ≤ 4096
  pub fits : (more : List Run) → FitRuns room.from room.limit room.left more → FitRuns 0 MOST_SLOTS values (runs ++ more)
  pub all_taken : length runs ≡ count → room.left ≡ 0
  pub begins : all ≡ runs_before runs rest
  pub on : (next : Format) → read (runs_fields 0 MOST_SLOTS values count next) all ≡ read (runs_in room (count - length runs) next) rest

abbrev start_room : ℕ → Room
start_room values = record { from = 0; limit = MOST_SLOTS; left = values }

pub runs_started : (values count : ℕ) (all : List ℕ) (room : Room) (runs : List Run) → runs ≡ [] → room ≡ start_room values → values ≤ 4096
    → (count ≡ 0 → values ≡ 0) → RunsRead values count all room runs all
runs_started values count all room runs none is most empty =
    let same : count ≡ count - 0 = omega arith in
    let P : Room → Type 0 = λ r. RunsRead values count all r runs all in
    let Q : List Run → Type 0 = λ xs. RunsRead values count all (start_room values) xs all in
    subst P (sym is) (subst Q (sym none) (record {
      slots = omega arith;
      few = most;
      fits = λ more h. h;
      all_taken = λ e. empty (sym e);
      begins = refl;
      on = λ next. ap (λ (n : ℕ). read (runs_fields 0 MOST_SLOTS values n next) all) same;
    }))

pub runs_step : (values count behind : ℕ) (all : List ℕ) (room after : Room) (old new : List Run) (bytes rest : List ℕ) → length old < count
    → behind ≡ count - suc (length old)
    → PushesRun room behind old new bytes after rest → RunsRead values count all room old bytes
    → RunsRead values count all after new rest × (length new ≡ suc (length old))
runs_step values count behind all room after old new bytes rest below is p h =
    let more : length new ≡ suc (length old) = pushed_length old new p.run p.pushed in
    let left : count - length old ≡ suc behind = omega (arith, is, below) in
    let here : behind ≡ count - length new = omega (arith, is, more) in
    let within = lesser_within room.limit (p.run.first + 4096) in
    let limit_is : after.limit ≡ lesser room.limit (p.run.first + 4096) = ap (λ (r : Room). r.limit) p.behind_is in
    let left_is : after.left ≡ room.left - p.run.count = ap (λ (r : Room). r.left) p.behind_is in
    let P : Room → Type 0 = λ r. (xs : List Run) → FitRuns r.from r.limit r.left xs
    → FitRuns 0 MOST_SLOTS values ((old ++ p.run ∷ []) ++ xs) in
    let joined : P (room_behind room p.run) = λ xs fit. subst (FitRuns 0 MOST_SLOTS values) (sym (append_assoc old (p.run ∷ []) xs))
    (h.fits (p.run ∷ xs) (p.fits, fit)) in
    let Q : List Run → Type 0 = λ ys. (xs : List Run) → FitRuns after.from after.limit after.left xs
    → FitRuns 0 MOST_SLOTS values (ys ++ xs) in (
      record {
        slots = omega (arith, h.slots, limit_is, within.0);
        few = omega (arith, h.few, left_is);
        fits = subst Q (sym p.pushed) (subst P (sym p.behind_is) joined);
        all_taken = λ e. p.all_taken (omega (arith, is, e, more));
        begins = h.begins ∙ ap (runs_before old) p.begins ∙ sym (runs_before-push old p.run rest)
            ∙ ap (λ (xs : List Run). runs_before xs rest) (sym p.pushed);
        on = λ next. h.on next ∙ ap (λ (n : ℕ). read (runs_in room n next) bytes) left ∙ p.on next
            ∙ ap (λ (n : ℕ). read (runs_in after n next) rest) here;
      },
      more,
    )

pub runs_failed : (e : ItemStop) (values count behind : ℕ) (all : List ℕ) (room : Room) (runs : List Run) (rest : List ℕ)
    → length runs < count → behind ≡ count - suc (length runs) → RunsRead values count all room runs rest
    → ((next : Format) → Fails e (read (runs_in room (suc behind) next) rest)) → (next : Format)
    → Fails e (read (runs_fields 0 MOST_SLOTS values count next) all)
runs_failed e values count behind all room runs rest below is h fails next =
    let left : count - length runs ≡ suc behind = omega (arith, is, below) in
    fails_on e (read (runs_fields 0 MOST_SLOTS values count next) all) (read (runs_in room (suc behind) next) rest)
    (h.on next ∙ ap (λ (n : ℕ). read (runs_in room n next) rest) left) (fails next)

-- all runs were read
pub runs_fit : (values count : ℕ) (all : List ℕ) (room : Room) (runs : List Run) (rest : List ℕ) → length runs ≡ count
    → RunsRead values count all room runs rest → FitRuns 0 MOST_SLOTS values runs
runs_fit values count all room runs rest whole h = subst (FitRuns 0 MOST_SLOTS values) (append-nil runs) (h.fits [] (h.all_taken whole))

pub runs_on : (values count : ℕ) (all : List ℕ) (room : Room) (runs : List Run) (rest : List ℕ) → length runs ≡ count
    → RunsRead values count all room runs rest
    → (next : Format) → read (runs_fields 0 MOST_SLOTS values count next) all ≡ read next rest
unfolding runs_fields
runs_on values count all room runs rest whole h next =
    let none : count - length runs ≡ 0 = omega (arith, whole) in
    h.on next ∙ ap (λ (n : ℕ). read (runs_in room n next) rest) none

-- one run was read
pub run_on : (room : Room) (behind : ℕ) (next : Format) (run : Run) (bytes rest : List ℕ)
    → ((after : ℕ → ℕ → Format) → read (run_fields room.from room.limit room.left behind after) bytes ≡ read
    (after run.first run.count) rest)
    → read (runs_in room (suc behind) next) bytes ≡ read (runs_in (room_behind room run) behind next) rest
unfolding runs_fields
run_on room behind next run bytes rest h = h (λ first many. runs_fields (first + many + 1) (lesser room.limit (first + 4096))
    (room.left - many) behind next)

pub run_failed : (e : ItemStop) (room : Room) (behind : ℕ) (next : Format) (bytes : List ℕ)
    → ((after : ℕ → ℕ → Format) → Fails e (read (run_fields room.from room.limit room.left behind after) bytes))
    → Fails e (read (runs_in room (suc behind) next) bytes)
unfolding runs_fields
run_failed e room behind next bytes h = h (λ first many. runs_fields (first + many + 1) (lesser room.limit (first + 4096))
    (room.left - many) behind next)

-- ---- values

values_next : (k count : ℕ) → k < count → values_list (count - k) ≡ value_field (λ v. values_list (count - suc k))
unfolding values_list
values_next k count below = let e : count - k ≡ suc (count - suc k) = omega arith in rw e refl

pub values_before-push : (xs : List ℤ) (v : ℤ) (tail : List ℕ)
    → values_before (xs ++ v ∷ []) tail ≡ values_before xs (signed_bytes v ++ tail)
values_before-push [] v tail = refl
values_before-push (x ∷ xs) v tail = ap (λ (p : List ℕ). signed_bytes x ++ p) (values_before-push xs v tail)

-- what is known behind some values of so many
pub record ValuesRead (count : ℕ) (all : List ℕ) (values : List ℤ) (rest : List ℕ) : Type 0 where
  pub fits : All IsValue values
  pub begins : all ≡ values_before values rest
  pub on : read (values_list count) all ≡ read (values_list (count - length values)) rest

pub values_started : (count : ℕ) (all : List ℕ) (values : List ℤ) → values ≡ [] → ValuesRead count all values all
values_started count all values none =
    let same : count ≡ count - 0 = omega arith in
    subst (λ (xs : List ℤ). ValuesRead count all xs all) (sym none) (record {
      fits = λ k d lt. absurd (omega (arith, lt));
      begins = refl;
      on = ap (λ (n : ℕ). read (values_list n) all) same;
    })

pub values_step : (count : ℕ) (all : List ℕ) (old new : List ℤ) (bytes rest : List ℕ) → length old < count → PushesValue old new bytes rest
    → ValuesRead count all old bytes
    → ValuesRead count all new rest × (length new ≡ suc (length old))
values_step count all old new bytes rest below p h =
    let more : length new ≡ suc (length old) = pushed_length old new p.value p.pushed in (
      record {
        fits = subst (All IsValue) (sym p.pushed) (All-push IsValue old p.value h.fits p.fits);
        begins = h.begins ∙ ap (values_before old) p.begins ∙ sym (values_before-push old p.value rest)
            ∙ ap (λ (xs : List ℤ). values_before xs rest) (sym p.pushed);
        on = h.on ∙ ap (λ (f : Format). read f bytes) (values_next (length old) count below) ∙ p.on (values_list (count - suc (length old)))
            ∙ ap (λ (n : ℕ). read (values_list (count - n)) rest) (sym more);
      },
      more,
    )

pub values_failed : (e : ItemStop) (count : ℕ) (all : List ℕ) (values : List ℤ) (rest : List ℕ) → length values < count
    → ValuesRead count all values rest
    → ((next : Format) → Fails e (read (value_field (λ v. next)) rest)) → Fails e (read (values_list count) all)
values_failed e count all values rest below h fails =
    fails_on e (read (values_list count) all) (read (value_field (λ v. values_list (count - suc (length values)))) rest)
    (h.on ∙ ap (λ (f : Format). read f rest) (values_next (length values) count below)) (fails (values_list (count - suc (length values))))

-- ---- a frame of values

pub record CountsKept (size runs values : ℕ) : Type 0 where
  pub sized : 16 + (16 * runs + 8 * values) ≡ size
  pub most : values ≤ 4096
  pub least : runs ≤ values
  pub none : runs ≡ 0 → values ≡ 0

pub counts_kept : (size runs values : ℕ) → are_counts size runs values ≡ true → CountsKept size runs values
counts_kept size runs values h =
    let one = and_parts (eqb (16 + (16 * runs + 8 * values)) size) _ h in
    let two = and_parts (leb values 4096) _ one.1 in
    let three = and_parts (leb runs values) _ two.1 in
    record {
      sized = eqb-true (16 + (16 * runs + 8 * values)) size one.0;
      most = leb-true values 4096 two.0;
      least = leb-true runs values three.0;
      none = λ e. elim (or_cases (eqb values 0) (leb 1 runs) three.1) [
        | inl empty ↦ eqb-true values 0 empty
        | inr some ↦ absurd (omega (arith, e, leb-true 1 runs some))
      ];
    }

flag_of : (more : ℕ) → more ≤ 1 → number_of_flag (eqb more 1) ≡ more
flag_of zero h = refl
flag_of (suc zero) h = refl
flag_of (suc (suc n)) h = absurd (omega (arith, h))

none_of : (more : ℕ) → more ≤ 1 → eqb more 1 ≡ false → more ≡ 0
none_of zero h e = refl
none_of (suc zero) h e = absurd cc
none_of (suc (suc n)) h e = absurd (omega (arith, h))
