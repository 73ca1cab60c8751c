-- Reports: their numbers meet the format, are spelled so, and tell the report.
use Rattle.std.proofs.Common.{◌≡◌, ℕ, ℤ, zero, suc, ◌+◌, ◌-◌, ◌*◌, ◌%◌, ◌/◌, ◌<◌, ◌≤◌, ◌⊎◌, inl, inr, Bool, true, false, ◌&&◌, ◌||◌, cond}
use Rattle.std.proofs.Common.{ltb, leb, eqb, List, [], ◌∷◌, ◌++◌, length, get_or, take, drop, refl, sym, ap, ◌∙◌, subst, arith}
use Rattle.std.specs.Int.{w64, cast_signed}
use Rattle.std.proofs.lemmas.Bool.{le-leb, lt-ltb, eq-eqb, ne_eqb, and_from, leb-true, both_ways}
use Rattle.std.proofs.lemmas.Bool.Decides.{leb_tells}
use Rattle.whole_number.specs.Range.{IsValue, is_value, is_time}
use Rattle.chart_frames.specs.declared.limits.TheConstants.{MOST_SLOTS}
use Rattle.chart_frames.specs.declared.reports.ListedSeries.{ListedSeries}
use Rattle.chart_frames.specs.declared.reports.CatalogFrame.{CatalogFrame}
use Rattle.chart_frames.specs.declared.reports.Run.{Run}
use Rattle.chart_frames.specs.declared.reports.ValuesFrame.{ValuesFrame}
use Rattle.chart_frames.specs.declared.reports.Report.{Report}
use Rattle.chart_frames.specs.declared.reports.Report.TheVariants.{Catalog, Values, Swept}
use Rattle.chart_frames.specs.Format.{Format, field, number_bytes, Meets, after, IsEnd}
use Rattle.chart_frames.specs.Fields.{within, is_zero, is_catalog_length, is_values_length, admits, length_field, kind_field, kind_fields}
use Rattle.chart_frames.specs.Fields.{frame_fields, word_field, padded_field, name_fields, scale_field, axis_fields, slots_field}
use Rattle.chart_frames.specs.Fields.{stored_fields, has_field, rmin_field, rmax_field, facts_fields, listed_fields, series_list}
use Rattle.chart_frames.specs.Fields.{listed_count_fields, pages_fields, catalog_fields, series_fields, value_field, more_field}
use Rattle.chart_frames.specs.Fields.{next_time_field, next_fields, are_counts, counts_fields, lesser, takes_of, run_fields, runs_fields}
use Rattle.chart_frames.specs.Fields.{values_list, asked_fields, stored_values, values_fields, flag_fields, swept_fields}
use Rattle.chart_frames.specs.Frames.{unsigned, number_of_flag, name_number, listed_numbers, series_numbers, runs_numbers, values_numbers}
use Rattle.chart_frames.specs.Frames.{report_numbers, FitsListed, FitsCatalog, FitRuns, FitsValues, FitsReport}
use Rattle.chart_frames.specs.Spelled.{framed, name_before, facts_before, listed_before, series_before, catalog_before, run_before}
use Rattle.chart_frames.specs.Spelled.{runs_before, values_before, asked_before, counts_before, report_before}
use Rattle.chart_frames.proofs.FormatLaws.{spell_before}
use Rattle.chart_frames.proofs.Names.{name_length, name_below, name_meets, name_back}
use Rattle.chart_frames.proofs.Meets.{round, or_right, or_left, within_from, value_small, meets_signed, series_meets, axis_meets}
use Rattle.chart_frames.proofs.Meets.{stored_meets, none_test, flag_meets, length_of_report}

abbrev pub from_signed : ℕ → ℤ
from_signed n = cast_signed w64 n

abbrev pub number_of : List ℕ → ℕ → ℕ
number_of ns i = get_or ns i 0

pub value_round : (z : ℤ) → IsValue z → from_signed (unsigned z) ≡ z
value_round z h = round z (omega (arith, h))

-- ---- a catalog

listed_meets : (s : ListedSeries) (next : Format) (ns : List ℕ) → FitsListed s → Meets next ns
    → Meets (listed_fields next) (listed_numbers s ns)
unfolding listed_fields name_fields padded_field facts_fields scale_field
listed_meets s next ns h rest =
    let sizes = name_length s.name h.named in
    let held : List ℕ = s.has ∷ (unsigned s.rmin ∷ (unsigned s.rmax ∷ ns)) in (
      omega (arith, sizes.1),
      (
        within_from 1 31 (length s.name) sizes.0 sizes.1,
        (
          name_below s.name h.named,
          (
            name_meets s.name h.named,
            (
              omega (arith, h.facts.decimals),
              (
                le-leb s.scale 9 h.facts.decimals,
                axis_meets s.start s.step s.slots (λ slots. stored_fields slots next) held h.facts.axis
                    (stored_meets s.slots s.has s.rmin s.rmax next ns h.facts.stored rest),
              ),
            ),
          ),
        ),
      ),
    )

series_meet : (ss : List ListedSeries) → ((k : ℕ) (d : ListedSeries) → k < length ss → FitsListed (get_or ss k d))
    → Meets (series_list (length ss)) (series_numbers ss)
unfolding series_list
series_meet [] fit = tt
series_meet (s ∷ ss) fit = listed_meets s (series_list (length ss)) (series_numbers ss) (fit 0 s (omega arith))
    (series_meet ss (λ k d lt. fit (suc k) d (omega arith)))

series_end : (ss : List ListedSeries) → IsEnd (after (series_list (length ss)) (series_numbers ss))
unfolding series_list listed_fields name_fields padded_field facts_fields scale_field axis_fields slots_field stored_fields has_field
    rmin_field rmax_field
series_end [] = tt
series_end (s ∷ ss) = series_end ss

series_spelled : (ss : List ListedSeries) (tail : List ℕ)
    → spell_before (series_list (length ss)) (series_numbers ss) tail ≡ series_before ss tail
unfolding series_list listed_fields name_fields padded_field facts_fields scale_field axis_fields slots_field stored_fields has_field
    rmin_field rmax_field name_before facts_before
series_spelled [] tail = refl
series_spelled (s ∷ ss) tail = ap (listed_before s) (series_spelled ss tail)

catalog_length_test : (count : ℕ) → count ≤ 512 → is_catalog_length (11 + 70 * count) ≡ true
catalog_length_test count most =
    and_from (leb 11 (11 + 70 * count)) (eqb ((11 + 70 * count - 11) % 70) 0
    && leb ((11 + 70 * count - 11) / 70) 512) (le-leb 11 (11 + 70 * count) (omega arith))
    (and_from (eqb ((11 + 70 * count - 11) % 70) 0) (leb ((11 + 70 * count - 11) / 70) 512)
    (eq-eqb ((11 + 70 * count - 11) % 70) 0 (omega arith)) (le-leb ((11 + 70 * count - 11) / 70) 512 (omega arith)))

catalog_meets : (c : CatalogFrame) → FitsCatalog c → Meets frame_fields (report_numbers (Catalog c))
unfolding frame_fields length_field kind_field kind_fields admits catalog_fields pages_fields word_field listed_count_fields
catalog_meets c h =
    let count = length c.series in
    let long = catalog_length_test count h.most in (
      omega (arith, h.most),
      (
        length_of_report (11 + 70 * count) (or_right (eqb (11 + 70 * count) 8) _
            (or_left (is_catalog_length (11 + 70 * count)) (is_values_length (11 + 70 * count)) long)),
        (
          omega arith,
          (
            long,
            (
              omega (arith, h.pages),
              (
                refl,
                (
                  omega (arith, h.full),
                  (refl, (omega (arith, h.most), (eq-eqb (11 + 70 * count) (11 + 70 * count) refl, series_meet c.series h.series))),
                ),
              ),
            ),
          ),
        ),
      ),
    )

-- ---- runs

by_lesser : (c : Bool) (a b : ℕ) → (c ≡ true → a ≤ b) → (c ≡ false → b < a) → (cond c a b ≤ a) × (cond c a b ≤ b)
by_lesser true a b p q = (omega arith, p refl)
by_lesser false a b p q = (omega (arith, q refl), omega arith)

not_leb : (a b : ℕ) → leb a b ≡ false → b < a
not_leb a b e = elim (leb_tells a b) [ inl holds ↦ absurd (both_ways (leb a b) e holds.0) | inr lacks ↦ lacks.1 ]

pub lesser_within : (a b : ℕ) → (lesser a b ≤ a) × (lesser a b ≤ b)
lesser_within a b = by_lesser (leb a b) a b (leb-true a b) (not_leb a b)

by_least : (c : Bool) (a b m : ℕ) → m ≤ a → m ≤ b → m ≤ cond c a b
by_least true a b m p q = p
by_least false a b m p q = q

lesser_least : (a b m : ℕ) → m ≤ a → m ≤ b → m ≤ lesser a b
lesser_least a b m p q = by_least (leb a b) a b m p q

zero_or_more : (n : ℕ) → (n ≡ 0) ⊎ (0 < n)
zero_or_more zero = inl refl
zero_or_more (suc n) = inr (omega arith)

takes_meets : (behind left many : ℕ) → 1 ≤ many → (behind ≡ 0 → many ≡ left) → (0 < behind → many < left) → takes_of behind left many ≡ true
takes_meets behind left many some last more =
    and_from (leb 1 many) (cond (eqb behind 0) (eqb many left) (ltb many left)) (le-leb 1 many some) (elim (zero_or_more behind) [
      | inl none ↦ ap (λ (b : Bool). cond b (eqb many left) (ltb many left)) (eq-eqb behind 0 none) ∙ eq-eqb many left (last none)
      | inr any ↦ ap (λ (b : Bool). cond b (eqb many left) (ltb many left)) (ne_eqb behind 0 (λ e. omega (arith, e, any)))
          ∙ lt-ltb many left (more any)
    ])

run_takes : (from limit left count : ℕ) (rs : List Run) → FitRuns from limit (left - count) rs → 1 ≤ count → count ≤ left
    → takes_of (length rs) left count ≡ true
run_takes from limit left count [] h some room = takes_meets 0 left count some (λ e. omega (arith, h, room))
    (λ lt. absurd (omega (arith, lt)))
run_takes from limit left count (r ∷ rs) h some room = takes_meets (suc (length rs)) left count some (λ e. absurd (omega (arith, e)))
    (λ lt. omega (arith, h.0.some, h.0.room))

runs_meet : (from limit left : ℕ) (rs : List Run) (next : Format) (ns : List ℕ) → limit ≤ MOST_SLOTS → FitRuns from limit left rs
    → Meets next ns
    → Meets (runs_fields from limit left (length rs) next) (runs_numbers rs ns)
unfolding runs_fields run_fields
runs_meet from limit left [] next ns few fit rest = rest
runs_meet from limit left (r ∷ rs) next ns few fit rest =
    let h = fit.0 in
    let within = lesser_within limit (r.first + 4096) in (
      omega (arith, few, h.before),
      (
        and_from (leb from r.first) (ltb r.first limit) (le-leb from r.first h.behind)
            (lt-ltb r.first limit (omega (arith, h.before, h.some))),
        (
          omega (arith, few, h.before),
          (
            and_from (takes_of (length rs) left r.count) (leb (r.first + r.count) limit)
                (run_takes (r.first + r.count + 1) (lesser limit (r.first + 4096)) left r.count rs fit.1 h.some h.room)
                (le-leb (r.first + r.count) limit h.before),
            runs_meet (r.first + r.count + 1) (lesser limit (r.first + 4096)) (left - r.count) rs next ns
                (omega (arith, few, within.0)) fit.1 rest,
          ),
        ),
      ),
    )

runs_after : (from limit left : ℕ) (rs : List Run) (next : Format) (ns : List ℕ)
    → after (runs_fields from limit left (length rs) next) (runs_numbers rs ns) ≡ after next ns
unfolding runs_fields run_fields
runs_after from limit left [] next ns = refl
runs_after from limit left (r ∷ rs) next ns = runs_after (r.first + r.count + 1) (lesser limit (r.first + 4096)) (left - r.count) rs next ns

runs_spelled : (from limit left : ℕ) (rs : List Run) (next : Format) (ns tail : List ℕ)
    → spell_before (runs_fields from limit left (length rs) next) (runs_numbers rs ns) tail ≡ runs_before rs (spell_before next ns tail)
unfolding runs_fields run_fields run_before
runs_spelled from limit left [] next ns tail = refl
runs_spelled from limit left (r ∷ rs) next ns tail =
    ap (run_before r) (runs_spelled (r.first + r.count + 1) (lesser limit (r.first + 4096)) (left - r.count) rs next ns tail)

-- how many runs there are
runs_room : (from limit left : ℕ) (rs : List Run) → left ≤ 4096 → from ≤ limit + 1 → FitRuns from limit left rs
    → (length rs ≤ left) × (length rs + left + from ≤ limit + 1)
runs_room from limit left [] few start fit = (omega arith, omega (arith, fit, start))
runs_room from limit left (r ∷ rs) few start fit =
    let h = fit.0 in
    let least : r.first + r.count ≤ lesser limit (r.first + 4096) = lesser_least limit (r.first + 4096) (r.first + r.count) h.before
    (omega (arith, few, h.room)) in
    let within = lesser_within limit (r.first + 4096) in
    let rest = runs_room (r.first + r.count + 1) (lesser limit (r.first + 4096)) (left - r.count) rs (omega (arith, few))
    (omega (arith, least)) fit.1 in
    (omega (arith, rest.0, h.some, h.room), omega (arith, rest.1, within.0, h.behind, h.room))

-- runs and values have room in 4,096 slots and one more
runs_few : (limit left : ℕ) (rs : List Run) → left ≤ 4096 → FitRuns 0 limit left rs → length rs + left ≤ 4097
runs_few limit left [] few fit = omega (arith, fit)
runs_few limit left (r ∷ rs) few fit =
    let h = fit.0 in
    let least : r.first + r.count ≤ lesser limit (r.first + 4096) = lesser_least limit (r.first + 4096) (r.first + r.count) h.before
    (omega (arith, few, h.room)) in
    let within = lesser_within limit (r.first + 4096) in
    let rest = runs_room (r.first + r.count + 1) (lesser limit (r.first + 4096)) (left - r.count) rs (omega (arith, few))
    (omega (arith, least)) fit.1 in
    omega (arith, rest.1, within.1, h.room)

pub runs_at_most : (limit left : ℕ) (rs : List Run) → left ≤ 4096 → FitRuns 0 limit left rs → length rs ≤ left
runs_at_most limit left rs few fit = (runs_room 0 limit left rs few (omega arith) fit).0

-- where there is a value there is a run
runs_some : (from limit left : ℕ) (rs : List Run) → FitRuns from limit left rs → 0 < left → 1 ≤ length rs
runs_some from limit left [] fit some = absurd (omega (arith, fit, some))
runs_some from limit left (r ∷ rs) fit some = omega arith

-- ---- values

values_meet : (vs : List ℤ) → ((k : ℕ) (d : ℤ) → k < length vs → IsValue (get_or vs k d))
    → Meets (values_list (length vs)) (values_numbers vs)
unfolding values_list value_field
values_meet [] fit = tt
values_meet (v ∷ vs) fit =
    let h : IsValue v = fit 0 v (omega arith) in
    meets_signed is_value (λ v. values_list (length vs)) v (values_numbers vs) (value_small v h) (le-leb _ _ h)
    (values_meet vs (λ k d lt. fit (suc k) d (omega arith)))

values_end : (vs : List ℤ) → IsEnd (after (values_list (length vs)) (values_numbers vs))
unfolding values_list value_field
values_end [] = tt
values_end (v ∷ vs) = values_end vs

values_spelled : (vs : List ℤ) (tail : List ℕ) → spell_before (values_list (length vs)) (values_numbers vs) tail ≡ values_before vs tail
unfolding values_list value_field
values_spelled [] tail = refl
values_spelled (v ∷ vs) tail = ap (λ (p : List ℕ). number_bytes 8 (unsigned v) ++ p) (values_spelled vs tail)

flag_small : (b : Bool) → number_of_flag b ≤ 1
flag_small true = omega arith
flag_small false = omega arith

flag_none : (b : Bool) → number_of_flag b ≡ 0 → b ≡ false
flag_none true e = absurd (omega (arith, e))
flag_none false e = refl

counts_by : (runs values : ℕ) → (values ≡ 0) ⊎ (0 < values) → (0 < values → 1 ≤ runs) → (eqb values 0 || leb 1 runs) ≡ true
counts_by runs values (inl none) some = or_left (eqb values 0) (leb 1 runs) (eq-eqb values 0 none)
counts_by runs values (inr any) some = or_right (eqb values 0) (leb 1 runs) (le-leb 1 runs (some any))

counts_test : (runs values : ℕ) → values ≤ 4096 → runs ≤ values → (0 < values → 1 ≤ runs)
    → are_counts (16 + (16 * runs + 8 * values)) runs values ≡ true
counts_test runs values most least some =
    and_from (eqb (16 + (16 * runs + 8 * values)) (16 + (16 * runs + 8 * values))) (leb values 4096
    && (leb runs values && (eqb values 0 || leb 1 runs))) (eq-eqb (16 + (16 * runs + 8 * values)) (16 + (16 * runs + 8 * values)) refl)
    (and_from (leb values 4096) (leb runs values && (eqb values 0 || leb 1 runs)) (le-leb values 4096 most)
    (and_from (leb runs values) (eqb values 0 || leb 1 runs) (le-leb runs values least) (counts_by runs values (zero_or_more values) some)))

values_length_by : (runs values : ℕ) → (values ≡ 0) ⊎ (0 < values) → runs ≤ values → runs + values ≤ 4097 → (0 < values → 1 ≤ runs)
    → is_values_length (16 + (16 * runs + 8 * values)) ≡ true
values_length_by runs values (inl none) least few some =
    or_left (eqb (16 + (16 * runs + 8 * values)) 16) _ (eq-eqb (16 + (16 * runs + 8 * values)) 16 (omega (arith, none, least)))
values_length_by runs values (inr any) least few some =
    let one = some any in
    or_right (eqb (16 + (16 * runs + 8 * values)) 16) (within 40 49176 (16 + (16 * runs + 8 * values))
    && eqb ((16 + (16 * runs + 8 * values)) % 8) 0)
    (and_from (within 40 49176 (16 + (16 * runs + 8 * values))) (eqb ((16 + (16 * runs + 8 * values)) % 8) 0)
    (within_from 40 49176 (16 + (16 * runs + 8 * values)) (omega (arith, one, any)) (omega (arith, least, few)))
    (eq-eqb ((16 + (16 * runs + 8 * values)) % 8) 0 (omega arith)))

stored_meet : (v : ValuesFrame) → FitsValues v → Meets frame_fields (report_numbers (Values v))
unfolding frame_fields length_field kind_field kind_fields admits values_fields asked_fields next_fields more_field next_time_field
    counts_fields stored_values
stored_meet v h =
    let runs = length v.runs in
    let values = length v.values in
    let total = 16 + (16 * runs + 8 * values) in
    let few = runs_few MOST_SLOTS values v.runs h.most h.runs in
    let least = runs_at_most MOST_SLOTS values v.runs h.most h.runs in
    let some : 0 < values → 1 ≤ runs = runs_some 0 MOST_SLOTS values v.runs h.runs in
    let long = values_length_by runs values (zero_or_more values) least few some in
    let more = number_of_flag v.more in
    let ends : List ℕ = runs ∷ (values ∷ runs_numbers v.runs (values_numbers v.values)) in
    let counted : ℕ → ℕ → Format = λ r n. runs_fields 0 MOST_SLOTS n r (values_list n) in
    let counting : Format = field 2 (λ r. true) (λ r. field 2 (are_counts total r) (counted r)) in
    let stored = runs_meet 0 MOST_SLOTS values v.runs (values_list values) (values_numbers v.values) (omega arith) h.runs
    (values_meet v.values h.values) in
    let asked : Format = field 1 (λ more. leb more 1)
    (λ more. field 8 (λ n. is_time (from_signed n) && (eqb more 1 || is_zero (from_signed n))) (λ n. counting)) in (
      omega (arith, few, h.most),
      (
        length_of_report total (or_right (eqb total 8) _ (or_right (is_catalog_length total) (is_values_length total) long)),
        (
          omega arith,
          (
            long,
            series_meets v.series asked (more ∷ (unsigned v.next ∷ ends)) h.known (
              omega (arith, flag_small v.more),
              (
                le-leb more 1 (flag_small v.more),
                meets_signed (λ t. is_time t && (eqb more 1 || is_zero t)) (λ t. counting) v.next ends h.next
                    (and_from (is_time v.next) (eqb more 1 || is_zero v.next) (le-leb _ _ h.next)
                    (none_test more v.next (flag_small v.more) (λ e. h.none_left (flag_none v.more e)))) (
                      omega (arith, least, h.most),
                      (refl, (omega (arith, h.most), (counts_test runs values h.most least some, stored))),
                    ),
              ),
            ),
          ),
        ),
      ),
    )

-- ---- all reports

pub report_meets : (r : Report) → FitsReport r → Meets frame_fields (report_numbers r)
unfolding frame_fields length_field kind_field kind_fields admits swept_fields word_field
report_meets (Catalog c) h = catalog_meets c h
report_meets (Values v) h = stored_meet v h
report_meets (Swept clears used more) h = (
  omega arith,
  (
    refl,
    (
      omega arith,
      (
        refl,
        (
          omega (arith, h.most),
          (le-leb clears 64 h.most, (omega (arith, h.full), (refl, flag_meets more))),
        ),
      ),
    ),
  ),
)

ended_by : (f g : Format) → f ≡ g → IsEnd g → IsEnd f
ended_by f g e h = subst IsEnd (sym e) h

pub report_ends : (r : Report) → IsEnd (after frame_fields (report_numbers r))
unfolding frame_fields length_field kind_field kind_fields catalog_fields pages_fields word_field listed_count_fields values_fields
    asked_fields series_fields next_fields more_field next_time_field counts_fields stored_values swept_fields flag_fields
report_ends (Catalog c) = series_end c.series
report_ends (Values v) =
    ended_by _ (after (values_list (length v.values)) (values_numbers v.values))
    (runs_after 0 MOST_SLOTS (length v.values) v.runs (values_list (length v.values)) (values_numbers v.values)) (values_end v.values)
report_ends (Swept clears used more) = tt

pub report_spelled : (r : Report) (tail : List ℕ) → spell_before frame_fields (report_numbers r) tail ≡ report_before r tail
unfolding frame_fields length_field kind_field kind_fields catalog_fields pages_fields word_field listed_count_fields values_fields
    asked_fields series_fields next_fields more_field next_time_field counts_fields stored_values swept_fields flag_fields catalog_before
    asked_before counts_before
report_spelled (Catalog c) tail =
    ap (λ (p : List ℕ). framed (11 + 70 * length c.series) 8 (catalog_before c.total c.used (length c.series) p))
    (series_spelled c.series tail)
report_spelled (Values v) tail =
    ap (λ (p : List ℕ). framed (16 + (16 * length v.runs + 8 * length v.values)) 9
    (asked_before v.series (number_of_flag v.more) v.next (counts_before (length v.runs) (length v.values) p)))
    (runs_spelled 0 MOST_SLOTS (length v.values) v.runs (values_list (length v.values)) (values_numbers v.values) tail
    ∙ ap (runs_before v.runs) (values_spelled v.values tail))
report_spelled (Swept clears used more) tail = refl

-- ---- a report from its numbers

abbrev listed_from : List ℕ → ListedSeries
listed_from ns = record {
  name = take (number_of ns 0) (number_bytes 31 (number_of ns 1));
  scale = number_of ns 2;
  start = from_signed (number_of ns 3);
  step = number_of ns 4;
  slots = number_of ns 5;
  has = number_of ns 6;
  rmin = from_signed (number_of ns 7);
  rmax = from_signed (number_of ns 8);
}

abbrev series_from : ℕ → List ℕ → List ListedSeries
series_from zero ns = []
series_from (suc count) ns = listed_from ns ∷ series_from count (drop 9 ns)

abbrev runs_from : ℕ → List ℕ → List Run
runs_from zero ns = []
runs_from (suc count) ns = record { first = number_of ns 0; count = number_of ns 1 } ∷ runs_from count (drop 2 ns)

abbrev behind_runs : ℕ → List ℕ → List ℕ
behind_runs zero ns = ns
behind_runs (suc count) ns = behind_runs count (drop 2 ns)

abbrev values_from : ℕ → List ℕ → List ℤ
values_from zero ns = []
values_from (suc count) ns = from_signed (number_of ns 0) ∷ values_from count (drop 1 ns)

abbrev catalog_from : List ℕ → CatalogFrame
catalog_from ns = record { total = number_of ns 2; used = number_of ns 3; series = series_from (number_of ns 4) (drop 5 ns) }

abbrev stored_from : List ℕ → ValuesFrame
stored_from ns = record {
  series = number_of ns 2;
  more = eqb (number_of ns 3) 1;
  next = from_signed (number_of ns 4);
  runs = runs_from (number_of ns 5) (drop 7 ns);
  values = values_from (number_of ns 6) (behind_runs (number_of ns 5) (drop 7 ns));
}

abbrev pub report_from : List ℕ → Report
report_from ns =
    cond (eqb (number_of ns 1) 8) (Catalog (catalog_from ns))
    (cond (eqb (number_of ns 1) 9) (Values (stored_from ns)) (Swept (number_of ns 2) (number_of ns 3) (eqb (number_of ns 4) 1)))

abbrev listed_with : ListedSeries → List ℕ → ℤ → ℤ → ℤ → ListedSeries
listed_with s name start rmin rmax = record s { name = name; start = start; rmin = rmin; rmax = rmax }

listed_same : (s : ListedSeries) (name name' : List ℕ) (a a' b b' c c' : ℤ) → name ≡ name' → a ≡ a' → b ≡ b' → c ≡ c'
    → listed_with s name a b c ≡ listed_with s name' a' b' c'
listed_same s name name' a a' b b' c c' p q r t =
    ap (λ (x : List ℕ). listed_with s x a b c) p ∙ ap (λ (z : ℤ). listed_with s name' z b c) q
    ∙ ap (λ (z : ℤ). listed_with s name' a' z c) r ∙ ap (λ (z : ℤ). listed_with s name' a' b' z) t

listed_back : (s : ListedSeries) (tail : List ℕ) → FitsListed s → listed_from (listed_numbers s tail) ≡ s
listed_back s tail h =
    listed_same s (take (length s.name) (number_bytes 31 (name_number s.name))) s.name _ s.start _ s.rmin _ s.rmax
    (name_back s.name h.named) (value_round s.start h.facts.axis.first) (value_round s.rmin h.facts.stored.range.low)
    (value_round s.rmax h.facts.stored.range.high)

series_back : (ss : List ListedSeries) → ((k : ℕ) (d : ListedSeries) → k < length ss → FitsListed (get_or ss k d))
    → series_from (length ss) (series_numbers ss) ≡ ss
series_back [] fit = refl
series_back (s ∷ ss) fit =
    ap (λ (x : ListedSeries). x ∷ series_from (length ss) (series_numbers ss)) (listed_back s (series_numbers ss) (fit 0 s (omega arith)))
    ∙ ap (λ (xs : List ListedSeries). s ∷ xs) (series_back ss (λ k d lt. fit (suc k) d (omega arith)))

runs_back : (rs : List Run) (tail : List ℕ) → runs_from (length rs) (runs_numbers rs tail) ≡ rs
runs_back [] tail = refl
runs_back (r ∷ rs) tail = ap (λ (xs : List Run). r ∷ xs) (runs_back rs tail)

behind_back : (rs : List Run) (tail : List ℕ) → behind_runs (length rs) (runs_numbers rs tail) ≡ tail
behind_back [] tail = refl
behind_back (r ∷ rs) tail = behind_back rs tail

values_back : (vs : List ℤ) → ((k : ℕ) (d : ℤ) → k < length vs → IsValue (get_or vs k d)) → values_from (length vs) (values_numbers vs) ≡ vs
values_back [] fit = refl
values_back (v ∷ vs) fit =
    ap (λ (x : ℤ). x ∷ values_from (length vs) (values_numbers vs)) (value_round v (fit 0 v (omega arith)))
    ∙ ap (λ (xs : List ℤ). v ∷ xs) (values_back vs (λ k d lt. fit (suc k) d (omega arith)))

flag_back : (b : Bool) → eqb (number_of_flag b) 1 ≡ b
flag_back true = refl
flag_back false = refl

abbrev stored_with : ValuesFrame → Bool → ℤ → List Run → List ℤ → ValuesFrame
stored_with v more next runs values = record v { more = more; next = next; runs = runs; values = values }

stored_same : (v : ValuesFrame) (m m' : Bool) (t t' : ℤ) (rs rs' : List Run) (vs vs' : List ℤ) → m ≡ m' → t ≡ t' → rs ≡ rs' → vs ≡ vs'
    → stored_with v m t rs vs ≡ stored_with v m' t' rs' vs'
stored_same v m m' t t' rs rs' vs vs' p q r u =
    ap (λ (x : Bool). stored_with v x t rs vs) p ∙ ap (λ (x : ℤ). stored_with v m' x rs vs) q
    ∙ ap (λ (x : List Run). stored_with v m' t' x vs) r ∙ ap (λ (x : List ℤ). stored_with v m' t' rs' x) u

pub report_back : (r : Report) → FitsReport r → report_from (report_numbers r) ≡ r
report_back (Catalog c) h =
    ap (λ (ss : List ListedSeries). Catalog (record c { series = ss })) (series_back c.series h.series)
report_back (Values v) h =
    let numbers = runs_numbers v.runs (values_numbers v.values) in
    ap Values (stored_same v _ v.more _ v.next _ v.runs (values_from (length v.values) (behind_runs (length v.runs) numbers)) v.values
    (flag_back v.more) (round v.next h.next) (runs_back v.runs (values_numbers v.values))
    (ap (values_from (length v.values)) (behind_back v.runs (values_numbers v.values)) ∙ values_back v.values h.values))
report_back (Swept clears used more) h = ap (Swept clears used) (flag_back more)
