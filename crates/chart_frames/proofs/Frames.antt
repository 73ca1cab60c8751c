-- Frames and their spellings.
use Rattle.std.proofs.Common.{◌≡◌, ℕ, ℤ, zero, suc, ◌+◌, ◌-◌, ◌*◌, ◌/◌, ◌%◌, ◌^◌, ◌<◌, ◌≤◌, Bool, true, false, not, ◌||◌, cond, eqb, List}
use Rattle.std.proofs.Common.{[], ◌∷◌, ◌++◌, length, get_or, drop, Option, Some, None, Ok, refl, sym, ap, ◌∙◌, subst, arith}
use Rattle.om3_coeff.specs.declared.key.Key.{Key}
use Rattle.om3_coeff.specs.declared.coef.Coef.{Coef}
use Rattle.om3_coeff.specs.Keys.{height, IsNode}
use Rattle.m4_groups.specs.declared.row.Row.{Row}
use Rattle.chart_frames.specs.declared.frame.Frame.{Frame}
use Rattle.chart_frames.specs.declared.frame.Frame.TheVariants.{Done, Refused, Opened, Closed, View, Rows, Live}
use Rattle.chart_frames.specs.declared.frame.Frame.TheVariants as frames
use Rattle.chart_frames.specs.declared.reports.Report.{Report}
use Rattle.chart_frames.specs.declared.reports.Report.TheVariants.{Catalog, Values, Swept}
use Rattle.chart_frames.specs.declared.frame.ViewFrame.{ViewFrame}
use Rattle.chart_frames.specs.declared.frame.RowsFrame.{RowsFrame}
use Rattle.chart_frames.specs.Format.{Format, stop, spell, after, Meets, IsEnd}
use Rattle.chart_frames.specs.Reading.{read}
use Rattle.chart_frames.specs.Fields.{session_fields, side_field, side_fields, series_fields, window_fields, range_fields, axis_fields}
use Rattle.chart_frames.specs.Fields.{slots_field, has_field, rmin_field, rmax_field, stored_fields, count_fields, key_field}
use Rattle.chart_frames.specs.Fields.{difference_field, coef_fields, coefs_fields, place_fields, source_fields, view_fields}
use Rattle.chart_frames.specs.Fields.{row_count_fields, column_field, value_field, at_most_field, at_least_field, between_field, row_fields}
use Rattle.chart_frames.specs.Fields.{rows_fields, head_fields, done_fields, refused_fields, opened_fields, flag_fields, live_fields}
use Rattle.chart_frames.specs.Fields.{kind_fields, length_field, kind_field, frame_fields}
use Rattle.chart_frames.specs.Frames.{unsigned, key_number, flags_of, coefs_numbers, all_rows_numbers, view_numbers, rows_numbers}
use Rattle.chart_frames.specs.Frames.{numbers_of, report_numbers, spelling, Fits, IsCoef, FitsCoef, FitCoefs, FitsViewHead, FitsView}
use Rattle.chart_frames.specs.Frames.{FitsRow, FitRows, FitsRowsHead, FitsRows}
use Rattle.chart_frames.specs.Spelled.{framed, place_before, source_before, view_before, coef_before, coefs_before, rows_before, row_before}
use Rattle.chart_frames.specs.Spelled.{rows_all_before, frame_before}
use Rattle.chart_frames.specs.Items.{last_key, last_column}
use Rattle.chart_frames.proofs.FormatLaws.{spell_before, spelled_before, passed_all, read_again, one_reading}
use Rattle.chart_frames.proofs.Items.{coefs_fields-end, rows_fields-end}
use Rattle.chart_frames.proofs.Orders.{index_bound, level_of-number, index_of-number}
use Rattle.chart_frames.proofs.ReportNumbers.{from_signed, number_of, value_round, report_meets, report_ends, report_spelled, report_from}
use Rattle.chart_frames.proofs.ReportNumbers.{report_back}
use Rattle.chart_frames.proofs.Meets.{round, view_numbers_meet, view_numbers_after, rows_numbers_meet, rows_numbers_after, done_meets}
use Rattle.chart_frames.proofs.Meets.{refused_meets, opened_meets, closed_meets, live_meets}

-- ---- the numbers meet the format

pub fits_meets : (f : Frame) → Fits f → Meets frame_fields (numbers_of f)
fits_meets (Done slots) h = done_meets slots h
fits_meets (Refused number a b) h = refused_meets number a b h
fits_meets (Opened session cache) h = opened_meets session cache h
fits_meets (Closed session) h = closed_meets session h
fits_meets (View v) h = view_numbers_meet v v.coefs h.head h.coefs (omega (arith, h.count))
fits_meets (Rows r) h = rows_numbers_meet r r.rows h.head h.rows (omega (arith, h.count))
fits_meets (Live session on) h = live_meets session on h
fits_meets (frames.Report r) h = report_meets r h

ended : (f : Format) → f ≡ stop → IsEnd f
ended f e = subst IsEnd (sym e) tt

pub fits_ends : (f : Frame) → Fits f → IsEnd (after frame_fields (numbers_of f))
unfolding frame_fields length_field kind_field kind_fields done_fields refused_fields opened_fields session_fields flag_fields live_fields
fits_ends (Done slots) h = tt
fits_ends (Refused number a b) h = tt
fits_ends (Opened session cache) h = tt
fits_ends (Closed session) h = tt
fits_ends (View v) h =
    ended (after frame_fields (view_numbers v v.coefs)) (view_numbers_after v v.coefs (omega (arith, h.count))
    ∙ coefs_fields-end v.slots (last_key v.coefs) (length v.coefs) v.count (sym h.count))
fits_ends (Rows r) h =
    ended (after frame_fields (rows_numbers r r.rows)) (rows_numbers_after r r.rows (omega (arith, h.count))
    ∙ rows_fields-end r.w (last_column r.rows) (length r.rows) r.count (sym h.count))
fits_ends (Live session on) h = tt
fits_ends (frames.Report r) h = report_ends r

-- ---- spelled in front of what follows

coefs_spelled : (slots : ℕ) (last : Option ℕ) (coefs : List (Key × Coef)) (count : ℕ) (tail : List ℕ) → length coefs ≤ count
    → spell_before (coefs_fields slots last count) (coefs_numbers coefs) tail ≡ coefs_before coefs tail
unfolding coefs_fields key_field coef_fields difference_field coef_before
coefs_spelled slots last [] count tail room = refl
coefs_spelled slots last (e ∷ es) zero tail room = absurd (omega arith)
coefs_spelled slots last (e ∷ es) (suc count) tail room =
    ap (coef_before e) (coefs_spelled slots (Some (key_number e.0)) es count tail (omega arith))

rows_spelled : (w : ℕ) (last : Option ℕ) (rows : List Row) (count : ℕ) (tail : List ℕ) → length rows ≤ count
    → spell_before (rows_fields w last count) (all_rows_numbers rows) tail ≡ rows_all_before rows tail
unfolding rows_fields column_field row_fields value_field at_most_field at_least_field between_field row_before
rows_spelled w last [] count tail room = refl
rows_spelled w last (r ∷ rs) zero tail room = absurd (omega arith)
rows_spelled w last (r ∷ rs) (suc count) tail room =
    ap (row_before r) (rows_spelled w (Some r.column) rs count tail (omega arith))

view_framed : (v : ViewFrame) (coefs : List (Key × Coef)) (tail : List ℕ)
    → spell_before frame_fields (view_numbers v coefs) tail ≡ framed (84 + 25 * v.count) 5
    (view_before v (spell_before (coefs_fields v.slots None v.count) (coefs_numbers coefs) tail))
unfolding frame_fields length_field kind_field kind_fields view_fields place_fields source_fields session_fields series_fields side_fields
    side_field window_fields range_fields axis_fields slots_field stored_fields has_field rmin_field rmax_field count_fields place_before
    source_before
view_framed v coefs tail = refl

pub view_spelled : (v : ViewFrame) (coefs : List (Key × Coef)) (tail : List ℕ) → length coefs ≤ v.count
    → spell frame_fields (view_numbers v coefs) ++ tail ≡ framed (84 + 25 * v.count) 5 (view_before v (coefs_before coefs tail))
view_spelled v coefs tail room =
    spelled_before frame_fields (view_numbers v coefs) tail ∙ view_framed v coefs tail
    ∙ ap (λ (p : List ℕ). framed (84 + 25 * v.count) 5 (view_before v p)) (coefs_spelled v.slots None coefs v.count tail room)

rows_framed : (r : RowsFrame) (rows : List Row) (tail : List ℕ)
    → spell_before frame_fields (rows_numbers r rows) tail ≡ framed (27 + 34 * r.count) 6
    (rows_before r (spell_before (rows_fields r.w None r.count) (all_rows_numbers rows) tail))
unfolding frame_fields length_field kind_field kind_fields head_fields session_fields side_fields side_field range_fields row_count_fields
    rows_before
rows_framed r rows tail = refl

pub rows_frame_spelled : (r : RowsFrame) (rows : List Row) (tail : List ℕ) → length rows ≤ r.count
    → spell frame_fields (rows_numbers r rows) ++ tail ≡ framed (27 + 34 * r.count) 6 (rows_before r (rows_all_before rows tail))
rows_frame_spelled r rows tail room =
    spelled_before frame_fields (rows_numbers r rows) tail ∙ rows_framed r rows tail
    ∙ ap (λ (p : List ℕ). framed (27 + 34 * r.count) 6 (rows_before r p)) (rows_spelled r.w None rows r.count tail room)

-- a frame's spelling, and what follows
pub spelled : (f : Frame) (tail : List ℕ) → Fits f → spelling f ++ tail ≡ frame_before f tail
unfolding frame_fields length_field kind_field kind_fields done_fields refused_fields opened_fields session_fields flag_fields live_fields
spelled (Done slots) tail h = spelled_before frame_fields (numbers_of (Done slots)) tail
spelled (Refused number a b) tail h = spelled_before frame_fields (numbers_of (Refused number a b)) tail
spelled (Opened session cache) tail h = spelled_before frame_fields (numbers_of (Opened session cache)) tail
spelled (Closed session) tail h = spelled_before frame_fields (numbers_of (Closed session)) tail
spelled (View v) tail h = view_spelled v v.coefs tail (omega (arith, h.count))
spelled (Rows r) tail h = rows_frame_spelled r r.rows tail (omega (arith, h.count))
spelled (Live session on) tail h = spelled_before frame_fields (numbers_of (Live session on)) tail
spelled (frames.Report r) tail h = spelled_before frame_fields (report_numbers r) tail ∙ report_spelled r tail

-- ---- reading

-- a frame is read whole, whatever follows it
pub frame_again : (f : Frame) (tail : List ℕ) → Fits f → read frame_fields (spelling f ++ tail) ≡ Ok tail
frame_again f tail h = read_again frame_fields (numbers_of f) tail (fits_meets f h) (fits_ends f h)

-- a view is read on behind its first coefficients
pub view_read_on : (v : ViewFrame) (coefs : List (Key × Coef)) (tail : List ℕ) → FitsViewHead v → FitCoefs v.slots coefs
    → length coefs ≤ v.count
    → read frame_fields (framed (84 + 25 * v.count) 5 (view_before v (coefs_before coefs tail))) ≡ read
    (coefs_fields v.slots (last_key coefs) (v.count - length coefs)) tail
view_read_on v coefs tail head fit room =
    ap (read frame_fields) (sym (view_spelled v coefs tail room))
    ∙ passed_all frame_fields (view_numbers v coefs) tail (view_numbers_meet v coefs head fit room)
    ∙ ap (λ (f : Format). read f tail) (view_numbers_after v coefs room)

-- a frame of rows is read on behind its first rows
pub rows_read_on : (r : RowsFrame) (rows : List Row) (tail : List ℕ) → FitsRowsHead r → FitRows r.w rows → length rows ≤ r.count
    → read frame_fields (framed (27 + 34 * r.count) 6 (rows_before r (rows_all_before rows tail))) ≡ read
    (rows_fields r.w (last_column rows) (r.count - length rows)) tail
rows_read_on r rows tail head fit room =
    ap (read frame_fields) (sym (rows_frame_spelled r rows tail room))
    ∙ passed_all frame_fields (rows_numbers r rows) tail (rows_numbers_meet r rows head fit room)
    ∙ ap (λ (f : Format). read f tail) (rows_numbers_after r rows room)

-- ---- a frame from its numbers

abbrev key_from : ℕ → Key
key_from n = record { level = n / 2 ^ 40; index = n % 2 ^ 40 }

abbrev coef_from : ℕ → ℤ → ℤ → Coef
coef_from flags dmin dmax = record { left = not (eqb flags 2); right = not (eqb flags 1); dmin = dmin; dmax = dmax }

abbrev coefs_from : List ℕ → List (Key × Coef)
coefs_from [] = []
coefs_from (k ∷ []) = []
coefs_from (k ∷ (f ∷ [])) = []
coefs_from (k ∷ (f ∷ (a ∷ []))) = []
coefs_from (k ∷ (f ∷ (a ∷ (b ∷ ns)))) = (key_from k, coef_from f (from_signed a) (from_signed b)) ∷ coefs_from ns

abbrev rows_from : List ℕ → List Row
rows_from [] = []
rows_from (c ∷ []) = []
rows_from (c ∷ (f ∷ [])) = []
rows_from (c ∷ (f ∷ (l ∷ []))) = []
rows_from (c ∷ (f ∷ (l ∷ (g ∷ [])))) = []
rows_from (c ∷ (f ∷ (l ∷ (g ∷ (e ∷ ns))))) =
    record { column = c; first = from_signed f; least = from_signed l; greatest = from_signed g; last = from_signed e } ∷ rows_from ns

abbrev view_from : List ℕ → ViewFrame
view_from ns = record {
  session = number_of ns 2;
  series = number_of ns 3;
  w = number_of ns 4;
  h = number_of ns 5;
  t0 = from_signed (number_of ns 6);
  t1 = from_signed (number_of ns 7);
  lo = from_signed (number_of ns 8);
  hi = from_signed (number_of ns 9);
  start = from_signed (number_of ns 10);
  step = number_of ns 11;
  slots = number_of ns 12;
  has = number_of ns 13;
  rmin = from_signed (number_of ns 14);
  rmax = from_signed (number_of ns 15);
  count = number_of ns 16;
  coefs = coefs_from (drop 17 ns);
}

abbrev rows_frame_from : List ℕ → RowsFrame
rows_frame_from ns = record {
  session = number_of ns 2;
  w = number_of ns 3;
  h = number_of ns 4;
  lo = from_signed (number_of ns 5);
  hi = from_signed (number_of ns 6);
  count = number_of ns 7;
  rows = rows_from (drop 8 ns);
}

abbrev frame_from : List ℕ → Frame
frame_from ns =
    cond (eqb (number_of ns 1) 1) (Done (number_of ns 2))
    (cond (eqb (number_of ns 1) 2) (Refused (number_of ns 2) (number_of ns 3) (number_of ns 4))
    (cond (eqb (number_of ns 1) 3) (Opened (number_of ns 2) (number_of ns 3))
    (cond (eqb (number_of ns 1) 4) (Closed (number_of ns 2))
    (cond (eqb (number_of ns 1) 5) (View (view_from ns))
    (cond (eqb (number_of ns 1) 6) (Rows (rows_frame_from ns))
    (cond (eqb (number_of ns 1) 7) (Live (number_of ns 2) (eqb (number_of ns 3) 1)) (frames.Report (report_from ns))))))))

abbrev key_at : ℕ → ℕ → Key
key_at level index = record { level = level; index = index }

key_same : (a b c d : ℕ) → a ≡ b → c ≡ d → key_at a c ≡ key_at b d
key_same a b c d e f = ap (λ (x : ℕ). key_at x c) e ∙ ap (λ (y : ℕ). key_at b y) f

key_back : (slots : ℕ) (k : Key) → IsNode (height slots) k → key_from (key_number k) ≡ k
key_back slots k node =
    let fits = index_bound slots k node in
    key_same (key_number k / 2 ^ 40) k.level (key_number k % 2 ^ 40) k.index (level_of-number k fits) (index_of-number k fits)

abbrev coef_at : Bool → Bool → ℤ → ℤ → Coef
coef_at left right dmin dmax = record { left = left; right = right; dmin = dmin; dmax = dmax }

halves_back : (l r : Bool) → (l || r) ≡ true → (not (eqb (cond l 1 0 + cond r 2 0) 2) ≡ l) × (not (eqb (cond l 1 0 + cond r 2 0) 1) ≡ r)
halves_back true true h = (refl, refl)
halves_back true false h = (refl, refl)
halves_back false true h = (refl, refl)
halves_back false false h = absurd cc

coef_same : (a b c d : Bool) (x y z w : ℤ) → a ≡ b → c ≡ d → x ≡ y → z ≡ w → coef_at a c x z ≡ coef_at b d y w
coef_same a b c d x y z w e f g h =
    ap (λ (p : Bool). coef_at p c x z) e ∙ ap (λ (p : Bool). coef_at b p x z) f ∙ ap (λ (p : ℤ). coef_at b d p z) g
    ∙ ap (λ (p : ℤ). coef_at b d y p) h

coef_back : (c : Coef) → IsCoef c → coef_from (flags_of c) (from_signed (unsigned c.dmin)) (from_signed (unsigned c.dmax)) ≡ c
coef_back c h =
    let halves = halves_back c.left c.right h.some in
    coef_same (not (eqb (flags_of c) 2)) c.left (not (eqb (flags_of c) 1)) c.right (from_signed (unsigned c.dmin)) c.dmin
    (from_signed (unsigned c.dmax)) c.dmax halves.0 halves.1 (round c.dmin h.least) (round c.dmax h.greatest)

pair_same : (k l : Key) (c d : Coef) (es fs : List (Key × Coef)) → k ≡ l → c ≡ d → es ≡ fs → (k, c) ∷ es ≡ (l, d) ∷ fs
pair_same k l c d es fs p q r = ap (λ (x : Key). (x, c) ∷ es) p ∙ ap (λ (x : Coef). (l, x) ∷ es) q
    ∙ ap (λ (x : List (Key × Coef)). (l, d) ∷ x) r

coefs_back : (slots : ℕ) (coefs : List (Key × Coef)) → ((k : ℕ) (d : Key × Coef) → k < length coefs → FitsCoef slots (get_or coefs k d))
    → coefs_from (coefs_numbers coefs) ≡ coefs
coefs_back slots [] fit = refl
coefs_back slots (e ∷ es) fit =
    let first : FitsCoef slots e = fit 0 e (omega arith) in
    pair_same (key_from (key_number e.0)) e.0 (coef_from (flags_of e.1) (from_signed (unsigned e.1.dmin)) (from_signed (unsigned e.1.dmax)))
    e.1 (coefs_from (coefs_numbers es)) es
    (key_back slots e.0 first.key) (coef_back e.1 first.coef) (coefs_back slots es (λ k d lt. fit (suc k) d (omega arith)))

abbrev row_at : ℕ → ℤ → ℤ → ℤ → ℤ → Row
row_at c f l g e = record { column = c; first = f; least = l; greatest = g; last = e }

row_same : (c : ℕ) (f f' l l' g g' e e' : ℤ) (rs ss : List Row) → f ≡ f' → l ≡ l' → g ≡ g' → e ≡ e' → rs ≡ ss
    → row_at c f l g e ∷ rs ≡ row_at c f' l' g' e' ∷ ss
row_same c f f' l l' g g' e e' rs ss p q r s t =
    ap (λ (x : ℤ). row_at c x l g e ∷ rs) p ∙ ap (λ (x : ℤ). row_at c f' x g e ∷ rs) q ∙ ap (λ (x : ℤ). row_at c f' l' x e ∷ rs) r
    ∙ ap (λ (x : ℤ). row_at c f' l' g' x ∷ rs) s
    ∙ ap (λ (x : List Row). row_at c f' l' g' e' ∷ x) t

rows_back : (w : ℕ) (rows : List Row) → ((k : ℕ) (d : Row) → k < length rows → FitsRow w (get_or rows k d))
    → rows_from (all_rows_numbers rows) ≡ rows
rows_back w [] fit = refl
rows_back w (r ∷ rs) fit =
    let h : FitsRow w r = fit 0 r (omega arith) in
    row_same r.column _ r.first _ r.least _ r.greatest _ r.last (rows_from (all_rows_numbers rs)) rs
    (value_round r.first h.first) (value_round r.least h.least) (value_round r.greatest h.greatest) (value_round r.last h.last)
    (rows_back w rs (λ k d lt. fit (suc k) d (omega arith)))

abbrev view_with : ViewFrame → ℤ → ℤ → ℤ → ℤ → ℤ → ℤ → ℤ → List (Key × Coef) → ViewFrame
view_with v t0 t1 lo hi start rmin rmax coefs = record v {
  t0 = t0;
  t1 = t1;
  lo = lo;
  hi = hi;
  start = start;
  rmin = rmin;
  rmax = rmax;
  coefs = coefs;
}

view_same : (v : ViewFrame) (a a' b b' c c' d d' e e' f f' g g' : ℤ) (x x' : List (Key × Coef)) → a ≡ a' → b ≡ b' → c ≡ c' → d ≡ d' → e ≡ e'
    → f ≡ f' → g ≡ g' → x ≡ x'
    → view_with v a b c d e f g x ≡ view_with v a' b' c' d' e' f' g' x'
view_same v a a' b b' c c' d d' e e' f f' g g' x x' p q r s t u w y =
    ap (λ (z : ℤ). view_with v z b c d e f g x) p ∙ ap (λ (z : ℤ). view_with v a' z c d e f g x) q
    ∙ ap (λ (z : ℤ). view_with v a' b' z d e f g x) r
    ∙ ap (λ (z : ℤ). view_with v a' b' c' z e f g x) s ∙ ap (λ (z : ℤ). view_with v a' b' c' d' z f g x) t
    ∙ ap (λ (z : ℤ). view_with v a' b' c' d' e' z g x) u
    ∙ ap (λ (z : ℤ). view_with v a' b' c' d' e' f' z x) w ∙ ap (λ (z : List (Key × Coef)). view_with v a' b' c' d' e' f' g' z) y

view_back : (v : ViewFrame) → FitsView v → view_from (view_numbers v v.coefs) ≡ v
view_back v h =
    let p = h.head.place.window in
    let s = h.head.source in
    view_same v _ v.t0 _ v.t1 _ v.lo _ v.hi _ v.start _ v.rmin _ v.rmax _ v.coefs
    (round v.t0 p.from) (round v.t1 p.to) (value_round v.lo s.range.low) (value_round v.hi s.range.high) (value_round v.start s.axis.first)
    (value_round v.rmin s.stored.range.low) (value_round v.rmax s.stored.range.high) (coefs_back v.slots v.coefs h.coefs.each)

abbrev rows_with : RowsFrame → ℤ → ℤ → List Row → RowsFrame
rows_with r lo hi rows = record r { lo = lo; hi = hi; rows = rows }

rows_frame_back : (r : RowsFrame) → FitsRows r → rows_frame_from (rows_numbers r r.rows) ≡ r
rows_frame_back r h =
    let lo = value_round r.lo h.head.range.low in
    let hi = value_round r.hi h.head.range.high in
    ap (λ (z : ℤ). rows_with r z (from_signed (unsigned r.hi)) (rows_from (all_rows_numbers r.rows))) lo
    ∙ ap (λ (z : ℤ). rows_with r r.lo z (rows_from (all_rows_numbers r.rows))) hi
    ∙ ap (λ (z : List Row). rows_with r r.lo r.hi z) (rows_back r.w r.rows h.rows.each)

frame_back : (f : Frame) → Fits f → frame_from (numbers_of f) ≡ f
frame_back (Done slots) h = refl
frame_back (Refused number a b) h = refl
frame_back (Opened session cache) h = refl
frame_back (Closed session) h = refl
frame_back (View v) h = ap View (view_back v h)
frame_back (Rows r) h = ap Rows (rows_frame_back r h)
frame_back (Live session true) h = refl
frame_back (Live session false) h = refl
frame_back (frames.Report (Catalog c)) h = ap (λ (r : Report). frames.Report r) (report_back (Catalog c) h)
frame_back (frames.Report (Values v)) h = ap (λ (r : Report). frames.Report r) (report_back (Values v) h)
frame_back (frames.Report (Swept clears used more)) h = ap (λ (r : Report). frames.Report r) (report_back (Swept clears used more) h)

-- two frames at the front of the same bytes are one, and so is what follows
pub same_frame : (f g : Frame) (x y : List ℕ) → Fits f → Fits g → spelling f ++ x ≡ spelling g ++ y → (f ≡ g) × (x ≡ y)
same_frame f g x y p q e =
    let both = one_reading frame_fields (numbers_of f) (numbers_of g) x y (fits_meets f p) (fits_meets g q) (fits_ends f p)
    (fits_ends g q) e in
    (sym (frame_back f p) ∙ ap frame_from both.0 ∙ frame_back g q, both.1)
