-- A frame takes as many bytes as its length says.
use Rattle.std.proofs.Common.{◌≡◌, ℕ, zero, suc, ◌+◌, ◌-◌, ◌*◌, ◌<◌, ◌≤◌, ◌⊎◌, inl, inr, Bool, true, false, cond, leb, eqb, List, length}
use Rattle.std.proofs.Common.{drop, Option, Some, None, Result, Ok, Err, refl, sym, subst, arith, length-drop}
use Rattle.std.proofs.lemmas.Bool.{cases_lt, leb-true, eqb-true, and_parts, or_cases}
use Rattle.chart_frames.specs.declared.fields.Stop.{Stop}
use Rattle.chart_frames.specs.declared.fields.Stop.TheVariants.{More, Bad}
use Rattle.chart_frames.specs.Format.{Format, field, number_in}
use Rattle.chart_frames.specs.Reading.{read}
use Rattle.chart_frames.specs.Fields.{within, is_values_length, is_length, admits, lesser, word_field, padded_field, name_fields}
use Rattle.chart_frames.specs.Fields.{scale_field, facts_fields, listed_fields, series_list, listed_count_fields, pages_fields}
use Rattle.chart_frames.specs.Fields.{catalog_fields, more_field, next_time_field, next_fields, counts_fields, run_fields, runs_fields}
use Rattle.chart_frames.specs.Fields.{values_list, asked_fields, stored_values, values_fields, swept_fields, session_fields, side_field}
use Rattle.chart_frames.specs.Fields.{side_fields, series_fields, window_fields, range_fields, axis_fields, slots_field, has_field}
use Rattle.chart_frames.specs.Fields.{rmin_field, rmax_field, stored_fields, count_fields, key_field, difference_field, coef_fields}
use Rattle.chart_frames.specs.Fields.{coefs_fields, place_fields, source_fields, view_fields, row_count_fields, column_field, value_field}
use Rattle.chart_frames.specs.Fields.{at_most_field, at_least_field, between_field, row_fields, rows_fields, head_fields, done_fields}
use Rattle.chart_frames.specs.Fields.{refused_fields, opened_fields, flag_fields, live_fields, kind_fields, length_field, kind_field}
use Rattle.chart_frames.specs.Fields.{frame_fields}
use Rattle.chart_frames.specs.declared.limits.TheConstants.{MOST_SLOTS}
use Rattle.chart_frames.proofs.FormatLaws.{Fills, Sized, read_there, read_short, read_sized}

coefs_fill : (count slots : ℕ) (last : Option ℕ) (m : ℕ) → m ≡ 25 * count → Fills m (coefs_fields slots last count)
unfolding coefs_fields key_field coef_fields difference_field
coefs_fill zero slots last m e = omega (arith, e)
coefs_fill (suc count) slots last m e = (
  omega (arith, e),
  λ key _. (
    omega (arith, e),
    λ flags _. (
      omega (arith, e),
      λ dmin _. (
        omega (arith, e),
        λ dmax _.
            coefs_fill count slots (Some key) (m - 8 - 1 - 8 - 8) (omega (arith, e)),
      ),
    ),
  ),
)

rows_fill : (count w : ℕ) (last : Option ℕ) (m : ℕ) → m ≡ 34 * count → Fills m (rows_fields w last count)
unfolding rows_fields column_field row_fields value_field at_most_field at_least_field between_field
rows_fill zero w last m e = omega (arith, e)
rows_fill (suc count) w last m e = (
  omega (arith, e),
  λ column _. (
    omega (arith, e),
    λ first _. (
      omega (arith, e),
      λ least _. (
        omega (arith, e),
        λ greatest _. (
          omega (arith, e),
          λ l _.
              rows_fill count w (Some column) (m - 2 - 8 - 8 - 8 - 8) (omega (arith, e)),
        ),
      ),
    ),
  ),
)

view_fill : (length : ℕ) → 84 ≤ length → Fills (length - 1) (view_fields length (λ slots count. coefs_fields slots None count))
unfolding view_fields place_fields source_fields session_fields series_fields side_fields side_field window_fields range_fields axis_fields
    slots_field stored_fields has_field rmin_field rmax_field count_fields
view_fill length long = (
  omega arith,
  λ session _. (
    omega arith,
    λ series _. (
      omega arith,
      λ w _. (
        omega arith,
        λ h _. (
          omega arith,
          λ t0 _. (
            omega arith,
            λ t1 _. (
              omega arith,
              λ lo _. (
                omega arith,
                λ hi _. (
                  omega arith,
                  λ start _. (
                    omega arith,
                    λ step _. (
                      omega arith,
                      λ slots _. (
                        omega arith,
                        λ has _. (
                          omega arith,
                          λ rmin _. (
                            omega arith,
                            λ rmax _. (
                              omega arith,
                              λ count e.
                                  coefs_fill count slots None (length - 1 - 4 - 2 - 2 - 2 - 8 - 8 - 8 - 8 - 8 - 4 - 8 - 1 - 8 - 8 - 4)
                                  (omega (arith, eqb-true (84 + 25 * count) length e)),
                            ),
                          ),
                        ),
                      ),
                    ),
                  ),
                ),
              ),
            ),
          ),
        ),
      ),
    ),
  ),
)

head_fill : (length : ℕ) → 27 ≤ length → Fills (length - 1) (head_fields length (λ w count. rows_fields w None count))
unfolding head_fields session_fields side_fields side_field range_fields row_count_fields
head_fill length long = (
  omega arith,
  λ session _. (
    omega arith,
    λ w _. (
      omega arith,
      λ h _. (
        omega arith,
        λ lo _. (
          omega arith,
          λ hi _. (
            omega arith,
            λ count e.
                rows_fill count w None (length - 1 - 4 - 2 - 2 - 8 - 8 - 2)
                (omega (arith, eqb-true (27 + 34 * count) length (and_parts (leb count w) (eqb (27 + 34 * count) length) e).1)),
          ),
        ),
      ),
    ),
  ),
)

series_fill : (count m : ℕ) → m ≡ 70 * count → Fills m (series_list count)
unfolding series_list listed_fields name_fields padded_field facts_fields scale_field axis_fields slots_field stored_fields has_field
    rmin_field rmax_field
series_fill zero m e = omega (arith, e)
series_fill (suc count) m e = (
  omega (arith, e),
  λ size _. (
    omega (arith, e),
    λ name _. (
      omega (arith, e),
      λ scale _. (
        omega (arith, e),
        λ start _. (
          omega (arith, e),
          λ step _. (
            omega (arith, e),
            λ slots _. (
              omega (arith, e),
              λ has _. (
                omega (arith, e),
                λ rmin _. (omega (arith, e), λ rmax _. series_fill count (m - 1 - 31 - 1 - 8 - 4 - 8 - 1 - 8 - 8) (omega (arith, e))),
              ),
            ),
          ),
        ),
      ),
    ),
  ),
)

catalog_fill : (length : ℕ) → 11 ≤ length → Fills (length - 1) (catalog_fields length)
unfolding catalog_fields pages_fields word_field listed_count_fields
catalog_fill length long = (
  omega arith,
  λ total _. (
    omega arith,
    λ used _. (
      omega arith,
      λ count e.
          series_fill count (length - 1 - 4 - 4 - 2) (omega (arith, eqb-true (11 + 70 * count) length e)),
    ),
  ),
)

values_list_fill : (count m : ℕ) → m ≡ 8 * count → Fills m (values_list count)
unfolding values_list value_field
values_list_fill zero m e = omega (arith, e)
values_list_fill (suc count) m e = (omega (arith, e), λ v _. values_list_fill count (m - 8) (omega (arith, e)))

runs_fill : (count from limit left m behind : ℕ) (next : Format) → m ≡ 16 * count + behind → Fills behind next
    → Fills m (runs_fields from limit left count next)
unfolding runs_fields run_fields
runs_fill zero from limit left m behind next e h = let is : behind ≡ m = omega (arith, e) in subst (λ (k : ℕ). Fills k next) is h
runs_fill (suc count) from limit left m behind next e h = (
  omega (arith, e),
  λ first _. (
    omega (arith, e),
    λ many _.
        runs_fill count (first + many + 1) (lesser limit (first + 4096)) (left - many) (m - 8 - 8) behind next (omega (arith, e)) h,
  ),
)

values_fill : (length : ℕ) → 16 ≤ length → Fills (length - 1) (values_fields length)
unfolding values_fields asked_fields series_fields next_fields more_field next_time_field counts_fields stored_values
values_fill length long = (
  omega arith,
  λ series _. (
    omega arith,
    λ more _. (
      omega arith,
      λ next _. (
        omega arith,
        λ runs _. (
          omega arith,
          λ values e.
              let is = eqb-true (16 + (16 * runs + 8 * values)) length (and_parts (eqb (16 + (16 * runs + 8 * values)) length) _ e).0 in
              runs_fill runs 0 MOST_SLOTS values (length - 1 - 2 - 1 - 8 - 2 - 2) (8 * values) (values_list values) (omega (arith, is))
              (values_list_fill values (8 * values) refl),
        ),
      ),
    ),
  ),
)

values_long : (length : ℕ) → is_values_length length ≡ true → 16 ≤ length
values_long length h =
    elim (or_cases (eqb length 16) _ h) [
      | inl one ↦ omega (arith, eqb-true length 16 one)
      | inr more ↦ let parts = and_parts (within 40 49176 length) _ more in
          let ends = and_parts (leb 40 length) (leb length 49176) parts.0 in
          omega (arith, leb-true 40 length ends.0)
    ]

-- the length that the chosen kind admits
pick : (m : ℕ) (b : Bool) (p q : Bool) (f g : Format) → cond b p q ≡ true → (p ≡ true → Fills m f) → (q ≡ true → Fills m g)
    → Fills m (cond b f g)
pick m true p q f g h x y = x h
pick m false p q f g h x y = y h

last_pick : (b p : Bool) → cond b p false ≡ true → p ≡ true
last_pick true p h = h
last_pick false p h = absurd cc

kind_fill : (length kind : ℕ) → admits length kind ≡ true → Fills (length - 1) (kind_fields length kind)
unfolding admits kind_fields done_fields refused_fields opened_fields flag_fields live_fields swept_fields word_field session_fields
kind_fill length kind h =
    pick (length - 1) (eqb kind 1) _ _ _ _ h (λ e. let is = eqb-true length 9 e in (omega (arith, is), λ slots _. omega (arith, is)))
    (λ h. pick (length - 1) (eqb kind 2) _ _ _ _ h (λ e. let is = eqb-true length 18 e in
    (omega (arith, is), λ number _. (omega (arith, is), λ a _. (omega (arith, is), λ b _. omega (arith, is)))))
    (λ h. pick (length - 1) (eqb kind 3) _ _ _ _ h (λ e. let is = eqb-true length 9 e in
    (omega (arith, is), λ session _. (omega (arith, is), λ cache _. omega (arith, is))))
    (λ h. pick (length - 1) (eqb kind 4) _ _ _ _ h (λ e. let is = eqb-true length 5 e in
    (omega (arith, is), λ session _. omega (arith, is)))
    (λ h. pick (length - 1) (eqb kind 5) _ _ _ _ h (λ e. view_fill length (leb-true 84 length (and_parts (leb 84 length) _ e).0))
    (λ h. pick (length - 1) (eqb kind 6) _ _ _ _ h (λ e. head_fill length (leb-true 27 length (and_parts (leb 27 length) _ e).0))
    (λ h. pick (length - 1) (eqb kind 7) _ _ _ _ h (λ e. let is = eqb-true length 6 e in
    (omega (arith, is), λ session _. (omega (arith, is), λ flag _. omega (arith, is))))
    (λ h. pick (length - 1) (eqb kind 8) _ _ _ _ h (λ e. catalog_fill length (leb-true 11 length (and_parts (leb 11 length) _ e).0))
    (λ h. pick (length - 1) (eqb kind 9) _ _ _ _ h (λ e. values_fill length (values_long length e))
    (λ h. let is = eqb-true length 8 (last_pick (eqb kind 10) (eqb length 8) h) in
    (omega (arith, is), λ clears _. (omega (arith, is), λ used _. (omega (arith, is), λ more _. omega (arith, is)))))))))))))

length_some : (length kind : ℕ) → is_length length ≡ true → 1 ≤ length
length_some zero kind h = absurd (cc (h))
length_some (suc n) kind h = omega arith

framed_fill : (length : ℕ) → is_length length ≡ true → Fills length (field 1 (admits length) (kind_fields length))
framed_fill length h = (length_some length 0 h, λ kind ok. kind_fill length kind ok)

-- what reading a frame says of the number of bytes
abbrev pub FrameSized : List ℕ → Result (List ℕ) Stop → Type 0
FrameSized bytes (Ok tail) = (4 ≤ length bytes) × (length bytes ≡ 4 + number_in 4 bytes + length tail)
FrameSized bytes (Err More) = (length bytes < 4) ⊎ (length bytes < 4 + number_in 4 bytes)
FrameSized bytes (Err (Bad left)) = Unit {0}

sized_frame : (bytes : List ℕ) (r : Result (List ℕ) Stop) → 4 ≤ length bytes → Sized (number_in 4 bytes) (length (drop 4 bytes)) r
    → FrameSized bytes r
sized_frame bytes (Ok tail) long h = (long, omega (arith, h, length-drop 4 bytes))
sized_frame bytes (Err More) long h = inr (omega (arith, h, length-drop 4 bytes))
sized_frame bytes (Err (Bad left)) long h = tt

sized_by : (bytes : List ℕ) (b : Bool) → 4 ≤ length bytes → is_length (number_in 4 bytes) ≡ b
    → FrameSized bytes (cond b (read (field 1 (admits (number_in 4 bytes)) (kind_fields (number_in 4 bytes))) (drop 4 bytes))
    (Err (Bad (length bytes))))
sized_by bytes true long h =
    sized_frame bytes (read (field 1 (admits (number_in 4 bytes)) (kind_fields (number_in 4 bytes))) (drop 4 bytes)) long
    (read_sized (field 1 (admits (number_in 4 bytes)) (kind_fields (number_in 4 bytes))) (number_in 4 bytes) (drop 4 bytes)
    (framed_fill (number_in 4 bytes) h))
sized_by bytes false long h = tt

pub frame_sized : (bytes : List ℕ) → FrameSized bytes (read frame_fields bytes)
unfolding frame_fields length_field kind_field
frame_sized bytes =
    elim (cases_lt (length bytes) 4) [
      | inl short ↦ subst (FrameSized bytes) (sym (read_short 4 is_length
          (λ length. field 1 (admits length) (kind_fields length)) bytes short)) (inl short)
      | inr long ↦ subst (FrameSized bytes) (sym (read_there 4 is_length
          (λ length. field 1 (admits length) (kind_fields length)) bytes long))
          (sized_by bytes (is_length (number_in 4 bytes)) long refl)
    ]
