-- No frame is longer than the limit.
use Rattle.std.proofs.Common.{◌≡◌, ℕ, ◌+◌, ◌-◌, ◌/◌, ◌%◌, ◌<◌, ◌≤◌, inl, inr, Bool, true, false, ◌&&◌, ◌||◌, leb, eqb, List, [], ◌++◌}
use Rattle.std.proofs.Common.{length, refl, arith, length-append}
use Rattle.std.proofs.lemmas.Bool.{cases_lt, leb-true, eqb-true, and_parts}
use Rattle.chart_frames.specs.declared.frame.Frame.{Frame}
use Rattle.chart_frames.specs.Format.{number_in, Breaks}
use Rattle.chart_frames.specs.Fields.{is_view_length, is_rows_length, is_catalog_length, is_values_length, is_report_length, is_length}
use Rattle.chart_frames.specs.Fields.{length_field, frame_fields}
use Rattle.chart_frames.specs.Frames.{Fits, spelling}
use Rattle.chart_frames.proofs.Streams.{spelled_good, spelled_length}

-- one of two tests holds, and each keeps the limit
limited : (n : ℕ) (x y : Bool) → (x || y) ≡ true → (x ≡ true → n ≤ 4194304) → (y ≡ true → n ≤ 4194304) → n ≤ 4194304
limited n true y h f g = f refl
limited n false y h f g = g h

view_limited : (n : ℕ) → is_view_length n ≡ true → n ≤ 4194304
view_limited n h =
    let long = and_parts (leb 84 n) _ h in
    let whole = and_parts (eqb ((n - 84) % 25) 0) _ long.1 in
    omega (arith, leb-true 84 n long.0, eqb-true ((n - 84) % 25) 0 whole.0, leb-true ((n - 84) / 25) 131072 whole.1)

rows_limited : (n : ℕ) → is_rows_length n ≡ true → n ≤ 4194304
rows_limited n h =
    let long = and_parts (leb 27 n) _ h in
    let whole = and_parts (eqb ((n - 27) % 34) 0) _ long.1 in
    omega (arith, leb-true 27 n long.0, eqb-true ((n - 27) % 34) 0 whole.0, leb-true ((n - 27) / 34) 4096 whole.1)

catalog_limited : (n : ℕ) → is_catalog_length n ≡ true → n ≤ 4194304
catalog_limited n h =
    let long = and_parts (leb 11 n) _ h in
    let whole = and_parts (eqb ((n - 11) % 70) 0) _ long.1 in
    omega (arith, leb-true 11 n long.0, eqb-true ((n - 11) % 70) 0 whole.0, leb-true ((n - 11) / 70) 512 whole.1)

values_limited : (n : ℕ) → is_values_length n ≡ true → n ≤ 4194304
values_limited n h =
    limited n (eqb n 16) _ h (λ e. omega (arith, eqb-true n 16 e)) (λ h.
    let within = and_parts (leb 40 n && leb n 49176) _ h in
    let ends = and_parts (leb 40 n) (leb n 49176) within.0 in
    omega (arith, leb-true n 49176 ends.1))

report_limited : (n : ℕ) → is_report_length n ≡ true → n ≤ 4194304
report_limited n h =
    limited n (eqb n 8) _ h (λ e. omega (arith, eqb-true n 8 e))
    (λ h. limited n (is_catalog_length n) (is_values_length n) h (catalog_limited n) (values_limited n))

length_limited : (n : ℕ) → is_length n ≡ true → n ≤ 4194304
length_limited n h =
    limited n (eqb n 5) _ h (λ e. omega (arith, eqb-true n 5 e))
    (λ h. limited n (eqb n 6) _ h (λ e. omega (arith, eqb-true n 6 e))
    (λ h. limited n (eqb n 9) _ h (λ e. omega (arith, eqb-true n 9 e))
    (λ h. limited n (eqb n 18) _ h (λ e. omega (arith, eqb-true n 18 e))
    (λ h. limited n (is_view_length n) _ h (view_limited n)
    (λ h. limited n (is_rows_length n) (is_report_length n) h (rows_limited n) (report_limited n))))))

not_length : (n : ℕ) (b : Bool) → is_length n ≡ b → 4194304 < n → b ≡ false
not_length n true e h = absurd (omega (arith, length_limited n e, h))
not_length n false e h = refl

-- a greater length breaks its field's rule
pub too_long : (bytes : List ℕ) → 4 ≤ length bytes → 4194304 < number_in 4 bytes → Breaks frame_fields bytes 0
unfolding frame_fields length_field
too_long bytes there long = record {
  numbers = [];
  rest = bytes;
  meets = tt;
  begins = refl;
  offset = refl;
  bad = (there, not_length (number_in 4 bytes) (is_length (number_in 4 bytes)) refl long);
}

pub spelled_limited : (f : Frame) → Fits f → length (spelling f) ≤ 4 + 4194304
spelled_limited f fits =
    let told : length (spelling f) ≡ 4 + number_in 4 (spelling f ++ []) = spelled_length f [] fits in
    elim (cases_lt 4194304 (number_in 4 (spelling f ++ []))) [
      | inl long ↦ absurd (spelled_good f [] 0 fits (too_long (spelling f ++ []) (omega (arith, told, length-append (spelling f) [])) long))
      | inr few ↦ omega (arith, told, few)
    ]
