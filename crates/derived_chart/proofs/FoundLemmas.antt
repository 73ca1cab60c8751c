-- What was found of a column makes its row.
use Rattle.std.proofs.Common.{◌≡◌, ℕ, ℤ, ◌≤ℤ◌, List, Option, None, Some, arith, sym, ◌∙◌, subst, to_z, of_z, w64}
use Rattle.std.specs.Prelude.{IfSome}
use Rattle.std.proofs.lemmas.Int.{ints, to_z-of_z, fits_signed_from_abs}
use Rattle.om3_coeff.specs.Spans.{Holds, IsStored}
use Rattle.om3_coeff.specs.Walks.{IsFirstStored, IsLastStored}
use Rattle.m4_groups.specs.declared.row.Row.{Row}
use Rattle.whole_number.specs.Range.{IsValue}
use Rattle.derived_chart.specs.declared.searches.Best.TheVariants.{Least, Greatest}
use Rattle.derived_chart.specs.Rows.{AreValues, IsOrdered, IsRowIn}
use Rattle.derived_chart.specs.Searches.{IsBestOf}

-- a value is what it is passed as
pub passed_value : (v : ℤ) → IsValue v → v ≡ to_z w64 (of_z w64 v)
passed_value v small = sym (to_z-of_z w64 v (fits_signed_from_abs w64 v (omega (arith, small))))

-- what is said of numbers as they are passed
pub passed_low : (low result : ℤ) → IsValue low → to_z w64 (of_z w64 low) ≤ℤ result → low ≤ℤ result
passed_low low result small is = let P : ℤ → Type 0 = λ z. z ≤ℤ result in subst P (sym (passed_value low small)) is

pub passed_same : (low value result : ℤ) → IsValue low → IsValue value
    → (to_z w64 (of_z w64 low) ≤ℤ to_z w64 (of_z w64 value) → result ≡ to_z w64 (of_z w64 value)) → low ≤ℤ value → result ≡ value
passed_same low value result small also is =
    let P : ℤ → Type 0 = λ z. z ≤ℤ to_z w64 (of_z w64 value) → result ≡ to_z w64 (of_z w64 value) in
    let Q : ℤ → Type 0 = λ z. low ≤ℤ z → result ≡ z in
    subst Q (sym (passed_value value also)) (subst P (sym (passed_value low small)) is)

abbrev row_with : ℕ → ℤ → ℤ → ℤ → ℤ → Row
row_with column first least greatest last = record { column = column; first = first; least = least; greatest = greatest; last = last }

pub passed_row : (P : Row → Type 0) (column : ℕ) (first least greatest last : ℤ) → IsValue first → IsValue least → IsValue greatest
    → IsValue last
    → P (record { column = column; first = first; least = least; greatest = greatest; last = last })
    → P (record {
      column = column;
      first = to_z w64 (of_z w64 first);
      least = to_z w64 (of_z w64 least);
      greatest = to_z w64 (of_z w64 greatest);
      last = to_z w64 (of_z w64 last);
    })
passed_row P column first least greatest last f l g k is =
    let F : ℤ → Type 0 = λ z. P (row_with column z (to_z w64 (of_z w64 least)) (to_z w64 (of_z w64 greatest)) (to_z w64 (of_z w64 last))) in
    let L : ℤ → Type 0 = λ z. P (row_with column first z (to_z w64 (of_z w64 greatest)) (to_z w64 (of_z w64 last))) in
    let G : ℤ → Type 0 = λ z. P (row_with column first least z (to_z w64 (of_z w64 last))) in
    let K : ℤ → Type 0 = λ z. P (row_with column first least greatest z) in
    subst F (passed_value first f) (subst L (passed_value least l) (subst G (passed_value greatest g) (subst K (passed_value last k) is)))

pub row_found : (sums : List (Option ℤ)) (p q column : ℕ) (first : ℕ
    × ℤ) (last : Option (ℕ × ℤ)) (least greatest : Option ℤ) (f l h g k : ℤ)
    → (IsValue first.1 → f ≡ first.1) → IfSome least (λ v. IsValue v → l ≡ v) → IfSome greatest (λ v. IsValue v → h ≡ v) → (l ≤ℤ h → g ≡ h)
    → IfSome last (λ x. IsValue x.1 → k ≡ x.1)
    → AreValues sums p q → IsFirstStored sums p q (Some first) → IsLastStored sums p q last → IsBestOf Least sums p q least
    → IsBestOf Greatest sums p q greatest
    → IsRowIn sums p q (record { column = column; first = f; least = l; greatest = g; last = k })
row_found sums p q column first None least greatest f l h g k first_is least_is greatest_is order last_is small one clear low high = absurd
    (clear first.0 first.1 one.0 one.1 one.2)
row_found sums p q column first (Some x) None greatest f l h g k first_is least_is greatest_is order last_is small one two clear
    high = absurd (clear first.0 first.1 one.0 one.1 one.2)
row_found sums p q column first (Some x) (Some m) None f l h g k first_is least_is greatest_is order last_is small one two low
    clear = absurd (clear first.0 first.1 one.0 one.1 one.2)
row_found sums p q column first (Some x) (Some m) (Some n) f l h g k first_is least_is greatest_is order last_is small one two low high =
    let at_low : IsStored sums p q m = low.0 in
    let at_high : IsStored sums p q n = high.0 in
    let f_is : f ≡ first.1 = first_is (small first.0 first.1 one.0 one.1 one.2) in
    let k_is : k ≡ x.1 = last_is (small x.0 x.1 two.0 two.1 two.2) in
    let l_is : l ≡ m = least_is (small at_low.slot m at_low.low at_low.high at_low.holds) in
    let h_is : h ≡ n = greatest_is (small at_high.slot n at_high.low at_high.high at_high.holds) in
    let risen : m ≤ℤ n = low.1 at_high.slot n at_high.low at_high.high at_high.holds in
    let g_is : g ≡ n = order (omega (arith, ints, l_is, h_is, risen)) ∙ h_is in
    record {
      first_at = first.0;
      first = (one.0, one.1, subst (Holds sums first.0) (sym f_is) one.2, one.3);
      last_at = x.0;
      last = (two.0, two.1, subst (Holds sums x.0) (sym k_is) two.2, two.3);
      least = subst (IsStored sums p q) (sym l_is) at_low;
      none_below = λ i v from to holds. omega (arith, ints, l_is, low.1 i v from to holds);
      greatest = subst (IsStored sums p q) (sym g_is) at_high;
      none_above = λ i v from to holds. omega (arith, ints, g_is, high.1 i v from to holds);
    }

-- the values of the row of a column are in order
row_ordered : (sums : List (Option ℤ)) (p q : ℕ) (r : Row) → IsRowIn sums p q r → IsOrdered r
row_ordered sums p q r is = record {
  first_low = is.none_below is.first_at r.first is.first.0 is.first.1 is.first.2;
  first_high = is.none_above is.first_at r.first is.first.0 is.first.1 is.first.2;
  last_low = is.none_below is.last_at r.last is.last.0 is.last.1 is.last.2;
  last_high = is.none_above is.last_at r.last is.last.0 is.last.1 is.last.2;
}

pub ordered_in : (sums : List (Option ℤ)) (p q : ℕ) (r s : Row) → (IsOrdered r → s ≡ r) → IsRowIn sums p q r → IsRowIn sums p q s
ordered_in sums p q r s same is = let P : Row → Type 0 = λ x. IsRowIn sums p q x in subst P (sym (same (row_ordered sums p q r is))) is
