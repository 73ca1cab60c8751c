-- What a scan takes of a range.
use Rattle.std.proofs.Common.{ℕ, ℤ, ◌≡◌, ◌-◌, ◌<◌, ◌≤◌, arith, refl, sym, ◌∙◌, ap, subst}
use Rattle.std.proofs.lemmas.Int.{ints}
use Rattle.chart_grid.specs.Projection.{InWindow, column}
use Rattle.chart_grid.specs.Slots.{slot_time}
use Rattle.chart_grid.proofs.Rising.{column-rising}
use Rattle.om3_coeff.specs.declared.key.Key.{Key}
use Rattle.om3_coeff.specs.Keys.{first_slot, end_slot}
use Rattle.whole_number.specs.Range.{IsValue}
use Rattle.m4_groups.specs.declared.row.Row.{Row}
use Rattle.query_rewriter.proofs.Windows.{time_rises}
use Rattle.filter_scan.specs.declared.scans.Scan.{Scan}
use Rattle.filter_scan.specs.Shares.{IsInside}
use Rattle.filter_scan.specs.Table.{IsColumnRow}
use Rattle.filter_scan.specs.Taken.{row_of}

-- a range whose first and whose last slot have one column
between : (s : Scan) (a b i : ℕ) → s.from ≤ a → a ≤ i → i ≤ b → b < s.end
    → column s.grid (slot_time s.axis a) ≡ column s.grid (slot_time s.axis b)
    → column s.grid (slot_time s.axis i) ≡ column s.grid (slot_time s.axis a)
between s a b i from low high to same =
    let first : InWindow s.grid (slot_time s.axis a) = s.shown.each a from (omega arith) in
    let here : InWindow s.grid (slot_time s.axis i) = s.shown.each i (omega arith) (omega arith) in
    let last : InWindow s.grid (slot_time s.axis b) = s.shown.each b (omega arith) to in
    omega (
      arith,
      same,
      column-rising s.grid (slot_time s.axis a) (slot_time s.axis i) first here (time_rises s.axis a i low),
      column-rising s.grid (slot_time s.axis i) (slot_time s.axis b) here last (time_rises s.axis i b high),
    )

pub inside : (s : Scan) (k : Key) (first end c d : ℕ) → 3 ≤ k.level → first ≡ first_slot k → end ≡ end_slot k → s.from ≤ first → end ≤ s.end
    → first < end
    → c ≡ column s.grid (slot_time s.axis first) → d ≡ column s.grid (slot_time s.axis (end - 1)) → d ≡ c → c < s.grid.w → IsInside s k c
inside s k first end c d level f e from to some here there same drawn = record {
  level = level;
  from = omega (arith, f, from);
  to = omega (arith, e, to);
  place = λ i low high.
      between s first (end - 1) i from (omega (arith, f, low)) (omega (arith, e, high)) (omega (arith, to, some)) (sym here ∙ sym same
      ∙ there) ∙ sym here;
  drawn = drawn;
}

-- the row of one slot
pub slot_shown : (r : Row) (v : ℤ) → r ≡ row_of r.column v → IsValue v → IsColumnRow r.column r
slot_shown r v is value =
    let least : r.least ≡ v = ap (λ q. q.least) is in
    let greatest : r.greatest ≡ v = ap (λ q. q.greatest) is in
    let first : r.first ≡ v = ap (λ q. q.first) is in
    let last : r.last ≡ v = ap (λ q. q.last) is in
    let P : ℤ → Type 0 = IsValue in
    record {
      column = refl;
      least = subst P (sym least) value;
      greatest = subst P (sym greatest) value;
      first_low = omega (arith, ints, least, first);
      first_high = omega (arith, ints, greatest, first);
      last_low = omega (arith, ints, least, last);
      last_high = omega (arith, ints, greatest, last);
    }
