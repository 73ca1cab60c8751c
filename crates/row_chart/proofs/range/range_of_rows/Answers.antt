use Rattle.std.proofs.Common.{ℤ, pos, ◌≤ℤ◌, List, refl, sym, subst, arith, ap, length}
use Rattle.std.proofs.lemmas.List.{take_all}
use Rattle.plain_chart.specs.declared.value_range.ValueRange.{ValueRange}
use Rattle.plain_chart.specs.Samples.{IsRange, values_of, sample_points}
use Rattle.whole_number.specs.Range.{IsValue}
use Rattle.m4_groups.specs.declared.row.Row.{Row}
use Rattle.row_chart.specs.Ranges.{SpansRows}
use Rattle.std.proofs.Common.{unwrap_or}
use Rattle.row_chart.proofs.Ranged.{range_from, range_sizes, range_rises, values-same}
use Rattle.row_chart.proofs.range.range_of_rows.Goals as goal

-- the range of all rows
whole : (c : goal.After-unwrap_or) → SpansRows c.loop-row.range c.args.rows.now
whole c =
    let L : List Row → Type 0 = λ rows. SpansRows c.loop-row.range rows in
    subst L (take_all c.loop-row.row-index c.args.rows.now (omega (arith, c.loop-row-test.false, ap length c.as_slice-row-items.ensures)))
    c.loop-row.invariant

pub returns-clause-range : goal.returns-clause-range
returns-clause-range c = λ grid samples own.
    let R : ValueRange → Type 0 = λ r. IsRange (values_of samples) r in
    let V : List ℤ → Type 0 = λ vs. IsRange vs (unwrap_or c.loop-row.range (record { lo = pos 0; hi = pos 0 })) in
    subst R (sym c.unwrap_or.ensures)
    (subst V (values-same samples) (range_from grid (sample_points samples) c.args.rows.now c.loop-row.range
    (record { lo = pos 0; hi = pos 0 }) refl refl own (whole c)))

pub returns-clause-order : goal.returns-clause-order
returns-clause-order c = λ w drawable.
    let R : ValueRange → Type 0 = λ r. r.lo ≤ℤ r.hi in
    subst R (sym c.unwrap_or.ensures) (range_rises w c.args.rows.now c.loop-row.range _ refl refl drawable (whole c))

pub returns-clause-sizes : goal.returns-clause-sizes
returns-clause-sizes c = λ w drawable.
    let R : ValueRange → Type 0 = λ r. IsValue r.lo × IsValue r.hi in
    subst R (sym c.unwrap_or.ensures) (range_sizes w c.args.rows.now c.loop-row.range _ refl refl drawable (whole c))
