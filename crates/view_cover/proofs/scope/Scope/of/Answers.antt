use Rattle.std.proofs.Common.{ℤ, ◌-◌, ◌≤ℤ◌, FitsSigned, to_z, of_z, w64, sym, subst, refl, rules, arith}
use Rattle.std.proofs.lemmas.Int.{to_z-of_z}
use Rattle.chart_grid.proofs.Slots.{window_start, window_stop}
use Rattle.view_cover.proofs.scope.Scope.of.Goals as goal

-- numbers that were read back from 64 bits are in the same order
order_back : (lo hi : ℤ) → FitsSigned w64 lo → FitsSigned w64 hi → lo ≤ℤ hi → to_z w64 (of_z w64 lo) ≤ℤ to_z w64 (of_z w64 hi)
order_back lo hi low high order =
    let P : ℤ → Type 0 = λ x. x ≤ℤ to_z w64 (of_z w64 hi) in
    let Q : ℤ → Type 0 = λ x. lo ≤ℤ x in
    subst P (sym (to_z-of_z w64 lo low)) (subst Q (sym (to_z-of_z w64 hi high)) order)

pub invariant_of-result-clause-range : goal.invariant_of-result-clause-range
invariant_of-result-clause-range c = order_back c.args.lo c.args.hi (search rules) (search rules) c.requires.range

pub invariant_of-result-clause-start : goal.invariant_of-result-clause-start
invariant_of-result-clause-start c =
    window_start c.args.axis c.args.grid 0 c.slot_range-from.result.0 refl
    (c.borders_part_columns.ensures.first c.args.grid) c.slot_range-from.ensures.from

pub invariant_of-result-clause-stop : goal.invariant_of-result-clause-stop
invariant_of-result-clause-stop c =
    window_stop c.args.axis c.args.grid (c.w.result - 1) c.slot_range-end.result.1 (omega (arith, c.w.ensures.value, c.args.grid.wide.some))
    (c.borders_part_columns.ensures.last c.args.grid) c.slot_range-end.ensures.to
