use Rattle.std.proofs.Common.{ℕ, ℤ, ◌≡◌, to_z, of_z, w64, sym, subst, rules, arith}
use Rattle.std.proofs.lemmas.Int.{to_z-of_z}
use Rattle.view_keys.specs.Flat.{IsFlat}
use Rattle.chart_client.proofs.Found.{range_at}
use Rattle.chart_client.proofs.search.is_settled.Goals as goal

pub returns : goal.returns
returns c =
    let low : to_z w64 (of_z w64 c.args.scope.range.lo) ≡ c.args.scope.range.lo = to_z-of_z w64 c.args.scope.range.lo (search rules) in
    let high : to_z w64 (of_z w64 c.args.scope.range.hi) ≡ c.args.scope.range.hi = to_z-of_z w64 c.args.scope.range.hi (search rules) in
    let P : ℤ → ℤ → Type 0 = λ lo hi. IsFlat lo hi c.h.result c.args.span in
    let Q : ℕ → Type 0 = λ h. IsFlat c.args.scope.range.lo c.args.scope.range.hi h c.args.span in (
      λ flat. (
        omega (arith, c.if-first-scope.false, c.first.ensures),
        omega (arith, c.if-scope-end.false, c.end.ensures),
        subst Q c.h.ensures.value
            (range_at P (to_z w64 (of_z w64 c.args.scope.range.lo))
            (to_z w64 (of_z w64 c.args.scope.range.hi)) c.args.scope.range.lo c.args.scope.range.hi low high
            (c.is_flat.ensures.0 flat)),
      ),
      λ settled.
          c.is_flat.ensures.1
          (range_at P c.args.scope.range.lo c.args.scope.range.hi (to_z w64 (of_z w64 c.args.scope.range.lo))
          (to_z w64 (of_z w64 c.args.scope.range.hi)) (sym low) (sym high)
          (subst Q (sym c.h.ensures.value) settled.2)),
    )
