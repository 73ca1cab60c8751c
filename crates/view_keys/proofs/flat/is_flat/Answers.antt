use Rattle.std.proofs.Common.{rules, ◌≡◌, ℕ, ℤ, IsTrue, nat_eq, FitsSigned, to_z, of_z, w64, sym, ap, ◌∙◌, arith}
use Rattle.std.specs.Int.{w128}
use Rattle.std.proofs.lemmas.Int.{to_z-of_z}
use Rattle.std.proofs.lemmas.Bool.Decides.{nat_tests}
use Rattle.chart_grid.specs.Projection.{height}
use Rattle.view_keys.proofs.flat.is_flat.Goals as goal

same : (m n : ℕ) → IsTrue (nat_eq m n) → m ≡ n
same m n h = grind (arith, nat_tests)

test : (m n : ℕ) → m ≡ n → IsTrue (nat_eq m n)
test m n h = grind (arith, nat_tests)

-- the height of numbers that were read back from 64 bits
abbrev back : ℤ → ℤ
back v = to_z w64 (of_z w64 v)

height_back : (v lo hi : ℤ) (h : ℕ) → FitsSigned w64 v → FitsSigned w64 lo → FitsSigned w64 hi
    → height (back v) (back lo) (back hi) h ≡ height v lo hi h
height_back v lo hi h fits low high =
    ap (λ x. height x (back lo) (back hi) h) (to_z-of_z w64 v fits)
    ∙ (ap (λ x. height v x (back hi) h) (to_z-of_z w64 lo low) ∙ ap (λ x. height v lo x h) (to_z-of_z w64 hi high))

pub returns : goal.returns
returns c =
    let lo : FitsSigned w64 c.args.lo = search rules in
    let hi : FitsSigned w64 c.args.hi = search rules in
    let min : FitsSigned w64 c.args.span.min = search rules in
    let max : FitsSigned w64 c.args.span.max = search rules in
    let low : c.height_of.result ≡ height c.args.span.min c.args.lo c.args.hi c.args.h =
    c.height_of.ensures.value ∙ height_back c.args.span.min c.args.lo c.args.hi c.args.h min lo hi in
    let high : c.height_of-2.result ≡ height c.args.span.max c.args.lo c.args.hi c.args.h =
    c.height_of-2.ensures.value ∙ height_back c.args.span.max c.args.lo c.args.hi c.args.h max lo hi in
    let a : FitsSigned w128 c.height_of.result = search rules in
    let b : FitsSigned w128 c.height_of-2.result = search rules in (
      λ equal.
          sym low
          ∙ (sym (to_z-of_z w128 c.height_of.result a)
          ∙ (ap (to_z w128) (same (of_z w128 c.height_of.result) (of_z w128 c.height_of-2.result) equal)
          ∙ (to_z-of_z w128 c.height_of-2.result b ∙ high))),
      λ flat.
          test (of_z w128 c.height_of.result) (of_z w128 c.height_of-2.result) (ap (of_z w128) (low ∙ (flat ∙ sym high))),
    )
