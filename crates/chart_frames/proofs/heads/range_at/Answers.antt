use Rattle.std.proofs.Common.{◌≡◌, refl, w64, to_z, of_z, ◌++◌, sym, ap, ◌∙◌, arith, rules}
use Rattle.std.proofs.lemmas.Int.{ints}
use Rattle.chart_frames.specs.Spelled.{signed_bytes, two_before}
use Rattle.chart_frames.proofs.heads.range_at.Goals as goal

pub returns-clause-takes : goal.returns-clause-takes
returns-clause-takes c =
    let same : to_z w64 (of_z w64 c.in_ok-lo.lo) ≡ c.in_ok-lo.lo = search rules in
    let same' : to_z w64 (of_z w64 c.in_ok-hi.hi) ≡ c.in_ok-hi.hi = search rules in (
      record {
        low = c.if-not-is_value.ensures.0 refl;
        high = c.if-not-is_value-2.ensures.0 refl;
        ordered = omega (arith, ints, c.if-hi-lo.false);
      },
      c.in_ok-lo.ensures.takes ∙ ap (λ tail. signed_bytes c.in_ok-lo.lo ++ tail) c.in_ok-hi.ensures.takes
          ∙ ap (λ z. two_before z c.in_ok-hi.hi c.in_ok-hi.after.now) (sym same)
          ∙ ap (λ z. two_before (to_z w64 (of_z w64 c.in_ok-lo.lo)) z c.in_ok-hi.after.now) (sym same'),
    )
