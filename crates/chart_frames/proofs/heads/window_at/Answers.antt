use Rattle.std.proofs.Common.{◌≡◌, refl, w64, to_z, of_z, ◌++◌, sym, ap, ◌∙◌, arith, rules}
use Rattle.std.proofs.lemmas.Int.{ints}
use Rattle.chart_frames.specs.Spelled.{signed_bytes, two_before}
use Rattle.chart_frames.proofs.heads.window_at.Goals as goal

pub returns-clause-takes : goal.returns-clause-takes
returns-clause-takes c =
    let same : to_z w64 (of_z w64 c.in_ok-t0.t0) ≡ c.in_ok-t0.t0 = search rules in
    let same' : to_z w64 (of_z w64 c.in_ok-t1.t1) ≡ c.in_ok-t1.t1 = search rules in (
      record {
        from = c.if-not-is_time.ensures.0 refl;
        to = c.if-not-is_time-2.ensures.0 refl;
        forward = omega (arith, ints, c.if-t1-t0.false);
      },
      c.in_ok-t0.ensures.takes ∙ ap (λ tail. signed_bytes c.in_ok-t0.t0 ++ tail) c.in_ok-t1.ensures.takes
          ∙ ap (λ z. two_before z c.in_ok-t1.t1 c.in_ok-t1.after.now) (sym same)
          ∙ ap (λ z. two_before (to_z w64 (of_z w64 c.in_ok-t0.t0)) z c.in_ok-t1.after.now) (sym same'),
    )
