use Rattle.std.proofs.Common.{◌≡◌, ◌≢◌, ℕ, ℤ, pos, false, ◌&&◌, ◌||◌, List, ◌++◌, sym, ap, ◌∙◌, subst, IsTrue}
use Rattle.om3_coeff.specs.declared.coef.Coef.{Coef}
use Rattle.chart_frames.specs.Format.{number_bytes}
use Rattle.chart_frames.specs.Frames.{IsCoef, flags_of}
use Rattle.whole_number.specs.Range.{IsTime}
use Rattle.chart_frames.specs.Spelled.{signed_bytes, two_before}
use Rattle.chart_frames.proofs.Meets.{round}
use Rattle.chart_frames.proofs.coefficients.coef_at.Goals as goal

-- the flags and two differences make a coefficient, and stand before the rest
coef_read : (flags : ℕ) (dmin dmax : ℤ) (coef : Coef) (bytes mid end rest : List ℕ)
    → bytes ≡ number_bytes 1 flags ++ mid
    → IsTime dmin → (flags ≢ 3 → dmin ≡ pos 0) → mid ≡ signed_bytes dmin ++ end
    → IsTime dmax → (flags ≢ 3 → dmax ≡ pos 0) → end ≡ signed_bytes dmax ++ rest
    → flags_of coef ≡ flags → IsTrue (coef.left || coef.right) → ((coef.left && coef.right) ≡ false → flags ≢ 3)
    → coef.dmin ≡ dmin → coef.dmax ≡ dmax
    → IsCoef coef × (bytes ≡ number_bytes 1 (flags_of coef) ++ two_before coef.dmin coef.dmax rest)
coef_read flags dmin dmax coef bytes mid end rest bytes_are min_time min_none mid_is max_time max_none end_is flags_are some single dmin_is
    dmax_is = (
      record {
        some = some;
        least = subst IsTime (sym dmin_is) min_time;
        greatest = subst IsTime (sym dmax_is) max_time;
        single_least = λ one. dmin_is ∙ min_none (single one);
        single_greatest = λ one. dmax_is ∙ max_none (single one);
      },
      bytes_are ∙ ap (λ tail. number_bytes 1 flags ++ tail) (mid_is ∙ ap (λ tail. signed_bytes dmin ++ tail) end_is)
          ∙ ap (λ n. number_bytes 1 n ++ two_before dmin dmax rest) (sym flags_are)
          ∙ ap (λ z. number_bytes 1 (flags_of coef) ++ two_before z dmax rest) (sym dmin_is)
          ∙ ap (λ z. number_bytes 1 (flags_of coef) ++ two_before coef.dmin z rest) (sym dmax_is),
    )

pub returns-clause-takes : goal.returns-clause-takes
returns-clause-takes c =
    let least = c.in_ok-dmin.ensures.takes in
    let greatest = c.in_ok-dmax.ensures.takes in
    coef_read c.in_ok-flags.flags c.in_ok-dmin.dmin c.in_ok-dmax.dmax c.coef_of.result c.args.bytes.now c.in_ok-flags.rest.now
    c.in_ok-dmin.rest.now c.in_ok-dmax.rest.now
    c.in_ok-flags.ensures.takes least.0 least.1 least.2 greatest.0 greatest.1 greatest.2
    c.coef_of.ensures.flags c.coef_of.ensures.some c.coef_of.ensures.both (c.coef_of.ensures.dmin
    ∙ round c.in_ok-dmin.dmin least.0) (c.coef_of.ensures.dmax ∙ round c.in_ok-dmax.dmax greatest.0)
