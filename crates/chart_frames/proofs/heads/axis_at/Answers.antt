use Rattle.std.proofs.Common.{◌≡◌, refl, w64, to_z, of_z, ◌++◌, sym, ap, ◌∙◌, arith, rules}
use Rattle.chart_frames.specs.Format.{number_bytes}
use Rattle.chart_frames.specs.Spelled.{signed_bytes}
use Rattle.chart_frames.proofs.heads.axis_at.Goals as goal

pub returns-clause-takes : goal.returns-clause-takes
returns-clause-takes c =
    let same : to_z w64 (of_z w64 c.in_ok-start.start) ≡ c.in_ok-start.start = search rules in
    let slots = c.in_ok-slots.ensures.takes in (
      record {
        first = c.if-not-is_value.ensures.0 refl;
        least = omega (arith, c.if-step-eq0.false, c.if-step-gt-GREATEST_STEP.false);
        most = omega (arith, c.if-step-eq0.false, c.if-step-gt-GREATEST_STEP.false);
        limit = slots.0;
        last = slots.1;
      },
      c.in_ok-start.ensures.takes
          ∙ ap (λ tail. signed_bytes c.in_ok-start.start ++ tail) (c.in_ok-step.ensures.takes
          ∙ ap (λ tail. number_bytes 4 c.in_ok-step.step ++ tail) slots.2)
          ∙ ap (λ z. signed_bytes z ++ (number_bytes 4 c.in_ok-step.step ++ (number_bytes 8 c.in_ok-slots.slots ++ c.in_ok-slots.end.now)))
          (sym same),
    )
