-- What nodes over a list of slots mean.
use Rattle.std.specs.Prelude.{ℤ, ◌≡◌, ◌^◌, ◌≤◌, List, length, Option, Some}
use Rattle.std.proofs.Common.{ap}
use Rattle.om3_coeff.specs.declared.key.Key.{Key}
use Rattle.om3_coeff.specs.Spans.{span_over}
use Rattle.om3_coeff.specs.Coefs.{coef}
use Rattle.om3_coeff.specs.View.{NodesView, StaysSame}

-- they tell the list's coefficients, read no block and meet no error
abbrev pub list_view : List (Option ℤ) → Option Key → NodesView
list_view list asked = record {
  fit = length list ≤ 2 ^ 35;
  slots = length list;
  root = span_over list 0 (length list);
  tells = Unit {0};
  told = λ k. Some (coef list k);
  asked = asked;
  reads = 0;
  faults = 0;
  bad = λ e. ⊥;
}

-- over one list they stay the same, whichever key was asked last
pub list_stays : (old new : List (Option ℤ)) (before now : Option Key) → new ≡ old → StaysSame (list_view old before) (list_view new now)
list_stays old new before now same = record {
  slots = ap length same;
  root = ap (λ list. span_over list 0 (length list)) same;
  tells = λ told. told;
  has_told = λ told. told;
  told = λ told. ap (λ list (k : Key). Some (coef list k)) same;
  bad = λ e none. none;
  was_bad = λ e none. none;
}
