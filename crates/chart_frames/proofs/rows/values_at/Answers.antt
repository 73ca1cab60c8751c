use Rattle.chart_frames.specs.Frames.{AreOrdered}
use Rattle.std.specs.Prelude.{◌≤ℤ◌}
use Rattle.std.proofs.Common.{◌≡◌, ℕ, ℤ, w64, to_z, of_z, List, ◌++◌, sym, ap, ◌∙◌, arith, subst}
use Rattle.whole_number.specs.Range.{IsValue}
use Rattle.chart_frames.specs.Spelled.{signed_bytes, two_before}
use Rattle.chart_frames.proofs.Meets.{round}
use Rattle.chart_frames.proofs.rows.values_at.Goals as goal

-- a value is the number of its 64 bits
same : (z : ℤ) → IsValue z → to_z w64 (of_z w64 z) ≡ z
same z is = round z (omega (arith, is))

-- four values stand before the rest
four_read : (first least greatest last first' least' greatest' last' : ℤ) (bytes one two three rest : List ℕ)
    → first' ≡ first → least' ≡ least → greatest' ≡ greatest → last' ≡ last
    → bytes ≡ signed_bytes first ++ one → one ≡ signed_bytes least ++ two → two ≡ signed_bytes greatest ++ three
    → three ≡ signed_bytes last ++ rest
    → bytes ≡ two_before first' least' (two_before greatest' last' rest)
four_read first least greatest last first' least' greatest' last' bytes one two three rest first_is least_is greatest_is last_is a b d e =
    a
    ∙ ap (λ tail. signed_bytes first ++ tail) (b ∙ ap (λ tail. signed_bytes least ++ tail) (d
    ∙ ap (λ tail. signed_bytes greatest ++ tail) e))
    ∙ ap (λ z. two_before z least (two_before greatest last rest)) (sym first_is)
    ∙ ap (λ z. two_before first' z (two_before greatest last rest)) (sym least_is)
    ∙ ap (λ z. two_before first' least' (two_before z last rest)) (sym greatest_is)
    ∙ ap (λ z. two_before first' least' (two_before greatest' z rest)) (sym last_is)

-- four values in their order, as the code holds them
ordered : (first least greatest last first' least' greatest' last' : ℤ) → first' ≡ first → least' ≡ least → greatest' ≡ greatest
    → last' ≡ last
    → least ≤ℤ first' → first' ≤ℤ greatest → least' ≤ℤ last → last ≤ℤ greatest' → AreOrdered first' least' greatest' last'
ordered first least greatest last first' least' greatest' last' first_is least_is greatest_is last_is a b d e =
    record {
      least_first = subst (λ z. z ≤ℤ first') (sym least_is) a;
      first_greatest = subst (λ z. first' ≤ℤ z) (sym greatest_is) b;
      least_last = subst (λ z. least' ≤ℤ z) (sym last_is) d;
      last_greatest = subst (λ z. z ≤ℤ greatest') (sym last_is) e;
    }

pub returns-clause-takes : goal.returns-clause-takes
returns-clause-takes c =
    let first = c.in_ok-first.ensures.takes in
    let least = c.in_ok-least.ensures.takes in
    let greatest = c.in_ok-greatest.ensures.takes in
    let last = c.in_ok-last.ensures.takes in
    four_read c.in_ok-first.first c.in_ok-least.least c.in_ok-greatest.greatest c.in_ok-last.last _ _ _ _
    c.args.bytes.now c.in_ok-first.rest.now c.in_ok-least.rest.now c.in_ok-greatest.rest.now c.in_ok-last.rest.now
    (same c.in_ok-first.first first.0) (same c.in_ok-least.least least.0) (same c.in_ok-greatest.greatest greatest.0)
    (same c.in_ok-last.last last.0)
    first.1 least.2 greatest.2 last.3

pub returns-clause-values : goal.returns-clause-values
returns-clause-values c = (
  subst IsValue (sym (same c.in_ok-first.first c.in_ok-first.ensures.takes.0)) c.in_ok-first.ensures.takes.0,
  subst IsValue (sym (same c.in_ok-least.least c.in_ok-least.ensures.takes.0)) c.in_ok-least.ensures.takes.0,
  subst IsValue (sym (same c.in_ok-greatest.greatest c.in_ok-greatest.ensures.takes.0)) c.in_ok-greatest.ensures.takes.0,
  subst IsValue (sym (same c.in_ok-last.last c.in_ok-last.ensures.takes.0)) c.in_ok-last.ensures.takes.0,
)

pub returns-clause-order : goal.returns-clause-order
returns-clause-order c =
    let first = same c.in_ok-first.first c.in_ok-first.ensures.takes.0 in
    let least = same c.in_ok-least.least c.in_ok-least.ensures.takes.0 in
    let greatest = same c.in_ok-greatest.greatest c.in_ok-greatest.ensures.takes.0 in
    let last = same c.in_ok-last.last c.in_ok-last.ensures.takes.0 in
    ordered c.in_ok-first.first c.in_ok-least.least c.in_ok-greatest.greatest c.in_ok-last.last _ _ _ _ first least greatest last
    c.in_ok-least.ensures.takes.1 c.in_ok-greatest.ensures.takes.1 c.in_ok-last.ensures.takes.1 c.in_ok-last.ensures.takes.2
