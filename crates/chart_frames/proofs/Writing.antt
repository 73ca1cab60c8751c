-- Bytes put behind others.
use Rattle.std.proofs.Common.{◌≡◌, ℕ, ℤ, List, ◌++◌, ap, ◌∙◌, append_assoc}
use Rattle.std.specs.Prelude.{FitsSigned}
use Rattle.std.specs.Int.{w64, cast_signed, cast_unsigned}
use Rattle.std.proofs.lemmas.Int.{to_z-of_z}
use Rattle.chart_frames.specs.Spelled.{signed_bytes, two_before}

pub step : (new old bytes tail : List ℕ) → new ≡ old ++ bytes → new ++ tail ≡ old ++ (bytes ++ tail)
step new old bytes tail e = ap (λ (p : List ℕ). p ++ tail) e ∙ append_assoc old bytes tail

-- a number as the code holds it
abbrev pub coded : ℤ → ℤ
coded z = cast_signed w64 (cast_unsigned w64 z)

pub signed_step : (new old : List ℕ) (z : ℤ) (tail : List ℕ) → FitsSigned w64 z → new ≡ old ++ signed_bytes (coded z)
    → new ++ tail ≡ old ++ (signed_bytes z ++ tail)
signed_step new old z tail f e = step new old (signed_bytes (coded z)) tail e
    ∙ ap (λ (y : ℤ). old ++ (signed_bytes y ++ tail)) (to_z-of_z w64 z f)

pub two_step : (new old : List ℕ) (a b : ℤ) (tail : List ℕ) → FitsSigned w64 a → FitsSigned w64 b
    → ((rest : List ℕ) → new ++ rest ≡ old ++ two_before (coded a) (coded b) rest)
    → new ++ tail ≡ old ++ two_before a b tail
two_step new old a b tail f g h =
    h tail ∙ ap (λ (y : ℤ). old ++ two_before y (coded b) tail) (to_z-of_z w64 a f)
    ∙ ap (λ (y : ℤ). old ++ two_before a y tail) (to_z-of_z w64 b g)
