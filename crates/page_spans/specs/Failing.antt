-- A coefficient that doesn't fit the spans above it.
use Rattle.std.specs.Prelude.{ℕ, ◌≡◌, ◌<◌, Option, None, Some}
use Rattle.om3_coeff.specs.declared.span.Span.{Span}
use Rattle.om3_coeff.specs.declared.coef.Coef.{Coef}
use Rattle.om3_coeff.specs.Coefs.{parts}
use Rattle.page_spans.specs.Heaps.{IsSplit}

-- there is a span, and the coefficient splits it for no two halves
abbrev pub IsUnsplit : Option Span → Coef → Type 0
IsUnsplit None c = ⊥
IsUnsplit (Some s) c = parts s c ≡ None

-- The spans from the top down to this node are split by the coefficients, and the node's coefficient
-- splits its span for no two halves.
pub record IsFirstBad (spans : ℕ → Option Span) (coefs : ℕ → Coef) (node : ℕ) : Type 0 where
  pub within : node < 127
  pub above : (n : ℕ) → n < node → IsSplit spans coefs n
  pub none : IsUnsplit (spans node) (coefs node)
