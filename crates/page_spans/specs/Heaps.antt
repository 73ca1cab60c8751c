-- The spans of a page, and how they agree with its coefficients. Place 0 is the page's top, the places
-- 2n + 1 and 2n + 2 are the halves of place n. The places 0 to 126 are the nodes, and 127 to 254 the
-- leaves: the tops of the children's pages, or the slots.
use Rattle.std.specs.Prelude.{ℕ, ◌≡◌, ◌≢◌, ◌+◌, ◌*◌, ◌<◌, ◌≤◌, ◌⊎◌, List, Option, None, Some, slice_index, slice_index_or}
use Rattle.om3_coeff.specs.declared.span.Span.{Span}
use Rattle.om3_coeff.specs.declared.coef.Coef.{Coef}
use Rattle.om3_coeff.specs.Spans.{IsProperIfAny, hull}
use Rattle.om3_coeff.specs.Coefs.{coef_of, parts}
use Rattle.node_page.specs.Fields.{flag_at, child_at}

-- the span at a place, if any
abbrev pub span_at : List (Option Span) → ℕ → Option Span
span_at spans n = slice_index_or spans n None

-- all spans are proper
abbrev pub AreProper : (ℕ → Option Span) → Type 0
AreProper spans = (n : ℕ) → n < 255 → IsProperIfAny (spans n)

-- the node's span is that of its halves together, and its coefficient is theirs
pub record IsJoined (spans : ℕ → Option Span) (coefs : ℕ → Coef) (n : ℕ) : Type 0 where
  pub span : spans n ≡ hull (spans (2 * n + 1)) (spans (2 * n + 2))
  pub coef : coefs n ≡ coef_of (spans (2 * n + 1)) (spans (2 * n + 2))

-- all nodes are
abbrev pub IsHeap : (ℕ → Option Span) → (ℕ → Coef) → Type 0
IsHeap spans coefs = (n : ℕ) → n < 127 → IsJoined spans coefs n

-- all nodes are, but for the one of which this place is a half
abbrev pub AllButAbove : (ℕ → Option Span) → (ℕ → Coef) → ℕ → Type 0
AllButAbove spans coefs place = (n : ℕ) → n < 127 → place ≢ 2 * n + 1 → place ≢ 2 * n + 2 → IsJoined spans coefs n

-- a coefficient splits a span into these halves; where there is no span there is none below
abbrev pub HasHalves : Option Span → Coef → Option Span → Option Span → Type 0
HasHalves None c left right = (left ≡ None) × (right ≡ None)
HasHalves (Some s) c left right = parts s c ≡ Some (left, right)

-- the node's span is split by its coefficient
abbrev pub IsSplit : (ℕ → Option Span) → (ℕ → Coef) → ℕ → Type 0
IsSplit spans coefs n = HasHalves (spans n) (coefs n) (spans (2 * n + 1)) (spans (2 * n + 2))

-- what a page holds beside its coefficients is the same
pub record IsKept (old new : List ℕ) : Type 0 where
  pub children : (c : ℕ) → c < 128 → child_at new c ≡ child_at old c
  pub spare : (b : ℕ) → 254 ≤ b → b < 256 → flag_at new b ≡ flag_at old b
  pub rest : (k : ℕ) → (k < 8) ⊎ (2072 ≤ k) → slice_index new k ≡ slice_index old k
