-- What nodes over coefficients that were received mean.
use Rattle.std.specs.Prelude.{ℕ, ◌≡◌, ◌^◌, ◌≤◌, ◌&&◌, ◌==◌, if◌then◌else◌, List, [], ◌∷◌, Option, None, Some}
use Rattle.std.proofs.Common.{sym, subst}
use Rattle.om3_coeff.specs.declared.key.Key.{Key}
use Rattle.om3_coeff.specs.declared.span.Span.{Span}
use Rattle.om3_coeff.specs.declared.coef.Coef.{Coef}
use Rattle.om3_coeff.specs.declared.errors.NodeError.{NodeError}
use Rattle.om3_coeff.specs.declared.errors.NodeError.TheVariants.{DiskFault, Damaged, Missing, BadCoefficient}
use Rattle.om3_coeff.specs.Keys.{height}
use Rattle.om3_coeff.specs.Spans.{IsProperIfAny}
use Rattle.om3_coeff.specs.Coefs.{parts}
use Rattle.om3_coeff.specs.Known.{known}
use Rattle.om3_coeff.specs.View.{NodesView}

-- the coefficient of a key by a list of pairs: the first that has the key
abbrev pub told_by : List (Key × Coef) → Key → Option Coef
told_by [] k = None
told_by (pair ∷ pairs) k = if pair.0.level == k.level && pair.0.index == k.index then Some pair.1 else told_by pairs k

-- the key is seen with a span that its coefficient doesn't split
pub record IsUnfit (root : Option Span) (told : Key → Option Coef) (top : ℕ) (k : Key) : Type 0 where
  pub span : Span
  pub coef : Coef
  pub seen : known root told top k ≡ Some (Some span)
  pub held : told k ≡ Some coef
  pub splits_not : parts span coef ≡ None

-- what an ask may answer: that the key's coefficient isn't held, or doesn't split the key's span
abbrev pub IsHeldError : Option Span → (Key → Option Coef) → ℕ → NodeError → Type 0
IsHeldError root told top DiskFault = ⊥
IsHeldError root told top (Damaged page) = ⊥
IsHeldError root told top (Missing key) = told key ≡ None
IsHeldError root told top (BadCoefficient key) = IsUnfit root told top key

-- they tell what they hold; each ask is counted as a read
abbrev pub held_view : ℕ → Option Span → (Key → Option Coef) → Option Key → ℕ → NodesView
held_view slots root told asked asks = record {
  fit = (slots ≤ 2 ^ 35) × IsProperIfAny root;
  slots = slots;
  root = root;
  tells = Unit {0};
  told = told;
  asked = asked;
  reads = asks;
  faults = 0;
  bad = IsHeldError root told (height slots);
}

-- the errors that may come are those of what is told
same_error : (root other : Option Span) (told after : Key → Option Coef) (slots count : ℕ) (e : NodeError) → other ≡ root → after ≡ told
    → count ≡ slots
    → IsHeldError root told (height slots) e → IsHeldError other after (height count) e
same_error root other told after slots count e of_root of_told of_slots h =
    let P : Option Span → Type 0 = λ r. IsHeldError r told (height slots) e in
    let Q : (Key → Option Coef) → Type 0 = λ t. IsHeldError other t (height slots) e in
    let R : ℕ → Type 0 = λ n. IsHeldError other after (height n) e in
    subst R (sym of_slots) (subst Q (sym of_told) (subst P (sym of_root) h))
