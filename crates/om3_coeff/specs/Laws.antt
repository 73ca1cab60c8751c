-- Laws of known spans.
use Rattle.std.specs.Prelude.{◌≡◌, ℤ, ◌<◌, List, length, Option, Some, IsSome}
use Rattle.om3_coeff.specs.declared.key.Key.{Key}
use Rattle.om3_coeff.specs.declared.span.Span.{Span}
use Rattle.om3_coeff.specs.declared.coef.Coef.{Coef}
use Rattle.om3_coeff.specs.Keys.{height, top_key, IsKey, IsNode, IsAtOrAbove}
use Rattle.om3_coeff.specs.Spans.{AreSlots, span}
use Rattle.om3_coeff.specs.Coefs.{coef}
use Rattle.om3_coeff.specs.Known.{known}

-- Where all above a key is told with the list's coefficients, the key's known span is the list's.
abbrev pub KnownSpansAreTheLists : Type 0
KnownSpansAreTheLists =
    (root : Option Span) (told : Key → Option Coef) (list : List (Option ℤ)) (k : Key)
    → AreSlots list → root ≡ span list (top_key (length list)) → IsKey (height (length list)) k
    → ((w : Key) → IsNode (height (length list)) w → k.level < w.level → IsAtOrAbove w k → IsSome (span list w)
    → told w ≡ Some (coef list w))
    → known root told (height (length list)) k ≡ Some (span list k)
