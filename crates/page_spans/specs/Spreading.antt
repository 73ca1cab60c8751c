-- What spans that are spread over a page's nodes say of a list, and of what is known of the keys.
use Rattle.std.specs.Prelude.{ℕ, ℤ, ◌≡◌, ◌<◌, ◌≤◌, ◌+◌, List, Option, Some, Result, OnOk, OnErr}
use Rattle.om3_coeff.specs.declared.key.Key.{Key}
use Rattle.om3_coeff.specs.declared.span.Span.{Span}
use Rattle.om3_coeff.specs.declared.coef.Coef.{Coef}
use Rattle.om3_coeff.specs.Known.{known}
use Rattle.om3_coeff.specs.Spans.{AreSlots, span}
use Rattle.page_spans.specs.declared.errors.BadNode.{BadNode}
use Rattle.page_spans.specs.Lists.{key_of_top, key_of_leaf, AreNodesOf, AreLeavesOf}
use Rattle.page_spans.specs.Seen.{IsSeen, HasBadKey}

-- Where the page has the nodes of a list and the top its span, the leaves have the list's spans.
abbrev pub SpreadsLists : List ℕ → Span → (ℕ → Option Span) → Type 0
SpreadsLists page top spans =
    (list : List (Option ℤ)) (level index : ℕ) → AreSlots list → 1 ≤ level → AreNodesOf list level index page
    → Some top ≡ span list (key_of_top level index) → AreLeavesOf list level index spans

-- Where what the page tells is seen from a root, the leaves' spans are known.
abbrev pub SpreadsSeen : List ℕ → Span → Result (Unit {0}) BadNode → (ℕ → Option Span) → Type 0
SpreadsSeen page top result spans =
    (root : Option Span) (told : Key → Option Coef) (highest level index : ℕ) → IsSeen root told highest level index page top
    → OnOk result ((leaf : ℕ) → leaf < 128 → known root told highest (key_of_leaf level index leaf) ≡ Some (spans (127 + leaf)))

-- There, a bad node is that of a known key.
abbrev pub BlamesSeen : List ℕ → Span → Result (Unit {0}) BadNode → Type 0
BlamesSeen page top result =
    (root : Option Span) (told : Key → Option Coef) (highest level index : ℕ) → IsSeen root told highest level index page top
    → OnErr result (HasBadKey root told highest level index page)
