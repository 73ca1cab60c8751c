-- When a page stands for the tree over a list of slots: the page of a page level, of the keys below one
-- key of level 7 * level.
use Rattle.std.specs.Prelude.{ℕ, ℤ, ◌≡◌, ◌+◌, ◌-◌, ◌*◌, ◌<◌, ◌≤◌, List, Option}
use Rattle.om3_coeff.specs.declared.key.Key.{Key}
use Rattle.om3_coeff.specs.declared.span.Span.{Span}
use Rattle.om3_coeff.specs.Spans.{span}
use Rattle.om3_coeff.specs.Coefs.{coef}
use Rattle.node_page.specs.Fields.{coef_at}
use Rattle.node_page.specs.Places.{page_level, page_index, node_number}

-- the key of the page's top
abbrev pub key_of_top : ℕ → ℕ → Key
key_of_top level index = record { level = 7 * level; index = index }

-- the key of a leaf, 0 to 127
abbrev pub key_of_leaf : ℕ → ℕ → ℕ → Key
key_of_leaf level index leaf = record { level = 7 * (level - 1); index = 128 * index + leaf }

-- the nodes hold the list's coefficients of their keys
abbrev pub AreNodesOf : List (Option ℤ) → ℕ → ℕ → List ℕ → Type 0
AreNodesOf list level index page = (k : Key) → 1 ≤ k.level → page_level k.level ≡ level → page_index k ≡ index
    → coef_at page (node_number k) ≡ coef list k

-- the leaves have the list's spans of their keys
abbrev pub AreLeavesOf : List (Option ℤ) → ℕ → ℕ → (ℕ → Option Span) → Type 0
AreLeavesOf list level index spans = (leaf : ℕ) → leaf < 128 → spans (127 + leaf) ≡ span list (key_of_leaf level index leaf)
