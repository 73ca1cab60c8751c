-- What is known of a page's keys from a tree's root down.
use Rattle.std.specs.Prelude.{ℕ, ◌≡◌, ◌*◌, ◌≤◌, List, Option, None, Some}
use Rattle.om3_coeff.specs.declared.key.Key.{Key}
use Rattle.om3_coeff.specs.declared.span.Span.{Span}
use Rattle.om3_coeff.specs.declared.coef.Coef.{Coef}
use Rattle.om3_coeff.specs.Coefs.{parts}
use Rattle.om3_coeff.specs.Known.{known}
use Rattle.node_page.specs.Fields.{coef_at}
use Rattle.node_page.specs.Places.{page_level, page_index, node_number}
use Rattle.page_spans.specs.Lists.{key_of_top}

-- The coefficients told of the page's keys are those that it holds, and its top is known with this span.
-- A tree has a root's span and its highest level.
pub record IsSeen (root : Option Span) (told : Key → Option Coef) (highest level index : ℕ) (page : List ℕ) (top : Span) : Type 0 where
  pub low : 1 ≤ level
  pub high : 7 * level ≤ highest
  pub told_is : (k : Key) → 1 ≤ k.level → page_level k.level ≡ level → page_index k ≡ index → told k ≡ Some (coef_at page (node_number k))
  pub seen : known root told highest (key_of_top level index) ≡ Some (Some top)

-- a key of the page is known with a span that the page's coefficient of it doesn't split
pub record HasBadKey (root : Option Span) (told : Key → Option Coef) (highest level index : ℕ) (page : List ℕ) : Type 0 where
  pub key : Key
  pub low : 1 ≤ key.level
  pub level_is : page_level key.level ≡ level
  pub index_is : page_index key ≡ index
  pub span : Span
  pub seen : known root told highest key ≡ Some (Some span)
  pub none : parts span (coef_at page (node_number key)) ≡ None
