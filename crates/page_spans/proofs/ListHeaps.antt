-- What a page's heap and a list have to do with each other, for a page of page level suc below.
use Rattle.std.proofs.Common.{ℕ, ℤ, suc, ◌≡◌, ◌+◌, ◌*◌, ◌<◌, List}
use Rattle.std.specs.Prelude.{Option}
use Rattle.om3_coeff.specs.declared.span.Span.{Span}
use Rattle.om3_coeff.specs.Spans.{span}
use Rattle.node_page.specs.Fields.{coef_at}
use Rattle.page_spans.specs.Heaps.{AreProper, IsHeap}
use Rattle.page_spans.specs.Lists.{key_of_top}

-- a heap of proper spans that are the list's at the top and at the leaves
pub record IsHeapOf (list : List (Option ℤ)) (below index : ℕ) (page : List ℕ) (spans : ℕ → Option Span) : Type 0 where
  pub heap : IsHeap spans (coef_at page)
  pub proper : AreProper spans
  pub top : spans 0 ≡ span list (key_of_top (suc below) index)
  pub leaves : (leaf : ℕ) → leaf < 128 → spans (127 + leaf) ≡ span list (record { level = 7 * below; index = 128 * index + leaf })
