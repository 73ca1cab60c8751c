use Rattle.std.proofs.Common.{ℕ, List, sym, subst}
use Rattle.catalog_page.specs.Layout.{KeepsLayout}
use Rattle.catalog_page.proofs.Pages.{blank_keeps, no_series}
use Rattle.catalog_page.proofs.laws.blank_pages_have_no_series.Goals as goal

pub returns : goal.returns
returns c = λ page fresh whole. (
  no_series page fresh whole,
  λ same. subst (λ (l : List ℕ). KeepsLayout 0 fresh l) (sym same) (blank_keeps fresh),
)
