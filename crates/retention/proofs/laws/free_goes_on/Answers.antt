use Rattle.std.proofs.Common.{◌∙◌, ◌-◌, List, ◌∷◌, ap, sym}
use Rattle.std.proofs.lemmas.Bool.{le-leb, lt-leb}
use Rattle.series_book.specs.declared.one_series.Series.{Series}
use Rattle.series_book.specs.Pages.{pages_of}
use Rattle.retention.specs.declared.rule.Rule.TheVariants.{Free}
use Rattle.retention.specs.Sweeps.{clear_page, sweeps}
use Rattle.retention.proofs.FreeLemmas.{free_enough, free_next, free_none}
use Rattle.retention.proofs.LawLemmas.{behind_first}
use Rattle.retention.proofs.laws.free_goes_on.Goals as goal

pub returns-clause-enough : goal.returns-clause-enough
returns-clause-enough c = λ total pages book enough. free_enough total pages book (le-leb pages (total - pages_of book) enough)

pub returns-clause-nothing : goal.returns-clause-nothing
returns-clause-nothing c = free_none

pub returns-clause-next : goal.returns-clause-next
returns-clause-next c = λ total pages book found is few at.
    let first = free_next total pages book found is (lt-leb pages (total - pages_of book) few) at in
    first.first ∙ ap (λ (b : List Series). clear_page found ∷ sweeps total b (Free pages))
    (sym (behind_first total book (Free pages) (clear_page found) first))
