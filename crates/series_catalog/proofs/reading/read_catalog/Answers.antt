use Rattle.std.proofs.Common.{◌∙◌}
use Rattle.tree_walk.proofs.StepLemmas.{error_so}
use Rattle.series_catalog.proofs.reading.read_catalog.Goals as goal

pub returns-in_err-read_pages-clause-quiet_err : goal.returns-in_err-read_pages-clause-quiet_err
returns-in_err-read_pages-clause-quiet_err g c =
    error_so _ _ c.from_residual-in_err-read_pages.result c.from_residual-in_err-read_pages.ensures.1
    (λ e same other. c.in_err-read_pages.ensures.quiet_err (λ is. other (same ∙ is)))
