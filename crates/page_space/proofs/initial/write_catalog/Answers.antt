use Rattle.page_space.specs.Layout.{catalog_page}
use Rattle.page_space.proofs.initial.write_catalog.Goals as goal

pub returns : goal.returns
unfolding catalog_page
returns c = c.start.ensures
