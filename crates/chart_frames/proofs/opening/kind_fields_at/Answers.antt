use Rattle.chart_frames.proofs.Admits.{admits_view, admits_catalog}
use Rattle.chart_frames.proofs.opening.kind_fields_at.Goals as goal

pub view_at-requires : goal.view_at-requires
view_at-requires c = admits_view c.args.length c.args.kind c.requires c.in-5.is

pub catalog_at-requires : goal.catalog_at-requires
catalog_at-requires c = admits_catalog c.args.length c.args.kind c.requires c.in-8.is
