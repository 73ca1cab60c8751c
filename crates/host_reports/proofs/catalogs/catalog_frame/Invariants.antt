use Rattle.std.proofs.Common.{◌≡◌, map, take, length, All}
use Rattle.chart_frames.specs.Frames.{FitsListed}
use Rattle.series_store.specs.Shown as shown
use Rattle.host_reports.specs.Reports.{listed}
use Rattle.host_reports.proofs.catalogs.catalog_frame.Given as goal

abbrev pub invariant-loop-id : goal.invariant-loop-id
invariant-loop-id g l = shown.ForSoundBook l.store (λ total book. l.series.items ≡ map listed (take l.id book))
    × All FitsListed l.series.items × (length l.series.items ≡ l.id)
