use Rattle.std.proofs.Common.{ℕ, List, [], ◌∷◌, ◌++◌, take, sym, ap, ◌∙◌, arith}
use Rattle.std.proofs.lemmas.List.{take_more}
use Rattle.chart_frames.specs.declared.reports.ListedSeries.{ListedSeries}
use Rattle.chart_frames.specs.Spelled.{listed_before, series_before}
use Rattle.chart_frames.proofs.ReportReads.{series_before-push}
use Rattle.chart_frames.proofs.report_encoding.put_series.Goals as goal

pub loop-s-preserved : goal.loop-s-preserved
loop-s-preserved c =
    let series = c.args.series.now in
    let k = c.loop-s.s-index in
    let s = c.s-item.result in
    let out = c.args.out.now.items in
    λ tail. c.in_ok-put_listed.ensures tail ∙ c.loop-s.invariant (listed_before s tail)
    ∙ ap (λ (p : List ℕ). out ++ p) (sym (series_before-push (take k series) s tail))
    ∙ ap (λ (x : ListedSeries). out ++ series_before (take k series ++ x ∷ []) tail) c.s-item.is
    ∙ ap (λ (xs : List ListedSeries). out ++ series_before xs tail) (sym (take_more series k s (omega arith)))
