use Rattle.std.proofs.Common.{ℕ, List, ◌++◌, take, get_or, sym, ap, ◌∙◌, arith}
use Rattle.std.proofs.lemmas.List.{take_more}
use Rattle.chart_frames.specs.declared.reports.Run.{Run}
use Rattle.chart_frames.specs.Spelled.{run_before, runs_before}
use Rattle.chart_frames.proofs.ReportReads.{runs_before-push}
use Rattle.chart_frames.proofs.report_encoding.put_runs.Goals as goal

pub loop-run-preserved : goal.loop-run-preserved
loop-run-preserved c =
    let d : Run = record { first = 0; count = 0 } in
    let runs = c.args.runs.now in
    let k = c.loop-run.run-index in
    let r = get_or runs k d in
    let out = c.args.out.now.items in
    λ tail. c.in_ok-put_run.ensures tail ∙ c.loop-run.invariant (run_before r tail)
    ∙ ap (λ (p : List ℕ). out ++ p) (sym (runs_before-push (take k runs) r tail))
    ∙ ap (λ (xs : List Run). out ++ runs_before xs tail) (sym (take_more runs k d (omega arith)))
