use Rattle.std.proofs.Common.{ℕ, pos, List, ◌++◌, take, get_or, sym, ap, ◌∙◌, arith}
use Rattle.std.proofs.lemmas.List.{take_more}
use Rattle.m4_groups.specs.declared.row.Row.{Row}
use Rattle.chart_frames.specs.Spelled.{row_before, rows_all_before}
use Rattle.chart_frames.proofs.Items.{rows_all_before-push}
use Rattle.chart_frames.proofs.encoding.put_all_rows.Goals as goal

pub loop-row-preserved : goal.loop-row-preserved
loop-row-preserved c =
    let d : Row = record { column = 0; first = pos 0; least = pos 0; greatest = pos 0; last = pos 0 } in
    let rows = c.args.rows.now in
    let k = c.loop-row.row-index in
    let r = get_or rows k d in
    let out = c.args.out.now.items in
    λ tail. c.in_ok-put_row.ensures tail ∙ c.loop-row.invariant (row_before r tail)
    ∙ ap (λ (p : List ℕ). out ++ p) (sym (rows_all_before-push (take k rows) r tail))
    ∙ ap (λ (xs : List Row). out ++ rows_all_before xs tail) (sym (take_more rows k d (omega arith)))
