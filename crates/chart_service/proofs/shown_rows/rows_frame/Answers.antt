use Rattle.std.proofs.Common.{ap, length, arith}
use Rattle.chart_service.proofs.Filtered.{few_rows}
use Rattle.chart_service.proofs.shown_rows.rows_frame.Goals as goal

pub overflow_cast-result : goal.overflow_cast-result
overflow_cast-result c =
    let spec = c.args.spec.now in
    omega (
      arith,
      ap length c.as_slice.ensures,
      few_rows spec.grid.w c.args.shown.rows c.requires.rising c.requires.rows,
      spec.grid.wide.most,
    )
